-- The line of the stages is kept where one worker moves to another stage.
use Rattle.std.proofs.Common.{◌≡◌, ℕ, ◌<◌, Bool, true, false, sym, refl, ap, ◌∙◌, subst}
use Rattle.std.proofs.lemmas.Bool.{false≢true}
use Rattle.lock.specs.Calls.{upd}
use Rattle.lock.proofs.Labelled.{upd_other}
use Rattle.queue.specs.declared.stage.Stage.{Stage}
use Rattle.queue.specs.declared.stage.Stage.TheVariants.{Away, Coming, Queued, Ready, Within, Leaving}
use Rattle.queue.specs.Line.{Line, empty, joined, handed}
use Rattle.queue.specs.Stages.{in_line, at_front, Staged}
use Rattle.queue.proofs.Written.{each, mapped}
use Rattle.queue.proofs.Ordering as ordering
use Rattle.queue.proofs.Ordering.{same_rank}

pub front_in_line : (x : Stage) → at_front x ≡ true → in_line x ≡ true
front_in_line Away e = e
front_in_line Coming e = e
front_in_line Queued e = refl
front_in_line Ready e = refl
front_in_line Within e = refl
front_in_line (Leaving d) e = refl

module _ {o : Line} {g : ℕ → Stage} (h : Staged o g) where
  -- one worker at most is at the front
  pub sole : (v w : ℕ) → at_front (g v) ≡ true → at_front (g w) ≡ true → v ≡ w
  sole v w a b = same_rank h.order v w (front_in_line (g v) a) (front_in_line (g w) b) (h.front v a ∙ sym (h.front w b))

  module _ (w : ℕ) (x : Stage) where
    -- who is in the line after the move
    lines : (b : Bool) → in_line x ≡ b → (v : ℕ) → in_line (upd g w x v) ≡ upd (λ u. in_line (g u)) w b v
    lines b e v = ap (λ f. f v) (mapped in_line g w x) ∙ ap (λ c. upd (λ u. in_line (g u)) w c v) e

    pub stays : in_line x ≡ in_line (g w) → (at_front x ≡ true → o.rank w ≡ o.first) → Staged o (upd g w x)
    stays same first = record {
      order = ordering.stays h.order _ (each (λ v y. in_line y ≡ in_line (g v)) g w x same (λ v ne. refl));
      front = each (λ v y. at_front y ≡ true → o.rank v ≡ o.first) g w x first (λ v ne. h.front v);
    }

    pub joins : w < 16 → in_line (g w) ≡ false → in_line x ≡ true → at_front x ≡ false → Staged (joined o w) (upd g w x)
    joins lt before after behind = record {
      order = ordering.joins h.order w _ lt before (lines true after);
      front = each (λ v y. at_front y ≡ true → upd o.rank w o.end v ≡ o.first) g w x
          (λ a. absurd (false≢true (sym behind ∙ a)))
          (λ v ne a. upd_other o.rank w v o.end ne ∙ h.front v a);
    }

    pub hands_on : at_front (g w) ≡ true → in_line x ≡ false → Staged (handed o) (upd g w x)
    hands_on ahead after = record {
      order = ordering.hands_on h.order w _ (front_in_line (g w) ahead) (h.front w ahead) (lines false after);
      front = λ v a. absurd (each (λ u y. at_front y ≡ true → ⊥) g w x
          (λ b. false≢true (sym after ∙ front_in_line x b))
          (λ u ne b. ne (sole u w b ahead)) v a);
    }

-- stages that are read off labels, of which one is written
pub over : {A : Type 0} (stage : A → Stage) (L : ℕ → A) (w : ℕ) (l : A) {o : Line} → Staged o (upd (λ v. stage (L v)) w (stage l)) → Staged o (λ v. stage (upd L w l v))
over stage L w l {o} = subst (Staged o) (sym (mapped stage L w l))

pub nobody : (g : ℕ → Stage) → ((v : ℕ) → g v ≡ Away) → Staged empty g
nobody g away = record {
  order = ordering.nobody _ (λ v. ap in_line (away v));
  front = λ v a. absurd (false≢true (sym (ap at_front (away v)) ∙ a));
}
