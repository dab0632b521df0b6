-- A text gives one thing, and no other.
use Rattle.std.proofs.Common.{◌≡◌, ℕ, ◌+◌, ◌≤◌, cond, eqb, List, [], ◌∷◌, get_or, Err, decimal, sym, refl, ap, ◌∙◌, subst, arith}
use Rattle.std.proofs.lemmas.Fmt.{decimal_injective}
use Rattle.book.specs.declared.call.Call.{Call}
use Rattle.book.specs.declared.call.Call.TheVariants.{Lock, Unlock, Step, Look, Enter}
use Rattle.book.specs.declared.call.Event.{Event}
use Rattle.text.specs.Lines.{Line, whole, cut}
use Rattle.text.specs.Wrong.{Amiss, other_key, bad_value}
use Rattle.text.specs.declared.fault.Fault.{Fault}
use Rattle.script.specs.declared.kind.Kind.{Kind}
use Rattle.script.specs.Names.{call_name}
use Rattle.script.specs.Stages.{Stage, at_lock, at_worker, at_call, at_chest, at_grams, with_call, after_call, Leads}
use Rattle.script.specs.Verdicts.{Verdict, AtEnd, AtLine, wrong, too_many, goes_on, Judged}
use Rattle.script.proofs.KindNames.{kind_once}

-- the third byte of a call's name tells them apart
abbrev call_by : ℕ → Call
call_by b = cond (eqb b 99) Lock (cond (eqb b 108) Unlock (cond (eqb b 101) Step (cond (eqb b 111) (Look 0 0) Enter)))

call_back : (k : Kind) (es : List Event) (w : ℕ) (c : Call) → after_call k es w (call_by (get_or (call_name c) 2 0)) ≡ after_call k es w c
call_back k es w Lock = refl
call_back k es w Unlock = refl
call_back k es w Step = refl
call_back k es w (Look chest grams) = refl
call_back k es w Enter = refl

call_once : (k : Kind) (es : List Event) (w : ℕ) (v : List ℕ) (c d : Call) → v ≡ call_name c → v ≡ call_name d → after_call k es w c ≡ after_call k es w d
call_once k es w v c d a b = sym (call_back k es w c) ∙ ap (λ l. after_call k es w (call_by (get_or l 2 0))) (sym a ∙ b) ∙ call_back k es w d

number_once : (v : List ℕ) (m n : ℕ) → m ≤ 4294967295 → n ≤ 4294967295 → v ≡ decimal m → v ≡ decimal n → m ≡ n
number_once v m n h l a b = decimal_injective m n (omega arith) (omega arith) (sym a ∙ b)

leads_once : (s : Stage) (v : List ℕ) (t u : Stage) → Leads s v t → Leads s v u → t ≡ u
leads_once at_lock v t u (j, a, e) (k, b, d) = e ∙ ap (λ i. at_worker i []) (kind_once v j k a b) ∙ sym d
leads_once (at_worker i es) v t u (m, h, a, e) (n, l, b, d) = e ∙ ap (at_call i es) (number_once v m n (omega arith) (omega arith) a b) ∙ sym d
leads_once (at_call i es w) v t u (x, a, e) (y, b, d) = e ∙ call_once i es w v x y a b ∙ sym d
leads_once (at_chest i es w) v t u (m, h, a, e) (n, l, b, d) = e ∙ ap (at_grams i es w) (number_once v m n h l a b) ∙ sym d
leads_once (at_grams i es w c) v t u (m, h, a, e) (n, l, b, d) = e ∙ ap (λ g. at_worker i (with_call es w (Look c g))) (number_once v m n h l a b) ∙ sym d

end_once : (s : Stage) (n : ℕ) (v u : Verdict) → AtEnd s n v → AtEnd s n u → v ≡ u
end_once at_lock n v u a b = a ∙ sym b
end_once (at_worker k es) n v u a b = a ∙ sym b
end_once (at_call k es w) n v u a b = a ∙ sym b
end_once (at_chest k es w) n v u a b = a ∙ sym b
end_once (at_grams k es w c) n v u a b = a ∙ sym b

amiss_once : {P : List ℕ → Type 0} (expected key value : List ℕ) (n : ℕ) (f g : Fault) → Amiss expected P key value n f → Amiss expected P key value n g → f ≡ g
amiss_once expected key value n f g (other_key a e) (other_key b d) = e ∙ sym d
amiss_once expected key value n f g (other_key a e) (bad_value k b d) = absurd (a k)
amiss_once expected key value n f g (bad_value k a e) (other_key b d) = absurd (b k)
amiss_once expected key value n f g (bad_value k a e) (bad_value l b d) = e ∙ sym d

amiss_not : {P : List ℕ → Type 0} (expected key value : List ℕ) (n : ℕ) (f : Fault) → Amiss expected P key value n f → key ≡ expected → P value → ⊥
amiss_not expected key value n f (other_key a e) k p = a k
amiss_not expected key value n f (bad_value l a e) k p = a p

line_once : (most : ℕ) (s : Stage) (n : ℕ) (key value : List ℕ) (On Off : Stage → Type 0) (v u : Verdict) → ((t : Stage) → On t → Off t → v ≡ u) → AtLine most s n key value On v → AtLine most s n key value Off u → v ≡ u
line_once most s n key value On Off v u go (wrong f a e) (wrong g b d) = e ∙ ap Err (amiss_once _ key value n f g a b) ∙ sym d
line_once most s n key value On Off v u go (wrong f a e) (too_many k l full d) = absurd (amiss_not _ key value n f a k l)
line_once most s n key value On Off v u go (wrong f a e) (goes_on k t l room j) = absurd (amiss_not _ key value n f a k (t, l))
line_once most s n key value On Off v u go (too_many k l full e) (wrong g b d) = absurd (amiss_not _ key value n g b k l)
line_once most s n key value On Off v u go (too_many k l full e) (too_many h m filled d) = e ∙ sym d
line_once most s n key value On Off v u go (too_many k l full e) (goes_on h t m room j) = absurd (room full)
line_once most s n key value On Off v u go (goes_on k t l room i) (wrong g b d) = absurd (amiss_not _ key value n g b k (t, l))
line_once most s n key value On Off v u go (goes_on k t l room i) (too_many h m full d) = absurd (room full)
line_once most s n key value On Off v u go (goes_on k t l room i) (goes_on h x m space j) = go x (subst On (leads_once s value t x l m) i) j

pub once : (most : ℕ) (s : Stage) (n : ℕ) (ls : List Line) (v u : Verdict) → Judged most s n ls v → Judged most s n ls u → v ≡ u
once most s n [] v u a b = end_once s n v u a b
once most s n (cut ∷ ls) v u a b = a ∙ sym b
once most s n (whole key value ∷ ls) v u a b = line_once most s n key value (λ t. Judged most t (n + 1) ls v) (λ t. Judged most t (n + 1) ls u) v u (λ t. once most t (n + 1) ls v u) a b
