-- A run, call by call.
use Rattle.std.proofs.Common.{◌≡◌, ℕ, ◌+◌, ◌<◌, List, [], ◌∷◌, ◌++◌, map, reverse, length, get_or, take, Result, sym, refl, ap, ◌∙◌}
use Rattle.std.proofs.lemmas.List.{take_more, map_push, reverse-append}
use Rattle.lock.specs.declared.interface.Lock.{Ghosts}
use Rattle.lock.specs.declared.answer.Answer.{Answer}
use Rattle.lock.specs.declared.refusal.Refusal.{Refusal}
use Rattle.lock.specs.Rules.{Sound}
use Rattle.book.specs.declared.call.Event.{Event}
use Rattle.book.specs.declared.Book.{Book}
use Rattle.book.specs.History.{History, Turn, events_of, answers_of}
use Rattle.book.specs.Life.{Called, Life, then}
use Rattle.book.specs.Ran.{Ran}
use Rattle.book.proofs.Standing.{turn}
use Rattle.book.proofs.Lawful.{lawful}

-- a life so far
pub record Lived {S : Type 0} (lock : Ghosts S) (es : List Event) (rs : List (Result Answer Refusal)) (book : Book S) : Type 0 where
  pub history : History
  pub asked : events_of history ≡ es
  pub answered : answers_of history ≡ rs
  pub life : Life lock history book

-- one more turn, oldest first
turned : {A : Type 0} (f : Turn → A) (t : Turn) (h : History) → map f (reverse (t ∷ h)) ≡ map f (reverse h) ++ f t ∷ []
turned f t h = ap (map f) (reverse-append (t ∷ []) h) ∙ map_push f (reverse h) t

module _ {S : Type 0} (lock : Ghosts S) where
  pub lived_more : (es : List Event) (i : ℕ) (x : Event) (rs rs' : List (Result Answer Refusal)) (r : Result Answer Refusal) (b b' : Book S) → i < length es
      → Called lock (get_or es i x).call (get_or es i x).worker r b b' → rs' ≡ rs ++ r ∷ [] → Lived lock (take i es) rs b → Lived lock (take (i + 1) es) rs' b'
  lived_more es i x rs rs' r b b' lt k e was = record {
    history = turn (get_or es i x).worker (get_or es i x).call r (lock.pair b.lock) ∷ was.history;
    asked = turned _ _ was.history ∙ (ap (λ ys. ys ++ get_or es i x ∷ []) was.asked ∙ sym (take_more es i x lt));
    answered = turned _ _ was.history ∙ (ap (λ ys. ys ++ r ∷ []) was.answered ∙ sym e);
    life = then b' was.life refl k;
  }

  pub ran : ((s : S) → Sound lock.BOUND (lock.places s) (lock.pair s)) → (es es' : List Event) (rs : List (Result Answer Refusal)) (b : Book S) → es' ≡ es → Lived lock es' rs b → Ran lock es rs b
  ran sound es es' rs b e k = record { history = k.history; asked = k.asked ∙ e; answered = k.answered; life = k.life; law = lawful lock sound k.life }
