-- Every life keeps the law.
use Rattle.std.proofs.Common.{◌≡◌, ◌∷◌, ◌++◌, sym, subst}
use Rattle.lock.specs.declared.interface.Lock.{Ghosts}
use Rattle.lock.specs.Rules.{Sound}
use Rattle.book.specs.declared.Book.{Book}
use Rattle.book.specs.History.{History}
use Rattle.book.specs.Life.{Life}
use Rattle.book.specs.Law.{Law, Agrees}
use Rattle.book.proofs.Standing.{agree}
use Rattle.book.proofs.Alone.{counted}
use Rattle.book.proofs.Keeping.{holding}
use Rattle.book.proofs.Turns.{table, released, looked}
use Rattle.book.proofs.Soon.{earlier, soon}

module _ {S : Type 0} (lock : Ghosts S) (sound : (s : S) → Sound lock.BOUND (lock.places s) (lock.pair s)) where
  agrees : {h : History} {b : Book S} → Life lock h b → Agrees h (lock.places b.lock) b.table
  agrees life = let k = holding lock sound life in record { places = λ w. sym (agree lock life w); records = k.listed; weight = k.weighs; slips = k.slips }

  pub lawful : {h : History} {b : Book S} → Life lock h b → Law lock h b
  lawful {h} {b} life = record {
    table = λ later before t e. table lock sound t before (part later (t ∷ before) e).1;
    counts = λ later before e. counted lock sound (part later before e).1;
    released = λ later before t e. released lock sound t before (part later (t ∷ before) e).1;
    agrees = agrees life;
    moments = λ later before e. let k = part later before e in ∣ record { book = k.0; life = k.1; agrees = agrees k.1 } ∣₁;
    once = λ later before e. (holding lock sound (part later before e).1).once;
    looked = λ later before t e. looked lock sound t before (part later (t ∷ before) e).1;
    progress = λ later during before e free w waits none. soon lock sound before free w waits during none (part later (during ++ before) e).1;
  }
    where
      part : (later before : History) → h ≡ later ++ before → (x : Book S) × Life lock before x
      part later before e = let P : History → Type 0 = λ x. Life lock x b in earlier lock later before (subst P e life)
