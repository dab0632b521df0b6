use Rattle.std.proofs.Common.{List, [], ◌∷◌, refl}
use Rattle.book.specs.declared.call.Call.TheVariants.{Lock, Step, Look}
use Rattle.book.specs.History.{Turn}
use Rattle.book.specs.Life.{Life, then}
use Rattle.book.proofs.Standing.{turn}
use Rattle.book_tests.proofs.host.one_chest.Goals as goal

pub returns : goal.returns
returns g c =
    let pair = g.L.Lock.pair in
    let w = c.args.w in
    let history : List Turn =
    turn w (Look c.args.chest c.args.grams) c.look-looked.result (pair c.step-stepped.new.self.lock)
    ∷ (turn w Step c.step-stepped.result (pair c.lock-locked.new.self.lock)
    ∷ (turn w Lock c.lock-locked.result (pair c.new-book.result.lock) ∷ [])) in
    let life : Life g.L.Lock history c.look-looked.new.self =
    then c.look-looked.new.self (then c.step-stepped.new.self (then c.lock-locked.new.self c.new-book.ensures refl c.lock-locked.ensures) refl c.step-stepped.ensures) refl c.look-looked.ensures in
    ∣ record { history = history; asked = refl; answered = refl; life = life; law = c.keeps_law.ensures history life } ∣₁
