use Rattle.std.proofs.Common.{refl}
use Rattle.text.proofs.Exits.{exit_err}
use Rattle.script.specs.Stages.{at_chest, at_grams}
use Rattle.script.proofs.Steps.{passes, onward, stops, no_number, chest_read}
use Rattle.script.proofs.event.read_look.Goals as goal

pub returns-in_err-chest : goal.returns-in_err-chest
returns-in_err-chest c most k es w =
    rw (exit_err c.from_residual.result c.from_residual.ensures.1) (no_number most (at_chest k es w) c.args.reader.now _ 4294967295 (λ e. refl) (λ v a. (a.1.0, a.1.1, a.1.2)) c.in_err-chest.ensures.value)

pub returns-in_err-grams : goal.returns-in_err-grams
returns-in_err-grams c most k es w =
    let n = c.in_ok-chest.ensures.value in
    let s = at_grams k es w c.in_ok-chest.chest in
    rw (exit_err c.from_residual-in_err-grams.result c.from_residual-in_err-grams.ensures.1) (stops most (at_chest k es w) c.args.reader.now s c.number.new.self _ (chest_read most k es w _ _ c.in_ok-chest.chest n.0 n.1)
    (no_number most s c.number.new.self _ 4294967295 (λ e. refl) (λ v a. (a.1.0, a.1.1, a.1.2)) c.in_err-grams.ensures.value))

pub returns : goal.returns
returns c most k es w =
    let n = c.in_ok-chest.ensures.value in
    let m = c.in_ok-grams.ensures.value in
    let s = at_grams k es w c.in_ok-chest.chest in
    onward most (at_chest k es w) c.args.reader.now s c.number.new.self _ c.number-2.new.self (chest_read most k es w _ _ c.in_ok-chest.chest n.0 n.1)
    (passes most s c.number.new.self _ c.number-2.new.self _ m.1 (c.in_ok-grams.grams, m.0, refl, refl) (λ full. full))
