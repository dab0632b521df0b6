use Rattle.std.proofs.Common.{◌≡◌, ℕ, List, codes, refl, rules}
use Rattle.std.proofs.lemmas.Result.{MatchResult-weaker}
use Rattle.text.proofs.Exits.{exit_err}
use Rattle.book.specs.declared.call.Call.{Call}
use Rattle.book.specs.declared.call.Call.TheVariants.{Lock, Unlock, Step, Look, Enter}
use Rattle.book.specs.declared.call.Event.{Event}
use Rattle.script.specs.declared.kind.Kind.{Kind}
use Rattle.script.specs.Names.{call_name, Bare}
use Rattle.script.specs.Stages.{at_call, at_chest, at_worker, with_call, after_call}
use Rattle.script.proofs.Steps.{passes, onward, stops, no_line, chosen}
use Rattle.script.proofs.event.read_call.Goals as goal

pub returns-in_err-name : goal.returns-in_err-name
returns-in_err-name c most k es w =
    rw (exit_err c.from_residual.result c.from_residual.ensures.1) (no_line most (at_call k es w) c.args.reader.now _ (λ e. refl) c.in_err-name.ensures.value)

pub returns-then-eq : goal.returns-then-eq
returns-then-eq c most k es w =
    let look : c.in_ok-name.name.now ≡ codes "look" = search rules in
    let on = passes most (at_call k es w) _ (at_chest k es w) _ _ c.in_ok-name.ensures.value (Look 0 0, look, refl) (λ full. full) in
    MatchResult-weaker c.read_look.result (c.read_look.ensures most k es w) (λ e p. onward most _ _ _ _ _ _ on p) (λ f j. stops most _ _ _ _ f on j)

none_named : (name : List ℕ) → ((c : Call) → Bare c → name ≡ call_name c → ⊥) → (name ≡ codes "look" → ⊥) → (c : Call) → name ≡ call_name c → ⊥
none_named name bare look Lock e = bare Lock tt e
none_named name bare look Unlock e = bare Unlock tt e
none_named name bare look Step e = bare Step tt e
none_named name bare look (Look chest grams) e = look e
none_named name bare look Enter e = bare Enter tt e

bare_after : (k : Kind) (es : List Event) (w : ℕ) (c : Call) → Bare c → at_worker k (with_call es w c) ≡ after_call k es w c
bare_after k es w Lock b = refl
bare_after k es w Unlock b = refl
bare_after k es w Step b = refl
bare_after k es w (Look chest grams) b = absurd b
bare_after k es w Enter b = refl

pub returns : goal.returns
returns c most k es w =
    let name = c.in_ok-name.name.now in
    let look : name ≡ codes "look" → ⊥ = search rules in
    chosen most (at_call k es w) _ _ _ _ c.bare_call.result c.ok_or.result (λ x. at_worker k (with_call es w x)) ((x : Call) → Bare x → name ≡ call_name x → ⊥) (λ x. Bare x × (name ≡ call_name x)) c.in_ok-name.ensures.value c.line-line.ensures c.ok_or.ensures.value c.bare_call.ensures
    (λ none a. none_named _ none look a.1.0 a.1.1)
    (λ x e. (x, e.1, bare_after k es w x e.0))
    (λ full. full)
