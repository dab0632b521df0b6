-- The weight of a table does not wrap, whatever the calls do to it.
use Rattle.std.proofs.Common.{◌≡◌, ℕ, ◌*◌, ◌<◌, ◌≤◌, List, get_or, set, Some, None, Option, Result, sym, refl, subst, arith}
use Rattle.std.proofs.lemmas.Grind.{common_steps}
use Rattle.lock.specs.declared.place.Place.TheVariants.{Inside}
use Rattle.lock.specs.declared.answer.Answer.{Answer}
use Rattle.lock.specs.declared.refusal.Refusal.{Refusal}
use Rattle.lock.specs.Calls.{Outcome}
use Rattle.book.specs.declared.call.Call.TheVariants.{Enter}
use Rattle.book.specs.declared.table.Slip.{Slip}
use Rattle.book.specs.declared.table.Table.{Table}
use Rattle.book.specs.Causes.{cause}
use Rattle.book.specs.Stock.{slip_at, with_slip, recorded, refused_or, entered, slip_weight, slip_grams, Safe}
use Rattle.book.proofs.Accepted.{enter_inside, enter_accepted}

-- a bound on every slip holds of one that is written, too
put_below : (f : Option Slip → ℕ) (b : ℕ) (x : Option Slip) → f x ≤ b → (xs : List (Option Slip)) (i : ℕ) → ((w : ℕ) → f (get_or xs w None) ≤ b) → (w : ℕ) → f (get_or (set xs i x) w None) ≤ b
put_below f b x le xs i h w = let k = h w in grind (arith, common_steps)

pub safe_put : (tb tb' : Table) (w : ℕ) (s : Option Slip) → tb' ≡ with_slip tb w s → slip_weight s ≤ tb.len * 1000000 → slip_grams s ≤ 1000000 → Safe tb → Safe tb'
safe_put tb tb' w s e a b k = rw e (record {
  within = k.within;
  light = k.light;
  noted = put_below slip_weight _ s a tb.slips w k.noted;
  lifted = put_below slip_grams _ s b tb.slips w k.lifted;
})

safe_recorded : (tb : Table) (w : ℕ) → tb.len < 256 → (o : Option Slip) → slip_at tb w ≡ o → Safe tb → Safe (recorded tb w o)
safe_recorded tb w lt None e k = k
safe_recorded tb w lt (Some s) e k =
    let a : s.weight ≤ tb.len * 1000000 = subst (λ o. slip_weight o ≤ tb.len * 1000000) e (k.noted w) in
    let b : s.grams ≤ 1000000 = subst (λ o. slip_grams o ≤ 1000000) e (k.lifted w) in
    record {
      within = omega arith;
      light = omega arith;
      noted = put_below slip_weight _ None (omega arith) tb.slips w (λ v. omega (arith, k.noted v));
      lifted = put_below slip_grams _ None (omega arith) tb.slips w k.lifted;
    }

safe_or : (e : Option Refusal) (tb : Table) (o : Outcome Table) → Safe tb → (e ≡ None → Safe o.0) → Safe (refused_or e tb o).0
safe_or None tb o k f = f refl
safe_or (Some x) tb o k f = k

pub safe_entered : (tb tb' : Table) (w : ℕ) (r : Result Answer Refusal) → (tb', r) ≡ entered Inside w tb → Safe tb → Safe tb'
safe_entered tb tb' w r e k =
    let P : Outcome Table → Type 0 = λ o. Safe o.0 in
    subst P (sym e) (safe_or (cause Enter w Inside (slip_at tb w) tb.len) tb _ k
    (λ none. safe_recorded tb w (enter_accepted (slip_at tb w) tb.len (enter_inside w Inside (slip_at tb w) tb.len none).2).3 (slip_at tb w) refl k))
