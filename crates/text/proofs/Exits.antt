-- What the exit of a `?` returns.
use Rattle.std.proofs.Common.{◌≡◌, Ok, Err, Result, ap}
use Rattle.std.specs.Result.{IsErrAnd}

pub exit_err : {T E : Type 0} {e : E} (r : Result T E) → IsErrAnd r (λ y. y ≡ e) → r ≡ Err e
exit_err (Ok x) h = absurd h
exit_err (Err y) h = ap Err h
