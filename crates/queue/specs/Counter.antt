-- A counter of 32 bits, which wraps to 0.
use Rattle.std.specs.Prelude.{ℕ, ◌+◌, ◌%◌, ◌^◌}

abbrev pub more : ℕ → ℕ
more n = (n + 1) % 2 ^ 32
