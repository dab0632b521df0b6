-- A table is its values, and what is lent from it comes back into its place.
use Rattle.std.proofs.Common.{◌≡◌, ℕ, ◌<◌, ◌≤◌, ◌⊎◌, length, get_or, sym, subst, inl}
use mathlib.Core.HLevel.{is_prop→PathP}
use native.Mathlib.Nat.{ℕ_set}
use base.Fml.{GName}
use Rattle.std.proofs.lemmas.List.{set_past}
use Rattle.lock.specs.Calls.{upd}
use Rattle.lock.proofs.Labelled.{read_set}
use Rattle.rows.specs.declared.table.Rows.{Rows}
use Rattle.rows.specs.With.{with}

pub same_rows : {T : Type 0} {N : ℕ} (t u : Rows T N) → t.items ≡ u.items → t ≡ u
same_rows {T} {N} t u e = λ i. record { items = e i; whole = is_prop→PathP (λ j. length (e j) ≡ N) (λ j. ℕ_set _ _) t.whole u.whole i }

pub lent : {T : Type 0} {N : ℕ} (γ : GName) (f g : T → Rows T N) → ((x : T) → (f x).items ≡ (g x).items) → ◌≡◌ {A = (GName × (T → Rows T N)) ⊎ Rows T N} (inl (γ, f)) (inl (γ, g))
lent γ f g e = λ i. inl (γ, λ x. same_rows (f x) (g x) (e x) i)

-- what is read after a change
pub read_with : {T : Type 0} {N : ℕ} (t : Rows T N) (w : ℕ) (x d : T) → w < N → (λ v. get_or (with t w x).items v d) ≡ upd (λ v. get_or t.items v d) w x
unfolding with
read_with {T} {N} t w x d lt = read_set t.items w x d (subst (λ n. w < n) (sym t.whole) lt)

-- there is nothing to change past the end
pub with_past : {T : Type 0} {N : ℕ} (t : Rows T N) (i : ℕ) (x : T) → N ≤ i → t ≡ with t i x
unfolding with
with_past {T} {N} t i x l = same_rows t (with t i x) (sym (set_past t.items i x (subst (λ n. n ≤ i) (sym t.whole) l)))
