-- Which line of a schedule comes next, and where its value leads.
use Rattle.std.specs.Prelude.{◌≡◌, ℕ, ◌≤◌, List, [], ◌∷◌, ◌++◌, length, codes, decimal}
use Rattle.book.specs.declared.call.Call.{Call}
use Rattle.book.specs.declared.call.Call.TheVariants.{Lock, Unlock, Step, Look, Enter}
use Rattle.book.specs.declared.call.Event.{Event}
use Rattle.script.specs.declared.kind.Kind.{Kind}
use Rattle.script.specs.Names.{kind_name, call_name}

abbrev pub Events : Type 0
Events = List Event

-- the line that comes next, with what was read before it: the kind, the events, the worker, the chest
pub data Stage : Type 0 where
  at_lock : Stage
  at_worker : Kind → Events → Stage
  at_call : Kind → Events → ℕ → Stage
  at_chest : Kind → Events → ℕ → Stage
  at_grams : Kind → Events → ℕ → ℕ → Stage

abbrev pub key_of : Stage → List ℕ
key_of at_lock = codes "lock"
key_of (at_worker k es) = codes "worker"
key_of (at_call k es w) = codes "call"
key_of (at_chest k es w) = codes "chest"
key_of (at_grams k es w c) = codes "grams"

abbrev pub with_call : Events → ℕ → Call → Events
with_call es w call = es ++ record { worker = w; call = call } ∷ []

-- a look has two lines more
abbrev pub after_call : Kind → Events → ℕ → Call → Stage
after_call k es w Lock = at_worker k (with_call es w Lock)
after_call k es w Unlock = at_worker k (with_call es w Unlock)
after_call k es w Step = at_worker k (with_call es w Step)
after_call k es w (Look chest grams) = at_chest k es w
after_call k es w Enter = at_worker k (with_call es w Enter)

-- the value is allowed on the line, and t comes after it
abbrev pub Leads : Stage → List ℕ → Stage → Type 0
Leads at_lock v t = (k : Kind) × (v ≡ kind_name k) × (t ≡ at_worker k [])
Leads (at_worker k es) v t = (w : ℕ) × (w ≤ 255) × (v ≡ decimal w) × (t ≡ at_call k es w)
Leads (at_call k es w) v t = (c : Call) × (v ≡ call_name c) × (t ≡ after_call k es w c)
Leads (at_chest k es w) v t = (c : ℕ) × (c ≤ 4294967295) × (v ≡ decimal c) × (t ≡ at_grams k es w c)
Leads (at_grams k es w c) v t = (g : ℕ) × (g ≤ 4294967295) × (v ≡ decimal g) × (t ≡ at_worker k (with_call es w (Look c g)))

abbrev pub Allowed : Stage → List ℕ → Type 0
Allowed s v = (t : Stage) × Leads s v t

-- another event would be one too many
abbrev pub Full : ℕ → Stage → Type 0
Full most at_lock = ⊥
Full most (at_worker k es) = most ≤ length es
Full most (at_call k es w) = ⊥
Full most (at_chest k es w) = ⊥
Full most (at_grams k es w c) = ⊥
