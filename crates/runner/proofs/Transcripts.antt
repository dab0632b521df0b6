-- What is written is the transcript of the text.
use Rattle.std.proofs.Common.{◌≡◌, ℕ, ◌≤◌, Bool, true, false, cond, leb, List, ◌++◌, length, drop, Ok, Err, Result, IfOk, sym, refl, ap, subst, inl, inr, arith, length-append}
use mathlib.Core.Logic.{∥∥₁_elim}
use native.Mathlib.Bridge.{le_prop}
use Rattle.list.specs.declared.memory.Memory.{Memory}
use Rattle.list.specs.declared.memory.Memory.TheVariants.{TooShort}
use Rattle.lock.specs.declared.answer.Answer.{Answer}
use Rattle.lock.specs.declared.refusal.Refusal.{Refusal}
use Rattle.book.specs.declared.call.Event.{Event}
use Rattle.text.specs.declared.fault.Fault.{Fault}
use Rattle.print.specs.Overwrite.{Overwrites}
use Rattle.script.specs.declared.kind.Kind.{Kind}
use Rattle.script.specs.Schedule.{Gives}
use Rattle.transcript.specs.declared.state.Ending.{Ending}
use Rattle.transcript.specs.Transcribed.{run_text, fault_text}
use Rattle.runner.specs.Ended.{EndedBy}
use Rattle.runner.specs.Transcribed.{Performed, Transcribes, Wrote}

module _ (r : Result ℕ Memory) (before after : List ℕ) where
  pub performed : (k : Kind) (es : List Event) (items slice : List (Result Answer Refusal)) (e : Ending) → slice ≡ items → EndedBy k es items e
      → Overwrites (run_text slice e) before r after → Wrote (Performed k es) r before after
  performed k es items slice e same ended written = record {
    bytes = run_text slice e;
    right = record { answers = items; ending = e; ended = ended; text = ap (λ x. run_text x e) same };
    written = written;
  }

  pub accepted : (text : List ℕ) (room : ℕ) (k : Kind) (items slice : List Event) → room ≡ 1024 → slice ≡ items → Gives room text (Ok (k, items)) → Wrote (Performed k slice) r before after → Wrote (Transcribes text) r before after
  accepted text room k items slice full same gives p = record {
    bytes = p.bytes;
    right = inr (k, slice, subst (λ es. Gives 1024 text (Ok (k, es))) (sym same) (subst (λ n. Gives n text (Ok (k, items))) full gives), p.right);
    written = p.written;
  }

  pub turned_down : (text : List ℕ) (room : ℕ) (f : Fault) → room ≡ 1024 → Gives room text (Err f) → Overwrites (fault_text f) before r after → Wrote (Transcribes text) r before after
  turned_down text room f full gives written = record {
    bytes = fault_text f;
    right = inl (f, subst (λ n. Gives n text (Err f)) full gives, refl);
    written = written;
  }

written_within : (n : ℕ) (bytes before after : List ℕ) (b : Bool) → Ok n ≡ cond {A = Result ℕ Memory} b (Ok (length bytes)) (Err TooShort) → after ≡ cond b (bytes ++ drop (length bytes) before) before → n ≤ length after
written_within n bytes before after true e m = let k : n ≡ length bytes = cc in omega (arith, k, ap length m, length-append bytes (drop (length bytes) before))
written_within n bytes before after false e m = let z : ◌≡◌ {A = ℕ} 0 1 = cc in absurd (omega arith)

-- the length that is answered is within the memory
pub fits : (P : List ℕ → Type 0) (r : Result ℕ Memory) (before after : List ℕ) → ∥ Wrote P r before after ∥₁ → IfOk r (λ n. n ≤ length after)
fits P (Ok n) before after w = ∥∥₁_elim w le_prop (λ x. written_within n x.bytes before after (leb (length x.bytes) (length before)) x.written.value x.written.memory)
fits P (Err e) before after w = tt
