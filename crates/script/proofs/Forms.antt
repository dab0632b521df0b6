-- The texts that are accepted are the written ones.
use Rattle.std.proofs.Common.{◌≡◌, ℕ, ◌+◌, ◌<◌, ◌≤◌, true, false, eqb, List, [], ◌∷◌, ◌++◌, length, Ok, codes, decimal, sym, refl, ap, ◌∙◌, subst, ⊎_elim, append_assoc, append-nil, arith}
use Rattle.std.specs.List.{flat_map}
use Rattle.std.specs.Str.Parse.{AllDigits}
use Rattle.std.proofs.lemmas.Fmt.{decimal_nonempty, decimal_is_IsNumeral}
use Rattle.std.proofs.lemmas.List.{flat_map_more, length_push}
use Rattle.std.proofs.lemmas.Str.Parse.{digit_from_value}
use Rattle.std.proofs.lemmas.Bool.{ne_eqb, cond-false, cases_lt}
use Rattle.book.specs.declared.call.Call.{Call}
use Rattle.book.specs.declared.call.Call.TheVariants.{Lock, Unlock, Step, Look, Enter}
use Rattle.book.specs.declared.call.Event.{Event}
use Rattle.text.specs.Cuts.{has}
use Rattle.text.specs.Lines.{Line, whole, cut, lines, line_text}
use Rattle.text.proofs.Forms.{text_of, Valued, text_back, lines_front}
use Rattle.text.proofs.First.{lines_end}
use Rattle.script.specs.declared.kind.Kind.{Kind}
use Rattle.script.specs.Names.{kind_name, call_name}
use Rattle.script.specs.Written.{call_text, event_text, schedule_text}
use Rattle.script.specs.Stages.{Stage, at_lock, at_worker, at_call, at_chest, at_grams, Events, key_of, with_call, after_call, Leads, Full}
use Rattle.script.specs.Verdicts.{Verdict, AtEnd, AtLine, wrong, too_many, goes_on, Judged}
use Rattle.script.specs.Schedule.{CallFits, EventsFit}
use Rattle.script.proofs.KindNames.{kind_some, kind_line}

pub same_pair : (k : Kind) (es : Events) (j : Kind) (fs : Events) → ◌≡◌ {A = Verdict} (Ok (k, es)) (Ok (j, fs)) → ◌≡◌ {A = Kind × Events} (k, es) (j, fs)
same_pair k es j fs e = cc e

-- ## What was read is what is written

-- the text of what was read so far
abbrev sofar : Stage → List ℕ
sofar at_lock = []
sofar (at_worker k es) = schedule_text k es
sofar (at_call k es w) = schedule_text k es ++ line_text (codes "worker") (decimal w)
sofar (at_chest k es w) = (schedule_text k es ++ line_text (codes "worker") (decimal w)) ++ line_text (codes "call") (codes "look")
sofar (at_grams k es w c) = ((schedule_text k es ++ line_text (codes "worker") (decimal w)) ++ line_text (codes "call") (codes "look")) ++ line_text (codes "chest") (decimal c)

call_more : (k : Kind) (es : Events) (w : ℕ) (call : Call) → (schedule_text k es ++ line_text (codes "worker") (decimal w)) ++ call_text call ≡ schedule_text k (with_call es w call)
call_more k es w call =
    append_assoc (schedule_text k es) (line_text (codes "worker") (decimal w)) (call_text call) ∙
    flat_map_more event_text (line_text (codes "lock") (kind_name k)) es (record { worker = w; call = call })

name_more : (k : Kind) (es : Events) (w : ℕ) (c : Call) → sofar (at_call k es w) ++ line_text (codes "call") (call_name c) ≡ sofar (after_call k es w c)
name_more k es w Lock = call_more k es w Lock
name_more k es w Unlock = call_more k es w Unlock
name_more k es w Step = call_more k es w Step
name_more k es w (Look chest grams) = refl
name_more k es w Enter = call_more k es w Enter

leads_more : (s : Stage) (v : List ℕ) (t : Stage) → Leads s v t → sofar s ++ line_text (key_of s) v ≡ sofar t
leads_more at_lock v t (k, a, e) = ap (line_text (codes "lock")) a ∙ sym (append-nil (line_text (codes "lock") (kind_name k))) ∙ ap sofar (sym e)
leads_more (at_worker k es) v t (w, h, a, e) = ap (λ l. schedule_text k es ++ line_text (codes "worker") l) a ∙ ap sofar (sym e)
leads_more (at_call k es w) v t (c, a, e) = ap (λ l. sofar (at_call k es w) ++ line_text (codes "call") l) a ∙ name_more k es w c ∙ ap sofar (sym e)
leads_more (at_chest k es w) v t (c, h, a, e) = ap (λ l. sofar (at_chest k es w) ++ line_text (codes "chest") l) a ∙ ap sofar (sym e)
leads_more (at_grams k es w c) v t (g, h, a, e) =
    ap (λ l. sofar (at_grams k es w c) ++ line_text (codes "grams") l) a ∙
    append_assoc (sofar (at_chest k es w)) (line_text (codes "chest") (decimal c)) (line_text (codes "grams") (decimal g)) ∙
    append_assoc (sofar (at_call k es w)) (line_text (codes "call") (codes "look")) (line_text (codes "chest") (decimal c) ++ line_text (codes "grams") (decimal g)) ∙
    call_more k es w (Look c g) ∙ ap sofar (sym e)

-- an allowed value is not empty
call_some : (c : Call) → 0 < length (call_name c)
call_some Lock = omega arith
call_some Unlock = omega arith
call_some Step = omega arith
call_some (Look chest grams) = omega arith
call_some Enter = omega arith

leads_some : (s : Stage) (v : List ℕ) (t : Stage) → Leads s v t → 0 < length v
leads_some at_lock v t (k, a, e) = omega (arith, ap length a, kind_some k)
leads_some (at_worker k es) v t (w, h, a, e) = omega (arith, ap length a, decimal_nonempty w (omega arith))
leads_some (at_call k es w) v t (c, a, e) = omega (arith, ap length a, call_some c)
leads_some (at_chest k es w) v t (c, h, a, e) = omega (arith, ap length a, decimal_nonempty c (omega arith))
leads_some (at_grams k es w c) v t (g, h, a, e) = omega (arith, ap length a, decimal_nonempty g (omega arith))

end_form : (s : Stage) (n : ℕ) (k : Kind) (es : Events) → AtEnd s n (Ok (k, es)) → sofar s ≡ schedule_text k es
end_form at_lock n k es e = cc e
end_form (at_worker j fs) n k es e = ap (λ x. schedule_text x.0 x.1) (sym (same_pair k es j fs e))
end_form (at_call j fs w) n k es e = cc e
end_form (at_chest j fs w) n k es e = cc e
end_form (at_grams j fs w c) n k es e = cc e

line_form : (most : ℕ) (s : Stage) (n : ℕ) (key value : List ℕ) (ls : List Line) (k : Kind) (es : Events) (On : Stage → Type 0) → ((t : Stage) → On t → Valued ls × (sofar t ++ flat_map text_of ls ≡ schedule_text k es)) → AtLine most s n key value On (Ok (k, es)) → ((0 < length value) × Valued ls) × (sofar s ++ (line_text key value ++ flat_map text_of ls) ≡ schedule_text k es)
line_form most s n key value ls k es On go (wrong f a e) = cc e
line_form most s n key value ls k es On go (too_many a l r e) = cc e
line_form most s n key value ls k es On go (goes_on a t l r i) =
    let rest = go t i in
    ((leads_some s value t l, rest.0), sym (append_assoc (sofar s) (line_text key value) (flat_map text_of ls)) ∙ ap (λ x. x ++ flat_map text_of ls) (ap (λ y. sofar s ++ line_text y value) a ∙ leads_more s value t l) ∙ rest.1)

accepted_form : (most : ℕ) (s : Stage) (n : ℕ) (ls : List Line) (k : Kind) (es : Events) → Judged most s n ls (Ok (k, es)) → Valued ls × (sofar s ++ flat_map text_of ls ≡ schedule_text k es)
accepted_form most s n [] k es j = (tt, append-nil (sofar s) ∙ end_form s n k es j)
accepted_form most s n (cut ∷ ls) k es j = cc j
accepted_form most s n (whole key value ∷ ls) k es j = line_form most s n key value ls k es (λ t. Judged most t (n + 1) ls (Ok (k, es))) (λ t. accepted_form most t (n + 1) ls k es) j

pub text_form : (most : ℕ) (text : List ℕ) (k : Kind) (es : Events) → Judged most at_lock 1 (lines text) (Ok (k, es)) → text ≡ schedule_text k es
text_form most text k es j =
    let form = accepted_form most at_lock 1 (lines text) k es j in
    text_back text form.0 ∙ form.1

-- ## What was read is within the limits

abbrev pub Within : ℕ → Kind → Events → Type 0
Within most k es = (length es ≤ most) × EventsFit es

abbrev Good : ℕ → Stage → Type 0
Good most at_lock = Unit {0}
Good most (at_worker k es) = Within most k es
Good most (at_call k es w) = (length es < most) × EventsFit es × (w ≤ 255)
Good most (at_chest k es w) = (length es < most) × EventsFit es × (w ≤ 255)
Good most (at_grams k es w c) = (length es < most) × EventsFit es × (w ≤ 255) × (c ≤ 4294967295)

fit_more : (es : Events) (e : Event) → EventsFit es → e.worker ≤ 255 → CallFits e.call → EventsFit (es ++ e ∷ [])
fit_more [] e f w c = (w, c, tt)
fit_more (x ∷ es) e f w c = (f.0, f.1, fit_more es e f.2 w c)

good_with : (most : ℕ) (k : Kind) (es : Events) (w : ℕ) (call : Call) → length es < most → EventsFit es → w ≤ 255 → CallFits call → Within most k (with_call es w call)
good_with most k es w call h f l c = (omega (arith, length_push es (record { worker = w; call = call })), fit_more es (record { worker = w; call = call }) f l c)

good_call : (most : ℕ) (k : Kind) (es : Events) (w : ℕ) (c : Call) → Good most (at_call k es w) → Good most (after_call k es w c)
good_call most k es w Lock (h, f, l) = good_with most k es w Lock h f l tt
good_call most k es w Unlock (h, f, l) = good_with most k es w Unlock h f l tt
good_call most k es w Step (h, f, l) = good_with most k es w Step h f l tt
good_call most k es w (Look chest grams) g = g
good_call most k es w Enter (h, f, l) = good_with most k es w Enter h f l tt

good_leads : (most : ℕ) (s : Stage) (v : List ℕ) (t : Stage) → Good most s → Leads s v t → (Full most s → ⊥) → Good most t
good_leads most at_lock v t g (k, a, e) room = subst (Good most) (sym e) (omega arith, tt)
good_leads most (at_worker k es) v t (n, f) (w, h, a, e) room = subst (Good most) (sym e) (⊎_elim (λ lt. lt) (λ le. absurd (room le)) (cases_lt (length es) most), f, h)
good_leads most (at_call k es w) v t g (c, a, e) room = subst (Good most) (sym e) (good_call most k es w c g)
good_leads most (at_chest k es w) v t (n, f, l) (c, h, a, e) room = subst (Good most) (sym e) (n, f, l, h)
good_leads most (at_grams k es w c) v t (n, f, l, m) (x, h, a, e) room = subst (Good most) (sym e) (good_with most k es w (Look c x) n f l (m, h))

good_end : (most : ℕ) (s : Stage) (n : ℕ) (k : Kind) (es : Events) → Good most s → AtEnd s n (Ok (k, es)) → Within most k es
good_end most at_lock n k es g e = cc e
good_end most (at_worker j fs) n k es g e =
    subst (λ x. Within most x.0 x.1) (sym (same_pair k es j fs e)) g
good_end most (at_call j fs w) n k es g e = cc e
good_end most (at_chest j fs w) n k es g e = cc e
good_end most (at_grams j fs w c) n k es g e = cc e

line_within : (most : ℕ) (s : Stage) (n : ℕ) (key value : List ℕ) (k : Kind) (es : Events) (On : Stage → Type 0) → Good most s → ((t : Stage) → Good most t → On t → Within most k es) → AtLine most s n key value On (Ok (k, es)) → Within most k es
line_within most s n key value k es On g go (wrong f a e) = cc e
line_within most s n key value k es On g go (too_many a l r e) = cc e
line_within most s n key value k es On g go (goes_on a t l r i) = go t (good_leads most s value t g l r) i

accepted_within : (most : ℕ) (s : Stage) (n : ℕ) (ls : List Line) (k : Kind) (es : Events) → Good most s → Judged most s n ls (Ok (k, es)) → Within most k es
accepted_within most s n [] k es g j = good_end most s n k es g j
accepted_within most s n (cut ∷ ls) k es g j = cc j
accepted_within most s n (whole key value ∷ ls) k es g j = line_within most s n key value k es (λ t. Judged most t (n + 1) ls (Ok (k, es))) g (λ t h. accepted_within most t (n + 1) ls k es h) j

pub within : (most : ℕ) (text : List ℕ) (k : Kind) (es : Events) → Judged most at_lock 1 (lines text) (Ok (k, es)) → Within most k es
within most text k es j = accepted_within most at_lock 1 (lines text) k es tt j

-- ## What is written is read

digits_line : (ds : List ℕ) → AllDigits 10 ds → has 10 ds ≡ false
digits_line [] d = refl
digits_line (c ∷ cs) d = cond-false (eqb c 10) true (has 10 cs) (ne_eqb c 10 (λ e. omega (arith, digit_from_value c d.0))) ∙ digits_line cs d.1

number_line : (n : ℕ) → n ≤ 4294967295 → has 10 (decimal n) ≡ false
number_line n h = digits_line (decimal n) (decimal_is_IsNumeral n (omega arith)).0.1

key_sign : (s : Stage) → has 61 (key_of s) ≡ false
key_sign at_lock = refl
key_sign (at_worker k es) = refl
key_sign (at_call k es w) = refl
key_sign (at_chest k es w) = refl
key_sign (at_grams k es w c) = refl

key_line : (s : Stage) → has 10 (key_of s) ≡ false
key_line at_lock = refl
key_line (at_worker k es) = refl
key_line (at_call k es w) = refl
key_line (at_chest k es w) = refl
key_line (at_grams k es w c) = refl

-- one line as it should be
one : (most : ℕ) (s : Stage) (n : ℕ) (v rest : List ℕ) (t : Stage) (k : Kind) (es : Events) → has 10 v ≡ false → Leads s v t → (Full most s → ⊥) → Judged most t (n + 1) (lines rest) (Ok (k, es)) → Judged most s n (lines (line_text (key_of s) v ++ rest)) (Ok (k, es))
one most s n v rest t k es unbroken l room j = subst (λ ls. Judged most s n ls (Ok (k, es))) (sym (lines_front (key_of s) v rest (key_sign s) (key_line s) unbroken)) (goes_on refl t l room j)

call_reads : (most : ℕ) (k : Kind) (es : Events) (w n : ℕ) (call : Call) (rest : List ℕ) (all : Events) → CallFits call → ((m : ℕ) → Judged most (at_worker k (with_call es w call)) m (lines rest) (Ok (k, all))) → Judged most (at_call k es w) n (lines (call_text call ++ rest)) (Ok (k, all))
call_reads most k es w n Lock rest all f j = one most (at_call k es w) n (codes "lock") rest _ k all refl (Lock, refl, refl) (λ x. x) (j (n + 1))
call_reads most k es w n Unlock rest all f j = one most (at_call k es w) n (codes "unlock") rest _ k all refl (Unlock, refl, refl) (λ x. x) (j (n + 1))
call_reads most k es w n Step rest all f j = one most (at_call k es w) n (codes "step") rest _ k all refl (Step, refl, refl) (λ x. x) (j (n + 1))
call_reads most k es w n Enter rest all f j = one most (at_call k es w) n (codes "enter") rest _ k all refl (Enter, refl, refl) (λ x. x) (j (n + 1))
call_reads most k es w n (Look c g) rest all f j =
    let chest = line_text (codes "chest") (decimal c) in
    let grams = line_text (codes "grams") (decimal g) in
    subst (λ l. Judged most (at_call k es w) n (lines l) (Ok (k, all))) (sym (append_assoc (line_text (codes "call") (codes "look")) (chest ++ grams) rest ∙ ap (λ l. line_text (codes "call") (codes "look") ++ l) (append_assoc chest grams rest)))
    (one most (at_call k es w) n (codes "look") (chest ++ (grams ++ rest)) (at_chest k es w) k all refl (Look c g, refl, refl) (λ x. x)
    (one most (at_chest k es w) (n + 1) (decimal c) (grams ++ rest) (at_grams k es w c) k all (number_line c f.0) (c, f.0, refl, refl) (λ x. x)
    (one most (at_grams k es w c) (n + 1 + 1) (decimal g) rest (at_worker k (with_call es w (Look c g))) k all (number_line g f.1) (g, f.1, refl, refl) (λ x. x) (j (n + 1 + 1 + 1)))))

events_read : (most : ℕ) (k : Kind) (done es : Events) (n : ℕ) → length done + length es ≤ most → EventsFit es → Judged most (at_worker k done) n (lines (flat_map event_text es)) (Ok (k, done ++ es))
events_read most k done [] n h f = subst (λ ls. Judged most (at_worker k done) n ls (Ok (k, done ++ []))) (sym (lines_end [] refl)) (ap (λ l. Ok (k, l)) (append-nil done))
events_read most k done (e ∷ es) n h f =
    let worker = line_text (codes "worker") (decimal e.worker) in
    let rest = flat_map event_text es in
    subst (λ l. Judged most (at_worker k done) n (lines l) (Ok (k, done ++ e ∷ es))) (sym (append_assoc worker (call_text e.call) rest))
    (one most (at_worker k done) n (decimal e.worker) (call_text e.call ++ rest) (at_call k done e.worker) k (done ++ e ∷ es) (number_line e.worker (omega (arith, f.0))) (e.worker, f.0, refl, refl) (λ full. omega arith)
    (call_reads most k done e.worker (n + 1) e.call rest (done ++ e ∷ es) f.1 (λ m. subst (λ l. Judged most (at_worker k (done ++ e ∷ [])) m (lines rest) (Ok (k, l))) (append_assoc done (e ∷ []) es) (events_read most k (done ++ e ∷ []) es m (omega (arith, length_push done e)) f.2))))

pub written_read : (most : ℕ) (text : List ℕ) (k : Kind) (es : Events) → text ≡ schedule_text k es → Within most k es → Judged most at_lock 1 (lines text) (Ok (k, es))
written_read most text k es form (few, fits) =
    subst (λ l. Judged most at_lock 1 (lines l) (Ok (k, es))) (sym form)
    (one most at_lock 1 (kind_name k) (flat_map event_text es) (at_worker k []) k es (kind_line k) (k, refl, refl) (λ x. x) (events_read most k [] es (1 + 1) (omega arith) fits))
