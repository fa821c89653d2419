-- What calls give, and by which refusals a call as a value is refused. Nothing is assumed.
use Rattle.std.proofs.Common.{◌≡◌, ◌↔◌, ℕ, ◌+◌, Bool, true, false, true≢false, nat_lt, List, [], ◌∷◌, ◌++◌, length, take, drop, Some, Option, unwrap_or, Ok, Err, Result, refl, sym, ap, subst, ◌∙◌, arith}
use Rattle.std.proofs.Math.Seq.{drop-append_seam, take-append_seam}
use Rattle.listing.specs.declared.program.Program.{Program}
use Rattle.listing.specs.declared.refusal.Reason.TheVariants.{BufferTooShort}
use Rattle.listing.specs.declared.refusal.Refusal.{Refusal}
use Rattle.listing.specs.Reading.{told}
use Rattle.machines.specs.Laws.{Lawful}
use Rattle.machines.specs.Machines.{Meaning}
use Rattle.machines.specs.Places.{has, removing}
use Rattle.machines.specs.Unbuffered.{unbuffered}
use Rattle.search.specs.Answers.{Breaks}
use Rattle.search.specs.Enough.{enough, fits, rows_lent}
use Rattle.job.specs.declared.call.Answer.TheVariants as answer
use Rattle.job.specs.declared.call.Call.TheVariants as call
use Rattle.job.specs.declared.solution.Solution.{Solution}
use Rattle.job.specs.Answers.{Verdict, plain_verdict, read_answer, test_verdict, show_verdict, bar_answer, free_answer, solve_answer, report_answer, report_of, others}
use Rattle.job.specs.Checks.{Checks, report_checks, set_of, unless_refused}
use Rattle.job.specs.Gives.{CallsLeave, CallsRefused, Prints, Runs, Writes}
use Rattle.job.specs.Lent.{kept_text, run_left, text_left, verdict_answer}
use Rattle.search.specs.Refusals.{ByLowest}
use Rattle.job.specs.Refusals.{HasNumber}
use Rattle.job.specs.States.{Held}
use Rattle.job.specs.Text.{line_of, placed, report}
use Rattle.job.proofs.Judging.{granted}
use Rattle.job.proofs.Leaving.{never_enough}
use Rattle.job.proofs.Listed.{has_these}
use Rattle.job.proofs.Ordering.{in_order}
use Rattle.job.proofs.Readings.{read_ordered}

-- a text in front of a buffer
placed_first : (text out : List ℕ) → placed out 0 text ≡ text ++ drop (length text) out
placed_first text out = let same : 0 + length text ≡ length text = omega arith in ap (λ k. text ++ drop k out) same

in_front : (text out : List ℕ) (r : Result ℕ Refusal) → ((n : ℕ) → r ≡ Ok n → n ≡ length text) → Writes text out r (text_left r text out)
in_front text out (Ok m) number = record {
  number = number;
  front = λ n e. ap (λ k. take k (placed out 0 text)) (number n e) ∙ (ap (take (length text)) (placed_first text out) ∙ take-append_seam text (drop (length text) out));
  past = λ n e. ap (λ k. drop k (placed out 0 text)) (number n e) ∙ (ap (drop (length text)) (placed_first text out)
      ∙ (drop-append_seam text (drop (length text) out) ∙ ap (λ k. drop k out) (sym (number n e))));
  refused = λ e no. let none : ⊥ = cc in absurd none;
}
in_front text out (Err w) number = record {
  number = number;
  front = λ n e. let no : ⊥ = cc in absurd no;
  past = λ n e. let no : ⊥ = cc in absurd no;
  refused = λ e is. refl;
}

-- what is granted is the value that was given
given : {X : Type 0} (cs : Checks) (x y : X) → unless_refused cs x ≡ Ok y → y ≡ x
given [] x y e = cc
given ((why, true) ∷ cs) x y e = let no : ⊥ = cc in absurd no
given ((why, false) ∷ cs) x y e = given cs x y e

report_printed : (h : Held) (k : Solution) (out : List ℕ) → h.kept ≡ Some k
    → Writes (report h.program k) out (report_answer (Some h) (length out)) (text_left (report_answer (Some h) (length out)) (report_of h.program h.kept) out)
report_printed h k out kept =
    let r = report_answer (Some h) (length out) in
    subst (λ text. Writes text out r (text_left r (report_of h.program h.kept) out)) (ap (report_of h.program) kept)
    (in_front (report_of h.program h.kept) out r (λ n e. given (report_checks (length out) h) (length (report_of h.program h.kept)) n e))

pub prints : Prints
prints = record {
  report = report_printed;
  none = λ s out e is. ap (λ r. text_left r (kept_text s) out) is;
  line = λ e out. in_front (line_of e) out (unless_refused ((BufferTooShort, nat_lt (length out) 512) ∷ []) (length (line_of e)))
      (λ n is. given ((BufferTooShort, nat_lt (length out) 512) ∷ []) (length (line_of e)) n is);
}

-- the length of a run is answered only where a run is
by_run : (v : Verdict) (ns : List ℕ) (n : ℕ) → verdict_answer v ns ≡ Ok (Some n) → (v ≡ Ok false) × (n ≡ length ns)
by_run (Ok true) ns n e = let no : ⊥ = cc in absurd no
by_run (Ok false) ns n e = let same : n ≡ length ns = cc in (refl, same)
by_run (Err w) ns n e = let no : ⊥ = cc in absurd no

in_run_list : (v : Verdict) (ns old : List ℕ) (n : ℕ) → v ≡ Ok false → n ≡ length ns → take n (run_left v ns old) ≡ ns
in_run_list v ns old n is long =
    ap (λ x. take n (run_left x ns old)) is ∙ (ap (λ k. take k (ns ++ drop (length ns) old)) long ∙ take-append_seam ns (drop (length ns) old))

by_shown : (v : Verdict) (long n : ℕ) → ((b : Bool) → v ≡ Ok b → b ≡ false) → told (λ _. long) v ≡ Ok n → (v ≡ Ok false) × (n ≡ long)
by_shown (Ok b) long n never e = let same : n ≡ long = cc in (ap Ok (never b refl), same)
by_shown (Err w) long n never e = let no : ⊥ = cc in absurd no

module _ {S : Type 0} (M : Program → Meaning S) where
  pub runs : (h : Held) → Runs M h
  runs h = record {
    test = λ qs old free n run e.
        let rows = rows_lent old.rows old.notes in
        let long = length old.run in
        let v = test_verdict M (Some h) qs rows long in
        let f = by_run v free.run n e in
        let b : Breaks h.program (M h.program) rows (unwrap_or (set_of h.program qs) 0) free.run = run f.0 in
        let g = granted (set_of h.program qs) (nat_lt long rows) (fits (M h.program) rows) (enough h.program (M h.program) rows) false f.0 in
        record {
          steps = free.run;
          fault = b.fault;
          keeps = λ q crossed listed. true≢false (sym ((has_these h.program qs g.0 g.1 q).1 listed) ∙ (ap (λ o. has (unwrap_or o 0) q) (sym g.1) ∙ b.keeps q crossed));
          once = b.once;
          long = f.1;
          written = in_run_list v free.run old.run n f.0 f.1;
        };
    show = λ k q old free n kept run e.
        let rows = rows_lent old.rows old.notes in
        let v = show_verdict M (Some h) q rows (length old.run) in
        let f = by_shown v (length free.run) n (never_enough M (Some h) q rows (length old.run)) e in
        let b : Breaks h.program (M h.program) rows (removing k.places.mask q) free.run = subst (λ o. Breaks h.program (M h.program) rows (others o q) free.run) kept (run f.0) in
        record { steps = free.run; fault = b.fault; keeps = b.keeps; once = b.once; long = f.1; written = in_run_list v free.run old.run n f.0 f.1 };
    plain = λ old free n run e.
        let v = plain_verdict (Some h) (rows_lent old.rows old.notes) (length old.run) in
        let f = by_run v free.run n e in
        let b : Breaks h.program (unbuffered h.program) (rows_lent old.rows old.notes) 0 free.run = run f.0 in
        record {
          steps = free.run;
          fault = b.fault;
          keeps = tt;
          once = b.once;
          long = f.1;
          written = in_run_list v free.run old.run n f.0 f.1;
        };
  }

-- two answers are refused alike
abbrev Alike : {X Y : Type 0} → Result X Refusal → Result Y Refusal → Type 0
Alike (Ok x) (Ok y) = Unit {0}
Alike (Err e) (Err d) = e ≡ d
Alike _ _ = ⊥

alike_told : {X Y : Type 0} (f : X → Y) (r : Result X Refusal) → Alike r (told f r)
alike_told f (Ok x) = tt
alike_told f (Err e) = refl

alike_verdict : {Y : Type 0} (f : Option ℕ → Y) (v : Verdict) (ns : List ℕ) → Alike v (told f (verdict_answer v ns))
alike_verdict f (Ok true) ns = tt
alike_verdict f (Ok false) ns = tt
alike_verdict f (Err e) ns = refl

alike_shown : {Y : Type 0} (f : ℕ → Y) (v : Verdict) (n : ℕ) → Alike v (told f (told (λ _. n) v))
alike_shown f (Ok b) n = tt
alike_shown f (Err e) n = refl

-- and so by the same rules
carried : {X Y : Type 0} {A : ℕ → Type 0} (r : Result X Refusal) (t : Result Y Refusal) → Alike r t → ByLowest HasNumber A r → ByLowest HasNumber A t
carried (Ok x) (Ok y) same l = record {
  refused = λ n. (λ f. let told = f.answered in let no : ⊥ = cc in absurd no, λ a. let f = (l.refused n).1 a in let told = f.answered in let no : ⊥ = cc in absurd no);
  granted = (λ g. (l.granted).0 (x, refl), λ none. (y, refl));
}
carried (Err e) (Err d) same l = record {
  refused = λ n. (
    λ f. let told = f.answered in let is : e ≡ f.refusal = cc in (l.refused n).0 (record { refusal = f.refusal; answered = ap Err is; number = f.number }),
    λ a. let f = (l.refused n).1 a in let told = f.answered in let is : d ≡ f.refusal = cc in record { refusal = f.refusal; answered = ap Err is; number = f.number },
  );
  granted = (λ g. let told = g.1 in let no : ⊥ = cc in absurd no, λ none. let g = (l.granted).1 none in let told = g.1 in let no : ⊥ = cc in absurd no);
}
carried (Ok x) (Err d) same l = absurd same
carried (Err e) (Ok y) same l = absurd same

told_refused : {X Y : Type 0} (f : X → Y) (r : Result X Refusal) (e : Refusal) → (told f r ≡ Err e) ↔ (r ≡ Err e)
told_refused f (Ok x) e = (λ h. let no : ⊥ = cc in absurd no, λ h. let no : ⊥ = cc in absurd no)
told_refused f (Err w) e = (λ h. let same : w ≡ e = cc in ap Err same, λ h. let same : w ≡ e = cc in ap Err same)

module _ {S : Type 0} (M : Program → Meaning S) (lawful : (p : Program) → Lawful p (M p)) where
  pub calls_refused : CallsRefused M
  calls_refused s (call.Read text) l free = λ e.
      let one = told_refused answer.Places (read_answer text.now) e in
      let two = (read_ordered text.now).refused e in
      (λ h. two.0 (one.0 h), λ w. one.1 (two.1 w))
  calls_refused s (call.Bar q) l free = carried (bar_answer s q) _ (alike_told (λ _. answer.Barred) (bar_answer s q)) ((in_order M lawful s).bar q)
  calls_refused s (call.Free q) l free = carried (free_answer s q) _ (alike_told (λ _. answer.Freed) (free_answer s q)) ((in_order M lawful s).free q)
  calls_refused s call.Solve l free =
      let n = rows_lent l.rows l.notes in
      carried (solve_answer M s n) _ (alike_told answer.Solved (solve_answer M s n)) ((in_order M lawful s).solve n)
  calls_refused s (call.Test qs) l free =
      let n = rows_lent l.rows l.notes in
      let v = test_verdict M s qs.now n (length l.run) in
      carried v _ (alike_verdict answer.Tested v free.run) ((in_order M lawful s).test qs.now n (length l.run))
  calls_refused s (call.Show q) l free =
      let n = rows_lent l.rows l.notes in
      let v = show_verdict M s q n (length l.run) in
      carried v _ (alike_shown answer.Shown v (length free.run)) ((in_order M lawful s).show q n (length l.run))
  calls_refused s call.Plain l free =
      let n = rows_lent l.pictures l.notes in
      let v = plain_verdict s n (length l.run) in
      carried v _ (alike_verdict answer.Plain v free.run) ((in_order M lawful s).plain n (length l.run))
  calls_refused s call.Look l free = refl
  calls_refused s call.Report l free = carried (report_answer s (length l.out)) _ (alike_told answer.Reported (report_answer s (length l.out))) ((in_order M lawful s).report (length l.out))

pub calls_leave : {S : Type 0} (M : Program → Meaning S) → CallsLeave M
calls_leave M s (call.Read text) l free = refl
calls_leave M s (call.Bar q) l free = refl
calls_leave M s (call.Free q) l free = refl
calls_leave M s call.Solve l free = refl
calls_leave M s (call.Test qs) l free = refl
calls_leave M s (call.Show q) l free = refl
calls_leave M s call.Plain l free = refl
calls_leave M s call.Look l free = refl
calls_leave M s call.Report l free = refl
