-- What the calls that search leave of lent memory. Nothing is assumed.
use Rattle.std.proofs.Common.{◌≡◌, ◌≢◌, ℕ, Bool, true, false, ◌||◌, eqb, [], ◌∷◌, ◌++◌, length, drop, Some, None, Ok, Err, Result, if◌then◌else◌, refl, sym, ap, ◌∙◌}
use Rattle.std.proofs.Math.Seq.{drop-append_seam}
use Rattle.std.proofs.lemmas.Bool.{eqb-true}
use Rattle.listing.specs.declared.program.Program.{Program}
use Rattle.listing.specs.declared.refusal.Reason.{Reason}
use Rattle.listing.specs.declared.refusal.Refusal.{Refusal}
use Rattle.listing.specs.Reading.{told}
use Rattle.listing.specs.Reasons.{number_of}
use Rattle.machines.specs.Machines.{Meaning}
use Rattle.search.specs.Enough.{rows_lent}
use Rattle.job.specs.Answers.{Verdict, solve_answer, test_verdict, show_verdict, plain_verdict}
use Rattle.job.specs.Checks.{Checks, declined, show_checks, unless_refused}
use Rattle.job.specs.Lent.{Lent, lent, scratch_left, search_left, verdict_answer}
use Rattle.job.specs.States.{State}
use Rattle.job.specs.Verdicts.{BeforeSearch, LeavesMemory, MemoryLeft, some_length}

not_equal : (a b : ℕ) → a ≢ b → eqb a b ≡ false
not_equal a b ne = of_test (eqb a b) (eqb-true a b)
  where
    of_test : (t : Bool) → (t ≡ true → a ≡ b) → t ≡ false
    of_test true same = absurd (ne (same refl))
    of_test false same = refl

-- refused before a search, by the one or the other part of memory
as_found : {X L : Type 0} (r : Result X Refusal) (old left : L) (why : Reason) → BeforeSearch why → r ≡ Err (declined why) → scratch_left r old left ≡ old
as_found r old left why before is =
    ap (λ x. scratch_left x old left) is ∙ ap (λ b. if b then left else old) (ap (λ x. x || eqb (number_of why) 15) (not_equal _ 14 before.0) ∙ not_equal _ 15 before.1)

-- of a verdict, whichever call gives it, by the answer that it has
refused_of : {S : Type 0} (v : Verdict) (old free : Lent S) (why : Reason) → BeforeSearch why → v ≡ Err (declined why) → search_left v old free ≡ old
refused_of v old free why before is =
    let r : Verdict = Err (declined why) in
    ap (λ v. search_left v old free) is ∙ (ap (λ x. lent x (scratch_left r old.notes free.notes) old.run) (as_found r old.rows free.rows why before refl)
    ∙ ap (λ x. lent old.rows x old.run) (as_found r old.notes free.notes why before refl))

by_verdict : {S : Type 0} (v : Verdict) (old free : Lent S) → LeavesMemory old (verdict_answer v free.run) (search_left v old free)
by_verdict (Ok true) old free = record {
  refused = λ why before is. let no : ⊥ = cc in absurd no;
  refused_run = λ e is. let no : ⊥ = cc in absurd no;
  no_run = λ is. refl;
  past = λ n is. let no : ⊥ = cc in absurd no;
}
by_verdict (Ok false) old free = record {
  refused = λ why before is. let no : ⊥ = cc in absurd no;
  refused_run = λ e is. let no : ⊥ = cc in absurd no;
  no_run = λ is. let no : ⊥ = cc in absurd no;
  past = λ n is. let same : length free.run ≡ n = cc in ap (λ k. drop k (free.run ++ drop (length free.run) old.run)) (sym same) ∙ (drop-append_seam free.run (drop (length free.run) old.run) ∙ ap (λ k. drop k old.run) same);
}
by_verdict (Err e) old free = record {
  refused = λ why before is. let same : e ≡ declined why = cc in refused_of (Err e) old free why before (ap Err same);
  refused_run = λ x is. refl;
  no_run = λ is. let no : ⊥ = cc in absurd no;
  past = λ n is. let no : ⊥ = cc in absurd no;
}

by_shown : {S : Type 0} (v : Verdict) (old free : Lent S) → ((b : Bool) → v ≡ Ok b → b ≡ false) → LeavesMemory old (some_length (told (λ _. length free.run) v)) (search_left v old free)
by_shown (Ok true) old free run = let no = run true refl in let none : ⊥ = cc in absurd none
by_shown (Ok false) old free run = by_verdict (Ok false) old free
by_shown (Err e) old free run = by_verdict (Err e) old free

-- what is granted is the value that was given
value_of : {X : Type 0} (cs : Checks) (x y : X) → unless_refused cs x ≡ Ok y → y ≡ x
value_of [] x y e = cc
value_of ((why, true) ∷ cs) x y e = let no : ⊥ = cc in absurd no
value_of ((why, false) ∷ cs) x y e = value_of cs x y e

module _ {S : Type 0} (M : Program → Meaning S) where
  pub never_enough : (s : State) (q rows run : ℕ) (b : Bool) → show_verdict M s q rows run ≡ Ok b → b ≡ false
  never_enough None q rows run b e = let no : ⊥ = cc in absurd no
  never_enough (Some h) q rows run b e = value_of (show_checks M q rows run h) false b e

  pub memory_left : (s : State) → MemoryLeft M s
  memory_left s = record {
    test = λ qs old free. by_verdict (test_verdict M s qs (rows_lent old.rows old.notes) (length old.run)) old free;
    show = λ q old free. by_shown (show_verdict M s q (rows_lent old.rows old.notes) (length old.run)) old free (never_enough s q (rows_lent old.rows old.notes) (length old.run));
    plain = λ old free. by_verdict (plain_verdict s (rows_lent old.rows old.notes) (length old.run)) old free;
    solve = λ rows rows' notes notes' why before is.
        let r = solve_answer M s (rows_lent rows notes) in
        (as_found r rows rows' why before is, as_found r notes notes' why before is);
  }
