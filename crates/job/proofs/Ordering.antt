-- Each call is refused by the lowest number that applies. Nothing is assumed.
use Rattle.std.proofs.Common.{◌≡◌, ◌↔◌, inl, inr, ⊎_elim, ℕ, ◌≤◌, Bool, true, false, true≢false, not, nat_lt, List, length, [], ◌∷◌, Contains, Some, None, Option, is_none, unwrap_or, Err, Result, if◌then◌else◌, refl, sym, ap, subst, ◌∙◌, arith}
use Rattle.std.proofs.lemmas.Bool.{ltb-true, ltb-false, lt-ltb, le-ltb}
use Rattle.listing.specs.declared.program.Program.{Program}
use Rattle.listing.specs.declared.refusal.Reason.{Reason}
use Rattle.listing.specs.declared.refusal.Reason.TheVariants.{NoProgram, PlaceMissing, AlreadySo, RunListTooShort, NoPlacement, PlaceNotKept, TooFewRows, NoneEnough, BufferTooShort}
use Rattle.listing.specs.declared.refusal.Refusal.{Refusal}
use Rattle.listing.specs.Code.{places}
use Rattle.listing.specs.Reasons.{number_of}
use Rattle.machines.specs.Laws.{Lawful}
use Rattle.machines.specs.Machines.{Meaning}
use Rattle.machines.specs.Places.{has, adding}
use Rattle.machines.specs.Unbuffered.{unbuffered}
use Rattle.machines.specs.lawful.Machines.{unbuffered_is_lawful}
use Rattle.search.specs.Enough.{fits}
use Rattle.search.specs.Faults as Standings
use Rattle.search.specs.Faults.{FaultRun, KeepsTo}
use Rattle.search.proofs.Placing.{placing}
use Rattle.search.proofs.Rounding.{fitting}
use Rattle.job.specs.declared.solution.Solution.{Solution}
use Rattle.job.specs.Answers.{least_set, solution, bar_answer, free_answer, solve_answer, test_verdict, show_verdict, plain_verdict, report_answer}
use Rattle.job.specs.Checks.{declined, is_kept, is_missing, set_within, unless_refused, bar_checks, free_checks, plain_checks, report_checks, test_checks, show_checks}
use Rattle.job.specs.Refusals.{InOrder, Holding, NotKept, BarApplies, FreeApplies, SolveApplies, TestApplies, ShowApplies, PlainApplies, ReportApplies, LineApplies}
use Rattle.job.specs.Text.{line_of}
use Rattle.job.proofs.Applying.{ByReason, BarBy, FreeBy, SolveBy, TestBy, ShowBy, PlainBy, ReportBy, LineBy, numbered, bar_same, free_same, solve_same, test_same, show_same, plain_same, report_same, line_same}
use Rattle.job.specs.States.{Held, State, open_places}
use Rattle.job.proofs.Keeping.{open_small}
use Rattle.job.proofs.Listed.{behind, in_front}
use Rattle.job.proofs.Readings.{read_ordered}
use Rattle.job.proofs.Lowest.{Raised, lowest, refused_by, granted_by}

-- of what is held alone
held : {h : Held} (P : Held → Type 0) → Holding (Some h) P → P h
held {h = h} P (x, is, p) =
    let same : x ≡ h = cc in
    subst P same p

nothing_held : (P : Held → Type 0) → Holding None P → ⊥
nothing_held P (x, is, p) = cc

some_program : {h : Held} → Some h ≡ None → ⊥
some_program e = cc

not_true : (b : Bool) → not b ≡ true → b ≡ false
not_true true e = absurd (true≢false (sym e))
not_true false e = refl

is_not : {b : Bool} → b ≡ false → not b ≡ true
is_not e = ap not e

missing : (h : Held) (q : ℕ) → (is_missing h q ≡ true) ↔ (places h.program ≤ q)
missing h q = (λ e. ltb-false _ _ (not_true _ e), λ le. is_not (le-ltb _ _ le))

none_is : {X : Type 0} (o : Option X) → (is_none o ≡ true) ↔ (o ≡ None)
none_is None = (λ e. refl, λ e. refl)
none_is (Some x) = (λ e. absurd (true≢false (sym e)), λ e. let no : ⊥ = cc in absurd no)

not_kept : (o : Option Solution) (q : ℕ) → (not (is_kept o q) ≡ true) ↔ ((k : Solution) → o ≡ Some k → has k.places.mask q ≡ false)
not_kept None q = (λ e k is. let no : ⊥ = cc in absurd no, λ h. refl)
not_kept (Some k) q = (
  λ e x is. let same : k ≡ x = cc in subst (λ (y : Solution). has y.places.mask q ≡ false) same (not_true _ e),
  λ h. is_not (h k refl),
)

-- one of the places is past the last
module _ (n : ℕ) where
  abbrev Past : List ℕ → Type 0
  Past qs = (q : ℕ) × Contains qs q × (n ≤ q)

  of_first : (s q : ℕ) (qs : List ℕ) (b : Bool) → nat_lt q n ≡ b → (set_within n (adding s q) qs ≡ None → Past qs) → (if b then set_within n (adding s q) qs else None) ≡ None → Past (q ∷ qs)
  of_first s q qs true e more none = let m = more none in (m.0, behind q qs m.0 m.1, m.2)
  of_first s q qs false e more none = (q, (0, omega arith, refl), ltb-false _ _ e)

  is_past : (s : ℕ) (qs : List ℕ) → set_within n s qs ≡ None → Past qs
  is_past s [] e = let no : ⊥ = cc in absurd no
  is_past s (q ∷ qs) e = of_first s q qs (nat_lt q n) refl (is_past (adding s q) qs) e

  none_first : (s q : ℕ) (qs : List ℕ) (b : Bool) → nat_lt q n ≡ b → (Past qs → set_within n (adding s q) qs ≡ None) → Past (q ∷ qs) → (if b then set_within n (adding s q) qs else None) ≡ None
  none_first s q qs false e more past = refl
  none_first s q qs true e more (x, in_list, le) =
      more (⊎_elim (λ here. let lt = ltb-true _ _ e in absurd (omega (arith, here, lt, le))) (λ later. (x, later, le)) (in_front q qs x in_list))

  past_none : (s : ℕ) (qs : List ℕ) → Past qs → set_within n s qs ≡ None
  past_none s [] (x, in_list, le) = absurd (omega (arith, in_list.1))
  past_none s (q ∷ qs) past = none_first s q qs (nat_lt q n) refl (past_none (adding s q) qs) past

-- without a program no lower number applies than that of having none
no_program : {X : Type 0} (Applies : Reason → Type 0) (answer : Result X Refusal) → answer ≡ Err (declined NoProgram) → Applies NoProgram → ((why : Reason) → Applies why → 8 ≤ number_of why) → ByReason Applies answer
no_program Applies answer is applies least = refused_by Applies NoProgram answer is applies least

of_bar : (s : State) (q : ℕ) → ByReason (BarBy s q) (bar_answer s q)
of_bar None q = no_program (BarBy None q) (bar_answer None q) refl refl least
  where
    least : (why : Reason) → BarBy None q why → 8 ≤ number_of why
    least NoProgram a = omega arith
    least PlaceMissing a = omega arith
    least AlreadySo a = omega arith
    least _ a = absurd a
of_bar (Some h) q = lowest (BarBy (Some h) q) (bar_checks q h) tt refl sound complete
  where
    sound : (why : Reason) → Raised (bar_checks q h) why → BarBy (Some h) q why
    sound why (inl a) = subst (BarBy (Some h) q) a.0 (h, refl, (missing h q).0 a.1)
    sound why (inr (inl a)) = subst (BarBy (Some h) q) a.0 (h, refl, a.1)
    sound why (inr (inr a)) = absurd a

    complete : (why : Reason) → BarBy (Some h) q why → Raised (bar_checks q h) why
    complete NoProgram a = absurd (some_program a)
    complete PlaceMissing a = inl (refl, (missing h q).1 (held (λ x. places x.program ≤ q) a))
    complete AlreadySo a = inr (inl (refl, held (λ x. has x.barred.mask q ≡ true) a))
    complete _ a = absurd a

of_free : (s : State) (q : ℕ) → ByReason (FreeBy s q) (free_answer s q)
of_free None q = no_program (FreeBy None q) (free_answer None q) refl refl least
  where
    least : (why : Reason) → FreeBy None q why → 8 ≤ number_of why
    least NoProgram a = omega arith
    least PlaceMissing a = omega arith
    least AlreadySo a = omega arith
    least _ a = absurd a
of_free (Some h) q = lowest (FreeBy (Some h) q) (free_checks q h) tt refl sound complete
  where
    sound : (why : Reason) → Raised (free_checks q h) why → FreeBy (Some h) q why
    sound why (inl a) = subst (FreeBy (Some h) q) a.0 (h, refl, (missing h q).0 a.1)
    sound why (inr (inl a)) = subst (FreeBy (Some h) q) a.0 (h, refl, not_true _ a.1)
    sound why (inr (inr a)) = absurd a

    complete : (why : Reason) → FreeBy (Some h) q why → Raised (free_checks q h) why
    complete NoProgram a = absurd (some_program a)
    complete PlaceMissing a = inl (refl, (missing h q).1 (held (λ x. places x.program ≤ q) a))
    complete AlreadySo a = inr (inl (refl, is_not (held (λ x. has x.barred.mask q ≡ false) a)))
    complete _ a = absurd a

of_report : (s : State) (long : ℕ) → ByReason (ReportBy s long) (report_answer s long)
of_report None long = no_program (ReportBy None long) (report_answer None long) refl refl least
  where
    least : (why : Reason) → ReportBy None long why → 8 ≤ number_of why
    least NoProgram a = omega arith
    least NoPlacement a = omega arith
    least BufferTooShort a = omega arith
    least _ a = absurd a
of_report (Some h) long = lowest (ReportBy (Some h) long) (report_checks long h) _ refl sound complete
  where
    sound : (why : Reason) → Raised (report_checks long h) why → ReportBy (Some h) long why
    sound why (inl a) = subst (ReportBy (Some h) long) a.0 (h, refl, (none_is h.kept).0 a.1)
    sound why (inr (inl a)) = subst (ReportBy (Some h) long) a.0 (ltb-true _ _ a.1)
    sound why (inr (inr a)) = absurd a

    complete : (why : Reason) → ReportBy (Some h) long why → Raised (report_checks long h) why
    complete NoProgram a = absurd (some_program a)
    complete NoPlacement a = inl (refl, (none_is h.kept).1 (held (λ x. x.kept ≡ None) a))
    complete BufferTooShort a = inr (inl (refl, lt-ltb _ _ a))
    complete _ a = absurd a

of_line : (e : Refusal) (long : ℕ) → ByReason (LineBy long) (unless_refused ((BufferTooShort, nat_lt long 512) ∷ []) (length (line_of e)))
of_line e long = lowest (LineBy long) ((BufferTooShort, nat_lt long 512) ∷ []) _ refl sound complete
  where
    sound : (why : Reason) → Raised ((BufferTooShort, nat_lt long 512) ∷ []) why → LineBy long why
    sound why (inl a) = subst (LineBy long) a.0 (ltb-true _ _ a.1)
    sound why (inr a) = absurd a

    complete : (why : Reason) → LineBy long why → Raised ((BufferTooShort, nat_lt long 512) ∷ []) why
    complete BufferTooShort a = inl (refl, lt-ltb _ _ a)
    complete _ a = absurd a

-- where more standings are reached than there are rows
too_few : {S : Type 0} {p : Program} {m : Meaning S} (l : Lawful p m) (n : ℕ) → (not (fits m n) ≡ true) ↔ Standings.TooMany m n
too_few l n = (λ e. ((fitting l).too_few n).0 (not_true _ e), λ t. is_not (((fitting l).too_few n).1 t))

of_plain : (s : State) (rows run : ℕ) → ByReason (PlainBy s rows run) (plain_verdict s rows run)
of_plain None rows run = no_program (PlainBy None rows run) (plain_verdict None rows run) refl refl least
  where
    least : (why : Reason) → PlainBy None rows run why → 8 ≤ number_of why
    least NoProgram a = omega arith
    least RunListTooShort a = omega arith
    least TooFewRows a = omega arith
    least _ a = absurd a
of_plain (Some h) rows run = lowest (PlainBy (Some h) rows run) (plain_checks rows run h) _ refl sound complete
  where
    sound : (why : Reason) → Raised (plain_checks rows run h) why → PlainBy (Some h) rows run why
    sound why (inl a) = subst (PlainBy (Some h) rows run) a.0 (ltb-true _ _ a.1)
    sound why (inr (inl a)) = subst (PlainBy (Some h) rows run) a.0 (h, refl, (too_few (unbuffered_is_lawful h.program) rows).0 a.1)
    sound why (inr (inr a)) = absurd a

    complete : (why : Reason) → PlainBy (Some h) rows run why → Raised (plain_checks rows run h) why
    complete NoProgram a = absurd (some_program a)
    complete RunListTooShort a = inl (refl, lt-ltb _ _ a)
    complete TooFewRows a = inr (inl (refl, (too_few (unbuffered_is_lawful h.program) rows).1 (held (λ x. Standings.TooMany (unbuffered x.program) rows) a)))
    complete _ a = absurd a

module _ {S : Type 0} (M : Program → Meaning S) (lawful : (p : Program) → Lawful p (M p)) where
  of_test : (s : State) (qs : List ℕ) (rows run : ℕ) → ByReason (TestBy M s qs rows run) (test_verdict M s qs rows run)
  of_test None qs rows run = no_program (TestBy M None qs rows run) (test_verdict M None qs rows run) refl refl least
    where
      least : (why : Reason) → TestBy M None qs rows run why → 8 ≤ number_of why
      least NoProgram a = omega arith
      least PlaceMissing a = omega arith
      least RunListTooShort a = omega arith
      least TooFewRows a = omega arith
      least _ a = absurd a
  of_test (Some h) qs rows run = lowest (TestBy M (Some h) qs rows run) (test_checks M qs rows run h) _ refl sound complete
    where
      sound : (why : Reason) → Raised (test_checks M qs rows run h) why → TestBy M (Some h) qs rows run why
      sound why (inl a) = subst (TestBy M (Some h) qs rows run) a.0 (h, refl, is_past (places h.program) 0 qs ((none_is _).0 a.1))
      sound why (inr (inl a)) = subst (TestBy M (Some h) qs rows run) a.0 (ltb-true _ _ a.1)
      sound why (inr (inr (inl a))) = subst (TestBy M (Some h) qs rows run) a.0 (h, refl, (too_few (lawful h.program) rows).0 a.1)
      sound why (inr (inr (inr a))) = absurd a

      complete : (why : Reason) → TestBy M (Some h) qs rows run why → Raised (test_checks M qs rows run h) why
      complete NoProgram a = absurd (some_program a)
      complete PlaceMissing a = inl (refl, (none_is _).1 (past_none (places h.program) 0 qs (held (λ x. (q : ℕ) × Contains qs q × (places x.program ≤ q)) a)))
      complete RunListTooShort a = inr (inl (refl, lt-ltb _ _ a))
      complete TooFewRows a = inr (inr (inl (refl, (too_few (lawful h.program) rows).1 (held (λ x. Standings.TooMany (M x.program) rows) a))))
      complete _ a = absurd a

  of_show : (s : State) (q rows run : ℕ) → ByReason (ShowBy M s q rows run) (show_verdict M s q rows run)
  of_show None q rows run = no_program (ShowBy M None q rows run) (show_verdict M None q rows run) refl refl least
    where
      least : (why : Reason) → ShowBy M None q rows run why → 8 ≤ number_of why
      least NoProgram a = omega arith
      least PlaceMissing a = omega arith
      least RunListTooShort a = omega arith
      least NoPlacement a = omega arith
      least PlaceNotKept a = omega arith
      least TooFewRows a = omega arith
      least _ a = absurd a
  of_show (Some h) q rows run = lowest (ShowBy M (Some h) q rows run) (show_checks M q rows run h) false refl sound complete
    where
      sound : (why : Reason) → Raised (show_checks M q rows run h) why → ShowBy M (Some h) q rows run why
      sound why (inl a) = subst (ShowBy M (Some h) q rows run) a.0 (h, refl, (missing h q).0 a.1)
      sound why (inr (inl a)) = subst (ShowBy M (Some h) q rows run) a.0 (ltb-true _ _ a.1)
      sound why (inr (inr (inl a))) = subst (ShowBy M (Some h) q rows run) a.0 (h, refl, (none_is h.kept).0 a.1)
      sound why (inr (inr (inr (inl a)))) = subst (ShowBy M (Some h) q rows run) a.0 (h, refl, (not_kept h.kept q).0 a.1)
      sound why (inr (inr (inr (inr (inl a))))) = subst (ShowBy M (Some h) q rows run) a.0 (h, refl, (too_few (lawful h.program) rows).0 a.1)
      sound why (inr (inr (inr (inr (inr a))))) = absurd a

      complete : (why : Reason) → ShowBy M (Some h) q rows run why → Raised (show_checks M q rows run h) why
      complete NoProgram a = absurd (some_program a)
      complete PlaceMissing a = inl (refl, (missing h q).1 (held (λ x. places x.program ≤ q) a))
      complete RunListTooShort a = inr (inl (refl, lt-ltb _ _ a))
      complete NoPlacement a = inr (inr (inl (refl, (none_is h.kept).1 (held (λ x. x.kept ≡ None) a))))
      complete PlaceNotKept a = inr (inr (inr (inl (refl, (not_kept h.kept q).1 (held (NotKept q) a)))))
      complete TooFewRows a = inr (inr (inr (inr (inl (refl, (too_few (lawful h.program) rows).1 (held (λ x. Standings.TooMany (M x.program) rows) a))))))
      complete _ a = absurd a

  abbrev Breaking : Held → Type 0
  Breaking h = (ns : List ℕ) × FaultRun h.program (M h.program) ns × KeepsTo (M h.program) ns (open_places h)

  -- where there are too few rows, whether the open places are enough is not known, and not asked
  solve_cases : (h : Held) (rows : ℕ) (b : Bool) (o : Option ℕ) → fits (M h.program) rows ≡ b → least_set M rows h ≡ o
      → ByReason (SolveBy M (Some h) rows) (unless_refused ((TooFewRows, not b) ∷ (NoneEnough, is_none o) ∷ []) (solution (unwrap_or o 0)))
  solve_cases h rows false o fit is = refused_by (SolveBy M (Some h) rows) TooFewRows _ refl (h, refl, ((fitting (lawful h.program)).too_few rows).0 fit) least
    where
      least : (why : Reason) → SolveBy M (Some h) rows why → 14 ≤ number_of why
      least NoProgram a = absurd (some_program a)
      least TooFewRows a = omega arith
      least NoneEnough a = omega arith
      least _ a = absurd a
  solve_cases h rows true None fit is = refused_by (SolveBy M (Some h) rows) NoneEnough _ refl (h, refl, ((placing h.program (lawful h.program)).none rows (open_places h) fit (open_small h)).0 is) least
    where
      least : (why : Reason) → SolveBy M (Some h) rows why → 15 ≤ number_of why
      least NoProgram a = absurd (some_program a)
      least TooFewRows a = absurd (true≢false (sym fit ∙ ((fitting (lawful h.program)).too_few rows).1 (held (λ x. Standings.TooMany (M x.program) rows) a)))
      least NoneEnough a = omega arith
      least _ a = absurd a
  solve_cases h rows true (Some set) fit is = granted_by (SolveBy M (Some h) rows) (solution set) _ refl none
    where
      none : (why : Reason) → SolveBy M (Some h) rows why → ⊥
      none NoProgram a = some_program a
      none TooFewRows a = true≢false (sym fit ∙ ((fitting (lawful h.program)).too_few rows).1 (held (λ x. Standings.TooMany (M x.program) rows) a))
      none NoneEnough a = let least = ((placing h.program (lawful h.program)).none rows (open_places h) fit (open_small h)).1 (held Breaking a) in cc
      none _ a = a

  of_solve : (s : State) (rows : ℕ) → ByReason (SolveBy M s rows) (solve_answer M s rows)
  of_solve None rows = no_program (SolveBy M None rows) (solve_answer M None rows) refl refl least
    where
      least : (why : Reason) → SolveBy M None rows why → 8 ≤ number_of why
      least NoProgram a = omega arith
      least TooFewRows a = omega arith
      least NoneEnough a = omega arith
      least _ a = absurd a
  of_solve (Some h) rows = solve_cases h rows (fits (M h.program) rows) (least_set M rows h) refl refl

  pub in_order : (s : State) → InOrder M s
  in_order s = record {
    read = read_ordered;
    bar = λ q. numbered (BarBy s q) (BarApplies s q) (bar_same s q) (of_bar s q);
    free = λ q. numbered (FreeBy s q) (FreeApplies s q) (free_same s q) (of_free s q);
    solve = λ rows. numbered (SolveBy M s rows) (SolveApplies M s rows) (solve_same M s rows) (of_solve s rows);
    test = λ qs rows run. numbered (TestBy M s qs rows run) (TestApplies M s qs rows run) (test_same M s qs rows run) (of_test s qs rows run);
    show = λ q rows run. numbered (ShowBy M s q rows run) (ShowApplies M s q rows run) (show_same M s q rows run) (of_show s q rows run);
    plain = λ rows run. numbered (PlainBy s rows run) (PlainApplies s rows run) (plain_same s rows run) (of_plain s rows run);
    report = λ long. numbered (ReportBy s long) (ReportApplies s long) (report_same s long) (of_report s long);
    line = λ e out. numbered (LineBy (length out)) (LineApplies (length out)) (line_same (length out)) (of_line e (length out));
  }
