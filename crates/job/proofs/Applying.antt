-- Which refusals apply to a call by their reasons, and what that says by their numbers. Nothing is assumed.
use Rattle.std.proofs.Common.{◌≡◌, ◌↔◌, ℕ, ◌≤◌, ◌<◌, true, false, List, None, Ok, Err, Result, Contains, refl, ap, subst, ◌∙◌, arith}
use Rattle.listing.specs.declared.program.Program.{Program}
use Rattle.listing.specs.declared.refusal.Reason.{Reason}
use Rattle.listing.specs.declared.refusal.Reason.TheVariants.{NoProgram, PlaceMissing, AlreadySo, RunListTooShort, NoPlacement, PlaceNotKept, TooFewRows, NoneEnough, BufferTooShort}
use Rattle.listing.specs.declared.refusal.Refusal.{Refusal}
use Rattle.listing.specs.Reasons.{number_of}
use Rattle.machines.specs.Machines.{Meaning}
use Rattle.machines.specs.Places.{has}
use Rattle.machines.specs.Unbuffered.{unbuffered}
use Rattle.search.specs.Faults.{FaultRun, KeepsTo, TooMany}
use Rattle.search.specs.Refusals.{ByLowest, Refused}
use Rattle.job.specs.Checks.{declined}
use Rattle.job.specs.Refusals.{BarApplies, FreeApplies, PlainApplies, ReportApplies, LineApplies, SolveApplies, TestApplies, ShowApplies, HasNumber, Holding, Missing, NotKept}
use Rattle.job.specs.States.{State, open_places}

-- which refusals apply to a call, each by itself; those that are not named never do
abbrev pub BarBy : State → ℕ → Reason → Type 0
BarBy s q NoProgram = s ≡ None
BarBy s q PlaceMissing = Holding s (Missing q)
BarBy s q AlreadySo = Holding s (λ h. has h.barred.mask q ≡ true)
BarBy s q _ = ⊥

-- of `free`
abbrev pub FreeBy : State → ℕ → Reason → Type 0
FreeBy s q NoProgram = s ≡ None
FreeBy s q PlaceMissing = Holding s (Missing q)
FreeBy s q AlreadySo = Holding s (λ h. has h.barred.mask q ≡ false)
FreeBy s q _ = ⊥

-- of `plain`: the rows are those of the unbuffered machine
abbrev pub PlainBy : State → ℕ → ℕ → Reason → Type 0
PlainBy s rows run NoProgram = s ≡ None
PlainBy s rows run RunListTooShort = run < rows
PlainBy s rows run TooFewRows = Holding s (λ h. TooMany (unbuffered h.program) rows)
PlainBy s rows run _ = ⊥

-- of `report`
abbrev pub ReportBy : State → ℕ → Reason → Type 0
ReportBy s long NoProgram = s ≡ None
ReportBy s long NoPlacement = Holding s (λ h. h.kept ≡ None)
ReportBy s long BufferTooShort = long < 512
ReportBy s long _ = ⊥

module _ {S : Type 0} (M : Program → Meaning S) where
  -- of `solve`
  abbrev pub SolveBy : State → ℕ → Reason → Type 0
  SolveBy s rows NoProgram = s ≡ None
  SolveBy s rows TooFewRows = Holding s (λ h. TooMany (M h.program) rows)
  SolveBy s rows NoneEnough = Holding s (λ h. (ns : List ℕ) × FaultRun h.program (M h.program) ns × KeepsTo (M h.program) ns (open_places h))
  SolveBy s rows _ = ⊥

  -- of `test`
  abbrev pub TestBy : State → List ℕ → ℕ → ℕ → Reason → Type 0
  TestBy s qs rows run NoProgram = s ≡ None
  TestBy s qs rows run PlaceMissing = Holding s (λ h. (q : ℕ) × Contains qs q × Missing q h)
  TestBy s qs rows run RunListTooShort = run < rows
  TestBy s qs rows run TooFewRows = Holding s (λ h. TooMany (M h.program) rows)
  TestBy s qs rows run _ = ⊥

  -- of `show`
  abbrev pub ShowBy : State → ℕ → ℕ → ℕ → Reason → Type 0
  ShowBy s q rows run NoProgram = s ≡ None
  ShowBy s q rows run PlaceMissing = Holding s (Missing q)
  ShowBy s q rows run RunListTooShort = run < rows
  ShowBy s q rows run NoPlacement = Holding s (λ h. h.kept ≡ None)
  ShowBy s q rows run PlaceNotKept = Holding s (NotKept q)
  ShowBy s q rows run TooFewRows = Holding s (λ h. TooMany (M h.program) rows)
  ShowBy s q rows run _ = ⊥

-- an answer by the rules of which each says of a reason whether it applies
pub record ByReason {X : Type 0} (Applies : Reason → Type 0) (r : Result X Refusal) : Type 0 where
  pub refused : (why : Reason) → (r ≡ Err (declined why)) ↔ (Applies why × ((other : Reason) → Applies other → number_of why ≤ number_of other))
  pub granted : ((x : X) × (r ≡ Ok x)) ↔ ((why : Reason) → Applies why → ⊥)

-- a rule by reasons and one by numbers say the same
abbrev Same : (Reason → Type 0) → (ℕ → Type 0) → Type 0
Same R N = (n : ℕ) → N n ↔ ((why : Reason) × (number_of why ≡ n) × R why)

pub numbered : {X : Type 0} {r : Result X Refusal} (R : Reason → Type 0) (N : ℕ → Type 0) → Same R N → ByReason R r → ByLowest HasNumber N r
numbered {r = r} R N same l = record {
  refused = λ n. (to n, from n);
  granted = (
    λ g n a. let w = (same n).0 a in (l.granted).0 g w.0 w.2,
    λ none. (l.granted).1 (λ why a. none (number_of why) ((same (number_of why)).1 (why, refl, a))),
  );
}
  where
    lowest : (n : ℕ) → Type 0
    lowest n = N n × ((other : ℕ) → N other → n ≤ other)

    to : (n : ℕ) → Refused HasNumber n r → N n × ((other : ℕ) → N other → n ≤ other)
    to n f =
        let why = f.refusal.reason in
        let is : r ≡ Err (declined why) = f.answered ∙ ap (λ l. Err (record { reason = why; line = l })) f.number.1 in
        let a = (l.refused why).0 is in
        ((same n).1 (why, f.number.0, a.0), λ other b. let w = (same other).0 b in omega (arith, a.1 w.0 w.2, f.number.0, w.1))

    from : (n : ℕ) → N n × ((other : ℕ) → N other → n ≤ other) → Refused HasNumber n r
    from n a =
        let w = (same n).0 a.0 in
        record {
          refusal = declined w.0;
          answered = (l.refused w.0).1 (w.2, λ other b. omega (arith, a.1 (number_of other) ((same (number_of other)).1 (other, refl, b)), w.1));
          number = (w.1, refl);
        }

pub bar_same : (s : State) (q : ℕ) → Same (BarBy s q) (BarApplies s q)
bar_same s q n = (to n, from)
  where
    to : (m : ℕ) → BarApplies s q m → (why : Reason) × (number_of why ≡ m) × BarBy s q why
    to _ (BarApplies.no_program h) = (NoProgram, refl, h)
    to _ (BarApplies.missing h) = (PlaceMissing, refl, h)
    to _ (BarApplies.already h) = (AlreadySo, refl, h)

    from : (why : Reason) × (number_of why ≡ n) × BarBy s q why → BarApplies s q n
    from (NoProgram, e, h) = subst (BarApplies s q) e (BarApplies.no_program h)
    from (PlaceMissing, e, h) = subst (BarApplies s q) e (BarApplies.missing h)
    from (AlreadySo, e, h) = subst (BarApplies s q) e (BarApplies.already h)
    from (_, e, h) = absurd h

pub free_same : (s : State) (q : ℕ) → Same (FreeBy s q) (FreeApplies s q)
free_same s q n = (to n, from)
  where
    to : (m : ℕ) → FreeApplies s q m → (why : Reason) × (number_of why ≡ m) × FreeBy s q why
    to _ (FreeApplies.no_program h) = (NoProgram, refl, h)
    to _ (FreeApplies.missing h) = (PlaceMissing, refl, h)
    to _ (FreeApplies.already h) = (AlreadySo, refl, h)

    from : (why : Reason) × (number_of why ≡ n) × FreeBy s q why → FreeApplies s q n
    from (NoProgram, e, h) = subst (FreeApplies s q) e (FreeApplies.no_program h)
    from (PlaceMissing, e, h) = subst (FreeApplies s q) e (FreeApplies.missing h)
    from (AlreadySo, e, h) = subst (FreeApplies s q) e (FreeApplies.already h)
    from (_, e, h) = absurd h

pub plain_same : (s : State) (rows run : ℕ) → Same (PlainBy s rows run) (PlainApplies s rows run)
plain_same s rows run n = (to n, from)
  where
    to : (m : ℕ) → PlainApplies s rows run m → (why : Reason) × (number_of why ≡ m) × PlainBy s rows run why
    to _ (PlainApplies.no_program h) = (NoProgram, refl, h)
    to _ (PlainApplies.short_list h) = (RunListTooShort, refl, h)
    to _ (PlainApplies.too_few_rows h) = (TooFewRows, refl, h)

    from : (why : Reason) × (number_of why ≡ n) × PlainBy s rows run why → PlainApplies s rows run n
    from (NoProgram, e, h) = subst (PlainApplies s rows run) e (PlainApplies.no_program h)
    from (RunListTooShort, e, h) = subst (PlainApplies s rows run) e (PlainApplies.short_list h)
    from (TooFewRows, e, h) = subst (PlainApplies s rows run) e (PlainApplies.too_few_rows h)
    from (_, e, h) = absurd h

pub report_same : (s : State) (long : ℕ) → Same (ReportBy s long) (ReportApplies s long)
report_same s long n = (to n, from)
  where
    to : (m : ℕ) → ReportApplies s long m → (why : Reason) × (number_of why ≡ m) × ReportBy s long why
    to _ (ReportApplies.no_program h) = (NoProgram, refl, h)
    to _ (ReportApplies.none_kept h) = (NoPlacement, refl, h)
    to _ (ReportApplies.short_buffer h) = (BufferTooShort, refl, h)

    from : (why : Reason) × (number_of why ≡ n) × ReportBy s long why → ReportApplies s long n
    from (NoProgram, e, h) = subst (ReportApplies s long) e (ReportApplies.no_program h)
    from (NoPlacement, e, h) = subst (ReportApplies s long) e (ReportApplies.none_kept h)
    from (BufferTooShort, e, h) = subst (ReportApplies s long) e (ReportApplies.short_buffer h)
    from (_, e, h) = absurd h

-- of a refusal's line
abbrev pub LineBy : ℕ → Reason → Type 0
LineBy long BufferTooShort = long < 512
LineBy long _ = ⊥

pub line_same : (long : ℕ) → Same (LineBy long) (LineApplies long)
line_same long n = (to n, from)
  where
    to : (m : ℕ) → LineApplies long m → (why : Reason) × (number_of why ≡ m) × LineBy long why
    to _ (LineApplies.short_buffer h) = (BufferTooShort, refl, h)

    from : (why : Reason) × (number_of why ≡ n) × LineBy long why → LineApplies long n
    from (BufferTooShort, e, h) = subst (LineApplies long) e (LineApplies.short_buffer h)
    from (_, e, h) = absurd h

module _ {S : Type 0} (M : Program → Meaning S) where
  pub solve_same : (s : State) (rows : ℕ) → Same (SolveBy M s rows) (SolveApplies M s rows)
  solve_same s rows n = (to n, from)
    where
      to : (m : ℕ) → SolveApplies M s rows m → (why : Reason) × (number_of why ≡ m) × SolveBy M s rows why
      to _ (SolveApplies.no_program h) = (NoProgram, refl, h)
      to _ (SolveApplies.too_few_rows h) = (TooFewRows, refl, h)
      to _ (SolveApplies.none_enough h) = (NoneEnough, refl, h)

      from : (why : Reason) × (number_of why ≡ n) × SolveBy M s rows why → SolveApplies M s rows n
      from (NoProgram, e, h) = subst (SolveApplies M s rows) e (SolveApplies.no_program h)
      from (TooFewRows, e, h) = subst (SolveApplies M s rows) e (SolveApplies.too_few_rows h)
      from (NoneEnough, e, h) = subst (SolveApplies M s rows) e (SolveApplies.none_enough h)
      from (_, e, h) = absurd h

  pub test_same : (s : State) (qs : List ℕ) (rows run : ℕ) → Same (TestBy M s qs rows run) (TestApplies M s qs rows run)
  test_same s qs rows run n = (to n, from)
    where
      to : (m : ℕ) → TestApplies M s qs rows run m → (why : Reason) × (number_of why ≡ m) × TestBy M s qs rows run why
      to _ (TestApplies.no_program h) = (NoProgram, refl, h)
      to _ (TestApplies.missing h) = (PlaceMissing, refl, h)
      to _ (TestApplies.short_list h) = (RunListTooShort, refl, h)
      to _ (TestApplies.too_few_rows h) = (TooFewRows, refl, h)

      from : (why : Reason) × (number_of why ≡ n) × TestBy M s qs rows run why → TestApplies M s qs rows run n
      from (NoProgram, e, h) = subst (TestApplies M s qs rows run) e (TestApplies.no_program h)
      from (PlaceMissing, e, h) = subst (TestApplies M s qs rows run) e (TestApplies.missing h)
      from (RunListTooShort, e, h) = subst (TestApplies M s qs rows run) e (TestApplies.short_list h)
      from (TooFewRows, e, h) = subst (TestApplies M s qs rows run) e (TestApplies.too_few_rows h)
      from (_, e, h) = absurd h

  pub show_same : (s : State) (q rows run : ℕ) → Same (ShowBy M s q rows run) (ShowApplies M s q rows run)
  show_same s q rows run n = (to n, from)
    where
      to : (m : ℕ) → ShowApplies M s q rows run m → (why : Reason) × (number_of why ≡ m) × ShowBy M s q rows run why
      to _ (ShowApplies.no_program h) = (NoProgram, refl, h)
      to _ (ShowApplies.missing h) = (PlaceMissing, refl, h)
      to _ (ShowApplies.short_list h) = (RunListTooShort, refl, h)
      to _ (ShowApplies.none_kept h) = (NoPlacement, refl, h)
      to _ (ShowApplies.not_kept h) = (PlaceNotKept, refl, h)
      to _ (ShowApplies.too_few_rows h) = (TooFewRows, refl, h)

      from : (why : Reason) × (number_of why ≡ n) × ShowBy M s q rows run why → ShowApplies M s q rows run n
      from (NoProgram, e, h) = subst (ShowApplies M s q rows run) e (ShowApplies.no_program h)
      from (PlaceMissing, e, h) = subst (ShowApplies M s q rows run) e (ShowApplies.missing h)
      from (RunListTooShort, e, h) = subst (ShowApplies M s q rows run) e (ShowApplies.short_list h)
      from (NoPlacement, e, h) = subst (ShowApplies M s q rows run) e (ShowApplies.none_kept h)
      from (PlaceNotKept, e, h) = subst (ShowApplies M s q rows run) e (ShowApplies.not_kept h)
      from (TooFewRows, e, h) = subst (ShowApplies M s q rows run) e (ShowApplies.too_few_rows h)
      from (_, e, h) = absurd h
