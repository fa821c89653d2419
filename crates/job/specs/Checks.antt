-- What a call checks, in the order of the numbers: each reason with whether it applies. The call is refused by the first that does.
use Rattle.std.specs.Prelude.{◌≡◌, ◌↔◌, Contains, ℕ, Bool, true, false, not, List, [], ◌∷◌, Some, None, Option, is_none, Ok, Err, Result, if◌then◌else◌, nat_lt}
use Rattle.listing.specs.declared.program.Program.{Program}
use Rattle.listing.specs.declared.refusal.Reason.{Reason}
use Rattle.listing.specs.declared.refusal.Reason.TheVariants.{NoProgram, PlaceMissing, AlreadySo, RunListTooShort, NoPlacement, PlaceNotKept, TooFewRows, NoneEnough, BufferTooShort}
use Rattle.listing.specs.declared.refusal.Refusal.{Refusal}
use Rattle.listing.specs.Code.{places}
use Rattle.machines.specs.Machines.{Meaning}
use Rattle.machines.specs.Places.{has, adding}
use Rattle.machines.specs.Unbuffered.{unbuffered}
use Rattle.search.specs.Enough.{fits, enough}
use Rattle.search.specs.Least.{least}
use Rattle.job.specs.declared.solution.Solution.{Solution}
use Rattle.job.specs.States.{Held, State, open_places}

-- each reason, and whether it applies
abbrev pub Checks : Type 0
Checks = List (Reason × Bool)

-- a refusal that concerns no line of a listing
abbrev pub declined : Reason → Refusal
declined why = record { reason = why; line = 0 }

-- the refusal of the first check that applies, or else the answer
abbrev pub unless_refused : {X : Type 0} → Checks → X → Result X Refusal
unless_refused [] x = Ok x
unless_refused ((why, applies) ∷ cs) x = if applies then Err (declined why) else unless_refused cs x

-- the program has no such place
abbrev pub is_missing : Held → ℕ → Bool
is_missing h q = not (nat_lt q (places h.program))

-- the set s with these places, none where one of them is not below n
abbrev pub set_within : ℕ → ℕ → List ℕ → Option ℕ
set_within n s [] = Some s
set_within n s (q ∷ qs) = if nat_lt q n then set_within n (adding s q) qs else None

-- the set of these places of the program, none where one of them is not in it
abbrev pub set_of : Program → List ℕ → Option ℕ
set_of p qs = set_within (places p) 0 qs

-- it has these places and no others
abbrev pub HasThese : Type 0
HasThese = (p : Program) (qs : List ℕ) (set : ℕ) → set_of p qs ≡ Some set → (q : ℕ) → (has set q ≡ true) ↔ Contains qs q

-- the place is one of those that are kept
abbrev pub is_kept : Option Solution → ℕ → Bool
is_kept None q = false
is_kept (Some k) q = has k.places.mask q

-- without a program, every call that concerns one is refused for that
abbrev pub with_program : State → (Held → Checks) → Checks
with_program None checks = (NoProgram, true) ∷ []
with_program (Some h) checks = checks h

-- the place is missing, or barred already
abbrev pub bar_checks : ℕ → Held → Checks
bar_checks q h = (PlaceMissing, is_missing h q) ∷ (AlreadySo, has h.barred.mask q) ∷ []

-- the place is missing, or not barred
abbrev pub free_checks : ℕ → Held → Checks
free_checks q h = (PlaceMissing, is_missing h q) ∷ (AlreadySo, not (has h.barred.mask q)) ∷ []

-- the run list is shorter than the rows, or the rows are too few for the unbuffered machine
abbrev pub plain_checks : ℕ → ℕ → Held → Checks
plain_checks rows run h = (RunListTooShort, nat_lt run rows) ∷ (TooFewRows, not (fits (unbuffered h.program) rows)) ∷ []

-- nothing is kept, or the buffer is too short
abbrev pub report_checks : ℕ → Held → Checks
report_checks long h = (NoPlacement, is_none h.kept) ∷ (BufferTooShort, nat_lt long 512) ∷ []

module _ {S : Type 0} (M : Program → Meaning S) where
  -- the rows are too few, or all open places together are not enough
  abbrev pub solve_checks : ℕ → Held → Checks
  solve_checks rows h =
      (TooFewRows, not (fits (M h.program) rows)) ∷
      (NoneEnough, is_none (least (enough h.program (M h.program) rows) (open_places h))) ∷ []

  -- a place is missing, the run list is shorter than the rows, or the rows are too few
  abbrev pub test_checks : List ℕ → ℕ → ℕ → Held → Checks
  test_checks qs rows run h =
      (PlaceMissing, is_none (set_of h.program qs)) ∷
      (RunListTooShort, nat_lt run rows) ∷
      (TooFewRows, not (fits (M h.program) rows)) ∷ []

  -- the place is missing, the run list is shorter than the rows, nothing is kept, the place is not kept, or the rows are too few
  abbrev pub show_checks : ℕ → ℕ → ℕ → Held → Checks
  show_checks q rows run h =
      (PlaceMissing, is_missing h q) ∷
      (RunListTooShort, nat_lt run rows) ∷
      (NoPlacement, is_none h.kept) ∷
      (PlaceNotKept, not (is_kept h.kept q)) ∷
      (TooFewRows, not (fits (M h.program) rows)) ∷ []
