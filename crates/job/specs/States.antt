-- What a job holds.
use Rattle.std.specs.Prelude.{ℕ, Some, None, Option}
use Rattle.listing.specs.declared.program.Program.{Program}
use Rattle.listing.specs.Code.{places}
use Rattle.machines.specs.declared.placement.Placement.{Placement}
use Rattle.machines.specs.Places.{first_places, outside}
use Rattle.job.specs.declared.solution.Solution.{Solution}
use Rattle.job.specs.declared.solution.View.{View}

-- once a listing was read: its program, the places that may not be fenced, and the placement that is kept, if one is
pub record Held : Type 0 where
  pub program : Program
  pub barred : Placement
  pub kept : Option Solution

-- nothing, before the first listing is read
abbrev pub State : Type 0
State = Option Held

-- the set of this mask
abbrev pub placement : ℕ → Placement
placement set = record { mask = set }

-- the open places: those of the program that are not barred
abbrev pub open_places : Held → ℕ
open_places h = outside (first_places (places h.program)) h.barred.mask

-- right after a program was read
abbrev pub begun : Program → Held
begun p = record { program = p; barred = placement 0; kept = None }

-- with other places barred; a placement that was kept is dropped
abbrev pub barring : ℕ → Held → Held
barring set h = record { program = h.program; barred = placement set; kept = None }

-- with this placement kept
abbrev pub keeping : Solution → Held → Held
keeping k h = record { program = h.program; barred = h.barred; kept = Some k }

-- what `look` answers; a job without a program bars nothing and keeps nothing
abbrev pub view_of : State → View
view_of None = record { barred = placement 0; kept = None }
view_of (Some h) = record { barred = h.barred; kept = h.kept }
