-- The program that a job holds.
use Rattle.std.specs.Prelude.{Option, option_map}
use Rattle.listing.specs.declared.program.Program.{Program}
use Rattle.job.specs.declared.call.Call.{Call}
use Rattle.job.specs.declared.call.Call.TheVariants.{Read}
use Rattle.job.specs.States.{State}

abbrev pub program_held : State → Option Program
program_held s = option_map (λ h. h.program) s

-- a call of any kind but `read`: it leaves the program as it is
abbrev pub IsNoReading : Call → Type 0
IsNoReading (Read text) = ⊥
IsNoReading _ = Unit {0}
