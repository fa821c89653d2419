-- What a job's own record means.
use Rattle.std.specs.Prelude.{◌≡◌, Some, None, Option, option_map}
use Rattle.listing.specs.declared.program.Program.{Program}
use Rattle.machines.specs.Machines.{Meaning}
use Rattle.job.specs.declared.job.Loaded.{Loaded}
use Rattle.job.specs.Histories.{Arisen}
use Rattle.job.specs.States.{Held, State}

module _ {K : Type 0} where
  abbrev pub held_in : Loaded K → Held
  held_in l = record { program = l.program; barred = l.barred; kept = l.kept }

  abbrev pub state_in : Option (Loaded K) → State
  state_in o = option_map held_in o

  -- the machine is the one that the kind makes for the program
  abbrev pub HasItsMachine : (Program → K) → Option (Loaded K) → Type 0
  HasItsMachine made None = Unit {0}
  HasItsMachine made (Some l) = l.machine ≡ made l.program

  -- what is true of every job: its machine is its program's, and some calls of a new job led to what it holds
  pub record Sound {S : Type 0} (made : Program → K) (means : K → Meaning S) (o : Option (Loaded K)) : Type 0 where
    pub machine : HasItsMachine made o
    pub arisen : Arisen (λ p. means (made p)) (state_in o)
