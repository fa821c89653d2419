-- How commands end, and lines that a session prints.
use Rattle.std.specs.Prelude.{ℕ, List, ◌++◌, codes, decimal}
use Rattle.session.specs.declared.command.Spot.{Spot}
use Rattle.session.specs.declared.reply.Outcome.{Outcome}
use Rattle.session.specs.declared.reply.Outcome.TheVariants.{Granted, Declined}

-- how two commands ended, of which both are to be granted
abbrev pub both : Outcome → Outcome → Outcome
both Granted other = other
both Declined other = Declined

-- the status of a process whose commands ended so
abbrev pub status_of : Outcome → ℕ
status_of Granted = 0
status_of Declined = 1

-- a word and the instruction that it is said of
abbrev pub spot_line : List ℕ → Spot → List ℕ
spot_line word s = word ++ (codes " " ++ (decimal s.thread ++ (codes " " ++ (decimal s.number ++ codes "\n"))))
