-- How much memory a session lends.
use Rattle.std.specs.Prelude.{◌≡◌, ℕ, vec_len}
use Rattle.session.specs.declared.command.Command.{Command}
use Rattle.session.specs.declared.command.Command.TheVariants.{Board, Rows, Runs}
use Rattle.session.specs.declared.lent.Lengths.{Lengths}
use Rattle.session.specs.declared.session.AnyDesk.{AnyDesk}
use Rattle.session.specs.declared.session.AnyDesk.TheVariants as desk
use Rattle.session.specs.declared.session.Session.{Session}
use Rattle.session.specs.Lengths.{IsAsLong}

abbrev pub lengths_of : Session → Lengths
lengths_of s = s.lengths

abbrev pub at_start : Lengths
at_start = record { rows = 8192; runs = 8192 }

-- after a command: only two of them change it
abbrev pub lengths_after : Command → Lengths → Lengths
lengths_after (Rows n) l = record { rows = n; runs = n }
lengths_after (Runs n) l = record { rows = l.rows; runs = n }
lengths_after _ l = l

-- the lists that the desk lends have these lengths
abbrev pub Lends : Lengths → AnyDesk → Type 0
Lends l (desk.Buffered d) = IsAsLong l d.lent
Lends l (desk.Unbuffered d) = IsAsLong l d.lent

-- the run list that the desk lends has this length
abbrev pub LendsRun : ℕ → AnyDesk → Type 0
LendsRun n (desk.Buffered d) = vec_len d.lent.run ≡ n
LendsRun n (desk.Unbuffered d) = vec_len d.lent.run ≡ n

-- what is lent after a command that makes new lists; l are the lengths that were noted before
abbrev pub LendsAfter : Command → Lengths → AnyDesk → Type 0
LendsAfter (Board b) l d = Lends l d
LendsAfter (Rows n) l d = Lends (record { rows = n; runs = n }) d
LendsAfter (Runs n) l d = LendsRun n d
LendsAfter _ l d = Unit {0}
