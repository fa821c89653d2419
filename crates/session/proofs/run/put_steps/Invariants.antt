use Rattle.std.proofs.Common.{take}
use Rattle.machines.specs.Machines.{Run}
use Rattle.session.proofs.run.put_steps.Given as goal

abbrev pub invariant-loop-number : goal.invariant-loop-number
invariant-loop-number g l =
    Run (g.K.Machine.means l.machine) (g.K.Machine.means l.machine).start (take l.number-index l.run) l.standing
