use Rattle.machines.proofs.Everywhere.{no_queues}
use Rattle.machines.proofs.laws.fences_mean.Goals as goal

pub returns-clause-everywhere : goal.returns-clause-everywhere
returns-clause-everywhere g c = λ m. no_queues (g.M.Machine.program m) (g.M.Machine.means m) (g.met.M.Machine.lawful m)
