use Rattle.machines.proofs.Starting.{all_at_rest, starts_at_rest}
use Rattle.machines.proofs.laws.machines_start.Goals as goal

pub returns-clause-picture : goal.returns-clause-picture
returns-clause-picture g c = all_at_rest

pub returns-clause-machine : goal.returns-clause-machine
returns-clause-machine g c = λ m. starts_at_rest (g.met.M.Machine.lawful m)
