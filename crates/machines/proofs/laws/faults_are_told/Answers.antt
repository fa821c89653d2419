use Rattle.machines.proofs.Judged.{faults_are_told}
use Rattle.machines.proofs.laws.faults_are_told.Goals as goal

pub returns-clause-picture : goal.returns-clause-picture
returns-clause-picture g c = faults_are_told

pub returns-clause-machine : goal.returns-clause-machine
returns-clause-machine g c =
    λ m q shown. faults_are_told (g.M.Machine.program m) q ((g.met.M.Machine.lawful m).bounded q shown).shape
