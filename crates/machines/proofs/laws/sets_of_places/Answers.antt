use Rattle.machines.proofs.Sets.{set_laws}
use Rattle.machines.proofs.laws.sets_of_places.Goals as goal

pub returns : goal.returns
returns c = set_laws
