use Rattle.job.proofs.Listed.{has_these}
use Rattle.job.proofs.laws.sets_are_their_places.Goals as goal

pub returns : goal.returns
returns c = has_these
