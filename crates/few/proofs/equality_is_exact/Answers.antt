use Rattle.few.proofs.Sameness.{lists_decide}
use Rattle.few.proofs.equality_is_exact.Goals as goal

pub returns : goal.returns
returns g c = lists_decide g.row.N g.T.Filler.filler c.requires
