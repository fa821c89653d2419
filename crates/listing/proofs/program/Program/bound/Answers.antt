use Rattle.listing.proofs.Counts.{at_most}
use Rattle.listing.proofs.Programs.{kept}
use Rattle.listing.proofs.program.Program.bound.Goals as goal

pub returns-clause-limit : goal.returns-clause-limit
returns-clause-limit c = at_most 1 4 c.args.self.now.bound (kept c.args.self.now).bound
