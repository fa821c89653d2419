use Rattle.std.proofs.Common.{◌-◌}
use Rattle.search.proofs.least.Search.+first_enough.Given as goal

abbrev pub decreases-first_enough : goal.decreases-first_enough
decreases-first_enough g l = 32 - l.from
