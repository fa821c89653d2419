use Rattle.search.specs.Least.{Within}
use Rattle.search.proofs.least.higher_half.Given as goal

abbrev pub invariant-loop : goal.invariant-loop
invariant-loop l = Within l.left.mask l.fn.places.mask
