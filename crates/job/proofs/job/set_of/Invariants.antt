use Rattle.std.proofs.Common.{◌≡◌, drop}
use Rattle.listing.specs.Code.{places}
use Rattle.job.specs.Checks.{set_within}
use Rattle.job.proofs.job.set_of.Given as goal

abbrev pub invariant-loop-place : goal.invariant-loop-place
invariant-loop-place l = set_within (places l.program) l.set.mask (drop l.place-index l.places) ≡ set_within (places l.fn.program) 0 l.fn.places
