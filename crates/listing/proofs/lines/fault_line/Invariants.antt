use Rattle.std.proofs.Common.{◌≡◌, true}
use Rattle.listing.specs.Limits.{all}
use Rattle.listing.specs.Taking.{left, size}
use Rattle.listing.specs.Values.{condition_fits}
use Rattle.listing.proofs.Gathering.{Gathering}
use Rattle.listing.proofs.lines.fault_line.Given as goal

abbrev pub invariant-loop-written : goal.invariant-loop-written
invariant-loop-written l = (l.words.line ≡ l.line) × (all condition_fits l.fault ≡ true) × Gathering (left l.initial.words) (left l.words) l.fault l.wrong

abbrev pub decreases-loop-written : goal.decreases-loop-written
decreases-loop-written l = size l.words
