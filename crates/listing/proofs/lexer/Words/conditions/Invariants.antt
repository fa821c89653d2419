use Rattle.std.proofs.Common.{◌≡◌}
use Rattle.listing.specs.Forms.{all_conditions, fault, no_form}
use Rattle.listing.specs.Taking.{left, size}
use Rattle.listing.proofs.lexer.Words.conditions.Given as goal

abbrev pub invariant-loop : goal.invariant-loop
invariant-loop l = (l.self.line ≡ l.fn.self.line) × (all_conditions (left l.self) ≡ no_form → fault (left l.fn.self) ≡ no_form)

abbrev pub decreases-loop : goal.decreases-loop
decreases-loop l = size l.self
