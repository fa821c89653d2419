use Rattle.std.proofs.Common.{◌≡◌}
use Rattle.listing.specs.Reading.{jump_failing}
use Rattle.listing.proofs.draft.Draft.check_jumps.Given as goal

-- nothing that was looked at fails
abbrev pub invariant-loop-code : goal.invariant-loop-code
invariant-loop-code l =
    jump_failing l.self.instruction_lines l.self.threads ≡ jump_failing l.code-iterator.b.rest.now l.code-iterator.a.rest.now
