use Rattle.std.proofs.Common.{◌≡◌, Bool}
use Rattle.std.specs.Fn.{FnReturnsAt}
use Rattle.listing.specs.Reading.{first_failing}
use Rattle.listing.proofs.draft.finish.check.Given as goal

-- nothing that was looked at fails
abbrev pub invariant-loop-part : goal.invariant-loop-part
invariant-loop-part g l =
    (test : _ → Bool) → ((part : _) (b : Bool) → FnReturnsAt g.F.Fn l.passes part b → b ≡ test part)
    → first_failing test l.lines l.parts ≡ first_failing test l.part-iterator.b.rest.now l.part-iterator.a.rest.now
