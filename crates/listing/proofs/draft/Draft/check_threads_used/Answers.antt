use Rattle.std.proofs.Common.{rules}
use Rattle.listing.specs.Reading.{some}
use Rattle.listing.proofs.Counts.{some_counted}
use Rattle.listing.proofs.draft.Draft.check_threads_used.Goals as goal

pub returns : goal.returns
returns c = rw (← c.as_slice-2.ensures, ← c.as_slice.ensures) (c.check.ensures some (λ part b h. search (rules, some_counted)))
