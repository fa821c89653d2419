use Rattle.std.proofs.Common.{rules}
use Rattle.listing.specs.Limits.{all, condition_there}
use Rattle.listing.proofs.draft.Draft.check_faults.Goals as goal

pub returns : goal.returns
returns c = rw (← c.as_slice-2.ensures, ← c.as_slice.ensures) (c.check.ensures (all (condition_there c.args.self.now.threads)) (λ part b h. search rules))
