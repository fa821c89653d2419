use Rattle.std.proofs.Common.{ap, ◌∙◌}
use Rattle.machines.specs.Places.{lowest}
use Rattle.machines.proofs.Masks.{lowest_from}
use Rattle.machines.proofs.placement.Placement.lowest_from.Goals as goal

pub returns-clause-limit : goal.returns-clause-limit
returns-clause-limit c =
    lowest_from c.args.self.mask c.args.start c.lowest.result (c.lowest.ensures.value ∙ ap lowest c.from.ensures) c.lowest.ensures.limit
