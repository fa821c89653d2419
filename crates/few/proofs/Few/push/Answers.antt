use Rattle.std.proofs.Common.{rules}
use Rattle.few.proofs.Kept.{one_more}
use Rattle.few.proofs.Few.push.Goals as goal

pub invariant_of-self : goal.invariant_of-self
invariant_of-self g c =
    let kept = one_more c.self.inside.len g.row.N c.self.inside.items g.T.Filler.filler c.args.item c.self.invariant.2 in search rules
