use Rattle.std.proofs.Common.{◌∙◌, ap, subst}
use Rattle.machines.specs.Places.{outside}
use Rattle.search.specs.Crossed.{Apart}
use Rattle.search.proofs.Noting.{smaller}
use Rattle.search.proofs.least.Search.fewer.Goals as goal

pub loop-preserved : goal.loop-preserved
loop-preserved g c =
    let i = c.loop.invariant in
    let asked = c.in-Some.ensures.asked in
    let found = c.in-Some.found.mask in
    let half = c.higher_half.result.mask in
    let noted = rw (i.2) at c.in-Some.ensures.found.1 in
    let apart = subst (Apart found) (c.minus-fences.ensures ∙ ap (λ x. outside x half) c.below.ensures) c.in-Some.ensures.found.2 in (
      noted,
      λ q h. i.1 q (smaller (g.met.M.Machine.lawful c.args.self.now.unfenced.machine.now) half c.loop.kept.mask found c.higher_half.ensures noted apart q h),
      asked.0 ∙ i.2,
      asked.1 ∙ i.3,
      asked.2 ∙ i.4,
      asked.3 ∙ i.5,
    )
