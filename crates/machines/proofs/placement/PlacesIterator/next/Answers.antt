use Rattle.std.proofs.Common.{◌≡◌, ◌+◌, ap, ◌∙◌, count_ones, arith}
use Rattle.machines.proofs.Masks.{has_lowest, fewer_without}
use Rattle.machines.proofs.placement.PlacesIterator.next.Goals as goal

pub returns-clause-goes : goal.returns-clause-goes
returns-clause-goes c =
    let set = c.args.self.now.left.mask in
    let place = c.in_ok-place.place in
    let fewer : count_ones c.without-self.result.mask + 1 ≡ count_ones set =
    ap (λ m. count_ones m + 1) c.without-self.ensures ∙ fewer_without set place (has_lowest set place c.in_ok-place.ensures.limit c.in_ok-place.ensures.value) in
    record { on = λ _. (tt, tt, omega arith); keeps = tt; rests = λ _. tt }
