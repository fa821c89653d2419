use Rattle.std.proofs.Common.{◌≡◌, ◌∙◌, ◌⊎◌, ◌+◌, ◌-◌, inl, inr, find, option_map, sym, ap, arith}
use Rattle.machines.specs.Places.{from_place, places_in}
use Rattle.search.specs.Enough.{enough}
use Rattle.search.specs.Explored.{room}
use Rattle.search.specs.Least.{choices}
use Rattle.search.proofs.Choices.{found_next, found_nowhere}
use Rattle.search.proofs.Placements.{left_next, placement, taken_first}
use Rattle.search.proofs.Pruning.{pruned}
use Rattle.search.proofs.least.Search.+first_enough.Goals as goal
use Rattle.search.proofs.least.Search.+first_enough.Goals.{then-left-eq0, else-left-eq0}

pub returns-then-missed-clause-answer : goal.returns-then-missed-clause-answer
returns-then-missed-clause-answer g t c =
    let s = c.args.self.now in
    let which : (c.args.left ≡ 0) ⊎ (c.if-left-eq0.later.mask ≡ from_place s.unbarred.mask c.args.from) =
    elim c.if-left-eq0.branch [ then-left-eq0 w ↦ inl (w.if-left-eq0.true) | else-left-eq0 w ↦ inr (ap (λ x. x.mask) w.later-is ∙ w.from-later.ensures) ]
    in
    sym (ap (option_map placement) (pruned s.unfenced.program.now (g.met.M.Machine.lawful s.unfenced.machine.now) (room s.table) c.args.chosen c.if-left-eq0.later c.args.left (from_place s.unbarred.mask c.args.from) s.known.sets
    c.requires.fits c.requires.known (sym c.missed.ensures ∙ c.if-missed.true) which))

pub returns-in_err-place-clause-answer : goal.returns-in_err-place-clause-answer
returns-in_err-place-clause-answer g t c =
    let s = c.args.self.now in
    let f = enough s.unfenced.program.now (g.M.Machine.means s.unfenced.machine.now) (room s.table) in
    c.from_residual.ensures ∙ sym (ap (option_map placement) (found_nowhere f s.unbarred.mask c.args.from c.args.chosen.mask c.args.left c.if-left-eq0-2.false (sym c.in_err-place.ensures.value)))

pub returns-then-is_some-clause-answer : goal.returns-then-is_some-clause-answer
returns-then-is_some-clause-answer g t c =
    let s = c.args.self.now in
    let f = enough s.unfenced.program.now (g.M.Machine.means s.unfenced.machine.now) (room s.table) in
    let next = found_next f s.unbarred.mask c.args.from c.args.chosen.mask c.args.left c.if-left-eq0-2.false c.in_ok-place.place s.small (sym c.in_ok-place.ensures.value) in
    taken_first _ _ next (c.first_enough-taken.ensures.answer ∙ ap (λ x. option_map placement (find f (choices x (c.args.left - 1) (places_in (from_place s.unbarred.mask (c.in_ok-place.place + 1)) 32)))) c.with-more.ensures) c.if-is_some.ensures

pub first_enough-requires : goal.first_enough-requires
first_enough-requires g t c κs within =
    let asked = c.first_enough-taken.ensures.asked in
    (omega (arith, c.decreases, c.in_ok-place.ensures.limit, c.requires.from), (within.0, (within.1, (omega (arith, c.in_ok-place.ensures.limit), (rw (asked.0, asked.2) c.requires.fits, rw (asked.0) c.first_enough-taken.ensures.known)))))

pub returns-clause-answer : goal.returns-clause-answer
returns-clause-answer g t c =
    let s = c.args.self.now in
    let f = enough s.unfenced.program.now (g.M.Machine.means s.unfenced.machine.now) (room s.table) in
    let next = found_next f s.unbarred.mask c.args.from c.args.chosen.mask c.args.left c.if-left-eq0-2.false c.in_ok-place.place s.small (sym c.in_ok-place.ensures.value) in
    let asked = c.first_enough-taken.ensures.asked in
    left_next _ _ next (c.first_enough-taken.ensures.answer ∙ ap (λ x. option_map placement (find f (choices x (c.args.left - 1) (places_in (from_place s.unbarred.mask (c.in_ok-place.place + 1)) 32)))) c.with-more.ensures) c.if-is_some.ensures (rw (asked.0, asked.1, asked.2) at c.first_enough.ensures.answer)

pub returns-clause-known : goal.returns-clause-known
returns-clause-known g t c = rw (c.first_enough-taken.ensures.asked.0) at c.first_enough.ensures.known
