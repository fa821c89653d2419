use Rattle.std.proofs.Common.{◌≡◌, ◌∙◌, ◌≤◌, ℕ, Bool, find, count_ones, length, option_map, refl, sym, ap, arith}
use Rattle.machines.specs.Places.{from_place, places_in}
use Rattle.search.specs.Enough.{enough}
use Rattle.search.specs.Explored.{room}
use Rattle.search.specs.Least.{choices}
use Rattle.search.proofs.Candidates.{last_of_all, none_of_size, of_size_first}
use Rattle.search.proofs.Placing.{no_least}
use Rattle.machines.proofs.Sets.{set_laws}
use Rattle.search.proofs.PlaceLists.{from_first}
use Rattle.search.proofs.Placements.{missing, placement, taken_first}
use Rattle.search.proofs.Testing.{fault_found}
use Rattle.search.proofs.least.Search.least.Goals as goal

-- with no place chosen yet, all open places are still to come
from_none : (f : ℕ → Bool) (none n v u : ℕ) → none ≡ 0 → v ≡ u → option_map placement (find f (choices none n (places_in (from_place v 0) 32))) ≡ option_map placement (find f (choices 0 n (places_in u 32)))
from_none f none n v u is same = rw (is, same, from_first u) refl

pub returns-then-not-is_enough : goal.returns-then-not-is_enough
returns-then-not-is_enough g c =
    let s = c.args.self.now in
    let p = s.unfenced.program.now in
    let law = g.met.M.Machine.lawful s.unfenced.machine.now in
    let fault = fault_found p law (room s.table) s.unbarred.mask (sym c.is_enough.ensures.answer ∙ c.if-not-is_enough.true) in
    sym (ap (option_map placement) (no_least p law (room s.table) s.unbarred.mask c.requires.fits fault))

pub loop-count-init : goal.loop-count-init
loop-count-init g c =
    let asked = c.is_enough.ensures.asked in
    record { unfenced = asked.0; unbarred = asked.1; rows = asked.2; known = c.is_enough.ensures.known; none = refl }

pub first_enough-places-requires-clause-fits : goal.first_enough-places-requires-clause-fits
first_enough-places-requires-clause-fits g c = let i = c.loop-count.invariant in rw (i.unfenced, i.rows) c.requires.fits

pub first_enough-places-requires-clause-known : goal.first_enough-places-requires-clause-known
first_enough-places-requires-clause-known g c = let i = c.loop-count.invariant in rw (i.unfenced) i.known

pub returns-then-is_some : goal.returns-then-is_some
returns-then-is_some g c =
    let s = c.args.self.now in
    let u = s.unbarred.mask in
    let f = enough s.unfenced.program.now (g.M.Machine.means s.unfenced.machine.now) (room s.table) in
    let i = c.loop-count.invariant in
    let within : c.loop-count.count ≤ length (places_in u 32) = omega (arith, set_laws.count u s.small, c.count-count-end.ensures.value, c.loop-count-test.true) in
    taken_first _ _ (of_size_first f (places_in u 32) c.loop-count.count i.none within) ((rw (i.unfenced, i.rows) at c.first_enough-places.ensures.answer) ∙ from_none f c.empty-none.result.mask c.loop-count.count c.loop-count.self.unbarred.mask u c.empty-none.ensures (ap (λ x. x.mask) i.unbarred)) c.if-is_some.ensures

pub loop-count-preserved : goal.loop-count-preserved
loop-count-preserved g c =
    let s = c.args.self.now in
    let u = s.unbarred.mask in
    let f = enough s.unfenced.program.now (g.M.Machine.means s.unfenced.machine.now) (room s.table) in
    let i = c.loop-count.invariant in
    let asked = c.first_enough-places.ensures.asked in
    let none = missing c.first_enough-places.result _ ((rw (i.unfenced, i.rows) at c.first_enough-places.ensures.answer) ∙ from_none f c.empty-none.result.mask c.loop-count.count c.loop-count.self.unbarred.mask u c.empty-none.ensures (ap (λ x. x.mask) i.unbarred)) c.if-is_some.ensures in
    record {
      unfenced = asked.0 ∙ i.unfenced;
      unbarred = asked.1 ∙ i.unbarred;
      rows = asked.2 ∙ i.rows;
      known = rw (i.unfenced) at c.first_enough-places.ensures.known;
      none = none_of_size f (places_in u 32) c.loop-count.count i.none none;
    }

pub returns : goal.returns
returns g c =
    let s = c.args.self.now in
    let f = enough s.unfenced.program.now (g.M.Machine.means s.unfenced.machine.now) (room s.table) in
    let all : c.loop-count.count ≡ count_ones s.unbarred.mask = omega (arith, c.count-count-end.ensures.value, c.loop-count-test.false, c.loop-count.auto.count-end) in
    sym (ap (option_map placement) (last_of_all f s.unbarred.mask s.small (rw (all) at c.loop-count.invariant.none) (sym c.is_enough.ensures.answer ∙ c.if-not-is_enough.false)))
