use Rattle.std.proofs.Common.{◌≡◌, Some, Ok, refl, ap, rules, sym, ◌∙◌}
use Rattle.machines.specs.Places.{first_places, outside}
use Rattle.search.specs.Answers.{least_placed}
use Rattle.search.specs.Enough.{rows_lent}
use Rattle.job.specs.Answers.{solution, solve_answer}
use Rattle.job.specs.Histories.{Solve}
use Rattle.job.specs.Loads.{held_in}
use Rattle.job.specs.States.{open_places}
use Rattle.job.proofs.Arising.{machine_of, sound_next}
use Rattle.job.proofs.Solving.{solved_as}
use Rattle.job.proofs.job.Job.solve.Goals as goal

pub invariant_of-self-2 : goal.invariant_of-self-2
invariant_of-self-2 g c =
    let l = c.in_ok-loaded.loaded.now in
    let p = l.program in
    let h = held_in l in
    let means = g.K.Machine.means in
    let n = rows_lent c.args.rows.now c.args.notes.now in
    let set = c.in_ok-places.places in
    let is : c.self.inside.loaded ≡ Some l = search rules in
    let own = machine_of c.self.invariant is in
    let found : c.least.result ≡ Ok set = search rules in
    let open_is : c.minus-open_places.result.mask ≡ open_places h = c.minus-open_places.ensures ∙ ap (λ s. outside s l.barred.mask) (c.below.ensures ∙ ap first_places c.places.ensures.value) in
    let least : least_placed p (means (g.K.Kind.made p)) n (open_places h) ≡ Ok set =
    ap (λ m. least_placed p (means m) n (open_places h)) (sym own) ∙ (ap (λ u. least_placed p (means l.machine) n u) (sym open_is) ∙ (sym c.least.ensures ∙ found)) in
    let answer : solve_answer (λ q. means (g.K.Kind.made q)) (Some h) n ≡ Ok (solution set.mask) = solved_as (λ q. means (g.K.Kind.made q)) h n set least in
    sound_next (Solve n) c.self.invariant own (rw (is, answer, c.count.ensures.value) refl)
