use Rattle.std.proofs.Common.{◌≡◌, ◌∙◌, true, Some, refl, ap, rules, nat_lt, sym}
use Rattle.std.proofs.lemmas.Bool.{not-false}
use Rattle.listing.specs.Code.{places}
use Rattle.machines.specs.Places.{has, removing}
use Rattle.job.specs.Histories.{Free}
use Rattle.job.specs.States.{placement}
use Rattle.job.proofs.Arising.{machine_of, sound_next}
use Rattle.job.proofs.job.Job.free.Goals as goal

pub invariant_of-self-2 : goal.invariant_of-self-2
invariant_of-self-2 g c =
    let l = c.in_ok-loaded.loaded.now in
    let is : c.self.inside.loaded ≡ Some l = search rules in
    let there : nat_lt c.args.place (places l.program) ≡ true = not-false _ (sym c.lacks.ensures.value ∙ c.if-lacks.false) in
    let held : has l.barred.mask c.args.place ≡ true = search rules in
    let barred : c.without-loaded.result ≡ placement (removing l.barred.mask c.args.place) = ap placement c.without-loaded.ensures in
    sound_next (Free c.args.place) c.self.invariant (machine_of c.self.invariant is) (rw (is, there, held, barred) refl)
