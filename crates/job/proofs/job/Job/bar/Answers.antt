use Rattle.std.proofs.Common.{◌≡◌, ◌∙◌, true, false, Some, refl, ap, rules, nat_lt, sym}
use Rattle.std.proofs.lemmas.Bool.{not-false}
use Rattle.listing.specs.Code.{places}
use Rattle.machines.specs.Places.{has, adding}
use Rattle.job.specs.Histories.{Bar}
use Rattle.job.specs.States.{placement}
use Rattle.job.proofs.Arising.{machine_of, sound_next}
use Rattle.job.proofs.job.Job.bar.Goals as goal

pub invariant_of-self-2 : goal.invariant_of-self-2
invariant_of-self-2 g c =
    let l = c.in_ok-loaded.loaded.now in
    let is : c.self.inside.loaded ≡ Some l = search rules in
    let there : nat_lt c.args.place (places l.program) ≡ true = not-false _ (sym c.lacks.ensures.value ∙ c.if-lacks.false) in
    let free : has l.barred.mask c.args.place ≡ false = sym c.if-contains.ensures in
    let barred : c.with-loaded.result ≡ placement (adding l.barred.mask c.args.place) = ap placement c.with-loaded.ensures in
    sound_next (Bar c.args.place) c.self.invariant (machine_of c.self.invariant is) (rw (is, there, free, barred) refl)
