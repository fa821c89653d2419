use Rattle.std.proofs.Common.{◌≡◌, Ok, Err, refl, ap}
use Rattle.std.proofs.lemmas.Result.{err_from_is_err_and}
use Rattle.job.specs.Histories.{Read}
use Rattle.job.specs.States.{placement}
use Rattle.job.specs.Texts.{program_of}
use Rattle.job.proofs.Arising.{sound_next}
use Rattle.job.proofs.Readings.{same_reading}
use Rattle.job.proofs.job.Job.read.Goals as goal

pub returns-in_err-program : goal.returns-in_err-program
returns-in_err-program g c =
    let p = err_from_is_err_and c.from_residual.result c.from_residual.ensures.1 in
    let wrong = c.in_err-program.field-0.0 in
    let e : program_of c.args.text.now ≡ Err wrong = same_reading _ (Err wrong) c.in_err-program.ensures.value in
    rw (p.1, p.2, e) refl

pub invariant_of-self : goal.invariant_of-self
invariant_of-self g c =
    let e : program_of c.args.text.now ≡ Ok c.in_ok-program.program = same_reading _ (Ok c.in_ok-program.program) c.in_ok-program.ensures.value in
    let none : c.empty.result ≡ placement 0 = ap placement c.empty.ensures in
    sound_next (Read c.args.text.now) c.self.invariant c.of.ensures (rw (e, none) refl)

pub returns : goal.returns
returns g c =
    let e : program_of c.args.text.now ≡ Ok c.in_ok-program.program = same_reading _ (Ok c.in_ok-program.program) c.in_ok-program.ensures.value in
    let none : c.empty.result ≡ placement 0 = ap placement c.empty.ensures in
    rw (c.places.ensures.value, e, none) refl
