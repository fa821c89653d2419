use Rattle.std.proofs.Common.{◌≡◌, ◌∙◌, sym, ap}
use Rattle.job.specs.Calls.{Outcome}
use Rattle.session.specs.Held.{program_held}
use Rattle.session.proofs.HeldPrograms.{same_program}
use Rattle.session.proofs.desk.Desk.call.Goals as goal

pub invariant_of-self : goal.invariant_of-self
invariant_of-self g c =
    let made = c.call.ensures.answer in
    let left : program_held c.call.new.self ≡ program_held c.args.self.now.job =
    ap (λ (o : Outcome _). program_held o.state) made.2 ∙ same_program (λ p. g.K.Machine.means (g.K.Kind.made p)) c.args.self.now.job c.args.call _ made.0 c.requires in
    record { same = c.args.self.now.same ∙ sym left }
