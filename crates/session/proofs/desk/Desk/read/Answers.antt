use Rattle.std.proofs.Common.{◌≡◌, ◌∙◌, true, sym, ap}
use Rattle.std.specs.Result.{is_ok, result_ok}
use Rattle.listing.specs.Reading.{told}
use Rattle.job.specs.declared.call.Answer.TheVariants as answer
use Rattle.job.specs.Answers.{places_of}
use Rattle.job.specs.Calls.{Outcome}
use Rattle.job.specs.Histories.{loaded}
use Rattle.job.specs.Texts.{program_of}
use Rattle.job.proofs.Readings.{same_reading}
use Rattle.session.specs.Held.{program_held}
use Rattle.session.proofs.HeldPrograms.{read_program}
use Rattle.session.proofs.desk.Desk.read.Goals as goal

pub invariant_of-self : goal.invariant_of-self
invariant_of-self g c =
    let made = c.call-answer.ensures.answer.2 in
    let r = c.read.result in
    let is : program_of c.args.text.now ≡ r = same_reading c.args.text.now r c.read.ensures.value in
    let answer : c.call-answer.result ≡ told answer.Places (places_of r) = ap (λ (o : Outcome _). o.result) made ∙ ap (λ x. told answer.Places (places_of x)) is in
    let ok : is_ok c.call-answer.result ≡ true = sym c.if-is_ok.ensures.value in
    let left : program_held c.call-answer.new.self ≡ result_ok r =
    ap (λ (o : Outcome _). program_held o.state) made ∙ (ap (λ x. program_held (loaded x c.args.self.now.job)) is ∙ read_program r c.args.self.now.job c.call-answer.result answer ok) in
    record { same = c.ok-self.ensures.value ∙ sym left }
