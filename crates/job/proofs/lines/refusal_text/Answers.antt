use Rattle.std.proofs.Common.{◌≡◌, ◌^◌, ◌<◌, [], ◌++◌, codes, ap, ◌∙◌, arith, rules}
use Rattle.listing.specs.Reasons.{number_of}
use Rattle.job.specs.Text.{decimal, refusal}
use Rattle.job.proofs.Appended.{after_five}
use Rattle.job.proofs.Decimal.{printed}
use Rattle.job.proofs.lines.refusal_text.Goals as goal

pub returns : goal.returns
unfolding refusal
returns c =
    let small : c.number.result < 2 ^ 8 = search rules in
    let short : c.args.refused.line < 2 ^ 16 = search rules in
    let number : c.format.result.now ≡ decimal (number_of c.args.refused.reason) = c.format.ensures.text ∙ (printed c.number.result (omega arith) ∙ ap decimal c.number.ensures) in
    let line : c.format-2.result.now ≡ decimal c.args.refused.line = c.format-2.ensures.text ∙ printed c.args.refused.line (omega arith) in
    let start : c.push_str.new.self.bytes ≡ [] ++ codes "refused " = c.push_str.ensures.bytes ∙ ap (λ t. t ++ codes "refused ") c.new-text.ensures in
    let second : c.push_str-2.new.self.bytes ≡ c.push_str.new.self.bytes ++ decimal (number_of c.args.refused.reason)
    = c.push_str-2.ensures.bytes ∙ ap (λ t. c.push_str.new.self.bytes ++ t) number in
    let fourth : c.push_str-4.new.self.bytes ≡ c.push_str-3.new.self.bytes ++ decimal c.args.refused.line
    = c.push_str-4.ensures.bytes ∙ ap (λ t. c.push_str-3.new.self.bytes ++ t) line in
    after_five [] (codes "refused ") (decimal (number_of c.args.refused.reason)) (codes " line ") (decimal c.args.refused.line) (codes "\n")
    start second c.push_str-3.ensures.bytes fourth c.push_str-5.ensures.bytes
