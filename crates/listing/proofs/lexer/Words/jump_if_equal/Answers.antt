use Rattle.std.proofs.Common.{Some, codes, refl, ap, ◌∙◌}
use Rattle.listing.specs.declared.code.Instruction.TheVariants as instructions
use Rattle.listing.specs.declared.refusal.Reason.TheVariants.{NoForm}
use Rattle.listing.specs.Forms.{operand, register, rest, target}
use Rattle.listing.specs.Reading.{refusal}
use Rattle.listing.specs.Taking.{left, number_read, operand_read}
use Rattle.listing.proofs.FormRows.{jeq_row, no_jeq}
use Rattle.listing.proofs.SaidTogether.{three_none_1, three_none_2, three_none_3, three_said}
use Rattle.listing.proofs.lexer.Words.jump_if_equal.Goals as goal

pub returns-in_default : goal.returns-in_default
returns-in_default c =
    let b = c.in_default.ensures in
    let ws = left c.args.self.now in
    (c.at.ensures ∙ ap (refusal NoForm) b.0, no_jeq (codes "jeq") ws refl (three_none_1 instructions.JumpIfEqual register operand target ws b.1))

pub returns-in_default-operand : goal.returns-in_default-operand
returns-in_default-operand c =
    let h0 = c.in-Some.ensures in
    let b = c.in_default-operand.ensures in
    let ws = left c.args.self.now in
    (c.at-in_default-operand.ensures ∙ ap (refusal NoForm) (b.0 ∙ h0.0), no_jeq (codes "jeq") ws refl (three_none_2 instructions.JumpIfEqual register operand target ws h0.1.1.0 b.1))

pub returns-in_default-digits : goal.returns-in_default-digits
returns-in_default-digits c =
    let h0 = c.in-Some.ensures in
    let h1 = c.in-Some-operand.ensures in
    let b = c.in_default-digits.ensures 0 16 in
    let ws = left c.args.self.now in
    (c.at-in_default-digits.ensures ∙ ap (refusal NoForm) (b.0 ∙ h1.0 ∙ h0.0), no_jeq (codes "jeq") ws refl (three_none_3 instructions.JumpIfEqual register operand target ws h0.1.1.0 h1.1.1.0 b.1))

pub returns : goal.returns
returns c =
    let h0 = c.in-Some.ensures in
    let h1 = c.in-Some-operand.ensures in
    let h2 = c.in-Some-digits.ensures 0 16 in
    let ws = left c.args.self.now in (
      h2.0 ∙ h1.0 ∙ h0.0,
      jeq_row (codes "jeq") ws refl (h2.1.1.0 ∙ ap rest (h1.1.1.0 ∙ ap rest h0.1.1.0))
          (three_said instructions.JumpIfEqual register operand target ws (Some c.in-Some.register) (operand_read c.in-Some-operand.operand) (number_read 0 16 c.in-Some-digits.target) h0.1.1.0 h1.1.1.0 h0.1.1.1 h1.1.1.1 h2.1.1.1),
    )
