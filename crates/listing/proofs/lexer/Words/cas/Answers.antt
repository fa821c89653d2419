use Rattle.std.proofs.Common.{Some, codes, refl, ap, ◌∙◌}
use Rattle.listing.specs.declared.code.Instruction.TheVariants as instructions
use Rattle.listing.specs.declared.refusal.Reason.TheVariants.{NoForm}
use Rattle.listing.specs.Forms.{operand, register, rest, variable}
use Rattle.listing.specs.Reading.{refusal}
use Rattle.listing.specs.Taking.{left, operand_read}
use Rattle.listing.proofs.FormRows.{cas_row, no_cas}
use Rattle.listing.proofs.SaidTogether.{four_none_1, four_none_2, four_none_3, four_none_4, four_said}
use Rattle.listing.proofs.lexer.Words.cas.Goals as goal

pub returns-in_default : goal.returns-in_default
returns-in_default c =
    let b = c.in_default.ensures in
    let ws = left c.args.self.now in
    (c.at.ensures ∙ ap (refusal NoForm) b.0, no_cas (codes "cas") ws refl (four_none_1 instructions.Cas register variable operand operand ws b.1))

pub returns-in_default-variable : goal.returns-in_default-variable
returns-in_default-variable c =
    let h0 = c.in-Some.ensures in
    let b = c.in_default-variable.ensures in
    let ws = left c.args.self.now in
    (c.at-in_default-variable.ensures ∙ ap (refusal NoForm) (b.0 ∙ h0.0), no_cas (codes "cas") ws refl (four_none_2 instructions.Cas register variable operand operand ws h0.1.1.0 b.1))

pub returns-in_default-operand : goal.returns-in_default-operand
returns-in_default-operand c =
    let h0 = c.in-Some.ensures in
    let h1 = c.in-Some-variable.ensures in
    let b = c.in_default-operand.ensures in
    let ws = left c.args.self.now in
    (c.at-in_default-operand.ensures ∙ ap (refusal NoForm) (b.0 ∙ h1.0 ∙ h0.0), no_cas (codes "cas") ws refl (four_none_3 instructions.Cas register variable operand operand ws h0.1.1.0 h1.1.1.0 b.1))

pub returns-in_default-operand-2 : goal.returns-in_default-operand-2
returns-in_default-operand-2 c =
    let h0 = c.in-Some.ensures in
    let h1 = c.in-Some-variable.ensures in
    let h2 = c.in-Some-operand.ensures in
    let b = c.in_default-operand-2.ensures in
    let ws = left c.args.self.now in
    (c.at-in_default-operand-2.ensures ∙ ap (refusal NoForm) (b.0 ∙ h2.0 ∙ h1.0 ∙ h0.0), no_cas (codes "cas") ws refl (four_none_4 instructions.Cas register variable operand operand ws h0.1.1.0 h1.1.1.0 h2.1.1.0 b.1))

pub returns : goal.returns
returns c =
    let h0 = c.in-Some.ensures in
    let h1 = c.in-Some-variable.ensures in
    let h2 = c.in-Some-operand.ensures in
    let h3 = c.in-Some-operand-2.ensures in
    let ws = left c.args.self.now in (
      h3.0 ∙ h2.0 ∙ h1.0 ∙ h0.0,
      cas_row (codes "cas") ws refl (h3.1.1.0 ∙ ap rest (h2.1.1.0 ∙ ap rest (h1.1.1.0 ∙ ap rest h0.1.1.0)))
          (four_said instructions.Cas register variable operand operand ws (Some c.in-Some.register) (Some c.in-Some-variable.variable) (operand_read c.in-Some-operand.old) (operand_read c.in-Some-operand-2.new) h0.1.1.0 h1.1.1.0 h2.1.1.0 h0.1.1.1 h1.1.1.1 h2.1.1.1 h3.1.1.1),
    )
