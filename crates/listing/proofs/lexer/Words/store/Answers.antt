use Rattle.std.proofs.Common.{Some, codes, refl, ap, ◌∙◌}
use Rattle.listing.specs.declared.code.Instruction.TheVariants as instructions
use Rattle.listing.specs.declared.refusal.Reason.TheVariants.{NoForm}
use Rattle.listing.specs.Forms.{operand, rest, variable}
use Rattle.listing.specs.Reading.{refusal}
use Rattle.listing.specs.Taking.{left, operand_read}
use Rattle.listing.proofs.FormRows.{store_row, no_store}
use Rattle.listing.proofs.SaidTogether.{two_none_1, two_none_2, two_said}
use Rattle.listing.proofs.lexer.Words.store.Goals as goal

pub returns-in_default : goal.returns-in_default
returns-in_default c =
    let b = c.in_default.ensures in
    let ws = left c.args.self.now in
    (c.at.ensures ∙ ap (refusal NoForm) b.0, no_store (codes "store") ws refl (two_none_1 instructions.Store variable operand ws b.1))

pub returns-in_default-operand : goal.returns-in_default-operand
returns-in_default-operand c =
    let h0 = c.in-Some.ensures in
    let b = c.in_default-operand.ensures in
    let ws = left c.args.self.now in
    (c.at-in_default-operand.ensures ∙ ap (refusal NoForm) (b.0 ∙ h0.0), no_store (codes "store") ws refl (two_none_2 instructions.Store variable operand ws h0.1.1.0 b.1))

pub returns : goal.returns
returns c =
    let h0 = c.in-Some.ensures in
    let h1 = c.in-Some-operand.ensures in
    let ws = left c.args.self.now in (
      h1.0 ∙ h0.0,
      store_row (codes "store") ws refl (h1.1.1.0 ∙ ap rest h0.1.1.0)
          (two_said instructions.Store variable operand ws (Some c.in-Some.variable) (operand_read c.in-Some-operand.operand) h0.1.1.0 h0.1.1.1 h1.1.1.1),
    )
