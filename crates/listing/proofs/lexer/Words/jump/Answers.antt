use Rattle.std.proofs.Common.{codes, refl, ap, ◌∙◌}
use Rattle.listing.specs.declared.code.Instruction.TheVariants as instructions
use Rattle.listing.specs.declared.refusal.Reason.TheVariants.{NoForm}
use Rattle.listing.specs.Forms.{target}
use Rattle.listing.specs.Reading.{refusal}
use Rattle.listing.specs.Taking.{left, number_read}
use Rattle.listing.proofs.FormRows.{jump_row, no_jump}
use Rattle.listing.proofs.SaidTogether.{one_none, one_said}
use Rattle.listing.proofs.lexer.Words.jump.Goals as goal

pub returns-in_default : goal.returns-in_default
returns-in_default c =
    let b = c.in_default.ensures 0 16 in
    let ws = left c.args.self.now in
    (c.at.ensures ∙ ap (refusal NoForm) b.0, no_jump (codes "jump") ws refl (one_none instructions.Jump target ws b.1))

pub returns : goal.returns
returns c =
    let h0 = c.in-Some.ensures 0 16 in
    let ws = left c.args.self.now in (
      h0.0,
      jump_row (codes "jump") ws refl h0.1.1.0
          (one_said instructions.Jump target ws (number_read 0 16 c.in-Some.target) h0.1.1.1),
    )
