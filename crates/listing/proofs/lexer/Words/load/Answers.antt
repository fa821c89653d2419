use Rattle.std.proofs.Common.{Some, codes, refl, ap, ◌∙◌}
use Rattle.listing.specs.declared.code.Instruction.TheVariants as instructions
use Rattle.listing.specs.declared.refusal.Reason.TheVariants.{NoForm}
use Rattle.listing.specs.Forms.{register, rest, variable}
use Rattle.listing.specs.Reading.{refusal}
use Rattle.listing.specs.Taking.{left}
use Rattle.listing.proofs.FormRows.{load_row, no_load}
use Rattle.listing.proofs.SaidTogether.{two_none_1, two_none_2, two_said}
use Rattle.listing.proofs.lexer.Words.load.Goals as goal

pub returns-in_default : goal.returns-in_default
returns-in_default c =
    let b = c.in_default.ensures in
    let ws = left c.args.self.now in
    (c.at.ensures ∙ ap (refusal NoForm) b.0, no_load (codes "load") ws refl (two_none_1 instructions.Load register variable ws b.1))

pub returns-in_default-variable : goal.returns-in_default-variable
returns-in_default-variable c =
    let h0 = c.in-Some.ensures in
    let b = c.in_default-variable.ensures in
    let ws = left c.args.self.now in
    (c.at-in_default-variable.ensures ∙ ap (refusal NoForm) (b.0 ∙ h0.0), no_load (codes "load") ws refl (two_none_2 instructions.Load register variable ws h0.1.1.0 b.1))

pub returns : goal.returns
returns c =
    let h0 = c.in-Some.ensures in
    let h1 = c.in-Some-variable.ensures in
    let ws = left c.args.self.now in (
      h1.0 ∙ h0.0,
      load_row (codes "load") ws refl (h1.1.1.0 ∙ ap rest h0.1.1.0)
          (two_said instructions.Load register variable ws (Some c.in-Some.register) (Some c.in-Some-variable.variable) h0.1.1.0 h0.1.1.1 h1.1.1.1),
    )
