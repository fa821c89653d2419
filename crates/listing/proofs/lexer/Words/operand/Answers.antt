use Rattle.std.proofs.Common.{sym, ap, ◌∙◌}
use Rattle.listing.specs.declared.code.Operand.TheVariants as operands
use Rattle.listing.specs.Forms.{apply, called, first, means, operand, rest}
use Rattle.listing.specs.Taking.{left}
use Rattle.listing.proofs.FirstReads.{operand_digits, operand_word}
use Rattle.listing.proofs.NextWord.{word_first, number_first}
use Rattle.listing.proofs.lexer.Words.operand.Goals as goal

pub returns-in-Number : goal.returns-in-Number
returns-in-Number c =
    let h = c.in_ok-bytes.ensures in
    let are = number_first c.in_ok-bytes.field-0 c.in-Number.bytes c.in-Number.line c.args.self.now.line (left c.args.self.now) (left c.next.new.self) c.in-Number.is h.comes in
    (h.line, (h.smaller, (sym (ap rest are.0), ap (first operand) are.0 ∙ operand_digits c.in-Number.bytes.now are.1)))

pub returns-in_default : goal.returns-in_default
returns-in_default c =
    let h = c.in_ok-bytes.ensures in
    let are = word_first c.in_ok-bytes.field-0 c.in-Word.bytes c.in-Word.line c.args.self.now.line (left c.args.self.now) (left c.next.new.self) c.in-Word.is h.comes in
    (h.line, ap (first operand) are.0 ∙ operand_word c.in-Word.bytes.now are.1 ∙ ap (λ o. apply (means operands.Register) (called o)) (sym c.register_named.ensures.value ∙ c.in_default.is))

pub returns-in-Some : goal.returns-in-Some
returns-in-Some c =
    let h = c.in_ok-bytes.ensures in
    let are = word_first c.in_ok-bytes.field-0 c.in-Word.bytes c.in-Word.line c.args.self.now.line (left c.args.self.now) (left c.next.new.self) c.in-Word.is h.comes in (
      h.line,
      (h.smaller, (sym (ap rest are.0), ap (first operand) are.0 ∙ operand_word c.in-Word.bytes.now are.1 ∙ ap (λ o. apply (means operands.Register) (called o)) (sym c.register_named.ensures.value ∙ c.in-Some.is))),
    )
