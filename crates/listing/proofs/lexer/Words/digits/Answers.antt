use Rattle.std.proofs.Common.{sym, ap, ◌∙◌}
use Rattle.listing.specs.Forms.{first, number, rest}
use Rattle.listing.specs.Taking.{left}
use Rattle.listing.proofs.FirstReads.{number_digits, number_word}
use Rattle.listing.proofs.NextWord.{number_first, word_first}
use Rattle.listing.proofs.lexer.Words.digits.Goals as goal

pub returns-in_default : goal.returns-in_default
returns-in_default c = λ low high.
    let h = c.in_ok-bytes.ensures in
    let are = word_first c.in_ok-bytes.field-0 c.in_default.field-0 c.in_default.field-1 c.args.self.now.line (left c.args.self.now) (left c.next.new.self) c.in_default.is h.comes in
    (h.line, ap (first (number low high)) are.0 ∙ number_word low high c.in_default.field-0.now are.1)

pub returns : goal.returns
returns c = λ low high.
    let h = c.in_ok-bytes.ensures in
    let are = number_first c.in_ok-bytes.field-0 c.in-Number.bytes c.in-Number.line c.args.self.now.line (left c.args.self.now) (left c.next.new.self) c.in-Number.is h.comes in
    (h.line, (h.smaller, (sym (ap rest are.0), ap (first (number low high)) are.0 ∙ number_digits low high c.in-Number.bytes.now are.1)))
