use Rattle.std.proofs.Common.{ap, ◌∙◌}
use Rattle.listing.specs.Forms.{called, first, variable}
use Rattle.listing.specs.Taking.{left}
use Rattle.listing.proofs.NextWord.{number_first}
use Rattle.listing.proofs.Spelled.{digits_no_variable}
use Rattle.listing.proofs.lexer.Words.variable.Goals as goal

pub returns-in_default : goal.returns-in_default
returns-in_default c =
    let h = c.in_ok-bytes.ensures in
    let are = number_first c.in_ok-bytes.field-0 c.in_default.field-0 c.in_default.field-1 c.args.self.now.line (left c.args.self.now) (left c.next.new.self) c.in_default.is h.comes in
    (h.line, ap (first variable) are.0 ∙ ap called (digits_no_variable c.in_default.field-0.now are.1))
