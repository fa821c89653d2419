use Rattle.std.proofs.Common.{◌∙◌, sym}
use Rattle.listing.proofs.Cuts.{line_front, line_rest, line_whole, line_none_left}
use Rattle.listing.proofs.lexer.first_line.Goals as goal

pub returns-in-Some-clause-line : goal.returns-in-Some-clause-line
returns-in-Some-clause-line c = line_front c.args.text.now c.in-Some.end (sym c.line_end.ensures ∙ c.in-Some.is)

pub returns-in-Some-clause-rest : goal.returns-in-Some-clause-rest
returns-in-Some-clause-rest c = line_rest c.args.text.now c.in-Some.end (sym c.line_end.ensures ∙ c.in-Some.is)

pub returns-in-None-clause-line : goal.returns-in-None-clause-line
returns-in-None-clause-line c = line_whole c.args.text.now (sym c.line_end.ensures ∙ c.in-None.is)

pub returns-in-None-clause-rest : goal.returns-in-None-clause-rest
returns-in-None-clause-rest c = line_none_left c.args.text.now (sym c.line_end.ensures ∙ c.in-None.is)
