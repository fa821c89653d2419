use Rattle.job.proofs.Placed.{placed_more}
use Rattle.job.proofs.Reporting.{printing}
use Rattle.job.proofs.laws.lines_are_printed.Goals as goal

pub returns : goal.returns
returns c = record { printing = printing; one_text = placed_more }
