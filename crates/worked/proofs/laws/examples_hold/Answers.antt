use lib.Count.{ones, ones_in, count_trailing_zeros}
use Rattle.std.proofs.Common.{refl}
use Rattle.listing.specs.Forms.{number, operand, instruction, conditions, form}
use Rattle.listing.specs.Limits.{within_limits}
use Rattle.listing.specs.Names.{variable_of, register_of}
use Rattle.listing.specs.Reading.{may_stand, finished, reading}
use Rattle.listing.specs.Words.{lines, words}
use Rattle.machines.specs.Places.{places_in}
use Rattle.job.specs.Text.{report, befores, before, decimal, refusal}
use Rattle.job.specs.Texts.{program_of}
use Rattle.worked.specs.Examples.{examples}
use Rattle.worked.proofs.Passing.{Passed, rows_hold}
use Rattle.worked.proofs.laws.examples_hold.Goals as goal

-- the whole table by one computation; where it is refused, a shorter table shows which row is wrong
rows : Passed examples
unfolding program_of reading finished may_stand words lines variable_of register_of number operand instruction conditions form within_limits places_in report befores before decimal refusal ones ones_in count_trailing_zeros
rows = refl

pub returns : goal.returns
returns c = rows_hold examples rows
