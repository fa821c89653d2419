use Rattle.listing.proofs.Exact.{in_reach, programs_in_reach}
use Rattle.listing.proofs.Programs.{same_program}
use Rattle.listing.proofs.laws.reading_stands.Goals as goal

pub returns : goal.returns
returns c = record { in_reach = in_reach; programs_in_reach = programs_in_reach; known_by_lists = same_program }
