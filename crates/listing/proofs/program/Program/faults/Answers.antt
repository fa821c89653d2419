use Rattle.listing.proofs.Programs.{conditions_sound, lines_sound}
use Rattle.listing.proofs.program.Program.faults.Goals as goal

pub returns-clause-sound : goal.returns-clause-sound
returns-clause-sound c = rw c.as_slice.ensures (lines_sound c.args.self.now)

pub returns-clause-conditions : goal.returns-clause-conditions
returns-clause-conditions c = rw c.as_slice.ensures (conditions_sound c.args.self.now)
