use Rattle.job.proofs.Readings.{reads_as}
use Rattle.job.proofs.laws.texts_are_read.Goals as goal

pub returns : goal.returns
returns c = reads_as
