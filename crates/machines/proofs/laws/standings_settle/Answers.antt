use Rattle.machines.proofs.Settling.{buffered_settles, unbuffered_settles}
use Rattle.machines.proofs.laws.standings_settle.Goals as goal

pub returns : goal.returns
returns c = record { buffered = buffered_settles; unbuffered = unbuffered_settles }
