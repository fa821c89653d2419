use Rattle.console.proofs.Telling.{tells}
use Rattle.console.proofs.laws.console_tells.Goals as goal

pub returns : goal.returns
returns c = tells
