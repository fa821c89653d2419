use Rattle.job.proofs.Changing.{changes, opened, seen}
use Rattle.job.proofs.laws.calls_change.Goals as goal

pub returns-clause-changes : goal.returns-clause-changes
returns-clause-changes g c = changes (λ p. g.K.Machine.means (g.K.Kind.made p))

pub returns-clause-unbarred : goal.returns-clause-unbarred
returns-clause-unbarred g c = opened

pub returns-clause-seen : goal.returns-clause-seen
returns-clause-seen g c = seen
