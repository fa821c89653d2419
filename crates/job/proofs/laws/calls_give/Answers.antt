use Rattle.job.proofs.Giving.{calls_leave, calls_refused, prints, runs}
use Rattle.job.proofs.Lawful.{lawful_made}
use Rattle.job.proofs.laws.calls_give.Goals as goal

pub returns-clause-prints : goal.returns-clause-prints
returns-clause-prints g c = prints

pub returns-clause-runs : goal.returns-clause-runs
returns-clause-runs g c = runs (λ p. g.K.Machine.means (g.K.Kind.made p))

pub returns-clause-refused : goal.returns-clause-refused
returns-clause-refused g c = calls_refused (λ p. g.K.Machine.means (g.K.Kind.made p)) (lawful_made g.met.K.Machine.lawful g.met.K.Kind.its_own)

pub returns-clause-left : goal.returns-clause-left
returns-clause-left g c = calls_leave (λ p. g.K.Machine.means (g.K.Kind.made p))
