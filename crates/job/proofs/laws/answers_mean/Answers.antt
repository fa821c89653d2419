use Rattle.job.proofs.Judging.{verdicts}
use Rattle.job.proofs.Lawful.{lawful_made}
use Rattle.job.proofs.Leaving.{memory_left}
use Rattle.job.proofs.laws.answers_mean.Goals as goal

pub returns-clause-verdicts : goal.returns-clause-verdicts
returns-clause-verdicts g c = verdicts (λ p. g.K.Machine.means (g.K.Kind.made p)) (lawful_made g.met.K.Machine.lawful g.met.K.Kind.its_own)

pub returns-clause-memory : goal.returns-clause-memory
returns-clause-memory g c = memory_left (λ p. g.K.Machine.means (g.K.Kind.made p))
