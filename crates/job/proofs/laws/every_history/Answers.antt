use Rattle.job.proofs.Lawful.{lawful_made}
use Rattle.job.proofs.Promising.{always}
use Rattle.job.proofs.laws.every_history.Goals as goal

pub returns : goal.returns
returns g c = always (λ p. g.K.Machine.means (g.K.Kind.made p)) (lawful_made g.met.K.Machine.lawful g.met.K.Kind.its_own)
