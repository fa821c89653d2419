use Rattle.job.proofs.Lawful.{lawful_made}
use Rattle.job.proofs.Promising.{promised}
use Rattle.job.proofs.job.Job.keeps_its_promises.Goals as goal

pub returns : goal.returns
returns g c = rw (← c.self.view_is) (promised (λ p. g.K.Machine.means (g.K.Kind.made p)) (lawful_made g.met.K.Machine.lawful g.met.K.Kind.its_own) _ c.self.invariant.arisen)
