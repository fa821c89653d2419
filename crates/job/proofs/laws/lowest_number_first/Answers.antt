use Rattle.job.proofs.Lawful.{lawful_made}
use Rattle.job.proofs.Ordering.{in_order}
use Rattle.job.proofs.laws.lowest_number_first.Goals as goal

pub returns : goal.returns
returns g c = in_order (λ p. g.K.Machine.means (g.K.Kind.made p)) (lawful_made g.met.K.Machine.lawful g.met.K.Kind.its_own)
