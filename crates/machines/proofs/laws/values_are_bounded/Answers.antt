use Rattle.machines.specs.lawful.Bounded.{buffered_bounded, unbuffered_bounded}
use Rattle.machines.specs.lawful.Runs.{fewer_run}
use Rattle.machines.proofs.laws.values_are_bounded.Goals as goal

pub returns-clause-unbuffered : goal.returns-clause-unbuffered
returns-clause-unbuffered c = unbuffered_bounded

pub returns-clause-buffered : goal.returns-clause-buffered
returns-clause-buffered c = buffered_bounded

pub returns-clause-fenced : goal.returns-clause-fenced
returns-clause-fenced c = λ p fenced s r. buffered_bounded p s (record { steps = r.steps; run = fewer_run fenced _ r.run })
