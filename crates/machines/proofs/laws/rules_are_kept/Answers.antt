use Rattle.machines.proofs.ByRules.{by_rules}
use Rattle.machines.proofs.Configured.{by_configuration}
use Rattle.machines.proofs.Following.{reads_own, waits_alone, one_thread, within_bound}
use Rattle.machines.proofs.Landing.{in_order, only_by_landing}
use Rattle.machines.proofs.UnbufferedRuled.{unbuffered_by_rules}
use Rattle.machines.proofs.laws.rules_are_kept.Goals as goal

pub returns-clause-unbuffered : goal.returns-clause-unbuffered
returns-clause-unbuffered c = unbuffered_by_rules

pub returns-clause-rules : goal.returns-clause-rules
returns-clause-rules c = by_rules

pub returns-clause-configurations : goal.returns-clause-configurations
returns-clause-configurations c = by_configuration

pub returns-clause-order : goal.returns-clause-order
returns-clause-order c = in_order

pub returns-clause-memory : goal.returns-clause-memory
returns-clause-memory c = only_by_landing

pub returns-clause-own : goal.returns-clause-own
returns-clause-own c = reads_own

pub returns-clause-alone : goal.returns-clause-alone
returns-clause-alone c = waits_alone

pub returns-clause-one : goal.returns-clause-one
returns-clause-one c = one_thread

pub returns-clause-bound : goal.returns-clause-bound
returns-clause-bound c = within_bound
