use Rattle.std.proofs.Common.{sym, ◌∙◌}
use Rattle.session.proofs.Replays.{begun, further}
use Rattle.session.proofs.run.put_steps.Goals as goal

pub loop-number-init : goal.loop-number-init
loop-number-init g c = begun (g.K.Machine.means c.args.machine.now) c.start-standing.result c.args.run.now c.start-standing.ensures

pub loop-number-preserved : goal.loop-number-preserved
loop-number-preserved g c =
    further (g.K.Machine.means c.args.machine.now) c.in-Some.taken c.args.run.now c.loop-number.number-index c.loop-number-test.true
    c.loop-number.invariant (sym c.step.ensures ∙ c.in-Some.is)
