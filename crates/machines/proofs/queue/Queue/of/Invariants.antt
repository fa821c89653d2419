use Rattle.std.proofs.Common.{◌≡◌, take}
use Rattle.machines.proofs.queue.Queue.of.Given as goal

abbrev pub invariant-loop-write : goal.invariant-loop-write
invariant-loop-write l = l.queue ≡ take l.write-index l.write-items
