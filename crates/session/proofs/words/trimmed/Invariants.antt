use Rattle.std.proofs.Common.{◌≡◌, ℕ, ◌-◌, ◌<◌, ◌≤◌, length, slice_index}
use Rattle.session.proofs.words.trimmed.Given as goal

abbrev pub invariant-loop-start : goal.invariant-loop-start
invariant-loop-start l = (l.start ≤ length l.bytes) × ((k : ℕ) → k < l.start → slice_index l.bytes k ≡ 32)

abbrev pub decreases-loop-start : goal.decreases-loop-start
decreases-loop-start l = length l.bytes - l.start

abbrev pub invariant-loop-end : goal.invariant-loop-end
invariant-loop-end l = (l.start ≤ l.end) × (l.end ≤ length l.bytes) × ((k : ℕ) → l.end ≤ k → k < length l.bytes → slice_index l.bytes k ≡ 32)

abbrev pub decreases-loop-end : goal.decreases-loop-end
decreases-loop-end l = l.end
