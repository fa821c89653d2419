use Rattle.std.proofs.Common.{◌≡◌, ◌+◌, ◌*◌, ◌^◌, ◌<◌, ◌≤◌, ◌++◌, count_ones}
use Rattle.arrayvec.specs.ArrayString.{array_string_len}
use Rattle.job.specs.Text.{befores, report}
use Rattle.job.proofs.lines.report_text.Given as goal

abbrev pub invariant-loop-place : goal.invariant-loop-place
invariant-loop-place l =
    record {
      can : (goal.iterator-loop-place).can_next l.place-iterator;
      ends : (goal.iterator-loop-place).is_finite l.place-iterator;
      small : l.place-iterator.left.mask < 2 ^ 32;
      room : array_string_len l.text + 15 * count_ones l.place-iterator.left.mask ≤ 498;
      joins : l.text.bytes ++ befores l.program 32 l.place-iterator.left.mask ≡ report l.program l.fn.kept;
    }
