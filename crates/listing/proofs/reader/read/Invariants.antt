use Rattle.std.proofs.Common.{◌≡◌, ◌+◌, ◌≤◌, length}
use Rattle.listing.specs.Drafts.{progress_of}
use Rattle.listing.specs.Reading.{nothing, read_lines}
use Rattle.listing.specs.Words.{lines}
use Rattle.listing.proofs.reader.read.Given as goal

abbrev pub invariant-loop-rest : goal.invariant-loop-rest
invariant-loop-rest l = (l.line + length l.rest ≤ 4096) × (read_lines (progress_of l.draft) (l.line + 1) (lines l.rest) ≡ read_lines nothing 1 (lines l.text))

abbrev pub decreases-loop-rest : goal.decreases-loop-rest
decreases-loop-rest l = length l.rest
