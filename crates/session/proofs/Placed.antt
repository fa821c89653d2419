-- What is written first into a buffer. Nothing is assumed.
use Rattle.std.proofs.Common.{◌≡◌, ◌+◌, ℕ, List, length, take, drop}
use Rattle.std.proofs.Math.Seq.{take-append_seam}
use Rattle.job.specs.Text.{placed}

pub written_first : (out text : List ℕ) → take (length text) (placed out 0 text) ≡ text
written_first out text = take-append_seam text (drop (0 + length text) out)
