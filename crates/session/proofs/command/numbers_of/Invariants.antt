use Rattle.std.proofs.Common.{◌≡◌, Some, map, take}
use Rattle.session.specs.Words.{number_of}
use Rattle.session.proofs.command.numbers_of.Given as goal

abbrev pub invariant-loop-word : goal.invariant-loop-word
invariant-loop-word l = map (λ w. number_of 255 w.now) (take l.word-index l.words) ≡ map (λ n. Some n) l.numbers.items
