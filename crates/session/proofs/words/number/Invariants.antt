use Rattle.std.proofs.Common.{◌≡◌, ◌≤◌, drop}
use Rattle.session.specs.Words.{up_to, value_from}
use Rattle.session.proofs.words.number.Given as goal

abbrev pub invariant-loop-digit : goal.invariant-loop-digit
invariant-loop-digit l =
    (l.value ≤ l.most) × (up_to l.most (value_from l.value (drop l.digit-index l.word)) ≡ up_to l.most (value_from 0 l.word))
