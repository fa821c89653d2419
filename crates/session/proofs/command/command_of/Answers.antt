use Rattle.std.proofs.Common.{◌≤◌, length, arith, rules}
use Rattle.session.proofs.ManyWords.{many}
use Rattle.session.proofs.command.command_of.Goals as goal

pub returns-clause-none : goal.returns-clause-none
returns-clause-none c =
    let long : 4 ≤ length c.in_ok-words.words.items = grind (arith, c.as_slice.ensures.value, c.in_default.branch) in
    many (λ w. w.now) c.in_ok-words.words.items _ long (search rules)
