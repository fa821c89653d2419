use Rattle.std.proofs.Common.{refl, rules}
use Rattle.session.proofs.Naming.{listed}
use Rattle.session.proofs.command.tested.Goals as goal

pub returns : goal.returns
returns c = record {
  rest = _;
  words = refl;
  numbers =
      listed (λ w. w.now) c.args.words.now c.in-Some.numbers.items c.deref.result.now c.in-Some-2.spots.items (search rules) c.deref.ensures.value
      (search rules);
}
