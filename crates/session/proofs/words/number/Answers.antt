use Rattle.std.proofs.Common.{◌∙◌, sym, arith}
use Rattle.std.proofs.Math.Seq.{drop-cons}
use Rattle.session.proofs.Numbers.{too_large}
use Rattle.session.proofs.words.number.Goals as goal

pub returns-then-value-most-clause-value : goal.returns-then-value-most-clause-value
returns-then-value-most-clause-value c =
    let i = c.loop-digit.digit-index in
    let word = c.args.word.now in
    too_large c.args.most c.loop-digit.value _ _ _ word (sym c.is_empty.ensures ∙ c.if-is_empty.false) (drop-cons word i 0 c.loop-digit-test.true)
    (sym c.is_ascii_digit.ensures.value ∙ c.if-not-is_ascii_digit.false) (omega (arith, c.if-value-most.true, c.from.ensures)) c.loop-digit.invariant.1
