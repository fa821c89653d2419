use Rattle.std.proofs.Common.{[], ◌∷◌, sym, ap, arith, ltb-false, ltb-true}
use Rattle.listing.specs.Names.{register_of}
use Rattle.listing.proofs.Spelled.{spelled, no_register}
use Rattle.listing.proofs.lines.register_named.Goals as goal

pub returns-in-114-clause-value : goal.returns-in-114-clause-value
unfolding register_of
returns-in-114-clause-value c = sym (ap register_of (spelled (114 ∷ 48 ∷ []) c.args.word.now (omega (arith, ltb-true, ltb-false))))

pub returns-in-114-2-clause-value : goal.returns-in-114-2-clause-value
unfolding register_of
returns-in-114-2-clause-value c = sym (ap register_of (spelled (114 ∷ 49 ∷ []) c.args.word.now (omega (arith, ltb-true, ltb-false))))

pub returns-in-114-3-clause-value : goal.returns-in-114-3-clause-value
unfolding register_of
returns-in-114-3-clause-value c = sym (ap register_of (spelled (114 ∷ 50 ∷ []) c.args.word.now (omega (arith, ltb-true, ltb-false))))

pub returns-in-114-4-clause-value : goal.returns-in-114-4-clause-value
unfolding register_of
returns-in-114-4-clause-value c = sym (ap register_of (spelled (114 ∷ 51 ∷ []) c.args.word.now (omega (arith, ltb-true, ltb-false))))

pub returns-in_default-clause-value : goal.returns-in_default-clause-value
returns-in_default-clause-value c = sym (no_register c.args.word.now (omega (arith, ltb-true, ltb-false)))

pub returns-in_default-2-clause-value : goal.returns-in_default-2-clause-value
returns-in_default-2-clause-value c = sym (no_register c.args.word.now (omega (arith, ltb-true, ltb-false)))

pub returns-in_default-3-clause-value : goal.returns-in_default-3-clause-value
returns-in_default-3-clause-value c = sym (no_register c.args.word.now (omega (arith, ltb-true, ltb-false)))

pub returns-in_default-4-clause-value : goal.returns-in_default-4-clause-value
returns-in_default-4-clause-value c = sym (no_register c.args.word.now (omega (arith, ltb-true, ltb-false)))
