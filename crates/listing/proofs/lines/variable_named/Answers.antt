use Rattle.std.proofs.Common.{[], ◌∷◌, sym, ap, arith, rules, ltb-false, ltb-true}
use Rattle.listing.specs.Names.{variable_of}
use Rattle.listing.proofs.Spelled.{spelled, no_variable}
use Rattle.listing.proofs.lines.variable_named.Goals as goal

pub returns-in-a-clause-value : goal.returns-in-a-clause-value
unfolding variable_of
returns-in-a-clause-value c = sym (ap variable_of (spelled (97 ∷ []) c.args.word.now (omega (arith, ltb-true, ltb-false))))

pub returns-in-b-clause-value : goal.returns-in-b-clause-value
unfolding variable_of
returns-in-b-clause-value c = sym (ap variable_of (spelled (98 ∷ []) c.args.word.now (omega (arith, ltb-true, ltb-false))))

pub returns-in-c-clause-value : goal.returns-in-c-clause-value
unfolding variable_of
returns-in-c-clause-value c = sym (ap variable_of (spelled (99 ∷ []) c.args.word.now (omega (arith, ltb-true, ltb-false))))

pub returns-in-d-clause-value : goal.returns-in-d-clause-value
unfolding variable_of
returns-in-d-clause-value c = sym (ap variable_of (spelled (100 ∷ []) c.args.word.now (omega (arith, ltb-true, ltb-false))))

pub returns-in-e-clause-value : goal.returns-in-e-clause-value
unfolding variable_of
returns-in-e-clause-value c = sym (ap variable_of (spelled (101 ∷ []) c.args.word.now (omega (arith, ltb-true, ltb-false))))

pub returns-in-f-clause-value : goal.returns-in-f-clause-value
unfolding variable_of
returns-in-f-clause-value c = sym (ap variable_of (spelled (102 ∷ []) c.args.word.now (omega (arith, ltb-true, ltb-false))))

pub returns-in-g-clause-value : goal.returns-in-g-clause-value
unfolding variable_of
returns-in-g-clause-value c = sym (ap variable_of (spelled (103 ∷ []) c.args.word.now (omega (arith, ltb-true, ltb-false))))

pub returns-in-h-clause-value : goal.returns-in-h-clause-value
unfolding variable_of
returns-in-h-clause-value c = sym (ap variable_of (spelled (104 ∷ []) c.args.word.now (omega (arith, ltb-true, ltb-false))))

pub returns-in_default-clause-value : goal.returns-in_default-clause-value
returns-in_default-clause-value c = sym (no_variable c.args.word.now (omega (arith, ltb-true, ltb-false)))

pub returns-in_default-2-clause-value : goal.returns-in_default-2-clause-value
returns-in_default-2-clause-value c = sym (no_variable c.args.word.now (search rules))

pub returns-in_default-3-clause-value : goal.returns-in_default-3-clause-value
returns-in_default-3-clause-value c = sym (no_variable c.args.word.now (omega (arith, ltb-true, ltb-false)))
