use Rattle.std.proofs.Common.{◌≡◌, [], length, Ok, Err, sym, refl, ap, ◌∙◌, subst, arith}
use Rattle.std.proofs.lemmas.Bool.{and_from, eqb-true, eqb-false}
use Rattle.listing.specs.Forms.{all_conditions, more}
use Rattle.listing.specs.Taking.{left, said, fitted, TookCondition}
use Rattle.listing.specs.Values.{condition_fits}
use Rattle.listing.proofs.Counts.{is_between}
use Rattle.listing.proofs.Gathering.{Gathering, gather_start, gather_kept, gather_past, gather_out, gather_ended, wrong_end, none_end, granted_end, few_held}
use Rattle.listing.proofs.Kept.{all_push}
use Rattle.listing.proofs.ReadFits.{condition_read_fits}
use Rattle.listing.proofs.lines.fault_line.Goals as goal

pub loop-written-init : goal.loop-written-init
loop-written-init c = (refl, rw c.new-fault.ensures refl, gather_start (left c.args.words) c.new-fault.result c.new-fault.ensures)

pub loop-written-preserved-in-Err : goal.loop-written-preserved-in-Err
loop-written-preserved-in-Err c =
    let took = subst (λ o. TookCondition c.loop-written.words c.condition.new.self (Ok o)) c.in-Some.is c.in_ok-written.ensures in
    let g = c.loop-written.invariant.2 in
    (took.0 ∙ c.loop-written.invariant.0, c.loop-written.invariant.1, rw c.in-Err.ensures.1 (gather_out _ _ _ _ _ g (took.1.1 ∙ ap (λ o. more (said o) (all_conditions (left c.condition.new.self))) c.in-Err.ensures.0)))

pub loop-written-preserved-then-not-is_full : goal.loop-written-preserved-then-not-is_full
loop-written-preserved-then-not-is_full c =
    let took = subst (λ o. TookCondition c.loop-written.words c.condition.new.self (Ok o)) c.in-Some.is c.in_ok-written.ensures in
    let g = c.loop-written.invariant.2 in
    let short = eqb-false (length c.loop-written.fault) 6 (sym c.if-not-is_full.ensures.value) in (
      took.0 ∙ c.loop-written.invariant.0,
      rw c.push.ensures (all_push condition_fits c.loop-written.fault c.in-Ok.condition c.loop-written.invariant.1 (condition_read_fits c.in-Some.written c.in-Ok.condition c.in-Ok.ensures)),
      gather_kept _ _ _ _ _ g c.in-Ok.condition c.push.new.self (took.1.1 ∙ ap (λ o. more (said o) (all_conditions (left c.condition.new.self))) c.in-Ok.ensures) (omega (arith, short, c.if-not-is_full.ensures.within)) c.push.ensures,
    )

pub loop-written-preserved : goal.loop-written-preserved
loop-written-preserved c =
    let took = subst (λ o. TookCondition c.loop-written.words c.condition.new.self (Ok o)) c.in-Some.is c.in_ok-written.ensures in
    let g = c.loop-written.invariant.2 in
    let many = eqb-true (length c.loop-written.fault) 6 (sym c.if-not-is_full.ensures.value) in (
      took.0 ∙ c.loop-written.invariant.0,
      c.loop-written.invariant.1,
      rw c.or-wrong.ensures
          (gather_past _ _ _ _ _ g c.in-Ok-2.field-0 (took.1.1 ∙ ap (λ o. more (said o) (all_conditions (left c.condition.new.self))) c.in-Ok-2.ensures) (omega (arith, many))),
    )

pub returns-in-Some-wrong-clause-value : goal.returns-in-Some-wrong-clause-value
returns-in-Some-wrong-clause-value c =
    let ws = left c.args.words in
    let g = gather_ended ws c.loop-written.words c.condition.new.self c.in_ok-written.field-0 c.loop-written.fault c.loop-written.wrong c.in_ok-written.ensures c.in_default.is c.loop-written.invariant.2 in
    let h = subst (λ o. Gathering ws [] c.loop-written.fault o) c.in-Some-wrong.is g in
    ap Err c.at.ensures ∙ sym (wrong_end ws c.loop-written.fault c.args.words.line c.in-Some-wrong.reason h)

pub returns-then-is_empty-clause-value : goal.returns-then-is_empty-clause-value
returns-then-is_empty-clause-value c =
    let ws = left c.args.words in
    let g = gather_ended ws c.loop-written.words c.condition.new.self c.in_ok-written.field-0 c.loop-written.fault c.loop-written.wrong c.in_ok-written.ensures c.in_default.is c.loop-written.invariant.2 in
    let h = subst (λ o. Gathering ws [] c.loop-written.fault o) c.in_default-wrong.is g in
    let none : length c.loop-written.fault ≡ 0 = eqb-true _ _ (sym c.if-is_empty.ensures) in
    ap Err c.at-then-is_empty.ensures ∙ sym (ap (fitted c.args.words.line) (none_end ws c.loop-written.fault h none))

pub returns-clause-value : goal.returns-clause-value
returns-clause-value c =
    let ws = left c.args.words in
    let g = gather_ended ws c.loop-written.words c.condition.new.self c.in_ok-written.field-0 c.loop-written.fault c.loop-written.wrong c.in_ok-written.ensures c.in_default.is c.loop-written.invariant.2 in
    let h = subst (λ o. Gathering ws [] c.loop-written.fault o) c.in_default-wrong.is g in
    let none = eqb-false _ _ (sym c.if-is_empty.ensures) in
    sym (granted_end ws c.loop-written.fault c.args.words.line h (omega arith))

pub returns-clause-fits : goal.returns-clause-fits
returns-clause-fits c =
    let ws = left c.args.words in
    let g = gather_ended ws c.loop-written.words c.condition.new.self c.in_ok-written.field-0 c.loop-written.fault c.loop-written.wrong c.in_ok-written.ensures c.in_default.is c.loop-written.invariant.2 in
    let h = subst (λ o. Gathering ws [] c.loop-written.fault o) c.in_default-wrong.is g in
    let none = eqb-false _ _ (sym c.if-is_empty.ensures) in
    and_from _ _ (is_between 1 6 (length c.loop-written.fault) (omega arith) (few_held ws c.loop-written.fault h)) c.loop-written.invariant.1
