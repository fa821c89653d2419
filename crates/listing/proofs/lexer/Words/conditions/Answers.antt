use Rattle.std.proofs.Common.{Ok, ◌∙◌, ap, refl, subst}
use Rattle.std.proofs.lemmas.Result.{err_from_is_err_and}
use Rattle.listing.specs.declared.refusal.Reason.TheVariants.{NoForm}
use Rattle.listing.specs.Reading.{refusal}
use Rattle.listing.specs.Taking.{TookCondition, left}
use Rattle.listing.proofs.Gathering.{formless_before, formless_fault}
use Rattle.listing.proofs.lexer.Words.conditions.Goals as goal

pub loop-init : goal.loop-init
loop-init c =
    let took = subst (λ o. TookCondition c.args.self c.condition.new.self (Ok o)) c.in-Some.is c.in_ok-condition.ensures in
    (took.0, λ none. formless_fault (left c.args.self) (formless_before c.args.self c.condition.new.self c.in-Some.field-0 took none))

pub returns-in_err-condition-2-clause-form : goal.returns-in_err-condition-2-clause-form
returns-in_err-condition-2-clause-form c =
    let q = err_from_is_err_and c.from_residual-in_err-condition-2.result c.from_residual-in_err-condition-2.ensures.1 in
    let told = c.in_err-condition-2.ensures in
    rw (q.1, q.2, told.0) (refl, c.loop.invariant.0)

pub returns-in_err-condition-2-clause-none : goal.returns-in_err-condition-2-clause-none
returns-in_err-condition-2-clause-none c =
    let q = err_from_is_err_and c.from_residual-in_err-condition-2.result c.from_residual-in_err-condition-2.ensures.1 in
    let told = c.in_err-condition-2.ensures in
    rw (q.1, q.2) (told.0 ∙ ap (refusal NoForm) c.loop.invariant.0, c.loop.invariant.1 told.1)

pub loop-preserved : goal.loop-preserved
loop-preserved c =
    let took = subst (λ o. TookCondition c.loop.self c.condition-in-loop.new.self (Ok o)) c.in-Some-2.is c.in_ok-condition-2.ensures in
    (took.0 ∙ c.loop.invariant.0, λ none. c.loop.invariant.1 (formless_before c.loop.self c.condition-in-loop.new.self c.in-Some-2.field-0 took none))
