use Rattle.std.proofs.Common.{codes, refl, ◌∙◌, ap, arith, rules, ltb-false, ltb-true}
use Rattle.std.proofs.lemmas.Result.{err_from_is_err_and}
use Rattle.listing.specs.declared.lines.Line.TheVariants as forms
use Rattle.listing.specs.declared.refusal.Reason.TheVariants.{NoForm}
use Rattle.listing.specs.Forms.{apply, ended, means, fault_line, instruction_line, thread_line}
use Rattle.listing.specs.Reading.{refusal}
use Rattle.listing.specs.Taking.{left, number_read}
use Rattle.listing.proofs.FirstWords.{bound_first, thread_first, fault_first, other_first, formed, formed_not}
use Rattle.listing.proofs.Spelled.{spelled}
use Rattle.listing.proofs.Stands.{bound_not, bound_long, bound_says, ended_some}
use Rattle.listing.proofs.lexer.Words.form.Goals as goal

pub returns-in_default-digits-clause-on : goal.returns-in_default-digits-clause-on
returns-in_default-digits-clause-on c = rw c.at-in_default-digits.ensures (refl, (c.in_default-digits.ensures 1 4).0)

pub returns-in_default-digits-clause-formed : goal.returns-in_default-digits-clause-formed
returns-in_default-digits-clause-formed c =
    let w = c.in-Word.bytes.now in
    let ws = left c.args.self in
    let told = c.in_default-digits.ensures 1 4 in
    formed_not c.args.first c.in-Word.bytes c.in-Word.line c.args.self c.in-Word.is _ c.at-in_default-digits.result refl (c.at-in_default-digits.ensures ∙ ap (refusal NoForm) told.0) ((bound_first w ws (spelled (codes "bound") w (omega (arith, ltb-true, ltb-false)))).0 ∙ bound_not ws told.1)

pub returns-in_err-end-in-bound-clause-on : goal.returns-in_err-end-in-bound-clause-on
returns-in_err-end-in-bound-clause-on c =
    let q = err_from_is_err_and c.from_residual.result c.from_residual.ensures.1 in
    let told = c.in_err-end-in-bound.ensures.form in
    rw (q.1, q.2) (told.0, told.1 ∙ (c.in-Some.ensures 1 4).0)

pub returns-in_err-end-in-bound-clause-formed : goal.returns-in_err-end-in-bound-clause-formed
returns-in_err-end-in-bound-clause-formed c =
    let w = c.in-Word.bytes.now in
    let ws = left c.args.self in
    let q = err_from_is_err_and c.from_residual.result c.from_residual.ensures.1 in
    let took = c.in-Some.ensures 1 4 in
    let told = c.in_err-end-in-bound.ensures.ends in
    formed_not c.args.first c.in-Word.bytes c.in-Word.line c.args.self c.in-Word.is _ q.0 q.1 (q.2 ∙ (told.0 ∙ ap (refusal NoForm) took.0)) ((bound_first w ws (spelled (codes "bound") w (omega (arith, ltb-true, ltb-false)))).0 ∙ bound_long ws (left c.digits.new.self) took.1.1.0 told.1)

pub returns-in_err-conditions-in-fault-clause-formed : goal.returns-in_err-conditions-in-fault-clause-formed
returns-in_err-conditions-in-fault-clause-formed c =
    let w = c.in-Word.bytes.now in
    let ws = left c.args.self in
    let q = err_from_is_err_and c.from_residual-in_err-conditions-in-fault.result c.from_residual-in_err-conditions-in-fault.ensures.1 in
    let told = c.in_err-conditions-in-fault.ensures.none in
    formed_not c.args.first c.in-Word.bytes c.in-Word.line c.args.self c.in-Word.is _ q.0 q.1 (q.2 ∙ told.0) ((fault_first w ws (spelled (codes "fault") w (omega (arith, ltb-true, ltb-false)))).0 ∙ ap (apply (means fault_line)) told.1)

pub returns-in_err-end-in-thread-clause-formed : goal.returns-in_err-end-in-thread-clause-formed
returns-in_err-end-in-thread-clause-formed c =
    let w = c.in-Word.bytes.now in
    let ws = left c.args.self in
    let q = err_from_is_err_and c.from_residual-in_err-end-in-thread.result c.from_residual-in_err-end-in-thread.ensures.1 in
    let told = c.in_err-end-in-thread.ensures.ends in
    formed_not c.args.first c.in-Word.bytes c.in-Word.line c.args.self c.in-Word.is _ q.0 q.1 (q.2 ∙ told.0) ((thread_first w ws (spelled (codes "thread") w (omega (arith, ltb-true, ltb-false)))).0 ∙ ended_some ws (means thread_line) told.1)

pub returns-in_err-instruction-in_default-bytes-clause-formed : goal.returns-in_err-instruction-in_default-bytes-clause-formed
returns-in_err-instruction-in_default-bytes-clause-formed c =
    let w = c.in-Word.bytes.now in
    let ws = left c.args.self in
    let q = err_from_is_err_and c.from_residual-in_err-instruction-in_default-bytes.result c.from_residual-in_err-instruction-in_default-bytes.ensures.1 in
    let told = c.in_err-instruction-in_default-bytes.ensures in
    formed_not c.args.first c.in-Word.bytes c.in-Word.line c.args.self c.in-Word.is _ q.0 q.1 (q.2 ∙ told.0) ((other_first w ws (λ s. search rules) (λ s. search rules) (λ s. search rules)).0 ∙ ap (apply (means instruction_line)) told.1)

pub returns-in_ok-end-in-bound-clause-formed : goal.returns-in_ok-end-in-bound-clause-formed
returns-in_ok-end-in-bound-clause-formed c =
    let w = c.in-Word.bytes.now in
    let ws = left c.args.self in
    let took = c.in-Some.ensures 1 4 in
    let f = bound_first w ws (spelled (codes "bound") w (omega (arith, ltb-true, ltb-false))) in
    formed c.args.first c.in-Word.bytes c.in-Word.line c.args.self c.in-Word.is (forms.Bound c.in-Some.digits) (f.0 ∙ bound_says ws (left c.digits.new.self) (number_read 1 4 c.in-Some.digits) took.1.1.0 c.in_ok-end-in-bound.ensures.ends took.1.1.1) f.1

pub returns-in_ok-end-in-thread-clause-formed : goal.returns-in_ok-end-in-thread-clause-formed
returns-in_ok-end-in-thread-clause-formed c =
    let w = c.in-Word.bytes.now in
    let ws = left c.args.self in
    let f = thread_first w ws (spelled (codes "thread") w (omega (arith, ltb-true, ltb-false))) in
    formed c.args.first c.in-Word.bytes c.in-Word.line c.args.self c.in-Word.is (forms.Thread) (f.0 ∙ ap (λ vs. ended vs (means thread_line)) c.in_ok-end-in-thread.ensures.ends) f.1

pub returns-in_ok-conditions-in-fault-clause-formed : goal.returns-in_ok-conditions-in-fault-clause-formed
returns-in_ok-conditions-in-fault-clause-formed c =
    let w = c.in-Word.bytes.now in
    let ws = left c.args.self in
    let f = fault_first w ws (spelled (codes "fault") w (omega (arith, ltb-true, ltb-false))) in
    formed c.args.first c.in-Word.bytes c.in-Word.line c.args.self c.in-Word.is (forms.Fault c.args.self) (f.0) f.1

pub returns-in_ok-instruction-in_default-bytes-clause-formed : goal.returns-in_ok-instruction-in_default-bytes-clause-formed
returns-in_ok-instruction-in_default-bytes-clause-formed c =
    let w = c.in-Word.bytes.now in
    let ws = left c.args.self in
    let f = other_first w ws (λ s. search rules) (λ s. search rules) (λ s. search rules) in
    formed c.args.first c.in-Word.bytes c.in-Word.line c.args.self c.in-Word.is (forms.Instruction c.in_ok-instruction-in_default-bytes.field-0) (f.0 ∙ ap (apply (means instruction_line)) c.in_ok-instruction-in_default-bytes.ensures) f.1
