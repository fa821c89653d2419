use Rattle.std.proofs.Common.{◌≡◌, ◌∙◌, ◌≤◌, None, Ok, Err, ap, sym, subst, length}
use Rattle.std.proofs.lemmas.Result.{err_from_is_err_and}
use Rattle.listing.specs.Reading.{told}
use Rattle.machines.specs.declared.standing.Standing.{Standing}
use Rattle.machines.specs.Buffered.{buffered}
use Rattle.search.specs.Enough.{rows_lent}
use Rattle.job.specs.declared.call.Answer.TheVariants as answer
use Rattle.job.specs.Answers.{solve_answer}
use Rattle.job.specs.Calls.{Lists, Outcome}
use Rattle.job.specs.Histories.{Solve, loaded, next}
use Rattle.job.specs.Texts.{program_of}
use Rattle.console.specs.Prints.{report_or_refusal, reported}
use Rattle.console.proofs.Printing.{refused, written}
use Rattle.console.proofs.answer.report.Goals as goal

pub returns-in_err-call-2-clause-value : goal.returns-in_err-call-2-clause-value
returns-in_err-call-2-clause-value c =
    let text = c.args.text.now in
    let n = rows_lent c.args.memory.now.rows.now c.args.memory.now.notes.now in
    let s = c.call.new.self in
    let first = c.call.ensures.answer.2 in
    let second = c.call-2.ensures.answer.2 in
    let same = ap (λ (o : Outcome Standing). o.lists) first in
    let held : s ≡ loaded (program_of text) None = ap (λ (o : Outcome Standing). o.state) first ∙ ap (loaded (program_of text)) c.new-job.ensures in
    let rows : rows_lent c.call.new.memory.rows.now c.call.new.memory.notes.now ≡ n = ap (λ (l : Lists Standing). rows_lent l.rows l.notes) same in
    let solving = ap (λ (o : Outcome Standing). o.result) second ∙ ap (λ k. told answer.Solved (solve_answer buffered s k)) rows in
    let p = err_from_is_err_and c.from_residual-in_err-call-2.result c.from_residual-in_err-call-2.ensures.1 in
    refused text n (sym c.in_ok-call.was ∙ ap (λ (o : Outcome Standing). o.result) first) held (sym c.in_err-call-2.was ∙ solving) (p.1 ∙ ap Err p.2)
    (ap (λ (o : Outcome Standing). o.lists.out) second ∙ ap (λ (l : Lists Standing). l.out) same)

pub returns-clause-value : goal.returns-clause-value
returns-clause-value c =
    let text = c.args.text.now in
    let n = rows_lent c.args.memory.now.rows.now c.args.memory.now.notes.now in
    let s = c.call.new.self in
    let out = c.call-2.new.memory.out.now in
    let first = c.call.ensures.answer.2 in
    let second = c.call-2.ensures.answer.2 in
    let third = c.call-3.ensures.answer.2 in
    let same = ap (λ (o : Outcome Standing). o.lists) first in
    let held : s ≡ loaded (program_of text) None = ap (λ (o : Outcome Standing). o.state) first ∙ ap (loaded (program_of text)) c.new-job.ensures in
    let rows : rows_lent c.call.new.memory.rows.now c.call.new.memory.notes.now ≡ n = ap (λ (l : Lists Standing). rows_lent l.rows l.notes) same in
    let solving = ap (λ (o : Outcome Standing). o.result) second ∙ ap (λ k. told answer.Solved (solve_answer buffered s k)) rows in
    let kept = ap (λ (o : Outcome Standing). o.state) second ∙ ap (λ k. next buffered s (Solve k)) rows in
    let out_is : out ≡ c.args.memory.now.out.now = ap (λ (o : Outcome Standing). o.lists.out) second ∙ ap (λ (l : Lists Standing). l.out) same in
    let long : 512 ≤ length out = subst (λ xs. 512 ≤ length xs) (sym out_is) c.requires in
    let reporting = sym (c.in_ok-length.was ∙ ap Ok c.in-Reported.is) ∙ ap (λ (o : Outcome Standing). o.result) third in
    let w = written text n (sym c.in_ok-call.was ∙ ap (λ (o : Outcome Standing). o.result) first) held out (sym c.in_ok-call-2.was ∙ solving) kept long reporting (ap (λ (o : Outcome Standing). o.lists.out) third) in
    w ∙ ap (reported (report_or_refusal text n)) out_is
