use Rattle.std.proofs.Common.{◌≡◌, true, false, ◌&&◌, None, Err, ap, sym, rules, ◌∙◌}
use Rattle.std.proofs.lemmas.Bool.{and_left, and_right}
use Rattle.std.proofs.lemmas.Result.{err_from_is_err_and}
use Rattle.listing.specs.Reading.{some}
use Rattle.listing.proofs.Counts.{some_by_count}
use Rattle.listing.proofs.Finishing.{finish_unused, finish_unbound, finish_empty, finish_jump, finish_fault, finish_granted, granted_within}
use Rattle.listing.proofs.draft.Draft.finish.Goals as goal
use Rattle.listing.proofs.draft.Draft.finish.Goals.{then-is_empty-via-then-is_empty, then-is_empty-via-else-is_empty+then-is_empty-2}

pub invariant_of-result : goal.invariant_of-result
invariant_of-result c =
    let d = c.args.self.now in
    let threads = some_by_count d.threads false (sym c.if-is_empty.ensures) in
    let faults = some_by_count d.faults false (sym c.if-is_empty-2.ensures) in
    record { ok = granted_within d c.in_ok-check_threads_used.ensures c.in_ok-bound.bound (search rules) threads faults c.in_ok-check_jumps.ensures c.in_ok-check_faults.ensures }

pub returns-clause-value : goal.returns-clause-value
returns-clause-value c =
    let d = c.args.self.now in
    let threads = some_by_count d.threads false (sym c.if-is_empty.ensures) in
    let faults = some_by_count d.faults false (sym c.if-is_empty-2.ensures) in
    finish_granted d c.in_ok-check_threads_used.ensures c.in_ok-bound.bound (search rules) threads faults c.in_ok-check_jumps.ensures c.in_ok-check_faults.ensures

pub returns-in_err-check_threads_used-clause-value : goal.returns-in_err-check_threads_used-clause-value
returns-in_err-check_threads_used-clause-value c =
    let p = err_from_is_err_and c.from_residual.result c.from_residual.ensures.1 in
    let why = c.in_err-check_threads_used.ensures in
    rw (p.1, p.2) (finish_unused c.args.self.now c.in_err-check_threads_used.field-0.0 why.0 why.1)

pub returns-in_err-bound-clause-value : goal.returns-in_err-bound-clause-value
returns-in_err-bound-clause-value c =
    let p = err_from_is_err_and c.from_residual-in_err-bound.result c.from_residual-in_err-bound.ensures.1 in
    let unbound : c.args.self.now.bound ≡ None = search rules in
    let why : c.in_err-bound.field-0.0 ≡ c.refusal.result = search rules in
    rw (p.1, p.2) (ap Err (why ∙ c.refusal.ensures) ∙ finish_unbound c.args.self.now c.in_ok-check_threads_used.ensures unbound)

pub returns-then-is_empty-clause-value : goal.returns-then-is_empty-clause-value
returns-then-is_empty-clause-value c =
    let d = c.args.self.now in
    let empty : (some d.threads && some d.faults) ≡ false =
    elim c.then-is_empty.branch [
      | then-is_empty-via-then-is_empty w ↦ and_left _ _ (some_by_count d.threads true (sym w.if-is_empty.ensures))
      | then-is_empty-via-else-is_empty+then-is_empty-2 w ↦ and_right _ _ (some_by_count d.faults true (sym w.if-is_empty-2.ensures))
    ] in
    ap Err c.refusal-then-is_empty.ensures ∙ finish_empty d c.in_ok-check_threads_used.ensures c.in_ok-bound.bound (search rules) empty

pub returns-in_err-check_jumps-clause-value : goal.returns-in_err-check_jumps-clause-value
returns-in_err-check_jumps-clause-value c =
    let p = err_from_is_err_and c.from_residual-in_err-check_jumps.result c.from_residual-in_err-check_jumps.ensures.1 in
    let why = c.in_err-check_jumps.ensures in
    let d = c.args.self.now in
    let threads = some_by_count d.threads false (sym c.if-is_empty.ensures) in
    let faults = some_by_count d.faults false (sym c.if-is_empty-2.ensures) in
    rw (p.1, p.2) (finish_jump d c.in_ok-check_threads_used.ensures c.in_ok-bound.bound (search rules) threads faults c.in_err-check_jumps.field-0.0 why.0 why.1)

pub returns-in_err-check_faults-clause-value : goal.returns-in_err-check_faults-clause-value
returns-in_err-check_faults-clause-value c =
    let p = err_from_is_err_and c.from_residual-in_err-check_faults.result c.from_residual-in_err-check_faults.ensures.1 in
    let why = c.in_err-check_faults.ensures in
    let d = c.args.self.now in
    let threads = some_by_count d.threads false (sym c.if-is_empty.ensures) in
    let faults = some_by_count d.faults false (sym c.if-is_empty-2.ensures) in
    rw (p.1, p.2) (finish_fault d c.in_ok-check_threads_used.ensures c.in_ok-bound.bound (search rules) threads faults c.in_err-check_faults.field-0.0 c.in_ok-check_jumps.ensures why.0 why.1)
