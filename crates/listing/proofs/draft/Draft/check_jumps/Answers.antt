use Rattle.std.proofs.Common.{◌≡◌, ◌⊎◌, inl, inr, length, ◌∙◌, Some, rules}
use Rattle.std.proofs.lemmas.Result.{err_from_is_err_and}
use Rattle.listing.specs.Limits.{jump_within}
use Rattle.listing.specs.Reading.{first_failing}
use Rattle.listing.proofs.Checking.{thread_failed, threads_ended}
use Rattle.listing.proofs.draft.Draft.check_jumps.Goals as goal

pub returns-in_err-check : goal.returns-in_err-check
returns-in_err-check c =
    let q = err_from_is_err_and c.from_residual.result c.from_residual.ensures.1 in
    let code = c.in-Some.code.now in
    let found = c.in_err-check.ensures (jump_within (length code)) (λ part b h. search rules) in
    let fails : first_failing (jump_within (length code)) c.in-Some.lines.now code ≡ Some c.in_err-check.field-0.0.line = rw (c.as_slice-in-loop-code-2.ensures, c.as_slice-in-loop-code.ensures) at found.0 in
    let st = c.in-Some.ensures.steps in
    rw (q.1, q.2) (c.loop-code.invariant ∙ thread_failed _ _ _ _ _ _ _ st.1 st.0 fails, found.1)

pub returns : goal.returns
returns c =
    let empty : (length c.loop-code.code-iterator.a.rest.now ≡ 0) ⊎ (length c.loop-code.code-iterator.b.rest.now ≡ 0) = elim c.in-None.ensures.steps [ inl e ↦ inl e.1.0 | inr e ↦ inr e.1.0 ] in
    c.loop-code.invariant ∙ threads_ended c.loop-code.code-iterator.b.rest.now c.loop-code.code-iterator.a.rest.now empty
