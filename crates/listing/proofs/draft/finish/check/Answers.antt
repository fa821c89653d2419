use Rattle.std.proofs.Common.{◌≡◌, ◌⊎◌, true, false, length, sym, refl, ◌∙◌, inl, inr}
use Rattle.listing.proofs.Checking.{passed, failed, ended}
use Rattle.listing.proofs.draft.finish.check.Goals as goal

pub returns-then-not-passes : goal.returns-then-not-passes
returns-then-not-passes g c test same =
    let st = c.in-Some.ensures.steps in
    let fails : test c.in-Some.part.now ≡ false = sym (same c.in-Some.part.now c.passes.result (record { shown = c.in-Some.part; shows = refl; says = record { met = c.passes.ensures } })) ∙ c.if-not-passes.true in
    rw c.at.ensures (c.loop-part.invariant test same ∙ failed test _ _ c.in-Some.line.now _ _ c.in-Some.part.now st.1 st.0 fails, refl)

pub loop-part-preserved : goal.loop-part-preserved
loop-part-preserved g c test same =
    let st = c.in-Some.ensures.steps in
    let passes : test c.in-Some.part.now ≡ true = sym (same c.in-Some.part.now c.passes.result (record { shown = c.in-Some.part; shows = refl; says = record { met = c.passes.ensures } })) ∙ c.if-not-passes.false in
    c.loop-part.invariant test same ∙ passed test _ _ c.in-Some.line.now _ _ c.in-Some.part.now st.1 st.0 passes

pub returns : goal.returns
returns g c test same =
    let empty : (length c.loop-part.part-iterator.a.rest.now ≡ 0) ⊎ (length c.loop-part.part-iterator.b.rest.now ≡ 0) = elim c.in-None.ensures.steps [ inl e ↦ inl e.1.0 | inr e ↦ inr e.1.0 ] in
    c.loop-part.invariant test same ∙ ended test c.loop-part.part-iterator.b.rest.now c.loop-part.part-iterator.a.rest.now empty
