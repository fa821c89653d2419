use Rattle.std.proofs.Common.{◌∙◌, not, ap, eqb, sym}
use Rattle.std.proofs.lemmas.Bool.{and_parts}
use Rattle.machines.specs.Places.{has}
use Rattle.machines.proofs.Sets.{set_laws}
use Rattle.search.proofs.least.higher_half.Goals as goal
use Rattle.search.proofs.least.higher_half.Goals.{in-Some, in_default}

pub loop-preserved : goal.loop-preserved
loop-preserved c q h =
    let s = c.loop.left.mask in
    elim c.match-lowest.branch [
      | in-Some w ↦
          let place = w.in-Some.place in
          c.loop.invariant q (and_parts (has s q) (not (eqb place q)) (sym (set_laws.removing s place q) ∙ ap (λ t. has t q) (sym w.without-left.ensures) ∙ ap (λ x. has x.mask q) (sym w.left-is) ∙ h)).0
      | in_default w ↦ c.loop.invariant q (ap (λ x. has x.mask q) (sym w.left-is) ∙ h)
    ]
