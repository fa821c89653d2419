-- The lines of a set's places, one place after another. Nothing is assumed.
use Rattle.std.proofs.Common.{◌≡◌, ℕ, zero, suc, ◌+◌, ◌^◌, ◌<◌, ◌≤◌, ◌==◌, cond, eqb, [], ◌++◌, Some, None, Bool, true, false, count_ones, eq-eqb, w32, sym, refl, ap, ◌∙◌, arith}
use Rattle.std.proofs.lemmas.Nat.{zero_from_ones}
use Rattle.std.proofs.lemmas.Nat.Bits.{bit_at-trailing_zeros}
use lib.Count.{count_trailing_zeros}
use Rattle.listing.specs.declared.program.Program.{Program}
use Rattle.machines.specs.Places.{lowest, removing, TakesLowest}
use Rattle.machines.proofs.Masks.{fewer_without, removing_within}
use Rattle.job.specs.Text.{before, befores}

fewer : (s : ℕ) → 0 < s → s < 2 ^ 32 → count_ones (removing s (count_trailing_zeros 32 s)) + 1 ≡ count_ones s
fewer s some small = fewer_without s (count_trailing_zeros 32 s) (eq-eqb _ _ (bit_at-trailing_zeros w32 s some small).1)

-- room for more lines than there are places changes nothing
befores_enough : (p : Program) (k s : ℕ) → s < 2 ^ 32 → count_ones s ≤ k → befores p (suc k) s ≡ befores p k s
unfolding befores
befores_enough p zero s small h = let none : s ≡ 0 = zero_from_ones s (omega (arith, h)) in rw none refl
befores_enough p (suc k) zero small h = refl
befores_enough p (suc k) (suc s) small h =
    let low = count_trailing_zeros 32 (suc s) in
    let within : removing (suc s) low < 2 ^ 32 = omega (arith, removing_within (suc s) low) in
    ap (λ xs. cond (suc s == 0) [] (before p low ++ xs)) (befores_enough p k (removing (suc s) low) within (omega (arith, fewer (suc s) (omega arith) small)))

-- the line of the lowest place, and then those of the rest
pub befores_first : (p : Program) (k s place : ℕ) → Some place ≡ lowest s → befores p (suc k) s ≡ before p place ++ befores p k (removing s place)
unfolding befores
befores_first p k s place e = here (eqb s 0) e
  where
    here : (b : Bool) → Some place ≡ cond b None (Some (count_trailing_zeros 32 s))
        → cond b [] (before p (count_trailing_zeros 32 s) ++ befores p k (removing s (count_trailing_zeros 32 s))) ≡ before p place ++ befores p k (removing s place)
    here true e = let z : ◌≡◌ {A = ℕ} 0 1 = cc in absurd (omega arith)
    here false e = let same : count_trailing_zeros 32 s ≡ place = cc in rw same refl

pub befores_more : (p : Program) (k n s place rest : ℕ) → n ≡ suc k → count_ones rest ≤ k → rest < 2 ^ 32 → TakesLowest s (Some place) rest
    → befores p n s ≡ before p place ++ befores p n rest
befores_more p k n s place rest e few small taken =
    rw e
    (befores_first p k s place (sym taken.0)
    ∙ ap (λ xs. before p place ++ xs) (ap (befores p k) (sym taken.1) ∙ sym (befores_enough p k rest small few)))

pub befores_none : (p : Program) (n s : ℕ) → s ≡ 0 → befores p n s ≡ []
unfolding befores
befores_none p zero s h = refl
befores_none p (suc n) s h = rw h refl
