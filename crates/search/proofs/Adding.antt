-- A set with a place added has that place, what it had before, and nothing else. Nothing is assumed.
use Rattle.std.proofs.Common.{◌≡◌, ◌⊎◌, ℕ, true, arith}
use Rattle.std.proofs.lemmas.Bool.Decides.{nat_tests}
use Rattle.machines.proofs.Sets.{set_laws}
use Rattle.machines.specs.Places.{has, adding}

module _ (set p : ℕ) where
  pub added : has (adding set p) p ≡ true
  added = grind (arith, nat_tests, set_laws.adding set p p)

  pub had_before : (q : ℕ) → has set q ≡ true → has (adding set p) q ≡ true
  had_before q h = grind (arith, nat_tests, set_laws.adding set p q)

  pub nothing_else : (q : ℕ) → has (adding set p) q ≡ true → (has set q ≡ true) ⊎ (p ≡ q)
  nothing_else q h = grind (arith, nat_tests, set_laws.adding set p q)
