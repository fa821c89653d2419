-- How the search for the first part that fails a test goes on and ends. Assumes nothing.
use Rattle.std.proofs.Common.{◌≡◌, ℕ, Bool, true, false, List, [], ◌∷◌, ◌⊎◌, inl, inr, length, Some, None, refl, arith}
use Rattle.listing.specs.declared.code.Instruction.{Instruction}
use Rattle.listing.specs.Limits.{jump_within}
use Rattle.listing.specs.Reading.{first_failing, jump_failing}

module _ {X : Type 0} (test : X → Bool) where
  -- the first part passes, or fails, and there is none
  pub passed : (ms ns : List ℕ) (n : ℕ) (ys xs : List X) (x : X) → ms ≡ n ∷ ns → ys ≡ x ∷ xs → test x ≡ true → first_failing test ms ys ≡ first_failing test ns xs
  passed ms ns n ys xs x e f h = rw (e, f, h) refl

  pub failed : (ms ns : List ℕ) (n : ℕ) (ys xs : List X) (x : X) → ms ≡ n ∷ ns → ys ≡ x ∷ xs → test x ≡ false → first_failing test ms ys ≡ Some n
  failed ms ns n ys xs x e f h = rw (e, f, h) refl

  pub ended : (ns : List ℕ) (xs : List X) → (length xs ≡ 0) ⊎ (length ns ≡ 0) → first_failing test ns xs ≡ None
  ended [] xs h = refl
  ended (n ∷ ns) [] h = refl
  ended (n ∷ ns) (x ∷ xs) h = elim h [ inl e ↦ absurd (omega arith) | inr e ↦ absurd (omega arith) ]

-- the same for the jumps of threads
pub thread_failed : (mss nss : List (List ℕ)) (ns : List ℕ) (us ts : List (List (Instruction ℕ))) (t : List (Instruction ℕ)) (n : ℕ) → mss ≡ ns ∷ nss → us ≡ t ∷ ts
    → first_failing (jump_within (length t)) ns t ≡ Some n → jump_failing mss us ≡ Some n
thread_failed mss nss ns us ts t n e f h = rw (e, f, h) refl

pub threads_ended : (nss : List (List ℕ)) (ts : List (List (Instruction ℕ))) → (length ts ≡ 0) ⊎ (length nss ≡ 0) → jump_failing nss ts ≡ None
threads_ended [] ts h = refl
threads_ended (ns ∷ nss) [] h = refl
threads_ended (ns ∷ nss) (t ∷ ts) h = elim h [ inl e ↦ absurd (omega arith) | inr e ↦ absurd (omega arith) ]
