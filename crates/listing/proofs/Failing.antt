-- No part fails its test exactly when all pass it. Assumes nothing.
use Rattle.std.proofs.Common.{◌≡◌, ℕ, ◌≤◌, Bool, true, false, cond, List, [], ◌∷◌, length, Some, None, Option, refl, arith}
use Rattle.std.proofs.lemmas.Bool.{and_parts, and_from}
use Rattle.listing.specs.declared.code.Instruction.{Instruction}
use Rattle.listing.specs.Limits.{all, jump_within}
use Rattle.listing.specs.Reading.{first_failing, or_else, jump_failing}
use Rattle.listing.specs.Spelling.{Pairwise}
use Rattle.listing.proofs.Pairs.{AsLong}

-- each jump of a thread goes to a place of it, or to its end
abbrev pub jumps_there : List (Instruction ℕ) → Bool
jumps_there is = all (jump_within (length is)) is

pub or_else_none : (o u : Option ℕ) → or_else o u ≡ None → (o ≡ None) × (u ≡ None)
or_else_none None u h = (refl, h)
or_else_none (Some n) u h = cc

cond_none : (b : Bool) (o : Option ℕ) (n : ℕ) → cond b o (Some n) ≡ None → (b ≡ true) × (o ≡ None)
cond_none true o n h = (refl, h)
cond_none false o n h = cc

module _ {X : Type 0} (test : X → Bool) where
  pub all_pass_within : (ns : List ℕ) (xs : List X) → length xs ≤ length ns → first_failing test ns xs ≡ None → all test xs ≡ true
  all_pass_within ns [] l h = refl
  all_pass_within [] (x ∷ xs) l h = absurd (omega arith)
  all_pass_within (n ∷ ns) (x ∷ xs) l h =
      let t = cond_none (test x) (first_failing test ns xs) n h in
      and_from _ _ t.0 (all_pass_within ns xs (omega arith) t.1)

  pub all_pass : (ns : List ℕ) (xs : List X) → AsLong ns xs → first_failing test ns xs ≡ None → all test xs ≡ true
  all_pass ns xs l h = all_pass_within ns xs (omega arith) h

  pub none_fails : (ns : List ℕ) (xs : List X) → all test xs ≡ true → first_failing test ns xs ≡ None
  none_fails [] xs h = refl
  none_fails (n ∷ ns) [] h = refl
  none_fails (n ∷ ns) (x ∷ xs) h = let parts = and_parts (test x) (all test xs) h in rw parts.0 (none_fails ns xs parts.1)

pub all_jumps_pass : (nss : List (List ℕ)) (ts : List (List (Instruction ℕ))) → Pairwise AsLong nss ts → jump_failing nss ts ≡ None → all jumps_there ts ≡ true
all_jumps_pass [] [] l h = refl
all_jumps_pass [] (t ∷ ts) l h = absurd l
all_jumps_pass (ns ∷ nss) [] l h = absurd l
all_jumps_pass (ns ∷ nss) (t ∷ ts) l h =
    let parts = or_else_none (first_failing (jump_within (length t)) ns t) (jump_failing nss ts) h in
    and_from _ _ (all_pass (jump_within (length t)) ns t l.0 parts.0) (all_jumps_pass nss ts l.1 parts.1)

pub no_jump_fails : (nss : List (List ℕ)) (ts : List (List (Instruction ℕ))) → all jumps_there ts ≡ true → jump_failing nss ts ≡ None
no_jump_fails [] ts h = refl
no_jump_fails (ns ∷ nss) [] h = refl
no_jump_fails (ns ∷ nss) (t ∷ ts) h =
    let parts = and_parts (jumps_there t) (all jumps_there ts) h in
    rw (none_fails (jump_within (length t)) ns t parts.0) (no_jump_fails nss ts parts.1)
