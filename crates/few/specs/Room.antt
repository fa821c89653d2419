-- The room of an array of which the first part is used.
--   used_length       of an array that has room for them, the first n values are n
--   whole_again       with fillers in the rest of the room they are the array, where it had fillers there
use Rattle.std.specs.Prelude.{◌≡◌, ℕ, ◌-◌, ◌≤◌, List, ◌++◌, length, take, drop, replicate}
use Rattle.std.proofs.Common.{length-take-le, ap, sym, ◌∙◌, arith}
use Rattle.std.proofs.lemmas.List.{take-append-drop}

-- what is used has the length that is noted
pub used_length : {X : Type 0} (n k : ℕ) (xs : List X) → n ≤ k → length xs ≡ k → length (take n xs) ≡ n
used_length n k xs h l = length-take-le n xs (omega (arith, h, l))

-- and with the fillers it is the whole array
pub whole_again : {X : Type 0} (n k : ℕ) (xs : List X) (x : X) → n ≤ k → length xs ≡ k → drop n xs ≡ replicate (k - n) x → take n xs ++ replicate (k - length (take n xs)) x ≡ xs
whole_again n k xs x h l d =
    ap (λ m. take n xs ++ replicate (k - m) x) (used_length n k xs h l)
    ∙ (ap (λ ys. take n xs ++ ys) (sym d) ∙ take-append-drop n xs)
