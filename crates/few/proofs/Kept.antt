-- Unused room holds fillers after each change.
use Rattle.std.proofs.Common.{◌≡◌, ℕ, ◌+◌, ◌-◌, List, drop, set, replicate, ap, sym, ◌∙◌, arith}
use Rattle.std.proofs.lemmas.List.{drop-drop, drop-replicate, drop-set-lt}

-- one value more
pub one_more : {X : Type 0} (n k : ℕ) (xs : List X) (x y : X) → drop n xs ≡ replicate (k - n) x → drop (n + 1) (set xs n y) ≡ replicate (k - (n + 1)) x
one_more n k xs x y d =
    drop-set-lt (n + 1) xs n y (omega arith)
    ∙ (sym (drop-drop 1 n xs) ∙ (ap (drop 1) d ∙ (drop-replicate 1 (k - n) x ∙ ap (λ m. replicate m x) (omega arith))))
