-- What holds at each place of a list, and after an element of it is set. Nothing is assumed.
use Rattle.std.proofs.Common.{◌≡◌, ℕ, zero, suc, List, [], ◌∷◌, All, length, get_or, set, refl, arith}

-- what holds of each element and of what is read past the end holds of all that is read
pub each_or : {X : Type 0} (P : X → Type 0) (xs : List X) (i : ℕ) (d : X) → All P xs → P d → P (get_or xs i d)
each_or P [] i d h k = k
each_or P (x ∷ xs) zero d h k = h zero d (omega arith)
each_or P (x ∷ xs) (suc i) d h k = each_or P xs i d (λ j e lt. h (suc j) e (omega (arith, lt))) k

-- what holds of two new elements and of each two old ones holds of each two after they are set in lists of one length, at each default
pub set_both : {X Y : Type 0} (P : ℕ → X → Y → Type 0) (xs : List X) (ys : List Y) (i j : ℕ) (x d : X) (y e : Y)
    → length xs ≡ length ys → P i x y → P j (get_or xs j d) (get_or ys j e) → P j (get_or (set xs i x) j d) (get_or (set ys i y) j e)
set_both P [] [] i j x d y e l h k = k
set_both P [] (b ∷ vs) i j x d y e l h k = absurd (omega arith)
set_both P (a ∷ us) [] i j x d y e l h k = absurd (omega arith)
set_both P (a ∷ us) (b ∷ vs) zero zero x d y e l h k = h
set_both P (a ∷ us) (b ∷ vs) zero (suc j) x d y e l h k = k
set_both P (a ∷ us) (b ∷ vs) (suc i) zero x d y e l h k = k
set_both P (a ∷ us) (b ∷ vs) (suc i) (suc j) x d y e l h k = set_both (λ n. P (suc n)) us vs i j x d y e (omega arith) h k

pub set_each : {X : Type 0} (P : ℕ → X → Type 0) (xs : List X) (i j : ℕ) (x d : X) → P i x → P j (get_or xs j d) → P j (get_or (set xs i x) j d)
set_each P xs i j x d h k = set_both (λ n a b. P n a) xs xs i j x d x d refl h k
