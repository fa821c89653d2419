-- What stands at a place of a list, and a list changed at one place, as functions of the list say it. Nothing is assumed.
use Rattle.std.proofs.Common.{◌≡◌, ℕ, zero, suc, ◌<◌, List, [], ◌∷◌, length, get_or, set, slice_get, Some, refl, ap, subst, arith}
use Rattle.std.proofs.lemmas.Option.{get_or_from_slice_get, slice_get_within}
use Rattle.machines.specs.Lists.{At, Change}

pub at_get : {X : Type 0} {i : ℕ} {x : X} {xs : List X} → At i x xs → slice_get xs i ≡ Some x
at_get At.here = refl
at_get (At.later h) = at_get h

pub change_at : {X : Type 0} {i : ℕ} {x y : X} {xs ys : List X} → Change i x y xs ys → At i x xs
change_at Change.here = At.here
change_at (Change.later h) = At.later (change_at h)

pub change_is : {X : Type 0} {i : ℕ} {x y : X} {xs ys : List X} → Change i x y xs ys → ys ≡ set xs i y
change_is Change.here = refl
change_is (Change.later {z = z} h) = ap (λ l. z ∷ l) (change_is h)

pub change_or : {X : Type 0} (xs : List X) (i : ℕ) (d y : X) → i < length xs → Change i (get_or xs i d) y xs (set xs i y)
change_or [] i d y h = absurd (omega arith)
change_or (x ∷ xs) zero d y h = Change.here
change_or (x ∷ xs) (suc i) d y h = Change.later (change_or xs i d y (omega arith))

pub at_or : {X : Type 0} (xs : List X) (i : ℕ) (d : X) → i < length xs → At i (get_or xs i d) xs
at_or xs i d h = change_at (change_or xs i d d h)

pub at_from : {X : Type 0} (xs : List X) (i : ℕ) (x : X) → slice_get xs i ≡ Some x → At i x xs
at_from xs i x e = subst (λ y. At i y xs) (get_or_from_slice_get xs i x x e) (at_or xs i x (slice_get_within xs i x e))

pub at_is : {X : Type 0} {i : ℕ} {x : X} {xs : List X} (d : X) → At i x xs → get_or xs i d ≡ x
at_is {i = i} {x = x} {xs = xs} d h = get_or_from_slice_get xs i x d (at_get h)
