-- What stands at an index of a list, and a list changed at one index, by relations that compute nothing.
use Rattle.std.specs.Prelude.{ℕ, suc, List, ◌∷◌}

-- x stands at i in the list xs, counted from 0
pub data At {X : Type 0} : ℕ → X → List X → Type 0 where
  here : {x : X} {xs : List X} → At 0 x (x ∷ xs)
  later : {i : ℕ} {x y : X} {xs : List X} → At i x xs → At (suc i) x (y ∷ xs)

-- the list ys is xs, but that y stands at i where x did
pub data Change {X : Type 0} : ℕ → X → X → List X → List X → Type 0 where
  here : {x y : X} {xs : List X} → Change 0 x y (x ∷ xs) (y ∷ xs)
  later : {i : ℕ} {x y z : X} {xs ys : List X} → Change i x y xs ys → Change (suc i) x y (z ∷ xs) (z ∷ ys)
