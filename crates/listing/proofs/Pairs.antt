-- Lists whose elements stand in pairs. Assumes nothing.
use Rattle.std.proofs.Common.{◌≡◌, suc, List, [], ◌∷◌, ◌++◌, map, length, refl, ap}
use Rattle.std.specs.List.{AllByRecursion as All}
use Rattle.listing.specs.Spelling.{Pairwise}

abbrev pub AsLong : {X Y : Type 0} → List X → List Y → Type 0
AsLong xs ys = length xs ≡ length ys

module _ {X Y : Type 0} (R : X → Y → Type 0) where
  pub pairwise_append : (xs us : List X) (ys vs : List Y) → Pairwise R xs ys → Pairwise R us vs → Pairwise R (xs ++ us) (ys ++ vs)
  pairwise_append [] us [] vs h k = k
  pairwise_append [] us (y ∷ ys) vs h k = absurd h
  pairwise_append (x ∷ xs) us [] vs h k = absurd h
  pairwise_append (x ∷ xs) us (y ∷ ys) vs h k = (h.0, pairwise_append xs us ys vs h.1 k)

  pub pairwise_as_long : (xs : List X) (ys : List Y) → Pairwise R xs ys → AsLong xs ys
  pairwise_as_long [] [] h = refl
  pairwise_as_long [] (y ∷ ys) h = absurd h
  pairwise_as_long (x ∷ xs) [] h = absurd h
  pairwise_as_long (x ∷ xs) (y ∷ ys) h = ap suc (pairwise_as_long xs ys h.1)

  pub pairwise_map : (f : X → Y) (xs : List X) → All (λ x. R x (f x)) xs → Pairwise R xs (map f xs)
  pairwise_map f [] h = tt
  pairwise_map f (x ∷ xs) h = (h.0, pairwise_map f xs h.1)

-- lists that are as long as others, one by one
pub pairwise_weaker : {X Y : Type 0} (R S : X → Y → Type 0) → ((x : X) (y : Y) → R x y → S x y) → (xs : List X) (ys : List Y) → Pairwise R xs ys → Pairwise S xs ys
pairwise_weaker R S weaker [] [] h = tt
pairwise_weaker R S weaker [] (y ∷ ys) h = absurd h
pairwise_weaker R S weaker (x ∷ xs) [] h = absurd h
pairwise_weaker R S weaker (x ∷ xs) (y ∷ ys) h = (weaker x y h.0, pairwise_weaker R S weaker xs ys h.1)

pub pairwise_lengths : {X Y : Type 0} (xs : List (List X)) (ys : List (List Y)) → map length xs ≡ map length ys → Pairwise AsLong xs ys
pairwise_lengths [] [] h = tt
pairwise_lengths [] (y ∷ ys) h = cc
pairwise_lengths (x ∷ xs) [] h = cc
pairwise_lengths (x ∷ xs) (y ∷ ys) h = (cc, pairwise_lengths xs ys cc)
