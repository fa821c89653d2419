-- What holds of some two that stand at one place in two lists, and what goes on holding where the lists grow. Assumes nothing.
use Rattle.std.proofs.Common.{◌≡◌, true, List, [], ◌∷◌, ◌++◌, inl, inr, refl, arith}
use Rattle.std.specs.List.{AllByRecursion as All}
use Rattle.listing.specs.Laws.{Somewhere}
use Rattle.listing.specs.Reading.{some, grown}
use Rattle.listing.specs.Spelling.{Pairwise}
use Rattle.listing.proofs.Pairs.{AsLong, pairwise_append}

module _ {X Y : Type 0} where
  pub somewhere_weaker : (R S : X → Y → Type 0) → ((x : X) (y : Y) → R x y → S x y) → (xs : List X) (ys : List Y) → Somewhere R xs ys → Somewhere S xs ys
  somewhere_weaker R S weaker [] ys h = h
  somewhere_weaker R S weaker (x ∷ xs) [] h = h
  somewhere_weaker R S weaker (x ∷ xs) (y ∷ ys) h = elim h [ inl r ↦ inl (weaker x y r) | inr s ↦ inr (somewhere_weaker R S weaker xs ys s) ]

  -- what each of the first list has, the one that stands there has too, for a conclusion W
  pub meets : {W : Type 0} (P : X → Type 0) (R : X → Y → Type 0) (xs : List X) (ys : List Y) → All P xs → Somewhere R xs ys → ((x : X) (y : Y) → P x → R x y → W) → W
  meets P R [] ys a h k = absurd h
  meets P R (x ∷ xs) [] a h k = absurd h
  meets P R (x ∷ xs) (y ∷ ys) a h k = elim h [ inl r ↦ k x y a.0 r | inr s ↦ meets P R xs ys a.1 s k ]

module _ {X Y : Type 0} (R : X → Y → Type 0) where
  pub somewhere_append : (xs us : List X) (ys vs : List Y) → Somewhere R xs ys → Somewhere R (xs ++ us) (ys ++ vs)
  somewhere_append [] us ys vs h = absurd h
  somewhere_append (x ∷ xs) us [] vs h = absurd h
  somewhere_append (x ∷ xs) us (y ∷ ys) vs h = elim h [ inl r ↦ inl r | inr s ↦ inr (somewhere_append xs us ys vs s) ]

  pub somewhere_push : (xs : List X) (ys : List Y) (x : X) (y : Y) → AsLong xs ys → R x y → Somewhere R (xs ++ x ∷ []) (ys ++ y ∷ [])
  somewhere_push [] [] x y l r = inl r
  somewhere_push [] (v ∷ ys) x y l r = absurd (omega arith)
  somewhere_push (u ∷ xs) [] x y l r = absurd (omega arith)
  somewhere_push (u ∷ xs) (v ∷ ys) x y l r = inr (somewhere_push xs ys x y (omega arith) r)

  -- lists of lists, of which the last ones grow
  pub somewhere_grown : (xss : List (List X)) (yss : List (List Y)) (x : X) (y : Y) → Pairwise AsLong xss yss → Somewhere (Somewhere R) xss yss → Somewhere (Somewhere R) (grown xss x) (grown yss y)
  somewhere_grown [] yss x y l h = absurd h
  somewhere_grown (xs ∷ xss) [] x y l h = absurd h
  somewhere_grown (xs ∷ []) (ys ∷ []) x y l h = elim h [ inl s ↦ inl (somewhere_append xs (x ∷ []) ys (y ∷ []) s) | inr s ↦ absurd s ]
  somewhere_grown (xs ∷ []) (ys ∷ vs ∷ yss) x y l h = absurd l.1
  somewhere_grown (xs ∷ us ∷ xss) (ys ∷ []) x y l h = absurd l.1
  somewhere_grown (xs ∷ us ∷ xss) (ys ∷ vs ∷ yss) x y l h = elim h [ inl s ↦ inl s | inr s ↦ inr (somewhere_grown (us ∷ xss) (vs ∷ yss) x y l.1 s) ]

  pub newly_grown : (xss : List (List X)) (yss : List (List Y)) (x : X) (y : Y) → Pairwise AsLong xss yss → some yss ≡ true → R x y → Somewhere (Somewhere R) (grown xss x) (grown yss y)
  newly_grown xss [] x y l h r = cc
  newly_grown [] (ys ∷ yss) x y l h r = absurd l
  newly_grown (xs ∷ []) (ys ∷ []) x y l h r = inl (somewhere_push xs ys x y l.0 r)
  newly_grown (xs ∷ []) (ys ∷ vs ∷ yss) x y l h r = absurd l.1
  newly_grown (xs ∷ us ∷ xss) (ys ∷ []) x y l h r = absurd l.1
  newly_grown (xs ∷ us ∷ xss) (ys ∷ vs ∷ yss) x y l h r = inr (newly_grown (us ∷ xss) (vs ∷ yss) x y l.1 refl r)

  pub pairwise_grown : (xss : List (List X)) (yss : List (List Y)) (x : X) (y : Y) → Pairwise (Pairwise R) xss yss → R x y → Pairwise (Pairwise R) (grown xss x) (grown yss y)
  pairwise_grown [] [] x y h r = tt
  pairwise_grown [] (ys ∷ yss) x y h r = absurd h
  pairwise_grown (xs ∷ xss) [] x y h r = absurd h
  pairwise_grown (xs ∷ []) (ys ∷ []) x y h r = (pairwise_append R xs (x ∷ []) ys (y ∷ []) h.0 (r, tt), tt)
  pairwise_grown (xs ∷ []) (ys ∷ vs ∷ yss) x y h r = absurd h.1
  pairwise_grown (xs ∷ us ∷ xss) (ys ∷ []) x y h r = absurd h.1
  pairwise_grown (xs ∷ us ∷ xss) (ys ∷ vs ∷ yss) x y h r = (h.0, pairwise_grown (us ∷ xss) (vs ∷ yss) x y h.1 r)

-- what is said of the first list alone, beside lists of which the last grows
pub pairwise_beside : {X Y : Type 0} (S : X → Type 0) (xs : List X) (yss : List (List Y)) (y : Y) → Pairwise (λ x ys. S x) xs yss → Pairwise (λ x ys. S x) xs (grown yss y)
pairwise_beside S [] [] y h = h
pairwise_beside S [] (ys ∷ yss) y h = absurd h
pairwise_beside S (x ∷ xs) [] y h = absurd h
pairwise_beside S (x ∷ []) (ys ∷ []) y h = h
pairwise_beside S (x ∷ u ∷ xs) (ys ∷ []) y h = absurd h.1
pairwise_beside S (x ∷ []) (ys ∷ vs ∷ yss) y h = absurd h.1
pairwise_beside S (x ∷ u ∷ xs) (ys ∷ vs ∷ yss) y h = (h.0, pairwise_beside S (u ∷ xs) (vs ∷ yss) y h.1)
