-- What `all` says of the parts of a list. Assumes nothing.
use Rattle.std.proofs.Common.{◌≡◌, Bool, true, List, [], ◌∷◌, ◌++◌, refl}
use Rattle.std.specs.List.{AllByRecursion as All}
use Rattle.listing.proofs.Recursive as elements
use Rattle.std.proofs.lemmas.Bool.{and_parts, and_from}
use Rattle.listing.specs.Limits.{all}

module _ {X : Type 0} (f : X → Bool) where
  pub each : (xs : List X) → all f xs ≡ true → All (λ x. f x ≡ true) xs
  each [] h = tt
  each (x ∷ xs) h = ((and_parts (f x) (all f xs) h).0, each xs (and_parts (f x) (all f xs) h).1)

  pub all_from_each : (xs : List X) → All (λ x. f x ≡ true) xs → all f xs ≡ true
  all_from_each [] h = refl
  all_from_each (x ∷ xs) h = and_from (f x) (all f xs) h.0 (all_from_each xs h.1)

  pub all_push : (xs : List X) (x : X) → all f xs ≡ true → f x ≡ true → all f (xs ++ x ∷ []) ≡ true
  all_push xs x h k = all_from_each (xs ++ x ∷ []) (elements.all_push (λ x. f x ≡ true) xs x (each xs h) k)

-- two tests that give a third
pub all_join : {X : Type 0} (f g h : X → Bool) → ((x : X) → f x ≡ true → g x ≡ true → h x ≡ true) → (xs : List X) → all f xs ≡ true → all g xs ≡ true → all h xs ≡ true
all_join f g h both [] a b = refl
all_join f g h both (x ∷ xs) a b =
    let l = and_parts (f x) (all f xs) a in
    let r = and_parts (g x) (all g xs) b in
    and_from _ _ (both x l.0 r.0) (all_join f g h both xs l.1 r.1)

pub all_weaker : {X : Type 0} (f g : X → Bool) → ((x : X) → f x ≡ true → g x ≡ true) → (xs : List X) → all f xs ≡ true → all g xs ≡ true
all_weaker f g weaker xs h = all_join f f g (λ x k _. weaker x k) xs h h
