-- What is one of some, by tests and by recursion. Assumes nothing.
use Rattle.std.proofs.Common.{◌≡◌, ℕ, zero, suc, ◌+◌, ◌<◌, ◌≤◌, ◌⊎◌, Bool, true, leb, List, [], ◌∷◌, ◌++◌, inl, inr, sym, subst, ⊎_elim, arith}
use Rattle.std.specs.List.{range_with_len}
use Rattle.std.proofs.lemmas.Bool.{and_parts, cases_Bool, leb-true, leb-false}
use Rattle.listing.specs.Alphabet.{OneOf, IsOneOf}
use Rattle.listing.specs.Limits.{all}

module _ {X : Type 0} where
  pub one_of_left : (P : X → Type 0) (xs ys : List X) → OneOf P xs → OneOf P (xs ++ ys)
  one_of_left P [] ys h = absurd h
  one_of_left P (x ∷ xs) ys (inl h) = inl h
  one_of_left P (x ∷ xs) ys (inr h) = inr (one_of_left P xs ys h)

  pub one_of_right : (P : X → Type 0) (xs ys : List X) → OneOf P ys → OneOf P (xs ++ ys)
  one_of_right P [] ys h = h
  one_of_right P (x ∷ xs) ys h = inr (one_of_right P xs ys h)

  pub one_of_cases : (P : X → Type 0) (xs ys : List X) → OneOf P (xs ++ ys) → OneOf P xs ⊎ OneOf P ys
  one_of_cases P [] ys h = inr h
  one_of_cases P (x ∷ xs) ys (inl h) = inl (inl h)
  one_of_cases P (x ∷ xs) ys (inr h) = ⊎_elim (λ k. inl (inr k)) inr (one_of_cases P xs ys h)

  pub one_of_map : (P Q : X → Type 0) → ((x : X) → P x → Q x) → (xs : List X) → OneOf P xs → OneOf Q xs
  one_of_map P Q f [] h = absurd h
  one_of_map P Q f (x ∷ xs) (inl h) = inl (f x h)
  one_of_map P Q f (x ∷ xs) (inr h) = inr (one_of_map P Q f xs h)

  -- what is one of some passes the test that they all pass
  pub one_passes : (f : X → Bool) (xs : List X) (x : X) → all f xs ≡ true → IsOneOf xs x → f x ≡ true
  one_passes f [] x h k = absurd k
  one_passes f (y ∷ ys) x h (inl k) = subst (λ z. f z ≡ true) (sym k) (and_parts (f y) (all f ys) h).0
  one_passes f (y ∷ ys) x h (inr k) = one_passes f ys x (and_parts (f y) (all f ys) h).1 k

-- a number is one of those between two
pub in_run : (low n b : ℕ) → low ≤ b → b < low + n → IsOneOf (range_with_len low n) b
in_run low zero b l h = absurd (omega arith)
in_run low (suc n) b l h =
    ⊎_elim
    (λ above. let more = leb-true (low + 1) b above in inr (in_run (low + 1) n b (omega arith) (omega arith)))
    (λ not_above. let same = leb-false (low + 1) b not_above in inl (omega arith))
    (cases_Bool (leb (low + 1) b))
