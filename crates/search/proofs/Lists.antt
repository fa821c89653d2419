-- What is among the elements of a list, and how they stand to one another. Nothing is assumed.
use Rattle.std.proofs.Common.{◌≡◌, ◌⊎◌, inl, inr, zero, suc, ◌<◌, Bool, true, false, List, [], ◌∷◌, ◌++◌, length, get_or, All, AllPairs, Contains, filter, refl, ap, ◌∙◌, ⊎_elim, arith}
use Rattle.std.proofs.lemmas.Bool.{both_ways, cases_lt, cond_both}
use Rattle.std.proofs.lemmas.List.Elements.{All-append, Contains-append_right, Contains-get_or}
use Rattle.std.specs.List.{position_or_len}
use Rattle.std.proofs.lemmas.List.Sums.{fails_before_first}
use Rattle.std.proofs.lemmas.List.Kept.{AllPairs-cons}

module _ {X : Type 0} where
  pub among : (x : X) (xs : List X) (y : X) → Contains (x ∷ xs) y → (x ≡ y) ⊎ Contains xs y
  among x xs y (zero, lt, is) = inl is
  among x xs y (suc k, lt, is) = inr (k, omega (arith, lt), is)

  pub alone : (x y : X) → Contains (x ∷ []) y → x ≡ y
  alone x y c = ⊎_elim (λ e. e) (λ k. absurd (omega (arith, k.1))) (among x [] y c)

  -- what passes is kept
  pub kept : (f : X → Bool) (xs : List X) (x : X) → Contains xs x → f x ≡ true → Contains (filter f xs) x
  kept f [] x c h = absurd (omega (arith, c.1))
  kept f (y ∷ ys) x c h =
      cond_both (f y) (y ∷ filter f ys) (filter f ys) (λ l. Contains l x)
      (λ _. ⊎_elim (λ e. (0, omega arith, e)) (λ k. Contains-append_right (y ∷ []) (filter f ys) x (kept f ys x k h)) (among y ys x c))
      (λ no. ⊎_elim (λ e. absurd (both_ways (f y) no (ap f e ∙ h))) (λ k. kept f ys x k h) (among y ys x c))

  pub all_fail : (f : X → Bool) (xs : List X) → (position_or_len f xs < length xs → ⊥) → All (λ x. f x ≡ false) xs
  all_fail f xs none k d lt = ⊎_elim (fails_before_first f xs k d) (λ ge. absurd (none (omega (arith, ge, lt)))) (cases_lt k (position_or_len f xs))

  module _ (R : X → X → Type 0) where
    pub pairs_first : (x : X) (xs : List X) → AllPairs R (x ∷ xs) → All (R x) xs
    pairs_first x xs h k d lt = h 0 (suc k) d (omega arith) (omega arith)

    pub pairs_rest : (x : X) (xs : List X) → AllPairs R (x ∷ xs) → AllPairs R xs
    pairs_rest x xs h i j d lt under = h (suc i) (suc j) d (omega arith) (omega arith)

    pub pairs_append : (xs ys : List X) → AllPairs R xs → AllPairs R ys → ((x y : X) → Contains xs x → Contains ys y → R x y) → AllPairs R (xs ++ ys)
    pairs_append [] ys h k cross = k
    pairs_append (x ∷ xs) ys h k cross =
        AllPairs-cons R x (xs ++ ys)
        (All-append (R x) xs ys (pairs_first x xs h) (λ j d lt. cross x (get_or ys j d) (0, omega arith, refl) (Contains-get_or ys j d lt)))
        (pairs_append xs ys (pairs_rest x xs h) k (λ a b c. cross a b (Contains-append_right (x ∷ []) xs a c)))
