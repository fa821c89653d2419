-- The pieces of a list that begins with bytes that do not stop, and what stands before the first byte that stops. Assumes nothing.
use Rattle.std.proofs.Common.{◌≡◌, ℕ, Bool, true, false, List, [], ◌∷◌, ◌++◌, refl, ap, ◌∙◌}
use Rattle.std.specs.List.{AllByRecursion as All}
use Rattle.std.proofs.lemmas.Bool.{cond-true, cond-false}
use Rattle.listing.specs.Words.{upto, joined, pieces}

module _ (stop : ℕ → Bool) where
  pub piece_then : (w : List ℕ) (b : ℕ) (bs : List ℕ) → All (λ c. stop c ≡ false) w → stop b ≡ true → pieces stop (w ++ b ∷ bs) ≡ w ∷ pieces stop bs
  piece_then [] b bs free h = cond-true (stop b) _ _ h
  piece_then (c ∷ w) b bs free h = cond-false (stop c) _ _ free.0 ∙ ap (joined c) (piece_then w b bs free.1 h)

  pub piece_alone : (c : ℕ) (w : List ℕ) → All (λ d. stop d ≡ false) (c ∷ w) → pieces stop (c ∷ w) ≡ (c ∷ w) ∷ []
  piece_alone c [] free = cond-false (stop c) _ _ free.0
  piece_alone c (d ∷ w) free = cond-false (stop c) _ _ free.0 ∙ ap (joined c) (piece_alone d w free.1)

  pub upto_then : (w : List ℕ) (b : ℕ) (bs : List ℕ) → All (λ c. stop c ≡ false) w → stop b ≡ true → upto stop (w ++ b ∷ bs) ≡ w
  upto_then [] b bs free h = cond-true (stop b) _ _ h
  upto_then (c ∷ w) b bs free h = cond-false (stop c) _ _ free.0 ∙ ap (λ r. c ∷ r) (upto_then w b bs free.1 h)

  pub upto_whole : (w : List ℕ) → All (λ c. stop c ≡ false) w → upto stop w ≡ w
  upto_whole [] free = refl
  upto_whole (c ∷ w) free = cond-false (stop c) _ _ free.0 ∙ ap (λ r. c ∷ r) (upto_whole w free.1)
