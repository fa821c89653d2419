-- The first piece of bytes that a stop cuts, and so the first line of a text. Assumes nothing.
use Rattle.std.proofs.Common.{◌≡◌, ℕ, ◌<◌, Bool, true, false, cond, List, [], ◌∷◌, length, drop, refl, ap, arith}
use Rattle.listing.specs.Words.{joined, pieces, upto, ends, lines}
use Rattle.listing.specs.Cuts.{onward, line_of, rest_of}

module _ (stop : ℕ → Bool) where
  first_piece : (b : ℕ) (t : List ℕ) (s : Bool) → cond s ([] ∷ pieces stop t) (joined b (pieces stop t)) ≡ cond s [] (b ∷ upto stop t) ∷ pieces stop (drop 1 (cond s (b ∷ t) (onward stop t)))
  first_piece b t true = refl
  first_piece b [] false = refl
  first_piece b (c ∷ t) false = ap (joined b) (first_piece c t (stop c))

  pub next_piece : (b : ℕ) (t : List ℕ) → pieces stop (b ∷ t) ≡ upto stop (b ∷ t) ∷ pieces stop (drop 1 (onward stop (b ∷ t)))
  next_piece b t = first_piece b t (stop b)

pub next_line : (t : List ℕ) → 0 < length t → lines t ≡ line_of t ∷ lines (rest_of t)
unfolding lines
next_line [] h = absurd (omega arith)
next_line (b ∷ t) h = next_piece ends b t

pub no_lines : (t : List ℕ) → length t ≡ 0 → lines t ≡ []
unfolding lines
no_lines [] h = refl
no_lines (b ∷ t) h = absurd (omega arith)
