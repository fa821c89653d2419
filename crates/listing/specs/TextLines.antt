-- The lines of a text. Each ends with byte 10, which the last may lack; a line without bytes is one all the same.
use Rattle.std.specs.Prelude.{◌≡◌, ◌↔◌, ℕ, List, [], ◌∷◌, ◌++◌}
use Rattle.listing.specs.Spelling.{WithinLine}
use Rattle.listing.specs.Words.{lines}

-- these are the lines of the text, from its first on
pub data AreLines : List (List ℕ) → List ℕ → Type 0 where
  none : AreLines [] []
  last : {b : ℕ} {bs : List ℕ} → WithinLine (b ∷ bs) → AreLines ((b ∷ bs) ∷ []) (b ∷ bs)
  next : {bs : List ℕ} {ls : List (List ℕ)} {t : List ℕ}
      → WithinLine bs → AreLines ls t → AreLines (bs ∷ ls) (bs ++ 10 ∷ t)

-- a text is cut into its lines, and so they are counted
abbrev pub LinesTold : List ℕ → Type 0
LinesTold t = (ls : List (List ℕ)) → (lines t ≡ ls) ↔ AreLines ls t
