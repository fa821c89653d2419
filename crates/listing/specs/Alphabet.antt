-- Which bytes may stand outside a comment, and which begins one.
use Rattle.std.specs.Prelude.{◌≡◌, ℕ, ◌⊎◌, List, [], ◌∷◌, ◌++◌, codes}

-- P holds of one of these
abbrev pub OneOf : {X : Type 0} → (X → Type 0) → List X → Type 0
OneOf P [] = ⊥
OneOf P (x ∷ xs) = P x ⊎ OneOf P xs

-- x is one of these
abbrev pub IsOneOf : {X : Type 0} → List X → X → Type 0
IsOneOf xs x = OneOf (λ y. x ≡ y) xs

abbrev pub letters : List ℕ
letters = codes "abcdefghijklmnopqrstuvwxyz"

abbrev pub digits : List ℕ
digits = codes "0123456789"

abbrev pub spaces : List ℕ
spaces = codes " "

-- what begins a comment
abbrev pub comment_signs : List ℕ
comment_signs = codes "#"

-- what may stand outside a comment
abbrev pub alphabet : List ℕ
alphabet = letters ++ (digits ++ spaces)

-- a byte of the line that stands outside a comment may not stand there: no comment begins before it or with it
pub record Foreign (bs : List ℕ) : Type 0 where
  pub before : List ℕ
  pub byte : ℕ
  pub after : List ℕ
  pub are : bs ≡ before ++ byte ∷ after
  pub outside : OneOf (IsOneOf comment_signs) (before ++ byte ∷ []) → ⊥
  pub not_permitted : IsOneOf alphabet byte → ⊥
