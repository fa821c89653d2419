-- What a text is cut into: lines, and their words.
--   upto stop bs       bs before its first byte that stops
--   ends, parts, comments   the tests of a line end, a space and a comment sign; is_letter, is_digit: of a letter and a digit
--   permitted b        a byte may stand outside a comment
--   content_of line    a line without its comment
--   joined b ps        the pieces ps with the byte b at the front of the first, or b alone if there are none
--   pieces stop bs     what stands before, between and after the bytes that stop; what follows the last of them only if it has a byte
--   used ps            the pieces that have a byte
--   lines text         the lines of a text: each ends with byte 10, which the last may lack
--   words bs           the words of bs, which spaces part
use Rattle.std.specs.Prelude.{ℕ, Bool, cond, ◌&&◌, ◌||◌, List, [], ◌∷◌, ◌==◌, nat_le}

abbrev pub upto : (ℕ → Bool) → List ℕ → List ℕ
upto stop [] = []
upto stop (b ∷ bs) = cond (stop b) [] (b ∷ upto stop bs)

abbrev pub ends : ℕ → Bool
ends b = b == 10

abbrev pub parts : ℕ → Bool
parts b = b == 32

abbrev pub comments : ℕ → Bool
comments b = b == 35

abbrev pub is_letter : ℕ → Bool
is_letter b = nat_le 97 b && nat_le b 122

abbrev pub is_digit : ℕ → Bool
is_digit b = nat_le 48 b && nat_le b 57

abbrev pub permitted : ℕ → Bool
permitted b = is_letter b || (is_digit b || parts b)

abbrev pub content_of : List ℕ → List ℕ
content_of line = upto comments line

abbrev pub joined : ℕ → List (List ℕ) → List (List ℕ)
joined b [] = (b ∷ []) ∷ []
joined b (p ∷ ps) = (b ∷ p) ∷ ps

abbrev pub pieces : (ℕ → Bool) → List ℕ → List (List ℕ)
pieces stop [] = []
pieces stop (b ∷ bs) = cond (stop b) ([] ∷ pieces stop bs) (joined b (pieces stop bs))

abbrev pub used : List (List ℕ) → List (List ℕ)
used [] = []
used ([] ∷ ps) = used ps
used ((b ∷ p) ∷ ps) = (b ∷ p) ∷ used ps

unfoldable pub lines : List ℕ → List (List ℕ)
lines text = pieces ends text

unfoldable pub words : List ℕ → List (List ℕ)
words bs = used (pieces parts bs)
