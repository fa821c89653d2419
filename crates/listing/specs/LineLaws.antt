-- How the rules of one line are told: by its bytes, by its words, by the forms, by what has been read.
use Rattle.std.specs.Prelude.{◌≡◌, ◌≢◌, ℕ, ◌↔◌, true, false, List, [], ◌∷◌, ◌++◌, codes, slice_index}
use Rattle.listing.specs.declared.code.Register.{Register}
use Rattle.listing.specs.declared.code.Variable.{Variable}
use Rattle.listing.specs.Alphabet.{IsOneOf, letters, digits, spaces, comment_signs, alphabet, Foreign}
use Rattle.listing.specs.Code.{index, slot}
use Rattle.listing.specs.Forms.{Line, no_form, out_of_range, means, form}
use Rattle.listing.specs.LineForms.{HasForm, InRange, SpellLine}
use Rattle.listing.specs.LineOrder.{MayStand, IsTooMuch}
use Rattle.listing.specs.Names.{variable_word, register_word}
use Rattle.listing.specs.Reading.{Progress, may_stand, room}
use Rattle.listing.specs.Spelling.{WithinLine, Row}
use Rattle.listing.specs.Words.{ends, parts, comments, is_letter, is_digit, permitted, content_of, words}

-- a test of a byte is true of just these bytes
pub record ByteTold (b : ℕ) : Type 0 where
  pub permitted_byte : (permitted b ≡ true) ↔ IsOneOf alphabet b
  pub letter : (is_letter b ≡ true) ↔ IsOneOf letters b
  pub digit : (is_digit b ≡ true) ↔ IsOneOf digits b
  pub space : (parts b ≡ true) ↔ IsOneOf spaces b
  pub line_end : (ends b ≡ true) ↔ (b ≡ 10)
  pub comment_sign : (comments b ≡ true) ↔ IsOneOf comment_signs b

-- a variable is written by its letter, and a register by r and its number
pub record NamesTold : Type 0 where
  pub variable : (v : Variable) → variable_word v ≡ slice_index letters (index v) ∷ []
  pub register : (r : Register) → register_word r ≡ codes "r" ++ slice_index digits (slot r) ∷ []

-- where each byte outside a comment is permitted, the words of a line are those that stand in it
abbrev pub WordsTold : List ℕ → Type 0
WordsTold bs = (ws : List (List ℕ)) → WithinLine bs → ((Foreign bs → ⊥) × (words (content_of bs) ≡ ws)) ↔ Row ws bs

-- what the words of a line say is told by the forms
pub record FormTold (w : List ℕ) (ws : List (List ℕ)) : Type 0 where
  pub formless : (form w ws ≡ no_form) ↔ (HasForm (w ∷ ws) → ⊥)
  pub formed : (form w ws ≢ no_form) ↔ HasForm (w ∷ ws)
  pub unranged : (form w ws ≡ out_of_range) ↔ (HasForm (w ∷ ws) × (InRange (w ∷ ws) → ⊥))
  pub ranged : ((l : Line) × (form w ws ≡ means l)) ↔ InRange (w ∷ ws)
  pub says : (l : Line) → (form w ws ≡ means l) ↔ (InRange (w ∷ ws) × SpellLine (w ∷ ws) l)

-- whether a line may stand after what has been read, and whether there is room for what it adds
pub record OrderTold (p : Progress) : Type 0 where
  pub stands : (w : List ℕ) (ws : List (List ℕ)) → HasForm (w ∷ ws) → (may_stand p w ≡ true) ↔ MayStand p w
  pub too_much : (l : Line) → (room p l ≡ false) ↔ IsTooMuch p l
