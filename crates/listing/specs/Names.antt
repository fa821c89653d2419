-- How names and numbers are written, by the codes of their letters and digits.
--   same_word v w      two words are equal
--   letter v           the letter of a variable
--   digit r            the digit of a register, after its letter `r`
--   variable_word v    a variable as it is written; and register_word
--   named spell xs w   which of xs is spelled w
--   variable_of w      the variable that a word names, if any; and register_of
--   value_of w         the number that one or two digits write
use Rattle.std.specs.Prelude.{Bool, List, None, Option, Some, [], cond, false, true, ℕ, ◌&&◌, ◌*◌, ◌+◌, ◌-◌, ◌==◌, ◌∷◌}
use Rattle.listing.specs.declared.code.Register.{Register}
use Rattle.listing.specs.declared.code.Register.TheVariants as register
use Rattle.listing.specs.declared.code.Variable.{Variable}
use Rattle.listing.specs.declared.code.Variable.TheVariants as variable
use Rattle.listing.specs.Words.{is_digit}

abbrev pub same_word : List ℕ → List ℕ → Bool
same_word [] [] = true
same_word [] (c ∷ w) = false
same_word (b ∷ v) [] = false
same_word (b ∷ v) (c ∷ w) = b == c && same_word v w

abbrev pub letter : Variable → ℕ
letter variable.A = 97
letter variable.B = 98
letter variable.C = 99
letter variable.D = 100
letter variable.E = 101
letter variable.F = 102
letter variable.G = 103
letter variable.H = 104

abbrev pub digit : Register → ℕ
digit register.R0 = 48
digit register.R1 = 49
digit register.R2 = 50
digit register.R3 = 51

abbrev pub variable_word : Variable → List ℕ
variable_word v = letter v ∷ []

abbrev pub register_word : Register → List ℕ
register_word r = 114 ∷ digit r ∷ []

abbrev pub named : {X : Type 0} → (X → List ℕ) → List X → List ℕ → Option X
named spell [] w = None
named spell (x ∷ xs) w = cond (same_word (spell x) w) (Some x) (named spell xs w)

unfoldable pub variable_of : List ℕ → Option Variable
variable_of w =
    named variable_word
    (variable.A ∷ variable.B ∷ variable.C ∷ variable.D ∷ variable.E ∷ variable.F ∷ variable.G ∷ variable.H ∷ []) w

unfoldable pub register_of : List ℕ → Option Register
register_of w = named register_word (register.R0 ∷ register.R1 ∷ register.R2 ∷ register.R3 ∷ []) w

abbrev pub value_of : List ℕ → Option ℕ
value_of [] = None
value_of (d ∷ []) = cond (is_digit d) (Some (d - 48)) None
value_of (t ∷ d ∷ []) = cond (is_digit t && is_digit d) (Some ((t - 48) * 10 + (d - 48))) None
value_of (t ∷ d ∷ e ∷ w) = None
