-- What the length and the bytes of a word say of it. Assumes nothing.
use Rattle.std.proofs.Common.{◌≡◌, ℕ, suc, ◌≤◌, true, false, eqb, leb, List, [], ◌∷◌, length, get_or, Some, None, sym, refl, ap, ◌∙◌, ⊎_elim, arith}
use Rattle.std.specs.List.{AllByRecursion as All}
use Rattle.std.proofs.lemmas.Bool.{and_parts, and_left, and_right, cases_Bool, cond-false, eqb-true, leb-true}
use Rattle.listing.specs.declared.code.Register.{Register}
use Rattle.listing.specs.declared.code.Register.TheVariants as register
use Rattle.listing.specs.declared.code.Variable.{Variable}
use Rattle.listing.specs.declared.code.Variable.TheVariants as variable
use Rattle.listing.specs.Limits.{all}
use Rattle.listing.specs.Names.{same_word, named, variable_of, register_of, variable_word, register_word}
use Rattle.listing.specs.Words.{is_digit}

-- from place k on, w holds the bytes of v
abbrev pub Holds : List ℕ → ℕ → List ℕ → Type 0
Holds w k [] = Unit {0}
Holds w k (b ∷ v) = (get_or w k 0 ≡ b) × Holds w (suc k) v

abbrev pub Spells : List ℕ → List ℕ → Type 0
Spells v w = (length w ≡ length v) × Holds w 0 v

tail : (v w : List ℕ) (b k : ℕ) → Holds (b ∷ w) (suc k) v → Holds w k v
tail [] w b k h = tt
tail (c ∷ v) w b k h = (h.0, tail v w b (suc k) h.1)

longer : (v w : List ℕ) (b k : ℕ) → Holds w k v → Holds (b ∷ w) (suc k) v
longer [] w b k h = tt
longer (c ∷ v) w b k h = (h.0, longer v w b (suc k) h.1)

pub spelled : (v w : List ℕ) → Spells v w → w ≡ v
spelled [] [] h = refl
spelled [] (c ∷ w) h = absurd (omega arith)
spelled (b ∷ v) [] h = absurd (omega arith)
spelled (b ∷ v) (c ∷ w) h =
    let rest : length w ≡ length v = omega arith in
    ap (λ x. x ∷ w) h.1.0 ∙ ap (λ x. b ∷ x) (spelled v w (rest, tail v w c 0 h.1.1))

pub unlike : (v w : List ℕ) → (Spells v w → ⊥) → same_word v w ≡ false
unlike [] [] h = absurd (h (refl, tt))
unlike [] (c ∷ w) h = refl
unlike (b ∷ v) [] h = refl
unlike (b ∷ v) (c ∷ w) h =
    ⊎_elim
    (λ e. and_right (eqb b c) (same_word v w) (unlike v w (λ s. h (ap suc s.0, (sym (eqb-true b c e), longer v w c 0 s.1)))))
    (λ e. and_left (eqb b c) (same_word v w) e)
    (cases_Bool (eqb b c))

pub no_name : {X : Type 0} (spell : X → List ℕ) (xs : List X) (w : List ℕ) → All (λ x. Spells (spell x) w → ⊥) xs → named spell xs w ≡ None
no_name spell [] w h = refl
no_name spell (x ∷ xs) w h = cond-false (same_word (spell x) w) (Some x) (named spell xs w) (unlike (spell x) w h.0) ∙ no_name spell xs w h.1

abbrev pub all_variables : List Variable
all_variables = variable.A ∷ variable.B ∷ variable.C ∷ variable.D ∷ variable.E ∷ variable.F ∷ variable.G ∷ variable.H ∷ []

abbrev pub all_registers : List Register
all_registers = register.R0 ∷ register.R1 ∷ register.R2 ∷ register.R3 ∷ []

pub no_variable : (w : List ℕ) → All (λ v. Spells (variable_word v) w → ⊥) all_variables → variable_of w ≡ None
unfolding variable_of
no_variable w h = no_name variable_word all_variables w h

pub no_register : (w : List ℕ) → All (λ r. Spells (register_word r) w → ⊥) all_registers → register_of w ≡ None
unfolding register_of
no_register w h = no_name register_word all_registers w h

-- a number is no name
pub first_digit : (b : ℕ) (bs : List ℕ) → all is_digit (b ∷ bs) ≡ true → b ≤ 57
first_digit b bs h = leb-true b 57 (and_parts (leb 48 b) (leb b 57) (and_parts (is_digit b) (all is_digit bs) h).0).1

pub digits_no_variable : (w : List ℕ) → all is_digit w ≡ true → variable_of w ≡ None
digits_no_variable [] h = no_variable [] (omega arith)
digits_no_variable (b ∷ bs) h = let low = first_digit b bs h in no_variable (b ∷ bs) (omega arith)

pub digits_no_register : (w : List ℕ) → all is_digit w ≡ true → register_of w ≡ None
digits_no_register [] h = no_register [] (omega arith)
digits_no_register (b ∷ bs) h = let low = first_digit b bs h in no_register (b ∷ bs) (omega arith)
