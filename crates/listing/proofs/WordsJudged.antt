-- A word is told by the part of a form that it stands for. Assumes nothing.
use Rattle.std.proofs.Common.{◌≡◌, ◌↔◌, ◌⊎◌, ℕ, true, false, cond, not, leb, List, [], ◌∷◌, map, Some, None, Option, inl, inr, sym, refl, subst, ⊎_elim}
use Rattle.std.proofs.lemmas.Bool.{and_parts, and_from, leb-true, not-true}
use Rattle.listing.specs.declared.code.Operand.TheVariants as operands
use Rattle.listing.specs.Alphabet.{IsOneOf, digits}
use Rattle.listing.specs.Forms.{Says, no_form, out_of_range, means, called, ranged, apply}
use Rattle.listing.specs.Forms as forms
use Rattle.listing.specs.LineForms.{variable, register, number, operand, IsNumber, IsNumberWithin, registers}
use Rattle.listing.specs.Limits.{all, between}
use Rattle.listing.specs.Names.{same_word, named, variable_of, register_of, value_of, variable_word, register_word}
use Rattle.listing.specs.Spelling.{Writes}
use Rattle.listing.specs.Words.{is_digit}
use Rattle.listing.proofs.AlphabetTold.{digit_told}
use Rattle.listing.proofs.Counts.{is_between}
use Rattle.listing.proofs.OneOfMany.{one_passes}
use Rattle.listing.proofs.Spelled.{all_variables, all_registers}
use Rattle.listing.proofs.Telling.{Tells, formless, unranged, meant, tells_as, tells_map, same_word_self, Judges}
use Rattle.listing.proofs.WordSpells.{same_word_eq, value_written, written_value}

number_told : (w : List ℕ) → (all is_digit w ≡ true) ↔ IsNumber w
number_told [] = (λ h. tt, λ h. refl)
number_told (d ∷ w) = (
  λ h. let both = and_parts (is_digit d) (all is_digit w) h in ((digit_told d).0 both.0, (number_told w).0 both.1),
  λ h. and_from (is_digit d) (all is_digit w) ((digit_told d).1 h.0) ((number_told w).1 h.1),
)

pub writes_number : {n : ℕ} {w : List ℕ} → Writes n w → IsNumber w
writes_number {n} {w} h = (number_told w).0 (written_value h).0

ranged_told : (low high : ℕ) (w : List ℕ) → IsNumber w → (o : Option ℕ) → value_of w ≡ o → Tells (IsNumber w) (IsNumberWithin low high w) (ranged low high o)
ranged_told low high w digits None e = unranged digits (λ h. let is = (written_value h.1.0).1 in cc)
ranged_told low high w digits (Some n) e =
    elim (between low high n) as (λ b. between low high n ≡ b → Tells (IsNumber w) (IsNumberWithin low high w) (cond b (means n) out_of_range)) [
      | true ↦ λ is.
          let both = and_parts (leb low n) (leb n high) is in
          meant digits (n, (value_written w n e, (leb-true low n both.0, leb-true n high both.1)))
      | false ↦ λ not. unranged digits (λ h.
          let same : h.0 ≡ n = (let is = (written_value h.1.0).1 in cc) in
          let in_range = subst (λ m. between low high m ≡ true) same (is_between low high h.0 h.1.1.0 h.1.1.1) in
          cc)
    ] refl

pub number_judged : (low high : ℕ) → Judges (number low high) (forms.number low high)
unfolding forms.number
number_judged low high w =
    elim (all is_digit w) as (λ b. all is_digit w ≡ b → Tells (IsNumber w) (IsNumberWithin low high w) (cond b (ranged low high (value_of w)) no_form)) [
      | true ↦ λ is. ranged_told low high w ((number_told w).0 is) (value_of w) refl
      | false ↦ λ not. formless (λ h. let is = (number_told w).1 h in cc)
    ] refl

named_told : {X : Type 0} (spell : X → List ℕ) (xs : List X) (w : List ℕ) → Tells (IsOneOf (map spell xs) w) (IsOneOf (map spell xs) w) (called (named spell xs w))
named_told spell [] w = formless (λ h. h)
named_told spell (x ∷ xs) w =
    elim (same_word (spell x) w) as (λ b. same_word (spell x) w ≡ b → Tells (IsOneOf (map spell (x ∷ xs)) w) (IsOneOf (map spell (x ∷ xs)) w) (called (cond b (Some x) (named spell xs w)))) [
      | true ↦ λ is. let same = same_word_eq (spell x) w is in meant (inl same) (inl same)
      | false ↦ λ not.
          let later : IsOneOf (map spell xs) w ↔ IsOneOf (map spell (x ∷ xs)) w
          = (inr, λ h. ⊎_elim (λ e. let is = subst (λ u. same_word (spell x) u ≡ true) (sym e) (same_word_self (spell x)) in cc) (λ k. k) h) in
          tells_as later later (named_told spell xs w)
    ] refl

pub variable_judged : Judges variable forms.variable
unfolding variable_of
variable_judged w = named_told variable_word all_variables w

pub register_judged : Judges register forms.register
unfolding register_of
register_judged w = named_told register_word all_registers w

-- a register is no number
register_no_number : (w : List ℕ) → IsOneOf registers w → all is_digit w ≡ false
register_no_number w h = not-true (all is_digit w) (one_passes (λ u. not (all is_digit u)) registers w refl h)

one_side : {A B : Type 0} → (B → ⊥) → A ↔ (B ⊎ A)
one_side none = (inr, λ h. ⊎_elim (λ b. absurd (none b)) (λ a. a) h)

other_side : {A B : Type 0} → (B → ⊥) → A ↔ (A ⊎ B)
other_side none = (inl, λ h. ⊎_elim (λ a. a) (λ b. absurd (none b)) h)

pub operand_judged : Judges operand forms.operand
unfolding forms.operand
operand_judged w =
    elim (all is_digit w) as (λ b. all is_digit w ≡ b → Tells (IsOneOf registers w ⊎ IsNumber w) (IsOneOf registers w ⊎ IsNumberWithin 0 15 w) (cond b (apply (means operands.Value) (forms.value w)) (apply (means operands.Register) (forms.register w)))) [
      | true ↦ λ is.
          let none : IsOneOf registers w → ⊥ = λ r. (let not = register_no_number w r in cc) in
          tells_as (one_side none) (one_side none) (tells_map operands.Value (number_judged 0 15 w))
      | false ↦ λ not.
          tells_as
          (other_side (λ n. let is = (number_told w).1 n in cc))
          (other_side (λ n. let is = (written_value n.1.0).0 in cc))
          (tells_map operands.Register (register_judged w))
    ] refl
