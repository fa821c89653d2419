-- What the first of some words says, by the token that was taken. Assumes nothing.
use Rattle.std.proofs.Common.{◌≡◌, ℕ, true, false, cond, List, Some, None, Option, refl, ap, ◌∙◌}
use Rattle.listing.specs.declared.code.Operand.TheVariants as operands
use Rattle.listing.specs.Forms.{no_form, out_of_range, means, apply, called, ranged, number, operand, register}
use Rattle.listing.specs.Limits.{all, between}
use Rattle.listing.specs.Names.{register_of, value_of}
use Rattle.listing.specs.Taking.{in_range, lift, said}
use Rattle.listing.specs.Words.{is_digit}
use Rattle.listing.proofs.SaidTogether.{apply_said}

ranged_said : (low high : ℕ) (o : Option ℕ) → ranged low high o ≡ said (in_range low high o)
ranged_said low high None = refl
ranged_said low high (Some n) = elim (between low high n) as (λ t. cond t (means n) out_of_range ≡ said (cond t (Some n) None)) [ true ↦ refl | false ↦ refl ]

pub number_digits : (low high : ℕ) (w : List ℕ) → all is_digit w ≡ true → number low high w ≡ said (in_range low high (value_of w))
unfolding number
number_digits low high w h = ap (λ t. cond t (ranged low high (value_of w)) no_form) h ∙ ranged_said low high (value_of w)

pub number_word : (low high : ℕ) (w : List ℕ) → all is_digit w ≡ false → number low high w ≡ no_form
unfolding number
number_word low high w h = ap (λ t. cond t (ranged low high (value_of w)) no_form) h

pub operand_digits : (w : List ℕ) → all is_digit w ≡ true → operand w ≡ said (lift (Some (λ x. operands.Value x)) (in_range 0 15 (value_of w)))
unfolding operand
operand_digits w h =
    ap (λ t. cond t (apply (means operands.Value) (number 0 15 w)) (apply (means operands.Register) (register w))) h
    ∙ ap (apply (means operands.Value)) (number_digits 0 15 w h) ∙ apply_said (Some operands.Value) (in_range 0 15 (value_of w))

pub operand_word : (w : List ℕ) → all is_digit w ≡ false → operand w ≡ apply (means operands.Register) (called (register_of w))
unfolding operand
operand_word w h = ap (λ t. cond t (apply (means operands.Value) (number 0 15 w)) (apply (means operands.Register) (register w))) h
