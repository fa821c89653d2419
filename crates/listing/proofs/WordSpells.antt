-- A word is read as what it spells, and as nothing else. Assumes nothing.
--   Only P s           what s means, if it means something, has P
--   Reads p item fits  the words that p reads as x are those that spell the item of x, for each x that fits
use Rattle.std.proofs.Common.{◌≡◌, ℕ, ◌+◌, ◌-◌, ◌*◌, ◌<◌, Bool, true, false, cond, ◌&&◌, eqb, leb, List, [], ◌∷◌, Some, None, Option, refl, ap, ◌∙◌, subst, zero-le, arith}
use Rattle.std.proofs.lemmas.Bool.{and_parts, and_from, leb-true, le-leb, eqb-true}
use Rattle.listing.specs.declared.code.Operand.{Operand}
use Rattle.listing.specs.declared.code.Operand.TheVariants as operands
use Rattle.listing.specs.declared.code.Register.{Register}
use Rattle.listing.specs.declared.code.Register.TheVariants as registers
use Rattle.listing.specs.declared.code.Variable.{Variable}
use Rattle.listing.specs.declared.code.Variable.TheVariants as variables
use Rattle.listing.specs.Forms.{Says, no_form, out_of_range, means, apply, called, ranged, number, variable, register, value, operand}
use Rattle.listing.specs.Limits.{all, between}
use Rattle.listing.specs.Names.{same_word, variable_word, register_word, named, variable_of, register_of, value_of}
use Rattle.listing.specs.Spelling.{Item, Writes, one_digit, two_digits, Spelled, operand_item}
use Rattle.listing.specs.Spelling as spelling
use Rattle.listing.specs.Values.{operand_fits}
use Rattle.listing.specs.Words.{is_digit}
use Rattle.listing.proofs.Counts.{high_fits}
use Rattle.listing.proofs.Spelled.{all_variables, all_registers}

abbrev pub Only : {X : Type 0} → (X → Type 0) → Says X → Type 0
Only {X} P s = (x : X) → s ≡ means x → P x

pub record Reads {X : Type 0} (p : List ℕ → Says X) (item : X → Item) (fits : X → Bool) : Type 0 where
  pub only : (w : List ℕ) → Only (λ x. Spelled (item x) w × (fits x ≡ true)) (p w)
  pub every : (w : List ℕ) (x : X) → fits x ≡ true → Spelled (item x) w → p w ≡ means x

module _ {X : Type 0} (P : X → Type 0) where
  pub only_formless : Only P no_form
  only_formless x h = cc

  pub only_unranged : Only P out_of_range
  only_unranged x h = cc

  pub only_meant : (x : X) → P x → Only P (means x)
  only_meant x p y h = let e : x ≡ y = cc in subst P e p

  pub only_cond : (b : Bool) (s t : Says X) → (b ≡ true → Only P s) → (b ≡ false → Only P t) → Only P (cond b s t)
  only_cond true s t f g = f refl
  only_cond false s t f g = g refl

  pub only_map : {Y : Type 0} (f : Y → X) (s : Says Y) → Only (λ y. P (f y)) s → Only P (apply (means f) s)
  only_map f no_form k = only_formless
  only_map f out_of_range k = only_unranged
  only_map f (means y) k = only_meant (f y) (k y refl)

  pub only_apply : {Y : Type 0} (f : Says (Y → X)) (s : Says Y) → ((g : Y → X) → f ≡ means g → Only (λ y. P (g y)) s) → Only P (apply f s)
  only_apply no_form s k = only_formless
  only_apply out_of_range no_form k = only_formless
  only_apply out_of_range out_of_range k = only_unranged
  only_apply out_of_range (means y) k = only_unranged
  only_apply (means g) s k = only_map g s (k g refl)

pub same_word_eq : (v w : List ℕ) → same_word v w ≡ true → w ≡ v
same_word_eq [] [] h = refl
same_word_eq [] (c ∷ w) h = cc
same_word_eq (b ∷ v) [] h = cc
same_word_eq (b ∷ v) (c ∷ w) h =
    let parts = and_parts (eqb b c) (same_word v w) h in
    let head = eqb-true b c parts.0 in
    let tail = same_word_eq v w parts.1 in
    cc

named_only : {X : Type 0} (spell : X → List ℕ) (xs : List X) (w : List ℕ) → Only (λ x. w ≡ spell x) (called (named spell xs w))
named_only spell [] w = only_formless (λ x. w ≡ spell x)
named_only {X} spell (x ∷ xs) w = tested (same_word (spell x) w) (named spell xs w) (same_word_eq (spell x) w) (named_only spell xs w)
  where
    tested : (b : Bool) (o : Option X) → (b ≡ true → w ≡ spell x) → Only (λ x. w ≡ spell x) (called o) → Only (λ x. w ≡ spell x) (called (cond b (Some x) o))
    tested true o same other = only_meant (λ x. w ≡ spell x) x (same refl)
    tested false o same other = other

variable_named : (v : Variable) → variable (variable_word v) ≡ means v
unfolding variable_of
variable_named variables.A = refl
variable_named variables.B = refl
variable_named variables.C = refl
variable_named variables.D = refl
variable_named variables.E = refl
variable_named variables.F = refl
variable_named variables.G = refl
variable_named variables.H = refl

register_named : (r : Register) → register (register_word r) ≡ means r
unfolding register_of
register_named registers.R0 = refl
register_named registers.R1 = refl
register_named registers.R2 = refl
register_named registers.R3 = refl

pub variable_reads : Reads variable (λ v. spelling.name (variable_word v)) (λ v. true)
unfolding variable_of
variable_reads = record {
  only = λ w v h. (named_only variable_word all_variables w v h, refl);
  every = λ w v fits same. ap variable same ∙ variable_named v;
}

pub register_reads : Reads register (λ r. spelling.name (register_word r)) (λ r. true)
unfolding register_of
register_reads = record {
  only = λ w r h. (named_only register_word all_registers w r h, refl);
  every = λ w r fits same. ap register same ∙ register_named r;
}

digit_is : (d : ℕ) → is_digit d ≡ true → (d - 48 < 10) × (48 + (d - 48) ≡ d)
digit_is d h =
    let parts = and_parts (leb 48 d) (leb d 57) h in
    let low = leb-true 48 d parts.0 in
    let high = leb-true d 57 parts.1 in
    (omega arith, omega arith)

pub digit_from : (d : ℕ) → d < 10 → is_digit (48 + d) ≡ true
digit_from d h = and_from (leb 48 (48 + d)) (leb (48 + d) 57) (le-leb 48 (48 + d) (omega arith)) (le-leb (48 + d) 57 (omega arith))

digits_given : (b : Bool) (m n : ℕ) → cond b (Some m) None ≡ Some n → (b ≡ true) × (m ≡ n)
digits_given true m n h = (refl, cc)
digits_given false m n h = cc

pub value_written : (w : List ℕ) (n : ℕ) → value_of w ≡ Some n → Writes n w
value_written [] n h = cc
value_written (d ∷ []) n h =
    let given = digits_given (is_digit d) (d - 48) n h in
    let last = digit_is d given.0 in
    subst (λ k. Writes n (k ∷ [])) last.1 (subst (λ m. Writes m ((48 + (d - 48)) ∷ [])) given.1 (one_digit (d - 48) last.0))
value_written (t ∷ d ∷ []) n h =
    let given = digits_given (is_digit t && is_digit d) ((t - 48) * 10 + (d - 48)) n h in
    let both = and_parts (is_digit t) (is_digit d) given.0 in
    let tens = digit_is t both.0 in
    let last = digit_is d both.1 in
    subst (λ k. Writes n (k ∷ d ∷ [])) tens.1
    (subst (λ k. Writes n ((48 + (t - 48)) ∷ k ∷ [])) last.1
    (subst (λ m. Writes m ((48 + (t - 48)) ∷ (48 + (d - 48)) ∷ [])) given.1 (two_digits (t - 48) (d - 48) tens.0 last.0)))
value_written (t ∷ d ∷ e ∷ w) n h = cc

pub written_value : {n : ℕ} {w : List ℕ} → Writes n w → (all is_digit w ≡ true) × (value_of w ≡ Some n)
written_value (one_digit d h) =
    let is = digit_from d h in
    let back : 48 + d - 48 ≡ d = omega arith in
    (rw is refl, rw (is, back) refl)
written_value (two_digits t d k h) =
    let tens = digit_from t k in
    let last = digit_from d h in
    let back-tens : 48 + t - 48 ≡ t = omega arith in
    let back_last : 48 + d - 48 ≡ d = omega arith in
    (rw (tens, last) refl, rw (tens, last, back-tens, back_last) refl)

ranged_only : (P : ℕ → Type 0) (low high : ℕ) (o : Option ℕ) → ((n : ℕ) → o ≡ Some n → P n) → Only (λ n. P n × (between low high n ≡ true)) (ranged low high o)
ranged_only P low high None k = only_unranged (λ n. P n × (between low high n ≡ true))
ranged_only P low high (Some n) k =
    let Q : ℕ → Type 0 = λ n. P n × (between low high n ≡ true) in
    only_cond Q (between low high n) (means n) out_of_range (λ in_range. only_meant Q n (k n refl, in_range)) (λ out. only_unranged Q)

pub number_reads : (low high : ℕ) → Reads (number low high) spelling.number (between low high)
unfolding number
number_reads low high = record {
  only = λ w.
      let P : ℕ → Type 0 = λ n. Writes n w × (between low high n ≡ true) in
      only_cond P (all is_digit w) (ranged low high (value_of w)) no_form
      (λ digits. ranged_only (λ n. Writes n w) low high (value_of w) (value_written w)) (λ other. only_formless P);
  every = λ w n fits writes. let is = written_value writes in rw (is.0, is.1, fits) refl;
}

-- a number from 0 on
pub upto_reads : (high : ℕ) → Reads (number 0 high) spelling.number (λ n. leb n high)
upto_reads high = record {
  only = λ w n h. let is = (number_reads 0 high).only w n h in (is.0, high_fits 0 high n is.1);
  every = λ w n fits. (number_reads 0 high).every w n (and_from (leb 0 n) (leb n high) (le-leb 0 n zero-le) fits);
}

pub operand_reads : Reads operand operand_item operand_fits
unfolding operand
operand_reads = record {
  only = λ w.
      let P : Operand ℕ → Type 0 = λ e. Spelled (operand_item e) w × (operand_fits e ≡ true) in
      only_cond P (all is_digit w) (apply (means operands.Value) (value w)) (apply (means operands.Register) (register w))
      (λ digits. only_map P operands.Value (value w) ((upto_reads 15).only w))
      (λ other. only_map P operands.Register (register w) (register_reads.only w));
  every = operand_every;
}
  where
    operand_every : (w : List ℕ) (e : Operand ℕ) → operand_fits e ≡ true → Spelled (operand_item e) w → operand w ≡ means e
    operand_every w (operands.Value n) fits writes = rw ((written_value writes).0, (upto_reads 15).every w n fits writes) refl
    operand_every w (operands.Register r) fits same = rw same (ap (apply (means operands.Register)) (register_named r))
