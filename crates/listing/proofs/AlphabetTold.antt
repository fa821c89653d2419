-- The tests of a byte are told by the bytes that pass. Assumes nothing.
use Rattle.std.proofs.Common.{◌≡◌, ℕ, ◌↔◌, ◌||◌, true, false, leb, ◌++◌, inl, refl, arith}
use Rattle.std.proofs.lemmas.Bool.{and_parts, leb-true, eqb-true, eq-eqb}
use Rattle.listing.specs.Alphabet.{IsOneOf, letters, digits, spaces, comment_signs, alphabet}
use Rattle.listing.specs.LineLaws.{ByteTold}
use Rattle.listing.specs.Words.{parts, comments, is_letter, is_digit, permitted}
use Rattle.listing.proofs.OneOfMany.{one_of_left, one_of_right, one_passes, in_run}

pub letter_told : (b : ℕ) → (is_letter b ≡ true) ↔ IsOneOf letters b
letter_told b = (
  λ h.
      let both = and_parts (leb 97 b) (leb b 122) h in
      in_run 97 26 b (leb-true 97 b both.0) (omega (arith, leb-true b 122 both.1)),
  one_passes is_letter letters b refl,
)

pub digit_told : (b : ℕ) → (is_digit b ≡ true) ↔ IsOneOf digits b
digit_told b = (
  λ h.
      let both = and_parts (leb 48 b) (leb b 57) h in
      in_run 48 10 b (leb-true 48 b both.0) (omega (arith, leb-true b 57 both.1)),
  one_passes is_digit digits b refl,
)

pub byte_told : (b : ℕ) → ByteTold b
byte_told b =
    record {
      permitted_byte = (permitted_listed, one_passes permitted alphabet b refl);
      letter = letter_told b;
      digit = digit_told b;
      space = (λ h. inl (eqb-true b 32 h), one_passes parts spaces b refl);
      line_end = (eqb-true b 10, eq-eqb b 10);
      comment_sign = (λ h. inl (eqb-true b 35 h), one_passes comments comment_signs b refl);
    }
  where
    other : (is_digit b || parts b) ≡ true → IsOneOf (digits ++ spaces) b
    other h =
        elim (is_digit b) as (λ d. is_digit b ≡ d → (d || parts b) ≡ true → IsOneOf (digits ++ spaces) b) [
          | true ↦ λ is k. one_of_left (λ c. b ≡ c) digits spaces ((digit_told b).0 is)
          | false ↦ λ not k. one_of_right (λ c. b ≡ c) digits spaces (inl (eqb-true b 32 k))
        ] refl h

    permitted_listed : permitted b ≡ true → IsOneOf alphabet b
    permitted_listed h =
        elim (is_letter b) as (λ d. is_letter b ≡ d → (d || (is_digit b || parts b)) ≡ true → IsOneOf alphabet b) [
          | true ↦ λ is k. one_of_left (λ c. b ≡ c) letters (digits ++ spaces) ((letter_told b).0 is)
          | false ↦ λ not k. one_of_right (λ c. b ≡ c) letters (digits ++ spaces) (other k)
        ] refl h
