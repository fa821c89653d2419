-- The number that a word spells, byte by byte. Nothing is assumed.
use Rattle.std.proofs.Common.{◌≡◌, ℕ, ◌+◌, ◌-◌, ◌*◌, ◌<◌, ◌==◌, ◌∙◌, true, false, cond, None, List, [], ◌∷◌, length, refl, sym, ap, arith}
use Rattle.std.specs.Prelude.{nat_le}
use Rattle.std.specs.Char.{is_ascii_digit}
use Rattle.session.specs.Words.{number_of, up_to, value_from}

-- more digits never make a number smaller
pub past_most : (most v : ℕ) (bs : List ℕ) → most < v → up_to most (value_from v bs) ≡ None
past_most most v [] h = let e : nat_le v most ≡ false = grind arith in rw e refl
past_most most v (b ∷ bs) h =
    let more = past_most most (v * 10 + (b - 48)) bs (omega arith) in
    elim (is_ascii_digit b) as (λ d. up_to most (cond d (value_from (v * 10 + (b - 48)) bs) None) ≡ None) [ true ↦ more | false ↦ refl ]

pub no_digit : (most v b : ℕ) (bs all : List ℕ) → all ≡ b ∷ bs → is_ascii_digit b ≡ false → up_to most (value_from v all) ≡ None
no_digit most v b bs all e h = rw (e, h) refl

pub digit_taken : (v b : ℕ) (bs all : List ℕ) → all ≡ b ∷ bs → is_ascii_digit b ≡ true → value_from v all ≡ value_from (v * 10 + (b - 48)) bs
digit_taken v b bs all e h = rw (e, h) refl

-- a number that has grown past the most is none, whatever digits follow
pub too_large : (most v b : ℕ) (bs all word : List ℕ) → length word == 0 ≡ false → all ≡ b ∷ bs → is_ascii_digit b ≡ true
    → most < v * 10 + (b - 48) → up_to most (value_from v all) ≡ up_to most (value_from 0 word) → None ≡ number_of most word
too_large most v b bs all word some e digit more kept =
    let past = past_most most (v * 10 + (b - 48)) bs more in
    let taken = digit_taken v b bs all e digit in
    rw some (sym past ∙ sym (ap (up_to most) taken) ∙ kept)
