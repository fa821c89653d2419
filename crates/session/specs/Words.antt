-- The words of a line, and the numbers among them.
use Rattle.std.specs.Prelude.{◌≡◌, ◌≢◌, ◌<◌, ◌≤◌, slice_index, slice_range, ℕ, ◌+◌, ◌-◌, ◌*◌, ◌==◌, not, cond, Option, Some, None, List, [], ◌∷◌, length, filter, nat_le}
use Rattle.std.specs.List.{slice_split}
use Rattle.std.specs.Char.{is_ascii_digit}

-- the words, parted by one or more spaces
abbrev pub words : List ℕ → List (List ℕ)
words line = filter (λ w. not (length w == 0)) (slice_split (λ b. b == 32) line)

-- what the digits come to that follow a value; none where a byte is no digit
abbrev pub value_from : ℕ → List ℕ → Option ℕ
value_from v [] = Some v
value_from v (b ∷ bs) = cond (is_ascii_digit b) (value_from (v * 10 + (b - 48)) bs) None

-- the value, if it is at most this
abbrev pub up_to : ℕ → Option ℕ → Option ℕ
up_to most None = None
up_to most (Some v) = cond (nat_le v most) (Some v) None

-- the number that a word spells in digits alone, if it is at most this
abbrev pub number_of : ℕ → List ℕ → Option ℕ
number_of most word = cond (length word == 0) None (up_to most (value_from 0 word))

-- the rest of some bytes without the spaces before and after it
pub record Trims (bytes rest : List ℕ) : Type 0 where
  pub start : ℕ
  pub end : ℕ
  pub cut : rest ≡ slice_range bytes start end
  pub before : (k : ℕ) → k < start → slice_index bytes k ≡ 32
  pub after : (k : ℕ) → end ≤ k → k < length bytes → slice_index bytes k ≡ 32
  pub first : start < end → slice_index bytes start ≢ 32
  pub last : start < end → slice_index bytes (end - 1) ≢ 32
