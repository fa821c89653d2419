-- Sets of places. A set is a number whose binary digit at p says whether the place p is in it.
--   has s p           the place p is in the set
--   adding s p        the set with the place p
--   removing s p      the set without the place p
--   first_places n    all places below n
--   from_place s n    those of the set that are not below n
--   outside s o       those of s that are not in o
--   common s o        those of s that are in o
--   lowest s          its lowest place, if it has one
--   places_in s n     its places below n, in ascending order
--   TakesLowest s r t the lowest place of s is r, and t is s without it; r is none and t is empty where s is empty
--   SetLaws           what is in the set after each of these; sets of the same places are the same; and count_ones counts the places of a set
use Rattle.std.specs.Prelude.{◌≡◌, ◌↔◌, ℕ, ◌-◌, ◌*◌, ◌/◌, ◌%◌, ◌^◌, ◌<◌, Bool, true, false, not, ◌&&◌, ◌||◌, cond, List, length, Some, None, Option, ◌==◌, nat_lt, nat_le, bit_and, bit_or, bit_xor, count_ones}
use Rattle.std.specs.List.{filter, range_with_len}
use Rattle.std.specs.Int.Count.{count_trailing_zeros}

abbrev pub has : ℕ → ℕ → Bool
has s p = s / 2 ^ p % 2 == 1

abbrev pub adding : ℕ → ℕ → ℕ
adding s p = bit_or s (2 ^ p)

abbrev pub removing : ℕ → ℕ → ℕ
removing s p = cond (has s p) (s - 2 ^ p) s

abbrev pub first_places : ℕ → ℕ
first_places n = 2 ^ n - 1

abbrev pub from_place : ℕ → ℕ → ℕ
from_place s n = s / 2 ^ n * 2 ^ n

abbrev pub outside : ℕ → ℕ → ℕ
outside s o = bit_xor s (bit_and s o)

abbrev pub common : ℕ → ℕ → ℕ
common s o = bit_and s o

abbrev pub lowest : ℕ → Option ℕ
lowest s = cond (s == 0) None (Some (count_trailing_zeros 32 s))

unfoldable pub places_in : ℕ → ℕ → List ℕ
places_in s n = filter (has s) (range_with_len 0 n)

abbrev pub TakesLowest : ℕ → Option ℕ → ℕ → Type 0
TakesLowest s None t = (s ≡ 0) × (t ≡ 0)
TakesLowest s (Some p) t = (lowest s ≡ Some p) × (t ≡ removing s p)

pub record SetLaws : Type 0 where
  pub empty : (q : ℕ) → has 0 q ≡ false
  pub adding : (s p q : ℕ) → has (adding s p) q ≡ (has s q || p == q)
  pub removing : (s p q : ℕ) → has (removing s p) q ≡ (has s q && not (p == q))
  pub first : (n q : ℕ) → has (first_places n) q ≡ nat_lt q n
  pub from : (s n q : ℕ) → has (from_place s n) q ≡ (has s q && nat_le n q)
  pub outside : (s o q : ℕ) → has (outside s o) q ≡ (has s q && not (has o q))
  pub common : (s o q : ℕ) → has (common s o) q ≡ (has s q && has o q)
  pub lowest : (s p : ℕ) → s < 2 ^ 32 → lowest s ≡ Some p ↔ ((has s p ≡ true) × ((q : ℕ) → q < p → has s q ≡ false))
  pub known : (s o : ℕ) → ((q : ℕ) → has s q ≡ has o q) → s ≡ o
  pub count : (s : ℕ) → s < 2 ^ 32 → count_ones s ≡ length (places_in s 32)
