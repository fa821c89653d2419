-- Each reason stands once in the table of the refusals. Assumes nothing.
use Rattle.std.proofs.Common.{◌≡◌, ◌≢◌, ℕ, suc, Bool, true, false, not, eqb, eq-eqb, ◌∷◌, ◌++◌, take, drop, refl, ap}
use Rattle.std.proofs.lemmas.List.Elements.{All-from_recursion}
use Rattle.listing.specs.declared.refusal.Reason.{Reason}
use Rattle.listing.specs.declared.refusal.Reason.TheVariants as reason
use Rattle.listing.specs.Limits.{all}
use Rattle.listing.specs.Reasons.{NumbersAreTheTable, StandsOnce, number_of, table}
use Rattle.listing.proofs.Kept.{each}
use Rattle.listing.proofs.Recursive.{all_weaker}

-- a row of a reason with another number
abbrev other : Reason → ℕ × Reason → Bool
other why row = not (eqb (number_of row.1) (number_of why))

differs : (why : Reason) (row : ℕ × Reason) → other why row ≡ true → row.1 ≢ why
differs why row h same = both (eqb (number_of row.1) (number_of why)) (eq-eqb _ _ (ap number_of same)) h
  where
    both : (b : Bool) → b ≡ true → not b ≡ true → ⊥
    both true h k = cc
    both false h k = cc

once_at : (i : ℕ) (why : Reason) → table ≡ take i table ++ (number_of why, why) ∷ drop (suc i) table
    → all (other why) (take i table ++ drop (suc i) table) ≡ true → StandsOnce why (number_of why)
once_at i why here apart =
    let rest = take i table ++ drop (suc i) table in
    record {
      before = take i table;
      after = drop (suc i) table;
      here = here;
      nowhere_else = All-from_recursion (λ row. row.1 ≢ why) rest
          (all_weaker (λ row. other why row ≡ true) (λ row. row.1 ≢ why) (differs why) rest (each (other why) rest apart));
    }

pub numbers_are_the_table : NumbersAreTheTable
numbers_are_the_table reason.TextTooLong = once_at 0 reason.TextTooLong refl refl
numbers_are_the_table reason.ByteNotPermitted = once_at 1 reason.ByteNotPermitted refl refl
numbers_are_the_table reason.NoForm = once_at 2 reason.NoForm refl refl
numbers_are_the_table reason.NumberOutOfRange = once_at 3 reason.NumberOutOfRange refl refl
numbers_are_the_table reason.TooMany = once_at 4 reason.TooMany refl refl
numbers_are_the_table reason.Missing = once_at 5 reason.Missing refl refl
numbers_are_the_table reason.TargetMissing = once_at 6 reason.TargetMissing refl refl
numbers_are_the_table reason.NoProgram = once_at 7 reason.NoProgram refl refl
numbers_are_the_table reason.PlaceMissing = once_at 8 reason.PlaceMissing refl refl
numbers_are_the_table reason.AlreadySo = once_at 9 reason.AlreadySo refl refl
numbers_are_the_table reason.RunListTooShort = once_at 10 reason.RunListTooShort refl refl
numbers_are_the_table reason.NoPlacement = once_at 11 reason.NoPlacement refl refl
numbers_are_the_table reason.PlaceNotKept = once_at 12 reason.PlaceNotKept refl refl
numbers_are_the_table reason.TooFewRows = once_at 13 reason.TooFewRows refl refl
numbers_are_the_table reason.NoneEnough = once_at 14 reason.NoneEnough refl refl
numbers_are_the_table reason.BufferTooShort = once_at 15 reason.BufferTooShort refl refl
