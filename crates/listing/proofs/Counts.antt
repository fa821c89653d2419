-- Counts from one number to another, and lists that have an element. Assumes nothing.
use Rattle.std.proofs.Common.{sym, ap, ◌∙◌, Bool, ◌≡◌, ℕ, ◌≤◌, true, not, eqb, leb, List, [], ◌∷◌, ◌++◌, length, refl, arith}
use Rattle.std.proofs.lemmas.Bool.{and_parts, and_from, leb-true, le-leb, ne_eqb, not_from_false}
use Rattle.listing.specs.Limits.{between}
use Rattle.listing.specs.Reading.{some}

pub is_between : (low high n : ℕ) → low ≤ n → n ≤ high → between low high n ≡ true
is_between low high n l h = and_from (leb low n) (leb n high) (le-leb low n l) (le-leb n high h)

pub high_fits : (low high n : ℕ) → between low high n ≡ true → leb n high ≡ true
high_fits low high n h = (and_parts (leb low n) (leb n high) h).1

pub at_most : (low high n : ℕ) → between low high n ≡ true → n ≤ high
at_most low high n h = leb-true n high (high_fits low high n h)

pub has_some : {X : Type 0} (xs : List X) (high : ℕ) → between 1 high (length xs) ≡ true → some xs ≡ true
has_some [] high h = cc
has_some (x ∷ xs) high h = refl

pub some_between : {X : Type 0} (high : ℕ) (xs : List X) → some xs ≡ true → length xs ≤ high → between 1 high (length xs) ≡ true
some_between high [] h l = cc
some_between high (x ∷ xs) h l = is_between 1 high (length (x ∷ xs)) (omega arith) l

pub none_there : {X : Type 0} (xs : List X) → not (some xs) ≡ true → xs ≡ []
none_there [] h = refl
none_there (x ∷ xs) h = cc

pub some_last : {X : Type 0} (xs : List X) (x : X) → some (xs ++ x ∷ []) ≡ true
some_last [] x = refl
some_last (y ∷ xs) x = refl

pub some_counted : {X : Type 0} (xs : List X) → not (eqb (length xs) 0) ≡ some xs
some_counted [] = refl
some_counted (x ∷ xs) = not_from_false _ (ne_eqb (length (x ∷ xs)) 0 (λ e. omega arith))

pub some_by_count : {X : Type 0} (xs : List X) (b : Bool) → eqb (length xs) 0 ≡ b → some xs ≡ not b
some_by_count xs b h = sym (some_counted xs) ∙ ap not h
