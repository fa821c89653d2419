-- Lists of which the last grows, and how long they are together. Assumes nothing.
use Rattle.std.proofs.Common.{◌≡◌, suc, ◌+◌, sum_by, true, List, [], ◌∷◌, ◌++◌, length, sym, refl, ap, ◌∙◌, arith}
use Rattle.std.proofs.lemmas.List.{length_push}
use Rattle.std.proofs.lemmas.List.Sums.{sum_by-cons}
use Rattle.listing.specs.Reading.{some, last_length, grown}
use Rattle.listing.specs.Spelling.{Pairwise}
use Rattle.listing.proofs.Pairs.{AsLong}
use Rattle.listing.specs.Limits.{together}

-- as the library adds up
pub together_is : {X : Type 0} (ls : List (List X)) → sum_by length ls ≡ together ls
together_is [] = refl
together_is (l ∷ ls) = sum_by-cons length l ls ∙ ap (λ n. length l + n) (together_is ls)

pub together_append : {X : Type 0} (xs ys : List (List X)) → together (xs ++ ys) ≡ together xs + together ys
together_append [] ys = omega arith
together_append (x ∷ xs) ys = omega (arith, together_append xs ys)

pub together_push : {X : Type 0} (ts : List (List X)) (l : List X) → together (ts ++ l ∷ []) ≡ together ts + length l
together_push ts l = omega (arith, together_append ts (l ∷ []))

pub last_length_push : {X : Type 0} (ts : List (List X)) (l : List X) → last_length (ts ++ l ∷ []) ≡ length l
last_length_push [] l = refl
last_length_push (t ∷ []) l = refl
last_length_push (t ∷ u ∷ ts) l = last_length_push (u ∷ ts) l

pub grown_push : {X : Type 0} (ts : List (List X)) (l : List X) (x : X) → grown (ts ++ l ∷ []) x ≡ ts ++ (l ++ x ∷ []) ∷ []
grown_push [] l x = refl
grown_push (t ∷ []) l x = refl
grown_push (t ∷ u ∷ ts) l x = ap (λ r. t ∷ r) (grown_push (u ∷ ts) l x)

pub grown_length : {X : Type 0} (ts : List (List X)) (x : X) → length (grown ts x) ≡ length ts
grown_length [] x = refl
grown_length (t ∷ []) x = refl
grown_length (t ∷ u ∷ ts) x = ap suc (grown_length (u ∷ ts) x)

pub grown_together : {X : Type 0} (ts : List (List X)) (x : X) → some ts ≡ true → together (grown ts x) ≡ together ts + 1
grown_together [] x h = cc
grown_together (t ∷ []) x h = omega (arith, length_push t x)
grown_together (t ∷ u ∷ ts) x h = omega (arith, grown_together (u ∷ ts) x refl)

pub grown_as_long : {X Y : Type 0} (ss : List (List X)) (ts : List (List Y)) (x : X) (y : Y) → Pairwise AsLong ss ts → Pairwise AsLong (grown ss x) (grown ts y)
grown_as_long [] [] x y h = tt
grown_as_long [] (t ∷ ts) x y h = absurd h
grown_as_long (s ∷ ss) [] x y h = absurd h
grown_as_long (s ∷ []) (t ∷ []) x y h = (length_push s x ∙ (ap (λ m. m + 1) h.0 ∙ sym (length_push t y)), tt)
grown_as_long (s ∷ []) (t ∷ u ∷ ts) x y h = absurd h.1
grown_as_long (s ∷ r ∷ ss) (t ∷ []) x y h = absurd h.1
grown_as_long (s ∷ r ∷ ss) (t ∷ u ∷ ts) x y h = (h.0, grown_as_long (r ∷ ss) (u ∷ ts) x y h.1)
