-- What a draft's lists come to where one more is added or the last one grows. Assumes nothing.
use Rattle.std.proofs.Common.{◌≡◌, ℕ, zero, suc, ◌+◌, ◌-◌, ◌<◌, true, List, [], ◌∷◌, ◌++◌, map, length, get_or, take, sym, refl, ap, ap₂, ◌∙◌, arith}
use Rattle.std.proofs.lemmas.List.{length_push, length-map, map_push}
use Rattle.listing.specs.Reading.{some, last_length, grown}

-- lists side by side with others
module _ {X Y : Type 0} where
  pub lined_more : (ls : List (List X)) (ts : List (List Y)) → map length ls ≡ map length ts → map length (ls ++ [] ∷ []) ≡ map length (ts ++ [] ∷ [])
  lined_more ls ts h = map_push length ls [] ∙ ap (λ ns. ns ++ 0 ∷ []) h ∙ sym (map_push length ts [])

  pub lined_many : (ls : List (List X)) (ts : List (List Y)) → map length ls ≡ map length ts → length ls ≡ length ts
  lined_many ls ts h = sym (length-map ls length) ∙ (ap length h ∙ length-map ts length)

  pub lined_grown : (ls : List (List X)) (ts : List (List Y)) (x : X) (y : Y) → map length ls ≡ map length ts → map length (grown ls x) ≡ map length (grown ts y)
  lined_grown [] [] x y h = refl
  lined_grown [] (t ∷ ts) x y h = cc
  lined_grown (l ∷ ls) [] x y h = cc
  lined_grown (l ∷ []) (t ∷ []) x y h = let e : length l ≡ length t = cc in ap (λ n. n ∷ []) (length_push l x ∙ ap (λ n. n + 1) e ∙ sym (length_push t y))
  lined_grown (l ∷ []) (t ∷ u ∷ ts) x y h = cc
  lined_grown (l ∷ k ∷ ls) (t ∷ []) x y h = cc
  lined_grown (l ∷ k ∷ ls) (t ∷ u ∷ ts) x y h =
      let e : length l ≡ length t = cc in
      let f : map length (k ∷ ls) ≡ map length (u ∷ ts) = cc in
      ap₂ ◌∷◌ e (lined_grown (k ∷ ls) (u ∷ ts) x y f)

module _ {X : Type 0} where
  pub some_there : (ls : List X) → 0 < length ls → some ls ≡ true
  some_there [] h = absurd (omega arith)
  some_there (l ∷ ls) h = refl

  -- the last of some lists
  pub last_is : (ls : List (List X)) (n : ℕ) (d : List X) → length ls ≡ n + 1 → length (get_or ls n d) ≡ last_length ls
  last_is [] n d h = absurd (omega arith)
  last_is (l ∷ []) zero d h = refl
  last_is (l ∷ []) (suc n) d h = absurd (omega arith)
  last_is (l ∷ k ∷ ls) zero d h = absurd (omega arith)
  last_is (l ∷ k ∷ ls) (suc n) d h = last_is (k ∷ ls) n d (omega arith)

  -- put back with one more
  pub last_grown : (ls : List (List X)) (n : ℕ) (d : List X) (x : X) → length ls ≡ n + 1 → take n ls ++ (get_or ls n d ++ x ∷ []) ∷ [] ≡ grown ls x
  last_grown [] n d x h = absurd (omega arith)
  last_grown (l ∷ []) zero d x h = refl
  last_grown (l ∷ []) (suc n) d x h = absurd (omega arith)
  last_grown (l ∷ k ∷ ls) zero d x h = absurd (omega arith)
  last_grown (l ∷ k ∷ ls) (suc n) d x h = ap (λ ms. l ∷ ms) (last_grown (k ∷ ls) n d x (omega arith))

  -- the same, by what is read, grown and written
  pub replaced : (ls new : List (List X)) (n m : ℕ) (x : X) (l k : List X) → length ls ≡ n + 1 → m ≡ n → l ≡ get_or ls m l → k ≡ l ++ x ∷ [] → new ≡ take (length ls - 1) ls ++ k ∷ [] → new ≡ grown ls x
  replaced ls new n m x l k h e read more written =
      let at : length ls - 1 ≡ n = omega arith in
      written ∙ (ap (λ j. take j ls ++ k ∷ []) at ∙ (ap (λ j. take n ls ++ j ∷ []) (more ∙ ap (λ j. j ++ x ∷ []) (read ∙ ap (λ j. get_or ls j l) e)) ∙ last_grown ls n l x h))
