-- A byte outside a comment is not permitted just where the content of the line has one that is not. Assumes nothing.
use Rattle.std.proofs.Common.{◌≡◌, ◌↔◌, ℕ, true, false, cond, List, [], ◌∷◌, ◌++◌, inl, inr, sym, refl, ap, subst, ⊎_elim}
use Rattle.std.proofs.lemmas.Bool.{and_left, and_right, and_cases, cases_Bool}
use Rattle.listing.specs.Alphabet.{OneOf, IsOneOf, comment_signs, alphabet, Foreign}
use Rattle.listing.specs.Limits.{all}
use Rattle.listing.specs.Words.{comments, content_of, permitted}
use Rattle.listing.proofs.AlphabetTold.{byte_told}

not_permitted : (b : ℕ) → permitted b ≡ false → IsOneOf alphabet b → ⊥
not_permitted b h k = let is = (byte_told b).permitted_byte.1 k in cc

no_comment : (b : ℕ) → comments b ≡ false → IsOneOf comment_signs b → ⊥
no_comment b h k = let is = (byte_told b).comment_sign.1 k in cc

more : (b : ℕ) (bs : List ℕ) → comments b ≡ false → Foreign bs → Foreign (b ∷ bs)
more b bs none f =
    record {
      before = b ∷ f.before;
      byte = f.byte;
      after = f.after;
      are = ap (λ r. b ∷ r) f.are;
      outside = λ h. ⊎_elim (no_comment b none) f.outside h;
      not_permitted = f.not_permitted;
    }

found : (bs : List ℕ) → all permitted (content_of bs) ≡ false → Foreign bs
found [] h = cc
found (b ∷ bs) h =
    elim (comments b) as (λ c. comments b ≡ c → all permitted (cond c [] (b ∷ content_of bs)) ≡ false → Foreign (b ∷ bs)) [
      | true ↦ λ is k. cc
      | false ↦ λ none k.
          ⊎_elim
          (λ odd.
          record {
            before = [];
            byte = b;
            after = bs;
            are = refl;
            outside = λ h. ⊎_elim (no_comment b none) (λ h. h) h;
            not_permitted = not_permitted b odd;
          })
          (λ later. more b bs none (found bs later))
          (and_cases (permitted b) (all permitted (content_of bs)) k)
    ] refl h

there : (before : List ℕ) (b : ℕ) (after : List ℕ) → (OneOf (IsOneOf comment_signs) (before ++ b ∷ []) → ⊥) → permitted b ≡ false → all permitted (content_of (before ++ b ∷ after)) ≡ false
there [] b after outside odd =
    elim (comments b) as (λ c. comments b ≡ c → all permitted (cond c [] (b ∷ content_of after)) ≡ false) [
      | true ↦ λ is. absurd (outside (inl ((byte_told b).comment_sign.0 is)))
      | false ↦ λ none. and_left (permitted b) (all permitted (content_of after)) odd
    ] refl
there (c ∷ before) b after outside odd =
    elim (comments c) as (λ d. comments c ≡ d → all permitted (cond d [] (c ∷ content_of (before ++ b ∷ after))) ≡ false) [
      | true ↦ λ is. absurd (outside (inl ((byte_told c).comment_sign.0 is)))
      | false ↦ λ none. and_right (permitted c) (all permitted (content_of (before ++ b ∷ after))) (there before b after (λ h. outside (inr h)) odd)
    ] refl

odd_byte : (b : ℕ) → (IsOneOf alphabet b → ⊥) → permitted b ≡ false
odd_byte b h = ⊎_elim (λ is. absurd (h ((byte_told b).permitted_byte.0 is))) (λ not. not) (cases_Bool (permitted b))

pub foreign_told : (bs : List ℕ) → (all permitted (content_of bs) ≡ false) ↔ Foreign bs
foreign_told bs = (found bs, λ f. subst (λ r. all permitted (content_of r) ≡ false) (sym f.are) (there f.before f.byte f.after f.outside (odd_byte f.byte f.not_permitted)))
