-- Where a search for the first byte that stops cuts a list. Assumes nothing.
use Rattle.std.proofs.Common.{◌≡◌, ℕ, suc, ◌+◌, ◌-◌, ◌<◌, ◌≤◌, Bool, true, false, cond, not, ltb, List, [], ◌∷◌, length, take, drop, get_or, Some, None, Option, sym, refl, ap, subst, ◌∙◌, arith}
use Rattle.std.specs.List.{position_or_len}
use Rattle.std.specs.Option.{unwrap_or}
use Rattle.std.specs.Prelude.{position}
use Rattle.std.proofs.lemmas.Bool.{both_ways, eqb-true, ltb-false}
use Rattle.std.proofs.lemmas.List.{take_all, take_rest, drop_all, drop-drop}
use Rattle.std.proofs.lemmas.List.Quantifiers.{position-Some}
use Rattle.std.proofs.Math.Seq.{drop-cons}
use Rattle.listing.specs.Limits.{all}
use Rattle.std.proofs.lemmas.List.Sums.{prefix_len-le-length}
use Rattle.listing.specs.Words.{upto, parts, ends, comments, content_of, permitted}
use Rattle.listing.specs.Cuts.{onward, unpermitted, past_spaces, next_word, after_word, line_of, rest_of}

module _ (stop : ℕ → Bool) where
  pub upto_is : (bs : List ℕ) → take (position_or_len stop bs) bs ≡ upto stop bs
  upto_is [] = refl
  upto_is (b ∷ bs) = by (stop b) (omega arith) (upto_is bs)
    where
      by : (t : Bool) → 1 + position_or_len stop bs ≡ suc (position_or_len stop bs) → take (position_or_len stop bs) bs ≡ upto stop bs
          → take (cond (not t) (1 + position_or_len stop bs) 0) (b ∷ bs) ≡ cond t [] (b ∷ upto stop bs)
      by true one h = refl
      by false one h = ap (λ n. take n (b ∷ bs)) one ∙ ap (λ cs. b ∷ cs) h

  pub onward_is : (bs : List ℕ) → drop (position_or_len stop bs) bs ≡ onward stop bs
  onward_is [] = refl
  onward_is (b ∷ bs) = by (stop b) (omega arith) (onward_is bs)
    where
      by : (t : Bool) → 1 + position_or_len stop bs ≡ suc (position_or_len stop bs) → drop (position_or_len stop bs) bs ≡ onward stop bs
          → drop (cond (not t) (1 + position_or_len stop bs) 0) (b ∷ bs) ≡ cond t (b ∷ bs) (onward stop bs)
      by true one h = refl
      by false one h = ap (λ n. drop n (b ∷ bs)) one ∙ h

  within : (bs : List ℕ) → position_or_len stop bs ≤ length bs
  within bs = prefix_len-le-length (λ b. not (stop b)) bs

  -- the first byte that stops, or the length
  pub found_or_all : (bs : List ℕ) → unwrap_or (position stop bs) (length bs) ≡ position_or_len stop bs
  found_or_all bs = by (ltb (position_or_len stop bs) (length bs)) refl
    where
      by : (t : Bool) → ltb (position_or_len stop bs) (length bs) ≡ t → unwrap_or (cond t (Some (position_or_len stop bs)) None) (length bs) ≡ position_or_len stop bs
      by true h = refl
      by false h = let far = ltb-false (position_or_len stop bs) (length bs) h in omega (arith, within bs)

  pub cut_before : (bs : List ℕ) (n : ℕ) → n ≡ unwrap_or (position stop bs) (length bs) → take n bs ≡ upto stop bs
  cut_before bs n e = ap (λ k. take k bs) (e ∙ found_or_all bs) ∙ upto_is bs

  pub cut_after : (bs : List ℕ) (n : ℕ) → n ≡ unwrap_or (position stop bs) (length bs) → drop n bs ≡ onward stop bs
  cut_after bs n e = ap (λ k. drop k bs) (e ∙ found_or_all bs) ∙ onward_is bs

-- a line end at n
pub line_front : (bs : List ℕ) (n : ℕ) → position ends bs ≡ Some n → take n bs ≡ line_of bs
line_front bs n at = cut_before ends bs n (sym (ap (λ o. unwrap_or o (length bs)) at))

pub line_rest : (bs : List ℕ) (n : ℕ) → position ends bs ≡ Some n → take (length bs - (n + 1)) (drop (n + 1) bs) ≡ rest_of bs
line_rest bs n at =
    take_rest bs (n + 1) ∙ sym (drop-drop 1 n bs) ∙ ap (λ r. drop 1 r) (cut_after ends bs n (sym (ap (λ o. unwrap_or o (length bs)) at)))

-- no line end
pub line_whole : (bs : List ℕ) → position ends bs ≡ None → bs ≡ line_of bs
line_whole bs none = sym (take_all (length bs) bs (omega arith)) ∙ cut_before ends bs (length bs) (sym (ap (λ o. unwrap_or o (length bs)) none))

pub line_none_left : (bs : List ℕ) → position ends bs ≡ None → [] ≡ rest_of bs
line_none_left bs none =
    let left = cut_after ends bs (length bs) (sym (ap (λ o. unwrap_or o (length bs)) none)) in
    ap (λ r. drop 1 r) (sym (drop_all (length bs) bs (omega arith)) ∙ left)

-- the first word of some bytes, and what follows it
pub cut_word : (bs cs : List ℕ) (q : Option ℕ) (m : ℕ) (w r : List ℕ) → cs ≡ past_spaces bs → q ≡ position parts cs → m ≡ unwrap_or q (length cs) → w ≡ take m cs → r ≡ drop m cs → (w ≡ next_word bs) × (r ≡ after_word bs)
cut_word bs cs q m w r past to end front back =
    let found : m ≡ unwrap_or (position parts cs) (length cs) = end ∙ ap (λ p. unwrap_or p (length cs)) to in
    (front ∙ (cut_before parts cs m found ∙ ap (upto parts) past), back ∙ (cut_after parts cs m found ∙ ap (onward parts) past))

-- the first byte of a line that is neither of a word nor a space: the comment begins there, or it stands where no such byte may
apart : (b : ℕ) → permitted b ≡ true → comments b ≡ false
apart b h = by (comments b) refl
  where
    by : (t : Bool) → comments b ≡ t → t ≡ false
    by true e = absurd (both_ways (permitted b) (rw (eqb-true b 35 e) refl) h)
    by false e = refl

abbrev Good : List ℕ → Type 0
Good bs = (upto unpermitted bs ≡ content_of bs) × (all permitted (content_of bs) ≡ true)

abbrev Cut : List ℕ → List ℕ → Type 0
Cut [] bs = Good bs
Cut (b ∷ cs) bs = (comments b ≡ true → Good bs) × (comments b ≡ false → all permitted (content_of bs) ≡ false)

cut : (bs : List ℕ) → Cut (onward unpermitted bs) bs
cut [] = (refl, refl)
cut (b ∷ bs) = by (permitted b) refl (cut bs)
  where
    more : (cs : List ℕ) → permitted b ≡ true → Cut cs bs → Cut cs (b ∷ bs)
    more [] h g = rw (apart b h, h) (ap (λ xs. b ∷ xs) g.0, g.1)
    more (c ∷ cs) h g = rw (apart b h, h) (λ e. let q = g.0 e in (ap (λ xs. b ∷ xs) q.0, q.1), g.1)

    by : (t : Bool) → permitted b ≡ t → Cut (onward unpermitted bs) bs → Cut (onward unpermitted (b ∷ bs)) (b ∷ bs)
    by true h g = rw h (more (onward unpermitted bs) h g)
    by false h g = rw h (λ e. rw (e, h) (refl, refl), λ e. rw e (rw h refl))

pub none_unpermitted : (bs : List ℕ) → position unpermitted bs ≡ None → (bs ≡ content_of bs) × (all permitted (content_of bs) ≡ true)
none_unpermitted bs none =
    let e : length bs ≡ unwrap_or (position unpermitted bs) (length bs) = sym (ap (λ o. unwrap_or o (length bs)) none) in
    let nothing : onward unpermitted bs ≡ [] = sym (cut_after unpermitted bs (length bs) e) ∙ drop_all (length bs) bs (omega arith) in
    let g : Good bs = subst (λ cs. Cut cs bs) nothing (cut bs) in
    (sym (take_all (length bs) bs (omega arith)) ∙ (cut_before unpermitted bs (length bs) e ∙ g.0), g.1)

pub some_unpermitted : (bs : List ℕ) (n d : ℕ) → position unpermitted bs ≡ Some n
    → (n < length bs) × ((comments (get_or bs n d) ≡ true → (take n bs ≡ content_of bs) × (all permitted (content_of bs) ≡ true)) × (comments (get_or bs n d) ≡ false → all permitted (content_of bs) ≡ false))
some_unpermitted bs n d at =
    let e : n ≡ unwrap_or (position unpermitted bs) (length bs) = sym (ap (λ o. unwrap_or o (length bs)) at) in
    let within = (position-Some unpermitted bs n d at).0 in
    let begins : onward unpermitted bs ≡ get_or bs n d ∷ drop (n + 1) bs = sym (cut_after unpermitted bs n e) ∙ (drop-cons bs n d within ∙ ap (λ k. get_or bs n d ∷ drop k bs) {x = suc n} {y = n + 1} (omega arith)) in
    let g : Cut (get_or bs n d ∷ drop (n + 1) bs) bs = subst (λ cs. Cut cs bs) begins (cut bs) in
    (within, (λ c. let q = g.0 c in (cut_before unpermitted bs n e ∙ q.0, q.1), g.1))
