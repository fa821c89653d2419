-- The words of bytes, by the first of them and what follows it. Assumes nothing.
use Rattle.std.proofs.Common.{◌≡◌, ℕ, ◌<◌, Bool, true, false, cond, not, List, [], ◌∷◌, length, drop, sym, refl, ap, ◌∙◌, subst, arith, Bor}
use Rattle.listing.specs.declared.lexer.Token.{Token}
use Rattle.listing.specs.declared.lexer.Token.TheVariants.{Word, Number}
use Rattle.listing.specs.Limits.{all}
use Rattle.listing.specs.Taking.{Comes}
use Rattle.listing.specs.Words.{upto, parts, joined, pieces, used, words, is_digit}
use Rattle.listing.specs.Cuts.{onward, past_spaces, next_word, after_word, Tells}
use Rattle.listing.proofs.NextLine.{next_piece}

-- a space is in no word
after_space : (b : ℕ) (bs : List ℕ) → parts b ≡ true → words (b ∷ bs) ≡ words bs
unfolding words
after_space b bs e = ap (λ t. used (cond t ([] ∷ pieces parts bs) (joined b (pieces parts bs)))) e

-- so the space after a word may go
drop_at : (b : ℕ) (bs : List ℕ) (t : Bool) → parts b ≡ t → words (drop 1 (onward parts bs)) ≡ words (onward parts bs) → words (drop 1 (cond t (b ∷ bs) (onward parts bs))) ≡ words (cond t (b ∷ bs) (onward parts bs))
drop_at b bs true e later = sym (after_space b bs e)
drop_at b bs false e later = later

drop_space : (bs : List ℕ) → words (drop 1 (onward parts bs)) ≡ words (onward parts bs)
drop_space [] = refl
drop_space (b ∷ bs) = drop_at b bs (parts b) refl (drop_space bs)

-- a byte that is no space begins a word
at_word : (b : ℕ) (bs : List ℕ) → parts b ≡ false → words (b ∷ bs) ≡ upto parts (b ∷ bs) ∷ words (onward parts (b ∷ bs))
unfolding words
at_word b bs e =
    let begins : upto parts (b ∷ bs) ≡ b ∷ upto parts bs = ap (λ t. cond t [] (b ∷ upto parts bs)) e in
    let later = pieces parts (drop 1 (onward parts (b ∷ bs))) in
    ap used (next_piece parts b bs) ∙ ap (λ w. used (w ∷ later)) begins ∙ ap (λ w. w ∷ used later) (sym begins)
    ∙ ap (λ ws. upto parts (b ∷ bs) ∷ ws) (drop_space (b ∷ bs))

none_at : (b : ℕ) (bs : List ℕ) (t : Bool) → parts b ≡ t → (length (next_word bs) ≡ 0 → words bs ≡ []) → length (upto parts (cond (not t) (b ∷ bs) (past_spaces bs))) ≡ 0 → words (b ∷ bs) ≡ []
none_at b bs true e later h = after_space b bs e ∙ later h
none_at b bs false e later h = let some : length (b ∷ upto parts bs) ≡ 0 = subst (λ t. length (cond t [] (b ∷ upto parts bs)) ≡ 0) e h in absurd (omega arith)

pub no_word : (bs : List ℕ) → length (next_word bs) ≡ 0 → words bs ≡ []
unfolding words
no_word [] h = refl
no_word (b ∷ bs) h = none_at b bs (parts b) refl (no_word bs) h

word_at : (b : ℕ) (bs : List ℕ) (t : Bool) → parts b ≡ t → (0 < length (next_word bs) → words bs ≡ next_word bs ∷ words (after_word bs)) → 0 < length (upto parts (cond (not t) (b ∷ bs) (past_spaces bs))) → words (b ∷ bs) ≡ upto parts (cond (not t) (b ∷ bs) (past_spaces bs)) ∷ words (onward parts (cond (not t) (b ∷ bs) (past_spaces bs)))
word_at b bs true e later h = after_space b bs e ∙ later h
word_at b bs false e later h = at_word b bs e

pub first_word : (bs : List ℕ) → 0 < length (next_word bs) → words bs ≡ next_word bs ∷ words (after_word bs)
first_word [] h = absurd (omega arith)
first_word (b ∷ bs) h = word_at b bs (parts b) refl (first_word bs) h

-- the token that a first word makes
pub comes : (t : Token) (w : List ℕ) (ws vs : List (List ℕ)) (n : ℕ) → Tells t w n → ws ≡ w ∷ vs → Comes t ws vs n
comes (Word bytes at) w ws vs n h e = (e ∙ ap (λ v. v ∷ vs) (sym h.0), (h.1.0, subst (λ v. all is_digit v ≡ false) (sym h.0) h.1.1))
comes (Number bytes at) w ws vs n h e = (e ∙ ap (λ v. v ∷ vs) (sym h.0), (h.1.0, subst (λ v. all is_digit v ≡ true) (sym h.0) h.1.1))

-- the first of a line's words, as a word or as a number
pub word_first : (t : Token) (bytes : Bor (List ℕ)) (at n : ℕ) (ws vs : List (List ℕ)) → t ≡ Word bytes at → Comes t ws vs n → (ws ≡ bytes.now ∷ vs) × (all is_digit bytes.now ≡ false)
word_first (Word b a) bytes at n ws vs e h = let same : b ≡ bytes = cc in (h.0 ∙ ap (λ x. x.now ∷ vs) same, subst (λ x. all is_digit x.now ≡ false) same h.1.1)
word_first (Number b a) bytes at n ws vs e h = cc

pub number_first : (t : Token) (bytes : Bor (List ℕ)) (at n : ℕ) (ws vs : List (List ℕ)) → t ≡ Number bytes at → Comes t ws vs n → (ws ≡ bytes.now ∷ vs) × (all is_digit bytes.now ≡ true)
number_first (Word b a) bytes at n ws vs e h = cc
number_first (Number b a) bytes at n ws vs e h = let same : b ≡ bytes = cc in (h.0 ∙ ap (λ x. x.now ∷ vs) same, subst (λ x. all is_digit x.now ≡ true) same h.1.1)
