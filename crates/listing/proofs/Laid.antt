-- The texts that are laid out as some lines of words are those whose lines have these words and no byte that is not permitted. Assumes nothing.
use Rattle.std.proofs.Common.{◌≡◌, ℕ, Bool, true, false, ◌||◌, eqb, ◌⊎◌, List, [], ◌∷◌, ◌++◌, map, sym, refl, ap, ◌∙◌, subst, inl, inr, ⊎_elim}
use Rattle.std.specs.List.{AllByRecursion as All}
use Rattle.listing.proofs.Recursive as elements
use Rattle.std.proofs.lemmas.List.{append-nil, append_assoc}
use Rattle.std.proofs.lemmas.Bool.{and_parts, and_from, both_ways, cases_Bool, cond-true, cond-false, eqb-true, ne_eqb}
use Rattle.listing.specs.Limits.{all}
use Rattle.listing.specs.Spelling.{in_word, Solid, Shows, no_words, space, last_word, word, WithinLine, Row, plain, commented, kept, Text, no_rows, last_row, row}
use Rattle.listing.specs.Words.{ends, parts, comments, is_letter, is_digit, permitted, content_of, used, lines, words}
use Rattle.listing.proofs.Kept.{each, all_from_each}
use Rattle.listing.proofs.Pieces.{piece_then, piece_alone, upto_then, upto_whole}
use Rattle.listing.proofs.WordLines.{word_lines, with_words, permitted_lines}

-- a byte that passes a test is none that fails it
apart : (f : ℕ → Bool) (b n : ℕ) → f b ≡ true → f n ≡ false → eqb b n ≡ false
apart f b n h k = ne_eqb b n (λ e. both_ways (f n) k (subst (λ c. f c ≡ true) e h))

with_space : (x y z : Bool) → (x || y) ≡ true → (x || (y || z)) ≡ true
with_space true y z h = refl
with_space false true z h = refl
with_space false false z h = cc

but_space : (x y z : Bool) → (x || (y || z)) ≡ true → z ≡ false → (x || y) ≡ true
but_space true y z h k = refl
but_space false true z h k = refl
but_space false false z h k = cc

solid_each : (w : List ℕ) → Solid w → All (λ b. in_word b ≡ true) w
solid_each [] h = tt
solid_each (b ∷ w) h = each in_word (b ∷ w) h

solid : (b : ℕ) (w : List ℕ) → All (λ c. in_word c ≡ true) (b ∷ w) → Solid (b ∷ w)
solid b w h = all_from_each in_word (b ∷ w) h

word_permitted : (w : List ℕ) → Solid w → All (λ b. permitted b ≡ true) w
word_permitted w h = elements.all_weaker (λ b. in_word b ≡ true) (λ b. permitted b ≡ true) (λ b. with_space (is_letter b) (is_digit b) (parts b)) w (solid_each w h)

no_space : (w : List ℕ) → All (λ b. in_word b ≡ true) w → All (λ b. parts b ≡ false) w
no_space w h = elements.all_weaker (λ b. in_word b ≡ true) (λ b. parts b ≡ false) (λ b k. apart in_word b 32 k refl) w h

no_end : (bs : List ℕ) → All (λ b. permitted b ≡ true) bs → All (λ b. ends b ≡ false) bs
no_end bs h = elements.all_weaker (λ b. permitted b ≡ true) (λ b. ends b ≡ false) (λ b k. apart permitted b 10 k refl) bs h

no_comment : (bs : List ℕ) → All (λ b. permitted b ≡ true) bs → All (λ b. comments b ≡ false) bs
no_comment bs h = elements.all_weaker (λ b. permitted b ≡ true) (λ b. comments b ≡ false) (λ b k. apart permitted b 35 k refl) bs h

word_alone : (w : List ℕ) → Solid w → words w ≡ w ∷ []
unfolding words
word_alone [] h = absurd h
word_alone (b ∷ w) h = ap used (piece_alone parts b w (no_space (b ∷ w) (solid_each (b ∷ w) h)))

word_then : (w bs : List ℕ) → Solid w → words (w ++ 32 ∷ bs) ≡ w ∷ words bs
unfolding words
word_then [] bs h = absurd h
word_then (b ∷ w) bs h = ap used (piece_then parts (b ∷ w) 32 bs (no_space (b ∷ w) (solid_each (b ∷ w) h)) refl)

shows_words : {ws : List (List ℕ)} {bs : List ℕ} → Shows ws bs → words bs ≡ ws
unfolding words
shows_words no_words = refl
shows_words (space s) = shows_words s
shows_words (last_word w h) = word_alone w h
shows_words (word {bs} w h s) = word_then w bs h ∙ ap (λ ws. w ∷ ws) (shows_words s)

shows_permitted : {ws : List (List ℕ)} {bs : List ℕ} → Shows ws bs → All (λ b. permitted b ≡ true) bs
shows_permitted no_words = tt
shows_permitted (space s) = (refl, shows_permitted s)
shows_permitted (last_word w h) = word_permitted w h
shows_permitted (word {bs} w h s) = elements.all_append (λ b. permitted b ≡ true) w (32 ∷ bs) (word_permitted w h) (refl, shows_permitted s)

-- no word, or one that the next space ends, before what is shown
shown_space : (w bs : List ℕ) → All (λ b. in_word b ≡ true) w → Shows (words bs) bs → Shows (words (w ++ 32 ∷ bs)) (w ++ 32 ∷ bs)
unfolding words
shown_space [] bs h s = space s
shown_space (b ∷ w) bs h s = subst (λ ws. Shows ws (b ∷ w ++ 32 ∷ bs)) (sym (word_then (b ∷ w) bs (solid b w h))) (word (b ∷ w) (solid b w h) s)

shown_last : (w : List ℕ) → All (λ b. in_word b ≡ true) w → Shows (words w) w
unfolding words
shown_last [] h = no_words
shown_last (b ∷ w) h = subst (λ ws. Shows ws (b ∷ w)) (sym (word_alone (b ∷ w) (solid b w h))) (last_word (b ∷ w) (solid b w h))

-- w is the word that is read so far
shown_from : (w bs : List ℕ) → All (λ b. in_word b ≡ true) w → All (λ b. permitted b ≡ true) bs → Shows (words (w ++ bs)) (w ++ bs)
shown_from w [] h k = subst (λ v. Shows (words v) v) (sym (append-nil w)) (shown_last w h)
shown_from w (b ∷ bs) h k =
    ⊎_elim
    (λ e. subst (λ c. Shows (words (w ++ c ∷ bs)) (w ++ c ∷ bs)) (sym (eqb-true b 32 e)) (shown_space w bs h (shown_from [] bs tt k.1)))
    (λ e. subst (λ v. Shows (words v) v) (append_assoc w (b ∷ []) bs) (shown_from (w ++ b ∷ []) bs (elements.all_push (λ c. in_word c ≡ true) w b h (but_space (is_letter b) (is_digit b) (parts b) k.0 e)) k.1))
    (cases_Bool (parts b))

row_content : {ws : List (List ℕ)} {bs : List ℕ} → Row ws bs → Shows ws (content_of bs)
row_content (plain {ws} {bs} s) = subst (Shows ws) (sym (upto_whole comments bs (no_comment bs (shows_permitted s)))) s
row_content (commented {ws} {bs} s c h) = subst (Shows ws) (sym (upto_then comments bs 35 c (no_comment bs (shows_permitted s)) refl)) s

pub row_words : {ws : List (List ℕ)} {bs : List ℕ} → Row ws bs → words (content_of bs) ≡ ws
row_words r = shows_words (row_content r)

pub row_permitted : {ws : List (List ℕ)} {bs : List ℕ} → Row ws bs → all permitted (content_of bs) ≡ true
row_permitted {bs} r = all_from_each permitted (content_of bs) (shows_permitted (row_content r))

pub each_within : (bs : List ℕ) → WithinLine bs → All (λ b. ends b ≡ false) bs
each_within [] h = tt
each_within (b ∷ bs) h = (h.0, each_within bs h.1)

within_each : (bs : List ℕ) → All (λ b. ends b ≡ false) bs → WithinLine bs
within_each [] h = tt
within_each (b ∷ bs) h = (h.0, within_each bs h.1)

row_within : {ws : List (List ℕ)} {bs : List ℕ} → Row ws bs → All (λ b. ends b ≡ false) bs
row_within (plain {bs} s) = no_end bs (shows_permitted s)
row_within (commented {bs} s c h) = elements.all_append (λ b. ends b ≡ false) bs (35 ∷ c) (no_end bs (shows_permitted s)) (refl, each_within c h)

row_then : {ws : List (List ℕ)} {bs : List ℕ} → Row ws bs → (t : List ℕ) → lines (bs ++ 10 ∷ t) ≡ bs ∷ lines t
unfolding lines
row_then {bs} r t = piece_then ends bs 10 t (row_within r) refl

row_alone : {ws : List (List ℕ)} {b : ℕ} {bs : List ℕ} → Row ws (b ∷ bs) → lines (b ∷ bs) ≡ (b ∷ bs) ∷ []
unfolding lines
row_alone {b} {bs} r = piece_alone ends b bs (row_within r)

abbrev words_of : List (List ℕ) → List (List (List ℕ))
words_of ls = with_words (map (λ l. words (content_of l)) ls)

last_words : {ws : List (List ℕ)} (bs : List ℕ) → Row ws bs → with_words (word_lines bs) ≡ kept ws []
unfolding lines words
last_words [] r = ap (λ ws. kept ws []) (row_words r)
last_words (b ∷ bs) r = ap words_of (row_alone r) ∙ ap (λ ws. kept ws []) (row_words r)

pub laid_words : {wss : List (List (List ℕ))} {t : List ℕ} → Text wss t → with_words (word_lines t) ≡ wss
unfolding lines
laid_words no_rows = refl
laid_words (last_row ws bs r) = last_words bs r
laid_words (row ws bs {t} r x) = ap words_of (row_then r t) ∙ ap (λ vs. kept vs (with_words (word_lines t))) (row_words r) ∙ ap (kept ws) (laid_words x)

last_permitted : {ws : List (List ℕ)} (bs : List ℕ) → Row ws bs → permitted_lines (lines bs) ≡ true
unfolding lines
last_permitted [] r = refl
last_permitted (b ∷ bs) r = ap permitted_lines (row_alone r) ∙ and_from (all permitted (content_of (b ∷ bs))) true (row_permitted r) refl

pub laid_permitted : {wss : List (List (List ℕ))} {t : List ℕ} → Text wss t → permitted_lines (lines t) ≡ true
unfolding lines
laid_permitted no_rows = refl
laid_permitted (last_row ws bs r) = last_permitted bs r
laid_permitted (row ws bs {t} r x) = ap permitted_lines (row_then r t) ∙ and_from (all permitted (content_of bs)) (permitted_lines (lines t)) (row_permitted r) (laid_permitted x)

-- a line is its content, or that and a comment
split : (bs : List ℕ) → All (λ b. ends b ≡ false) bs → (content_of bs ≡ bs) ⊎ ((c : List ℕ) × WithinLine c × (content_of bs ++ 35 ∷ c ≡ bs))
split [] h = inl refl
split (b ∷ bs) h =
    ⊎_elim
    (λ e. inr (bs, within_each bs h.1, ap (λ l. l ++ 35 ∷ bs) (cond-true (comments b) _ _ e) ∙ ap (λ c. c ∷ bs) (sym (eqb-true b 35 e))))
    (λ e.
    let here : content_of (b ∷ bs) ≡ b ∷ content_of bs = cond-false (comments b) _ _ e in
    ⊎_elim
    (λ whole. inl (here ∙ ap (λ l. b ∷ l) whole))
    (λ found. inr (found.0, found.1, ap (λ l. l ++ 35 ∷ found.0) here ∙ ap (λ l. b ∷ l) found.2))
    (split bs h.1))
    (cases_Bool (comments b))

pub row_laid : (bs : List ℕ) → All (λ b. ends b ≡ false) bs → all permitted (content_of bs) ≡ true → Row (words (content_of bs)) bs
row_laid bs h k =
    let shown = shown_from [] (content_of bs) tt (each permitted (content_of bs) k) in
    ⊎_elim
    (λ whole. subst (Row (words (content_of bs))) whole (plain shown))
    (λ found. subst (Row (words (content_of bs))) found.2 (commented shown found.0 found.1))
    (split bs h)

last_laid : (bs : List ℕ) → All (λ b. ends b ≡ false) bs → permitted_lines (lines bs) ≡ true → Text (words_of (lines bs)) bs
unfolding lines
last_laid [] h k = no_rows
last_laid (b ∷ bs) h k =
    let alone = piece_alone ends b bs h in
    let r = row_laid (b ∷ bs) h (and_parts (all permitted (content_of (b ∷ bs))) true (subst (λ ls. permitted_lines ls ≡ true) alone k)).0 in
    subst (λ ls. Text (words_of ls) (b ∷ bs)) (sym alone) (last_row (words (content_of (b ∷ bs))) (b ∷ bs) r)

laid_end : (bs t : List ℕ) → All (λ b. ends b ≡ false) bs → permitted_lines (lines (bs ++ 10 ∷ t)) ≡ true → (permitted_lines (lines t) ≡ true → Text (words_of (lines t)) t) → Text (words_of (lines (bs ++ 10 ∷ t))) (bs ++ 10 ∷ t)
unfolding lines
laid_end bs t h k next =
    let cut = piece_then ends bs 10 t h refl in
    let halves = and_parts (all permitted (content_of bs)) (permitted_lines (lines t)) (subst (λ ls. permitted_lines ls ≡ true) cut k) in
    subst (λ ls. Text (words_of ls) (bs ++ 10 ∷ t)) (sym cut) (row (words (content_of bs)) bs (row_laid bs h halves.0) (next halves.1))

-- bs is the line that is read so far
laid_from : (bs t : List ℕ) → All (λ b. ends b ≡ false) bs → permitted_lines (lines (bs ++ t)) ≡ true → Text (words_of (lines (bs ++ t))) (bs ++ t)
laid_from bs [] h k =
    subst (λ l. Text (words_of (lines l)) l) (sym (append-nil bs)) (last_laid bs h (subst (λ l. permitted_lines (lines l) ≡ true) (append-nil bs) k))
laid_from bs (b ∷ t) h k =
    ⊎_elim
    (λ e.
    let end = eqb-true b 10 e in
    subst (λ c. Text (words_of (lines (bs ++ c ∷ t))) (bs ++ c ∷ t)) (sym end)
    (laid_end bs t h (subst (λ c. permitted_lines (lines (bs ++ c ∷ t)) ≡ true) end k) (laid_from [] t tt)))
    (λ e.
    let longer = append_assoc bs (b ∷ []) t in
    subst (λ l. Text (words_of (lines l)) l) longer
    (laid_from (bs ++ b ∷ []) t (elements.all_push (λ c. ends c ≡ false) bs b h e) (subst (λ l. permitted_lines (lines l) ≡ true) (sym longer) k)))
    (cases_Bool (ends b))

pub words_laid : (t : List ℕ) → permitted_lines (lines t) ≡ true → Text (with_words (word_lines t)) t
words_laid t h = laid_from [] t tt h
