-- A text by the words of its lines. Assumes nothing.
use Rattle.std.proofs.Common.{ℕ, ◌+◌, Bool, List, [], ◌∷◌, map, Ok, Err, Result}
use Rattle.listing.specs.declared.refusal.Refusal.{Refusal}
use Rattle.listing.specs.Limits.{all}
use Rattle.listing.specs.Reading.{Progress, worded}
use Rattle.listing.specs.Spelling.{kept}
use Rattle.listing.specs.Words.{permitted, content_of, words, lines}

-- the words of each line of a text
abbrev pub word_lines : List ℕ → List (List (List ℕ))
word_lines t = map (λ l. words (content_of l)) (lines t)

-- only the lines that have words
abbrev pub with_words : List (List (List ℕ)) → List (List (List ℕ))
with_words [] = []
with_words (ws ∷ wss) = kept ws (with_words wss)

-- each byte outside a comment is permitted
abbrev pub permitted_lines : List (List ℕ) → Bool
permitted_lines ls = all (λ l. all permitted (content_of l)) ls

abbrev pub read_words : Progress → ℕ → List (List (List ℕ)) → Result Progress Refusal
read_words p n [] = Ok p
read_words p n (ws ∷ wss) = elim (worded p n ws) [ Ok q ↦ read_words q (n + 1) wss | Err e ↦ Err e ]
