-- Lines are read by their words, where each byte outside a comment is permitted. Assumes nothing.
use Rattle.std.proofs.Common.{◌≡◌, ℕ, ◌+◌, true, List, [], ◌∷◌, map, Ok, refl, ap, ◌∙◌}
use Rattle.std.proofs.lemmas.Bool.{and_parts, and_from, cond-true}
use Rattle.listing.specs.Limits.{all}
use Rattle.listing.specs.Reading.{Progress, line, worded, read_lines}
use Rattle.listing.specs.Words.{permitted, content_of, words}
use Rattle.listing.proofs.Results.{passed, onto, same_onto, went_on}
use Rattle.listing.proofs.WordLines.{permitted_lines, read_words}

pub read_by_words : (ls : List (List ℕ)) (p : Progress) (n : ℕ) → permitted_lines ls ≡ true → read_lines p n ls ≡ read_words p n (map (λ l. words (content_of l)) ls)
read_by_words [] p n h = refl
read_by_words (l ∷ ls) p n h =
    let halves = and_parts (all permitted (content_of l)) (permitted_lines ls) h in
    let fine : line p n l ≡ worded p n (words (content_of l)) = cond-true (all permitted (content_of l)) _ _ halves.0 in
    ap (onto (λ q. read_lines q (n + 1) ls)) fine
    ∙ same_onto (λ q. read_lines q (n + 1) ls) (λ q. read_words q (n + 1) (map (λ l. words (content_of l)) ls)) (λ q. read_by_words ls q (n + 1) halves.1) (worded p n (words (content_of l)))

pub read_permitted : (ls : List (List ℕ)) (p q : Progress) (n : ℕ) → read_lines p n ls ≡ Ok q → permitted_lines ls ≡ true
read_permitted [] p q n h = refl
read_permitted (l ∷ ls) p q n h =
    let on = went_on (λ r. read_lines r (n + 1) ls) (line p n l) q h in
    and_from _ _ (passed (all permitted (content_of l)) (worded p n (words (content_of l))) _ on.0 on.1).0 (read_permitted ls on.0 q (n + 1) on.2)
