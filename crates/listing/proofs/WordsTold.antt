-- The words of a line are told by the bytes in which they stand. Assumes nothing.
use Rattle.std.proofs.Common.{◌≡◌, ℕ, true, List, subst, ⊎_elim}
use Rattle.std.proofs.lemmas.Bool.{cases_Bool}
use Rattle.listing.specs.Alphabet.{Foreign}
use Rattle.listing.specs.LineLaws.{WordsTold}
use Rattle.listing.specs.Limits.{all}
use Rattle.listing.specs.Spelling.{Row}
use Rattle.listing.specs.Words.{permitted, content_of}
use Rattle.listing.proofs.ForeignTold.{foreign_told}
use Rattle.listing.proofs.Laid.{each_within, row_words, row_permitted, row_laid}

-- where no byte is foreign, each outside a comment is permitted
pub none_foreign : (bs : List ℕ) → (Foreign bs → ⊥) → all permitted (content_of bs) ≡ true
none_foreign bs h = ⊎_elim (λ fine. fine) (λ odd. absurd (h ((foreign_told bs).0 odd))) (cases_Bool (all permitted (content_of bs)))

pub words_told : (bs : List ℕ) → WordsTold bs
words_told bs ws within = (
  λ h. subst (λ vs. Row vs bs) h.1 (row_laid bs (each_within bs within) (none_foreign bs h.0)),
  λ row. (λ odd. let is = row_permitted row in let not = (foreign_told bs).1 odd in cc, row_words row),
)
