-- A text is cut into its lines. Assumes nothing.
use Rattle.std.proofs.Common.{◌≡◌, ◌==◌, ℕ, Bool, true, false, cond, List, [], ◌∷◌, ◌++◌, refl, sym, ap, subst, ◌∙◌}
use Rattle.std.proofs.lemmas.Bool.{eqb-true}
use Rattle.listing.specs.TextLines.{AreLines, LinesTold}
use Rattle.listing.specs.Words.{ends, joined, lines, pieces}
use Rattle.listing.proofs.Laid.{each_within}
use Rattle.listing.proofs.Pieces.{piece_alone, piece_then}

-- one byte more in front of the first line
longer : {ls : List (List ℕ)} {t : List ℕ} (b : ℕ) → (b == 10) ≡ false → AreLines ls t → AreLines (joined b ls) (b ∷ t)
longer b h AreLines.none = AreLines.last (h, tt)
longer b h (AreLines.last w) = AreLines.last (h, w)
longer b h (AreLines.next w rest) = AreLines.next (h, w) rest

cut : (t : List ℕ) → AreLines (pieces ends t) t
cut [] = AreLines.none
cut (b ∷ t) = by (ends b) refl (cut t)
  where
    by : (e : Bool) → ends b ≡ e → AreLines (pieces ends t) t → AreLines (cond e ([] ∷ pieces ends t) (joined b (pieces ends t))) (b ∷ t)
    by true h rest = subst (λ x. AreLines ([] ∷ pieces ends t) (x ∷ t)) (sym (eqb-true b 10 h)) (AreLines.next tt rest)
    by false h rest = longer b h rest

only : {ls : List (List ℕ)} {t : List ℕ} → AreLines ls t → pieces ends t ≡ ls
only AreLines.none = refl
only (AreLines.last {b} {bs} w) = piece_alone ends b bs (each_within (b ∷ bs) w)
only (AreLines.next {bs} {ls} {t} w rest) = piece_then ends bs 10 t (each_within bs w) refl ∙ ap (λ more. bs ∷ more) (only rest)

pub lines_told : (t : List ℕ) → LinesTold t
unfolding lines
lines_told t ls = (λ e. subst (λ x. AreLines x t) e (cut t), λ a. only a)
