-- What the rules of a line answer, by what is known of it. Assumes nothing.
use Rattle.std.proofs.Common.{◌≡◌, ℕ, Bool, true, false, List, [], ◌∷◌, Ok, Err, Option, refl}
use Rattle.listing.specs.declared.refusal.Reason.TheVariants.{NoForm, TooMany}
use Rattle.listing.specs.declared.refusal.Refusal.{Refusal}
use Rattle.listing.specs.Forms.{Says, no_form, means, Line, bound_line, apply, first, rest, ended, bound, bound_form}
use Rattle.listing.specs.Reading.{Progress, refusal, some, room, with_line, held, standing}
use Rattle.listing.specs.Taking.{said}
use Rattle.listing.proofs.SaidTogether.{ended_none}

pub forms_not : (p : Progress) (n : ℕ) (b : Bool) (s : Says Line) (r : Refusal) → s ≡ no_form → r ≡ refusal NoForm n → standing p n b s ≡ Err r
forms_not p n b s r e k = rw (e, k) (elim b as (λ v. standing p n v no_form ≡ Err (refusal NoForm n)) [ true ↦ refl | false ↦ refl ])

-- a line that there is room for, or not
module _ (p : Progress) (n : ℕ) (l : Line) where
  pub held_full : (r : Refusal) → room p l ≡ false → r ≡ refusal TooMany n → held p n (means l) ≡ Err r
  held_full r m k = rw (m, k) refl

  pub held_adds : (q : Progress) → room p l ≡ true → with_line p n l ≡ q → held p n (means l) ≡ Ok q
  held_adds q m k = rw (m, k) refl

-- what a bound line says, by its first word and whether others follow
pub ended_some : {X : Type 0} (ws : List (List ℕ)) (s : Says X) → some ws ≡ true → ended ws s ≡ no_form
ended_some [] s h = cc
ended_some (w ∷ ws) s h = refl

module _ (ws : List (List ℕ)) where
  pub bound_not : first bound ws ≡ no_form → bound_form ws ≡ no_form
  bound_not e = rw e (ended_none (rest ws) no_form refl)

  pub bound_long : (vs : List (List ℕ)) → vs ≡ rest ws → some vs ≡ true → bound_form ws ≡ no_form
  bound_long vs e h = ended_some (rest ws) _ (rw e at h)

  pub bound_says : (vs : List (List ℕ)) (o : Option ℕ) → vs ≡ rest ws → vs ≡ [] → first bound ws ≡ said o → bound_form ws ≡ apply (means bound_line) (said o)
  bound_says vs o e h k = let none : rest ws ≡ [] = cc in rw (none, k) refl
