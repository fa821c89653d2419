-- What the words of a line say is told by the forms of a line. Assumes nothing.
use Rattle.std.proofs.Common.{◌≡◌, ◌≢◌, ◌↔◌, ℕ, List, ◌∷◌, inl, inr, refl, ⊎_elim}
use Rattle.listing.specs.Forms.{Says, no_form, out_of_range, means}
use Rattle.listing.specs.LineForms.{Part, this, variable, register, number, operand, of_bound, of_thread, of_instruction, of_fault, bound_form, thread_form, instruction_forms, fault_form, Fits, FitsInRange, HasForm, InRange}
use Rattle.listing.specs.LineLaws.{FormTold}
use Rattle.listing.specs.Spelling.{Pairwise}
use Rattle.listing.proofs.Agreeing.{spelled_says}
use Rattle.listing.proofs.FormSpells.{form_spelled}
use Rattle.listing.proofs.FormsJudged.{form_judged}
use Rattle.listing.proofs.OneOfMany.{one_of_map}
use Rattle.listing.proofs.Pairs.{pairwise_weaker}
use Rattle.listing.proofs.Telling.{Tells, formless, unranged, meant}
use Rattle.listing.proofs.WordsJudged.{writes_number}

-- which of the three it is
record ByForm {X : Type 0} (H I : Type 0) (s : Says X) : Type 0 where
  none : (s ≡ no_form) ↔ (H → ⊥)
  some : (s ≢ no_form) ↔ H
  out : (s ≡ out_of_range) ↔ (H × (I → ⊥))
  meaning : ((x : X) × (s ≡ means x)) ↔ I

by_form : {X H I : Type 0} {s : Says X} → (I → H) → Tells H I s → ByForm H I s
by_form has (formless t) =
    record {
      none = (λ e. t, λ h. refl);
      some = (λ e. absurd (e refl), λ h. absurd (t h));
      out = (λ e. cc, λ h. absurd (t h.0));
      meaning = (λ h. let e = h.1 in cc, λ i. absurd (t (has i)));
    }
by_form has (unranged t u) =
    record {
      none = (λ e. cc, λ h. absurd (h t));
      some = (λ e. t, λ h e. cc);
      out = (λ e. (t, u), λ h. refl);
      meaning = (λ h. let e = h.1 in cc, λ i. absurd (u i));
    }
by_form has (meant {x} t u) =
    record {
      none = (λ e. cc, λ h. absurd (h t));
      some = (λ e. t, λ h e. cc);
      out = (λ e. cc, λ h. absurd (h.1 u));
      meaning = (λ h. u, λ i. (x, refl));
    }

ranged_fits : (q : Part) (w : List ℕ) → FitsInRange q w → Fits q w
ranged_fits (this v) w h = h
ranged_fits variable w h = h
ranged_fits register w h = h
ranged_fits (number low high) w h = writes_number h.1.0
ranged_fits operand w h = ⊎_elim inl (λ n. inr (writes_number n.1.0)) h

ranged_form : (ws : List (List ℕ)) → InRange ws → HasForm ws
ranged_form ws (of_bound h) = of_bound (pairwise_weaker FitsInRange Fits ranged_fits bound_form ws h)
ranged_form ws (of_thread h) = of_thread (pairwise_weaker FitsInRange Fits ranged_fits thread_form ws h)
ranged_form ws (of_instruction h) =
    of_instruction
    (one_of_map (λ f. Pairwise FitsInRange f ws) (λ f. Pairwise Fits f ws) (λ f. pairwise_weaker FitsInRange Fits ranged_fits f ws) instruction_forms h)
ranged_form ws (of_fault cs l known h) = of_fault cs l known (pairwise_weaker FitsInRange Fits ranged_fits (fault_form cs) ws h)

pub form_told : (w : List ℕ) (ws : List (List ℕ)) → FormTold w ws
form_told w ws =
    let told = by_form (ranged_form (w ∷ ws)) (form_judged w ws) in
    record {
      formless = told.none;
      formed = told.some;
      unranged = told.out;
      ranged = told.meaning;
      says = λ l. (
        λ e. (told.meaning.0 (l, e), (form_spelled w ws l e).0),
        λ h. let some = told.meaning.1 h.0 in spelled_says l some.0 w ws some.1 h.1,
      );
    }
