-- Where a line may stand and what is one too many are told by relations. Assumes nothing.
use Rattle.std.proofs.Common.{◌≡◌, ℕ, ◌+◌, ◌≤◌, true, false, not, ltb, leb, List, [], ◌∷◌, ◌++◌, length, is_some, Some, None, Option, codes, sym, refl, ap, ◌∙◌, subst, ⊎_elim, arith}
use Rattle.std.specs.List.{flat_map}
use Rattle.std.proofs.lemmas.Bool.{and_parts, and_from, and_cases, and_left, and_right, cases_Bool, ltb-true, ltb-false, leb-true, leb-false}
use Rattle.std.proofs.lemmas.List.{length-append}
use Rattle.listing.specs.Alphabet.{OneOf}
use Rattle.listing.specs.Forms.{Line, bound_line, thread_line, instruction_line, fault_line}
use Rattle.listing.specs.LineForms.{Part, instruction_forms, of_bound, of_thread, of_instruction, of_fault, Fits, HasForm}
use Rattle.listing.specs.LineLaws.{OrderTold}
use Rattle.listing.specs.LineOrder.{Begins, MayStand, bound_first, thread_next, below_thread, fault_last, IsTooMuch, fifth_thread, seventeenth_instruction, thirty_third_instruction, ninth_fault_line, seventh_condition}
use Rattle.listing.specs.Limits.{all, together}
use Rattle.listing.specs.Names.{same_word}
use Rattle.listing.specs.Reading.{Progress, some, may_stand, last_length, room, bound_stands, thread_stands, instruction_stands, fault_stands}
use Rattle.listing.specs.Spelling.{Pairwise}
use Rattle.listing.proofs.Counts.{none_there}
use Rattle.listing.proofs.FormsJudged.{unlike, others}
use Rattle.listing.proofs.Grown.{last_length_push}
use Rattle.listing.proofs.OneOfMany.{one_of_map}
use Rattle.listing.proofs.WordSpells.{same_word_eq}

-- a word that begins an instruction is another than v
begins_not : (v w : List ℕ) → all (unlike v) instruction_forms ≡ true → OneOf (Begins w) instruction_forms → same_word v w ≡ false
begins_not v w apart h =
    ⊎_elim
    (λ same.
    let is = same_word_eq v w same in
    absurd (others (Begins w) w (λ u f k. k) instruction_forms (subst (λ u. all (unlike u) instruction_forms ≡ true) (sym is) apart) h))
    (λ other. other)
    (cases_Bool (same_word v w))

module _ (p : Progress) where
  stands_instruction : (w : List ℕ) → OneOf (Begins w) instruction_forms → may_stand p w ≡ instruction_stands p
  unfolding may_stand
  stands_instruction w h =
      rw (begins_not (codes "bound") w refl h, begins_not (codes "thread") w refl h, begins_not (codes "fault") w refl h) refl

  stands_bound : may_stand p (codes "bound") ≡ bound_stands p
  unfolding may_stand
  stands_bound = refl

  stands_thread : may_stand p (codes "thread") ≡ thread_stands p
  unfolding may_stand
  stands_thread = refl

  stands_fault : may_stand p (codes "fault") ≡ fault_stands p
  unfolding may_stand
  stands_fault = refl

  first_word : (w : List ℕ) (ws : List (List ℕ)) → (f : List Part) → Pairwise Fits f (w ∷ ws) → Begins w f
  first_word w ws [] h = absurd h
  first_word w ws (q ∷ f) h = h.0

  bound_there : (o : Option ℕ) → is_some o ≡ true → (k : ℕ) × (o ≡ Some k)
  bound_there None h = cc
  bound_there (Some k) h = (k, refl)

  no_bound : (o : Option ℕ) → not (is_some o) ≡ true → o ≡ None
  no_bound None h = refl
  no_bound (Some k) h = cc

  some_there : {X : Type 0} (xs : List X) → some xs ≡ true → 1 ≤ length xs
  some_there [] h = cc
  some_there (x ∷ xs) h = omega arith

  there_some : {X : Type 0} (xs : List X) → 1 ≤ length xs → some xs ≡ true
  there_some [] h = absurd (omega arith)
  there_some (x ∷ xs) h = refl

  may : (w : List ℕ) (ws : List (List ℕ)) → HasForm (w ∷ ws) → may_stand p w ≡ true → MayStand p w
  may w ws (of_bound h) e = bound_first h.0 (no_bound p.bound (sym (ap (may_stand p) h.0 ∙ stands_bound) ∙ e))
  may w ws (of_thread h) e =
      let both = and_parts (is_some p.bound) (not (some p.faults)) (sym (ap (may_stand p) h.0 ∙ stands_thread) ∙ e) in
      let there = bound_there p.bound both.0 in
      thread_next h.0 there.0 there.1 (none_there p.faults both.1)
  may w ws (of_instruction h) e =
      let begun = one_of_map (λ f. Pairwise Fits f (w ∷ ws)) (Begins w) (first_word w ws) instruction_forms h in
      let both = and_parts (some p.threads) (not (some p.faults)) (sym (stands_instruction w begun) ∙ e) in
      below_thread begun (some_there p.threads both.0) (none_there p.faults both.1)
  may w ws (of_fault cs l known h) e =
      let there = bound_there p.bound (sym (ap (may_stand p) h.0 ∙ stands_fault) ∙ e) in
      fault_last h.0 there.0 there.1

  pub it_may : (w : List ℕ) → MayStand p w → may_stand p w ≡ true
  it_may w (bound_first is none) = ap (may_stand p) is ∙ (stands_bound ∙ ap (λ o. not (is_some o)) none)
  it_may w (thread_next is k there none) = ap (may_stand p) is ∙ (stands_thread ∙ and_from _ _ (ap is_some there) (ap (λ fs. not (some fs)) none))
  it_may w (below_thread begun there none) = stands_instruction w begun ∙ and_from _ _ (there_some p.threads there) (ap (λ fs. not (some fs)) none)
  it_may w (fault_last is k there) = ap (may_stand p) is ∙ (stands_fault ∙ ap is_some there)

  flat_together : {X : Type 0} (ts : List (List X)) → length (flat_map (λ t. t) ts) ≡ together ts
  flat_together [] = refl
  flat_together (t ∷ ts) = length-append t (flat_map (λ t. t) ts) ∙ ap (λ n. length t + n) (flat_together ts)

  last_full : {X : Type 0} (ts : List (List X)) (n : ℕ) → 1 ≤ n → n ≤ last_length ts → (before : List (List X)) × (last : List X) × (ts ≡ before ++ last ∷ []) × (n ≤ length last)
  last_full [] n l h = absurd (omega arith)
  last_full (t ∷ []) n l h = ([], t, refl, h)
  last_full (t ∷ u ∷ ts) n l h = let later = last_full (u ∷ ts) n l h in (t ∷ later.0, later.1, ap (λ r. t ∷ r) later.2, later.3)

  less_not : (m n : ℕ) → n ≤ m → ltb m n ≡ false
  less_not m n h =
      ⊎_elim (λ less. absurd (omega (arith, ltb-true m n less))) (λ not. not) (cases_Bool (ltb m n))

  too_much_from : (l : Line) → room p l ≡ false → IsTooMuch p l
  too_much_from (bound_line k) h = cc
  too_much_from thread_line h = fifth_thread (ltb-false (length p.threads) 4 h)
  too_much_from (instruction_line i) h =
      ⊎_elim
      (λ full.
      let at = last_full p.threads 16 (omega arith) (ltb-false (last_length p.threads) 16 full) in
      seventeenth_instruction i at.0 at.1 at.2 at.3)
      (λ full. thirty_third_instruction i (subst (λ n. 32 ≤ n) (sym (flat_together p.threads)) (ltb-false (together p.threads) 32 full)))
      (and_cases (ltb (last_length p.threads) 16) (ltb (together p.threads) 32) h)
  too_much_from (fault_line cs) h =
      ⊎_elim
      (λ many. seventh_condition cs (leb-false (length cs) 6 many))
      (λ full. ninth_fault_line cs (ltb-false (length p.faults) 8 full))
      (and_cases (leb (length cs) 6) (ltb (length p.faults) 8) h)

  too_much_to : (l : Line) → IsTooMuch p l → room p l ≡ false
  too_much_to l (fifth_thread h) = less_not (length p.threads) 4 h
  too_much_to l (seventeenth_instruction i before last is h) =
      and_left _ _ (less_not (last_length p.threads) 16 (subst (λ n. 16 ≤ n) (sym (ap last_length is ∙ last_length_push before last)) h))
  too_much_to l (thirty_third_instruction i h) = and_right _ _ (less_not (together p.threads) 32 (subst (λ n. 32 ≤ n) (flat_together p.threads) h))
  too_much_to l (ninth_fault_line cs h) = and_right _ _ (less_not (length p.faults) 8 h)
  too_much_to l (seventh_condition cs h) =
      ⊎_elim (λ few. absurd (omega (arith, leb-true (length cs) 6 few))) (λ not. and_left _ _ not) (cases_Bool (leb (length cs) 6))

  pub order_told : OrderTold p
  order_told =
      record {
        stands = λ w ws has. (may w ws has, it_may w);
        too_much = λ l. (too_much_from l, too_much_to l);
      }
