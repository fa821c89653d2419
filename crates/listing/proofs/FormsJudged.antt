-- The words of a line are told by the forms of a line. Assumes nothing.
--   Then R f ws          R holds of the parts f and the first of the words ws, and of conditions and the words after those
--   Starts R c ws        the same of the first condition c and of those after it
use Rattle.std.proofs.Common.{◌≡◌, ◌↔◌, ◌⊎◌, ◌≤◌, ℕ, zero, suc, Bool, true, false, cond, not, List, [], ◌∷◌, ◌++◌, length, codes, inl, inr, sym, refl, ◌∙◌, subst, ⊎_elim, arith}
use Rattle.std.specs.List.{AllByRecursion as All, flat_map}
use Rattle.std.proofs.lemmas.Bool.{and_parts, not-true}
use Rattle.listing.specs.declared.code.Condition.TheVariants as condition
use Rattle.listing.specs.declared.code.Instruction.TheVariants as instructions
use Rattle.listing.specs.Alphabet.{OneOf, IsOneOf}
use Rattle.listing.specs.Forms.{Says, no_form, means, apply, first, rest, ended, one, two, three, four, instruction, more, conditions, fault, bound_line, thread_line, instruction_line, fault_line, form}
use Rattle.listing.specs.Forms as forms
use Rattle.listing.specs.LineForms.{Part, this, variable, register, number, operand, value, target, thread, bound_form, thread_form, instruction_forms, condition_forms, Formed, of_bound, of_thread, of_instruction, of_fault, Fits, FitsInRange, HasForm, InRange}
use Rattle.listing.specs.Limits.{all}
use Rattle.listing.specs.Names.{same_word}
use Rattle.listing.specs.Spelling.{Pairwise}
use Rattle.listing.proofs.FormRows.{rest_shorter}
use Rattle.listing.proofs.Telling.{Tells, formless, meant, tells_as, tells_apply, tells_map, tells_word, same_word_self, Judges, Leads, after, leads_all, LedBy, no_part, next_part, all_parts}
use Rattle.listing.proofs.WordsJudged.{number_judged, variable_judged, register_judged, operand_judged}

module _ {W V : Type 0} (a : Part) {p : List ℕ → Says W} (ja : Judges a p) where
  one_part : (f : W → V) (ws : List (List ℕ)) → LedBy (a ∷ []) ws (one f p ws)
  one_part f ws = next_part [] a p (means f) ws ja (no_part f ws)

module _ {W X V : Type 0} (a b : Part) {p : List ℕ → Says W} {q : List ℕ → Says X} (ja : Judges a p) (jb : Judges b q) where
  two_parts : (f : W → X → V) (ws : List (List ℕ)) → LedBy (a ∷ b ∷ []) ws (two f p q ws)
  two_parts f ws = next_part (a ∷ []) b q (one f p ws) ws jb (one_part a ja f ws)

module _ {W X Y V : Type 0} (a b c : Part) {p : List ℕ → Says W} {q : List ℕ → Says X} {r : List ℕ → Says Y} (ja : Judges a p) (jb : Judges b q) (jc : Judges c r) where
  three_parts : (f : W → X → Y → V) (ws : List (List ℕ)) → LedBy (a ∷ b ∷ c ∷ []) ws (three f p q r ws)
  three_parts f ws = next_part (a ∷ b ∷ []) c r (two f p q ws) ws jc (two_parts a b ja jb f ws)

-- a first word that is another than those of the forms
abbrev pub unlike : List ℕ → List Part → Bool
unlike v [] = false
unlike v (this u ∷ f) = not (same_word u v)
unlike v (variable ∷ f) = false
unlike v (register ∷ f) = false
unlike v (number low high ∷ f) = false
unlike v (operand ∷ f) = false

pub others : (P : List Part → Type 0) (w : List ℕ) → ((u : List ℕ) (f : List Part) → P (this u ∷ f) → w ≡ u) → (fs : List (List Part)) → all (unlike w) fs ≡ true → OneOf P fs → ⊥
others P w first [] h k = k
others P w first ([] ∷ fs) h k = (cc)
others P w first ((this u ∷ f) ∷ fs) h (inl k) =
    let apart = not-true (same_word u w) (and_parts (not (same_word u w)) (all (unlike w) fs) h).0 in
    let same = subst (λ v. same_word v w ≡ true) (first u f k) (same_word_self w) in
    cc
others P w first ((this u ∷ f) ∷ fs) h (inr k) = others P w first fs (and_parts (not (same_word u w)) (all (unlike w) fs) h).1 k
others P w first ((variable ∷ f) ∷ fs) h k = cc
others P w first ((register ∷ f) ∷ fs) h k = cc
others P w first ((number low high ∷ f) ∷ fs) h k = cc
others P w first ((operand ∷ f) ∷ fs) h k = cc

-- a form that the word v begins, and the forms that other words begin
module _ {X H I J K : Type 0} (v w : List ℕ) {s t : Says X} where
  branch : (w ≡ v → J → ⊥) → (w ≡ v → K → ⊥) → Tells H I s → Tells J K t → Tells ((w ≡ v) × H ⊎ J) ((w ≡ v) × I ⊎ K) (cond (same_word v w) s t)
  branch noJ noK here there =
      tells_word v w
      (λ same. tells_as (λ h. inl (same, h), λ j. ⊎_elim (λ h. h.1) (λ h. absurd (noJ same h)) j) (λ h. inl (same, h), λ j. ⊎_elim (λ h. h.1) (λ h. absurd (noK same h)) j) here)
      (λ other. tells_as (inr, λ j. ⊎_elim (λ h. absurd (other h.0)) (λ h. h) j) (inr, λ j. ⊎_elim (λ h. absurd (other h.0)) (λ h. h) j) there)

-- what s says is told by the forms of a list, of which the words w and ws may have one
pub record Listed {X : Type 0} (fs : List (List Part)) (w : List ℕ) (ws : List (List ℕ)) (s : Says X) : Type 0 where
  pub tells : Tells (OneOf (λ f. Pairwise Fits f (w ∷ ws)) fs) (OneOf (λ f. Pairwise FitsInRange f (w ∷ ws)) fs) s

no_row : {X : Type 0} (w : List ℕ) (ws : List (List ℕ)) → Listed {X = X} [] w ws no_form
no_row w ws = record { tells = formless (λ h. h) }

row : {X : Type 0} (v : List ℕ) {f : List Part} {fs : List (List Part)} {w : List ℕ} {ws : List (List ℕ)} {s t : Says X} → all (unlike v) fs ≡ true
    → LedBy f ws s → Listed fs w ws t → Listed ((this v ∷ f) ∷ fs) w ws (cond (same_word v w) (ended (after f ws) s) t)
row v {fs = fs} {w = w} {ws = ws} apart here there =
    record {
      tells =
          branch v w
          (λ same. others (λ f. Pairwise Fits f (w ∷ ws)) w (λ u f h. h.0) fs (subst (λ u. all (unlike u) fs ≡ true) (sym same) apart))
          (λ same. others (λ f. Pairwise FitsInRange f (w ∷ ws)) w (λ u f h. h.0) fs (subst (λ u. all (unlike u) fs ≡ true) (sym same) apart))
          (all_parts here) there.tells;
    }

pub instruction_judged : (w : List ℕ) (ws : List (List ℕ)) → Listed instruction_forms w ws (instruction w ws)
unfolding instruction
instruction_judged w ws =
    row (codes "store") refl (two_parts variable operand variable_judged operand_judged instructions.Store ws)
    (row (codes "load") refl (two_parts register variable register_judged variable_judged instructions.Load ws)
    (row (codes "set") refl (two_parts register operand register_judged operand_judged instructions.Set ws)
    (row (codes "add") refl (two_parts register operand register_judged operand_judged instructions.Add ws)
    (row (codes "cas") refl
    (next_part (register ∷ variable ∷ operand ∷ []) operand forms.operand _ ws operand_judged
    (three_parts register variable operand register_judged variable_judged operand_judged instructions.Cas ws))
    (row (codes "fence") refl (no_part instructions.Fence ws)
    (row (codes "jump") refl (one_part target (number_judged 0 16) instructions.Jump ws)
    (row (codes "jeq") refl (three_parts register operand target register_judged operand_judged (number_judged 0 16) instructions.JumpIfEqual ws)
    (row (codes "jne") refl (three_parts register operand target register_judged operand_judged (number_judged 0 16) instructions.JumpUnlessEqual ws)
    (no_row w ws)))))))))

-- conditions of some forms
abbrev HasConditions : (Part → List ℕ → Type 0) → List (List ℕ) → Type 0
HasConditions R ws = (cs : List (List Part)) × (All (IsOneOf condition_forms) cs × Pairwise R (flat_map (λ c. c) cs) ws)

abbrev Then : (Part → List ℕ → Type 0) → List Part → List (List ℕ) → Type 0
Then R f ws = Leads R f ws × HasConditions R (after f ws)

abbrev Starts : (Part → List ℕ → Type 0) → List (List ℕ) → List Part → Type 0
Starts R ws [] = ⊥
Starts R [] (q ∷ f) = ⊥
Starts R (w ∷ ws) (q ∷ f) = R q w × Then R f ws

module _ (R : Part → List ℕ → Type 0) where
  -- the first condition has the form q ∷ f, or all have one
  first_starts : (k : List ℕ) (ws : List (List ℕ)) (q : Part) (f c : List Part) (cs : List (List Part)) → All (IsOneOf condition_forms) cs → Pairwise R (c ++ flat_map (λ c. c) cs) (k ∷ ws) → c ≡ q ∷ f → Starts R (k ∷ ws) (q ∷ f)
  first_starts k ws q f c cs known h e =
      let is = subst (λ d. Pairwise R (d ++ flat_map (λ c. c) cs) (k ∷ ws)) e h in
      let parts = (leads_all R f (flat_map (λ c. c) cs) ws).1 is.1 in
      (is.0, (parts.0, (cs, (known, parts.1))))

  starts_all : (k : List ℕ) (ws : List (List ℕ)) (q : Part) (f : List Part) → IsOneOf condition_forms (q ∷ f) → Starts R (k ∷ ws) (q ∷ f) → HasConditions R (k ∷ ws)
  starts_all k ws q f known h = ((q ∷ f) ∷ h.1.1.0, ((known, h.1.1.1.0), (h.0, (leads_all R f (flat_map (λ c. c) h.1.1.0) ws).0 (h.1.0, h.1.1.1.1))))

  conditions_start : (k : List ℕ) (ws : List (List ℕ)) → OneOf (Starts R (k ∷ ws)) condition_forms ↔ HasConditions R (k ∷ ws)
  conditions_start k ws = (to, from)
    where
      to : OneOf (Starts R (k ∷ ws)) condition_forms → HasConditions R (k ∷ ws)
      to (inl h) = starts_all k ws _ _ (inl refl) h
      to (inr (inl h)) = starts_all k ws _ _ (inr (inl refl)) h
      to (inr (inr (inl h))) = starts_all k ws _ _ (inr (inr (inl refl))) h
      to (inr (inr (inr h))) = absurd h

      from : HasConditions R (k ∷ ws) → OneOf (Starts R (k ∷ ws)) condition_forms
      from ([], (known, h)) = absurd h
      from (c ∷ cs, ((inl e, known), h)) = inl (first_starts k ws _ _ c cs known h e)
      from (c ∷ cs, ((inr (inl e), known), h)) = inr (inl (first_starts k ws _ _ c cs known h e))
      from (c ∷ cs, ((inr (inr (inl e)), known), h)) = inr (inr (inl (first_starts k ws _ _ c cs known h e)))
      from (c ∷ cs, ((inr (inr (inr e)), known), h)) = absurd e

abbrev Conditioned : List (List ℕ) → {X : Type 0} → Says X → Type 0
Conditioned ws s = Tells (HasConditions Fits ws) (HasConditions FitsInRange ws) s

record Started {X : Type 0} (fs : List (List Part)) (ws : List (List ℕ)) (s : Says X) : Type 0 where
  tells : Tells (OneOf (Starts Fits ws) fs) (OneOf (Starts FitsInRange ws) fs) s

no_start : {X : Type 0} (ws : List (List ℕ)) → Started {X = X} [] ws no_form
no_start ws = record { tells = formless (λ h. h) }

condition_row : {X : Type 0} (v : List ℕ) {f : List Part} {fs : List (List Part)} {k : List ℕ} {ws : List (List ℕ)} {s : Says X} {t u : Says (List X)} → all (unlike v) fs ≡ true
    → LedBy f ws s → Conditioned (after f ws) t → Started fs (k ∷ ws) u → Started ((this v ∷ f) ∷ fs) (k ∷ ws) (cond (same_word v k) (more s t) u)
condition_row v {fs = fs} {k = k} {ws = ws} apart here later there =
    record {
      tells =
          branch v k
          (λ same. others (Starts Fits (k ∷ ws)) k (λ u f h. h.0) fs (subst (λ u. all (unlike u) fs ≡ true) (sym same) apart))
          (λ same. others (Starts FitsInRange (k ∷ ws)) k (λ u f h. h.0) fs (subst (λ u. all (unlike u) fs ≡ true) (sym same) apart))
          (tells_apply (tells_map ◌∷◌ here.tells) later) there.tells;
    }

no_conditions : {Y : Type 0} → Conditioned [] {X = List Y} (means [])
no_conditions = meant ([], (tt, tt)) ([], (tt, tt))

conditions_judged : (n : ℕ) (ws : List (List ℕ)) → length ws ≤ n → Conditioned ws (conditions n ws)
unfolding conditions
conditions_judged zero [] l = no_conditions
conditions_judged zero (w ∷ ws) l = absurd (omega arith)
conditions_judged (suc n) [] l = no_conditions
conditions_judged (suc n) (k ∷ ws) l =
    let once = rest_shorter ws in
    let twice = rest_shorter (rest ws) in
    let thrice = rest_shorter (rest (rest ws)) in
    tells_as (conditions_start Fits k ws) (conditions_start FitsInRange k ws)
    (condition_row (codes "at") refl (two_parts thread target (number_judged 0 3) (number_judged 0 16) condition.At ws) (conditions_judged n (rest (rest ws)) (omega arith))
    (condition_row (codes "reg") refl (three_parts thread register value (number_judged 0 3) register_judged (number_judged 0 15) condition.Holds ws) (conditions_judged n (rest (rest (rest ws))) (omega arith))
    (condition_row (codes "mem") refl (two_parts variable value variable_judged (number_judged 0 15) condition.Memory ws) (conditions_judged n (rest (rest ws)) (omega arith))
    (no_start (k ∷ ws))))).tells

-- the conditions of a fault line
abbrev HasFault : (Part → List ℕ → Type 0) → List (List ℕ) → Type 0
HasFault R ws = (cs : List (List Part)) × ((1 ≤ length cs) × (All (IsOneOf condition_forms) cs × Pairwise R (flat_map (λ c. c) cs) ws))

module _ (R : Part → List ℕ → Type 0) where
  some_conditions : (w : List ℕ) (ws : List (List ℕ)) → HasConditions R (w ∷ ws) ↔ HasFault R (w ∷ ws)
  some_conditions w ws = (λ h. (h.0, (counted h.0 h.1.1, h.1)), λ h. (h.0, h.1.1))
    where
      counted : (cs : List (List Part)) → Pairwise R (flat_map (λ c. c) cs) (w ∷ ws) → 1 ≤ length cs
      counted [] h = absurd h
      counted (c ∷ cs) h = omega arith

  not_empty : HasFault R [] → ⊥
  not_empty ([], (l, h)) = omega arith
  not_empty (c ∷ cs, (l, ((inl e, known), h))) = subst (λ d. Pairwise R (d ++ flat_map (λ c. c) cs) []) e h
  not_empty (c ∷ cs, (l, ((inr (inl e), known), h))) = subst (λ d. Pairwise R (d ++ flat_map (λ c. c) cs) []) e h
  not_empty (c ∷ cs, (l, ((inr (inr (inl e)), known), h))) = subst (λ d. Pairwise R (d ++ flat_map (λ c. c) cs) []) e h
  not_empty (c ∷ cs, (l, ((inr (inr (inr e)), known), h))) = absurd e

fault_judged : (ws : List (List ℕ)) → Tells (HasFault Fits ws) (HasFault FitsInRange ws) (fault ws)
fault_judged [] = formless (not_empty Fits)
fault_judged (w ∷ ws) = tells_as (some_conditions Fits w ws) (some_conditions FitsInRange w ws) (conditions_judged (length (w ∷ ws)) (w ∷ ws) (omega arith))

-- the forms in the order in which they are looked for
abbrev Rows : (Part → List ℕ → Type 0) → List ℕ → List (List ℕ) → Type 0
Rows R w ws = Pairwise R bound_form (w ∷ ws) ⊎ (Pairwise R thread_form (w ∷ ws) ⊎ ((R (this (codes "fault")) w × HasFault R ws) ⊎ OneOf (λ f. Pairwise R f (w ∷ ws)) instruction_forms))

as_rows : (R : Part → List ℕ → Type 0) (w : List ℕ) (ws : List (List ℕ)) → Rows R w ws ↔ Formed R (w ∷ ws)
as_rows R w ws = (to, from)
  where
    to : Rows R w ws → Formed R (w ∷ ws)
    to (inl h) = of_bound h
    to (inr (inl h)) = of_thread h
    to (inr (inr (inl h))) = of_fault h.1.0 h.1.1.0 h.1.1.1.0 (h.0, h.1.1.1.1)
    to (inr (inr (inr h))) = of_instruction h

    from : Formed R (w ∷ ws) → Rows R w ws
    from (of_bound h) = inl h
    from (of_thread h) = inr (inl h)
    from (of_instruction h) = inr (inr (inr h))
    from (of_fault cs l known h) = inr (inr (inl (h.0, (cs, (l, (known, h.1))))))

two_words : (u v w : List ℕ) → same_word u v ≡ false → w ≡ u → w ≡ v → ⊥
two_words u v w apart a b =
    let same = subst (λ x. same_word u x ≡ true) (sym a ∙ b) (same_word_self u) in
    cc

-- no instruction begins with such a word
no_instruction : (R : Part → List ℕ → Type 0) → ((u w : List ℕ) → R (this u) w → w ≡ u) → (v w : List ℕ) (ws : List (List ℕ)) → all (unlike v) instruction_forms ≡ true → w ≡ v
    → OneOf (λ f. Pairwise R f (w ∷ ws)) instruction_forms → ⊥
no_instruction R is v w ws apart same = others (λ f. Pairwise R f (w ∷ ws)) w (λ u f h. is u w h.0) instruction_forms (subst (λ u. all (unlike u) instruction_forms ≡ true) (sym same) apart)

module _ (R : Part → List ℕ → Type 0) (is : (u w : List ℕ) → R (this u) w → w ≡ u) (w : List ℕ) (ws : List (List ℕ)) where
  bound_alone : w ≡ codes "bound" → (Pairwise R thread_form (w ∷ ws) ⊎ ((R (this (codes "fault")) w × HasFault R ws) ⊎ OneOf (λ f. Pairwise R f (w ∷ ws)) instruction_forms)) → ⊥
  bound_alone e (inl h) = two_words (codes "bound") (codes "thread") w refl e (is (codes "thread") w h.0)
  bound_alone e (inr (inl h)) = two_words (codes "bound") (codes "fault") w refl e (is (codes "fault") w h.0)
  bound_alone e (inr (inr h)) = no_instruction R is (codes "bound") w ws refl e h

  thread_alone : w ≡ codes "thread" → ((R (this (codes "fault")) w × HasFault R ws) ⊎ OneOf (λ f. Pairwise R f (w ∷ ws)) instruction_forms) → ⊥
  thread_alone e (inl h) = two_words (codes "thread") (codes "fault") w refl e (is (codes "fault") w h.0)
  thread_alone e (inr h) = no_instruction R is (codes "thread") w ws refl e h

pub form_judged : (w : List ℕ) (ws : List (List ℕ)) → Tells (HasForm (w ∷ ws)) (InRange (w ∷ ws)) (form w ws)
unfolding form
form_judged w ws =
    tells_as (as_rows Fits w ws) (as_rows FitsInRange w ws)
    (branch (codes "bound") w (bound_alone Fits (λ u w h. h) w ws) (bound_alone FitsInRange (λ u w h. h) w ws) (all_parts (one_part (number 1 4) (number_judged 1 4) bound_line ws))
    (branch (codes "thread") w (thread_alone Fits (λ u w h. h) w ws) (thread_alone FitsInRange (λ u w h. h) w ws) (all_parts (no_part thread_line ws))
    (branch (codes "fault") w (no_instruction Fits (λ u w h. h) (codes "fault") w ws refl) (no_instruction FitsInRange (λ u w h. h) (codes "fault") w ws refl) (tells_map fault_line (fault_judged ws))
    (tells_map instruction_line (instruction_judged w ws).tells))))
