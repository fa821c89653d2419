-- A line says what its words spell, and nothing else. Assumes nothing.
--   line_ranges l                its numbers are in range, and a fault line has a condition
--   SpellsOut items fits ws v   the words ws spell the items of v, which fits
use Rattle.std.proofs.Common.{◌≡◌, ℕ, zero, suc, ◌≤◌, Bool, true, false, ◌&&◌, leb, List, [], ◌∷◌, length, codes, sym, refl, ap, subst, ⊎_elim, arith}
use Rattle.std.proofs.lemmas.Bool.{and_parts, and_from, cases_Bool, le-leb}
use Rattle.std.specs.List.{flat_map}
use Rattle.listing.specs.declared.code.Condition.{Condition}
use Rattle.listing.specs.declared.code.Condition.TheVariants as condition
use Rattle.listing.specs.declared.code.Instruction.{Instruction}
use Rattle.listing.specs.declared.code.Instruction.TheVariants as instructions
use Rattle.listing.specs.Forms.{Says, no_form, means, apply, rest, instruction, more, conditions, fault, Line, bound_line, thread_line, instruction_line, fault_line, form}
use Rattle.listing.specs.LineForms.{line_items}
use Rattle.listing.specs.Limits.{all, between}
use Rattle.listing.specs.Names.{same_word, variable_word, register_word}
use Rattle.listing.specs.Spelling.{Item, name, number, Spelled, Pairwise, instruction_items, condition_items}
use Rattle.listing.specs.Values.{operand_fits, instruction_fits, condition_fits}
use Rattle.listing.proofs.FormRows.{rest_shorter}
use Rattle.listing.proofs.WordSpells.{Only, only_formless, only_meant, only_map, only_apply, same_word_eq, variable_reads, register_reads, number_reads, upto_reads, operand_reads}
use Rattle.listing.proofs.WordsInTurn.{one_only, one_every, two_only, two_every, three_only, three_every, four_only, four_every, ended_only, ended_every, word_only, whole_only}

abbrev pub line_ranges : Line → Bool
line_ranges (bound_line k) = between 1 4 k
line_ranges thread_line = true
line_ranges (instruction_line i) = instruction_fits i
line_ranges (fault_line cs) = leb 1 (length cs) && all condition_fits cs

abbrev SpellsOut : {V : Type 0} → (V → List Item) → (V → Bool) → List (List ℕ) → V → Type 0
SpellsOut items fits ws v = Pairwise Spelled (items v) ws × (fits v ≡ true)

instruction_only : (w : List ℕ) (ws : List (List ℕ)) → Only (SpellsOut instruction_items instruction_fits (w ∷ ws)) (instruction w ws)
unfolding instruction
instruction_only w ws =
    let P = SpellsOut instruction_items instruction_fits (w ∷ ws) in
    whole_only P (codes "store") w _ _ _ (λ same end. two_only variable_reads operand_reads instructions.Store P ws (λ v e _ fit leads. ((same, leads [] end), fit)))
    (whole_only P (codes "load") w _ _ _ (λ same end. two_only register_reads variable_reads instructions.Load P ws (λ r v _ fit leads. ((same, leads [] end), fit)))
    (whole_only P (codes "set") w _ _ _ (λ same end. two_only register_reads operand_reads instructions.Set P ws (λ r e _ fit leads. ((same, leads [] end), fit)))
    (whole_only P (codes "add") w _ _ _ (λ same end. two_only register_reads operand_reads instructions.Add P ws (λ r e _ fit leads. ((same, leads [] end), fit)))
    (whole_only P (codes "cas") w _ _ _ (λ same end. four_only register_reads variable_reads operand_reads operand_reads instructions.Cas P ws (λ r v old new _ _ fit fit' leads. ((same, leads [] end), and_from _ _ fit fit')))
    (whole_only P (codes "fence") w _ _ _ (λ same end. only_meant P instructions.Fence ((same, end), refl))
    (whole_only P (codes "jump") w _ _ _ (λ same end. one_only (upto_reads 16) instructions.Jump P ws (λ n fit leads. ((same, leads [] end), fit)))
    (whole_only P (codes "jeq") w _ _ _ (λ same end. three_only register_reads operand_reads (upto_reads 16) instructions.JumpIfEqual P ws (λ r e n _ fit fit' leads. ((same, leads [] end), and_from _ _ fit fit')))
    (whole_only P (codes "jne") w _ _ _ (λ same end. three_only register_reads operand_reads (upto_reads 16) instructions.JumpUnlessEqual P ws (λ r e n _ fit fit' leads. ((same, leads [] end), and_from _ _ fit fit')))
    (only_formless P)))))))))

instruction_every : (i : Instruction ℕ) (w : List ℕ) (ws : List (List ℕ)) → instruction_fits i ≡ true → Pairwise Spelled (instruction_items i) (w ∷ ws) → instruction w ws ≡ means i
unfolding instruction
instruction_every (instructions.Store v e) w ws fit h = rw h.0 (ended_every _ _ _ (two_every variable_reads operand_reads instructions.Store v e [] ws refl fit h.1))
instruction_every (instructions.Load r v) w ws fit h = rw h.0 (ended_every _ _ _ (two_every register_reads variable_reads instructions.Load r v [] ws refl refl h.1))
instruction_every (instructions.Set r e) w ws fit h = rw h.0 (ended_every _ _ _ (two_every register_reads operand_reads instructions.Set r e [] ws refl fit h.1))
instruction_every (instructions.Add r e) w ws fit h = rw h.0 (ended_every _ _ _ (two_every register_reads operand_reads instructions.Add r e [] ws refl fit h.1))
instruction_every (instructions.Cas r v old new) w ws fit h =
    let fits = and_parts (operand_fits old) (operand_fits new) fit in
    rw h.0 (ended_every _ _ _ (four_every register_reads variable_reads operand_reads operand_reads instructions.Cas r v old new [] ws refl refl fits.0 fits.1 h.1))
instruction_every instructions.Fence w ws fit h = rw h.0 (ended_every _ _ _ (refl, h.1))
instruction_every (instructions.Jump n) w ws fit h = rw h.0 (ended_every _ _ _ (one_every (upto_reads 16) instructions.Jump n [] ws fit h.1))
instruction_every (instructions.JumpIfEqual r e n) w ws fit h =
    let fits = and_parts (operand_fits e) (leb n 16) fit in
    rw h.0 (ended_every _ _ _ (three_every register_reads operand_reads (upto_reads 16) instructions.JumpIfEqual r e n [] ws refl fits.0 fits.1 h.1))
instruction_every (instructions.JumpUnlessEqual r e n) w ws fit h =
    let fits = and_parts (operand_fits e) (leb n 16) fit in
    rw h.0 (ended_every _ _ _ (three_every register_reads operand_reads (upto_reads 16) instructions.JumpUnlessEqual r e n [] ws refl fits.0 fits.1 h.1))

more_only : (P : List (Condition ℕ) → Type 0) (s : Says (Condition ℕ)) (t : Says (List (Condition ℕ))) → Only (λ c. Only (λ cs. P (c ∷ cs)) t) s → Only P (more s t)
more_only P s t k = only_apply P (apply (means ◌∷◌) s) t (only_map (λ g. Only (λ cs. P (g cs)) t) ◌∷◌ s k)

conditions_only : (n : ℕ) (ws : List (List ℕ)) → Only (SpellsOut (flat_map condition_items) (all condition_fits) ws) (conditions n ws)
unfolding conditions
conditions_only zero ws = let P = SpellsOut (flat_map condition_items) (all condition_fits) ws in ended_only P ws (means []) (λ end. only_meant P [] (end, refl))
conditions_only (suc n) [] = only_meant (SpellsOut (flat_map condition_items) (all condition_fits) []) [] (tt, refl)
conditions_only (suc n) (k ∷ ws) =
    let P = SpellsOut (flat_map condition_items) (all condition_fits) (k ∷ ws) in
    word_only P (codes "at") k _ _
    (λ same. more_only P _ (conditions n (rest (rest ws)))
    (two_only (upto_reads 3) (upto_reads 16) condition.At (λ c. Only (λ cs. P (c ∷ cs)) (conditions n (rest (rest ws)))) ws
    (λ t m fit fit' leads cs h. let is = conditions_only n (rest (rest ws)) cs h in ((same, leads _ is.0), and_from _ _ (and_from _ _ fit fit') is.1))))
    (word_only P (codes "reg") k _ _
    (λ same. more_only P _ (conditions n (rest (rest (rest ws))))
    (three_only (upto_reads 3) register_reads (upto_reads 15) condition.Holds (λ c. Only (λ cs. P (c ∷ cs)) (conditions n (rest (rest (rest ws))))) ws
    (λ t r d fit _ fit' leads cs h. let is = conditions_only n (rest (rest (rest ws))) cs h in ((same, leads _ is.0), and_from _ _ (and_from _ _ fit fit') is.1))))
    (word_only P (codes "mem") k _ _
    (λ same. more_only P _ (conditions n (rest (rest ws)))
    (two_only variable_reads (upto_reads 15) condition.Memory (λ c. Only (λ cs. P (c ∷ cs)) (conditions n (rest (rest ws)))) ws
    (λ v d _ fit leads cs h. let is = conditions_only n (rest (rest ws)) cs h in ((same, leads _ is.0), and_from _ _ fit is.1))))
    (only_formless P)))

more_every : (c : Condition ℕ) (cs : List (Condition ℕ)) (s : Says (Condition ℕ)) (t : Says (List (Condition ℕ))) → s ≡ means c → t ≡ means cs → more s t ≡ means (c ∷ cs)
more_every c cs s t h k = rw (h, k) refl

-- the number of conditions that may follow is at least the number of words
pub named_first : (Q : ℕ → List (List ℕ) → Type 0) (v : List ℕ) (is : List Item) (n : ℕ) (ws : List (List ℕ)) → length ws ≤ n → Pairwise Spelled (name v ∷ is) ws
    → ((m : ℕ) (us : List (List ℕ)) → length us ≤ m → Pairwise Spelled is us → Q (suc m) (v ∷ us)) → Q n ws
named_first Q v is n [] l h k = absurd h
named_first Q v is zero (w ∷ ws) l h k = absurd (omega arith)
named_first Q v is (suc n) (w ∷ ws) l h k = subst (λ u. Q (suc n) (u ∷ ws)) (sym h.0) (k n ws (omega arith) h.1)

conditions_every : (cs : List (Condition ℕ)) (n : ℕ) (ws : List (List ℕ)) → length ws ≤ n → all condition_fits cs ≡ true → Pairwise Spelled (flat_map condition_items cs) ws → conditions n ws ≡ means cs
unfolding conditions
conditions_every [] zero [] l fit h = refl
conditions_every [] (suc n) [] l fit h = refl
conditions_every [] n (w ∷ ws) l fit h = absurd h
conditions_every (condition.At t m ∷ cs) n ws l fit h =
    let fits = and_parts (leb t 3 && leb m 16) (all condition_fits cs) fit in
    let numbers = and_parts (leb t 3) (leb m 16) fits.0 in
    named_first (λ n ws. conditions n ws ≡ means (condition.At t m ∷ cs)) (codes "at") (number t ∷ number m ∷ flat_map condition_items cs) n ws l h (λ n us l h.
    let first = two_every (upto_reads 3) (upto_reads 16) condition.At t m (flat_map condition_items cs) us numbers.0 numbers.1 h in
    more_every _ cs _ _ first.0 (conditions_every cs n (rest (rest us)) (omega (arith, rest_shorter us, rest_shorter (rest us))) fits.1 first.1))
conditions_every (condition.Holds t r d ∷ cs) n ws l fit h =
    let fits = and_parts (leb t 3 && leb d 15) (all condition_fits cs) fit in
    let numbers = and_parts (leb t 3) (leb d 15) fits.0 in
    named_first (λ n ws. conditions n ws ≡ means (condition.Holds t r d ∷ cs)) (codes "reg") (number t ∷ name (register_word r) ∷ number d ∷ flat_map condition_items cs) n ws l h (λ n us l h.
    let first = three_every (upto_reads 3) register_reads (upto_reads 15) condition.Holds t r d (flat_map condition_items cs) us numbers.0 refl numbers.1 h in
    more_every _ cs _ _ first.0 (conditions_every cs n (rest (rest (rest us))) (omega (arith, rest_shorter us, rest_shorter (rest us), rest_shorter (rest (rest us)))) fits.1 first.1))
conditions_every (condition.Memory v d ∷ cs) n ws l fit h =
    let fits = and_parts (leb d 15) (all condition_fits cs) fit in
    named_first (λ n ws. conditions n ws ≡ means (condition.Memory v d ∷ cs)) (codes "mem") (name (variable_word v) ∷ number d ∷ flat_map condition_items cs) n ws l h (λ n us l h.
    let first = two_every variable_reads (upto_reads 15) condition.Memory v d (flat_map condition_items cs) us refl fits.0 h in
    more_every _ cs _ _ first.0 (conditions_every cs n (rest (rest us)) (omega (arith, rest_shorter us, rest_shorter (rest us))) fits.1 first.1))

fault_only : (ws : List (List ℕ)) → Only (SpellsOut (flat_map condition_items) (λ cs. line_ranges (fault_line cs)) ws) (fault ws)
fault_only [] cs h = only_formless (SpellsOut (flat_map condition_items) (λ cs. line_ranges (fault_line cs)) []) cs h
fault_only (w ∷ ws) cs h = let is = conditions_only (length (w ∷ ws)) (w ∷ ws) cs h in (is.0, and_from _ _ (some cs is.0) is.1)
  where
    some : (cs : List (Condition ℕ)) → Pairwise Spelled (flat_map condition_items cs) (w ∷ ws) → leb 1 (length cs) ≡ true
    some [] h = absurd h
    some (c ∷ cs) h = le-leb 1 (length (c ∷ cs)) (omega arith)

fault_every : (cs : List (Condition ℕ)) (ws : List (List ℕ)) → line_ranges (fault_line cs) ≡ true → Pairwise Spelled (flat_map condition_items cs) ws → fault ws ≡ means cs
unfolding conditions
fault_every cs ws fit h =
    let fits = and_parts (leb 1 (length cs)) (all condition_fits cs) fit in
    some cs ws fits.0 (conditions_every cs (length ws) ws (omega arith) fits.1 h)
  where
    some : (cs : List (Condition ℕ)) (ws : List (List ℕ)) → leb 1 (length cs) ≡ true → conditions (length ws) ws ≡ means cs → fault ws ≡ means cs
    some [] [] long read = cc
    some (c ∷ cs) [] long read = cc
    some cs (w ∷ ws) long read = read

form_only : (w : List ℕ) (ws : List (List ℕ)) → Only (SpellsOut line_items line_ranges (w ∷ ws)) (form w ws)
unfolding form
form_only w ws =
    let P = SpellsOut line_items line_ranges (w ∷ ws) in
    whole_only P (codes "bound") w _ _ _ (λ same end. one_only (number_reads 1 4) bound_line P ws (λ k fit leads. ((same, leads [] end), fit)))
    (whole_only P (codes "thread") w _ _ _ (λ same end. only_meant P thread_line ((same, end), refl))
    (word_only P (codes "fault") w _ _ (λ same. only_map P fault_line (fault ws) (λ cs h. let is = fault_only ws cs h in ((same, is.0), is.1)))
    (only_map P instruction_line (instruction w ws) (instruction_only w ws))))

pub form_spelled : (w : List ℕ) (ws : List (List ℕ)) (l : Line) → form w ws ≡ means l → Pairwise Spelled (line_items l) (w ∷ ws) × (line_ranges l ≡ true)
form_spelled w ws l h = form_only w ws l h

-- the first word of an instruction is none at which there is no instruction
other_word : (v w : List ℕ) (ws : List (List ℕ)) (i : Instruction ℕ) → instruction v ws ≡ no_form → instruction w ws ≡ means i → same_word v w ≡ false
other_word v w ws i none read = ⊎_elim (λ same. let e = same_word_eq v w same in cc) (λ other. other) (cases_Bool (same_word v w))

pub spelled_form : (l : Line) (w : List ℕ) (ws : List (List ℕ)) → line_ranges l ≡ true → Pairwise Spelled (line_items l) (w ∷ ws) → form w ws ≡ means l
unfolding form instruction
spelled_form (bound_line k) w ws fit h = rw h.0 (ended_every _ _ _ (one_every (number_reads 1 4) bound_line k [] ws fit h.1))
spelled_form thread_line w ws fit h = rw h.0 (ended_every _ _ _ (refl, h.1))
spelled_form (instruction_line i) w ws fit h =
    let read = instruction_every i w ws fit h in
    rw (other_word (codes "bound") w ws i refl read, other_word (codes "thread") w ws i refl read, other_word (codes "fault") w ws i refl read) (ap (apply (means instruction_line)) read)
spelled_form (fault_line cs) w ws fit h = rw h.0 (ap (apply (means fault_line)) (fault_every cs ws fit h.1))
