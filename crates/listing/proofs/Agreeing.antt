-- Words that spell a line say that line, or a number among them is out of its range. Assumes nothing.
--   Agrees s x           s means x, or is out of range
--   ReadsOr p item       a word that spells the item of x is read as x, or is out of range
--   Goes s v more us     s agrees with v, and the words us, which are left, spell the items more
use Rattle.std.proofs.Common.{◌≡◌, ◌≢◌, ℕ, zero, suc, ◌≤◌, true, List, [], ◌∷◌, length, codes, sym, refl, ap, ◌∙◌, subst, ⊎_elim, arith}
use Rattle.std.specs.List.{flat_map}
use Rattle.std.proofs.lemmas.Bool.{cases_Bool}
use Rattle.listing.specs.declared.code.Condition.{Condition}
use Rattle.listing.specs.declared.code.Condition.TheVariants as condition
use Rattle.listing.specs.declared.code.Instruction.{Instruction}
use Rattle.listing.specs.declared.code.Instruction.TheVariants as instructions
use Rattle.listing.specs.declared.code.Operand.{Operand}
use Rattle.listing.specs.declared.code.Operand.TheVariants as operands
use Rattle.listing.specs.Forms.{Says, no_form, out_of_range, means, apply, first, rest, ended, one, two, three, four, instruction, more, conditions, fault, Line, bound_line, thread_line, instruction_line, fault_line, form, ranged}
use Rattle.listing.specs.Forms as forms
use Rattle.listing.specs.LineForms.{line_items}
use Rattle.listing.specs.Limits.{between}
use Rattle.listing.specs.Names.{variable_word, register_word}
use Rattle.listing.specs.Spelling.{Item, name, number, Writes, Spelled, Pairwise, operand_item, instruction_items, condition_items}
use Rattle.listing.proofs.FormRows.{rest_shorter}
use Rattle.listing.proofs.FormSpells.{named_first}
use Rattle.listing.proofs.WordSpells.{Reads, variable_reads, register_reads, operand_reads, written_value}

pub data Agrees {X : Type 0} : Says X → X → Type 0 where
  same : {x : X} → Agrees (means x) x
  outside : {x : X} → Agrees out_of_range x

agrees_apply : {X Y : Type 0} {f : Says (X → Y)} {g : X → Y} {s : Says X} {x : X} → Agrees f g → Agrees s x → Agrees (apply f s) (g x)
agrees_apply same same = same
agrees_apply same outside = outside
agrees_apply outside same = outside
agrees_apply outside outside = outside

agrees_map : {X Y : Type 0} (f : X → Y) {s : Says X} {x : X} → Agrees s x → Agrees (apply (means f) s) (f x)
agrees_map f same = same
agrees_map f outside = outside

agrees_is : {X : Type 0} (s : Says X) (x : X) → s ≡ means x → Agrees s x
agrees_is s x e = subst (λ t. Agrees t x) (sym e) same

record ReadsOr {X : Type 0} (p : List ℕ → Says X) (item : X → Item) : Type 0 where
  reads : (w : List ℕ) (x : X) → Spelled (item x) w → Agrees (p w) x

number_agrees : (low high n : ℕ) (w : List ℕ) → Writes n w → Agrees (forms.number low high w) n
unfolding forms.number
number_agrees low high n w h =
    let is = written_value h in
    rw (is.0, is.1) (⊎_elim (λ fits. rw fits same) (λ not. rw not outside) (cases_Bool (between low high n)))

number_or : (low high : ℕ) → ReadsOr (forms.number low high) number
number_or low high = record { reads = λ w n h. number_agrees low high n w h }

-- where no word is out of range
reads_or : {X : Type 0} {p : List ℕ → Says X} {item : X → Item} → Reads p item (λ x. true) → ReadsOr p item
reads_or {p = p} r = record { reads = λ w x h. agrees_is (p w) x (r.every w x refl h) }

variable_or : ReadsOr forms.variable (λ v. name (variable_word v))
variable_or = reads_or variable_reads

register_or : ReadsOr forms.register (λ r. name (register_word r))
register_or = reads_or register_reads

operand_agrees : (w : List ℕ) (e : Operand ℕ) → Spelled (operand_item e) w → Agrees (forms.operand w) e
unfolding forms.operand
operand_agrees w (operands.Value n) h = rw ((written_value h).0) (agrees_map operands.Value (number_agrees 0 15 n w h))
operand_agrees w (operands.Register r) h = agrees_is (forms.operand w) (operands.Register r) (operand_reads.every w (operands.Register r) refl h)

operand_or : ReadsOr forms.operand operand_item
operand_or = record { reads = operand_agrees }

abbrev Goes : {V : Type 0} → Says V → V → List Item → List (List ℕ) → Type 0
Goes s v more us = Agrees s v × Pairwise Spelled more us

-- one word more
module _ {X V : Type 0} {p : List ℕ → Says X} {item : X → Item} (r : ReadsOr p item) where
  next_goes : (s : Says (X → V)) (g : X → V) (x : X) (later : List Item) (ws : List (List ℕ)) → Goes s g (item x ∷ later) ws → Goes (apply s (first p ws)) (g x) later (rest ws)
  next_goes s g x later [] h = absurd h.1
  next_goes s g x later (w ∷ ws) h = (agrees_apply h.0 (r.reads w x h.1.0), h.1.1)

module _ {W : Type 0} {p : List ℕ → Says W} {a : W → Item} (rp : ReadsOr p a) where
  one_goes : {V : Type 0} (f : W → V) (x : W) (later : List Item) (ws : List (List ℕ)) → Pairwise Spelled (a x ∷ later) ws → Goes (one f p ws) (f x) later (rest ws)
  one_goes f x later ws h = next_goes rp (means f) f x later ws (same, h)

  module _ {X : Type 0} {q : List ℕ → Says X} {b : X → Item} (rq : ReadsOr q b) where
    two_goes : {V : Type 0} (f : W → X → V) (x : W) (y : X) (later : List Item) (ws : List (List ℕ)) → Pairwise Spelled (a x ∷ b y ∷ later) ws → Goes (two f p q ws) (f x y) later (rest (rest ws))
    two_goes f x y later ws h = next_goes rq (one f p ws) (f x) y later (rest ws) (one_goes f x (b y ∷ later) ws h)

    module _ {Y : Type 0} {r : List ℕ → Says Y} {c : Y → Item} (rr : ReadsOr r c) where
      three_goes : {V : Type 0} (f : W → X → Y → V) (x : W) (y : X) (z : Y) (later : List Item) (ws : List (List ℕ)) → Pairwise Spelled (a x ∷ b y ∷ c z ∷ later) ws
          → Goes (three f p q r ws) (f x y z) later (rest (rest (rest ws)))
      three_goes f x y z later ws h = next_goes rr (two f p q ws) (f x y) z later (rest (rest ws)) (two_goes f x y (c z ∷ later) ws h)

whole_goes : {V : Type 0} (v : V) (us : List (List ℕ)) (s : Says V) → Goes s v [] us → Agrees (ended us s) v
whole_goes v [] s h = h.0
whole_goes v (u ∷ us) s h = absurd h.1

instruction_goes : (i : Instruction ℕ) (w : List ℕ) (ws : List (List ℕ)) → Pairwise Spelled (instruction_items i) (w ∷ ws) → Agrees (form w ws) (instruction_line i)
unfolding form instruction
instruction_goes (instructions.Store v e) w ws h = rw h.0 (agrees_map instruction_line (whole_goes _ _ _ (two_goes variable_or operand_or instructions.Store v e [] ws h.1)))
instruction_goes (instructions.Load r v) w ws h = rw h.0 (agrees_map instruction_line (whole_goes _ _ _ (two_goes register_or variable_or instructions.Load r v [] ws h.1)))
instruction_goes (instructions.Set r e) w ws h = rw h.0 (agrees_map instruction_line (whole_goes _ _ _ (two_goes register_or operand_or instructions.Set r e [] ws h.1)))
instruction_goes (instructions.Add r e) w ws h = rw h.0 (agrees_map instruction_line (whole_goes _ _ _ (two_goes register_or operand_or instructions.Add r e [] ws h.1)))
instruction_goes (instructions.Cas r v old new) w ws h =
    rw h.0
    (agrees_map instruction_line
    (whole_goes _ _ _
    (next_goes operand_or _ (instructions.Cas r v old) new [] (rest (rest (rest ws)))
    (three_goes register_or variable_or operand_or instructions.Cas r v old (operand_item new ∷ []) ws h.1))))
instruction_goes instructions.Fence w ws h = rw h.0 (agrees_map instruction_line (whole_goes _ _ _ (same, h.1)))
instruction_goes (instructions.Jump n) w ws h = rw h.0 (agrees_map instruction_line (whole_goes _ _ _ (one_goes (number_or 0 16) instructions.Jump n [] ws h.1)))
instruction_goes (instructions.JumpIfEqual r e n) w ws h =
    rw h.0 (agrees_map instruction_line (whole_goes _ _ _ (three_goes register_or operand_or (number_or 0 16) instructions.JumpIfEqual r e n [] ws h.1)))
instruction_goes (instructions.JumpUnlessEqual r e n) w ws h =
    rw h.0 (agrees_map instruction_line (whole_goes _ _ _ (three_goes register_or operand_or (number_or 0 16) instructions.JumpUnlessEqual r e n [] ws h.1)))

more_goes : {c : Condition ℕ} {cs : List (Condition ℕ)} {s : Says (Condition ℕ)} {t : Says (List (Condition ℕ))} → Agrees s c → Agrees t cs → Agrees (more s t) (c ∷ cs)
more_goes h k = agrees_apply (agrees_map ◌∷◌ h) k

conditions_go : (cs : List (Condition ℕ)) (n : ℕ) (ws : List (List ℕ)) → length ws ≤ n → Pairwise Spelled (flat_map condition_items cs) ws → Agrees (conditions n ws) cs
unfolding conditions
conditions_go [] zero [] l h = same
conditions_go [] (suc n) [] l h = same
conditions_go [] n (w ∷ ws) l h = absurd h
conditions_go (condition.At t m ∷ cs) n ws l h =
    named_first (λ n ws. Agrees (conditions n ws) (condition.At t m ∷ cs)) (codes "at") (number t ∷ number m ∷ flat_map condition_items cs) n ws l h (λ n us l h.
    let first = two_goes (number_or 0 3) (number_or 0 16) condition.At t m (flat_map condition_items cs) us h in
    more_goes first.0 (conditions_go cs n (rest (rest us)) (omega (arith, rest_shorter us, rest_shorter (rest us))) first.1))
conditions_go (condition.Holds t r d ∷ cs) n ws l h =
    named_first (λ n ws. Agrees (conditions n ws) (condition.Holds t r d ∷ cs)) (codes "reg") (number t ∷ name (register_word r) ∷ number d ∷ flat_map condition_items cs) n ws l h (λ n us l h.
    let first = three_goes (number_or 0 3) register_or (number_or 0 15) condition.Holds t r d (flat_map condition_items cs) us h in
    more_goes first.0 (conditions_go cs n (rest (rest (rest us))) (omega (arith, rest_shorter us, rest_shorter (rest us), rest_shorter (rest (rest us)))) first.1))
conditions_go (condition.Memory v d ∷ cs) n ws l h =
    named_first (λ n ws. Agrees (conditions n ws) (condition.Memory v d ∷ cs)) (codes "mem") (name (variable_word v) ∷ number d ∷ flat_map condition_items cs) n ws l h (λ n us l h.
    let first = two_goes variable_or (number_or 0 15) condition.Memory v d (flat_map condition_items cs) us h in
    more_goes first.0 (conditions_go cs n (rest (rest us)) (omega (arith, rest_shorter us, rest_shorter (rest us))) first.1))

-- a fault line without words has no form
fault_goes : (cs : List (Condition ℕ)) (ws : List (List ℕ)) → (fault ws ≢ no_form) → Pairwise Spelled (flat_map condition_items cs) ws → Agrees (fault ws) cs
fault_goes cs [] some h = absurd (some refl)
fault_goes cs (w ∷ ws) some h = conditions_go cs (length (w ∷ ws)) (w ∷ ws) (omega arith) h

line_goes : (l : Line) (w : List ℕ) (ws : List (List ℕ)) → (form w ws ≢ no_form) → Pairwise Spelled (line_items l) (w ∷ ws) → Agrees (form w ws) l
unfolding form
line_goes (bound_line k) w ws some h = rw h.0 (whole_goes _ _ _ (one_goes (number_or 1 4) bound_line k [] ws h.1))
line_goes thread_line w ws some h = rw h.0 (whole_goes _ _ _ (same, h.1))
line_goes (instruction_line i) w ws some h = instruction_goes i w ws h
line_goes (fault_line cs) w ws some h =
    let is : form w ws ≡ apply (means fault_line) (fault ws) = ap (λ v. form v ws) h.0 in
    subst (λ s. Agrees s (fault_line cs)) (sym is)
    (agrees_map fault_line (fault_goes cs ws (λ none. some (is ∙ ap (apply (means fault_line)) none)) h.1))

agreed : {X : Type 0} {s : Says X} {x : X} → Agrees s x → (y : X) → s ≡ means y → s ≡ means x
agreed same y e = refl
agreed outside y e = cc

-- words that say a line say each line that they spell
pub spelled_says : (l k : Line) (w : List ℕ) (ws : List (List ℕ)) → form w ws ≡ means k → Pairwise Spelled (line_items l) (w ∷ ws) → form w ws ≡ means l
spelled_says l k w ws read h = agreed (line_goes l w ws (λ none. cc) h) k read
