-- A plain text of a program: single spaces between words, a line end after each row, and no leading zero. It spells the program and is short. Assumes nothing.
use Rattle.std.proofs.Common.{◌≡◌, ℕ, ◌+◌, ◌*◌, ◌/◌, ◌%◌, ◌<◌, ◌≤◌, true, cond, ltb, leb, List, [], ◌∷◌, ◌++◌, map, length, refl, subst, zero-le, arith, lit≤, inl, inr}
use Rattle.std.specs.List.{flat_map, AllByRecursion as All}
use Rattle.listing.proofs.Recursive as elements
use Rattle.std.proofs.lemmas.List.{length-append}
use Rattle.std.proofs.lemmas.Bool.{and_parts, and_from, or_cases, or_right, cond_both, leb-true, lt-ltb, ltb-true}
use Rattle.listing.specs.declared.code.Condition.{Condition}
use Rattle.listing.specs.declared.code.Condition.TheVariants as condition
use Rattle.listing.specs.declared.code.Instruction.{Instruction}
use Rattle.listing.specs.declared.code.Instruction.TheVariants as instruction
use Rattle.listing.specs.declared.code.Operand.{Operand}
use Rattle.listing.specs.declared.code.Operand.TheVariants as operand
use Rattle.listing.specs.declared.code.Register.{Register}
use Rattle.listing.specs.declared.code.Register.TheVariants as register
use Rattle.listing.specs.declared.code.Variable.{Variable}
use Rattle.listing.specs.declared.code.Variable.TheVariants as variable
use Rattle.listing.specs.Code.{Code}
use Rattle.listing.specs.Laws.{are_bytes}
use Rattle.listing.specs.Limits.{all, together, thread_keeps, fault_keeps}
use Rattle.listing.specs.Names.{variable_word, register_word}
use Rattle.listing.specs.Spelling.{Item, name, number, Writes, one_digit, two_digits, Spelled, Pairwise, operand_item, instruction_items, condition_items, thread_rows, fault_row, rows, in_word, Solid, Shows, no_words, last_word, word, plain, Text, no_rows, row, keeps_limits, Spells}
use Rattle.listing.specs.Values.{operand_fits, instruction_fits, condition_fits}
use Rattle.listing.specs.Words.{is_letter, is_digit}
use Rattle.listing.proofs.Counts.{at_most}
use Rattle.listing.proofs.Grown.{together_append}
use Rattle.listing.proofs.Kept.{each, all_from_each}
use Rattle.listing.proofs.Pairs.{pairwise_map}
use Rattle.listing.proofs.Within.{thread_parts, fault_parts, within}
use Rattle.listing.proofs.WordSpells.{digit_from}

abbrev digits : ℕ → List ℕ
digits n = cond (ltb n 10) ((48 + n) ∷ []) ((48 + n / 10) ∷ (48 + n % 10) ∷ [])

abbrev item_word : Item → List ℕ
item_word (name v) = v
item_word (number n) = digits n

abbrev row_text : List Item → List ℕ
row_text [] = []
row_text (i ∷ []) = item_word i
row_text (i ∷ j ∷ is) = item_word i ++ 32 ∷ row_text (j ∷ is)

abbrev rows_text : List (List Item) → List ℕ
rows_text [] = []
rows_text (r ∷ rs) = row_text r ++ 10 ∷ rows_text rs

unfoldable pub plain_text : Code → List ℕ
plain_text c = rows_text (rows c)

-- what can be written as a short word
abbrev Sound : Item → Type 0
Sound (name v) = Solid v × (length v ≤ 6)
Sound (number n) = n < 100

-- a row that has an item
abbrev Full : List Item → Type 0
Full [] = ⊥
Full (i ∷ is) = All Sound (i ∷ is)

digits_write : (n : ℕ) → n < 100 → Writes n (digits n)
digits_write n h =
    let two = two_digits (n / 10) (n % 10) (omega arith) (omega arith) in
    let whole : n / 10 * 10 + n % 10 ≡ n = omega arith in
    cond_both (ltb n 10) _ _ (Writes n)
    (λ e. one_digit n (ltb-true n 10 e)) (λ e. subst (λ m. Writes m ((48 + n / 10) ∷ (48 + n % 10) ∷ [])) whole two)

digit_in_word : (d : ℕ) → d < 10 → in_word (48 + d) ≡ true
digit_in_word d h = or_right (is_letter (48 + d)) _ (digit_from d h)

digits_solid : (n : ℕ) → n < 100 → Solid (digits n)
digits_solid n h =
    cond_both (ltb n 10) _ _ Solid
    (λ e. and_from _ _ (digit_in_word n (ltb-true n 10 e)) refl)
    (λ e. and_from _ _ (digit_in_word (n / 10) (omega arith)) (and_from _ _ (digit_in_word (n % 10) (omega arith)) refl))

digits_short : (n : ℕ) → length (digits n) ≤ 6
digits_short n = cond_both (ltb n 10) _ _ (λ w. length w ≤ 6) (λ e. lit≤ tt) (λ e. lit≤ tt)

item_spelled : (i : Item) → Sound i → Spelled i (item_word i)
item_spelled (name v) h = refl
item_spelled (number n) h = digits_write n h

item_solid : (i : Item) → Sound i → Solid (item_word i)
item_solid (name v) h = h.0
item_solid (number n) h = digits_solid n h

item_short : (i : Item) → Sound i → length (item_word i) ≤ 6
item_short (name v) h = h.1
item_short (number n) h = digits_short n

row_shows : (is : List Item) → All Sound is → Shows (map item_word is) (row_text is)
row_shows [] h = no_words
row_shows (i ∷ []) h = last_word (item_word i) (item_solid i h.0)
row_shows (i ∷ j ∷ is) h = word (item_word i) (item_solid i h.0) (row_shows (j ∷ is) h.1)

rows_laid : (rs : List (List Item)) → All Full rs → Text (map (map item_word) rs) (rows_text rs)
rows_laid [] h = no_rows
rows_laid ([] ∷ rs) h = absurd h.0
rows_laid ((i ∷ is) ∷ rs) h = row (map item_word (i ∷ is)) (row_text (i ∷ is)) (plain (row_shows (i ∷ is) h.0)) (rows_laid rs h.1)

full_sound : (is : List Item) → Full is → All Sound is
full_sound [] h = absurd h
full_sound (i ∷ is) h = h

row_spelled : (is : List Item) → Full is → Pairwise Spelled is (map item_word is)
row_spelled is h = pairwise_map Spelled item_word is (elements.all_weaker Sound (λ i. Spelled i (item_word i)) item_spelled is (full_sound is h))

rows_spelled : (rs : List (List Item)) → All Full rs → Pairwise (Pairwise Spelled) rs (map (map item_word) rs)
rows_spelled rs h = pairwise_map (Pairwise Spelled) (map item_word) rs (elements.all_weaker Full (λ is. Pairwise Spelled is (map item_word is)) row_spelled rs h)

row_length : (i : Item) (is : List Item) → All Sound (i ∷ is) → length (row_text (i ∷ is)) < 7 * length (i ∷ is)
row_length i [] h = omega (arith, item_short i h.0)
row_length i (j ∷ is) h = simp length-append (omega (arith, item_short i h.0, row_length j is h.1))

rows_length : (rs : List (List Item)) → All Full rs → length (rows_text rs) ≤ 7 * together rs
rows_length [] h = zero-le
rows_length ([] ∷ rs) h = absurd h.0
rows_length ((i ∷ is) ∷ rs) h = simp length-append (omega (arith, row_length i is h.0, rows_length rs h.1))

letters_are_bytes : (b : ℕ) → in_word b ≡ true → b < 256
letters_are_bytes b h =
    elim (or_cases (is_letter b) (is_digit b) h) [
      | inl letter ↦ let top = leb-true b 122 (and_parts (leb 97 b) (leb b 122) letter).1 in omega (arith, top)
      | inr digit ↦ let top = leb-true b 57 (and_parts (leb 48 b) (leb b 57) digit).1 in omega (arith, top)
    ]

word_bytes : (w : List ℕ) → Solid w → All (λ b. b < 256) w
word_bytes [] h = absurd h
word_bytes (b ∷ w) h = elements.all_weaker (λ b. in_word b ≡ true) (λ b. b < 256) letters_are_bytes (b ∷ w) (each in_word (b ∷ w) h)

row_bytes : (is : List Item) → All Sound is → All (λ b. b < 256) (row_text is)
row_bytes [] h = tt
row_bytes (i ∷ []) h = word_bytes (item_word i) (item_solid i h.0)
row_bytes (i ∷ j ∷ is) h = elements.all_append (λ b. b < 256) (item_word i) (32 ∷ row_text (j ∷ is)) (word_bytes (item_word i) (item_solid i h.0)) (omega arith, row_bytes (j ∷ is) h.1)

rows_bytes : (rs : List (List Item)) → All Full rs → All (λ b. b < 256) (rows_text rs)
rows_bytes [] h = tt
rows_bytes (r ∷ rs) h = elements.all_append (λ b. b < 256) (row_text r) (10 ∷ rows_text rs) (row_bytes r (full_sound r h.0)) (omega arith, rows_bytes rs h.1)

variable_sound : (v : Variable) → Sound (name (variable_word v))
variable_sound variable.A = (refl, lit≤ tt)
variable_sound variable.B = (refl, lit≤ tt)
variable_sound variable.C = (refl, lit≤ tt)
variable_sound variable.D = (refl, lit≤ tt)
variable_sound variable.E = (refl, lit≤ tt)
variable_sound variable.F = (refl, lit≤ tt)
variable_sound variable.G = (refl, lit≤ tt)
variable_sound variable.H = (refl, lit≤ tt)

register_sound : (r : Register) → Sound (name (register_word r))
register_sound register.R0 = (refl, lit≤ tt)
register_sound register.R1 = (refl, lit≤ tt)
register_sound register.R2 = (refl, lit≤ tt)
register_sound register.R3 = (refl, lit≤ tt)

number_sound : (n high : ℕ) → leb n high ≡ true → high < 100 → Sound (number n)
number_sound n high h k = omega (arith, leb-true n high h)

operand_sound : (e : Operand ℕ) → operand_fits e ≡ true → Sound (operand_item e)
operand_sound (operand.Value n) h = number_sound n 15 h (lit≤ tt)
operand_sound (operand.Register r) h = register_sound r

instruction_full : (i : Instruction ℕ) → instruction_fits i ≡ true → Full (instruction_items i)
instruction_full (instruction.Store v e) h = ((refl, lit≤ tt), (variable_sound v, (operand_sound e h, tt)))
instruction_full (instruction.Load r v) h = ((refl, lit≤ tt), (register_sound r, (variable_sound v, tt)))
instruction_full (instruction.Set r e) h = ((refl, lit≤ tt), (register_sound r, (operand_sound e h, tt)))
instruction_full (instruction.Add r e) h = ((refl, lit≤ tt), (register_sound r, (operand_sound e h, tt)))
instruction_full (instruction.Cas r v old new) h =
    let halves = and_parts (operand_fits old) (operand_fits new) h in
    ((refl, lit≤ tt), (register_sound r, (variable_sound v, (operand_sound old halves.0, (operand_sound new halves.1, tt)))))
instruction_full instruction.Fence h = ((refl, lit≤ tt), tt)
instruction_full (instruction.Jump n) h = ((refl, lit≤ tt), (number_sound n 16 h (lit≤ tt), tt))
instruction_full (instruction.JumpIfEqual r e n) h =
    let halves = and_parts (operand_fits e) (leb n 16) h in
    ((refl, lit≤ tt), (register_sound r, (operand_sound e halves.0, (number_sound n 16 halves.1 (lit≤ tt), tt))))
instruction_full (instruction.JumpUnlessEqual r e n) h =
    let halves = and_parts (operand_fits e) (leb n 16) h in
    ((refl, lit≤ tt), (register_sound r, (operand_sound e halves.0, (number_sound n 16 halves.1 (lit≤ tt), tt))))

condition_sound : (c : Condition ℕ) → condition_fits c ≡ true → All Sound (condition_items c)
condition_sound (condition.At t n) h =
    let halves = and_parts (leb t 3) (leb n 16) h in
    ((refl, lit≤ tt), (number_sound t 3 halves.0 (lit≤ tt), (number_sound n 16 halves.1 (lit≤ tt), tt)))
condition_sound (condition.Holds t r d) h =
    let halves = and_parts (leb t 3) (leb d 15) h in
    ((refl, lit≤ tt), (number_sound t 3 halves.0 (lit≤ tt), (register_sound r, (number_sound d 15 halves.1 (lit≤ tt), tt))))
condition_sound (condition.Memory v d) h = ((refl, lit≤ tt), (variable_sound v, (number_sound d 15 h (lit≤ tt), tt)))

instructions_full : (is : List (Instruction ℕ)) → all instruction_fits is ≡ true → All Full (map instruction_items is)
instructions_full is h = elements.all_map Full instruction_items is (elements.all_weaker _ _ instruction_full is (each instruction_fits is h))

conditions_sound : (cs : List (Condition ℕ)) → all condition_fits cs ≡ true → All Sound (flat_map condition_items cs)
conditions_sound [] h = tt
conditions_sound (c ∷ cs) h =
    let halves = and_parts (condition_fits c) (all condition_fits cs) h in
    elements.all_append Sound (condition_items c) (flat_map condition_items cs) (condition_sound c halves.0) (conditions_sound cs halves.1)

threads_full : (ts : List (List (Instruction ℕ))) → all thread_keeps ts ≡ true → All Full (flat_map thread_rows ts)
threads_full [] h = tt
threads_full (t ∷ ts) h =
    let halves = and_parts (thread_keeps t) (all thread_keeps ts) h in
    (((refl, lit≤ tt), tt), elements.all_append Full (map instruction_items t) (flat_map thread_rows ts) (instructions_full t (thread_parts t halves.0).1) (threads_full ts halves.1))

condition_few : (c : Condition ℕ) → length (condition_items c) ≤ 4
condition_few (condition.At t n) = lit≤ tt
condition_few (condition.Holds t r d) = lit≤ tt
condition_few (condition.Memory v d) = lit≤ tt

condition_count : (cs : List (Condition ℕ)) → length (flat_map condition_items cs) ≤ 4 * length cs
condition_count [] = zero-le
condition_count (c ∷ cs) = simp length-append (omega (arith, condition_few c, condition_count cs))

module _ (ts : List (List (Instruction ℕ))) where
  faults_full : (fs : List (List (Condition ℕ))) → all (fault_keeps ts) fs ≡ true → All Full (map fault_row fs)
  faults_full fs h =
      elements.all_map Full fault_row fs
      (elements.all_weaker _ _ (λ cs k. ((refl, lit≤ tt), conditions_sound cs (fault_parts ts cs k).1)) fs (each (fault_keeps ts) fs h))

  -- six conditions of four items, and the first word
  fault_items : (fs : List (List (Condition ℕ))) → all (fault_keeps ts) fs ≡ true → together (map fault_row fs) ≤ 25 * length fs
  fault_items [] h = zero-le
  fault_items (cs ∷ fs) h =
      let halves = and_parts (fault_keeps ts cs) (all (fault_keeps ts) fs) h in
      omega (arith, condition_count cs, at_most 1 6 (length cs) (fault_parts ts cs halves.0).0, fault_items fs halves.1)

instruction_few : (i : Instruction ℕ) → length (instruction_items i) ≤ 5
instruction_few (instruction.Store v e) = lit≤ tt
instruction_few (instruction.Load r v) = lit≤ tt
instruction_few (instruction.Set r e) = lit≤ tt
instruction_few (instruction.Add r e) = lit≤ tt
instruction_few (instruction.Cas r v old new) = lit≤ tt
instruction_few instruction.Fence = lit≤ tt
instruction_few (instruction.Jump n) = lit≤ tt
instruction_few (instruction.JumpIfEqual r e n) = lit≤ tt
instruction_few (instruction.JumpUnlessEqual r e n) = lit≤ tt

instruction_count : (is : List (Instruction ℕ)) → together (map instruction_items is) ≤ 5 * length is
instruction_count [] = zero-le
instruction_count (i ∷ is) = omega (arith, instruction_few i, instruction_count is)

thread_items : (ts : List (List (Instruction ℕ))) → together (flat_map thread_rows ts) ≤ length ts + 5 * together ts
thread_items [] = zero-le
thread_items (t ∷ ts) = simp together_append (omega (arith, instruction_count t, thread_items ts))

-- what the limits say of the rows
record Limited (c : Code) : Type 0 where
  full : All Full (rows c)
  few : together (rows c) ≤ 366

limited : (c : Code) → keeps_limits c ≡ true → Limited c
limited c h =
    let ts = c.threads in
    let fs = c.faults in
    let w = within c h in
    let bound = at_most 1 4 c.bound w.bound in
    let few_threads = at_most 1 4 (length ts) w.threads in
    let few_faults = at_most 1 8 (length fs) w.faults in
    record {
      full = (
        ((refl, lit≤ tt), (omega arith, tt)),
        elements.all_append Full (flat_map thread_rows ts) (map fault_row fs) (threads_full ts w.keep) (faults_full ts fs w.aim),
      );
      few = simp together_append (omega (arith, thread_items ts, fault_items ts fs w.aim));
    }

pub plain_spells : (c : Code) → keeps_limits c ≡ true → Spells (plain_text c) c
unfolding plain_text
plain_spells c h =
    let full = (limited c h).full in
    record { written = map (map item_word) (rows c); laid = rows_laid (rows c) full; spelled = rows_spelled (rows c) full; limits = h }

pub plain_short : (c : Code) → keeps_limits c ≡ true → length (plain_text c) ≤ 4096
unfolding plain_text
plain_short c h = let k = limited c h in omega (arith, rows_length (rows c) k.full, k.few)

pub plain_bytes : (c : Code) → keeps_limits c ≡ true → are_bytes (plain_text c) ≡ true
unfolding plain_text
plain_bytes c h =
    let bytes = rows_bytes (rows c) (limited c h).full in
    all_from_each (λ b. ltb b 256) (plain_text c) (elements.all_weaker (λ b. b < 256) (λ b. ltb b 256 ≡ true) (λ b l. lt-ltb b 256 l) (rows_text (rows c)) bytes)
