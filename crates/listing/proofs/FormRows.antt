-- The form that the first word of an instruction or of a condition begins. Assumes nothing.
use Rattle.std.proofs.Common.{◌≡◌, ℕ, zero, suc, ◌≤◌, true, List, [], ◌∷◌, length, codes, refl, ap, ◌∙◌, arith}
use Rattle.std.specs.List.{AllByRecursion as All}
use Rattle.listing.specs.declared.code.Condition.{Condition}
use Rattle.listing.specs.declared.code.Condition.TheVariants as condition
use Rattle.listing.specs.declared.code.Instruction.{Instruction}
use Rattle.listing.specs.declared.code.Instruction.TheVariants as instructions
use Rattle.listing.specs.Forms.{Says, no_form, means, variable, register, value, thread, target, operand, rest, ended, one, two, three, four, instruction, more, conditions, all_conditions}
use Rattle.listing.specs.Limits.{all}
use Rattle.listing.specs.Words.{is_digit}
use Rattle.listing.proofs.SaidTogether.{ended_none}
use Rattle.listing.proofs.Spelled.{Spells, spelled, unlike, first_digit}

-- what an instruction's words say if its form says it, where vs are the words after the form; and no form if that is none
module _ (m : List ℕ) (ws : List (List ℕ)) where
  module _ {vs : List (List ℕ)} {s : Says (Instruction ℕ)} where
    pub store_row : m ≡ codes "store" → vs ≡ rest (rest ws) → two instructions.Store variable operand ws ≡ s → instruction m ws ≡ ended vs s
    unfolding instruction
    store_row h e x = rw (h, e, ← x) refl

    pub load_row : m ≡ codes "load" → vs ≡ rest (rest ws) → two instructions.Load register variable ws ≡ s → instruction m ws ≡ ended vs s
    unfolding instruction
    load_row h e x = rw (h, e, ← x) refl

    pub set_row : m ≡ codes "set" → vs ≡ rest (rest ws) → two instructions.Set register operand ws ≡ s → instruction m ws ≡ ended vs s
    unfolding instruction
    set_row h e x = rw (h, e, ← x) refl

    pub add_row : m ≡ codes "add" → vs ≡ rest (rest ws) → two instructions.Add register operand ws ≡ s → instruction m ws ≡ ended vs s
    unfolding instruction
    add_row h e x = rw (h, e, ← x) refl

    pub cas_row : m ≡ codes "cas" → vs ≡ rest (rest (rest (rest ws))) → four instructions.Cas register variable operand operand ws ≡ s → instruction m ws ≡ ended vs s
    unfolding instruction
    cas_row h e x = rw (h, e, ← x) refl

    pub jump_row : m ≡ codes "jump" → vs ≡ rest ws → one instructions.Jump target ws ≡ s → instruction m ws ≡ ended vs s
    unfolding instruction
    jump_row h e x = rw (h, e, ← x) refl

    pub jeq_row : m ≡ codes "jeq" → vs ≡ rest (rest (rest ws)) → three instructions.JumpIfEqual register operand target ws ≡ s → instruction m ws ≡ ended vs s
    unfolding instruction
    jeq_row h e x = rw (h, e, ← x) refl

    pub jne_row : m ≡ codes "jne" → vs ≡ rest (rest (rest ws)) → three instructions.JumpUnlessEqual register operand target ws ≡ s → instruction m ws ≡ ended vs s
    unfolding instruction
    jne_row h e x = rw (h, e, ← x) refl

  pub no_store : m ≡ codes "store" → two instructions.Store variable operand ws ≡ no_form → instruction m ws ≡ no_form
  no_store h x = store_row h refl x ∙ ended_none _ _ refl

  pub no_load : m ≡ codes "load" → two {V = Instruction ℕ} instructions.Load register variable ws ≡ no_form → instruction m ws ≡ no_form
  no_load h x = load_row h refl x ∙ ended_none _ _ refl

  pub no_set : m ≡ codes "set" → two instructions.Set register operand ws ≡ no_form → instruction m ws ≡ no_form
  no_set h x = set_row h refl x ∙ ended_none _ _ refl

  pub no_add : m ≡ codes "add" → two instructions.Add register operand ws ≡ no_form → instruction m ws ≡ no_form
  no_add h x = add_row h refl x ∙ ended_none _ _ refl

  pub no_cas : m ≡ codes "cas" → four instructions.Cas register variable operand operand ws ≡ no_form → instruction m ws ≡ no_form
  no_cas h x = cas_row h refl x ∙ ended_none _ _ refl

  pub no_jump : m ≡ codes "jump" → one instructions.Jump target ws ≡ no_form → instruction m ws ≡ no_form
  no_jump h x = jump_row h refl x ∙ ended_none _ _ refl

  pub no_jeq : m ≡ codes "jeq" → three instructions.JumpIfEqual register operand target ws ≡ no_form → instruction m ws ≡ no_form
  no_jeq h x = jeq_row h refl x ∙ ended_none _ _ refl

  pub no_jne : m ≡ codes "jne" → three instructions.JumpUnlessEqual register operand target ws ≡ no_form → instruction m ws ≡ no_form
  no_jne h x = jne_row h refl x ∙ ended_none _ _ refl

  pub fence_row : m ≡ codes "fence" → instruction m ws ≡ ended ws (means instructions.Fence)
  unfolding instruction
  fence_row h = rw h refl

abbrev pub mnemonics : List (List ℕ)
mnemonics = codes "store" ∷ codes "load" ∷ codes "set" ∷ codes "add" ∷ codes "cas" ∷ codes "fence" ∷ codes "jump" ∷ codes "jeq" ∷ codes "jne" ∷ []

-- a word that is none of these begins no instruction
pub no_row : (m : List ℕ) (ws : List (List ℕ)) → All (λ v. Spells v m → ⊥) mnemonics → instruction m ws ≡ no_form
unfolding instruction
no_row m ws h =
    rw (
      unlike (codes "store") m h.0,
      unlike (codes "load") m h.1.0,
      unlike (codes "set") m h.1.1.0,
      unlike (codes "add") m h.1.1.1.0,
      unlike (codes "cas") m h.1.1.1.1.0,
      unlike (codes "fence") m h.1.1.1.1.1.0,
      unlike (codes "jump") m h.1.1.1.1.1.1.0,
      unlike (codes "jeq") m h.1.1.1.1.1.1.1.0,
      unlike (codes "jne") m h.1.1.1.1.1.1.1.1.0,
    )

pub rest_shorter : (ws : List (List ℕ)) → length (rest ws) ≤ length ws
rest_shorter [] = omega arith
rest_shorter (w ∷ ws) = omega arith

-- as many conditions as there are words are enough
enough : (n m : ℕ) (ws : List (List ℕ)) → length ws ≤ n → length ws ≤ m → conditions n ws ≡ conditions m ws
unfolding conditions
enough zero zero ws l k = refl
enough zero (suc m) [] l k = refl
enough zero (suc m) (w ∷ ws) l k = absurd (omega arith)
enough (suc n) zero [] l k = refl
enough (suc n) zero (w ∷ ws) l k = absurd (omega arith)
enough (suc n) (suc m) [] l k = refl
enough (suc n) (suc m) (w ∷ ws) l k =
    let once = rest_shorter ws in
    let twice = rest_shorter (rest ws) in
    let thrice = rest_shorter (rest (rest ws)) in
    rw (enough n m (rest (rest ws)) (omega arith) (omega arith), enough n m (rest (rest (rest ws))) (omega arith) (omega arith))

abbrev pub condition_words : List (List ℕ)
condition_words = codes "at" ∷ codes "reg" ∷ codes "mem" ∷ []

-- the same of the conditions ws, which the word k begins
module _ (k : List ℕ) (vs : List (List ℕ)) where
  enough_2 : conditions (length vs) (rest (rest vs)) ≡ all_conditions (rest (rest vs))
  enough_2 = enough _ _ (rest (rest vs)) (omega (arith, rest_shorter vs, rest_shorter (rest vs))) (omega arith)

  enough_3 : conditions (length vs) (rest (rest (rest vs))) ≡ all_conditions (rest (rest (rest vs)))
  enough_3 = enough _ _ (rest (rest (rest vs))) (omega (arith, rest_shorter vs, rest_shorter (rest vs), rest_shorter (rest (rest vs)))) (omega arith)

  module _ {ws us : List (List ℕ)} {s : Says (Condition ℕ)} where
    pub at_row : ws ≡ k ∷ vs → Spells (codes "at") k → us ≡ rest (rest vs) → two condition.At thread target vs ≡ s → all_conditions ws ≡ more s (all_conditions us)
    unfolding conditions
    at_row d h e x = rw (d, spelled (codes "at") k h, e, ← x) (ap (more _) enough_2)

    pub reg_row : ws ≡ k ∷ vs → Spells (codes "reg") k → us ≡ rest (rest (rest vs)) → three condition.Holds thread register value vs ≡ s → all_conditions ws ≡ more s (all_conditions us)
    unfolding conditions
    reg_row d h e x = rw (d, spelled (codes "reg") k h, e, ← x) (ap (more _) enough_3)

    pub mem_row : ws ≡ k ∷ vs → Spells (codes "mem") k → us ≡ rest (rest vs) → two condition.Memory variable value vs ≡ s → all_conditions ws ≡ more s (all_conditions us)
    unfolding conditions
    mem_row d h e x = rw (d, spelled (codes "mem") k h, e, ← x) (ap (more _) enough_2)

  module _ {ws : List (List ℕ)} (d : ws ≡ k ∷ vs) where
    pub no_at : Spells (codes "at") k → two condition.At thread target vs ≡ no_form → all_conditions ws ≡ no_form
    no_at h x = at_row d h refl x

    pub no_reg : Spells (codes "reg") k → three condition.Holds thread register value vs ≡ no_form → all_conditions ws ≡ no_form
    no_reg h x = reg_row d h refl x

    pub no_mem : Spells (codes "mem") k → two condition.Memory variable value vs ≡ no_form → all_conditions ws ≡ no_form
    no_mem h x = mem_row d h refl x

    pub no_condition : All (λ v. Spells v k → ⊥) condition_words → all_conditions ws ≡ no_form
    unfolding conditions
    no_condition h = rw (d, unlike (codes "at") k h.0, unlike (codes "reg") k h.1.0, unlike (codes "mem") k h.1.1.0)

pub digits_no_condition : (k : List ℕ) {ws vs : List (List ℕ)} → ws ≡ k ∷ vs → all is_digit k ≡ true → all_conditions ws ≡ no_form
digits_no_condition [] d h = no_condition [] _ d (omega arith)
digits_no_condition (b ∷ bs) d h = let low = first_digit b bs h in no_condition (b ∷ bs) _ d (omega arith)
