-- The values that were read from a line are those written there, and fit. Assumes nothing.
use Rattle.std.proofs.Common.{◌≡◌, ℕ, ◌+◌, ◌-◌, ◌*◌, Bool, true, false, cond, ◌&&◌, List, [], ◌∷◌, IfSome, Some, None, Ok, Err, Option, Result, MatchResult, refl, ap, ap₂, Bor}
use Rattle.std.proofs.lemmas.Option.{MatchOption-at_some}
use Rattle.std.proofs.lemmas.Bool.{and_from}
use Rattle.listing.specs.declared.code.Condition.{Condition}
use Rattle.listing.specs.declared.code.Condition.TheVariants as conditions
use Rattle.listing.specs.declared.code.Instruction.{Instruction}
use Rattle.listing.specs.declared.code.Instruction.TheVariants as instructions
use Rattle.listing.specs.declared.code.Operand.{Operand}
use Rattle.listing.specs.declared.code.Operand.TheVariants as operands
use Rattle.listing.specs.Written.{WrittenCondition, WrittenInstruction, WrittenOperand, condition_of, decimal, instruction_of, operand_of}
use Rattle.listing.specs.declared.refusal.Reason.TheVariants.{NumberOutOfRange}
use Rattle.listing.specs.declared.refusal.Refusal.{Refusal}
use Rattle.listing.specs.Lines.{Refused}
use Rattle.listing.specs.Limits.{between}
use Rattle.listing.specs.Names.{value_of}
use Rattle.listing.specs.Taking.{Valued, in_range, lift, number_read, operand_read, instruction_read, condition_read}
use Rattle.listing.specs.Words.{is_digit}
use Rattle.listing.specs.Values.{operand_fits, instruction_fits, condition_fits}
use Rattle.listing.proofs.Counts.{high_fits}

-- a number that is read is the one that the digits write, and lies in its range
value_is : (ds : List ℕ) → IfSome (value_of ds) (λ n. n ≡ decimal ds)
value_is [] = tt
value_is (d ∷ []) = by (is_digit d)
  where
    by : (t : Bool) → IfSome (cond t (Some (d - 48)) None) (λ n. n ≡ d - 48)
    by true = refl
    by false = tt
value_is (t ∷ d ∷ []) = by (is_digit t && is_digit d)
  where
    by : (b : Bool) → IfSome (cond b (Some ((t - 48) * 10 + (d - 48))) None) (λ n. n ≡ (t - 48) * 10 + (d - 48))
    by true = refl
    by false = tt
value_is (t ∷ d ∷ e ∷ ds) = tt

abbrev Ranged : ℕ → ℕ → Bor (List ℕ) → ℕ → Type 0
Ranged low high ds n = (n ≡ decimal ds.now) × (between low high n ≡ true)

in_range_is : (low high : ℕ) (P : ℕ → Type 0) (o : Option ℕ) → IfSome o P → IfSome (in_range low high o) (λ n. P n × (between low high n ≡ true))
in_range_is low high P None h = tt
in_range_is low high P (Some n) h = by (between low high n) refl
  where
    by : (t : Bool) → between low high n ≡ t → IfSome (cond t (Some n) None) (λ m. P m × (between low high m ≡ true))
    by true e = (h, e)
    by false e = tt

pub number_is : (low high : ℕ) (ds : Bor (List ℕ)) → IfSome (number_read low high ds) (Ranged low high ds)
number_is low high ds = in_range_is low high (λ n. n ≡ decimal ds.now) (value_of ds.now) (value_is ds.now)

-- what is read of one part, and of two
lift_one : {X Y : Type 0} (P : X → Type 0) (Q : Y → Type 0) (make : X → Y) (o : Option X) → ((x : X) → P x → Q (make x)) → IfSome o P → IfSome (lift (Some make) o) Q
lift_one P Q make None keeps h = tt
lift_one P Q make (Some x) keeps h = keeps x h

lift_two : {W X Y : Type 0} (N : W → Type 0) (P : X → Type 0) (Q : Y → Type 0) (make : W → X → Y) (n : Option W) (o : Option X)
    → ((w : W) (x : X) → N w → P x → Q (make w x)) → IfSome n N → IfSome o P → IfSome (lift (lift (Some make) n) o) Q
lift_two N P Q make None o keeps k h = tt
lift_two N P Q make (Some w) None keeps k h = tt
lift_two N P Q make (Some w) (Some x) keeps k h = keeps w x k h

abbrev IsOperand : WrittenOperand → Operand ℕ → Type 0
IsOperand w e = (e ≡ operand_of w) × (operand_fits e ≡ true)

operand_is : (w : WrittenOperand) → IfSome (operand_read w) (IsOperand w)
operand_is (operands.Value ds) =
    lift_one (Ranged 0 15 ds) (IsOperand (operands.Value ds)) _ (number_read 0 15 ds) (λ n h. (ap operands.Value h.0, high_fits 0 15 n h.1)) (number_is 0 15 ds)
operand_is (operands.Register r) = (refl, refl)

abbrev IsInstruction : WrittenInstruction → Instruction ℕ → Type 0
IsInstruction w i = (i ≡ instruction_of w) × (instruction_fits i ≡ true)

pub instruction_is : (w : WrittenInstruction) → IfSome (instruction_read w) (IsInstruction w)
instruction_is (instructions.Store v e) = lift_one (IsOperand e) (IsInstruction (instructions.Store v e)) _ (operand_read e) (λ x h. (ap (instructions.Store v) h.0, h.1)) (operand_is e)
instruction_is (instructions.Load r v) = (refl, refl)
instruction_is (instructions.Set r e) = lift_one (IsOperand e) (IsInstruction (instructions.Set r e)) _ (operand_read e) (λ x h. (ap (instructions.Set r) h.0, h.1)) (operand_is e)
instruction_is (instructions.Add r e) = lift_one (IsOperand e) (IsInstruction (instructions.Add r e)) _ (operand_read e) (λ x h. (ap (instructions.Add r) h.0, h.1)) (operand_is e)
instruction_is (instructions.Cas r v old new) =
    lift_two (IsOperand old) (IsOperand new) (IsInstruction (instructions.Cas r v old new)) _ (operand_read old) (operand_read new)
    (λ x y k h. (ap₂ (instructions.Cas r v) k.0 h.0, and_from _ _ k.1 h.1)) (operand_is old) (operand_is new)
instruction_is instructions.Fence = (refl, refl)
instruction_is (instructions.Jump n) =
    lift_one (Ranged 0 16 n) (IsInstruction (instructions.Jump n)) _ (number_read 0 16 n) (λ m h. (ap instructions.Jump h.0, high_fits 0 16 m h.1)) (number_is 0 16 n)
instruction_is (instructions.JumpIfEqual r e n) =
    lift_two (IsOperand e) (Ranged 0 16 n) (IsInstruction (instructions.JumpIfEqual r e n)) _ (operand_read e) (number_read 0 16 n)
    (λ x m k h. (ap₂ (instructions.JumpIfEqual r) k.0 h.0, and_from _ _ k.1 (high_fits 0 16 m h.1))) (operand_is e) (number_is 0 16 n)
instruction_is (instructions.JumpUnlessEqual r e n) =
    lift_two (IsOperand e) (Ranged 0 16 n) (IsInstruction (instructions.JumpUnlessEqual r e n)) _ (operand_read e) (number_read 0 16 n)
    (λ x m k h. (ap₂ (instructions.JumpUnlessEqual r) k.0 h.0, and_from _ _ k.1 (high_fits 0 16 m h.1))) (operand_is e) (number_is 0 16 n)

abbrev IsCondition : WrittenCondition → Condition ℕ → Type 0
IsCondition w c = (c ≡ condition_of w) × (condition_fits c ≡ true)

pub condition_is : (w : WrittenCondition) → IfSome (condition_read w) (IsCondition w)
condition_is (conditions.At t n) =
    lift_two (Ranged 0 3 t) (Ranged 0 16 n) (IsCondition (conditions.At t n)) _ (number_read 0 3 t) (number_read 0 16 n)
    (λ x y k h. (ap₂ conditions.At k.0 h.0, and_from _ _ (high_fits 0 3 x k.1) (high_fits 0 16 y h.1))) (number_is 0 3 t) (number_is 0 16 n)
condition_is (conditions.Holds t r d) =
    lift_two (Ranged 0 3 t) (Ranged 0 15 d) (IsCondition (conditions.Holds t r d)) _ (number_read 0 3 t) (number_read 0 15 d)
    (λ x y k h. (ap₂ (λ m n. conditions.Holds m r n) k.0 h.0, and_from _ _ (high_fits 0 3 x k.1) (high_fits 0 15 y h.1))) (number_is 0 3 t) (number_is 0 15 d)
condition_is (conditions.Memory v d) =
    lift_one (Ranged 0 15 d) (IsCondition (conditions.Memory v d)) _ (number_read 0 15 d) (λ n h. (ap (conditions.Memory v) h.0, high_fits 0 15 n h.1)) (number_is 0 15 d)

-- what is read, where something is
module _ {X : Type 0} where
  pub told_of : (P : X → Type 0) (o : Option X) (x : X) → o ≡ Some x → IfSome o P → P x
  told_of P o x e h = MatchOption-at_some (Unit {0}) P x e h

pub condition_read_fits : (w : WrittenCondition) (c : Condition ℕ) → condition_read w ≡ Some c → condition_fits c ≡ true
condition_read_fits w c e = (told_of (IsCondition w) (condition_read w) c e (condition_is w)).1

pub instruction_valued : (w : WrittenInstruction) (n : ℕ) (r : Result (Instruction ℕ) Refusal) → Valued (instruction_read w) n r → MatchResult r (IsInstruction w) (Refused NumberOutOfRange n)
instruction_valued w n (Ok i) v = told_of (IsInstruction w) (instruction_read w) i v (instruction_is w)
instruction_valued w n (Err e) v = rw v.1 (refl, refl)
