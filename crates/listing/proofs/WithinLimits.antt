-- The tests of the limits are the relations that tell them. Assumes nothing.
use Rattle.std.proofs.Common.{◌≡◌, ℕ, ◌≤◌, ◌&&◌, Bool, true, leb, ltb, All, List, [], length, get_or, refl, ap, arith}
use Rattle.std.proofs.lemmas.Bool.{and_from, and_parts, le-leb, leb-true, lt-ltb, ltb-true}
use Rattle.std.proofs.lemmas.List.Elements.{All-from_recursion, recursion_from_All}
use Rattle.std.proofs.lemmas.Option.{get_or_from_slice_get, slice_get-get_or, slice_get_within}
use Rattle.listing.specs.declared.code.Condition.{Condition}
use Rattle.listing.specs.declared.code.Condition.TheVariants.{At, Holds, Memory}
use Rattle.listing.specs.declared.code.Instruction.{Instruction}
use Rattle.listing.specs.declared.code.Instruction.TheVariants.{Store, Load, Set, Add, Cas, Fence, Jump, JumpIfEqual, JumpUnlessEqual}
use Rattle.listing.specs.declared.code.Operand.{Operand}
use Rattle.listing.specs.declared.code.Operand.TheVariants.{Value, Register}
use Rattle.listing.specs.Code.{Code, code_of}
use Rattle.listing.specs.Limits.{all, between, condition_there, fault_keeps, jump_within, thread_keeps, together, within_limits}
use Rattle.listing.specs.Spelling.{keeps_limits}
use Rattle.listing.specs.Values.{condition_fits, instruction_fits, operand_fits}
use Rattle.listing.specs.WithinLimits.{OneTo, OperandKeeps, InstructionKeeps, ConditionKeeps, ThreadKeeps, FaultKeeps, Keeps, LimitsAre, ProgramsKeep}
use Rattle.listing.proofs.Counts.{is_between}
use Rattle.listing.proofs.Grown.{together_is}
use Rattle.listing.proofs.Kept.{all_from_each, all_join, each}
use Rattle.listing.proofs.Recursive.{all_weaker}
use Rattle.listing.proofs.Within.{fault_parts, thread_parts, within}

one_to : (most n : ℕ) → between 1 most n ≡ true → OneTo most n
one_to most n h =
    let parts = and_parts (leb 1 n) (leb n most) h in
    (leb-true 1 n parts.0, leb-true n most parts.1)

module _ {X : Type 0} (f : X → Bool) (P : X → Type 0) where
  -- a test that a list passes, and what it tells
  told_each : ((x : X) → f x ≡ true → P x) → (xs : List X) → all f xs ≡ true → All P xs
  told_each tells xs h = All-from_recursion P xs (all_weaker (λ x. f x ≡ true) P tells xs (each f xs h))

  passed_each : ((x : X) → P x → f x ≡ true) → (xs : List X) → All P xs → all f xs ≡ true
  passed_each passes xs h = all_from_each f xs (all_weaker P (λ x. f x ≡ true) passes xs (recursion_from_All P xs h))

-- two tests at once
both_pass : {X : Type 0} (f g : X → Bool) (xs : List X) → all f xs ≡ true → all g xs ≡ true → all (λ x. f x && g x) xs ≡ true
both_pass f g = all_join f g (λ x. f x && g x) (λ x. and_from (f x) (g x))

operand_told : (e : Operand ℕ) → operand_fits e ≡ true → OperandKeeps e
operand_told (Value d) h = OperandKeeps.value (leb-true d 15 h)
operand_told (Register r) h = OperandKeeps.register

operand_passes : (e : Operand ℕ) → OperandKeeps e → operand_fits e ≡ true
operand_passes e (OperandKeeps.value low) = le-leb _ 15 low
operand_passes e OperandKeeps.register = refl

module _ (many : ℕ) where
  instruction_told : (i : Instruction ℕ) → instruction_fits i ≡ true → jump_within many i ≡ true → InstructionKeeps many i
  instruction_told (Store v e) h k = InstructionKeeps.store (operand_told e h)
  instruction_told (Load r v) h k = InstructionKeeps.load
  instruction_told (Set r e) h k = InstructionKeeps.set (operand_told e h)
  instruction_told (Add r e) h k = InstructionKeeps.add (operand_told e h)
  instruction_told (Cas r v old new) h k =
      let parts = and_parts (operand_fits old) (operand_fits new) h in
      InstructionKeeps.cas (operand_told old parts.0) (operand_told new parts.1)
  instruction_told Fence h k = InstructionKeeps.fence
  instruction_told (Jump n) h k = InstructionKeeps.jump (leb-true n many k)
  instruction_told (JumpIfEqual r e n) h k =
      InstructionKeeps.jump_if_equal (operand_told e (and_parts (operand_fits e) (leb n 16) h).0) (leb-true n many k)
  instruction_told (JumpUnlessEqual r e n) h k =
      InstructionKeeps.jump_unless_equal (operand_told e (and_parts (operand_fits e) (leb n 16) h).0) (leb-true n many k)

  instruction_stays : (i : Instruction ℕ) → InstructionKeeps many i → jump_within many i ≡ true
  instruction_stays i (InstructionKeeps.store e) = refl
  instruction_stays i InstructionKeeps.load = refl
  instruction_stays i (InstructionKeeps.set e) = refl
  instruction_stays i (InstructionKeeps.add e) = refl
  instruction_stays i (InstructionKeeps.cas old new) = refl
  instruction_stays i InstructionKeeps.fence = refl
  instruction_stays i (InstructionKeeps.jump low) = le-leb _ many low
  instruction_stays i (InstructionKeeps.jump_if_equal e low) = le-leb _ many low
  instruction_stays i (InstructionKeeps.jump_unless_equal e low) = le-leb _ many low

  instruction_passes : many ≤ 16 → (i : Instruction ℕ) → InstructionKeeps many i → instruction_fits i ≡ true
  instruction_passes few i (InstructionKeeps.store e) = operand_passes _ e
  instruction_passes few i InstructionKeeps.load = refl
  instruction_passes few i (InstructionKeeps.set e) = operand_passes _ e
  instruction_passes few i (InstructionKeeps.add e) = operand_passes _ e
  instruction_passes few i (InstructionKeeps.cas old new) = and_from _ _ (operand_passes _ old) (operand_passes _ new)
  instruction_passes few i InstructionKeeps.fence = refl
  instruction_passes few i (InstructionKeeps.jump low) = le-leb _ 16 (omega arith)
  instruction_passes few i (InstructionKeeps.jump_if_equal e low) =
      and_from _ _ (operand_passes _ e) (le-leb _ 16 (omega arith))
  instruction_passes few i (InstructionKeeps.jump_unless_equal e low) =
      and_from _ _ (operand_passes _ e) (le-leb _ 16 (omega arith))

thread_told : (thread : List (Instruction ℕ)) → thread_keeps thread ≡ true → ThreadKeeps thread
thread_told thread h =
    let parts = thread_parts thread h in
    let many = length thread in
    record {
      many = one_to 16 many parts.0;
      each = told_each (λ i. instruction_fits i && jump_within many i) (InstructionKeeps many)
          (λ i k. let fine = and_parts (instruction_fits i) (jump_within many i) k in instruction_told many i fine.0 fine.1)
          thread (both_pass instruction_fits (jump_within many) thread parts.1 parts.2);
    }

thread_passes : (thread : List (Instruction ℕ)) → ThreadKeeps thread → thread_keeps thread ≡ true
thread_passes thread k =
    let many = length thread in
    and_from _ _ (is_between 1 16 many k.many.0 k.many.1)
    (and_from _ _
    (passed_each instruction_fits (InstructionKeeps many) (instruction_passes many k.many.1) thread k.each)
    (passed_each (jump_within many) (InstructionKeeps many) (instruction_stays many) thread k.each))

module _ (threads : List (List (Instruction ℕ))) where
  condition_told : (c : Condition ℕ) → condition_fits c ≡ true → condition_there threads c ≡ true → ConditionKeeps threads c
  condition_told (At t n) h k =
      let parts = and_parts (ltb t (length threads)) (leb n (length (get_or threads t []))) k in
      ConditionKeeps.at (slice_get-get_or threads t [] (ltb-true t _ parts.0)) (leb-true n _ parts.1)
  condition_told (Holds t r d) h k =
      ConditionKeeps.holds (ltb-true t _ k) (leb-true d 15 (and_parts (leb t 3) (leb d 15) h).1)
  condition_told (Memory v d) h k = ConditionKeeps.memory (leb-true d 15 h)

  condition_stays : (c : Condition ℕ) → ConditionKeeps threads c → condition_there threads c ≡ true
  condition_stays c (ConditionKeeps.at {t = t} {n = n} {thread = thread} is low) =
      let same = ap length (get_or_from_slice_get threads t thread [] is) in
      and_from _ _ (lt-ltb t (length threads) (slice_get_within threads t thread is)) (le-leb n _ (omega (arith, same, low)))
  condition_stays c (ConditionKeeps.holds there low) = lt-ltb _ (length threads) there
  condition_stays c (ConditionKeeps.memory low) = refl

  module _ (few : length threads ≤ 4) (short : All ThreadKeeps threads) where
    condition_passes : (c : Condition ℕ) → ConditionKeeps threads c → condition_fits c ≡ true
    condition_passes c (ConditionKeeps.at {t = t} {n = n} {thread = thread} is low) =
        let there = slice_get_within threads t thread is in
        let same = ap length (get_or_from_slice_get threads t thread [] is) in
        let most = (short t [] there).many.1 in
        and_from _ _ (le-leb t 3 (omega arith)) (le-leb n 16 (omega (arith, same, low, most)))
    condition_passes c (ConditionKeeps.holds there low) = and_from _ _ (le-leb _ 3 (omega arith)) (le-leb _ 15 low)
    condition_passes c (ConditionKeeps.memory low) = le-leb _ 15 low

    fault_passes : (fault : List (Condition ℕ)) → FaultKeeps threads fault → fault_keeps threads fault ≡ true
    fault_passes fault k =
        and_from _ _ (is_between 1 6 (length fault) k.many.0 k.many.1)
        (and_from _ _
        (passed_each condition_fits (ConditionKeeps threads) condition_passes fault k.each)
        (passed_each (condition_there threads) (ConditionKeeps threads) condition_stays fault k.each))

  fault_told : (fault : List (Condition ℕ)) → fault_keeps threads fault ≡ true → FaultKeeps threads fault
  fault_told fault h =
      let parts = fault_parts threads fault h in
      record {
        many = one_to 6 (length fault) parts.0;
        each = told_each (λ c. condition_fits c && condition_there threads c) (ConditionKeeps threads)
            (λ c k. let fine = and_parts (condition_fits c) (condition_there threads c) k in condition_told c fine.0 fine.1)
            fault (both_pass condition_fits (condition_there threads) fault parts.1 parts.2);
      }

limits_told : (c : Code) → keeps_limits c ≡ true → Keeps c
limits_told c h =
    let w = within c h in
    record {
      bound = one_to 4 c.bound w.bound;
      threads = one_to 4 (length c.threads) w.threads;
      each_thread = told_each thread_keeps ThreadKeeps thread_told c.threads w.keep;
      instructions = omega (arith, together_is c.threads, w.few);
      faults = one_to 8 (length c.faults) w.faults;
      each_fault = told_each (fault_keeps c.threads) (FaultKeeps c.threads) (fault_told c.threads) c.faults w.aim;
    }

limits_pass : (c : Code) → Keeps c → keeps_limits c ≡ true
unfolding within_limits
limits_pass c k =
    and_from _ _ (is_between 1 4 c.bound k.bound.0 k.bound.1)
    (and_from _ _
    (and_from _ _ (is_between 1 4 (length c.threads) k.threads.0 k.threads.1)
    (and_from _ _ (passed_each thread_keeps ThreadKeeps thread_passes c.threads k.each_thread)
    (le-leb (together c.threads) 32 (omega (arith, together_is c.threads, k.instructions)))))
    (and_from _ _ (is_between 1 8 (length c.faults) k.faults.0 k.faults.1)
    (passed_each (fault_keeps c.threads) (FaultKeeps c.threads) (fault_passes c.threads k.threads.1 k.each_thread) c.faults k.each_fault)))

pub limits_are : LimitsAre
limits_are c = (limits_told c, limits_pass c)

pub programs_keep : ProgramsKeep
programs_keep p = limits_told (code_of p) p.ok
