-- The first line of a part that fails a test is what the search for it finds. Assumes nothing.
use Rattle.std.proofs.Common.{◌≡◌, ℕ, ◌<◌, ◌≤◌, Bool, true, false, cond, List, [], ◌∷◌, length, Some, None, Ok, ◌⊎◌, refl, ap, ◌∙◌, inl, inr, arith}
use Rattle.std.proofs.lemmas.Bool.{not_from_false}
use Rattle.std.specs.List.{AllByRecursion as All}
use Rattle.listing.specs.declared.code.Instruction.{Instruction}
use Rattle.listing.specs.Laws.{Somewhere, thread_by_thread, EmptyOn}
use Rattle.listing.specs.Limits.{all, jump_within, condition_there}
use Rattle.listing.specs.Reading.{Progress, nothing, some, read_lines, first_failing, or_else, jump_failing}
use Rattle.listing.proofs.Counts.{none_there}
use Rattle.listing.proofs.Failing.{or_else_none}
use Rattle.listing.proofs.LinesHeld.{as_long, rising_lines}
use Rattle.listing.proofs.Pairs.{AsLong}
use Rattle.listing.proofs.Rising.{Rising, rising_front, rising_back, rising_across, thread_meets, threads_rise}
use Rattle.listing.proofs.Somewhere.{meets, somewhere_weaker}
use Rattle.listing.proofs.Sound.{Sound, nothing_sound, read_lines_sound}

-- a part beside line n that fails a test
abbrev Fails : {X : Type 0} → (X → Bool) → ℕ → ℕ → X → Type 0
Fails test n m x = (m ≡ n) × (test x ≡ false)

module _ {X : Type 0} (test : X → Bool) where
  pub failing_there : (ns : List ℕ) (xs : List X) (n : ℕ) → first_failing test ns xs ≡ Some n → Somewhere (Fails test n) ns xs
  failing_there [] xs n h = cc
  failing_there (m ∷ ns) [] n h = cc
  failing_there (m ∷ ns) (x ∷ xs) n h =
      elim (test x) as (λ r. test x ≡ r → cond r (first_failing test ns xs) (Some m) ≡ Some n → Somewhere (Fails test n) (m ∷ ns) (x ∷ xs)) [
        | true ↦ λ passes k. inr (failing_there ns xs n k)
        | false ↦ λ fails k. inl (cc, fails)
      ] refl h

  none_failing : (ns : List ℕ) (xs : List X) (k : ℕ) → first_failing test ns xs ≡ None → Somewhere (Fails test k) ns xs → ⊥
  none_failing [] xs k h s = s
  none_failing (m ∷ ns) [] k h s = s
  none_failing (m ∷ ns) (x ∷ xs) k h s =
      elim (test x) as (λ r. test x ≡ r → cond r (first_failing test ns xs) (Some m) ≡ None → ⊥) [
        | true ↦ λ passes e. elim s [ inl f ↦ let no = f.1 in cc | inr later ↦ none_failing ns xs k e later ]
        | false ↦ λ fails e. cc
      ] refl h

  pub failing_first : (ns : List ℕ) (xs : List X) (n k : ℕ) → Rising ns → first_failing test ns xs ≡ Some n → Somewhere (Fails test k) ns xs → n ≤ k
  failing_first [] xs n k r h s = cc
  failing_first (m ∷ ns) [] n k r h s = cc
  failing_first (m ∷ ns) (x ∷ xs) n k r h s =
      elim (test x) as (λ b. test x ≡ b → cond b (first_failing test ns xs) (Some m) ≡ Some n → n ≤ k) [
        | true ↦ λ passes e. elim s [ inl f ↦ let no = f.1 in absurd (cc) | inr later ↦ failing_first ns xs n k r.1 e later ]
        | false ↦ λ fails e.
            let same : m ≡ n = cc in
            elim s [ inl f ↦ omega (arith, same, f.0) | inr later ↦ meets (λ a. m < a) (Fails test k) ns xs r.0 later (λ a y above f. omega (arith, same, f.0)) ]
      ] refl h

  -- the least line at which a part fails is the one that is found
  pub first_found : (ns : List ℕ) (xs : List X) (n : ℕ) → Rising ns → Somewhere (Fails test n) ns xs → ((m : ℕ) → Somewhere (Fails test m) ns xs → n ≤ m) → first_failing test ns xs ≡ Some n
  first_found ns xs n r there earliest =
      elim (first_failing test ns xs) as (λ o. first_failing test ns xs ≡ o → o ≡ Some n) [
        | None ↦ λ e. absurd (none_failing ns xs n e there)
        | Some m ↦ λ e.
            let low = earliest m (failing_there ns xs m e) in
            let high = failing_first ns xs m n r e there in
            let same : m ≡ n = omega (arith, low, high) in
            ap Some same
      ] refl

-- a thread with a jump astray on line n
abbrev pub Leads : ℕ → List ℕ → List (Instruction ℕ) → Type 0
Leads n ms is = Somewhere (Fails (jump_within (length is)) n) ms is

pub jump_there : (nss : List (List ℕ)) (ts : List (List (Instruction ℕ))) (n : ℕ) → jump_failing nss ts ≡ Some n → Somewhere (Leads n) nss ts
jump_there [] ts n h = cc
jump_there (ns ∷ nss) [] n h = cc
jump_there (ns ∷ nss) (t ∷ ts) n h =
    elim (first_failing (jump_within (length t)) ns t) as (λ o. first_failing (jump_within (length t)) ns t ≡ o → or_else o (jump_failing nss ts) ≡ Some n → Somewhere (Leads n) (ns ∷ nss) (t ∷ ts)) [
      | None ↦ λ fine k. inr (jump_there nss ts n k)
      | Some m ↦ λ bad k. inl (failing_there (jump_within (length t)) ns t n (bad ∙ k))
    ] refl h

pub no_jump_astray : (nss : List (List ℕ)) (ts : List (List (Instruction ℕ))) (k : ℕ) → jump_failing nss ts ≡ None → Somewhere (Leads k) nss ts → ⊥
no_jump_astray [] ts k h s = s
no_jump_astray (ns ∷ nss) [] k h s = s
no_jump_astray (ns ∷ nss) (t ∷ ts) k h s =
    let parts = or_else_none (first_failing (jump_within (length t)) ns t) (jump_failing nss ts) h in
    elim s [ inl here ↦ none_failing (jump_within (length t)) ns t k parts.0 here | inr later ↦ no_jump_astray nss ts k parts.1 later ]

jump_first : (ns : List ℕ) (nss : List (List ℕ)) (ts : List (List (Instruction ℕ))) (n k : ℕ) → AsLong ns nss → Rising (thread_by_thread ns nss) → jump_failing nss ts ≡ Some n → Somewhere (Leads k) nss ts → n ≤ k
jump_first ns [] ts n k l r h s = cc
jump_first [] (is ∷ nss) ts n k l r h s = absurd (omega arith)
jump_first (m ∷ ns) (is ∷ nss) [] n k l r h s = cc
jump_first (m ∷ ns) (is ∷ nss) (t ∷ ts) n k l r h s =
    let after = thread_by_thread ns nss in
    elim (first_failing (jump_within (length t)) is t) as (λ o. first_failing (jump_within (length t)) is t ≡ o → or_else o (jump_failing nss ts) ≡ Some n → n ≤ k) [
      | None ↦ λ fine e.
          elim s [ inl here ↦ absurd (none_failing (jump_within (length t)) is t k fine here) | inr later ↦ jump_first ns nss ts n k (omega arith) (rising_back is after r.1) e later ]
      | Some o ↦ λ bad e.
          elim s [
            | inl here ↦ failing_first (jump_within (length t)) is t n k (rising_front is after r.1) (bad ∙ e) here
            | inr later ↦
                meets (λ a. All (λ b. a < b) after) (Fails (jump_within (length t)) n) is t (rising_across is after r.1) (failing_there (jump_within (length t)) is t n (bad ∙ e)) (λ a i below f.
                thread_meets (λ b. a < b) (Leads k) ns nss ts (omega arith) below later (λ ms js above leads.
                meets (λ b. a < b) (Fails (jump_within (length js)) k) ms js above leads (λ b j less g. omega (arith, f.0, g.0))))
          ]
    ] refl h

-- line n has a jump, or a condition, that fails its test
abbrev pub JumpFailsOn : Progress → ℕ → Type 0
JumpFailsOn p n = Somewhere (Leads n) p.instruction_lines p.threads

abbrev pub FaultFailsOn : Progress → ℕ → Type 0
FaultFailsOn p n = Somewhere (Fails (all (condition_there p.threads)) n) p.fault_lines p.faults

abbrev pub FailsOn : Progress → ℕ → Type 0
FailsOn p n = JumpFailsOn p n ⊎ FaultFailsOn p n

-- what has been read, by its lines
module _ (ls : List (List ℕ)) (p : Progress) (read : read_lines nothing 1 ls ≡ Ok p) where
  pub sound : Sound p
  sound = read_lines_sound ls nothing p 1 nothing_sound read

  abbrev by_threads : List ℕ
  by_threads = thread_by_thread p.thread_lines p.instruction_lines

  rising_jumps : Rising (thread_by_thread p.thread_lines p.instruction_lines)
  rising_jumps = rising_front by_threads p.fault_lines (rising_lines ls p read)

  pub rising_faults : Rising p.fault_lines
  rising_faults = rising_back by_threads p.fault_lines (rising_lines ls p read)

  pub rising_threads : Rising p.thread_lines
  rising_threads = threads_rise p.thread_lines p.instruction_lines (as_long p sound) rising_jumps

  -- a jump stands before each fault line
  pub jump_before : (n k : ℕ) → JumpFailsOn p n → FaultFailsOn p k → n ≤ k
  jump_before n k jump fault =
      thread_meets (λ a. All (λ b. a < b) p.fault_lines) (Leads n) p.thread_lines p.instruction_lines p.threads (as_long p sound) (rising_across by_threads p.fault_lines (rising_lines ls p read)) jump (λ ms is below leads.
      meets (λ a. All (λ b. a < b) p.fault_lines) (Fails (jump_within (length is)) n) ms is below leads (λ a i less f.
      meets (λ b. a < b) (Fails (all (condition_there p.threads)) k) p.fault_lines p.faults less fault (λ b cs above g. omega (arith, f.0, g.0))))

  pub jumps_first : (n k : ℕ) → jump_failing p.instruction_lines p.threads ≡ Some n → JumpFailsOn p k → n ≤ k
  jumps_first n k e jump = jump_first p.thread_lines p.instruction_lines p.threads n k (as_long p sound) rising_jumps e jump

-- a thread without instructions is one that fails the test that it has some
module _ (p : Progress) (n : ℕ) where
  pub empty_from : Somewhere (Fails some n) p.thread_lines p.threads → EmptyOn p n
  empty_from = somewhere_weaker (Fails some n) (λ m is. (m ≡ n) × (is ≡ [])) (λ m is f. (f.0, none_there is (not_from_false (some is) f.1))) p.thread_lines p.threads

  pub empty_to : EmptyOn p n → Somewhere (Fails some n) p.thread_lines p.threads
  empty_to = somewhere_weaker (λ m is. (m ≡ n) × (is ≡ [])) (Fails some n) (λ m is f. (f.0, ap some f.1)) p.thread_lines p.threads
