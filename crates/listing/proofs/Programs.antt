-- What a program holds keeps the limits of a listing, and is all of it: programs that hold the same are equal. Assumes nothing.
use Rattle.std.proofs.Common.{◌≡◌, ℕ, zero, suc, ◌+◌, ◌<◌, ◌≤◌, true, ltb, List, [], ◌∷◌, length, get_or, take, refl, ap, zero-le, arith}
use mathlib.Core.Bool.{So-prop}
use mathlib.Core.HLevel.{is_prop→PathP}
use Rattle.std.proofs.lemmas.Bool.{and_parts, and_from, le-leb, lt-ltb, ltb-true}
use Rattle.listing.specs.declared.code.Condition.{Condition}
use Rattle.listing.specs.declared.code.Condition.TheVariants as condition
use Rattle.listing.specs.declared.code.Instruction.{Instruction}
use Rattle.listing.specs.declared.program.Program.{Program}
use Rattle.listing.specs.Code.{Code, code_of, condition_sound, length_of, line_sound, lines_of, place_of}
use Rattle.listing.specs.Limits.{all, condition_there, fault_keeps, thread_keeps, together, within_limits}
use Rattle.listing.proofs.Counts.{at_most}
use Rattle.listing.proofs.Kept.{all_weaker}
use Rattle.listing.proofs.Within.{Within, within, fault_parts, thread_parts}

pub kept : (p : Program) → Within (code_of p)
kept p = within (code_of p) p.ok

pub few_threads : (p : Program) → length p.threads ≤ 4
few_threads p = at_most 1 4 (length p.threads) (kept p).threads

-- some of the lists, and one more
pub together_next : {X : Type 0} (ls : List (List X)) (i : ℕ) → together (take i ls) + length (get_or ls i []) ≤ together ls
together_next [] zero = zero-le
together_next [] (suc i) = zero-le
together_next (l ∷ ls) zero = omega arith
together_next (l ∷ ls) (suc i) = omega (arith, together_next ls i)

pub together_part : {X : Type 0} (ls : List (List X)) (i : ℕ) → together (take i ls) ≤ together ls
together_part ls i = omega (arith, together_next ls i)

pub length_fits : (p : Program) (t : ℕ) → length_of p t ≤ 16
length_fits p t = fits p.threads t (kept p).keep
  where
    fits : (ts : List (List (Instruction ℕ))) (t : ℕ) → all thread_keeps ts ≡ true → length (get_or ts t []) ≤ 16
    fits [] zero h = zero-le
    fits [] (suc t) h = zero-le
    fits (is ∷ ts) zero h = at_most 1 16 (length is) (thread_parts is (and_parts (thread_keeps is) (all thread_keeps ts) h).0).0
    fits (is ∷ ts) (suc t) h = fits ts t (and_parts (thread_keeps is) (all thread_keeps ts) h).1

-- a thread that has an instruction is one of the program's
pub thread_is : {X : Type 0} (ls : List (List X)) (t at : ℕ) → at < length (get_or ls t []) → t < length ls
thread_is [] zero at h = absurd (omega arith)
thread_is [] (suc t) at h = absurd (omega arith)
thread_is (l ∷ ls) zero at h = omega arith
thread_is (l ∷ ls) (suc t) at h = omega (arith, thread_is ls t at h)

pub place_fits : (p : Program) (t at : ℕ) → at < length_of p t → place_of p t at < 32
place_fits p t at h = omega (arith, together_next p.threads t, (kept p).few)

condition_in : (ts : List (List (Instruction ℕ))) (c : Condition ℕ) → length ts ≤ 4 → condition_there ts c ≡ true → condition_sound c ≡ true
condition_in ts (condition.At t n) few h = let lt : t < length ts = ltb-true _ _ (and_parts (ltb t (length ts)) _ h).0 in lt-ltb t 4 (omega arith)
condition_in ts (condition.Holds t r d) few h = let lt : t < length ts = ltb-true _ _ h in lt-ltb t 4 (omega arith)
condition_in ts (condition.Memory v d) few h = refl

line_in : (ts : List (List (Instruction ℕ))) (l : List (Condition ℕ)) → length ts ≤ 4 → fault_keeps ts l ≡ true → line_sound l ≡ true
unfolding line_sound
line_in ts l few h =
    let parts = fault_parts ts l h in
    and_from _ _ (le-leb _ _ (at_most 1 6 (length l) parts.0)) (all_weaker (condition_there ts) condition_sound (λ c. condition_in ts c few) l parts.2)

pub lines_sound : (p : Program) → all line_sound (lines_of p) ≡ true
lines_sound p = all_weaker (fault_keeps p.threads) line_sound (λ l. line_in p.threads l (few_threads p)) p.faults (kept p).aim

sound_conditions : (l : List (Condition ℕ)) → line_sound l ≡ true → all condition_sound l ≡ true
unfolding line_sound
sound_conditions l h = (and_parts _ (all condition_sound l) h).1

pub conditions_sound : (p : Program) → all (all condition_sound) (lines_of p) ≡ true
conditions_sound p = all_weaker line_sound (all condition_sound) sound_conditions p.faults (lines_sound p)

pub same_program : (p q : Program) → code_of p ≡ code_of q → p ≡ q
same_program p q e =
    let bounds : p.bound ≡ q.bound = ap (λ (c : Code). c.bound) e in
    let threads = ap (λ (c : Code). c.threads) e in
    let faults = ap (λ (c : Code). c.faults) e in
    let ok_same =
    is_prop→PathP (λ i. within_limits (bounds i) (threads i) (faults i) ≡ true) (λ i. So-prop (within_limits (bounds i) (threads i) (faults i))) p.ok q.ok in
    λ i. record { bound = bounds i; threads = threads i; faults = faults i; ok = ok_same i }
