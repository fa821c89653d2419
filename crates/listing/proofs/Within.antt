-- The limits of a listing, part by part. Assumes nothing.
use Rattle.std.proofs.Common.{ℕ, ◌≡◌, ◌≤◌, Bool, true, ◌&&◌, leb, List, length}
use Rattle.std.proofs.lemmas.Bool.{and_parts, leb-true}
use Rattle.listing.specs.declared.code.Condition.{Condition}
use Rattle.listing.specs.declared.code.Instruction.{Instruction}
use Rattle.listing.specs.Code.{Code}
use Rattle.listing.proofs.Failing.{jumps_there}
use Rattle.listing.specs.Limits.{all, between, together, condition_there, thread_keeps, fault_keeps, within_limits}
use Rattle.listing.specs.Spelling.{keeps_limits}
use Rattle.listing.specs.Values.{instruction_fits, condition_fits}

three_parts : (x y z : Bool) → (x && (y && z)) ≡ true → (x ≡ true) × (y ≡ true) × (z ≡ true)
three_parts x y z h =
    let a = and_parts x (y && z) h in
    let b = and_parts y z a.1 in
    (a.0, b.0, b.1)

pub thread_parts : (t : List (Instruction ℕ)) → thread_keeps t ≡ true → (between 1 16 (length t) ≡ true) × (all instruction_fits t ≡ true) × (jumps_there t ≡ true)
thread_parts t h = three_parts (between 1 16 (length t)) (all instruction_fits t) (jumps_there t) h

pub fault_parts : (ts : List (List (Instruction ℕ))) (cs : List (Condition ℕ)) → fault_keeps ts cs ≡ true → (between 1 6 (length cs) ≡ true) × (all condition_fits cs ≡ true) × (all (condition_there ts) cs ≡ true)
fault_parts ts cs h = three_parts (between 1 6 (length cs)) (all condition_fits cs) (all (condition_there ts) cs) h

pub record Within (c : Code) : Type 0 where
  pub bound : between 1 4 c.bound ≡ true
  pub threads : between 1 4 (length c.threads) ≡ true
  pub keep : all thread_keeps c.threads ≡ true
  pub few : together c.threads ≤ 32
  pub faults : between 1 8 (length c.faults) ≡ true
  pub aim : all (fault_keeps c.threads) c.faults ≡ true

pub within : (c : Code) → keeps_limits c ≡ true → Within c
unfolding within_limits
within c h =
    let of-threads = between 1 4 (length c.threads) && (all thread_keeps c.threads && leb (together c.threads) 32) in
    let of-faults = between 1 8 (length c.faults) && all (fault_keeps c.threads) c.faults in
    let a = three_parts (between 1 4 c.bound) of-threads of-faults h in
    let b = three_parts (between 1 4 (length c.threads)) (all thread_keeps c.threads) (leb (together c.threads) 32) a.1 in
    let d = and_parts (between 1 8 (length c.faults)) (all (fault_keeps c.threads) c.faults) a.2 in
    record { bound = a.0; threads = b.0; keep = b.1; few = leb-true _ _ b.2; faults = d.0; aim = d.1 }
