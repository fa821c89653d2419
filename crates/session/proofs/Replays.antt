-- A run, one step longer. Nothing is assumed.
use Rattle.std.proofs.Common.{◌≡◌, ℕ, ◌+◌, ◌<◌, List, [], ◌∷◌, ◌++◌, Some, length, take, slice_index, add-one}
use Rattle.std.proofs.Math.Seq.{take-suc}
use Rattle.machines.specs.declared.machine.Taken.{Taken}
use Rattle.machines.specs.Machines.{Meaning, Run, stay, go}

module _ {S : Type 0} (m : Meaning S) where
  longer : {a b : S} {ns : List ℕ} (n : ℕ) (t : Taken S) → Run m a ns b → m.step b n ≡ Some t → Run m a (ns ++ n ∷ []) t.after
  longer n t stay present = go present stay
  longer n t (go first rest) present = go first (longer n t rest present)

  -- no step is a run
  pub begun : (b : S) (run : List ℕ) → b ≡ m.start → Run m m.start (take 0 run) b
  begun b run e = rw e stay

  -- after the step that follows those before it
  pub further : {b : S} (t : Taken S) (run : List ℕ) (i : ℕ) → i < length run → Run m m.start (take i run) b → m.step b (slice_index run i) ≡ Some t
      → Run m m.start (take (i + 1) run) t.after
  further t run i h r present = rw (add-one i, take-suc run i 0 h) (longer (slice_index run i) t r present)
