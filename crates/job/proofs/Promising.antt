-- Whatever calls a job was made and changed by, it keeps its promises. Nothing is assumed.
use Rattle.std.proofs.Common.{None, sym, subst}
use Rattle.listing.specs.declared.program.Program.{Program}
use Rattle.machines.specs.Laws.{Lawful}
use Rattle.machines.specs.Machines.{Meaning}
use Rattle.job.specs.declared.solution.Solution.{Solution}
use Rattle.job.specs.Answers.{solve_answer}
use Rattle.job.specs.Histories.{Arisen, Solve, after, next}
use Rattle.job.specs.Promises.{Stands, Shown, Decided, Promises, Always}
use Rattle.job.specs.States.{Held, State}
use Rattle.job.proofs.Deciding.{decided}
use Rattle.job.proofs.Keeping.{KeptSolved, Solved, always_solved, best}
use Rattle.job.proofs.Showing.{shown}

module _ {S : Type 0} (M : Program → Meaning S) (lawful : (p : Program) → Lawful p (M p)) where
  stands : (h : Held) (k : Solution) → Solved M h k → Stands M h k
  stands h k s = let b = best M (lawful h.program) s in record { are_open = b.is_open; count = s.count; enough = b.enough; fewest = b.fewest }

  of_solved : (s : State) → KeptSolved M s → Promises M s
  of_solved s all = record {
    kept = λ h k is kept. stands h k (all h k is kept);
    shown = λ h k q is kept held. subst (λ x. Shown M x h k q) (sym is) (shown M (lawful h.program) (all h k is kept) kept q held);
    solved = λ h n is few. subst (λ x. Decided M h (solve_answer M x n) (next M x (Solve n))) (sym is) (decided M h (lawful h.program) n few);
  }

  pub promised : (s : State) → Arisen M s → Promises M s
  promised s a = of_solved s (subst (KeptSolved M) a.led (always_solved M a.history))

  pub always : Always M
  always es = of_solved (after M es None) (always_solved M es)
