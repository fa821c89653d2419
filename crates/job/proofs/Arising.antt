-- What a call leaves, some calls led to. Nothing is assumed.
use Rattle.std.proofs.Common.{◌≡◌, List, [], ◌∷◌, ◌++◌, Some, None, Option, refl, ap, sym, subst, ◌∙◌}
use Rattle.listing.specs.declared.program.Program.{Program}
use Rattle.machines.specs.Machines.{Meaning}
use Rattle.job.specs.declared.job.Loaded.{Loaded}
use Rattle.job.specs.declared.solution.Solution.{Solution}
use Rattle.job.specs.Histories.{Event, Arisen, after, next}
use Rattle.job.specs.Loads.{HasItsMachine, Sound, held_in, state_in}
use Rattle.job.specs.States.{State}
use Rattle.job.proofs.Keeping.{Solved, always_solved}

module _ {S : Type 0} (M : Program → Meaning S) where
  one_more : (es : List Event) (e : Event) (s : State) → after M (es ++ e ∷ []) s ≡ next M (after M es s) e
  one_more [] e s = refl
  one_more (x ∷ es) e s = one_more es e (next M s x)

  pub arisen_next : {s t : State} (e : Event) → Arisen M s → t ≡ next M s e → Arisen M t
  arisen_next e a is = record { history = a.history ++ e ∷ []; led = one_more a.history e None ∙ (ap (λ x. next M x e) a.led ∙ sym is) }

  pub arisen_first : Arisen M None
  arisen_first = record { history = []; led = refl }

module _ {K S : Type 0} {made : Program → K} {means : K → Meaning S} where
  pub sound_next : {o o' : Option (Loaded K)} (e : Event) → Sound made means o → HasItsMachine made o' → state_in o' ≡ next (λ p. means (made p)) (state_in o) e → Sound made means o'
  sound_next e s own is = record { machine = own; arisen = arisen_next (λ p. means (made p)) e s.arisen is }

  pub machine_of : {o : Option (Loaded K)} {l : Loaded K} → Sound made means o → o ≡ Some l → l.machine ≡ made l.program
  machine_of s is = subst (HasItsMachine made) is s.machine

  pub solved_of : {o : Option (Loaded K)} {l : Loaded K} {k : Solution} → Sound made means o → o ≡ Some l → l.kept ≡ Some k → Solved (λ p. means (made p)) (held_in l) k
  solved_of {l = l} {k = k} s is kept =
      let a = s.arisen in
      always_solved (λ p. means (made p)) a.history (held_in l) k (a.led ∙ ap state_in is) kept
