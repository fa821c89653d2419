-- Whether what is read depends on memory. Nothing is assumed.
use Rattle.std.proofs.Common.{◌≡◌, ◌==◌, true, false, cond, List, [], ◌∷◌, ◌||◌, refl, eq-eqb}
use Rattle.std.specs.List.{list_any}
use Rattle.listing.specs.declared.code.Variable.{Variable}
use Rattle.machines.specs.declared.queue.Write.{Write}
use Rattle.machines.specs.Queues.{is_to, newest}

-- what is read past a write to the variable is the same, whatever memory holds
pub depends_on_memory : (v : Variable) (ws : List Write) → (newest v ws 0 == newest v ws 1) ≡ list_any (is_to v) ws
depends_on_memory v [] = refl
depends_on_memory v (w ∷ ws) =
    elim (is_to v w) as (λ b. (newest v ws (cond b w.value 0) == newest v ws (cond b w.value 1)) ≡ b || list_any (is_to v) ws) [
      | true ↦ eq-eqb (newest v ws w.value) (newest v ws w.value) refl
      | false ↦ depends_on_memory v ws
    ]
