-- The machine that a kind makes for a program keeps the laws of a machine for that program. Nothing is assumed.
use Rattle.std.proofs.Common.{◌≡◌, subst}
use Rattle.listing.specs.declared.program.Program.{Program}
use Rattle.machines.specs.Laws.{Lawful}
use Rattle.machines.specs.Machines.{Meaning}

pub lawful_made : {K S : Type 0} {program : K → Program} {means : K → Meaning S} {made : Program → K}
    → ((m : K) → Lawful (program m) (means m)) → ((p : Program) → program (made p) ≡ p) → (p : Program) → Lawful p (means (made p))
lawful_made {means = means} {made = made} lawful own p = subst (λ q. Lawful q (means (made p))) (own p) (lawful (made p))
