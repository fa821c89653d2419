-- What is pruned holds no set that is enough. Nothing is assumed.
use Rattle.std.proofs.Common.{◌≡◌, ℕ, ◌⊎◌, true, List, All, None, bit_and, find, eqb}
use Rattle.std.specs.List.{list_any}
use Rattle.std.proofs.lemmas.Bool.{and_parts, eqb-true, false_from_ne_true}
use Rattle.std.proofs.lemmas.List.Elements.{All-contains}
use Rattle.std.proofs.lemmas.List.Folds.{Any-from_list_any}
use Rattle.listing.specs.declared.program.Program.{Program}
use Rattle.machines.specs.declared.placement.Placement.{Placement}
use Rattle.machines.specs.Laws.{Lawful}
use Rattle.machines.specs.Machines.{Meaning}
use Rattle.machines.specs.Places.{places_in}
use Rattle.search.specs.Crossed.{misses, Noted}
use Rattle.search.specs.Enough.{fits, enough}
use Rattle.search.specs.Least.{choices}
use Rattle.search.proofs.Bests.{none_found}
use Rattle.search.proofs.Choices.{choice_missed}
use Rattle.search.proofs.Testing.{testing}

module _ {S : Type 0} (p : Program) {q : Program} {m : Meaning S} (l : Lawful q m) where
  pub pruned : (n : ℕ) (chosen later : Placement) (k u : ℕ) (known : List Placement) → fits m n ≡ true → All (λ set. Noted p m set.mask) known
      → list_any (misses chosen later) known ≡ true → (k ≡ 0) ⊎ (later.mask ≡ u) → find (enough p m n) (choices chosen.mask k (places_in u 32)) ≡ None
  pruned n chosen later k u known fit noted some which =
      let (i, c, within, at, miss) = Any-from_list_any (misses chosen later) known some in
      let apart = and_parts (eqb (bit_and c.mask chosen.mask) 0) (eqb (bit_and c.mask later.mask) 0) miss in
      let (ns, fault, crossed) = All-contains (λ set. Noted p m set.mask) known c noted (i, within, at) in
      none_found (enough p m n) _ (λ s in_it. false_from_ne_true (enough p m n s) (λ h.
      (testing p l n s fit).0 h ns fault (λ j over. choice_missed c.mask chosen.mask k u later.mask 32 s (eqb-true _ _ apart.0) (eqb-true _ _ apart.1) which in_it j ((crossed j).0 over))))
