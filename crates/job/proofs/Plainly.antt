-- With every place open, some fault run keeps to all of them exactly when the unbuffered machine has a fault run. Nothing is assumed.
use Rattle.std.proofs.Common.{◌≡◌, ◌↔◌, ℕ, true, false, true≢false, List, Some, None, Option, refl, sym, ap, ◌∙◌}
use Rattle.std.specs.Option.{option_map_or}
use Rattle.std.specs.Int.Bits.{and_zero_r, xor_zero_r, bit_xor}
use Rattle.listing.specs.declared.program.Program.{Program}
use Rattle.listing.specs.Code.{lines_of, places}
use Rattle.machines.specs.declared.picture.Picture.{Picture}
use Rattle.machines.specs.Laws.{Lawful}
use Rattle.machines.specs.Machines.{Meaning}
use Rattle.machines.specs.Pictures.{fault}
use Rattle.machines.specs.Places.{first_places, outside}
use Rattle.machines.specs.Unbuffered.{unbuffered}
use Rattle.machines.proofs.Everywhere.{no_queues}
use Rattle.search.specs.Faults.{FaultRun, KeepsTo}
use Rattle.search.proofs.Keeping.{fenced_run, keeps_none, own_run}

pub with_no_bars : (s : ℕ) → outside s 0 ≡ s
with_no_bars s = ap (bit_xor s) (and_zero_r s) ∙ xor_zero_r s

-- the picture of a faulty standing
pictured : (p : Program) (o : Option Picture) → option_map_or (λ q. fault q (lines_of p)) o false ≡ true → (q : Picture) × (o ≡ Some q) × (fault q (lines_of p) ≡ true)
pictured p None bad = absurd (true≢false (sym bad))
pictured p (Some q) bad = (q, refl, bad)

module _ {S : Type 0} (p : Program) (m : Meaning S) (l : Lawful p m) where
  abbrev everywhere : ℕ
  everywhere = first_places (places p)

  to_plain : (ns : List ℕ) × FaultRun p m ns × KeepsTo m ns everywhere → (ns : List ℕ) × FaultRun p (unbuffered p) ns
  to_plain (ns, f, keeps) =
      let seen = pictured p (m.picture f.last) f.bad in
      let run = fenced_run m everywhere f.run keeps in
      let r = (no_queues p m l seen.0).0 (record { standing = f.last; reached = record { steps = ns; run = run }; seen = seen.1 }) in
      (r.steps, record { last = seen.0; run = r.run; bad = seen.2 })

  from_plain : (ns : List ℕ) × FaultRun p (unbuffered p) ns → (ns : List ℕ) × FaultRun p m ns × KeepsTo m ns everywhere
  from_plain (ns, f) =
      let shown = (no_queues p m l f.last).1 (record { steps = ns; run = f.run }) in
      let r = shown.reached in
      let bad = ap (λ o. option_map_or (λ q. fault q (lines_of p)) o false) shown.seen ∙ f.bad in
      (r.steps, record { last = shown.standing; run = own_run m everywhere r.run; bad = bad }, λ q. keeps_none m everywhere r.run)

  pub plainly : ((ns : List ℕ) × FaultRun p m ns × KeepsTo m ns everywhere) ↔ ((ns : List ℕ) × FaultRun p (unbuffered p) ns)
  plainly = (to_plain, from_plain)
