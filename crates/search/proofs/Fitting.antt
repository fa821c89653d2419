-- A place of a program is one that a set of places can hold. Nothing is assumed.
use Rattle.std.proofs.Common.{Option, arith}
use Rattle.std.proofs.lemmas.Option.{IfSome_then}
use Rattle.listing.specs.declared.program.Program.{Program}
use Rattle.listing.specs.Code.{places}
use Rattle.listing.proofs.Programs.{kept, together_part}
use Rattle.machines.specs.declared.machine.Taken.{Taken}
use Rattle.machines.specs.Machines.{CrossesBelow}

pub own_fits : {S : Type 0} (p : Program) (r : Option (Taken S)) → CrossesBelow (places p) r → CrossesBelow 32 r
own_fits p r h = IfSome_then r h (λ t own. IfSome_then t.crosses own (λ place lt. omega (arith, lt, together_part p.threads 4, (kept p).few)))
