use Rattle.std.proofs.Common.{ap, arith}
use Rattle.std.proofs.lemmas.List.{take_all}
use Rattle.listing.specs.Limits.{together}
use Rattle.listing.proofs.Programs.{few_threads}
use Rattle.listing.proofs.program.Program.places.Goals as goal

pub returns-clause-listed : goal.returns-clause-listed
returns-clause-listed c =
    let p = c.args.self.now in
    let whole = ap together (take_all 4 p.threads (few_threads p)) in
    omega (arith, whole)
