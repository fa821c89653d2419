use Rattle.std.proofs.Common.{◌≤◌, take, ◌∙◌, ap, arith}
use Rattle.listing.specs.Limits.{together}
use Rattle.listing.proofs.Programs.{kept, together_part}
use Rattle.listing.proofs.program.Program.first_place.Goals as goal

pub together-requires : goal.together-requires
together-requires c =
    let p = c.args.self.now in
    rw c.as_slice-threads.ensures (omega (arith, together_part p.threads c.min.result, (kept p).few))

pub overflow_cast-result : goal.overflow_cast-result
overflow_cast-result c =
    let p = c.args.self.now in
    let few : together (take c.min.result p.threads) ≤ 32 = omega (arith, together_part p.threads c.min.result, (kept p).few) in
    let is = c.together.ensures ∙ ap (λ ts. together (take c.min.result ts)) c.as_slice-threads.ensures in
    omega arith

pub returns-clause-limit : goal.returns-clause-limit
returns-clause-limit c =
    let p = c.args.self.now in
    let few : together (take c.min.result p.threads) ≤ 32 = omega (arith, together_part p.threads c.min.result, (kept p).few) in
    let is = c.together.ensures ∙ ap (λ ts. together (take c.min.result ts)) c.as_slice-threads.ensures in
    omega arith
