use Rattle.std.proofs.Common.{◌≡◌, [], length, get_or, ap, arith, rules}
use Rattle.listing.proofs.Programs.{length_fits}
use Rattle.listing.proofs.program.Program.code.Goals as goal

pub returns-clause-limit : goal.returns-clause-limit
returns-clause-limit c =
    let p = c.args.self.now in
    let value : c.map_or.result.now ≡ get_or p.threads c.args.thread [] = search rules in
    omega (arith, ap length value, length_fits p c.args.thread)
