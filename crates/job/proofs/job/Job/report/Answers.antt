use Rattle.std.proofs.Common.{◌≡◌, ◌^◌, ◌<◌, Some, rules, arith}
use Rattle.std.proofs.lemmas.Nat.{ones-le}
use Rattle.job.proofs.Arising.{solved_of}
use Rattle.job.proofs.job.Job.report.Goals as goal

pub put_report-requires-clause-few : goal.put_report-requires-clause-few
put_report-requires-clause-few g c =
    let k = c.in_ok-kept.kept in
    let l = c.in_ok-loaded.loaded.now in
    let is : c.self.inside.loaded ≡ Some l = search rules in
    let kept : l.kept ≡ Some k = search rules in
    let small : k.places.mask < 2 ^ 32 = search rules in
    omega (arith, (solved_of c.self.invariant is kept).count, ones-le 32 k.places.mask small)
