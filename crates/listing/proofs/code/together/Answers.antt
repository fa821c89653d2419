use Rattle.std.proofs.Common.{◌≡◌, ◌^◌, ◌<◌, ◌∙◌, length, rules, sum_by}
use Rattle.std.proofs.iter.runs.Sources.{sums}
use Rattle.listing.proofs.Grown.{together_is}
use Rattle.listing.proofs.code.together.Goals as goal

pub sum-requires-clause-fits : goal.sum-requires-clause-fits
sum-requires-clause-fits c =
    let few : sum_by length c.args.threads.now < 2 ^ 32 = rw together_is c.requires in
    search (rules, sums)

pub returns : goal.returns
returns c =
    let told : c.sum.result ≡ sum_by length c.args.threads.now = search rules in
    told ∙ together_is c.args.threads.now
