use Rattle.std.proofs.Common.{arith}
use Rattle.listing.proofs.Programs.{few_threads, place_fits, thread_is}
use Rattle.listing.proofs.program.Program.place.Goals as goal

pub first_place-requires : goal.first_place-requires
first_place-requires c =
    let p = c.args.self.now in
    omega (arith, thread_is p.threads c.args.thread c.args.at c.requires, few_threads p)

pub overflow_add-result : goal.overflow_add-result
overflow_add-result c = omega (arith, place_fits c.args.self.now c.args.thread c.args.at c.requires)

pub returns-clause-limit : goal.returns-clause-limit
returns-clause-limit c = omega (arith, place_fits c.args.self.now c.args.thread c.args.at c.requires)
