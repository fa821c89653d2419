use Rattle.std.proofs.Common.{refl}
use Rattle.search.specs.Explored.{room}
use Rattle.search.proofs.Exploring.{met_fault, no_fault, some_fault}
use Rattle.search.proofs.Keeping.{crosses_same, keeps_none}
use Rattle.search.proofs.Noting.{noted_fenced}
use Rattle.search.proofs.Rounding.{fenced_not_many}
use Rattle.search.proofs.least.Search.crossed_past.Goals as goal

pub returns-in-Ok-None-clause-found : goal.returns-in-Ok-None-clause-found
returns-in-Ok-None-clause-found g c =
    let s = c.args.self.now in
    no_fault (g.met.M.Machine.lawful s.unfenced.machine.now) (room s.table) c.args.places.mask c.in-Ok-None.ensures.explored c.in-Ok-None.field-0-is

pub returns-in-Ok-Some-clause-found : goal.returns-in-Ok-Some-clause-found
returns-in-Ok-Some-clause-found g c =
    let s = c.args.self.now in
    let e = c.in-Ok-Some.ensures.explored in
    let is = c.in-Ok-Some.field-0-is in
    let m = g.M.Machine.means s.unfenced.machine.now in
    let set = c.args.places.mask in
    let run = c.crossed.ensures in
    (some_fault (g.met.M.Machine.lawful s.unfenced.machine.now) (room s.table) set e is c.requires, noted_fenced (met_fault e is).1 c.crossed.result.mask set c.crossed.ensures, λ q h. keeps_none m set run.1 ((crosses_same m set run.1).0 ((run.2 q).1 h)))

pub returns-in-Err-clause-found : goal.returns-in-Err-clause-found
returns-in-Err-clause-found g c = absurd (fenced_not_many (g.met.M.Machine.lawful c.args.self.now.unfenced.machine.now) c.args.places.mask c.requires c.in-Err.ensures.explored refl)
