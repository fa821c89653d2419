use Rattle.std.proofs.Common.{◌≡◌}
use Rattle.search.specs.Crossed.{Noted}
use Rattle.search.specs.Explored.{room}
use Rattle.search.specs.Least.{Within}
use Rattle.search.proofs.least.Search.fewer.Given as goal

abbrev pub invariant-loop : goal.invariant-loop
invariant-loop g l =
    let s = l.fn.self in
    Noted s.unfenced.program.now (g.M.Machine.means s.unfenced.machine.now) l.kept.mask
    × Within l.kept.mask l.fn.crossed.mask
    × (l.self.unfenced ≡ s.unfenced)
    × (l.self.unbarred ≡ s.unbarred)
    × (room l.self.table ≡ room s.table)
    × (l.self.known ≡ s.known)
