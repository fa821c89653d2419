use Rattle.std.proofs.Common.{◌≡◌, None, find}
use Rattle.machines.specs.Places.{places_in}
use Rattle.search.specs.Crossed.{AllNoted}
use Rattle.search.specs.Enough.{enough}
use Rattle.search.specs.Explored.{room}
use Rattle.search.proofs.Candidates.{sized}
use Rattle.search.proofs.least.Search.least.Given as goal

abbrev pub invariant-loop-count : goal.invariant-loop-count
invariant-loop-count g l =
    let s = l.fn.self in
    let p = s.unfenced.program.now in
    let m = g.M.Machine.means s.unfenced.machine.now in
    record {
      unfenced : l.self.unfenced ≡ s.unfenced;
      unbarred : l.self.unbarred ≡ s.unbarred;
      rows : room l.self.table ≡ room s.table;
      known : AllNoted p m l.self.known.sets;
      none : find (enough p m (room s.table)) (sized (places_in s.unbarred.mask 32) 0 l.count) ≡ None;
    }
