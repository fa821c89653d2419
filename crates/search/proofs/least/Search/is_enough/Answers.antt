use Rattle.std.proofs.Common.{◌∙◌, sym}
use Rattle.search.proofs.Noting.{one_more}
use Rattle.search.proofs.least.Search.is_enough.Goals as goal

pub returns-in_default-clause-known : goal.returns-in_default-clause-known
returns-in_default-clause-known g c = rw (c.crossed_past.ensures.asked.3) c.requires.known

pub returns-clause-known : goal.returns-clause-known
returns-clause-known g c =
    let s = c.args.self.now in
    let same = c.fewer-noted.ensures.asked.3 ∙ c.crossed_past.ensures.asked.3 in
    one_more s.known.sets c.note.new.self.sets c.fewer-noted.result (rw (sym same) c.note.ensures) c.requires.known (rw (c.crossed_past.ensures.asked.0) at c.fewer-noted.ensures.noted)

pub returns-clause-noted : goal.returns-clause-noted
returns-clause-noted g c =
    let same = c.fewer-noted.ensures.asked.3 ∙ c.crossed_past.ensures.asked.3 in
    λ _. (c.fewer-noted.result, rw (sym same) c.note.ensures, λ q h. c.in-Some.ensures.found.2 q (c.fewer-noted.ensures.within q h))
