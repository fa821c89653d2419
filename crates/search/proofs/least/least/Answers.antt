use Rattle.std.proofs.Common.{◌∙◌, Ok, ok_or, sym, ap, refl}
use Rattle.std.proofs.lemmas.Bool.{cond-false}
use Rattle.std.proofs.lemmas.List.Elements.{All-nil}
use Rattle.listing.specs.declared.refusal.Reason.TheVariants.{NoneEnough}
use Rattle.search.specs.Crossed.{AllNoted}
use Rattle.search.proofs.Answering.{it_fits, places, places_none, refused}
use Rattle.search.proofs.Exploring.{met_fault}
use Rattle.search.proofs.Noting.{noted, one_more}
use Rattle.search.proofs.Placements.{placement}
use Rattle.search.proofs.Rounding.{many}
use Rattle.search.proofs.least.least.Goals as goal

pub returns-in_err-row : goal.returns-in_err-row
returns-in_err-row g c =
    refused c.from_residual.result c.from_residual.ensures.1 ∙ sym (cond-false _ _ _ (many (g.met.M.Machine.lawful c.args.machine.now) c.in_err-row.ensures.explored c.new-table.ensures.room))

pub returns-in_default : goal.returns-in_default
returns-in_default g c =
    ap (λ s. Ok (placement s)) c.empty.ensures
    ∙ sym (places_none (g.met.M.Machine.lawful c.args.machine.now) c.explore.new.table c.in_ok-row.ensures.explored (c.explore.ensures.room ∙ c.new-table.ensures.room) c.in_default.is c.args.unbarred.mask)

pub least-requires-clause-fits : goal.least-requires-clause-fits
least-requires-clause-fits g c = it_fits (g.met.M.Machine.lawful c.args.machine.now) c.explore.new.table c.in_ok-row.ensures.explored refl

pub least-requires-clause-known : goal.least-requires-clause-known
least-requires-clause-known g c =
    let none : AllNoted c.args.program.now (g.M.Machine.means c.args.machine.now) c.new-known.result.sets = rw c.new-known.ensures (All-nil _) in
    one_more c.new-known.result.sets c.note.new.self.sets c.crossed.result c.note.ensures none (noted (met_fault c.in_ok-row.ensures.explored c.in-Some.is).1 c.crossed.result.mask c.crossed.ensures)

pub returns : goal.returns
returns g c =
    c.ok_or.ensures.value
    ∙ (ap (λ o. ok_or o NoneEnough) c.least.ensures
    ∙ sym (places (g.met.M.Machine.lawful c.args.machine.now) c.explore.new.table c.in_ok-row.ensures.explored (c.explore.ensures.room ∙ c.new-table.ensures.room) c.args.unbarred.mask))
