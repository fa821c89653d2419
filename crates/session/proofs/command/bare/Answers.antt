use Rattle.std.proofs.Common.{[], ◌∷◌, ap, arith, rules, codes}
use Rattle.std.proofs.lemmas.Slice.Eq.{text_from_reads}
use Rattle.session.proofs.command.bare.Goals as goal

pub returns-in-report-clause-some : goal.returns-in-report-clause-some
returns-in-report-clause-some c =
    let same = text_from_reads c.args.word.now (codes "report") (omega arith) (search rules) in
    ap (λ w. w ∷ []) same

pub returns-in-listing-clause-some : goal.returns-in-listing-clause-some
returns-in-listing-clause-some c =
    let same = text_from_reads c.args.word.now (codes "listing") (omega arith) (search rules) in
    ap (λ w. w ∷ []) same
