use Rattle.std.proofs.Common.{codes, subst, refl, arith, ltb-false, ltb-true}
use Rattle.std.proofs.lemmas.Result.{err_from_is_err_and}
use Rattle.listing.specs.declared.lines.Line.TheVariants as forms
use Rattle.listing.specs.Drafts.{Adds, progress_of}
use Rattle.listing.specs.Taking.{left}
use Rattle.listing.proofs.FirstWords.{fault_first, formed, worded_not, worded_by}
use Rattle.listing.proofs.Spelled.{spelled}
use Rattle.listing.proofs.draft.Draft.add_words.Goals as goal

pub returns-in-fault-clause-adds : goal.returns-in-fault-clause-adds
returns-in-fault-clause-adds c =
    let h = c.in-Some.ensures in
    let rest = c.next.new.self in
    let f = fault_first c.in-Word.bytes.now (left rest) (spelled (codes "fault") c.in-Word.bytes.now (omega (arith, ltb-true, ltb-false))) in
    subst (λ s. Adds s c.add_fault.new.self c.add_fault.result)
    (worded_by (progress_of c.args.self.now) c.args.words.line c.in-Some.first (left c.args.words) rest (forms.Fault rest) h.comes h.line (formed c.in-Some.first c.in-Word.bytes c.in-Word.line rest c.in-Word.is (forms.Fault rest) f.0 f.1))
    (c.add_fault.ensures.adds refl)

pub returns-in_err-form-clause-adds : goal.returns-in_err-form-clause-adds
returns-in_err-form-clause-adds c =
    let q = err_from_is_err_and c.from_residual.result c.from_residual.ensures.1 in
    let h = c.in-Some.ensures in
    rw (q.1, q.2) (worded_not (progress_of c.args.self.now) c.args.words.line c.in-Some.first (left c.args.words) c.next.new.self c.in_err-form.field-0.0 h.comes h.line c.in_err-form.ensures.formed)

pub returns-clause-adds : goal.returns-clause-adds
returns-clause-adds c =
    let h = c.in-Some.ensures in
    subst (λ s. Adds s c.add.new.self c.add.result)
    (worded_by (progress_of c.args.self.now) c.args.words.line c.in-Some.first (left c.args.words) c.next.new.self c.in_ok-form.field-0 h.comes h.line c.in_ok-form.ensures.formed)
    (c.add.ensures.adds c.in_ok-form.ensures.on)
