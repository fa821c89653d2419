use Rattle.std.proofs.Common.{◌≡◌, ◌+◌, ◌<◌, length, Ok, Err, sym, ap, ◌∙◌, arith}
use Rattle.std.proofs.lemmas.Result.{err_from_is_err_and}
use Rattle.std.proofs.lemmas.Bool.{eqb-false, eqb-true, leb-false, leb-true}
use Rattle.listing.specs.declared.refusal.Reason.TheVariants.{TextTooLong}
use Rattle.listing.specs.Code.{code_of}
use Rattle.listing.specs.Drafts.{progress_of}
use Rattle.listing.specs.Reading.{line, read_lines, told, reading, refusal}
use Rattle.listing.specs.Words.{lines}
use Rattle.listing.proofs.Answered.{exactly_read, first_wrong_read, one_or_other_read, too_long, after_all, next_fine, next_refused, none_left}
use Rattle.listing.proofs.Promised.{length_promised, reason_promised}
use Rattle.listing.proofs.reader.read.Goals as goal

pub returns-then-not-short_enough : goal.returns-then-not-short_enough
returns-then-not-short_enough c =
    let t = c.args.text.now in
    let is = too_long t (leb-false (length t) 4096 (sym c.if-not-short_enough.ensures)) in
    let e = c.refusal.ensures in
    rw e
    record {
      length = length_promised t (Err (refusal TextTooLong 0)) (exactly_read t _ is) (first_wrong_read t _ is);
      reason = reason_promised t (Err (refusal TextTooLong 0)) (first_wrong_read t _ is);
      value = is;
      exactly = exactly_read t _ is;
      first_wrong = first_wrong_read t _ is;
      one_or_other = one_or_other_read t _ is;
    }

pub returns-in_err-read_line : goal.returns-in_err-read_line
returns-in_err-read_line c =
    let t = c.args.text.now in
    let left = c.loop-rest.rest.now in
    let x = err_from_is_err_and c.from_residual.result c.from_residual.ensures.1 in
    let filled = eqb-false (length left) 0 (sym c.loop-rest-test.ensures) in
    let some : 0 < length left = omega arith in
    let wrong = next_refused (progress_of c.loop-rest.draft) (c.loop-rest.line + 1) left some c.in_err-read_line.field-0.0 (ap (line (progress_of c.loop-rest.draft) (c.loop-rest.line + 1)) (sym c.first_line.ensures.line) ∙ c.in_err-read_line.ensures.adds) in
    let is : told code_of c.from_residual.result ≡ reading t = rw (x.1, x.2) (after_all t (Err c.in_err-read_line.field-0.0) (leb-true (length t) 4096 (sym c.if-not-short_enough.ensures)) (sym c.loop-rest.invariant.1 ∙ wrong)) in
    record { length = length_promised t _ (exactly_read t _ is) (first_wrong_read t _ is); reason = reason_promised t _ (first_wrong_read t _ is); value = is; exactly = exactly_read t _ is; first_wrong = first_wrong_read t _ is; one_or_other = one_or_other_read t _ is }

pub loop-rest-preserved : goal.loop-rest-preserved
loop-rest-preserved c =
    let left = c.loop-rest.rest.now in
    let filled = eqb-false (length left) 0 (sym c.loop-rest-test.ensures) in
    let some : 0 < length left = omega arith in
    let fine = next_fine (progress_of c.loop-rest.draft) (c.loop-rest.line + 1) left some (progress_of c.read_line.new.draft) (ap (line (progress_of c.loop-rest.draft) (c.loop-rest.line + 1)) (sym c.first_line.ensures.line) ∙ c.in_ok-read_line.ensures.adds) in
    (omega (arith, c.first_line.ensures.shorter some), ap (λ r. read_lines (progress_of c.read_line.new.draft) (c.loop-rest.line + 1 + 1) (lines r)) c.first_line.ensures.rest ∙ sym fine ∙ c.loop-rest.invariant.1)

pub returns : goal.returns
returns c =
    let t = c.args.text.now in
    let left = c.loop-rest.rest.now in
    let whole = none_left (progress_of c.loop-rest.draft) (c.loop-rest.line + 1) left (eqb-true (length left) 0 (sym c.loop-rest-test.ensures)) in
    let is : told code_of c.finish.result ≡ reading t = c.finish.ensures.value ∙ after_all t (Ok (progress_of c.loop-rest.draft)) (leb-true (length t) 4096 (sym c.if-not-short_enough.ensures)) (sym c.loop-rest.invariant.1 ∙ whole) in
    record { length = length_promised t _ (exactly_read t _ is) (first_wrong_read t _ is); reason = reason_promised t _ (first_wrong_read t _ is); value = is; exactly = exactly_read t _ is; first_wrong = first_wrong_read t _ is; one_or_other = one_or_other_read t _ is }
