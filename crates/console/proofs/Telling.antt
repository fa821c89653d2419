-- What the console prints means what is said by runs. Nothing is assumed.
use Rattle.std.proofs.Common.{◌≡◌, ℕ, ◌+◌, ◌^◌, ◌<◌, Bool, true, false, List, ◌++◌, length, take, drop, Some, None, Option, Ok, Err, Result, ok_or, option_map, if◌then◌else◌, refl, sym, ap, subst, ◌∙◌, arith}
use Rattle.std.proofs.Math.Seq.{drop-append_seam, take-append_seam}
use Rattle.std.proofs.lemmas.Bool.{both_ways}
use Rattle.listing.specs.declared.program.Program.{Program}
use Rattle.listing.specs.declared.refusal.Reason.{Reason}
use Rattle.listing.specs.declared.refusal.Reason.TheVariants.{TooFewRows, NoneEnough}
use Rattle.listing.specs.declared.refusal.Refusal.{Refusal}
use Rattle.listing.specs.Code.{code_of, places}
use Rattle.listing.specs.Reading.{told}
use Rattle.machines.specs.declared.placement.Placement.{Placement}
use Rattle.machines.specs.Buffered.{buffered}
use Rattle.machines.specs.lawful.Machines.{buffered_is_lawful}
use Rattle.machines.specs.Places.{first_places}
use Rattle.search.specs.Answers.{least_placed}
use Rattle.search.specs.Enough.{enough, fits}
use Rattle.search.specs.Faults.{TooMany}
use Rattle.search.specs.Least.{least}
use Rattle.search.proofs.Placing.{placing}
use Rattle.search.proofs.Rounding.{fitting}
use Rattle.job.specs.Answers.{solution}
use Rattle.job.specs.Checks.{declined}
use Rattle.job.specs.States.{begun}
use Rattle.job.specs.Text.{line_of, placed, report}
use Rattle.job.specs.Texts.{program_of}
use Rattle.job.proofs.Keeping.{open_small}
use Rattle.job.proofs.Plainly.{with_no_bars}
use Rattle.job.proofs.Readings.{first_wrong}
use Rattle.console.specs.Meaning.{ConsoleTells, Front, Refuses, Solves, Tells}
use Rattle.console.specs.Prints.{answered, of_program, report_or_refusal, solved}

placed_first : (bytes out : List ℕ) → placed out 0 bytes ≡ bytes ++ drop (length bytes) out
placed_first bytes out = let same : 0 + length bytes ≡ length bytes = omega arith in ap (λ k. bytes ++ drop k out) same

in_front : (bytes out : List ℕ) (n : ℕ) → n ≡ length bytes → Front bytes out n (placed out 0 bytes)
in_front bytes out n is = record {
  number = is;
  front = ap (λ k. take k (placed out 0 bytes)) is ∙ (ap (take (length bytes)) (placed_first bytes out) ∙ take-append_seam bytes (drop (length bytes) out));
  past = ap (λ k. drop k (placed out 0 bytes)) is ∙ (ap (drop (length bytes)) (placed_first bytes out)
      ∙ (drop-append_seam bytes (drop (length bytes) out) ∙ ap (λ k. drop k out) (sym is)));
}

module _ (text : List ℕ) (rows : ℕ) where
  -- what is printed, by what it is
  abbrev Means : Result (List ℕ) Refusal → Type 0
  Means (Ok bytes) = Solves text rows bytes
  Means (Err e) = Refuses text rows e

  told_by : (r : Result (List ℕ) Refusal) (out : List ℕ) → Means r → let a = answered r out in Tells text rows out a.0 a.1
  told_by (Ok bytes) out means = record {
    solved = λ n e. let is : n ≡ length bytes = cc in (bytes, means, in_front bytes out n is);
    refused = λ n e. let no : ⊥ = cc in absurd no;
  }
  told_by (Err w) out means = record {
    solved = λ n e. let no : ⊥ = cc in absurd no;
    refused = λ n e. let is : n ≡ length (line_of w) = cc in (w, means, in_front (line_of w) out n is);
  }

  module _ (p : Program) (is : program_of text ≡ Ok p) where
    abbrev all : ℕ
    all = first_places (places p)

    small : all < 2 ^ 32
    small = subst (λ s. s < 2 ^ 32) (with_no_bars all) (open_small (begun p))

    sought : (fit : Bool) (o : Option ℕ) → fits (buffered p) rows ≡ fit → least (enough p (buffered p) rows) all ≡ o
        → Means (solved p (if fit then ok_or (option_map (λ s. record { mask = s }) o) NoneEnough else Err TooFewRows))
    sought false o fit found = Refuses.too_few_rows is (((fitting (buffered_is_lawful p)).too_few rows).0 fit)
    sought true None fit found =
        let run = ((placing p (buffered_is_lawful p)).none rows all fit small).0 found in
        Refuses.none_enough is (λ many. both_ways (fits (buffered p) rows) (((fitting (buffered_is_lawful p)).too_few rows).1 many) fit) run.1 run.2
    sought true (Some set) fit found =
        Solves.best is (λ many. both_ways (fits (buffered p) rows) (((fitting (buffered_is_lawful p)).too_few rows).1 many) fit)
        (((placing p (buffered_is_lawful p)).best rows all set fit small).0 found)

  by_reading : (r : Result Program Refusal) → program_of text ≡ r → Means (of_program r rows)
  by_reading (Ok p) is = sought p is (fits (buffered p) rows) (least (enough p (buffered p) rows) (first_places (places p))) refl refl
  by_reading (Err e) is = Refuses.unread ((first_wrong text).only e (ap (told code_of) is))

pub tells : ConsoleTells
tells text rows out = told_by text rows (report_or_refusal text rows) out (by_reading text rows (program_of text) refl)
