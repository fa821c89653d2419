-- The program that a text reads as is the reading of it. Nothing is assumed.
use Rattle.std.proofs.Common.{◌≡◌, Bool, true, false, true≢false, List, length, sum_by, ℕ, Ok, Err, Result, refl, ap, sym, ◌∙◌}
use Rattle.listing.specs.declared.program.Program.{Program}
use Rattle.listing.specs.declared.refusal.Refusal.{Refusal}
use Rattle.listing.specs.Code.{Code, code_of, places}
use Rattle.listing.specs.Reading.{reading, told}
use Rattle.listing.specs.Spelling.{keeps_limits}
use Rattle.listing.specs.Laws.{FirstWrong}
use Rattle.listing.proofs.Answered.{first_wrong_read}
use Rattle.listing.proofs.Exact.{read_spells}
use Rattle.listing.proofs.Numbering.{places_count}
use Rattle.listing.proofs.Programs.{same_program}
use Rattle.job.specs.Answers.{places_of, read_answer}
use Rattle.job.specs.Refusals.{ByFirstWrong}
use Rattle.job.specs.Texts.{ReadsAs, program_within, program_in, program_of}

within_is : (p : Program) (b : Bool) (e : keeps_limits (code_of p) ≡ b) → program_within (code_of p) b e ≡ Ok p
within_is p true e = ap Ok (same_program (record { bound = p.bound; threads = p.threads; faults = p.faults; ok = e }) p refl)
within_is p false e = absurd (true≢false (sym p.ok ∙ e))

in_is : (r : Result Program Refusal) → program_in (told code_of r) ≡ r
in_is (Ok p) = within_is p (keeps_limits (code_of p)) refl
in_is (Err e) = refl

pub same_reading : (text : List ℕ) (r : Result Program Refusal) → told code_of r ≡ reading text → program_of text ≡ r
unfolding program_of
same_reading text r e = ap program_in (sym e) ∙ in_is r

lists_of : (c : Code) (b : Bool) (e : keeps_limits c ≡ b) → b ≡ true → told code_of (program_within c b e) ≡ Ok c
lists_of c true e b = refl
lists_of c false e b = absurd (true≢false (sym b))

of_reading : (text : List ℕ) (r : Result Code Refusal) → reading text ≡ r → told code_of (program_in r) ≡ r
of_reading text (Ok c) e = lists_of c (keeps_limits c) refl (read_spells text c e).1.limits
of_reading text (Err e) is = refl

pub reads_as : ReadsAs
unfolding program_of
reads_as text = of_reading text (reading text) refl

-- a text is refused by the first thing that is wrong with it
pub first_wrong : (text : List ℕ) → FirstWrong text (told code_of (program_of text))
first_wrong text = first_wrong_read text (told code_of (program_of text)) (reads_as text)

-- and `read` answers so
module _ (text : List ℕ) where
  read_cases : (r : Result Program Refusal) → program_of text ≡ r → ByFirstWrong text (places_of r)
  read_cases (Ok p) is = record {
    refused = λ e. (
      λ h. let no : ⊥ = cc in absurd no,
      λ w. let read = (first_wrong text).every e w in let told_ok = ap (told code_of) is in let no : ⊥ = cc in absurd no,
    );
    granted = λ n. (
      λ h. let same : places p ≡ n = cc in (p, is, sym same ∙ (places_count p).all),
      λ g. let same : p ≡ g.0 = cc (is, g.1) in ap Ok ((places_count p).all ∙ ap (λ (q : Program). sum_by length q.threads) same ∙ sym g.2),
    );
  }
  read_cases (Err x) is = record {
    refused = λ e. (
      λ h. let same : x ≡ e = cc in (first_wrong text).only e (ap (told code_of) is ∙ ap Err same),
      λ w. let read = (first_wrong text).every e w in let told_err = ap (told code_of) is in cc,
    );
    granted = λ n. (λ h. let no : ⊥ = cc in absurd no, λ g. let other = g.1 in let no : ⊥ = cc in absurd no);
  }

  pub read_ordered : ByFirstWrong text (read_answer text)
  read_ordered = read_cases (program_of text) refl
