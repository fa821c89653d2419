-- What a reader owes follows from its answer. Assumes nothing.
use Rattle.std.proofs.Common.{◌≡◌, ℕ, ◌+◌, ◌<◌, ◌≤◌, leb, List, length, Ok, Err, Result, sym, refl, ap, ◌∙◌, subst}
use Rattle.std.proofs.lemmas.Bool.{le-leb, lt-leb, cond-true, cond-false}
use Rattle.listing.specs.declared.refusal.Reason.TheVariants.{TextTooLong}
use Rattle.listing.specs.declared.refusal.Refusal.{Refusal}
use Rattle.listing.specs.Code.{Code}
use Rattle.listing.specs.Laws.{Exactly, FirstWrong, OneOrOther}
use Rattle.listing.specs.Reading.{Progress, nothing, refusal, line, read_lines, after_lines, reading}
use Rattle.listing.specs.Words.{lines}
use Rattle.listing.specs.Cuts.{line_of, rest_of}
use Rattle.listing.proofs.Exact.{exactly}
use Rattle.listing.proofs.NextLine.{next_line, no_lines}
use Rattle.listing.proofs.Results.{onto}
use Rattle.listing.proofs.WrongRefused.{first_wrong, one_or_other}

module _ (t : List ℕ) (r : Result Code Refusal) (e : r ≡ reading t) where
  pub exactly_read : Exactly t r
  exactly_read = subst (Exactly t) (sym e) (exactly t)

  pub first_wrong_read : FirstWrong t r
  first_wrong_read = subst (FirstWrong t) (sym e) (first_wrong t)

  pub one_or_other_read : OneOrOther t r
  one_or_other_read = subst (OneOrOther t) (sym e) (one_or_other t)

pub too_long : (t : List ℕ) → 4096 < length t → Err (refusal TextTooLong 0) ≡ reading t
unfolding reading
too_long t far = sym (cond-false (leb (length t) 4096) _ _ (lt-leb (length t) 4096 far))

pub after_all : (t : List ℕ) (r : Result Progress Refusal) → length t ≤ 4096 → read_lines nothing 1 (lines t) ≡ r → after_lines r ≡ reading t
unfolding reading
after_all t r few e = sym (cond-true (leb (length t) 4096) _ _ (le-leb (length t) 4096 few) ∙ ap after_lines e)

-- a text that is not empty, by its first line
module _ (p : Progress) (n : ℕ) (t : List ℕ) (some : 0 < length t) where
  pub next_fine : (q : Progress) → line p n (line_of t) ≡ Ok q → read_lines p n (lines t) ≡ read_lines q (n + 1) (lines (rest_of t))
  next_fine q fine = ap (read_lines p n) (next_line t some) ∙ ap (onto (λ q. read_lines q (n + 1) (lines (rest_of t)))) fine

  pub next_refused : (e : Refusal) → line p n (line_of t) ≡ Err e → read_lines p n (lines t) ≡ Err e
  next_refused e wrong = ap (read_lines p n) (next_line t some) ∙ ap (onto (λ q. read_lines q (n + 1) (lines (rest_of t)))) wrong

pub none_left : (p : Progress) (n : ℕ) (t : List ℕ) → length t ≡ 0 → read_lines p n (lines t) ≡ Ok p
none_left p n t none = rw (no_lines t none) refl
