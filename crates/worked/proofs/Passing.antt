-- A claim is true of a text where a test of the program that it reads as is passed. Nothing is assumed.
--   Outcome         that a test is passed, or not; what was read; what is printed; whether there are no faults
--   got r c         what comes out for the claim c of a text that reads as r; wanted c: what has to
--   Passed es       all that has to come out for these rows does
use Rattle.std.proofs.Common.{◌≡◌, ℕ, Bool, true, false, ◌&&◌, ◌==◌, List, [], ◌∷◌, map, None, Some, Option, Ok, Err, Result, refl, sym, ap, ◌∙◌}
use Rattle.std.specs.List.{AllByRecursion as All}
use Rattle.std.proofs.lemmas.Bool.{and_parts, eqb-true}
use Rattle.listing.specs.declared.program.Program.{Program}
use Rattle.listing.specs.declared.refusal.Refusal.{Refusal}
use Rattle.listing.specs.Code.{Code, code_of}
use Rattle.listing.specs.Reading.{told}
use Rattle.listing.specs.Reasons.{number_of}
use Rattle.listing.proofs.Recursive.{all_weaker}
use Rattle.machines.specs.Buffered.{buffered}
use Rattle.machines.specs.Unbuffered.{unbuffered}
use Rattle.machines.specs.lawful.Machines.{buffered_is_lawful, unbuffered_is_lawful}
use Rattle.job.specs.Histories.{Bar, loaded, after as after_calls}
use Rattle.job.specs.States.{State}
use Rattle.job.specs.Texts.{program_of}
use Rattle.job.proofs.Readings.{reads_as}
use Rattle.worked.specs.Claims.{Claim, Example, RowHolds, IsTrue, OfProgram, is_read, reads, refused, reaches, never, ends, present, absent, prints, plainly}
use Rattle.worked.proofs.Found as found
use Rattle.worked.proofs.Told as told_of

abbrev granted : Result Program Refusal → (Program → Bool) → Bool
granted (Ok p) f = f p
granted (Err e) f = false

abbrev refused_as : Result Program Refusal → ℕ → ℕ → Bool
refused_as (Ok p) number line = false
refused_as (Err e) number line = number_of e.reason == number && e.line == line

abbrev barred_in : Result Program Refusal → List ℕ → State
barred_in r barred = after_calls buffered (map Bar barred) (loaded r None)

pub data Outcome : Type 0 where
  passed : Bool → Outcome
  reading : Result Code Refusal → Outcome
  printing : Option (List ℕ) → Outcome
  freedom : Option (Result Bool Refusal) → Outcome

abbrev pub got : Result Program Refusal → Claim → Outcome
got r is_read = passed (granted r (λ p. true))
got r (reads c) = reading (told code_of r)
got r (refused number line) = passed (refused_as r number line)
got r (reaches b u) = passed (granted r (λ p. told_of.reach (buffered p) b && told_of.reach (unbuffered p) u))
got r (never cs) = passed (granted r (λ p. told_of.never p cs))
got r (ends these those) = passed (granted r (λ p. told_of.ends (buffered p) these those))
got r (present steps number) = passed (granted r (λ p. told_of.after (buffered p) steps number true))
got r (absent steps number) = passed (granted r (λ p. told_of.after (buffered p) steps number false))
got r (prints rows barred bytes) = printing (found.printing (barred_in r barred) rows)
got r (plainly rows free) = freedom (found.freedom (barred_in r []) rows)

abbrev pub wanted : Claim → Outcome
wanted (reads c) = reading (Ok c)
wanted (prints rows barred bytes) = printing (Some bytes)
wanted (plainly rows free) = freedom (Some (Ok free))
wanted _ = passed true

granted_is : (r : Result Program Refusal) (f : Program → Bool) → granted r f ≡ true → (p : Program) × (r ≡ Ok p) × (f p ≡ true)
granted_is (Ok p) f h = (p, refl, h)
granted_is (Err e) f h = absurd (let no : ⊥ = cc in no)

refused_is : (r : Result Program Refusal) (number line : ℕ)
    → refused_as r number line ≡ true → (e : Refusal) × (r ≡ Err e) × (number_of e.reason ≡ number) × (e.line ≡ line)
refused_is (Ok p) number line h = absurd (let no : ⊥ = cc in no)
refused_is (Err e) number line h =
    let both = and_parts (number_of e.reason == number) (e.line == line) h in
    (e, refl, eqb-true _ _ both.0, eqb-true _ _ both.1)

module _ (text : List ℕ) where
  of_program : (f : Program → Bool) (P : Program → Type 0)
      → ((p : Program) → f p ≡ true → P p) → passed (granted (program_of text) f) ≡ passed true → OfProgram text P
  of_program f P holds h =
      let (p, is, test) = granted_is (program_of text) f (let same : granted (program_of text) f ≡ true = cc in same) in
      (p, is, holds p test)

  is_true : (c : Claim) → got (program_of text) c ≡ wanted c → IsTrue text c
  is_true is_read h =
      let (p, is, test) = of_program (λ p. true) (λ p. true ≡ true) (λ p h. h) h in
      (code_of p, sym (reads_as text) ∙ ap (told code_of) is)
  is_true (reads c) h = sym (reads_as text) ∙ cc
  is_true (refused number line) h =
      let (e, is, same, at) = refused_is (program_of text) number line cc in
      (e, sym (reads_as text) ∙ ap (told code_of) is, same, at)
  is_true (reaches b u) h =
      of_program _ _
      (λ p test.
      let both = and_parts (told_of.reach (buffered p) b) (told_of.reach (unbuffered p) u) test in
      (told_of.reach_is (buffered p) (buffered_is_lawful p) b both.0, told_of.reach_is (unbuffered p) (unbuffered_is_lawful p) u both.1)) h
  is_true (never cs) h = of_program _ _ (λ p. told_of.never_is p cs) h
  is_true (ends these those) h = of_program _ _ (λ p. told_of.ends_is (buffered p) (buffered_is_lawful p) these those) h
  is_true (present steps number) h = of_program _ _ (λ p. told_of.after_is (buffered p) steps number true) h
  is_true (absent steps number) h = of_program _ _ (λ p. told_of.after_is (buffered p) steps number false) h
  is_true (prints rows barred bytes) h = found.printing_is (barred_in (program_of text) barred) rows bytes cc
  is_true (plainly rows free) h = found.freedom_is (barred_in (program_of text) []) rows (Ok free) cc

-- lists of equal values have equal values one by one
one_by_one : {X Y : Type 0} (f g : X → Y) (xs : List X) → map f xs ≡ map g xs → All (λ x. f x ≡ g x) xs
one_by_one f g [] h = tt
one_by_one f g (x ∷ xs) h = (cc, one_by_one f g xs cc)

abbrev row_got : Example → List (List Outcome)
row_got e = map (λ text. map (got (program_of text)) e.claims) e.texts

abbrev row_wanted : Example → List (List Outcome)
row_wanted e = map (λ text. map wanted e.claims) e.texts

abbrev pub Passed : List Example → Type 0
Passed es = map row_got es ≡ map row_wanted es

text_holds : (e : Example) (text : List ℕ) → map (got (program_of text)) e.claims ≡ map wanted e.claims → All (IsTrue text) e.claims
text_holds e text h =
    all_weaker (λ c. got (program_of text) c ≡ wanted c) (IsTrue text) (is_true text) e.claims (one_by_one (got (program_of text)) wanted e.claims h)

row_holds : (e : Example) → row_got e ≡ row_wanted e → RowHolds e
row_holds e h =
    all_weaker (λ text. map (got (program_of text)) e.claims ≡ map wanted e.claims) (λ text. All (IsTrue text) e.claims) (text_holds e) e.texts
    (one_by_one (λ text. map (got (program_of text)) e.claims) (λ text. map wanted e.claims) e.texts h)

pub rows_hold : (es : List Example) → Passed es → All RowHolds es
rows_hold es h = all_weaker (λ e. row_got e ≡ row_wanted e) RowHolds row_holds es (one_by_one row_got row_wanted es h)
