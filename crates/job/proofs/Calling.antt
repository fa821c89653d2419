-- What a call as a value answers and leaves, from what the call itself does. Nothing is assumed.
use Rattle.std.proofs.Common.{◌≡◌, ℕ, List, length, Option, Ok, Result, Bor, sym, ap, subst, ◌∙◌}
use Rattle.listing.specs.declared.program.Program.{Program}
use Rattle.listing.specs.declared.refusal.Refusal.{Refusal}
use Rattle.listing.specs.Reading.{told}
use Rattle.machines.specs.declared.picture.Picture.{Picture}
use Rattle.machines.specs.Machines.{Meaning}
use Rattle.search.specs.Enough.{rows_lent}
use Rattle.job.specs.declared.call.Answer.{Answer}
use Rattle.job.specs.declared.call.Answer.TheVariants as answer
use Rattle.job.specs.declared.call.Call.{Call}
use Rattle.job.specs.declared.call.Call.TheVariants as call
use Rattle.job.specs.declared.solution.Solution.{Solution}
use Rattle.job.specs.Answers.{PlainRun, ShowRun, TestRun}
use Rattle.job.specs.Calls.{Lists, Outcome, WrittenRun, outcome}
use Rattle.job.specs.Lent.{Lent, lent, after_read, after_bar, after_free, after_solve, after_test, after_show, after_plain, after_report}
use Rattle.job.specs.States.{State, view_of}

abbrev pub outcome_of : {S : Type 0} → Result Answer Refusal → State → Lists S → Outcome S
outcome_of r s l = record { result = r; state = s; lists = l }

module _ {S : Type 0} (M : Program → Meaning S) (s : State) (l : Lists S) where
  -- what is to be shown of a call
  abbrev pub Made : Call → Outcome S → Type 0
  Made c o = (free : Lists S) × WrittenRun M s c l free.run × (o ≡ outcome M s c l free)

  module _ {c : Call} {mapped : Result Answer Refusal} {then : State} where
    pub of_read : {text : Bor (List ℕ)} {r : Result ℕ Refusal} → c ≡ call.Read text → mapped ≡ told answer.Places r → (r, then) ≡ after_read M s text.now → Made c (outcome_of mapped then l)
    of_read {text = text} is m e = subst (λ x. Made x (outcome_of mapped then l)) (sym is)
        (l, tt, ap (λ x. outcome_of x then l) m ∙ ap (λ (a : Result ℕ Refusal × State). outcome_of (told answer.Places a.0) a.1 l) e)

    pub of_bar : {q : ℕ} {r : Result (Unit {0}) Refusal} → c ≡ call.Bar q → mapped ≡ told (λ _. answer.Barred) r → (r, then) ≡ after_bar M s q → Made c (outcome_of mapped then l)
    of_bar is m e = subst (λ x. Made x (outcome_of mapped then l)) (sym is)
        (l, tt, ap (λ x. outcome_of x then l) m ∙ ap (λ (a : Result (Unit {0}) Refusal × State). outcome_of (told (λ _. answer.Barred) a.0) a.1 l) e)

    pub of_free : {q : ℕ} {r : Result (Unit {0}) Refusal} → c ≡ call.Free q → mapped ≡ told (λ _. answer.Freed) r → (r, then) ≡ after_free M s q → Made c (outcome_of mapped then l)
    of_free is m e = subst (λ x. Made x (outcome_of mapped then l)) (sym is)
        (l, tt, ap (λ x. outcome_of x then l) m ∙ ap (λ (a : Result (Unit {0}) Refusal × State). outcome_of (told (λ _. answer.Freed) a.0) a.1 l) e)

  abbrev solving : List S → List ℕ → Lists S
  solving rows notes = record { rows = rows; pictures = l.pictures; notes = notes; run = l.run; out = l.out }

  abbrev searching : List S → List ℕ → List ℕ → Lists S
  searching rows notes run = record { rows = rows; pictures = l.pictures; notes = notes; run = run; out = l.out }

  abbrev plainly : List Picture → List ℕ → List ℕ → Lists S
  plainly pictures notes run = record { rows = l.rows; pictures = pictures; notes = notes; run = run; out = l.out }

  module _ {c : Call} {mapped : Result Answer Refusal} (rows : List S) (notes : List ℕ) where
    pub of_solve : {then : State} {r : Result Solution Refusal} → c ≡ call.Solve → mapped ≡ told answer.Solved r → (r, then, rows, notes) ≡ after_solve M s l.rows l.notes rows notes → Made c (outcome_of mapped then (solving rows notes))
    of_solve {then = then} is m e = subst (λ x. Made x (outcome_of mapped then (solving rows notes))) (sym is) (
      solving rows notes,
      tt,
      ap (λ x. outcome_of x then (solving rows notes)) m
          ∙ ap (λ (a : Result Solution Refusal × State × List S × List ℕ). outcome_of (told answer.Solved a.0) a.1 (record { rows = a.2; pictures = l.pictures; notes = a.3; run = l.run; out = l.out })) e,
    )

    module _ (run : List ℕ) where
      pub of_test : {qs : Bor (List ℕ)} {r : Result (Option ℕ) Refusal} → c ≡ call.Test qs → mapped ≡ told answer.Tested r
          → (ns : List ℕ) × TestRun M s qs.now (rows_lent l.rows l.notes) (length l.run) ns × ((r, s, lent rows notes run) ≡ after_test M s qs.now (lent l.rows l.notes l.run) (lent rows notes ns))
          → Made c (outcome_of mapped s (searching rows notes run))
      of_test is m (ns, kept, e) = subst (λ x. Made x (outcome_of mapped s (searching rows notes run))) (sym is) (
        searching rows notes ns,
        kept,
        ap (λ x. outcome_of x s (searching rows notes run)) m
            ∙ ap (λ (a : Result (Option ℕ) Refusal × State × Lent S). outcome_of (told answer.Tested a.0) a.1 (record { rows = a.2.rows; pictures = l.pictures; notes = a.2.notes; run = a.2.run; out = l.out })) e,
      )

      pub of_show : {q : ℕ} {r : Result ℕ Refusal} → c ≡ call.Show q → mapped ≡ told answer.Shown r
          → (ns : List ℕ) × ShowRun M s q (rows_lent l.rows l.notes) (length l.run) ns × ((r, s, lent rows notes run) ≡ after_show M s q (lent l.rows l.notes l.run) (lent rows notes ns))
          → Made c (outcome_of mapped s (searching rows notes run))
      of_show is m (ns, kept, e) = subst (λ x. Made x (outcome_of mapped s (searching rows notes run))) (sym is) (
        searching rows notes ns,
        kept,
        ap (λ x. outcome_of x s (searching rows notes run)) m
            ∙ ap (λ (a : Result ℕ Refusal × State × Lent S). outcome_of (told answer.Shown a.0) a.1 (record { rows = a.2.rows; pictures = l.pictures; notes = a.2.notes; run = a.2.run; out = l.out })) e,
      )

  module _ {c : Call} {mapped : Result Answer Refusal} (pictures : List Picture) (notes run : List ℕ) where
    pub of_plain : {r : Result (Option ℕ) Refusal} → c ≡ call.Plain → mapped ≡ told answer.Plain r
        → (ns : List ℕ) × PlainRun s (rows_lent l.pictures l.notes) (length l.run) ns × ((r, s, lent pictures notes run) ≡ after_plain M s (lent l.pictures l.notes l.run) (lent pictures notes ns))
        → Made c (outcome_of mapped s (plainly pictures notes run))
    of_plain is m (ns, kept, e) = subst (λ x. Made x (outcome_of mapped s (plainly pictures notes run))) (sym is) (
      plainly pictures notes ns,
      kept,
      ap (λ x. outcome_of x s (plainly pictures notes run)) m
          ∙ ap (λ (a : Result (Option ℕ) Refusal × State × Lent Picture). outcome_of (told answer.Plain a.0) a.1 (record { rows = l.rows; pictures = a.2.rows; notes = a.2.notes; run = a.2.run; out = l.out })) e,
    )

  module _ {c : Call} where
    pub of_look : {mapped : Result Answer Refusal} → c ≡ call.Look → mapped ≡ Ok (answer.Seen (view_of s)) → Made c (outcome_of mapped s l)
    of_look {mapped = mapped} is m = subst (λ x. Made x (outcome_of mapped s l)) (sym is) (l, tt, ap (λ x. outcome_of x s l) m)

    pub of_report : {mapped : Result Answer Refusal} {r : Result ℕ Refusal} (out : List ℕ) → c ≡ call.Report → mapped ≡ told answer.Reported r → (r, out) ≡ after_report s l.out
        → Made c (outcome_of mapped s (record { rows = l.rows; pictures = l.pictures; notes = l.notes; run = l.run; out = out }))
    of_report {mapped = mapped} out is m e =
        let after : Lists S = record { rows = l.rows; pictures = l.pictures; notes = l.notes; run = l.run; out = out } in
        subst (λ x. Made x (outcome_of mapped s after)) (sym is) (
          l,
          tt,
          ap (λ x. outcome_of x s after) m
              ∙ ap (λ (a : Result ℕ Refusal × List ℕ). outcome_of (told answer.Reported a.0) s (record { rows = l.rows; pictures = l.pictures; notes = l.notes; run = l.run; out = a.1 })) e,
        )
