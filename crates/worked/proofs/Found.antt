-- What solving with so many rows answers, by few rounds. Nothing is assumed.
-- Each value that is found is none where rounds do not end.
--   enough_in n set, fits_in n   whether the set tests as enough by n rounds; whether n rows suffice
--   first_enough n xs            the first of the sets xs that tests so
--   placed n u                   the answer of a search for the least set of the places u
--   printing s n                 what solving with n rows prints; freedom s n: what `plain` says
use Rattle.std.proofs.Common.{◌≡◌, ℕ, Bool, true, false, not, List, [], ◌∷◌, length, find, Some, None, Option, option_map, ok_or, Err, Result, nat_le, nat_lt, ap, ◌∙◌}
use Rattle.std.specs.List.{list_all}
use Rattle.listing.specs.declared.program.Program.{Program}
use Rattle.listing.specs.declared.refusal.Reason.{Reason}
use Rattle.listing.specs.declared.refusal.Refusal.{Refusal}
use Rattle.listing.specs.declared.refusal.Reason.TheVariants.{NoneEnough, RunListTooShort, TooFewRows}
use Rattle.machines.specs.declared.placement.Placement.{Placement}
use Rattle.machines.specs.Buffered.{buffered}
use Rattle.machines.specs.Laws.{Lawful}
use Rattle.machines.specs.Machines.{Meaning}
use Rattle.machines.specs.Places.{places_in}
use Rattle.machines.specs.Unbuffered.{unbuffered}
use Rattle.machines.specs.lawful.Machines.{buffered_is_lawful, fenced_is_lawful, unbuffered_is_lawful}
use Rattle.search.specs.Answers.{least_placed}
use Rattle.search.specs.Enough.{enough, fits}
use Rattle.search.specs.Faults.{faulty}
use Rattle.search.specs.Least.{candidates, least}
use Rattle.search.proofs.Keeping.{fenced}
use Rattle.job.specs.Answers.{plain_verdict}
use Rattle.job.specs.Checks.{unless_refused}
use Rattle.job.specs.Histories.{changed}
use Rattle.job.specs.States.{Held, State, keeping, open_places, placement}
use Rattle.job.proofs.Solving.{as_solution, solve_is}
use Rattle.worked.specs.Claims.{printed, printed_by}
use Rattle.worked.proofs.Ended.{in_rounds, reached_in, then, then_some}

module _ {S : Type 0} (p : Program) (m : Meaning S) where
  abbrev safe : List S → Option Bool
  safe ss = Some (list_all (λ s. not (faulty p m s)) ss)

  abbrev enough_in : ℕ → ℕ → Option Bool
  enough_in n set = then (reached_in (fenced m set) n) safe

  abbrev room : ℕ → List S → Option Bool
  room n ss = Some (nat_le (length ss) n)

  abbrev fits_in : ℕ → Option Bool
  fits_in n = then (reached_in m n) (room n)

  abbrev first_enough : ℕ → List ℕ → Option (Option ℕ)
  first_enough n [] = Some None
  first_enough n (x ∷ xs) = then (enough_in n x) (λ b. elim b [ true ↦ Some (Some x) | false ↦ first_enough n xs ])

  abbrev answer_of : Option ℕ → Option (Result Placement Reason)
  answer_of o = Some (ok_or (option_map placement o) NoneEnough)

  abbrev searched : ℕ → ℕ → Bool → Option (Result Placement Reason)
  searched n u b = elim b [ true ↦ then (first_enough n (candidates (places_in u 32))) answer_of | false ↦ Some (Err TooFewRows) ]

  abbrev placed : ℕ → ℕ → Option (Result Placement Reason)
  placed n u = then (fits_in n) (searched n u)

  module _ (l : Lawful p m) (n : ℕ) where
    enough_is : (set : ℕ) (b : Bool) → enough_in n set ≡ Some b → enough p m n set ≡ b
    enough_is set b e =
        let (ss, is, held) = then_some (reached_in (fenced m set) n) safe b e in
        let same : list_all (λ s. not (faulty p m s)) ss ≡ b = cc in
        ap (list_all (λ s. not (faulty p m s))) (in_rounds (fenced m set) (fenced_is_lawful set l) n ss is) ∙ same

    fits_is : (b : Bool) → fits_in n ≡ Some b → fits m n ≡ b
    fits_is b e =
        let (ss, is, held) = then_some (reached_in m n) (room n) b e in
        let same : nat_le (length ss) n ≡ b = cc in
        ap (λ xs. nat_le (length xs) n) (in_rounds m l n ss is) ∙ same

    first_is : (xs : List ℕ) (o : Option ℕ) → first_enough n xs ≡ Some o → find (enough p m n) xs ≡ o
    first_is [] o e = cc
    first_is (x ∷ xs) o e =
        let (b, is, held) = then_some (enough_in n x) (λ b. elim b [ true ↦ Some (Some x) | false ↦ first_enough n xs ]) o e in
        by (first_is xs o) b (enough_is x b is) held
      where
        by : (first_enough n xs ≡ Some o → find (enough p m n) xs ≡ o) → (b : Bool) → enough p m n x ≡ b
            → elim b [ true ↦ Some (Some x) | false ↦ first_enough n xs ] ≡ Some o → find (enough p m n) (x ∷ xs) ≡ o
        by rest true is e = let same : Some x ≡ o = cc in rw is same
        by rest false is e = rw is (rest e)

    placed_is : (u : ℕ) (r : Result Placement Reason) → placed n u ≡ Some r → least_placed p m n u ≡ r
    placed_is u r e = let (b, is, held) = then_some (fits_in n) (searched n u) r e in by b (fits_is b is) held
      where
        by : (b : Bool) → fits m n ≡ b → searched n u b ≡ Some r → least_placed p m n u ≡ r
        by true fit e =
            let (o, is, held) = then_some (first_enough n (candidates (places_in u 32))) answer_of r e in
            let same : ok_or (option_map placement o) NoneEnough ≡ r = cc in
            let least_is : least (enough p m n) u ≡ o = first_is (candidates (places_in u 32)) o is in
            rw (fit, least_is) same
        by false fit e = let same : Err TooFewRows ≡ r = cc in rw fit same

abbrev shown : Held → Result Placement Reason → Option (List ℕ)
shown h r = let a = as_solution r in Some (printed a (changed a keeping (Some h)))

abbrev pub printing : State → ℕ → Option (List ℕ)
printing None rows = None
printing (Some h) rows = then (placed h.program (buffered h.program) rows (open_places h)) (shown h)

pub printing_is : (s : State) (rows : ℕ) (bytes : List ℕ) → printing s rows ≡ Some bytes → printed_by s rows ≡ bytes
printing_is None rows bytes e = absurd (let no : ⊥ = cc in no)
printing_is (Some h) rows bytes e =
    let p = h.program in
    let (r, is, held) = then_some (placed p (buffered p) rows (open_places h)) (shown h) bytes e in
    let same : printed (as_solution r) (changed (as_solution r) keeping (Some h)) ≡ bytes = cc in
    let answer = solve_is buffered h rows ∙ ap as_solution (placed_is p (buffered p) (buffered_is_lawful p) rows (open_places h) r is) in
    ap (λ a. printed a (changed a keeping (Some h))) answer ∙ same

abbrev answered : ℕ → Bool → Bool → Result Bool Refusal
answered rows fit free = unless_refused ((RunListTooShort, nat_lt rows rows) ∷ (TooFewRows, not fit) ∷ []) free

abbrev with_fit : ℕ → Option Bool → Bool → Option (Result Bool Refusal)
with_fit rows free fit = then free (λ b. Some (answered rows fit b))

abbrev pub freedom : State → ℕ → Option (Result Bool Refusal)
freedom None rows = None
freedom (Some h) rows = let m = unbuffered h.program in then (fits_in h.program m rows) (with_fit rows (enough_in h.program m rows 0))

pub freedom_is : (s : State) (rows : ℕ) (r : Result Bool Refusal) → freedom s rows ≡ Some r → plain_verdict s rows rows ≡ r
freedom_is None rows r e = absurd (let no : ⊥ = cc in no)
freedom_is (Some h) rows r e =
    let p = h.program in
    let m = unbuffered p in
    let l = unbuffered_is_lawful p in
    let (fit, fit_is, held) = then_some (fits_in p m rows) (with_fit rows (enough_in p m rows 0)) r e in
    let (free, free_is, last) = then_some (enough_in p m rows 0) (λ b. Some (answered rows fit b)) r held in
    let same : answered rows fit free ≡ r = cc in
    rw (fits_is p m l rows fit fit_is, enough_is p m l rows 0 free free_is) same
