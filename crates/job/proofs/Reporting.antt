-- A report has a line for each place of its set, and numbers are printed in decimal. Nothing is assumed.
use Rattle.std.proofs.Common.{◌≡◌, ℕ, zero, suc, ◌+◌, ◌-◌, ◌*◌, ◌/◌, ◌%◌, ◌^◌, ◌<◌, ◌≤◌, ◌==◌, Bool, true, false, not, ◌&&◌, List, [], ◌∷◌, length, cond, Some, None, Option, count_ones, refl, sym, ap, subst, ◌∙◌, ⊎_elim, eq-eqb, leb, arith}
use Rattle.std.proofs.lemmas.Bool.{and_parts, both_ways, cond_both, eqb-true, cases_eq, cases_lt, ne_eqb, lt-leb, le-leb}
use Rattle.std.proofs.lemmas.Nat.{zero_from_ones}
use Rattle.std.proofs.lemmas.List.FromFn.{length-range_with_len}
use Rattle.std.specs.List.{filter, range_with_len}
use lib.Count.{count_trailing_zeros}
use Rattle.listing.specs.declared.refusal.Reason.{Reason}
use Rattle.listing.specs.declared.refusal.Reason.TheVariants.{TextTooLong}
use Rattle.listing.specs.declared.program.Program.{Program}
use Rattle.listing.specs.declared.refusal.Refusal.{Refusal}
use Rattle.std.proofs.lemmas.Option.{slice_get_within}
use Rattle.listing.proofs.Numbering.{places_count}
use Rattle.listing.proofs.Programs.{few_threads, length_fits}
use Rattle.listing.specs.Reasons.{number_of}
use Rattle.listing.specs.Code.{place_of, places, thread_at}
use Rattle.machines.specs.Places.{has, from_place, lowest, places_in, removing}
use Rattle.machines.proofs.Masks.{fewer_without, removing_within}
use Rattle.machines.proofs.Sets.{set_laws}
use Rattle.search.proofs.PlaceLists.{places_rise, place_of as held_place, of_place, no_place, next_place, from_first}
use Rattle.job.specs.Answers.{solution}
use Rattle.job.specs.Reports.{Decimal, PlaceLine, PlaceLines, Printing, RefusalLine, Reported}
use Rattle.job.specs.Text.{before, befores, decimal, line_of, refusal, report}
use Rattle.job.proofs.Befores.{befores_first, befores_none}
use Rattle.job.proofs.Decimal.{single, tenth}

-- digits, with as many steps as the number has
decimal_to : (k n : ℕ) → n ≤ k → n < 100000 → Decimal n (decimal n)
decimal_to zero n low small = let none : n ≡ 0 = omega (arith, low) in subst (Decimal n) (sym (single n (omega (arith, none)))) (Decimal.digit n (omega (arith, none)))
decimal_to (suc k) n low small =
    ⊎_elim
    (λ lt. subst (Decimal n) (sym (single n lt)) (Decimal.digit n lt))
    (λ le.
    let whole : n / 10 * 10 + n % 10 ≡ n = omega arith in
    subst (λ m. Decimal m (decimal n)) whole
    (subst (Decimal (n / 10 * 10 + n % 10)) (sym (tenth n le small))
    (Decimal.more (n % 10) (omega (arith, le)) (omega arith) (decimal_to k (n / 10) (omega (arith, low, le)) (omega (arith, small))))))
    (cases_lt n 10)

in_decimal : (n : ℕ) → n < 100000 → Decimal n (decimal n)
in_decimal n small = decimal_to n n (omega arith) small

fewer_kept : (f : ℕ → Bool) (xs : List ℕ) → length (filter f xs) ≤ length xs
fewer_kept f [] = omega arith
fewer_kept f (x ∷ xs) =
    let rest = fewer_kept f xs in
    cond_both (f x) (x ∷ filter f xs) (filter f xs) (λ l. length l ≤ length (x ∷ xs)) (λ h. omega (arith, rest)) (λ h. omega (arith, rest))

few_places : (set : ℕ) → set < 2 ^ 32 → count_ones set ≤ 32
unfolding places_in
few_places set small = omega (arith, set_laws.count set small, fewer_kept (has set) (range_with_len 0 32), length-range_with_len 0 32)

empty_from : (s : ℕ) → lowest s ≡ None → s ≡ 0
empty_from s e = by (s == 0) refl e
  where
    by : (b : Bool) → (s == 0) ≡ b → cond b None (Some (count_trailing_zeros 32 s)) ≡ None → s ≡ 0
    by true h e = eqb-true s 0 h
    by false h e = cc

numbers_low : (why : Reason) → number_of why ≤ 16
numbers_low TextTooLong = omega arith
numbers_low _ = omega arith

-- a set without its lowest place is the part of it past that place
past_lowest : (s low : ℕ) → s < 2 ^ 32 → lowest s ≡ Some low → removing s low ≡ from_place s (low + 1)
past_lowest s low small e =
    let l = (set_laws.lowest s low small).0 e in
    set_laws.known (removing s low) (from_place s (low + 1)) (λ q.
    set_laws.removing s low q ∙ same (has s q) q refl (l.1 q) ∙ sym (set_laws.from s (low + 1) q))
  where
    true_only : (q : ℕ) → has s q ≡ true → (q < low → has s q ≡ false) → not (low == q) ≡ leb (low + 1) q
    true_only q h below =
        ⊎_elim
        (λ lt. absurd (let no = both_ways (has s q) (below lt) h in no))
        (λ le.
        ⊎_elim
        (λ is. ap not (eq-eqb low q is) ∙ sym (lt-leb (low + 1) q (omega (arith, is))))
        (λ other. ap not (ne_eqb low q other) ∙ sym (le-leb (low + 1) q (omega (arith, le, other))))
        (cases_eq low q))
        (cases_lt q low)

    same : (b : Bool) (q : ℕ) → has s q ≡ b → (q < low → has s q ≡ false) → (b && not (low == q)) ≡ (b && leb (low + 1) q)
    same true q h below = true_only q h below
    same false q h below = refl

-- a line for each place of the set, lowest first
module _ (p : Program) where
  place_line : (q : ℕ) → q < places p → PlaceLine p q (before p q)
  unfolding before
  place_line q there =
      let spot = (places_count p).place_found q there in
      let listed = spot.listed in
      let inside = ((places_count p).lengths (thread_at p q) (q - place_of p (thread_at p q) 0)).0 listed in
      let thread = slice_get_within p.threads (thread_at p q) listed.thread listed.is in
      PlaceLine.before inside spot.is (in_decimal (thread_at p q) (omega (arith, thread, few_threads p))) (in_decimal (q - place_of p (thread_at p q) 0) (omega (arith, inside, length_fits p (thread_at p q))))

  -- the lines of a set whose lowest place is known, from those of the set without it
  with_lowest : (k s : ℕ) (o : Option ℕ) → s < 2 ^ 32 → lowest s ≡ o → ((q : ℕ) → has s q ≡ true → q < places p)
      → ((low : ℕ) → o ≡ Some low → PlaceLines p (places_in (removing s low) 32) (befores p k (removing s low))) → (s ≡ 0 → PlaceLines p (places_in s 32) (befores p (suc k) s))
      → PlaceLines p (places_in s 32) (befores p (suc k) s)
  with_lowest k s None small e there rest none = none (empty_from s e)
  with_lowest k s (Some low) small e there rest none =
      let mine = ((set_laws.lowest s low small).0 e).0 in
      let whole : places_in s 32 ≡ low ∷ places_in (removing s low) 32
      = ap (λ u. places_in u 32) (sym (from_first s)) ∙ next_place s 0 low small (ap lowest (from_first s) ∙ e)
      ∙ ap (λ u. low ∷ places_in u 32) (sym (past_lowest s low small e)) in
      rw (whole, befores_first p k s low (sym e)) (PlaceLines.next (place_line low (there low mine)) (rest low refl))

  lines_of_none : (k s : ℕ) → s ≡ 0 → PlaceLines p (places_in s 32) (befores p k s)
  lines_of_none k s e = rw (e, befores_none p k 0 refl, no_place 0 refl) PlaceLines.none

  lines : (k s : ℕ) → s < 2 ^ 32 → count_ones s ≤ k → ((q : ℕ) → has s q ≡ true → q < places p) → PlaceLines p (places_in s 32) (befores p k s)
  lines zero s small few there = lines_of_none 0 s (zero_from_ones s (omega (arith, few)))
  lines (suc k) s small few there =
      with_lowest k s (lowest s) small refl there
      (λ low e.
      let mine = ((set_laws.lowest s low small).0 e).0 in
      lines k (removing s low) (omega (arith, removing_within s low, small)) (omega (arith, fewer_without s low mine, few))
      (λ q h. there q (and_parts _ _ (sym (set_laws.removing s low q) ∙ h)).0))
      (lines_of_none (suc k) s)

  reported : (set : ℕ) → set < 2 ^ 32 → ((q : ℕ) → has set q ≡ true → q < places p) → Reported p set (report p (solution set))
  unfolding report
  reported set small there =
      let many = set_laws.count set small in
      record {
        places = places_in set 32;
        ascending = places_rise set 32;
        theirs = λ q. (of_place set q small, held_place set 32 q);
        count = decimal (count_ones set);
        counted = subst (λ n. Decimal n (decimal (count_ones set))) many (in_decimal (count_ones set) (omega (arith, few_places set small)));
        lines = befores p 32 set;
        named = lines 32 set small (few_places set small) there;
        is = refl;
      }

line_printed : (e : Refusal) → e.line < 65536 → RefusalLine e (line_of e)
unfolding refusal
line_printed e small =
    record {
      number = decimal (number_of e.reason);
      numbered = in_decimal (number_of e.reason) (omega (arith, numbers_low e.reason));
      line = decimal e.line;
      lined = in_decimal e.line (omega (arith, small));
      is = refl;
    }

pub printing : Printing
printing = record { reports = reported; refusals = line_printed }
