-- Places count the instructions of a listing, and registers and variables are told apart by their numbers. Assumes nothing.
use Rattle.std.proofs.Common.{◌≡◌, ℕ, zero, suc, ◌+◌, ◌-◌, ◌<◌, ◌≤◌, true, false, ltb, List, [], ◌∷◌, length, get_or, take, sym, refl, ap, ◌∙◌, subst, zero-le, arith, lt-ltb}
use Rattle.std.proofs.lemmas.Bool.{cond-false, cond-true, le-ltb, ltb-true, ltb-false}
use Rattle.std.proofs.lemmas.List.{take_all}
use Rattle.std.proofs.lemmas.Option.{get_or_from_slice_get, slice_get-get_or}
use denote.Enum.Bare.{tag_one}
use denote.Enum.Declared.{tag_of}
use Rattle.listing.specs.declared.code.Register.{Register}
use Rattle.listing.specs.declared.code.Register.TheVariants as register
use Rattle.listing.specs.declared.code.Variable.{Variable}
use Rattle.listing.specs.declared.code.Variable.TheVariants as variable
use Rattle.listing.specs.contracts.code.Register.{the_type as registers}
use Rattle.listing.specs.contracts.code.Variable.{the_type as variables}
use Rattle.listing.specs.declared.program.Program.{Program}
use Rattle.listing.specs.Code.{index, slot, length_of, place_of, places, thread_at}
use Rattle.listing.specs.Limits.{together}
use Rattle.listing.specs.Names.{digit, letter}
use Rattle.listing.specs.Numbering.{Counted, IsPlace, Listed, PlacesCount, RegistersApart, VariablesApart}
use Rattle.listing.proofs.Grown.{together_is}
use Rattle.listing.proofs.Programs.{few_threads, thread_is}

-- the first lists, and one more
take_more : {X : Type 0} (ls : List (List X)) (t : ℕ) → together (take (suc t) ls) ≡ together (take t ls) + length (get_or ls t [])
take_more [] zero = refl
take_more [] (suc t) = refl
take_more (l ∷ ls) zero = omega arith
take_more (l ∷ ls) (suc t) = omega (arith, take_more ls t)

take_rises : {X : Type 0} (ls : List (List X)) (t u : ℕ) → t ≤ u → together (take t ls) ≤ together (take u ls)
take_rises [] zero u h = zero-le
take_rises [] (suc t) u h = zero-le
take_rises (l ∷ ls) zero u h = zero-le
take_rises (l ∷ ls) (suc t) zero h = absurd (omega arith)
take_rises (l ∷ ls) (suc t) (suc u) h = omega (arith, take_rises ls t u (omega arith))

-- the list that holds the n-th element of some lists
spot : {X : Type 0} (ls : List (List X)) (n : ℕ) → n < together ls → (t : ℕ) × (together (take t ls) ≤ n) × (n < together (take (suc t) ls))
spot [] n h = absurd (omega arith)
spot (l ∷ ls) n h =
    elim (ltb n (length l)) as (λ b. ltb n (length l) ≡ b → (t : ℕ) × (together (take t (l ∷ ls)) ≤ n) × (n < together (take (suc t) (l ∷ ls)))) [
      | true ↦ λ here. (0, zero-le, omega (arith, ltb-true n (length l) here))
      | false ↦ λ later.
          let high = ltb-false n (length l) later in
          let rest = spot ls (n - length l) (omega arith) in
          (suc rest.0, omega (arith, high, rest.1), omega (arith, high, rest.2))
    ] refl

module _ (p : Program) where
  -- the instructions of the threads before thread t
  abbrev before : ℕ → ℕ
  before t = together (take t p.threads)

  within : (t i : ℕ) → Listed p t i → i < length_of p t
  within t i l = omega (arith, ap length (get_or_from_slice_get p.threads t l.thread [] l.is), l.there)

  listed : (t i : ℕ) → i < length_of p t → Listed p t i
  listed t i h =
      record { thread = get_or p.threads t []; is = slice_get-get_or p.threads t [] (thread_is p.threads t i h); there = h }

  few : (t i : ℕ) → Listed p t i → t < 4
  few t i l = omega (arith, thread_is p.threads t i (within t i l), few_threads p)

  below_next : (t i : ℕ) → Listed p t i → place_of p t i < before (suc t)
  below_next t i l = omega (arith, take_more p.threads t, within t i l)

  -- a place between the first of a thread and the first of the next
  thread_between : (n t : ℕ) → t < 4 → before t ≤ n → n < before (suc t) → thread_at p n ≡ t
  thread_between n zero few low high = cond-true (ltb n (place_of p 1 0)) _ _ (lt-ltb n _ (omega arith))
  thread_between n (suc zero) few low high =
      cond-false (ltb n (place_of p 1 0)) _ _ (le-ltb n _ (omega arith))
      ∙ cond-true (ltb n (place_of p 2 0)) _ _ (lt-ltb n _ (omega arith))
  thread_between n (suc (suc zero)) few low high =
      cond-false (ltb n (place_of p 1 0)) _ _ (le-ltb n _ (omega (arith, take_rises p.threads 1 2 (omega arith))))
      ∙ (cond-false (ltb n (place_of p 2 0)) _ _ (le-ltb n _ (omega arith))
      ∙ cond-true (ltb n (place_of p 3 0)) _ _ (lt-ltb n _ (omega arith)))
  thread_between n (suc (suc (suc zero))) few low high =
      cond-false (ltb n (place_of p 1 0)) _ _ (le-ltb n _ (omega (arith, take_rises p.threads 1 3 (omega arith))))
      ∙ (cond-false (ltb n (place_of p 2 0)) _ _ (le-ltb n _ (omega (arith, take_rises p.threads 2 3 (omega arith))))
      ∙ cond-false (ltb n (place_of p 3 0)) _ _ (le-ltb n _ (omega arith)))
  thread_between n (suc (suc (suc (suc t)))) few low high = absurd (omega arith)

  thread_found : (t i : ℕ) → Listed p t i → thread_at p (place_of p t i) ≡ t
  thread_found t i l = thread_between (place_of p t i) t (few t i l) (omega arith) (below_next t i l)

  all_places : places p ≡ together p.threads
  all_places = omega (arith, ap together (take_all 4 p.threads (few_threads p)))

  found : (n : ℕ) → n < places p → (t : ℕ) × IsPlace p n t (n - place_of p t 0)
  found n h =
      let s = spot p.threads n (omega (arith, all_places)) in
      let l = listed s.0 (n - place_of p s.0 0) (omega (arith, take_more p.threads s.0, s.1, s.2)) in
      (s.0, record { listed = l; is = omega (arith, s.1) })

  place_found : (n : ℕ) → n < places p → IsPlace p n (thread_at p n) (n - place_of p (thread_at p n) 0)
  place_found n h =
      let f = found n h in
      let at = ap (thread_at p) (sym f.1.is) ∙ thread_found f.0 _ f.1.listed in
      subst (λ t. IsPlace p n t (n - place_of p t 0)) (sym at) f.1

  one_place : (n t i u j : ℕ) → IsPlace p n t i → IsPlace p n u j → (t ≡ u) × (i ≡ j)
  one_place n t i u j a b =
      let both = a.is ∙ sym b.is in
      let same : t ≡ u = sym (thread_found t i a.listed) ∙ (ap (thread_at p) both ∙ thread_found u j b.listed) in
      (same, omega (arith, both, ap before same))

  counted : Counted p
  counted =
      record {
        first = refl;
        next = λ t i l. omega arith;
        over = λ t i l n.
            let ends = ap length (get_or_from_slice_get p.threads t l.thread [] l.is) in
            let more : t + 1 ≡ suc t = omega arith in
            omega (arith, ap before more, take_more p.threads t, ends, l.ends);
        below = λ t i l. omega (arith, below_next t i l, take_rises p.threads (suc t) 4 (few t i l));
        some_place = λ n h. let f = found n h in (f.0, _, f.1);
        one_place = one_place;
        thread_found = thread_found;
        place_found = place_found;
        all = all_places ∙ sym (together_is p.threads);
        lengths = λ t i. (within t i, listed t i);
      }

pub places_count : PlacesCount
places_count = counted

-- a register's number is that of its case, and a variable's too
slot_is : (r : Register) → slot r ≡ tag_of registers r
slot_is register.R0 = refl
slot_is _ = refl

index_is : (v : Variable) → index v ≡ tag_of variables v
index_is variable.A = refl
index_is _ = refl

digit_is : (r : Register) → digit r ≡ 48 + slot r
digit_is register.R0 = refl
digit_is _ = refl

letter_is : (v : Variable) → letter v ≡ 97 + index v
letter_is variable.A = refl
letter_is _ = refl

pub registers_apart : RegistersApart
registers_apart =
    record { apart = λ q r. (λ e. tag_one registers tt q r (sym (slot_is q) ∙ (e ∙ slot_is r)), ap slot); named = digit_is }

pub variables_apart : VariablesApart
variables_apart =
    record { apart = λ v w. (λ e. tag_one variables tt v w (sym (index_is v) ∙ (e ∙ index_is w)), ap index); named = letter_is }
