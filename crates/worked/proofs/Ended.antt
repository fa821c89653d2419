-- What a machine reaches, from the first round on that the next one adds nothing to. Nothing is assumed.
--   last f k ss next    the first of f rounds from the round k on that the next one adds nothing to, and what it holds
--   ended m             that of the first forty; reached_in m n: what n rounds hold, if there is one
--   on o f              there is a value, and it passes the test f; then o f: what f makes of it, if there is one
--   Held m ss           ss are what the machine reaches, each standing once
use Rattle.std.proofs.Common.{◌≡◌, ◌≢◌, ◌↔◌, ℕ, zero, suc, ◌≤◌, Bool, true, false, List, [], ◌∷◌, length, AllPairs, Contains, Some, None, Option, ◌==◌, nat_le, refl, sym, ap, ◌∙◌, subst, ⊎_elim, arith}
use Rattle.std.proofs.lemmas.Bool.{cases_eq, leb-true}
use Rattle.std.proofs.lemmas.List.Elements.{All-contains}
use Rattle.listing.specs.declared.program.Program.{Program}
use Rattle.machines.specs.Laws.{Lawful}
use Rattle.machines.specs.Machines.{Meaning, Reached}
use Rattle.machines.specs.Rounds.{round, rounds, settles}
use Rattle.machines.proofs.Rounded.{all_in, all_reached, each_once, no_more}

abbrev pub on : {X : Type 0} → Option X → (X → Bool) → Bool
on None f = false
on (Some x) f = f x

pub on_some : {X : Type 0} (o : Option X) (f : X → Bool) → on o f ≡ true → (x : X) × (o ≡ Some x) × (f x ≡ true)
on_some None f h = absurd (let no : ⊥ = cc in no)
on_some (Some x) f h = (x, refl, h)

abbrev pub then : {X Y : Type 0} → Option X → (X → Option Y) → Option Y
then None f = None
then (Some x) f = f x

pub then_some : {X Y : Type 0} (o : Option X) (f : X → Option Y) (y : Y) → then o f ≡ Some y → (x : X) × (o ≡ Some x) × (f x ≡ Some y)
then_some None f y h = absurd (let no : ⊥ = cc in no)
then_some (Some x) f y h = (x, refl, h)

module _ {S : Type 0} (m : Meaning S) where
  abbrev last : ℕ → ℕ → List S → List S → Option (ℕ × List S)
  last zero k ss next = None
  last (suc f) k ss next = elim (length next == length ss) [ true ↦ Some (k, ss) | false ↦ last f (suc k) next (round m next next) ]

  abbrev pub ended : Option (ℕ × List S)
  ended = let first = m.start ∷ [] in last 40 0 first (round m first first)

  abbrev within : ℕ → ℕ × List S → Option (List S)
  within n r = elim (nat_le r.0 n) [ true ↦ Some r.1 | false ↦ Some (rounds m n) ]

  abbrev pub reached_in : ℕ → Option (List S)
  reached_in n = then ended (within n)

  abbrev Settled : ℕ × List S → Type 0
  Settled r = (settles m r.0 ≡ true) × (rounds m r.0 ≡ r.1)

  last_is : (f k : ℕ) (ss next : List S) (r : ℕ × List S) → rounds m k ≡ ss → rounds m (suc k) ≡ next
      → last f k ss next ≡ Some r → Settled r
  last_is zero k ss next r here there e = absurd (let no : ⊥ = cc in no)
  last_is (suc f) k ss next r here there e =
      let later = last_is f (suc k) next (round m next next) r there (ap (λ l. round m l l) there) in
      by later (length next == length ss) refl e
    where
      by : (last f (suc k) next (round m next next) ≡ Some r → Settled r) → (b : Bool) → (length next == length ss) ≡ b
          → elim b [ true ↦ Some (k, ss) | false ↦ last f (suc k) next (round m next next) ] ≡ Some r → Settled r
      by later true same e =
          let is : (k, ss) ≡ r = cc in
          let adds : settles m k ≡ true = ap (λ l. length l == length (rounds m k)) there ∙ (ap (λ l. length next == length l) here ∙ same) in
          subst Settled is (adds, here)
      by later false more e = later e

  ended_is : (r : ℕ × List S) → ended ≡ Some r → Settled r
  ended_is r e = last_is 40 0 _ _ r refl refl e

-- what the machine reaches, each standing once
pub record Held {S : Type 0} (m : Meaning S) (ss : List S) : Type 0 where
  pub once : AllPairs ◌≢◌ ss
  pub each : (s : S) → Reached m s ↔ Contains ss s

module _ {S : Type 0} {p : Program} (m : Meaning S) (l : Lawful p m) where
  held : (k : ℕ) (ss : List S) → settles m k ≡ true → rounds m k ≡ ss → Held m ss
  held k ss h e = subst (Held m) e (record {
    once = each_once m l.same l.numbers k;
    each = λ s. (all_in m l.same l.numbers k h s, All-contains (Reached m) (rounds m k) s (all_reached m l.same l.numbers k));
  })

  pub all_held : (r : ℕ × List S) → ended m ≡ Some r → Held m r.1
  all_held r e = let is = ended_is m r e in held r.0 r.1 is.0 is.1

  -- rounds are the same from the round k on
  same_later : (k n : ℕ) → settles m k ≡ true → k ≤ n → rounds m n ≡ rounds m k
  same_later k zero h le = ap (rounds m) (let none : 0 ≡ k = omega arith in none)
  same_later k (suc n) h le = ⊎_elim
      (λ same. ap (rounds m) (sym same))
      (λ other. ap (λ ss. round m ss ss) (same_later k n h (omega (arith, le, other))) ∙ no_more m l.same l.numbers k h)
      (cases_eq k (suc n))

  pub in_rounds : (n : ℕ) (ss : List S) → reached_in m n ≡ Some ss → rounds m n ≡ ss
  in_rounds n ss e = let (r, is, held) = then_some (ended m) (within m n) ss e in by r (ended_is m r is) (nat_le r.0 n) refl held
    where
      by : (r : ℕ × List S) → Settled m r → (b : Bool) → nat_le r.0 n ≡ b
          → elim b [ true ↦ Some r.1 | false ↦ Some (rounds m n) ] ≡ Some ss → rounds m n ≡ ss
      by r s true le e = let same : r.1 ≡ ss = cc in same_later r.0 n s.0 (leb-true _ _ le) ∙ (s.1 ∙ same)
      by r s false le e = cc
