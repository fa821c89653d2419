-- What fails its test is astray, and the other way round. Assumes nothing.
use Rattle.std.proofs.Common.{◌≡◌, ℕ, suc, Bool, true, false, ◌&&◌, leb, ltb, List, [], ◌∷◌, length, get_or, Any, inl, inr, refl, ap, subst, arith}
use Rattle.std.proofs.lemmas.Bool.{and_left, and_right, both_ways, leb-false, lt-leb, le-ltb, ltb-true, ltb-false}
use Rattle.std.proofs.lemmas.List.Elements.{All-from_recursion}
use Rattle.std.proofs.lemmas.Option.{get_or_from_slice_get, slice_get-get_or}
use Rattle.listing.specs.declared.code.Condition.{Condition}
use Rattle.listing.specs.declared.code.Condition.TheVariants.{At, Holds, Memory}
use Rattle.listing.specs.declared.code.Instruction.{Instruction}
use Rattle.listing.specs.declared.code.Instruction.TheVariants.{Store, Load, Set, Add, Cas, Fence, Jump, JumpIfEqual, JumpUnlessEqual}
use Rattle.listing.specs.Astray.{JumpsPast, NamesNone}
use Rattle.listing.specs.Laws.{AstrayOn, First}
use Rattle.listing.specs.Limits.{all, condition_there, jump_within}
use Rattle.listing.specs.Reading.{Progress}
use Rattle.listing.proofs.FirstFailing.{FailsOn}
use Rattle.listing.proofs.Kept.{each}
use Rattle.listing.proofs.Somewhere.{somewhere_weaker}

jump_past : (many : ℕ) (i : Instruction ℕ) → jump_within many i ≡ false → JumpsPast many i
jump_past many (Jump n) h = JumpsPast.jump (leb-false n many h)
jump_past many (JumpIfEqual r e n) h = JumpsPast.jump_if_equal (leb-false n many h)
jump_past many (JumpUnlessEqual r e n) h = JumpsPast.jump_unless_equal (leb-false n many h)
jump_past many (Store v e) h = cc
jump_past many (Load r v) h = cc
jump_past many (Set r e) h = cc
jump_past many (Add r e) h = cc
jump_past many (Cas r v old new) h = cc
jump_past many Fence h = cc

past_fails : (many : ℕ) (i : Instruction ℕ) → JumpsPast many i → jump_within many i ≡ false
past_fails many i (JumpsPast.jump far) = lt-leb _ many far
past_fails many i (JumpsPast.jump_if_equal far) = lt-leb _ many far
past_fails many i (JumpsPast.jump_unless_equal far) = lt-leb _ many far

module _ (threads : List (List (Instruction ℕ))) where
  names_none : (c : Condition ℕ) → condition_there threads c ≡ false → NamesNone threads c
  names_none (At t n) h = by (ltb t (length threads)) refl h
    where
      by : (b : Bool) → ltb t (length threads) ≡ b → (b && leb n (length (get_or threads t []))) ≡ false → NamesNone threads (At t n)
      by true there k = NamesNone.at_past_end (slice_get-get_or threads t [] (ltb-true t _ there)) (leb-false n _ k)
      by false none k = NamesNone.at_no_thread (ltb-false t _ none)
  names_none (Holds t r d) h = NamesNone.holds_no_thread (ltb-false t _ h)
  names_none (Memory v d) h = cc

  none_fails : (c : Condition ℕ) → NamesNone threads c → condition_there threads c ≡ false
  none_fails c (NamesNone.at_no_thread {t = t} none) = and_left _ _ (le-ltb t (length threads) none)
  none_fails c (NamesNone.at_past_end {t = t} {n = n} {thread = thread} is far) =
      let same = ap length (get_or_from_slice_get threads t thread [] is) in
      and_right _ _ (lt-leb n _ (omega (arith, same, far)))
  none_fails c (NamesNone.holds_no_thread none) = le-ltb _ (length threads) none

  some_names_none : (cs : List (Condition ℕ)) → all (condition_there threads) cs ≡ false → Any (NamesNone threads) cs
  some_names_none [] h = cc
  some_names_none (c ∷ cs) h =
      elim (condition_there threads c) as (λ b. condition_there threads c ≡ b → (b && all (condition_there threads) cs) ≡ false → Any (NamesNone threads) (c ∷ cs)) [
        | true ↦ λ there k. let a = some_names_none cs k in (suc a.0, a.1, omega (arith, a.2), a.3, a.4)
        | false ↦ λ fails k. (0, c, omega arith, refl, names_none c fails)
      ] refl h

  some_fails : (cs : List (Condition ℕ)) → Any (NamesNone threads) cs → all (condition_there threads) cs ≡ false
  some_fails cs a = by (all (condition_there threads) cs) refl
    where
      by : (b : Bool) → all (condition_there threads) cs ≡ b → b ≡ false
      by false h = refl
      by true h =
          let passes = All-from_recursion (λ c. condition_there threads c ≡ true) cs (each (condition_there threads) cs h) a.0 a.1 a.2 in
          absurd (both_ways _ (none_fails a.1 a.4) (subst (λ c. condition_there threads c ≡ true) a.3 passes))

module _ (p : Progress) (n : ℕ) where
  astray_from : FailsOn p n → AstrayOn p n
  astray_from fails =
      elim fails [
        | inl jump ↦ inl (somewhere_weaker _ _ (λ ms is. somewhere_weaker _ _ (λ m i f. (f.0, jump_past (length is) i f.1)) ms is) p.instruction_lines p.threads jump)
        | inr fault ↦ inr (somewhere_weaker _ _ (λ m cs f. (f.0, some_names_none p.threads cs f.1)) p.fault_lines p.faults fault)
      ]

  astray_to : AstrayOn p n → FailsOn p n
  astray_to astray =
      elim astray [
        | inl jump ↦ inl (somewhere_weaker _ _ (λ ms is. somewhere_weaker _ _ (λ m i f. (f.0, past_fails (length is) i f.1)) ms is) p.instruction_lines p.threads jump)
        | inr fault ↦ inr (somewhere_weaker _ _ (λ m cs f. (f.0, some_fails p.threads cs f.1)) p.fault_lines p.faults fault)
      ]

pub first_astray : (p : Progress) (n : ℕ) → First (FailsOn p) n → First (AstrayOn p) n
first_astray p n f = record { there = astray_from p n f.there; earliest = λ m a. f.earliest m (astray_to p m a) }

pub first_fails : (p : Progress) (n : ℕ) → First (AstrayOn p) n → First (FailsOn p) n
first_fails p n f = record { there = astray_to p n f.there; earliest = λ m a. f.earliest m (astray_from p m a) }
