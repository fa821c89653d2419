-- What is first wrong with a text is its refusal, and a text is read or refused, never both. Assumes nothing.
use Rattle.std.proofs.Common.{◌≡◌, ℕ, ◌+◌, ◌≤◌, true, false, ◌&&◌, leb, List, [], ◌∷◌, ◌++◌, length, Some, None, Ok, Err, Option, Result, ◌⊎◌, sym, refl, ap, ◌∙◌, subst, inl, inr, arith}
use Rattle.std.proofs.lemmas.Bool.{and_left, both_ways, cond-true, cond-false, le-leb, lt-leb}
use Rattle.listing.specs.declared.refusal.Reason.TheVariants.{Missing, TargetMissing}
use Rattle.listing.specs.declared.refusal.Refusal.{Refusal}
use Rattle.listing.specs.Code.{Code}
use Rattle.listing.specs.Laws.{First, EmptyOn, Wrong, too_long, broken_line, empty_thread, lacking, astray, FirstWrong, OneOrOther}
use Rattle.listing.specs.Limits.{all, condition_there}
use Rattle.listing.specs.Reading.{Progress, nothing, refusal, some, line, read_lines, first_failing, or_else, jump_failing, target_failing, targeted, complete, filled, finished, after_lines, reading}
use Rattle.listing.specs.Spelling.{Spells}
use Rattle.listing.specs.Words.{lines}
use Rattle.listing.proofs.Astray.{first_fails}
use Rattle.listing.proofs.Exact.{exactly}
use Rattle.listing.proofs.Failing.{none_fails}
use Rattle.listing.proofs.FirstFailing.{FailsOn, first_found, jump_there, no_jump_astray, sound, rising_threads, rising_faults, jump_before, jumps_first, empty_from, empty_to}
use Rattle.listing.proofs.FirstWrong.{what_is_wrong}
use Rattle.listing.proofs.Results.{onto, went_on}
use Rattle.listing.proofs.Sound.{no_thread}
use Rattle.listing.proofs.Unbroken.{broken_refused}

-- a line that is refused, after lines that are not
refused_there : (before : List (List ℕ)) (bs : List ℕ) (after : List (List ℕ)) (p r : Progress) (n : ℕ) (e : Refusal) → read_lines p n before ≡ Ok r → line r (n + length before) bs ≡ Err e
    → read_lines p n (before ++ bs ∷ after) ≡ Err e
refused_there [] bs after p r n e h k =
    let same : r ≡ p = cc in
    let at : n + 0 ≡ n = omega arith in
    ap (onto (λ o. read_lines o (n + 1) after)) (subst (λ m. line p m bs ≡ Err e) at (subst (λ o. line o (n + 0) bs ≡ Err e) same k))
refused_there (b ∷ before) bs after p r n e h k =
    let on = went_on (λ o. read_lines o (n + 1) before) (line p n b) r h in
    let at : n + length (b ∷ before) ≡ n + 1 + length before = omega arith in
    ap (onto (λ o. read_lines o (n + 1) (before ++ bs ∷ after))) on.1 ∙ refused_there before bs after on.0 r (n + 1) e on.2 (subst (λ m. line r m bs ≡ Err e) at k)

module _ (ls : List (List ℕ)) (p : Progress) (read : read_lines nothing 1 ls ≡ Ok p) where
  empty_refused : (n : ℕ) → First (EmptyOn p) n → finished p ≡ Err (refusal Missing n)
  unfolding finished
  empty_refused n f =
      ap (filled p) (first_found some p.thread_lines p.threads n (rising_threads ls p read) (empty_to p n f.there) (λ m s. f.earliest m (empty_from p m s)))

  module _ (used : all some p.threads ≡ true) where
    used_up : finished p ≡ complete p p.bound
    unfolding finished
    used_up = ap (filled p) (none_fails some p.thread_lines p.threads used)

    lacking_refused : (some p.threads && some p.faults) ≡ false → finished p ≡ Err (refusal Missing 0)
    lacking_refused lack = used_up ∙ by p.bound
      where
        by : (o : Option ℕ) → complete p o ≡ Err (refusal Missing 0)
        by None = refl
        by (Some k) = cond-false (some p.threads && some p.faults) _ _ lack

    module _ (n : ℕ) (f : First (FailsOn p) n) where
      fault_found : jump_failing p.instruction_lines p.threads ≡ None → first_failing (all (condition_there p.threads)) p.fault_lines p.faults ≡ Some n
      fault_found none =
          first_found (all (condition_there p.threads)) p.fault_lines p.faults n (rising_faults ls p read)
          (elim f.there [ inl jump ↦ absurd (no_jump_astray p.instruction_lines p.threads n none jump) | inr fault ↦ fault ])
          (λ m s. f.earliest m (inr s))

      jump_found : (m : ℕ) → jump_failing p.instruction_lines p.threads ≡ Some m → m ≡ n
      jump_found m e =
          let there = jump_there p.instruction_lines p.threads m e in
          let low = f.earliest m (inl there) in
          let high : m ≤ n = elim f.there [ inl jump ↦ jumps_first ls p read m n e jump | inr fault ↦ jump_before ls p read m n there fault ] in
          omega (arith, low, high)

      found : target_failing p ≡ Some n
      found =
          elim (jump_failing p.instruction_lines p.threads) as (λ o. jump_failing p.instruction_lines p.threads ≡ o → or_else o (first_failing (all (condition_there p.threads)) p.fault_lines p.faults) ≡ Some n) [
            | None ↦ λ none. fault_found none
            | Some m ↦ λ e. ap Some (jump_found m e)
          ] refl

      astray_refused : (some p.threads && some p.faults) ≡ true → finished p ≡ Err (refusal TargetMissing n)
      astray_refused both = used_up ∙ by p.bound refl
        where
          by : (o : Option ℕ) → p.bound ≡ o → complete p o ≡ Err (refusal TargetMissing n)
          by None none = absurd (both_ways (some p.threads && some p.faults) (and_left _ _ (no_thread p (sound ls p read) none)) both)
          by (Some k) is = cond-true (some p.threads && some p.faults) _ _ both ∙ ap (targeted p k) found

-- a text that is short enough, by its lines
module _ (t : List ℕ) (short : length t ≤ 4096) where
  by_lines : (r : Result Progress Refusal) → read_lines nothing 1 (lines t) ≡ r → reading t ≡ after_lines r
  unfolding reading
  by_lines r e = cond-true (leb (length t) 4096) _ _ (le-leb (length t) 4096 short) ∙ ap after_lines e

wrong_refused : (t : List ℕ) (e : Refusal) → Wrong t e → reading t ≡ Err e
unfolding reading
wrong_refused t e (too_long far) = cond-false (leb (length t) 4096) _ _ (lt-leb (length t) 4096 far)
wrong_refused t e (broken_line short before after bs p why are fine broken) =
    let at : 1 + length before ≡ length before + 1 = omega arith in
    let here = subst (λ n. line p (1 + length before) bs ≡ Err (refusal why n)) at (broken_refused p (1 + length before) why bs broken) in
    by_lines t short (Err (refusal why (length before + 1))) (ap (read_lines nothing 1) are ∙ refused_there before bs after nothing p 1 (refusal why (length before + 1)) fine.are here)
wrong_refused t e (empty_thread short p n fine first) = by_lines t short (Ok p) fine.are ∙ empty_refused (lines t) p fine.are n first
wrong_refused t e (lacking short p fine used lack) = by_lines t short (Ok p) fine.are ∙ lacking_refused (lines t) p fine.are used lack
wrong_refused t e (astray short p n fine used both first) = by_lines t short (Ok p) fine.are ∙ astray_refused (lines t) p fine.are used n (first_fails p n first) both

pub first_wrong : (t : List ℕ) → FirstWrong t (reading t)
first_wrong t = record { only = what_is_wrong t; every = wrong_refused t }

abbrev Either : List ℕ → Result Code Refusal → Type 0
Either t r = ((c : Code) × ((r ≡ Ok c) × Spells t c)) ⊎ ((e : Refusal) × ((r ≡ Err e) × Wrong t e))

either : (t : List ℕ) (r : Result Code Refusal) → reading t ≡ r → Either t r
either t (Ok c) h = inl (c, (refl, ((exactly t).only c h).1))
either t (Err e) h = inr (e, (refl, what_is_wrong t e h))

pub one_or_other : (t : List ℕ) → OneOrOther t (reading t)
one_or_other t =
    record {
      either = either t (reading t) refl;
      not_both = λ c e short s w.
          let both = sym ((exactly t).every c short s) ∙ wrong_refused t e w in
          cc;
      one_program = λ c d short s u.
          let both = sym ((exactly t).every c short s) ∙ (exactly t).every d short u in
          cc;
      one_refusal = λ d e w v.
          let both = sym (wrong_refused t d w) ∙ wrong_refused t e v in
          cc;
    }
