-- A refusal names the first thing wrong with a text. Assumes nothing.
use Rattle.std.proofs.Common.{◌≡◌, ℕ, ◌+◌, ◌≤◌, true, ◌&&◌, leb, List, [], ◌∷◌, ◌++◌, length, Some, None, Ok, Err, Option, Result, sym, refl, ap, ◌∙◌, subst, inl, inr, arith}
use Rattle.std.proofs.lemmas.Bool.{and_left, leb-true, leb-false, cond_both}
use Rattle.listing.specs.declared.refusal.Reason.{Reason}
use Rattle.listing.specs.declared.refusal.Reason.TheVariants.{ByteNotPermitted, NoForm, NumberOutOfRange, TooMany}
use Rattle.listing.specs.declared.refusal.Refusal.{Refusal}
use Rattle.listing.specs.Code.{Code}
use Rattle.listing.specs.Forms.{Says, no_form, out_of_range, means, Line, form}
use Rattle.listing.specs.Alphabet.{Foreign}
use Rattle.listing.specs.Laws.{FirstBroken, Fine, Wrong, too_long, broken_line, empty_thread, lacking, astray}
use Rattle.listing.specs.LineForms.{HasForm, InRange}
use Rattle.listing.specs.Limits.{all, condition_there}
use Rattle.listing.specs.Reading.{reading, refusal, Progress, nothing, some, may_stand, room, with_line, held, worded, line, read_lines, first_failing, or_else, jump_failing, targeted, complete, filled, finished, after_lines}
use Rattle.listing.specs.Words.{permitted, content_of, words, lines}
use Rattle.listing.proofs.Astray.{first_astray}
use Rattle.listing.proofs.Failing.{all_pass}
use Rattle.listing.proofs.FirstFailing.{failing_there, failing_first, no_jump_astray, jump_there, sound, rising_threads, rising_faults, jump_before, jumps_first, empty_from, empty_to}
use Rattle.listing.proofs.ForeignTold.{foreign_told}
use Rattle.listing.proofs.FormSpells.{form_spelled}
use Rattle.listing.proofs.FormsJudged.{form_judged}
use Rattle.listing.proofs.LinesHeld.{lined}
use Rattle.listing.proofs.OrderTold.{order_told, it_may}
use Rattle.listing.proofs.Results.{refused, onto}
use Rattle.listing.proofs.Sound.{Sound, no_thread}
use Rattle.listing.proofs.Telling.{Tells, formless, unranged, meant}
use Rattle.listing.proofs.Unbroken.{not_formless, unbroken}

abbrev RefusedRightly : List ℕ → Result Code Refusal → Type 0
RefusedRightly t (Ok c) = Unit {0}
RefusedRightly t (Err e) = Wrong t e

abbrev LineBreaks : Progress → ℕ → List ℕ → Refusal → Type 0
LineBreaks p n bs e = (why : Reason) × ((e ≡ refusal why n) × FirstBroken why p bs)

-- a line whose bytes are permitted
module _ (p : Progress) (n : ℕ) (bs : List ℕ) (e : Refusal) (ours : Foreign bs → ⊥) where
  held_breaks : (w : List ℕ) (ws : List (List ℕ)) (s : Says Line) → words (content_of bs) ≡ w ∷ ws → form w ws ≡ s → Tells (HasForm (w ∷ ws)) (InRange (w ∷ ws)) s → may_stand p w ≡ true
      → held p n s ≡ Err e → LineBreaks p n bs e
  held_breaks w ws no_form are is (formless none) stands h = (NoForm, (cc, (ours, rw are (inl none))))
  held_breaks w ws out_of_range are is (unranged has out) stands h =
      let fine = not_formless p w ws has stands in
      (NumberOutOfRange, (cc, (ours, rw are (fine, (has, out)))))
  held_breaks w ws (means l) are is (meant has ranged) stands h =
      let fine = not_formless p w ws has stands in
      refused (room p l) (Ok (with_line p n l)) (refusal TooMany n) e h
      (λ fits k. cc)
      (λ full why. (TooMany, (why, (ours, rw are (fine, (λ out. out.1 ranged, (l, ((form_spelled w ws l is).0, ((order_told p).too_much l).0 full))))))))

  worded_breaks : (ws : List (List ℕ)) → words (content_of bs) ≡ ws → worded p n ws ≡ Err e → LineBreaks p n bs e
  worded_breaks [] are h = cc
  worded_breaks (w ∷ ws) are h =
      refused (may_stand p w) (held p n (form w ws)) (refusal NoForm n) e h
      (λ stands k. held_breaks w ws (form w ws) are refl (form_judged w ws) stands k)
      (λ astray is. (NoForm, (is, (ours, rw are (inr (λ may. let stands = it_may p w may in cc))))))

line_breaks : (p : Progress) (n : ℕ) (bs : List ℕ) (e : Refusal) → line p n bs ≡ Err e → LineBreaks p n bs e
line_breaks p n bs e h =
    refused (all permitted (content_of bs)) (worded p n (words (content_of bs))) (refusal ByteNotPermitted n) e h
    (λ clean k. worded_breaks p n bs e (λ odd. let other = (foreign_told bs).1 odd in cc) (words (content_of bs)) refl k)
    (λ odd is. (ByteNotPermitted, (is, (foreign_told bs).0 odd)))

record Broken (p : Progress) (n : ℕ) (ls : List (List ℕ)) (e : Refusal) : Type 0 where
  before : List (List ℕ)
  here : List ℕ
  after : List (List ℕ)
  left : Progress
  why : Reason
  are : ls ≡ before ++ here ∷ after
  fine : read_lines p n before ≡ Ok left
  says : e ≡ refusal why (n + length before)
  breaks : FirstBroken why left here

read_broken : (p : Progress) (n : ℕ) (ls : List (List ℕ)) (e : Refusal) → read_lines p n ls ≡ Err e → Broken p n ls e
read_broken p n [] e h = cc
read_broken p n (l ∷ ls) e h =
    elim (line p n l) as (λ r. line p n l ≡ r → onto (λ o. read_lines o (n + 1) ls) r ≡ Err e → Broken p n (l ∷ ls) e) [
      | Ok o ↦ λ fine rest.
          let b = read_broken o (n + 1) ls e rest in
          record {
            before = l ∷ b.before;
            here = b.here;
            after = b.after;
            left = b.left;
            why = b.why;
            are = ap (λ ms. l ∷ ms) b.are;
            fine = ap (onto (λ o. read_lines o (n + 1) b.before)) fine ∙ b.fine;
            says = b.says ∙ ap (refusal b.why) (omega arith);
            breaks = b.breaks;
          }
      | Err f ↦ λ bad rest.
          let same : f ≡ e = cc in
          let w = line_breaks p n l e (bad ∙ ap Err same) in
          record {
            before = [];
            here = l;
            after = ls;
            left = p;
            why = w.0;
            are = refl;
            fine = refl;
            says = w.1.0 ∙ ap (refusal w.0) (omega arith);
            breaks = w.1.1;
          }
    ] refl h

fine_lines : (ls : List (List ℕ)) (p : Progress) → read_lines nothing 1 ls ≡ Ok p → Fine ls p
fine_lines ls p h = record { are = h; unbroken = unbroken ls p h; lined = lined ls p h }

-- what is wrong after the last line, of a text whose lines are all fine
module _ (t : List ℕ) (p : Progress) (short : length t ≤ 4096) (read : read_lines nothing 1 (lines t) ≡ Ok p) where
  s : Sound p
  s = sound (lines t) p read

  fine : Fine (lines t) p
  fine = fine_lines (lines t) p read

  targeted_wrong : all some p.threads ≡ true → (some p.threads && some p.faults) ≡ true → (k : ℕ) (jump fall : Option ℕ)
      → jump_failing p.instruction_lines p.threads ≡ jump → first_failing (all (condition_there p.threads)) p.fault_lines p.faults ≡ fall → RefusedRightly t (targeted p k (or_else jump fall))
  targeted_wrong used both k None None j f = tt
  targeted_wrong used both k None (Some n) j f =
      astray short p n fine used both
      (first_astray p n
      (record {
        there = inr (failing_there (all (condition_there p.threads)) p.fault_lines p.faults n f);
        earliest = λ m a.
            elim a [
              | inl jump ↦ absurd (no_jump_astray p.instruction_lines p.threads m j jump)
              | inr fault ↦ failing_first (all (condition_there p.threads)) p.fault_lines p.faults n m (rising_faults (lines t) p read) f fault
            ];
      }))
  targeted_wrong used both k (Some n) fall j f =
      let there = jump_there p.instruction_lines p.threads n j in
      astray short p n fine used both
      (first_astray p n
      (record { there = inl there; earliest = λ m a. elim a [ inl jump ↦ jumps_first (lines t) p read n m j jump | inr fault ↦ jump_before (lines t) p read n m there fault ] }))

  complete_wrong : all some p.threads ≡ true → (o : Option ℕ) → p.bound ≡ o → RefusedRightly t (complete p o)
  complete_wrong used None b = lacking short p fine used (and_left _ _ (no_thread p s b))
  complete_wrong used (Some k) b =
      cond_both (some p.threads && some p.faults) _ _ (RefusedRightly t)
      (λ both. targeted_wrong used both k _ _ refl refl)
      (λ lack. lacking short p fine used lack)

  filled_wrong : (o : Option ℕ) → first_failing some p.thread_lines p.threads ≡ o → RefusedRightly t (filled p o)
  filled_wrong None h = complete_wrong (all_pass some p.thread_lines p.threads s.thread_lines h) p.bound refl
  filled_wrong (Some n) h =
      empty_thread short p n fine
      (record {
        there = empty_from p n (failing_there some p.thread_lines p.threads n h);
        earliest = λ m e. failing_first some p.thread_lines p.threads n m (rising_threads (lines t) p read) h (empty_to p m e);
      })

  finished_wrong : RefusedRightly t (finished p)
  unfolding finished
  finished_wrong = filled_wrong _ refl

after_lines_wrong : (t : List ℕ) (r : Result Progress Refusal) → length t ≤ 4096 → read_lines nothing 1 (lines t) ≡ r → RefusedRightly t (after_lines r)
after_lines_wrong t (Ok p) short fine = finished_wrong t p short fine
after_lines_wrong t (Err e) short bad =
    let b = read_broken nothing 1 (lines t) e bad in
    let at : 1 + length b.before ≡ length b.before + 1 = omega arith in
    subst (Wrong t) (sym (b.says ∙ ap (refusal b.why) at)) (broken_line short b.before b.after b.here b.left b.why b.are (fine_lines b.before b.left b.fine) b.breaks)

rightly : (t : List ℕ) → RefusedRightly t (reading t)
unfolding reading
rightly t =
    cond_both (leb (length t) 4096) _ _ (RefusedRightly t)
    (λ short. after_lines_wrong t _ (leb-true (length t) 4096 short) refl)
    (λ long. too_long (leb-false (length t) 4096 long))

pub what_is_wrong : (t : List ℕ) (e : Refusal) → reading t ≡ Err e → Wrong t e
what_is_wrong t e h = subst (RefusedRightly t) h (rightly t)
