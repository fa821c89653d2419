-- A line that breaks a rule is refused for it, so no line that has been read breaks one. Assumes nothing.
use Rattle.std.proofs.Common.{◌≡◌, ℕ, ◌+◌, Bool, true, false, List, [], ◌∷◌, ◌++◌, length, Ok, Err, inl, inr, sym, refl, ◌∙◌, subst, ⊎_elim, arith}
use Rattle.std.proofs.lemmas.Bool.{cases_Bool, cond-true, cond-false}
use Rattle.listing.specs.declared.code.Instruction.{Instruction}
use Rattle.listing.specs.declared.code.Instruction.TheVariants as instructions
use Rattle.listing.specs.declared.refusal.Reason.{Reason}
use Rattle.listing.specs.declared.refusal.Reason.TheVariants.{ByteNotPermitted, NoForm, NumberOutOfRange, TooMany}
use Rattle.listing.specs.Alphabet.{Foreign}
use Rattle.listing.specs.Forms.{Says, means, Line, bound_line, thread_line, instruction_line, fault_line, form}
use Rattle.listing.specs.Laws.{Formless, Unranged, Crowded, FirstBroken}
use Rattle.listing.specs.LineForms.{HasForm, InRange, SpellLine}
use Rattle.listing.specs.Limits.{all}
use Rattle.listing.specs.Reading.{Progress, nothing, refusal, may_stand, room, held, standing, worded, line, read_lines}
use Rattle.listing.specs.Spelling.{Spelled, Pairwise, instruction_items}
use Rattle.listing.specs.Words.{permitted, content_of, words}
use Rattle.listing.proofs.Agreeing.{spelled_says}
use Rattle.listing.proofs.ForeignTold.{foreign_told}
use Rattle.listing.proofs.FormsJudged.{form_judged}
use Rattle.listing.proofs.OrderTold.{it_may, order_told}
use Rattle.listing.proofs.Results.{went_on}
use Rattle.listing.proofs.Telling.{Tells, formless, unranged, meant}
use Rattle.listing.proofs.WordsTold.{none_foreign}

module _ (p : Progress) (w : List ℕ) (ws : List (List ℕ)) where
  -- words that have a form and may stand there, and the converse
  pub not_formless : HasForm (w ∷ ws) → may_stand p w ≡ true → Formless p (w ∷ ws) → ⊥
  not_formless has stands h = ⊎_elim (λ none. none has) (λ astray. astray (((order_told p).stands w ws has).0 stands)) h

  pub standing_there : (Formless p (w ∷ ws) → ⊥) → may_stand p w ≡ true
  standing_there h =
      ⊎_elim (λ stands. stands) (λ astray. absurd (h (inr (λ may. let stands = it_may p w may in cc)))) (cases_Bool (may_stand p w))

  -- words that break neither rule say something
  meaning : (Formless p (w ∷ ws) → ⊥) → (Unranged (w ∷ ws) → ⊥) → (l : Line) × (form w ws ≡ means l)
  meaning h k = by (form w ws) refl (form_judged w ws)
    where
      by : (s : Says Line) → form w ws ≡ s → Tells (HasForm (w ∷ ws)) (InRange (w ∷ ws)) s → (l : Line) × (form w ws ≡ means l)
      by s e (formless none) = absurd (h (inl none))
      by s e (unranged has out) = absurd (k (has, out))
      by s e (meant {x} has ranged) = (x, e)

  module _ (n : ℕ) where
    formless_refused : Formless p (w ∷ ws) → worded p n (w ∷ ws) ≡ Err (refusal NoForm n)
    formless_refused h = by (may_stand p w) (form w ws) refl (form_judged w ws)
      where
        by : (b : Bool) (s : Says Line) → may_stand p w ≡ b → Tells (HasForm (w ∷ ws)) (InRange (w ∷ ws)) s → standing p n b s ≡ Err (refusal NoForm n)
        by false s stands t = refl
        by true s stands (formless none) = refl
        by true s stands (unranged has out) = absurd (not_formless has stands h)
        by true s stands (meant has ranged) = absurd (not_formless has stands h)

    unranged_refused : (Formless p (w ∷ ws) → ⊥) → Unranged (w ∷ ws) → worded p n (w ∷ ws) ≡ Err (refusal NumberOutOfRange n)
    unranged_refused h out = rw (standing_there h) (by (form_judged w ws))
      where
        by : {s : Says Line} → Tells (HasForm (w ∷ ws)) (InRange (w ∷ ws)) s → held p n s ≡ Err (refusal NumberOutOfRange n)
        by (formless none) = absurd (h (inl none))
        by (unranged has _) = refl
        by (meant has ranged) = absurd (out.1 ranged)

    crowded_refused : (Formless p (w ∷ ws) → ⊥) → (Unranged (w ∷ ws) → ⊥) → Crowded p (w ∷ ws) → worded p n (w ∷ ws) ≡ Err (refusal TooMany n)
    crowded_refused h k full =
        let some = meaning h k in
        rw (standing_there h, spelled_says full.0 some.0 w ws some.1 full.1.0) (cond-false (room p full.0) _ _ (((order_told p).too_much full.0).1 full.1.1))

module _ (p : Progress) (n : ℕ) where
  clean : (bs : List ℕ) → (Foreign bs → ⊥) → line p n bs ≡ worded p n (words (content_of bs))
  clean bs h = cond-true (all permitted (content_of bs)) _ _ (none_foreign bs h)

  words_formless : (ws : List (List ℕ)) → Formless p ws → worded p n ws ≡ Err (refusal NoForm n)
  words_formless [] h = absurd h
  words_formless (w ∷ ws) h = formless_refused p w ws n h

  words_unranged : (ws : List (List ℕ)) → (Formless p ws → ⊥) → Unranged ws → worded p n ws ≡ Err (refusal NumberOutOfRange n)
  words_unranged [] h k = absurd k
  words_unranged (w ∷ ws) h k = unranged_refused p w ws n h k

  no_words : (l : Line) → SpellLine [] l → ⊥
  no_words (bound_line k) h = h
  no_words thread_line h = h
  no_words (instruction_line i) h = by i h
    where
      by : (i : Instruction ℕ) → Pairwise Spelled (instruction_items i) [] → ⊥
      by (instructions.Store v e) h = h
      by (instructions.Load r v) h = h
      by (instructions.Set r e) h = h
      by (instructions.Add r e) h = h
      by (instructions.Cas r v old new) h = h
      by instructions.Fence h = h
      by (instructions.Jump m) h = h
      by (instructions.JumpIfEqual r e m) h = h
      by (instructions.JumpUnlessEqual r e m) h = h
  no_words (fault_line cs) h = h

  words_crowded : (ws : List (List ℕ)) → (Formless p ws → ⊥) → (Unranged ws → ⊥) → Crowded p ws → worded p n ws ≡ Err (refusal TooMany n)
  words_crowded [] h k full = absurd (no_words full.0 full.1.0)
  words_crowded (w ∷ ws) h k full = crowded_refused p w ws n h k full

  pub broken_refused : (why : Reason) (bs : List ℕ) → FirstBroken why p bs → line p n bs ≡ Err (refusal why n)
  broken_refused ByteNotPermitted bs h = cond-false (all permitted (content_of bs)) _ _ ((foreign_told bs).1 h)
  broken_refused NoForm bs h = clean bs h.0 ∙ words_formless (words (content_of bs)) h.1
  broken_refused NumberOutOfRange bs h = clean bs h.0 ∙ words_unranged (words (content_of bs)) h.1.0 h.1.1
  broken_refused TooMany bs h = clean bs h.0 ∙ words_crowded (words (content_of bs)) h.1.0 h.1.1.0 h.1.1.1
  broken_refused _ bs h = absurd h

-- a line that has been read, after what the lines before it hold
read_there : (before : List (List ℕ)) (bs : List ℕ) (after : List (List ℕ)) (p q r : Progress) (n : ℕ) → read_lines p n (before ++ bs ∷ after) ≡ Ok q → read_lines p n before ≡ Ok r
    → (s : Progress) × (line r (n + length before) bs ≡ Ok s)
read_there [] bs after p q r n h k =
    let on = went_on (λ o. read_lines o (n + 1) after) (line p n bs) q h in
    let same : p ≡ r = cc in
    let at : n ≡ n + 0 = omega arith in
    (on.0, subst (λ m. line r m bs ≡ Ok on.0) at (subst (λ o. line o n bs ≡ Ok on.0) same on.1))
read_there (b ∷ before) bs after p q r n h k =
    let on = went_on (λ o. read_lines o (n + 1) (before ++ bs ∷ after)) (line p n b) q h in
    let too = went_on (λ o. read_lines o (n + 1) before) (line p n b) r k in
    let both = sym too.1 ∙ on.1 in
    let same : too.0 ≡ on.0 = cc in
    let later = read_there before bs after on.0 q r (n + 1) on.2 (subst (λ o. read_lines o (n + 1) before ≡ Ok r) same too.2) in
    let at : n + 1 + length before ≡ n + length (b ∷ before) = omega arith in
    (later.0, subst (λ m. line r m bs ≡ Ok later.0) at later.1)

pub unbroken : (ls : List (List ℕ)) (p : Progress) → read_lines nothing 1 ls ≡ Ok p → (before : List (List ℕ)) (bs : List ℕ) (after : List (List ℕ)) (q : Progress) (why : Reason)
    → ls ≡ before ++ bs ∷ after → read_lines nothing 1 before ≡ Ok q → FirstBroken why q bs → ⊥
unbroken ls p h before bs after q why are k broken =
    let there = read_there before bs after nothing p q 1 (subst (λ ms. read_lines nothing 1 ms ≡ Ok p) are h) k in
    let refused = broken_refused q (1 + length before) why bs broken in
    let both = sym there.1 ∙ refused in
    cc
