-- What a line that is taken says, when a line is taken, and what lines that are taken keep. Assumes nothing.
use Rattle.std.proofs.Common.{◌≡◌, ℕ, ◌+◌, Bool, true, List, [], ◌∷◌, ◌++◌, Ok, sym, refl, ap, ◌∙◌, subst}
use Rattle.std.proofs.lemmas.List.{append-nil, append_assoc}
use Rattle.listing.specs.declared.code.Instruction.{Instruction}
use Rattle.listing.specs.declared.code.Instruction.TheVariants as instruction
use Rattle.listing.specs.Forms.{Says, no_form, out_of_range, means, Line, bound_line, thread_line, instruction_line, fault_line, form}
use Rattle.listing.specs.Laws.{words_say}
use Rattle.listing.specs.LineForms.{line_items}
use Rattle.listing.specs.Reading.{Progress, bound_stands, thread_stands, instruction_stands, fault_stands, may_stand, room, with_line, held, worded}
use Rattle.listing.specs.Spelling.{Spelled, Pairwise}
use Rattle.listing.proofs.FormSpells.{line_ranges, form_spelled, spelled_form}
use Rattle.listing.proofs.Results.{passed, went_on}
use Rattle.listing.proofs.WordLines.{with_words, read_words}

-- where a line may stand, by what it says
abbrev pub stands : Progress → Line → Bool
stands p (bound_line k) = bound_stands p
stands p thread_line = thread_stands p
stands p (instruction_line i) = instruction_stands p
stands p (fault_line cs) = fault_stands p

instruction_is : (p : Progress) (i : Instruction ℕ) (w : List ℕ) (ws : List (List ℕ)) → Pairwise Spelled (line_items (instruction_line i)) (w ∷ ws) → may_stand p w ≡ stands p (instruction_line i)
unfolding may_stand
instruction_is p (instruction.Store v e) w ws s = ap (may_stand p) s.0
instruction_is p (instruction.Load r v) w ws s = ap (may_stand p) s.0
instruction_is p (instruction.Set r e) w ws s = ap (may_stand p) s.0
instruction_is p (instruction.Add r e) w ws s = ap (may_stand p) s.0
instruction_is p (instruction.Cas r v old new) w ws s = ap (may_stand p) s.0
instruction_is p instruction.Fence w ws s = ap (may_stand p) s.0
instruction_is p (instruction.Jump n) w ws s = ap (may_stand p) s.0
instruction_is p (instruction.JumpIfEqual r e n) w ws s = ap (may_stand p) s.0
instruction_is p (instruction.JumpUnlessEqual r e n) w ws s = ap (may_stand p) s.0

may_stand_is : (p : Progress) (l : Line) (w : List ℕ) (ws : List (List ℕ)) → Pairwise Spelled (line_items l) (w ∷ ws) → may_stand p w ≡ stands p l
unfolding may_stand
may_stand_is p (bound_line k) w ws s = ap (may_stand p) s.0
may_stand_is p thread_line w ws s = ap (may_stand p) s.0
may_stand_is p (instruction_line i) w ws s = instruction_is p i w ws s
may_stand_is p (fault_line cs) w ws s = ap (may_stand p) s.0

-- a line that has been taken
pub record Taken (p : Progress) (n : ℕ) (ws : List (List ℕ)) (q : Progress) : Type 0 where
  pub said : Line
  pub says : words_say ws ≡ means said
  pub stood : stands p said ≡ true
  pub ranged : line_ranges said ≡ true
  pub fitted : room p said ≡ true
  pub spelled : Pairwise Spelled (line_items said) ws
  pub is : q ≡ with_line p n said

held_taken : (p q : Progress) (n : ℕ) (s : Says Line) → held p n s ≡ Ok q → (l : Line) × (s ≡ means l) × (room p l ≡ true) × (q ≡ with_line p n l)
held_taken p q n no_form h = cc
held_taken p q n out_of_range h = cc
held_taken p q n (means l) h =
    let t = passed (room p l) (Ok (with_line p n l)) _ q h in
    let same = t.1 in
    (l, refl, t.0, cc)

pub taken : (p q : Progress) (n : ℕ) (w : List ℕ) (ws : List (List ℕ)) → worded p n (w ∷ ws) ≡ Ok q → Taken p n (w ∷ ws) q
taken p q n w ws h =
    let a = passed (may_stand p w) (held p n (form w ws)) _ q h in
    let b = held_taken p q n (form w ws) a.1 in
    let c = form_spelled w ws b.0 b.1 in
    record {
      said = b.0;
      says = b.1;
      stood = sym (may_stand_is p b.0 w ws c.0) ∙ a.0;
      ranged = c.1;
      fitted = b.2;
      spelled = c.0;
      is = b.3;
    }

pub takes : (p : Progress) (n : ℕ) (l : Line) (w : List ℕ) (ws : List (List ℕ)) → stands p l ≡ true → line_ranges l ≡ true → room p l ≡ true → Pairwise Spelled (line_items l) (w ∷ ws) → worded p n (w ∷ ws) ≡ Ok (with_line p n l)
takes p n l w ws stood ranged fitted s = rw (may_stand_is p l w ws s ∙ stood, spelled_form l w ws ranged s, fitted) refl

-- what each line keeps, of what has been read and of the lines of words that it was read from
pub read_keeps : (P : Progress → List (List (List ℕ)) → Type 0)
    → ((p q : Progress) (n : ℕ) (vss : List (List (List ℕ))) (ws : List (List ℕ)) → Taken p n ws q → P p vss → P q (vss ++ ws ∷ []))
    → (wss : List (List (List ℕ))) (p q : Progress) (n : ℕ) (vss : List (List (List ℕ))) → P p vss → read_words p n wss ≡ Ok q → P q (vss ++ with_words wss)
read_keeps P step [] p q n vss v h = let e : p ≡ q = cc in subst (λ q. P q (vss ++ [])) e (subst (P p) (sym (append-nil vss)) v)
read_keeps P step ([] ∷ wss) p q n vss v h = read_keeps P step wss p q (n + 1) vss v h
read_keeps P step ((w ∷ ws) ∷ wss) p q n vss v h =
    let on = went_on (λ r. read_words r (n + 1) wss) (worded p n (w ∷ ws)) q h in
    subst (P q) (append_assoc vss ((w ∷ ws) ∷ []) (with_words wss))
    (read_keeps P step wss on.0 q (n + 1) (vss ++ (w ∷ ws) ∷ []) (step p on.0 n vss (w ∷ ws) (taken p on.0 n w ws on.1) v) on.2)
