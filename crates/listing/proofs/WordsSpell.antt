-- Lines of words that are read as a program spell it, and it keeps the limits. Assumes nothing.
use Rattle.std.proofs.Common.{◌≡◌, ℕ, Bool, true, not, ◌&&◌, leb, List, [], ◌∷◌, ◌++◌, map, length, is_some, Some, None, Ok, Option, sym, refl, ap, ◌∙◌, subst}
use Rattle.std.specs.List.{flat_map}
use Rattle.std.proofs.lemmas.List.{append-nil, append_assoc, map_push, flat_map_more}
use Rattle.std.proofs.lemmas.Bool.{and_parts, and_from, leb-true, le-leb}
use Rattle.listing.specs.declared.code.Condition.{Condition}
use Rattle.listing.specs.declared.code.Instruction.{Instruction}
use Rattle.listing.specs.Code.{Code}
use Rattle.listing.specs.Forms.{Line, bound_line, thread_line, instruction_line, fault_line}
use Rattle.listing.proofs.Failing.{jumps_there}
use Rattle.listing.specs.LineForms.{line_items}
use Rattle.listing.specs.Limits.{all, between, bound_fits, together, condition_there, thread_keeps, fault_keeps, fault_fits, within_limits, thread_fits}
use Rattle.listing.specs.Reading.{Progress, nothing, some, grown, with_line, first_failing, jump_failing, target_failing, targeted, complete, filled, finished}
use Rattle.listing.specs.Spelling.{Item, Spelled, Pairwise, instruction_items, thread_rows, fault_row, rows, keeps_limits}
use Rattle.listing.specs.Values.{instruction_fits, condition_fits}
use Rattle.listing.proofs.Counts.{none_there, some_between}
use Rattle.listing.proofs.Failing.{or_else_none, all_pass, all_jumps_pass}
use Rattle.listing.proofs.Kept.{all_join}
use Rattle.listing.proofs.LineSteps.{stands, Taken, read_keeps}
use Rattle.listing.proofs.Pairs.{pairwise_append}
use Rattle.listing.proofs.Results.{passed}
use Rattle.listing.proofs.Sound.{Started, Sound, nothing_sound, taken_sound}
use Rattle.listing.proofs.WordLines.{with_words, read_words}

-- the rows of what has been read
abbrev bound_rows : Option ℕ → List (List Item)
bound_rows None = []
bound_rows (Some k) = line_items (bound_line k) ∷ []

abbrev progress_rows : Progress → List (List Item)
progress_rows p = bound_rows p.bound ++ (flat_map thread_rows p.threads ++ map fault_row p.faults)

bound_more : (o : Option ℕ) (ts : List (List (Instruction ℕ))) (fs : List (List (Condition ℕ))) (k : ℕ) → Started o ts fs → not (is_some o) ≡ true
    → bound_rows (Some k) ++ (flat_map thread_rows ts ++ map fault_row fs) ≡ (bound_rows o ++ (flat_map thread_rows ts ++ map fault_row fs)) ++ line_items (bound_line k) ∷ []
bound_more None ts fs k s h = rw (s.0, s.1) refl
bound_more (Some j) ts fs k s h = cc

grown_rows : (ts : List (List (Instruction ℕ))) (i : Instruction ℕ) → some ts ≡ true → flat_map thread_rows (grown ts i) ≡ flat_map thread_rows ts ++ instruction_items i ∷ []
grown_rows [] i h = cc
grown_rows (t ∷ []) i h =
    append-nil (thread_rows (t ++ i ∷ []))
    ∙ (ap (λ r. line_items thread_line ∷ r) (map_push instruction_items t i) ∙ ap (λ rs. rs ++ instruction_items i ∷ []) (sym (append-nil (thread_rows t))))
grown_rows (t ∷ u ∷ ts) i h = ap (λ r. thread_rows t ++ r) (grown_rows (u ∷ ts) i refl) ∙ sym (append_assoc (thread_rows t) (flat_map thread_rows (u ∷ ts)) (instruction_items i ∷ []))

before_faults : (b j j' : List (List Item)) (r : List Item) (fs : List (List (Condition ℕ))) → not (some fs) ≡ true → j' ≡ j ++ r ∷ [] → b ++ (j' ++ map fault_row fs) ≡ (b ++ (j ++ map fault_row fs)) ++ r ∷ []
before_faults b j j' r fs none e = rw (none_there fs none, e) (simp (append-nil, append_assoc))

rows_more : (p : Progress) (n : ℕ) (l : Line) → Started p.bound p.threads p.faults → stands p l ≡ true → progress_rows (with_line p n l) ≡ progress_rows p ++ line_items l ∷ []
rows_more p n (bound_line k) s h = bound_more p.bound p.threads p.faults k s h
rows_more p n thread_line s h =
    before_faults (bound_rows p.bound) (flat_map thread_rows p.threads) _ (line_items thread_line) p.faults (and_parts (is_some p.bound) (not (some p.faults)) h).1
    (sym (flat_map_more thread_rows [] p.threads []))
rows_more p n (instruction_line i) s h =
    let parts = and_parts (some p.threads) (not (some p.faults)) h in
    before_faults (bound_rows p.bound) (flat_map thread_rows p.threads) _ (instruction_items i) p.faults parts.1 (grown_rows p.threads i parts.0)
rows_more p n (fault_line cs) s h = simp (map_push, append_assoc)

-- a line more, and its words
spelled_more : (p q : Progress) (n : ℕ) (vss : List (List (List ℕ))) (ws : List (List ℕ)) → Taken p n ws q → Sound p × Pairwise (Pairwise Spelled) (progress_rows p) vss
    → Sound q × Pairwise (Pairwise Spelled) (progress_rows q) (vss ++ ws ∷ [])
spelled_more p q n vss ws t h = (
  taken_sound p q n ws t h.0,
  subst (λ rs. Pairwise (Pairwise Spelled) rs (vss ++ ws ∷ [])) (sym (ap progress_rows t.is ∙ rows_more p n t.said h.0.started t.stood))
      (pairwise_append (Pairwise Spelled) (progress_rows p) (line_items t.said ∷ []) vss (ws ∷ []) h.1 (t.spelled, tt)),
)

-- what the end of the text asks
record Finished (p : Progress) (c : Code) : Type 0 where
  filled_threads : first_failing some p.thread_lines p.threads ≡ None
  bound : ℕ
  bound_is : p.bound ≡ Some bound
  threads : some p.threads ≡ true
  faults : some p.faults ≡ true
  targets : target_failing p ≡ None
  is : c ≡ record { bound = bound; threads = p.threads; faults = p.faults }

filled_from : (p : Progress) (c : Code) (o : Option ℕ) → filled p o ≡ Ok c → (o ≡ None) × (complete p p.bound ≡ Ok c)
filled_from p c None h = (refl, h)
filled_from p c (Some n) h = cc

targeted_from : (p : Progress) (k : ℕ) (c : Code) (o : Option ℕ) → targeted p k o ≡ Ok c → (o ≡ None) × (c ≡ record { bound = k; threads = p.threads; faults = p.faults })
targeted_from p k c None h = (refl, cc)
targeted_from p k c (Some n) h = cc

complete_from : (p : Progress) (c : Code) (o : Option ℕ) → complete p o ≡ Ok c → (k : ℕ) × (o ≡ Some k) × ((some p.threads && some p.faults) ≡ true) × (targeted p k (target_failing p) ≡ Ok c)
complete_from p c None h = cc
complete_from p c (Some k) h = let t = passed (some p.threads && some p.faults) (targeted p k (target_failing p)) _ c h in (k, refl, t.0, t.1)

finished_from : (p : Progress) (c : Code) → finished p ≡ Ok c → Finished p c
unfolding finished
finished_from p c h =
    let a = filled_from p c (first_failing some p.thread_lines p.threads) h in
    let b = complete_from p c p.bound a.1 in
    let d = and_parts (some p.threads) (some p.faults) b.2 in
    let e = targeted_from p b.0 c (target_failing p) b.3 in
    record { filled_threads = a.0; bound = b.0; bound_is = b.1; threads = d.0; faults = d.1; targets = e.0; is = e.1 }

abbrev filled_fits : List (Instruction ℕ) → Bool
filled_fits t = between 1 16 (length t) && all instruction_fits t

filled_thread : (t : List (Instruction ℕ)) → some t ≡ true → thread_fits t ≡ true → filled_fits t ≡ true
filled_thread t h k = let parts = and_parts (leb (length t) 16) (all instruction_fits t) k in and_from _ _ (some_between 16 t h (leb-true _ _ parts.0)) parts.1

whole_thread : (t : List (Instruction ℕ)) → filled_fits t ≡ true → jumps_there t ≡ true → thread_keeps t ≡ true
whole_thread t h k = let parts = and_parts (between 1 16 (length t)) (all instruction_fits t) h in and_from _ _ parts.0 (and_from _ _ parts.1 k)

whole_fault : (ts : List (List (Instruction ℕ))) (cs : List (Condition ℕ)) → fault_fits cs ≡ true → all (condition_there ts) cs ≡ true → fault_keeps ts cs ≡ true
whole_fault ts cs h k = let parts = and_parts (between 1 6 (length cs)) (all condition_fits cs) h in and_from _ _ parts.0 (and_from _ _ parts.1 k)

finished_keeps : (p : Progress) (c : Code) → Sound p → Finished p c → keeps_limits c ≡ true
unfolding within_limits
finished_keeps p c s f =
    let t = or_else_none (jump_failing p.instruction_lines p.threads) (first_failing (all (condition_there p.threads)) p.fault_lines p.faults) f.targets in
    let filled-all = all_pass some p.thread_lines p.threads s.thread_lines f.filled_threads in
    let jumps = all_jumps_pass p.instruction_lines p.threads s.instruction_lines t.0 in
    let aims = all_pass (all (condition_there p.threads)) p.fault_lines p.faults s.fault_lines t.1 in
    subst (λ c. keeps_limits c ≡ true) (sym f.is)
    (and_from _ _ (sym (ap bound_fits f.bound_is) ∙ s.bound_fit)
    (and_from _ _
    (and_from _ _ (some_between 4 p.threads f.threads s.few_threads)
    (and_from _ _ (all_join filled_fits jumps_there thread_keeps whole_thread p.threads (all_join some thread_fits filled_fits filled_thread p.threads filled-all s.threads_fit) jumps)
    (le-leb (together p.threads) 32 s.few_instructions)))
    (and_from _ _ (some_between 8 p.faults f.faults s.few_faults)
    (all_join fault_fits (all (condition_there p.threads)) (fault_keeps p.threads) (whole_fault p.threads) p.faults s.faults_fit aims))))

-- a program that is granted in the end keeps the limits
pub end_keeps : (p : Progress) (c : Code) → Sound p → finished p ≡ Ok c → keeps_limits c ≡ true
end_keeps p c s h = finished_keeps p c s (finished_from p c h)

finished_rows : (p : Progress) (c : Code) → Finished p c → progress_rows p ≡ rows c
finished_rows p c f =
    ap (λ o. bound_rows o ++ (flat_map thread_rows p.threads ++ map fault_row p.faults)) f.bound_is ∙ ap rows (sym f.is)

pub words_spell : (wss : List (List (List ℕ))) (p : Progress) (c : Code) → read_words nothing 1 wss ≡ Ok p → finished p ≡ Ok c → Pairwise (Pairwise Spelled) (rows c) (with_words wss) × (keeps_limits c ≡ true)
words_spell wss p c h k =
    let f = finished_from p c k in
    let r = read_keeps (λ q vss. Sound q × Pairwise (Pairwise Spelled) (progress_rows q) vss) spelled_more wss nothing p 1 [] (nothing_sound, tt) h in
    (subst (λ rs. Pairwise (Pairwise Spelled) rs (with_words wss)) (finished_rows p c f) r.1, finished_keeps p c r.0 f)
