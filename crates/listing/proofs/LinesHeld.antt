-- What has been read is what the lines say, each part beside its line, in the order of the lines. Assumes nothing.
use Rattle.std.proofs.Common.{◌≡◌, ℕ, ◌+◌, ◌<◌, true, not, List, [], ◌∷◌, ◌++◌, length, is_some, Some, Ok, sym, refl, ap, ◌∙◌, subst, arith}
use Rattle.std.proofs.lemmas.Bool.{and_parts}
use Rattle.std.proofs.lemmas.List.{append-nil, append_assoc, length_push, nil_from_length}
use Rattle.std.proofs.lemmas.List.Elements.{Contains-append_left, Contains-push}
use Rattle.std.specs.List.{AllByRecursion as All}
use Rattle.listing.specs.Forms.{Line, bound_line, thread_line, instruction_line, fault_line, means}
use Rattle.listing.specs.Laws.{words_say, SaysOn, Held, thread_by_thread, part_lines, Lined}
use Rattle.listing.specs.Limits.{all}
use Rattle.listing.specs.Reading.{Progress, nothing, some, with_line, worded, line, read_lines}
use Rattle.listing.specs.Spelling.{Pairwise}
use Rattle.listing.specs.Words.{permitted, content_of, words}
use Rattle.listing.proofs.Counts.{none_there}
use Rattle.listing.proofs.LineSteps.{stands, Taken, taken}
use Rattle.listing.proofs.Pairs.{AsLong, pairwise_append, pairwise_as_long}
use Rattle.listing.proofs.Recursive.{all_push, all_weaker}
use Rattle.listing.proofs.Results.{passed, went_on}
use Rattle.listing.proofs.Rising.{Rising, rising_pairs, rising_push, thread_more, instruction_more}
use Rattle.listing.proofs.Somewhere.{somewhere_append, somewhere_push, somewhere_grown, newly_grown, pairwise_grown, pairwise_beside}
use Rattle.listing.proofs.Sound.{Sound, nothing_sound, taken_sound}

-- a line that has been read has no words, or has been taken; for a conclusion W
line_is : {W : Type 0} (p q : Progress) (n : ℕ) (bs : List ℕ) → line p n bs ≡ Ok q → (words (content_of bs) ≡ [] → p ≡ q → W) → (Taken p n (words (content_of bs)) q → W) → W
line_is {W} p q n bs h blank took = by (words (content_of bs)) refl (passed (all permitted (content_of bs)) (worded p n (words (content_of bs))) _ q h).1
  where
    by : (ws : List (List ℕ)) → words (content_of bs) ≡ ws → worded p n ws ≡ Ok q → W
    by [] e k = blank e cc
    by (w ∷ ws) e k = took (subst (λ v. Taken p n v q) (sym e) (taken p q n w ws k))

read_one_sound : (p q : Progress) (n : ℕ) (bs : List ℕ) → Sound p → line p n bs ≡ Ok q → Sound q
read_one_sound p q n bs s h = line_is p q n bs h (λ blank same. subst Sound same s) (λ t. taken_sound p q n (words (content_of bs)) t s)

pub as_long : (p : Progress) → Sound p → AsLong p.thread_lines p.instruction_lines
as_long p s = s.thread_lines ∙ sym (pairwise_as_long AsLong p.instruction_lines p.threads s.instruction_lines)

no_fault_lines : (p : Progress) → Sound p → not (some p.faults) ≡ true → p.fault_lines ≡ []
no_fault_lines p s h = nil_from_length p.fault_lines (s.fault_lines ∙ ap length (none_there p.faults h))

-- what is held stays held
held_more : (p : Progress) (n : ℕ) (k : Line) (m : ℕ) (l : Line) → Sound p → stands p k ≡ true → Held p m l → Held (with_line p n k) m l
held_more p n (bound_line j) m (bound_line i) s stood h = let some = ap is_some h in cc
held_more p n (bound_line j) m thread_line s stood h = h
held_more p n (bound_line j) m (instruction_line i) s stood h = h
held_more p n (bound_line j) m (fault_line cs) s stood h = h
held_more p n thread_line m (bound_line i) s stood h = h
held_more p n thread_line m thread_line s stood h = Contains-append_left p.thread_lines (n ∷ []) m h
held_more p n thread_line m (instruction_line i) s stood h = somewhere_append _ p.instruction_lines ([] ∷ []) p.threads ([] ∷ []) h
held_more p n thread_line m (fault_line cs) s stood h = h
held_more p n (instruction_line j) m (bound_line i) s stood h = h
held_more p n (instruction_line j) m thread_line s stood h = h
held_more p n (instruction_line j) m (instruction_line i) s stood h = somewhere_grown _ p.instruction_lines p.threads n j s.instruction_lines h
held_more p n (instruction_line j) m (fault_line cs) s stood h = h
held_more p n (fault_line ds) m (bound_line i) s stood h = h
held_more p n (fault_line ds) m thread_line s stood h = h
held_more p n (fault_line ds) m (instruction_line i) s stood h = h
held_more p n (fault_line ds) m (fault_line cs) s stood h = somewhere_append _ p.fault_lines (n ∷ []) p.faults (ds ∷ []) h

held_new : (p : Progress) (n : ℕ) (l : Line) → Sound p → stands p l ≡ true → Held (with_line p n l) n l
held_new p n (bound_line k) s stood = refl
held_new p n thread_line s stood = Contains-push p.thread_lines n
held_new p n (instruction_line i) s stood =
    newly_grown (λ m j. (m ≡ n) × (j ≡ i)) p.instruction_lines p.threads n i s.instruction_lines (and_parts (some p.threads) (not (some p.faults)) stood).0 (refl, refl)
held_new p n (fault_line cs) s stood = somewhere_push (λ m ds. (m ≡ n) × (ds ≡ cs)) p.fault_lines p.faults n cs s.fault_lines (refl, refl)

held_on : (ls : List (List ℕ)) (p q : Progress) (n m : ℕ) (l : Line) → Sound p → read_lines p n ls ≡ Ok q → Held p m l → Held q m l
held_on [] p q n m l s h k = let e : p ≡ q = cc in subst (λ r. Held r m l) e k
held_on (bs ∷ ls) p q n m l s h k =
    let on = went_on (λ r. read_lines r (n + 1) ls) (line p n bs) q h in
    let here : Held on.0 m l = line_is p on.0 n bs on.1 (λ blank same. subst (λ r. Held r m l) same k) (λ t. subst (λ r. Held r m l) (sym t.is) (held_more p n t.said m l s t.stood k)) in
    held_on ls on.0 q (n + 1) m l (read_one_sound p on.0 n bs s on.1) on.2 here

held_there : (before : List (List ℕ)) (here : List ℕ) (after : List (List ℕ)) (p q : Progress) (n : ℕ) (l : Line) → Sound p → read_lines p n (before ++ here ∷ after) ≡ Ok q
    → words_say (words (content_of here)) ≡ means l → Held q (n + length before) l
held_there [] here after p q n l s h says =
    let on = went_on (λ r. read_lines r (n + 1) after) (line p n here) q h in
    let now : Held on.0 n l =
    line_is p on.0 n here on.1
    (λ blank same. let none = ap words_say blank in cc)
    (λ t. let same : t.said ≡ l = (let both = t.says in cc) in subst (λ r. Held r n l) (sym t.is) (subst (λ k. Held (with_line p n t.said) n k) same (held_new p n t.said s t.stood))) in
    let at : n ≡ n + 0 = omega arith in
    subst (λ k. Held q k l) at (held_on after on.0 q (n + 1) n l (read_one_sound p on.0 n here s on.1) on.2 now)
held_there (b ∷ before) here after p q n l s h says =
    let on = went_on (λ r. read_lines r (n + 1) (before ++ here ∷ after)) (line p n b) q h in
    let at : n + 1 + length before ≡ n + length (b ∷ before) = omega arith in
    subst (λ k. Held q k l) at (held_there before here after on.0 q (n + 1) l (read_one_sound p on.0 n b s on.1) on.2 says)

-- each part stands beside a line below n that says it
record Placed (every : List (List ℕ)) (n : ℕ) (p : Progress) : Type 0 where
  bound : (k : ℕ) → p.bound ≡ Some k → (m : ℕ) × SaysOn every m (bound_line k)
  threads : Pairwise (λ m t. SaysOn every m thread_line) p.thread_lines p.threads
  instructions : Pairwise (Pairwise (λ m i. SaysOn every m (instruction_line i))) p.instruction_lines p.threads
  faults : Pairwise (λ m cs. SaysOn every m (fault_line cs)) p.fault_lines p.faults
  rising : Rising (part_lines p)
  below : All (λ m. m < n) (part_lines p)

below_more : (ms : List ℕ) (n : ℕ) → All (λ m. m < n) ms → All (λ m. m < n + 1) ms
below_more ms n h = all_weaker (λ m. m < n) (λ m. m < n + 1) (λ m l. omega arith) ms h

put_last : (n : ℕ) (a b c : List ℕ) → b ≡ a ++ n ∷ [] → c ≡ [] → b ++ c ≡ (a ++ c) ++ n ∷ []
put_last n a b c e none = rw (e, none) (append-nil (a ++ n ∷ []) ∙ ap (λ r. r ++ n ∷ []) (sym (append-nil a)))

module _ (every : List (List ℕ)) (n : ℕ) (p : Progress) where
  skip : Placed every n p → Placed every (n + 1) p
  skip h = record { bound = h.bound; threads = h.threads; instructions = h.instructions; faults = h.faults; rising = h.rising; below = below_more (part_lines p) n h.below }

  module _ (q : Progress) (h : Placed every n p) (last : part_lines q ≡ part_lines p ++ n ∷ []) where
    rises : Rising (part_lines q)
    rises = subst Rising (sym last) (rising_push (part_lines p) n h.rising h.below)

    stays_below : All (λ m. m < n + 1) (part_lines q)
    stays_below = subst (All (λ m. m < n + 1)) (sym last) (all_push (λ m. m < n + 1) (part_lines p) n (below_more (part_lines p) n h.below) (omega arith))

  placed_more : (l : Line) → Sound p → stands p l ≡ true → SaysOn every n l → Placed every n p → Placed every (n + 1) (with_line p n l)
  placed_more (bound_line k) s stood says h =
      record { bound = λ j e. let same : k ≡ j = cc in (n, subst (λ i. SaysOn every n (bound_line i)) same says); threads = h.threads; instructions = h.instructions; faults = h.faults; rising = h.rising; below = below_more (part_lines p) n h.below }
  placed_more thread_line s stood says h =
      let none = no_fault_lines p s (and_parts (is_some p.bound) (not (some p.faults)) stood).1 in
      let last = put_last n (thread_by_thread p.thread_lines p.instruction_lines) _ p.fault_lines (thread_more p.thread_lines p.instruction_lines n (as_long p s)) none in
      record {
        bound = h.bound;
        threads = pairwise_append _ p.thread_lines (n ∷ []) p.threads ([] ∷ []) h.threads (says, tt);
        instructions = pairwise_append _ p.instruction_lines ([] ∷ []) p.threads ([] ∷ []) h.instructions (tt, tt);
        faults = h.faults;
        rising = rises (with_line p n thread_line) h last;
        below = stays_below (with_line p n thread_line) h last;
      }
  placed_more (instruction_line i) s stood says h =
      let there = and_parts (some p.threads) (not (some p.faults)) stood in
      let none = no_fault_lines p s there.1 in
      let rows = some_rows AsLong p.instruction_lines p.threads s.instruction_lines there.0 in
      let last = put_last n (thread_by_thread p.thread_lines p.instruction_lines) _ p.fault_lines (instruction_more p.thread_lines p.instruction_lines n (as_long p s) rows) none in
      record {
        bound = h.bound;
        threads = pairwise_beside (λ m. SaysOn every m thread_line) p.thread_lines p.threads i h.threads;
        instructions = pairwise_grown (λ m j. SaysOn every m (instruction_line j)) p.instruction_lines p.threads n i h.instructions says;
        faults = h.faults;
        rising = rises (with_line p n (instruction_line i)) h last;
        below = stays_below (with_line p n (instruction_line i)) h last;
      }
    where
      some_rows : {X Y : Type 0} (R : X → Y → Type 0) (xs : List X) (ys : List Y) → Pairwise R xs ys → some ys ≡ true → some xs ≡ true
      some_rows R [] [] h k = cc
      some_rows R [] (y ∷ ys) h k = absurd h
      some_rows R (x ∷ xs) ys h k = refl
  placed_more (fault_line cs) s stood says h =
      let last = sym (append_assoc (thread_by_thread p.thread_lines p.instruction_lines) p.fault_lines (n ∷ [])) in
      record {
        bound = h.bound;
        threads = h.threads;
        instructions = h.instructions;
        faults = pairwise_append _ p.fault_lines (n ∷ []) p.faults (cs ∷ []) h.faults (says, tt);
        rising = rises (with_line p n (fault_line cs)) h last;
        below = stays_below (with_line p n (fault_line cs)) h last;
      }

placed_lines : (every ls seen : List (List ℕ)) (p q : Progress) (n : ℕ) → every ≡ seen ++ ls → n ≡ length seen + 1 → Sound p → Placed every n p → read_lines p n ls ≡ Ok q → (m : ℕ) × Placed every m q
placed_lines every [] seen p q n are counted s h r = let e : p ≡ q = cc in (n, subst (Placed every n) e h)
placed_lines every (bs ∷ ls) seen p q n are counted s h r =
    let on = went_on (λ o. read_lines o (n + 1) ls) (line p n bs) q r in
    let here : Placed every (n + 1) on.0 =
    line_is p on.0 n bs on.1
    (λ blank same. subst (Placed every (n + 1)) same (skip every n p h))
    (λ t. let says : SaysOn every n t.said = record { before = seen; here = bs; after = ls; are = are; counted = counted; says = t.says } in
    subst (Placed every (n + 1)) (sym t.is) (placed_more every n p t.said s t.stood says h)) in
    placed_lines every ls (seen ++ bs ∷ []) on.0 q (n + 1) (are ∙ sym (append_assoc seen (bs ∷ []) ls)) (omega (arith, counted, length_push seen bs)) (read_one_sound p on.0 n bs s on.1) here on.2

module _ (ls : List (List ℕ)) (p : Progress) (h : read_lines nothing 1 ls ≡ Ok p) where
  placed : (m : ℕ) × Placed ls m p
  placed = placed_lines ls ls [] nothing p 1 refl refl nothing_sound (record { bound = λ k e. cc; threads = tt; instructions = tt; faults = tt; rising = tt; below = tt }) h

  pub rising_lines : Rising (part_lines p)
  rising_lines = placed.1.rising

  pub lined : Lined ls p
  lined =
      record {
        all_held = λ n l s.
            let at : 1 + length s.before ≡ n = omega (arith, s.counted) in
            subst (λ k. Held p k l) at (held_there s.before s.here s.after nothing p 1 l nothing_sound (subst (λ v. read_lines nothing 1 v ≡ Ok p) s.are h) s.says);
        bound = placed.1.bound;
        threads = placed.1.threads;
        instructions = placed.1.instructions;
        faults = placed.1.faults;
        in_order = rising_pairs (part_lines p) placed.1.rising;
      }
