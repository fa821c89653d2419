-- Words that spell a program within the limits are read as that program. Assumes nothing.
use Rattle.std.proofs.Common.{◌≡◌, ℕ, ◌+◌, ◌≤◌, true, not, ◌&&◌, leb, List, [], ◌∷◌, ◌++◌, map, length, is_some, Some, None, Ok, sym, refl, ap, ◌∙◌, subst, arith}
use Rattle.std.specs.List.{flat_map}
use Rattle.std.proofs.lemmas.List.{append-nil, append_assoc, length_push}
use Rattle.std.proofs.lemmas.Bool.{and_parts, and_from, lt-ltb}
use Rattle.listing.specs.declared.code.Condition.{Condition}
use Rattle.listing.specs.declared.code.Instruction.{Instruction}
use Rattle.listing.specs.Code.{Code}
use Rattle.listing.specs.Forms.{Line, bound_line, thread_line, instruction_line, fault_line}
use Rattle.listing.proofs.Failing.{jumps_there}
use Rattle.listing.specs.LineForms.{line_items}
use Rattle.listing.specs.Limits.{all, between, together, condition_there, thread_keeps, fault_keeps, fault_fits}
use Rattle.listing.specs.Reading.{Progress, nothing, some, last_length, room, grown, with_line, first_failing, target_failing, targeted, complete, filled, finished}
use Rattle.listing.specs.Spelling.{Item, Spelled, Pairwise, instruction_items, thread_rows, fault_row, rows, keeps_limits}
use Rattle.listing.specs.Values.{instruction_fits, condition_fits}
use Rattle.listing.proofs.Counts.{at_most, has_some, some_last}
use Rattle.listing.proofs.Failing.{none_fails, no_jump_fails}
use Rattle.listing.proofs.FormSpells.{line_ranges}
use Rattle.listing.proofs.Grown.{together_push, last_length_push, grown_push}
use Rattle.listing.proofs.Kept.{all_weaker}
use Rattle.listing.proofs.LineSteps.{stands, takes}
use Rattle.listing.proofs.Within.{thread_parts, fault_parts, Within, within}
use Rattle.listing.proofs.WordLines.{with_words, read_words}

-- reading gets to a place where these rows are left
record Onward (p : Progress) (n : ℕ) (wss : List (List (List ℕ))) (left-rows : List (List Item)) (P : Progress → Type 0) : Type 0 where
  to : Progress
  at : ℕ
  left : List (List (List ℕ))
  same : read_words p n wss ≡ read_words to at left
  spelled : Pairwise (Pairwise Spelled) left-rows (with_words left)
  holds : P to

next_line : (wss : List (List (List ℕ))) (p : Progress) (n : ℕ) (l : Line) (rest : List (List Item)) → stands p l ≡ true → line_ranges l ≡ true → room p l ≡ true
    → Pairwise (Pairwise Spelled) (line_items l ∷ rest) (with_words wss) → Onward p n wss rest (λ q. (m : ℕ) × (q ≡ with_line p m l))
next_line [] p n l rest stood ranged fitted s = absurd s
next_line ([] ∷ wss) p n l rest stood ranged fitted s =
    let o = next_line wss p (n + 1) l rest stood ranged fitted s in
    record { to = o.to; at = o.at; left = o.left; same = o.same; spelled = o.spelled; holds = o.holds }
next_line ((w ∷ ws) ∷ wss) p n l rest stood ranged fitted s =
    record {
      to = with_line p n l;
      at = n + 1;
      left = wss;
      same = rw (takes p n l w ws stood ranged fitted s.0, read_words) refl;
      spelled = s.1;
      holds = (n, refl);
    }

no_line : (wss : List (List (List ℕ))) (p : Progress) (n : ℕ) → Pairwise (Pairwise Spelled) [] (with_words wss) → read_words p n wss ≡ Ok p
no_line [] p n s = refl
no_line ([] ∷ wss) p n s = no_line wss p (n + 1) s
no_line ((w ∷ ws) ∷ wss) p n s = absurd s

-- what has been read
record Reached (k : ℕ) (ts : List (List (Instruction ℕ))) (fs : List (List (Condition ℕ))) (p : Progress) : Type 0 where
  bound : p.bound ≡ Some k
  threads : p.threads ≡ ts
  faults : p.faults ≡ fs

onward_then : (p : Progress) (n : ℕ) (wss : List (List (List ℕ))) (rs : List (List Item)) (P : Progress → Type 0) → Onward p n wss rs P
    → (ss : List (List Item)) (Q : Progress → Type 0) → ((q : Progress) (m : ℕ) (vss : List (List (List ℕ))) → P q → Pairwise (Pairwise Spelled) rs (with_words vss) → Onward q m vss ss Q) → Onward p n wss ss Q
onward_then p n wss rs P o ss Q f =
    let u = f o.to o.at o.left o.holds o.spelled in
    record { to = u.to; at = u.at; left = u.left; same = o.same ∙ u.same; spelled = u.spelled; holds = u.holds }

faults_read : (fs done : List (List (Condition ℕ))) (p : Progress) (n : ℕ) (wss : List (List (List ℕ))) (k : ℕ) (ts : List (List (Instruction ℕ))) → Reached k ts done p
    → length done + length fs ≤ 8 → all fault_fits fs ≡ true → Pairwise (Pairwise Spelled) (map fault_row fs) (with_words wss) → Onward p n wss [] (Reached k ts (done ++ fs))
faults_read [] done p n wss k ts r few fit s =
    record {
      to = p;
      at = n;
      left = wss;
      same = refl;
      spelled = s;
      holds = record { bound = r.bound; threads = r.threads; faults = r.faults ∙ sym (append-nil done) };
    }
faults_read (f ∷ fs) done p n wss k ts r few fit s =
    let fits = and_parts (fault_fits f) (all fault_fits fs) fit in
    let parts = and_parts (between 1 6 (length f)) (all condition_fits f) fits.0 in
    let short = and_parts (leb 1 (length f)) (leb (length f) 6) parts.0 in
    onward_then p n wss (map fault_row fs) _
    (next_line wss p n (fault_line f) (map fault_row fs) (ap is_some r.bound) (and_from _ _ short.0 parts.1)
    (and_from _ _ short.1 (lt-ltb _ _ (let e : length p.faults ≡ length done = ap length r.faults in omega arith))) s)
    [] (Reached k ts (done ++ f ∷ fs))
    (λ q m vss h v. subst (λ gs. Onward q m vss [] (Reached k ts gs)) (append_assoc done (f ∷ []) fs)
    (faults_read fs (done ++ f ∷ []) q m vss k ts
    (record { bound = ap (λ q. q.bound) h.1 ∙ r.bound; threads = ap (λ q. q.threads) h.1 ∙ r.threads; faults = ap (λ q. q.faults) h.1 ∙ ap (λ gs. gs ++ f ∷ []) r.faults })
    (rw length_push (omega arith)) fits.1 v))

instructions_read : (is l : List (Instruction ℕ)) (done : List (List (Instruction ℕ))) (p : Progress) (n : ℕ) (wss : List (List (List ℕ))) (k : ℕ) (rest : List (List Item)) → Reached k (done ++ l ∷ []) [] p
    → length l + length is ≤ 16 → together done + (length l + length is) ≤ 32 → all instruction_fits is ≡ true
    → Pairwise (Pairwise Spelled) (map instruction_items is ++ rest) (with_words wss) → Onward p n wss rest (Reached k (done ++ (l ++ is) ∷ []) [])
instructions_read [] l done p n wss k rest r short few fit s =
    record {
      to = p;
      at = n;
      left = wss;
      same = refl;
      spelled = s;
      holds = record { bound = r.bound; threads = r.threads ∙ ap (λ m. done ++ m ∷ []) (sym (append-nil l)); faults = r.faults };
    }
instructions_read (i ∷ is) l done p n wss k rest r short few fit s =
    let fits = and_parts (instruction_fits i) (all instruction_fits is) fit in
    let e : last_length p.threads ≡ length l = ap last_length r.threads ∙ last_length_push done l in
    let f : together p.threads ≡ together done + length l = ap together r.threads ∙ together_push done l in
    onward_then p n wss (map instruction_items is ++ rest) _
    (next_line wss p n (instruction_line i) (map instruction_items is ++ rest)
    (and_from _ _ (ap some r.threads ∙ some_last done l) (ap (λ fs. not (some fs)) r.faults)) fits.0
    (and_from _ _ (lt-ltb (last_length p.threads) 16 (omega arith)) (lt-ltb (together p.threads) 32 (omega arith))) s)
    rest (Reached k (done ++ (l ++ i ∷ is) ∷ []) [])
    (λ q m vss h v. subst (λ t. Onward q m vss rest (Reached k (done ++ t ∷ []) [])) (append_assoc l (i ∷ []) is)
    (instructions_read is (l ++ i ∷ []) done q m vss k rest
    (record {
      bound = ap (λ q. q.bound) h.1 ∙ r.bound;
      threads = ap (λ q. q.threads) h.1 ∙ (ap (λ ts. grown ts i) r.threads ∙ grown_push done l i);
      faults = ap (λ q. q.faults) h.1 ∙ r.faults;
    })
    (rw length_push (omega arith)) (rw length_push (omega arith)) fits.1 v))

threads_read : (ts done : List (List (Instruction ℕ))) (p : Progress) (n : ℕ) (wss : List (List (List ℕ))) (k : ℕ) (rest : List (List Item)) → Reached k done [] p
    → length done + length ts ≤ 4 → together done + together ts ≤ 32 → all thread_keeps ts ≡ true
    → Pairwise (Pairwise Spelled) (flat_map thread_rows ts ++ rest) (with_words wss) → Onward p n wss rest (Reached k (done ++ ts) [])
threads_read [] done p n wss k rest r short few keep s =
    record {
      to = p;
      at = n;
      left = wss;
      same = refl;
      spelled = s;
      holds = record { bound = r.bound; threads = r.threads ∙ sym (append-nil done); faults = r.faults };
    }
threads_read (t ∷ ts) done p n wss k rest r short few keep s =
    let keeps = and_parts (thread_keeps t) (all thread_keeps ts) keep in
    let parts = thread_parts t keeps.0 in
    let low = at_most 1 16 (length t) parts.0 in
    let e : length p.threads ≡ length done = ap length r.threads in
    onward_then p n wss (map instruction_items t ++ (flat_map thread_rows ts ++ rest)) _
    (next_line wss p n thread_line (map instruction_items t ++ (flat_map thread_rows ts ++ rest))
    (and_from _ _ (ap is_some r.bound) (ap (λ fs. not (some fs)) r.faults)) refl
    (lt-ltb _ _ (omega arith))
    (subst (λ rs. Pairwise (Pairwise Spelled) (line_items thread_line ∷ rs) (with_words wss)) (append_assoc (map instruction_items t) (flat_map thread_rows ts) rest) s))
    rest (Reached k (done ++ t ∷ ts) [])
    (λ q m vss h v. onward_then q m vss (flat_map thread_rows ts ++ rest) _
    (instructions_read t [] done q m vss k (flat_map thread_rows ts ++ rest)
    (record {
      bound = ap (λ q. q.bound) h.1 ∙ r.bound;
      threads = ap (λ q. q.threads) h.1 ∙ ap (λ ts. ts ++ [] ∷ []) r.threads;
      faults = ap (λ q. q.faults) h.1 ∙ r.faults;
    })
    (omega arith) (omega arith) parts.1 v)
    rest (Reached k (done ++ t ∷ ts) [])
    (λ q m vss reached v. subst (λ us. Onward q m vss rest (Reached k us [])) (append_assoc done (t ∷ []) ts)
    (threads_read ts (done ++ t ∷ []) q m vss k rest reached (rw length_push (omega arith)) (rw together_push (omega arith)) keeps.1 v)))

thread_has_some : (t : List (Instruction ℕ)) → thread_keeps t ≡ true → some t ≡ true
thread_has_some t h = has_some t 16 (thread_parts t h).0

fault_fit : (ts : List (List (Instruction ℕ))) (cs : List (Condition ℕ)) → fault_keeps ts cs ≡ true → fault_fits cs ≡ true
fault_fit ts cs h = let parts = fault_parts ts cs h in and_from _ _ parts.0 parts.1

finishes : (c : Code) (p : Progress) → Within c → Reached c.bound c.threads c.faults p → finished p ≡ Ok c
unfolding finished
finishes c p w r =
    let keep : all thread_keeps p.threads ≡ true = ap (all thread_keeps) r.threads ∙ w.keep in
    let aim : all (all (condition_there p.threads)) p.faults ≡ true =
    rw (r.threads, r.faults) (all_weaker (fault_keeps c.threads) (all (condition_there c.threads)) (λ cs h. (fault_parts c.threads cs h).2) c.faults w.aim) in
    let there : (some p.threads && some p.faults) ≡ true =
    rw (r.threads, r.faults) (and_from _ _ (has_some c.threads 4 w.threads) (has_some c.faults 8 w.faults)) in
    let a : first_failing some p.thread_lines p.threads ≡ None = none_fails some p.thread_lines p.threads (all_weaker thread_keeps some thread_has_some p.threads keep) in
    let b : target_failing p ≡ None =
    rw (no_jump_fails p.instruction_lines p.threads (all_weaker thread_keeps jumps_there (λ t h. (thread_parts t h).2) p.threads keep)) (none_fails (all (condition_there p.threads)) p.fault_lines p.faults aim) in
    ap (filled p) a ∙ (ap (complete p) r.bound ∙ (rw there (ap (targeted p c.bound) b ∙ rw (r.threads, r.faults) refl)))

read_whole : (wss : List (List (List ℕ))) (c : Code) → Within c → Pairwise (Pairwise Spelled) (rows c) (with_words wss) → Onward nothing 1 wss [] (Reached c.bound c.threads c.faults)
read_whole wss c w s =
    onward_then nothing 1 wss (flat_map thread_rows c.threads ++ map fault_row c.faults) _
    (next_line wss nothing 1 (bound_line c.bound) (flat_map thread_rows c.threads ++ map fault_row c.faults) refl w.bound refl s)
    [] (Reached c.bound c.threads c.faults)
    (λ q m vss g v. onward_then q m vss (map fault_row c.faults) _
    (threads_read c.threads [] q m vss c.bound (map fault_row c.faults)
    (record { bound = ap (λ q. q.bound) g.1; threads = ap (λ q. q.threads) g.1; faults = ap (λ q. q.faults) g.1 })
    (omega (arith, at_most 1 4 (length c.threads) w.threads)) (omega (arith, w.few)) w.keep v)
    [] (Reached c.bound c.threads c.faults)
    (λ q m vss reached v. faults_read c.faults [] q m vss c.bound c.threads reached
    (omega (arith, at_most 1 8 (length c.faults) w.faults))
    (all_weaker (fault_keeps c.threads) fault_fits (fault_fit c.threads) c.faults w.aim) v))

pub spelled_words : (wss : List (List (List ℕ))) (c : Code) → keeps_limits c ≡ true → Pairwise (Pairwise Spelled) (rows c) (with_words wss) → (p : Progress) × (read_words nothing 1 wss ≡ Ok p) × (finished p ≡ Ok c)
spelled_words wss c h s =
    let w = within c h in
    let o = read_whole wss c w s in
    (o.to, o.same ∙ no_line o.left o.to o.at o.spelled, finishes c o.to w o.holds)
