-- What has been read is sound: it keeps the limits so far, and has a line for each of its parts. Assumes nothing.
use Rattle.std.proofs.Common.{◌≡◌, ℕ, ◌+◌, ◌<◌, ◌≤◌, true, false, not, ltb, leb, List, [], ◌∷◌, ◌++◌, map, length, is_some, Some, None, Ok, Option, sym, refl, ap, ◌∙◌, subst, arith}
use Rattle.std.proofs.lemmas.List.{length_push}
use Rattle.std.proofs.lemmas.Bool.{and_parts, and_from, ltb-true, le-leb}
use Rattle.listing.specs.declared.code.Condition.{Condition}
use Rattle.listing.specs.declared.code.Instruction.{Instruction}
use Rattle.listing.specs.Forms.{Line, bound_line, thread_line, instruction_line, fault_line}
use Rattle.listing.specs.Limits.{all, bound_fits, together, fault_fits, thread_fits}
use Rattle.listing.specs.Reading.{Progress, nothing, some, last_length, room, grown, with_line, read_lines}
use Rattle.listing.specs.Spelling.{Pairwise}
use Rattle.listing.specs.Values.{instruction_fits, condition_fits}
use Rattle.listing.specs.Words.{content_of, words}
use Rattle.listing.proofs.ByWords.{read_by_words, read_permitted}
use Rattle.listing.proofs.FormSpells.{line_ranges}
use Rattle.listing.proofs.Grown.{together_push, grown_length, grown_together, grown_as_long}
use Rattle.listing.proofs.Kept.{all_push}
use Rattle.listing.proofs.LineSteps.{stands, Taken, read_keeps}
use Rattle.listing.proofs.Pairs.{AsLong, pairwise_append}
use Rattle.listing.proofs.WordLines.{read_words}

-- before the bound there is nothing else
abbrev pub Started : Option ℕ → List (List (Instruction ℕ)) → List (List (Condition ℕ)) → Type 0
Started None ts fs = (ts ≡ []) × (fs ≡ [])
Started (Some k) ts fs = Unit {0}

-- what has been read keeps the limits so far, and stands side by side with its lines
pub record Sound (p : Progress) : Type 0 where
  pub bound_fit : bound_fits p.bound ≡ true
  pub started : Started p.bound p.threads p.faults
  pub few_threads : length p.threads ≤ 4
  pub few_instructions : together p.threads ≤ 32
  pub threads_fit : all thread_fits p.threads ≡ true
  pub few_faults : length p.faults ≤ 8
  pub faults_fit : all fault_fits p.faults ≡ true
  pub thread_lines : length p.thread_lines ≡ length p.threads
  pub instruction_lines : Pairwise AsLong p.instruction_lines p.threads
  pub fault_lines : length p.fault_lines ≡ length p.faults

pub nothing_sound : Sound nothing
nothing_sound =
    record {
      bound_fit = refl;
      started = (refl, refl);
      few_threads = omega arith;
      few_instructions = omega arith;
      threads_fit = refl;
      few_faults = omega arith;
      faults_fit = refl;
      thread_lines = refl;
      instruction_lines = tt;
      fault_lines = refl;
    }

-- before the bound there is no thread
pub no_thread : (p : Progress) → Sound p → p.bound ≡ None → some p.threads ≡ false
no_thread p s e = ap some (subst (λ o. Started o p.threads p.faults) e s.started).0

pub grown_fit : (ts : List (List (Instruction ℕ))) (i : Instruction ℕ) → last_length ts < 16 → instruction_fits i ≡ true → all thread_fits ts ≡ true → all thread_fits (grown ts i) ≡ true
grown_fit [] i short fits h = refl
grown_fit (t ∷ []) i short fits h =
    let parts = and_parts (leb (length t) 16) (all instruction_fits t) (and_parts (thread_fits t) true h).0 in
    and_from _ _ (and_from _ _ (le-leb (length (t ++ i ∷ [])) 16 (omega (arith, length_push t i))) (all_push instruction_fits t i parts.1 fits)) refl
grown_fit (t ∷ u ∷ ts) i short fits h =
    let parts = and_parts (thread_fits t) (all thread_fits (u ∷ ts)) h in
    and_from _ _ parts.0 (grown_fit (u ∷ ts) i short fits parts.1)

-- where the bound has been read
bound_read : (o : Option ℕ) (ts : List (List (Instruction ℕ))) (fs : List (List (Condition ℕ))) → is_some o ≡ true → Started o ts fs
bound_read None ts fs h = cc
bound_read (Some k) ts fs h = tt

-- where a thread has been read
thread_read : (o : Option ℕ) (ts us : List (List (Instruction ℕ))) (fs : List (List (Condition ℕ))) → some ts ≡ true → Started o ts fs → Started o us fs
thread_read None ts us fs h s = cc
thread_read (Some k) ts us fs h s = tt

sound_more : (p : Progress) (n : ℕ) (l : Line) → Sound p → stands p l ≡ true → line_ranges l ≡ true → room p l ≡ true → Sound (with_line p n l)
sound_more p n (bound_line k) s stood ranged fitted =
    record {
      bound_fit = ranged;
      started = tt;
      few_threads = s.few_threads;
      few_instructions = s.few_instructions;
      threads_fit = s.threads_fit;
      few_faults = s.few_faults;
      faults_fit = s.faults_fit;
      thread_lines = s.thread_lines;
      instruction_lines = s.instruction_lines;
      fault_lines = s.fault_lines;
    }
sound_more p n thread_line s stood ranged fitted =
    record {
      bound_fit = s.bound_fit;
      started = bound_read p.bound (p.threads ++ [] ∷ []) p.faults (and_parts (is_some p.bound) (not (some p.faults)) stood).0;
      few_threads = rw length_push (omega (arith, ltb-true (length p.threads) 4 fitted));
      few_instructions = omega (arith, together_push p.threads []);
      threads_fit = all_push thread_fits p.threads [] s.threads_fit refl;
      few_faults = s.few_faults;
      faults_fit = s.faults_fit;
      thread_lines = length_push p.thread_lines n ∙ (ap (λ m. m + 1) s.thread_lines ∙ sym (length_push p.threads []));
      instruction_lines = pairwise_append AsLong p.instruction_lines ([] ∷ []) p.threads ([] ∷ []) s.instruction_lines (refl, tt);
      fault_lines = s.fault_lines;
    }
sound_more p n (instruction_line i) s stood ranged fitted =
    let there = (and_parts (some p.threads) (not (some p.faults)) stood).0 in
    let left = and_parts (ltb (last_length p.threads) 16) (ltb (together p.threads) 32) fitted in
    record {
      bound_fit = s.bound_fit;
      started = thread_read p.bound p.threads (grown p.threads i) p.faults there s.started;
      few_threads = rw grown_length s.few_threads;
      few_instructions = omega (arith, grown_together p.threads i there, ltb-true (together p.threads) 32 left.1);
      threads_fit = grown_fit p.threads i (ltb-true (last_length p.threads) 16 left.0) ranged s.threads_fit;
      few_faults = s.few_faults;
      faults_fit = s.faults_fit;
      thread_lines = s.thread_lines ∙ sym (grown_length p.threads i);
      instruction_lines = grown_as_long p.instruction_lines p.threads n i s.instruction_lines;
      fault_lines = s.fault_lines;
    }
sound_more p n (fault_line cs) s stood ranged fitted =
    let fits = and_parts (leb 1 (length cs)) (all condition_fits cs) ranged in
    let left = and_parts (leb (length cs) 6) (ltb (length p.faults) 8) fitted in
    record {
      bound_fit = s.bound_fit;
      started = bound_read p.bound p.threads (p.faults ++ cs ∷ []) stood;
      few_threads = s.few_threads;
      few_instructions = s.few_instructions;
      threads_fit = s.threads_fit;
      few_faults = rw length_push (omega (arith, ltb-true (length p.faults) 8 left.1));
      faults_fit = all_push fault_fits p.faults cs s.faults_fit (and_from _ _ (and_from _ _ fits.0 left.0) fits.1);
      thread_lines = s.thread_lines;
      instruction_lines = s.instruction_lines;
      fault_lines = length_push p.fault_lines n ∙ (ap (λ m. m + 1) s.fault_lines ∙ sym (length_push p.faults cs));
    }

pub taken_sound : (p q : Progress) (n : ℕ) (ws : List (List ℕ)) → Taken p n ws q → Sound p → Sound q
taken_sound p q n ws t s = subst Sound (sym t.is) (sound_more p n t.said s t.stood t.ranged t.fitted)

pub read_sound : (wss : List (List (List ℕ))) (p q : Progress) (n : ℕ) → Sound p → read_words p n wss ≡ Ok q → Sound q
read_sound wss p q n = read_keeps (λ r vss. Sound r) (λ p q n vss ws. taken_sound p q n ws) wss p q n []

pub read_lines_sound : (ls : List (List ℕ)) (p q : Progress) (n : ℕ) → Sound p → read_lines p n ls ≡ Ok q → Sound q
read_lines_sound ls p q n s h = read_sound (map (λ l. words (content_of l)) ls) p q n s (sym (read_by_words ls p n (read_permitted ls p q n h)) ∙ h)
