-- A placement that is kept is the least one of some search whose rows sufficed, whatever calls led to it. Nothing is assumed.
use Rattle.std.proofs.Common.{◌≡◌, ℕ, ◌^◌, ◌<◌, ◌≤◌, Bool, true, false, not, List, [], ◌∷◌, Some, None, Option, is_none, unwrap_or, Ok, Err, Result, count_ones, refl, ap, sym, subst, ◌∙◌, arith}
use Rattle.std.proofs.Math.Pow.{pow_mono}
use Rattle.std.proofs.lemmas.Nat.{and_le_l, xor_lt}
use Rattle.listing.specs.declared.program.Program.{Program}
use Rattle.listing.specs.declared.refusal.Refusal.{Refusal}
use Rattle.listing.specs.declared.refusal.Reason.TheVariants.{NoneEnough, TooFewRows}
use Rattle.listing.specs.Code.{places}
use Rattle.listing.proofs.Programs.{kept as keeps_limits, together_part}
use Rattle.machines.specs.Laws.{Lawful}
use Rattle.machines.specs.Machines.{Meaning}
use Rattle.machines.specs.Places.{first_places}
use Rattle.search.specs.Enough.{fits}
use Rattle.search.specs.Least.{Best}
use Rattle.search.proofs.Placing.{placing}
use Rattle.job.specs.declared.solution.Solution.{Solution}
use Rattle.job.specs.Answers.{least_set, solution, bar_answer, free_answer}
use Rattle.job.specs.Checks.{unless_refused}
use Rattle.job.specs.Histories.{Event, Read, Bar, Free, Solve, Test, Show, Plain, after, changed, loaded, next}
use Rattle.job.specs.States.{Held, State, begun, keeping, open_places}
use Rattle.job.specs.Texts.{program_of}

-- the open places are a set of places below 32
pub few_places : (p : Program) → places p ≤ 32
few_places p = omega (arith, together_part p.threads 4, (keeps_limits p).few)

pub open_small : (h : Held) → open_places h < 2 ^ 32
open_small h =
    let n = places h.program in
    let all : first_places n < 2 ^ 32 = omega (arith, pow_mono (few_places h.program)) in
    xor_lt 32 (first_places n) _ all (omega (arith, and_le_l (first_places n) h.barred.mask, all))

abbrev kept_of : State → Option Solution
kept_of None = None
kept_of (Some h) = h.kept

module _ {S : Type 0} (M : Program → Meaning S) where
  pub record Solved (h : Held) (k : Solution) : Type 0 where
    pub rows : ℕ
    pub fit : fits (M h.program) rows ≡ true
    pub least : least_set M rows h ≡ Some k.places.mask
    pub count : k.fences ≡ count_ones k.places.mask

  abbrev pub KeptSolved : State → Type 0
  KeptSolved s = (h : Held) (k : Solution) → s ≡ Some h → h.kept ≡ Some k → Solved h k

  keeps_none : (s : State) → kept_of s ≡ None → KeptSolved s
  keeps_none s none h k is kept =
      let some : None ≡ Some k = sym none ∙ (ap kept_of is ∙ kept) in
      cc

  of_loaded : (r : Result Program Refusal) (s : State) → KeptSolved s → KeptSolved (loaded r s)
  of_loaded (Ok p) s all = keeps_none (Some (begun p)) refl
  of_loaded (Err e) s all = all

  -- a bar or a free drops what is kept, if it is granted
  of_changed : {X : Type 0} (r : Result X Refusal) (change : X → Held → Held) → ((x : X) (h : Held) → (change x h).kept ≡ None) → (s : State) → KeptSolved s → KeptSolved (changed r change s)
  of_changed (Ok x) change drops None all = keeps_none None refl
  of_changed (Ok x) change drops (Some h) all = keeps_none (Some (change x h)) (drops x h)
  of_changed (Err e) change drops s all = all

  now_kept : (n : ℕ) (h : Held) (set : ℕ) → fits (M h.program) n ≡ true → least_set M n h ≡ Some set → KeptSolved (Some (keeping (solution set) h))
  now_kept n h set fit is h' k same kept =
      let held : keeping (solution set) h ≡ h' = cc in
      let k_is : solution set ≡ k = cc in
      subst (λ x. Solved x k) held (subst (λ x. Solved (keeping (solution set) h) x) k_is (record { rows = n; fit = fit; least = is; count = refl }))

  of_solved : (n : ℕ) (h : Held) (b : Bool) (o : Option ℕ) → fits (M h.program) n ≡ b → least_set M n h ≡ o → KeptSolved (Some h)
      → KeptSolved (changed (unless_refused ((TooFewRows, not b) ∷ (NoneEnough, is_none o) ∷ []) (solution (unwrap_or o 0))) keeping (Some h))
  of_solved n h false o fit is all = all
  of_solved n h true None fit is all = all
  of_solved n h true (Some set) fit is all = now_kept n h set fit is

  of_next : (s : State) (e : Event) → KeptSolved s → KeptSolved (next M s e)
  of_next s (Read text) all = of_loaded (program_of text) s all
  of_next s (Bar q) all = of_changed (bar_answer s q) _ (λ x h. refl) s all
  of_next s (Free q) all = of_changed (free_answer s q) _ (λ x h. refl) s all
  of_next None (Solve rows) all = all
  of_next (Some h) (Solve rows) all = of_solved rows h (fits (M h.program) rows) (least_set M rows h) refl refl all
  of_next s (Test qs rows run) all = all
  of_next s (Show q rows run) all = all
  of_next s (Plain rows run) all = all

  of_after : (es : List Event) (s : State) → KeptSolved s → KeptSolved (after M es s)
  of_after [] s all = all
  of_after (e ∷ es) s all = of_after es (next M s e) (of_next s e all)

  pub always_solved : (es : List Event) → KeptSolved (after M es None)
  always_solved es = of_after es None (keeps_none None refl)

  pub best : {h : Held} {k : Solution} → Lawful h.program (M h.program) → Solved h k → Best h.program (M h.program) (open_places h) k.places.mask
  best {h = h} {k = k} l s = ((placing h.program l).best s.rows (open_places h) k.places.mask s.fit (open_small h)).0 s.least
