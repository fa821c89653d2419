-- What the checks of a whole draft say of what has been read. Assumes nothing.
use Rattle.std.proofs.Common.{◌≡◌, ℕ, Bool, true, false, cond, ◌&&◌, Some, None, Ok, Err, Option, sym, refl, ap, ◌∙◌}
use Rattle.std.proofs.lemmas.Bool.{and_from}
use Rattle.listing.specs.declared.draft.Draft.{Draft}
use Rattle.listing.specs.declared.refusal.Reason.TheVariants.{Missing, TargetMissing}
use Rattle.listing.specs.declared.refusal.Refusal.{Refusal}
use Rattle.listing.specs.Drafts.{progress_of}
use Rattle.listing.specs.Limits.{all, condition_there, within_limits}
use Rattle.listing.specs.Reading.{some, first_failing, or_else, jump_failing, refusal, target_failing, targeted, complete, finished}
use Rattle.listing.proofs.Pairs.{pairwise_lengths}
use Rattle.listing.proofs.Sound.{Sound}
use Rattle.listing.proofs.WordsSpell.{end_keeps}

module _ (d : Draft) where
  -- what each check finds: a thread without an instruction, a jump, a fault line
  abbrev pub unused_found : Option ℕ
  unused_found = first_failing some d.thread_lines d.threads

  abbrev pub jump_found : Option ℕ
  jump_found = jump_failing d.instruction_lines d.threads

  abbrev pub fault_found : Option ℕ
  fault_found = first_failing (all (condition_there d.threads)) d.fault_lines d.faults

  pub finish_unused : (e : Refusal) → unused_found ≡ Some e.line → e.reason ≡ Missing → Err e ≡ finished (progress_of d)
  unfolding finished
  finish_unused e found why = rw (found, ← why) refl

  module _ (used : unused_found ≡ None) where
    finish_used : finished (progress_of d) ≡ complete (progress_of d) d.bound
    unfolding finished
    finish_used = rw used refl

    pub finish_unbound : d.bound ≡ None → Err (refusal Missing 0) ≡ finished (progress_of d)
    finish_unbound none = sym (finish_used ∙ ap (λ b. complete (progress_of d) b) none)

    module _ (k : ℕ) (bound : d.bound ≡ Some k) where
      finish_bound : (b : Bool) → (some d.threads && some d.faults) ≡ b
          → finished (progress_of d) ≡ cond b (targeted (progress_of d) k (target_failing (progress_of d))) (Err (refusal Missing 0))
      finish_bound b e =
          finish_used ∙ ap (λ o. complete (progress_of d) o) bound
          ∙ ap (λ both. cond both (targeted (progress_of d) k (target_failing (progress_of d))) (Err (refusal Missing 0))) e

      pub finish_empty : (some d.threads && some d.faults) ≡ false → Err (refusal Missing 0) ≡ finished (progress_of d)
      finish_empty empty = sym (finish_bound false empty)

      module _ (threads : some d.threads ≡ true) (faults : some d.faults ≡ true) where
        finish_targets : finished (progress_of d) ≡ targeted (progress_of d) k (or_else jump_found fault_found)
        finish_targets = finish_bound true (and_from _ _ threads faults)

        pub finish_jump : (e : Refusal) → jump_found ≡ Some e.line → e.reason ≡ TargetMissing → Err e ≡ finished (progress_of d)
        finish_jump e found why = rw (finish_targets, found, ← why) refl

        pub finish_fault : (e : Refusal) → jump_found ≡ None → fault_found ≡ Some e.line → e.reason ≡ TargetMissing → Err e ≡ finished (progress_of d)
        finish_fault e none found why = rw (finish_targets, none, found, ← why) refl

        module _ (no_jump : jump_found ≡ None) (no_fault : fault_found ≡ None) where
          pub finish_granted : Ok (record { bound = k; threads = d.threads; faults = d.faults }) ≡ finished (progress_of d)
          finish_granted = rw (finish_targets, no_jump, no_fault) refl

          sound : Sound (progress_of d)
          sound =
              record {
                bound_fit = d.bounded;
                started = rw bound tt;
                few_threads = d.few_threads;
                few_instructions = d.few_instructions;
                threads_fit = d.threads_fit;
                few_faults = d.few_faults;
                faults_fit = d.faults_fit;
                thread_lines = d.threads_lined;
                instruction_lines = pairwise_lengths d.instruction_lines d.threads d.instructions_lined;
                fault_lines = d.faults_lined;
              }

          pub granted_within : within_limits k d.threads d.faults ≡ true
          granted_within = end_keeps (progress_of d) (record { bound = k; threads = d.threads; faults = d.faults }) sound (sym finish_granted)
