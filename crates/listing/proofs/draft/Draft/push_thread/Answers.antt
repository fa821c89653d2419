use Rattle.std.proofs.Common.{◌≡◌, ◌+◌, [], ◌∷◌, ◌++◌, length, ap, ◌∙◌, sym, refl, arith}
use Rattle.std.proofs.lemmas.List.{length_push}
use Rattle.std.proofs.lemmas.Bool.{eqb-false}
use Rattle.listing.specs.Limits.{thread_fits, together}
use Rattle.listing.proofs.Drafted.{lined_more}
use Rattle.listing.proofs.Grown.{together_push}
use Rattle.listing.proofs.Kept.{all_push}
use Rattle.listing.proofs.draft.Draft.push_thread.Goals as goal

pub invariant_of-self : goal.invariant_of-self
invariant_of-self c =
    let d = c.args.self.now in
    let full = eqb-false (length d.threads) 4 (sym c.if-is_full.ensures.value) in
    let threads : c.push.new.self ≡ d.threads ++ [] ∷ [] = c.push.ensures ∙ ap (λ t. d.threads ++ t ∷ []) c.new.ensures in
    let lines : c.push-3.new.self ≡ d.instruction_lines ++ [] ∷ [] = c.push-3.ensures ∙ ap (λ t. d.instruction_lines ++ t ∷ []) c.new-2.ensures in
    record {
      bounded = d.bounded;
      few_threads = omega (arith, ap length threads, length_push d.threads [], full, d.few_threads);
      few_instructions = omega (arith, ap together threads, together_push d.threads [], d.few_instructions);
      threads_fit = rw threads (all_push thread_fits d.threads [] d.threads_fit refl);
      few_faults = d.few_faults;
      faults_fit = d.faults_fit;
      threads_lined = rw (c.push-2.ensures, threads) (length_push d.thread_lines c.args.line ∙ (ap (λ m. m + 1) d.threads_lined ∙ sym (length_push d.threads [])));
      instructions_lined = rw (lines, threads) (lined_more d.instruction_lines d.threads d.instructions_lined);
      faults_lined = d.faults_lined;
    }
