use Rattle.std.proofs.Common.{◌<◌, ◌≤◌, false, ltb, ◌&&◌, ◌≡◌, ◌+◌, ◌-◌, ltb, length, get_or, refl, ap, ◌∙◌, sym, arith, rules}
use Rattle.std.proofs.lemmas.Bool.{and_from, and_left, and_right, eqb-false, eqb-true, le-ltb, lt-ltb}
use Rattle.listing.specs.Drafts.{progress_of}
use Rattle.listing.specs.Forms.{instruction_line}
use Rattle.listing.specs.Limits.{together}
use Rattle.listing.specs.Reading.{grown, last_length}
use Rattle.listing.proofs.Drafted.{last_is, lined_grown, lined_many, replaced, some_there}
use Rattle.listing.proofs.Grown.{grown_length, grown_together}
use Rattle.listing.proofs.Sound.{grown_fit}
use Rattle.listing.proofs.Stands.{held_adds, held_full}
use Rattle.listing.proofs.draft.Draft.push_instruction.Goals as goal
use Rattle.listing.proofs.draft.Draft.push_instruction.Goals.{then-is_full-via-then-is_full, then-is_full-via-else-is_full+then-together-ge-MOST_INSTRUCTIONS}

pub returns-then-is_full-clause-adds : goal.returns-then-is_full-clause-adds
returns-then-is_full-clause-adds c =
    let d = c.args.self.now in
    let n = c.len-last.result - 1 in
    let many : length d.threads ≡ n + 1 = omega (arith, c.len-last.ensures.value, c.requires.some) in
    let code : c.index-as_slice-last.result ≡ get_or d.threads n c.index-as_slice-last.result = search rules in
    let last = ap length code ∙ last_is d.threads n c.index-as_slice-last.result many in
    let none : (ltb (last_length d.threads) 16 && ltb (together d.threads) 32) ≡ false =
    elim c.then-is_full.branch [
      | then-is_full-via-then-is_full w ↦
          let long = eqb-true (length c.index-as_slice-last.result) 16 (sym w.if-is_full.ensures.value) in
          let high : 16 ≤ last_length d.threads = omega (arith, long, last) in
          and_left _ _ (le-ltb (last_length d.threads) 16 high)
      | then-is_full-via-else-is_full+then-together-ge-MOST_INSTRUCTIONS w ↦
          let all : w.together.result ≡ together d.threads = w.together.ensures ∙ ap together w.as_slice-else-is_full.ensures in
          let high : 32 ≤ together d.threads = omega (arith, all, w.if-together-ge-MOST_INSTRUCTIONS.true) in
          and_right _ _ (le-ltb (together d.threads) 32 high)
    ] in
    held_full (progress_of d) c.args.line (instruction_line c.args.instruction) c.at.result none c.at.ensures

pub invariant_of-self : goal.invariant_of-self
invariant_of-self c =
    let d = c.args.self.now in
    let n = c.len-last.result - 1 in
    let many : length d.threads ≡ n + 1 = omega (arith, c.len-last.ensures.value, c.requires.some) in
    let code : c.index-as_slice-last.result ≡ get_or d.threads n c.index-as_slice-last.result = search rules in
    let last = ap length code ∙ last_is d.threads n c.index-as_slice-last.result many in
    let all : c.together.result ≡ together d.threads = c.together.ensures ∙ ap together c.as_slice-else-is_full.ensures in
    let room = eqb-false (length c.index-as_slice-last.result) 16 (sym c.if-is_full.ensures.value) in
    let short : last_length d.threads < 16 = omega (arith, room, c.if-is_full.ensures.within, last) in
    let few : together d.threads < 32 = omega (arith, all, c.if-together-ge-MOST_INSTRUCTIONS.false) in
    let lines-many : length d.instruction_lines ≡ n + 1 = lined_many d.instruction_lines d.threads d.instructions_lined ∙ many in
    let numbers : c.index-as_slice-last-2.result ≡ get_or d.instruction_lines n c.index-as_slice-last-2.result = search rules in
    let threads : c.replace_last.new.self ≡ grown d.threads c.args.instruction = replaced d.threads c.replace_last.new.self n n c.args.instruction c.index-as_slice-last.result c.push.new.self many (omega arith) code c.push.ensures c.replace_last.ensures in
    let lines : c.replace_last-2.new.self ≡ grown d.instruction_lines c.args.line = replaced d.instruction_lines c.replace_last-2.new.self n n c.args.line c.index-as_slice-last-2.result c.push-2.new.self lines-many (omega arith) numbers c.push-2.ensures c.replace_last-2.ensures in
    let there = some_there d.threads c.requires.some in
    record {
      bounded = d.bounded;
      few_threads = omega (arith, ap length threads, grown_length d.threads c.args.instruction, d.few_threads);
      few_instructions = omega (arith, ap together threads, grown_together d.threads c.args.instruction there, few);
      threads_fit = rw threads (grown_fit d.threads c.args.instruction short c.requires.value d.threads_fit);
      few_faults = d.few_faults;
      faults_fit = d.faults_fit;
      threads_lined = rw threads (d.threads_lined ∙ sym (grown_length d.threads c.args.instruction));
      instructions_lined = rw (threads, lines) (lined_grown d.instruction_lines d.threads c.args.line c.args.instruction d.instructions_lined);
      faults_lined = d.faults_lined;
    }

pub returns-clause-adds : goal.returns-clause-adds
returns-clause-adds c =
    let d = c.args.self.now in
    let n = c.len-last.result - 1 in
    let many : length d.threads ≡ n + 1 = omega (arith, c.len-last.ensures.value, c.requires.some) in
    let code : c.index-as_slice-last.result ≡ get_or d.threads n c.index-as_slice-last.result = search rules in
    let last = ap length code ∙ last_is d.threads n c.index-as_slice-last.result many in
    let all : c.together.result ≡ together d.threads = c.together.ensures ∙ ap together c.as_slice-else-is_full.ensures in
    let room = eqb-false (length c.index-as_slice-last.result) 16 (sym c.if-is_full.ensures.value) in
    let short : last_length d.threads < 16 = omega (arith, room, c.if-is_full.ensures.within, last) in
    let few : together d.threads < 32 = omega (arith, all, c.if-together-ge-MOST_INSTRUCTIONS.false) in
    let lines-many : length d.instruction_lines ≡ n + 1 = lined_many d.instruction_lines d.threads d.instructions_lined ∙ many in
    let numbers : c.index-as_slice-last-2.result ≡ get_or d.instruction_lines n c.index-as_slice-last-2.result = search rules in
    let threads : c.replace_last.new.self ≡ grown d.threads c.args.instruction = replaced d.threads c.replace_last.new.self n n c.args.instruction c.index-as_slice-last.result c.push.new.self many (omega arith) code c.push.ensures c.replace_last.ensures in
    let lines : c.replace_last-2.new.self ≡ grown d.instruction_lines c.args.line = replaced d.instruction_lines c.replace_last-2.new.self n n c.args.line c.index-as_slice-last-2.result c.push-2.new.self lines-many (omega arith) numbers c.push-2.ensures c.replace_last-2.ensures in
    held_adds (progress_of d) c.args.line (instruction_line c.args.instruction) _ (and_from _ _ (lt-ltb (last_length d.threads) 16 short) (lt-ltb (together d.threads) 32 few)) (rw (threads, lines) refl)
