use Rattle.std.proofs.Common.{◌≡◌, ◌^◌, ◌<◌, ◌≤◌, [], ◌++◌, count_ones, refl, length, codes, ap, sym, ◌∙◌, append_assoc, append-nil, arith, rules}
use Rattle.std.proofs.lemmas.Nat.{ones-le}
use Rattle.machines.proofs.Masks.{removing_within}
use Rattle.job.specs.Text.{decimal, befores, report}
use Rattle.job.proofs.Appended.{after_three}
use Rattle.job.proofs.Decimal.{printed}
use Rattle.job.proofs.Befores.{befores_more, befores_none}
use Rattle.job.proofs.lines.report_text.Goals as goal

pub loop-place-init : goal.loop-place-init
unfolding report
loop-place-init c =
    let set = c.args.kept.places.mask in
    let fences = c.args.kept.fences in
    let whole : c.into_iter-place-iterator.result.left.mask ≡ set = ap (λ s. s.mask) c.into_iter-place-iterator.ensures.into_iter_gives in
    let small : set < 2 ^ 32 = search rules in
    let few : fences ≤ 32 = c.requires in
    let count : c.format.result.now ≡ decimal fences = c.format.ensures.text ∙ printed fences (omega (arith, few)) in
    let start : c.push_str.new.self.bytes ≡ [] ++ codes "fences " = c.push_str.ensures.bytes ∙ ap (λ t. t ++ codes "fences ") c.new-text.ensures in
    let second : c.push_str-2.new.self.bytes ≡ c.push_str.new.self.bytes ++ decimal fences
    = c.push_str-2.ensures.bytes ∙ ap (λ t. c.push_str.new.self.bytes ++ t) count in
    let lines = befores c.args.program.now 32 set in
    record {
      can = tt;
      ends = tt;
      small = omega (arith, whole, small);
      room = omega (arith, ones-le 32 set small, ap count_ones whole, ap length (c.new-text.ensures));
      joins = rw whole (after_three [] (codes "fences ") (decimal fences) (codes "\n") lines start second c.push_str-3.ensures.bytes);
    }

pub loop-place-preserved : goal.loop-place-preserved
loop-place-preserved c =
    let kept = c.loop-place.invariant in
    let p = c.args.program.now in
    let text = c.loop-place.text.bytes in
    let set = c.loop-place.place-iterator.left.mask in
    let place = c.in-Some.place in
    let rest = c.next.new.self.left.mask in
    let taken = c.in-Some.ensures.steps in
    let fewer : count_ones rest < count_ones set = (c.in-Some.ensures.goes.on tt).2 in
    let few : count_ones rest ≤ 31 = omega (arith, ones-le 32 set kept.small) in
    let small : rest < 2 ^ 32 = omega (arith, removing_within set place, taken.1, kept.small) in
    record {
      can = tt;
      ends = tt;
      small = small;
      room = omega arith;
      joins =
          rw c.push_before.ensures.after
          (append_assoc text _ _ ∙ (ap (λ xs. text ++ xs) (sym (befores_more p 31 32 set place rest refl few small taken)) ∙ kept.joins));
    }

pub returns : goal.returns
returns c =
    let text = c.loop-place.text.bytes in
    let none = befores_none c.args.program.now 32 c.loop-place.place-iterator.left.mask c.in-None.ensures.steps.0 in
    sym (append-nil text) ∙ (ap (λ xs. text ++ xs) (sym none) ∙ c.loop-place.invariant.joins)
