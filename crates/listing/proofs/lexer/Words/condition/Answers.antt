use Rattle.std.proofs.Common.{◌≡◌, ℕ, Some, None, Option, refl, ap, ◌∙◌, subst, arith, ltb-false, ltb-true}
use Rattle.listing.specs.declared.code.Condition.TheVariants as condition
use Rattle.listing.specs.declared.code.Register.{Register}
use Rattle.listing.specs.declared.refusal.Reason.TheVariants.{NoForm}
use Rattle.listing.specs.Forms.{thread, target, value, register, variable, rest}
use Rattle.listing.specs.Reading.{refusal}
use Rattle.listing.specs.Taking.{Comes, left, lift, line_at, number_read, said}
use Rattle.listing.proofs.FormRows.{at_row, no_at, reg_row, no_reg, mem_row, no_mem, no_condition, digits_no_condition}
use Rattle.listing.proofs.SaidTogether.{two_none_1, two_none_2, two_said, three_none_1, three_none_2, three_none_3, three_said}
use Rattle.listing.proofs.lexer.Words.condition.Goals as goal
use Rattle.listing.proofs.lexer.Words.condition.Goals.{in_default-bytes-via-then-bytes-lt2, in_default-bytes-via-else-bytes-lt2+then-bytes-lt3+in-97+in_default-1, in_default-bytes-via-else-bytes-lt2+then-bytes-lt3+in_default-1, in_default-bytes-via-else-bytes-lt2+else-bytes-lt3+then-bytes-lt4+in-114+in-101+in_default-1, in_default-bytes-via-else-bytes-lt2+else-bytes-lt3+then-bytes-lt4+in-114+in_default-1, in_default-bytes-via-else-bytes-lt2+else-bytes-lt3+then-bytes-lt4+in-109+in-101+in_default-1, in_default-bytes-via-else-bytes-lt2+else-bytes-lt3+then-bytes-lt4+in-109+in_default-1, in_default-bytes-via-else-bytes-lt2+else-bytes-lt3+then-bytes-lt4+in_default-1, in_default-bytes-via-else-bytes-lt2+else-bytes-lt3+else-bytes-lt4}

-- a register's name is always read
holds_said : (t : Option ℕ) (r : Register) (d : Option ℕ) → said (lift (lift (lift (Some (λ x y z. condition.Holds x y z)) t) (Some r)) d) ≡ said (lift (lift (Some (λ x y. condition.Holds x r y)) t) d)
holds_said None r d = refl
holds_said (Some n) r d = refl

pub returns-in_default-first : goal.returns-in_default-first
returns-in_default-first c =
    let t = c.in-Some.ensures in
    let word = subst (λ t. Comes t (left c.args.self.now) (left c.next.new.self) c.args.self.now.line) c.in_default-first.is t.comes in
    (c.at.ensures ∙ ap (refusal NoForm) (c.line.ensures ∙ ap line_at c.in_default-first.is ∙ word.1.0), digits_no_condition c.in_default-first.field-0.now word.0 word.1.1)

pub returns-in_default-digits : goal.returns-in_default-digits
returns-in_default-digits c =
    let t = c.in-Some.ensures in
    let word = subst (λ t. Comes t (left c.args.self.now) (left c.next.new.self) c.args.self.now.line) c.in-Word.is t.comes in
    let b = c.in_default-digits.ensures 0 3 in
    let vs = left c.next.new.self in
    (c.at-in_default-digits.ensures ∙ ap (refusal NoForm) (b.0 ∙ t.line), no_at c.in-Word.bytes.now vs word.0 (omega (arith, ltb-true, ltb-false)) (two_none_1 condition.At thread target vs b.1))

pub returns-in_default-digits-2 : goal.returns-in_default-digits-2
returns-in_default-digits-2 c =
    let t = c.in-Some.ensures in
    let word = subst (λ t. Comes t (left c.args.self.now) (left c.next.new.self) c.args.self.now.line) c.in-Word.is t.comes in
    let h0 = c.in-Some-digits.ensures 0 3 in
    let b = c.in_default-digits-2.ensures 0 16 in
    let vs = left c.next.new.self in
    (c.at-in_default-digits-2.ensures ∙ ap (refusal NoForm) (b.0 ∙ h0.0 ∙ t.line), no_at c.in-Word.bytes.now vs word.0 (omega (arith, ltb-true, ltb-false)) (two_none_2 condition.At thread target vs h0.1.1.0 b.1))

pub returns-in-Some-digits-2 : goal.returns-in-Some-digits-2
returns-in-Some-digits-2 c =
    let t = c.in-Some.ensures in
    let word = subst (λ t. Comes t (left c.args.self.now) (left c.next.new.self) c.args.self.now.line) c.in-Word.is t.comes in
    let h0 = c.in-Some-digits.ensures 0 3 in
    let h1 = c.in-Some-digits-2.ensures 0 16 in
    let vs = left c.next.new.self in (
      h1.0 ∙ h0.0 ∙ t.line,
      (
        omega (arith, h0.1.0, h1.1.0, t.smaller),
        at_row c.in-Word.bytes.now vs word.0 (omega (arith, ltb-true, ltb-false)) (h1.1.1.0 ∙ ap rest h0.1.1.0)
            (two_said condition.At thread target vs (number_read 0 3 c.in-Some-digits.thread) (number_read 0 16 c.in-Some-digits-2.target) h0.1.1.0 h0.1.1.1 h1.1.1.1),
      ),
    )

pub returns-in_default-digits-3 : goal.returns-in_default-digits-3
returns-in_default-digits-3 c =
    let t = c.in-Some.ensures in
    let word = subst (λ t. Comes t (left c.args.self.now) (left c.next.new.self) c.args.self.now.line) c.in-Word.is t.comes in
    let b = c.in_default-digits-3.ensures 0 3 in
    let vs = left c.next.new.self in
    (c.at-in_default-digits-3.ensures ∙ ap (refusal NoForm) (b.0 ∙ t.line), no_reg c.in-Word.bytes.now vs word.0 (omega (arith, ltb-true, ltb-false)) (three_none_1 condition.Holds thread register value vs b.1))

pub returns-in_default-register : goal.returns-in_default-register
returns-in_default-register c =
    let t = c.in-Some.ensures in
    let word = subst (λ t. Comes t (left c.args.self.now) (left c.next.new.self) c.args.self.now.line) c.in-Word.is t.comes in
    let h0 = c.in-Some-digits-3.ensures 0 3 in
    let b = c.in_default-register.ensures in
    let vs = left c.next.new.self in
    (c.at-in_default-register.ensures ∙ ap (refusal NoForm) (b.0 ∙ h0.0 ∙ t.line), no_reg c.in-Word.bytes.now vs word.0 (omega (arith, ltb-true, ltb-false)) (three_none_2 condition.Holds thread register value vs h0.1.1.0 b.1))

pub returns-in_default-digits-4 : goal.returns-in_default-digits-4
returns-in_default-digits-4 c =
    let t = c.in-Some.ensures in
    let word = subst (λ t. Comes t (left c.args.self.now) (left c.next.new.self) c.args.self.now.line) c.in-Word.is t.comes in
    let h0 = c.in-Some-digits-3.ensures 0 3 in
    let h1 = c.in-Some-register.ensures in
    let b = c.in_default-digits-4.ensures 0 15 in
    let vs = left c.next.new.self in
    (c.at-in_default-digits-4.ensures ∙ ap (refusal NoForm) (b.0 ∙ h1.0 ∙ h0.0 ∙ t.line), no_reg c.in-Word.bytes.now vs word.0 (omega (arith, ltb-true, ltb-false)) (three_none_3 condition.Holds thread register value vs h0.1.1.0 h1.1.1.0 b.1))

pub returns-in-Some-digits-4 : goal.returns-in-Some-digits-4
returns-in-Some-digits-4 c =
    let t = c.in-Some.ensures in
    let word = subst (λ t. Comes t (left c.args.self.now) (left c.next.new.self) c.args.self.now.line) c.in-Word.is t.comes in
    let h0 = c.in-Some-digits-3.ensures 0 3 in
    let h1 = c.in-Some-register.ensures in
    let h2 = c.in-Some-digits-4.ensures 0 15 in
    let vs = left c.next.new.self in (
      h2.0 ∙ h1.0 ∙ h0.0 ∙ t.line,
      (
        omega (arith, h0.1.0, h1.1.0, h2.1.0, t.smaller),
        reg_row c.in-Word.bytes.now vs word.0 (omega (arith, ltb-true, ltb-false)) (h2.1.1.0 ∙ ap rest (h1.1.1.0 ∙ ap rest h0.1.1.0))
            (three_said condition.Holds thread register value vs (number_read 0 3 c.in-Some-digits-3.thread) (Some c.in-Some-register.register) (number_read 0 15 c.in-Some-digits-4.value) h0.1.1.0 h1.1.1.0 h0.1.1.1 h1.1.1.1 h2.1.1.1 ∙ holds_said (number_read 0 3 c.in-Some-digits-3.thread) c.in-Some-register.register (number_read 0 15 c.in-Some-digits-4.value)),
      ),
    )

pub returns-in_default-variable : goal.returns-in_default-variable
returns-in_default-variable c =
    let t = c.in-Some.ensures in
    let word = subst (λ t. Comes t (left c.args.self.now) (left c.next.new.self) c.args.self.now.line) c.in-Word.is t.comes in
    let b = c.in_default-variable.ensures in
    let vs = left c.next.new.self in
    (c.at-in_default-variable.ensures ∙ ap (refusal NoForm) (b.0 ∙ t.line), no_mem c.in-Word.bytes.now vs word.0 (omega (arith, ltb-true, ltb-false)) (two_none_1 condition.Memory variable value vs b.1))

pub returns-in_default-digits-5 : goal.returns-in_default-digits-5
returns-in_default-digits-5 c =
    let t = c.in-Some.ensures in
    let word = subst (λ t. Comes t (left c.args.self.now) (left c.next.new.self) c.args.self.now.line) c.in-Word.is t.comes in
    let h0 = c.in-Some-variable.ensures in
    let b = c.in_default-digits-5.ensures 0 15 in
    let vs = left c.next.new.self in
    (c.at-in_default-digits-5.ensures ∙ ap (refusal NoForm) (b.0 ∙ h0.0 ∙ t.line), no_mem c.in-Word.bytes.now vs word.0 (omega (arith, ltb-true, ltb-false)) (two_none_2 condition.Memory variable value vs h0.1.1.0 b.1))

pub returns-in-Some-digits-5 : goal.returns-in-Some-digits-5
returns-in-Some-digits-5 c =
    let t = c.in-Some.ensures in
    let word = subst (λ t. Comes t (left c.args.self.now) (left c.next.new.self) c.args.self.now.line) c.in-Word.is t.comes in
    let h0 = c.in-Some-variable.ensures in
    let h1 = c.in-Some-digits-5.ensures 0 15 in
    let vs = left c.next.new.self in (
      h1.0 ∙ h0.0 ∙ t.line,
      (
        omega (arith, h0.1.0, h1.1.0, t.smaller),
        mem_row c.in-Word.bytes.now vs word.0 (omega (arith, ltb-true, ltb-false)) (h1.1.1.0 ∙ ap rest h0.1.1.0)
            (two_said condition.Memory variable value vs (Some c.in-Some-variable.variable) (number_read 0 15 c.in-Some-digits-5.value) h0.1.1.0 h0.1.1.1 h1.1.1.1),
      ),
    )

pub returns-in_default-bytes : goal.returns-in_default-bytes
returns-in_default-bytes c =
    let t = c.in-Some.ensures in
    let word = subst (λ t. Comes t (left c.args.self.now) (left c.next.new.self) c.args.self.now.line) c.in-Word.is t.comes in (
      c.at-in_default-bytes.ensures ∙ ap (refusal NoForm) word.1.0,
      no_condition c.in-Word.bytes.now (left c.next.new.self) word.0
          (elim c.in_default-bytes.branch [
            | in_default-bytes-via-then-bytes-lt2 w ↦ omega (arith, ltb-true, ltb-false)
            | in_default-bytes-via-else-bytes-lt2+then-bytes-lt3+in-97+in_default-1 w ↦ omega (arith, ltb-true, ltb-false)
            | in_default-bytes-via-else-bytes-lt2+then-bytes-lt3+in_default-1 w ↦ omega (arith, ltb-true, ltb-false)
            | in_default-bytes-via-else-bytes-lt2+else-bytes-lt3+then-bytes-lt4+in-114+in-101+in_default-1 w ↦ omega (arith, ltb-true, ltb-false)
            | in_default-bytes-via-else-bytes-lt2+else-bytes-lt3+then-bytes-lt4+in-114+in_default-1 w ↦ omega (arith, ltb-true, ltb-false)
            | in_default-bytes-via-else-bytes-lt2+else-bytes-lt3+then-bytes-lt4+in-109+in-101+in_default-1 w ↦ omega (arith, ltb-true, ltb-false)
            | in_default-bytes-via-else-bytes-lt2+else-bytes-lt3+then-bytes-lt4+in-109+in_default-1 w ↦ omega (arith, ltb-true, ltb-false)
            | in_default-bytes-via-else-bytes-lt2+else-bytes-lt3+then-bytes-lt4+in_default-1 w ↦ omega (arith, ltb-true, ltb-false)
            | in_default-bytes-via-else-bytes-lt2+else-bytes-lt3+else-bytes-lt4 w ↦ omega (arith, ltb-true, ltb-false)
          ]),
    )
