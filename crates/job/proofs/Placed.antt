-- Texts written one after the other into a buffer. Nothing is assumed.
use Rattle.std.proofs.Common.{◌≡◌, ℕ, ◌+◌, ◌≤◌, List, ◌++◌, length, take, drop, sym, ap, ◌∙◌, append_assoc, arith, length-append}
use Rattle.std.proofs.lemmas.List.{length-take-le, take_at, drop-drop, drop_at}
use Rattle.job.specs.Text.{placed}

-- what is dropped past a whole front
drop_past : (xs ys : List ℕ) (n k : ℕ) → length xs ≡ n → drop (n + k) (xs ++ ys) ≡ drop k ys
drop_past xs ys n k e = sym (drop-drop k n (xs ++ ys)) ∙ ap (drop k) (drop_at xs ys n e)

pub placed_more : (out : List ℕ) (at m : ℕ) (a b : List ℕ) → m ≡ at + length a → m + length b ≤ length out
    → placed (placed out at a) m b ≡ placed out at (a ++ b)
placed_more out at m a b e fits =
    let front = take at out ++ a in
    let short : at ≤ length out = omega (arith, e) in
    let long : length front ≡ m = length-append (take at out) a ∙ (ap (λ n. n + length a) (length-take-le at out short) ∙ sym e) in
    let rest = drop (at + length a) out in
    let whole : placed out at a ≡ front ++ rest = sym (append_assoc (take at out) a rest) in
    let first : take m (front ++ rest) ≡ front = take_at front rest m long in
    let last : drop (m + length b) (front ++ rest) ≡ drop (at + length (a ++ b)) out =
    drop_past front rest m (length b) long ∙ (drop-drop (length b) (at + length a) out ∙ ap (λ n. drop n out) (omega (arith, length-append a b)))
    in
    rw whole (rw (first, last) (append_assoc (take at out) a _ ∙ ap (λ xs. take at out ++ xs) (sym (append_assoc a b _))))
