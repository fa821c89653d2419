-- Two lists are equal exactly when their lengths are, and the arrays that hold them.
use Rattle.std.proofs.Common.{◌≡◌, ℕ, ◌-◌, Bool, ◌&&◌, Decides, eqb, List, ◌++◌, length, take, replicate, ap, sym, ◌∙◌}
use Rattle.std.proofs.Math.Seq.{take-append_seam}
use Rattle.std.proofs.lemmas.Bool.Decides.{Decides-and, Decides-eqb, Decides-like}
use lib.Pointwise.{pointwise, pointwise_decides}

-- the values at the front of two arrays, as many of each
front : {X : Type 0} (xs ys us vs : List X) → length xs ≡ length ys → xs ++ us ≡ ys ++ vs → xs ≡ ys
front xs ys us vs l e = sym (take-append_seam xs us) ∙ (ap (take (length xs)) e ∙ (ap (λ n. take n (ys ++ vs)) l ∙ take-append_seam ys vs))

pub lists_decide : {X : Type 0} {E : X → X → Bool} (n : ℕ) (x : X) → ((a b : X) → Decides (E a b) (a ≡ b)) → (xs ys : List X)
    → Decides (eqb (length xs) (length ys) && pointwise E (xs ++ replicate (n - length xs) x) (ys ++ replicate (n - length ys) x)) (xs ≡ ys)
lists_decide {E = E} n x d xs ys =
    let room = λ (zs : List _). zs ++ replicate (n - length zs) x in
    Decides-like _
    (λ h. front xs ys _ _ h.0 h.1)
    (λ e. (ap length e, ap room e))
    (Decides-and (eqb (length xs) (length ys)) (pointwise E (room xs) (room ys)) (Decides-eqb (length xs) (length ys)) (pointwise_decides d (room xs) (room ys)))
