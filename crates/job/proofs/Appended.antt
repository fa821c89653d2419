-- Texts appended one after the other. Nothing is assumed.
use Rattle.std.proofs.Common.{◌≡◌, ℕ, List, ◌++◌, ◌∙◌, append_assoc}

pub after_three : (start a b c rest : List ℕ) {first second third : List ℕ} → first ≡ start ++ a → second ≡ first ++ b → third ≡ second ++ c
    → third ++ rest ≡ start ++ (a ++ (b ++ (c ++ rest)))
after_three start a b c rest e f g = rw (g, f, e) (simp append_assoc)

pub after_five : (start a b c d e : List ℕ) {first second third fourth fifth : List ℕ} → first ≡ start ++ a → second ≡ first ++ b → third ≡ second ++ c
    → fourth ≡ third ++ d → fifth ≡ fourth ++ e → fifth ≡ start ++ (a ++ (b ++ (c ++ (d ++ e))))
after_five start a b c d e f g h i j = j ∙ rw (i, h, g, f) (simp append_assoc)
