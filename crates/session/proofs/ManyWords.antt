-- Lines of more than three words. Nothing is assumed.
use Rattle.std.proofs.Common.{◌≡◌, ℕ, ◌<◌, ◌≤◌, List, [], ◌∷◌, length, map, ap, arith, sym, ◌∙◌}
use Rattle.std.proofs.lemmas.List.{length-map}
use Rattle.session.specs.Commands.{SpellsNone}

short : (ws vs : List (List ℕ)) → 4 ≤ length ws → ws ≡ vs → length vs < 4 → ⊥
short ws vs h e k = let g : length ws ≡ length vs = ap length e in absurd (omega arith)

-- they are none of the commands of a word alone, or with one or two more
pub many : {X : Type 0} (f : X → List ℕ) (xs : List X) (ws : List (List ℕ)) → 4 ≤ length xs → map f xs ≡ ws → SpellsNone ws
many f xs ws h e =
    let long : 4 ≤ length ws = let g : length ws ≡ length xs = sym (ap length e) ∙ length-map xs f in omega arith in
    record {
      some = λ g. short ws [] long g (grind arith);
      one = λ w g. absurd (short ws (w ∷ []) long g (grind arith));
      two = λ w o g. absurd (short ws (w ∷ o ∷ []) long g (grind arith));
      three = λ w t i g. absurd (short ws (w ∷ t ∷ i ∷ []) long g (grind arith));
    }
