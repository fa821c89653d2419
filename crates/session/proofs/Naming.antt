-- Instructions that are named in pairs of words. Nothing is assumed.
use Rattle.std.proofs.Common.{◌≡◌, ℕ, List, [], ◌∷◌, Some, map, refl, ap, sym, ◌∙◌}
use Rattle.std.specs.List.{flat_map}
use Rattle.session.specs.declared.command.Spot.{Spot}
use Rattle.session.specs.Commands.{numbers_in}
use Rattle.session.specs.Words.{number_of}

spelled : {X : Type 0} (f : X → List ℕ) (xs : List X) → map (number_of 255) (map f xs) ≡ map (λ x. number_of 255 (f x)) xs
spelled f [] = refl
spelled f (x ∷ xs) = ap (λ ns. number_of 255 (f x) ∷ ns) (spelled f xs)

pub listed : {X : Type 0} (f : X → List ℕ) (xs : List X) (ns ms : List ℕ) (spots : List Spot)
    → map (λ x. number_of 255 (f x)) xs ≡ map (λ n. Some n) ns → ms ≡ ns → flat_map numbers_in spots ≡ ms
    → map (number_of 255) (map f xs) ≡ map (λ n. Some n) (flat_map numbers_in spots)
listed f xs ns ms spots e g h = spelled f xs ∙ e ∙ ap (map (λ n. Some n)) (sym (h ∙ g))
