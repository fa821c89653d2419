-- What the words of a form say, where each was read or one of them was no form. Assumes nothing.
use Rattle.std.proofs.Common.{◌≡◌, ℕ, List, [], ◌∷◌, Some, None, Option, sym, refl, ap, ◌∙◌}
use Rattle.listing.specs.Forms.{Says, no_form, out_of_range, means, apply, first, rest, ended, one, two, three, four}
use Rattle.listing.specs.Taking.{lift, said}

pub apply_said : {X Y : Type 0} (f : Option (X → Y)) (a : Option X) → apply (said f) (said a) ≡ said (lift f a)
apply_said None None = refl
apply_said None (Some x) = refl
apply_said (Some f) None = refl
apply_said (Some f) (Some x) = refl

-- one part that is no form makes the whole none
pub left_none : {X Y : Type 0} (s : Says (X → Y)) (x : Says X) → s ≡ no_form → apply s x ≡ no_form
left_none s x h = ap (λ t. apply t x) h

apply_none : {X Y : Type 0} (s : Says (X → Y)) → apply s no_form ≡ no_form
apply_none no_form = refl
apply_none out_of_range = refl
apply_none (means f) = refl

pub right_none : {X Y : Type 0} (s : Says (X → Y)) (x : Says X) → x ≡ no_form → apply s x ≡ no_form
right_none s x h = ap (apply s) h ∙ apply_none s

pub ended_none : {X : Type 0} (ws : List (List ℕ)) (s : Says X) → s ≡ no_form → ended ws s ≡ no_form
ended_none [] s h = h
ended_none (w ∷ ws) s h = refl

module _ {W V : Type 0} (f : W → V) (p : List ℕ → Says W) (ws : List (List ℕ)) where
  pub one_none : first p ws ≡ no_form → one f p ws ≡ no_form
  one_none x = right_none (means f) (first p ws) x

  pub one_said : (a : Option W) → first p ws ≡ said a → one f p ws ≡ said (lift (Some f) a)
  one_said a x = ap (apply (means f)) x ∙ apply_said (Some f) a

-- vs, us and ts are the words after the first, the second and the third
module _ {W X V : Type 0} (f : W → X → V) (p : List ℕ → Says W) (q : List ℕ → Says X) (ws : List (List ℕ)) where
  pub two_none_1 : first p ws ≡ no_form → two f p q ws ≡ no_form
  two_none_1 x = left_none (one f p ws) (first q (rest ws)) (one_none f p ws x)

  pub two_none_2 : {vs : List (List ℕ)} → vs ≡ rest ws → first q vs ≡ no_form → two f p q ws ≡ no_form
  two_none_2 d y = right_none (one f p ws) (first q (rest ws)) (ap (first q) (sym d) ∙ y)

  pub two_said : {vs : List (List ℕ)} (a : Option W) (b : Option X) → vs ≡ rest ws → first p ws ≡ said a → first q vs ≡ said b → two f p q ws ≡ said (lift (lift (Some f) a) b)
  two_said a b d x y =
      ap (λ s. apply s (first q (rest ws))) (one_said f p ws a x) ∙ ap (apply (said (lift (Some f) a))) (ap (first q) (sym d) ∙ y)
      ∙ apply_said (lift (Some f) a) b

module _ {W X Y V : Type 0} (f : W → X → Y → V) (p : List ℕ → Says W) (q : List ℕ → Says X) (r : List ℕ → Says Y) (ws : List (List ℕ)) where
  pub three_none_1 : first p ws ≡ no_form → three f p q r ws ≡ no_form
  three_none_1 x = left_none (two f p q ws) (first r (rest (rest ws))) (two_none_1 f p q ws x)

  pub three_none_2 : {vs : List (List ℕ)} → vs ≡ rest ws → first q vs ≡ no_form → three f p q r ws ≡ no_form
  three_none_2 d y = left_none (two f p q ws) (first r (rest (rest ws))) (two_none_2 f p q ws d y)

  pub three_none_3 : {vs us : List (List ℕ)} → vs ≡ rest ws → us ≡ rest vs → first r us ≡ no_form → three f p q r ws ≡ no_form
  three_none_3 d e z = right_none (two f p q ws) (first r (rest (rest ws))) (ap (first r) (sym (e ∙ ap rest d)) ∙ z)

  pub three_said : {vs us : List (List ℕ)} (a : Option W) (b : Option X) (c : Option Y) → vs ≡ rest ws → us ≡ rest vs → first p ws ≡ said a → first q vs ≡ said b → first r us ≡ said c → three f p q r ws ≡ said (lift (lift (lift (Some f) a) b) c)
  three_said a b c d e x y z =
      ap (λ s. apply s (first r (rest (rest ws)))) (two_said f p q ws a b d x y)
      ∙ ap (apply (said (lift (lift (Some f) a) b))) (ap (first r) (sym (e ∙ ap rest d)) ∙ z) ∙ apply_said (lift (lift (Some f) a) b) c

module _ {W X Y Z V : Type 0} (f : W → X → Y → Z → V) (p : List ℕ → Says W) (q : List ℕ → Says X) (r : List ℕ → Says Y) (s : List ℕ → Says Z) (ws : List (List ℕ)) where
  pub four_none_1 : first p ws ≡ no_form → four f p q r s ws ≡ no_form
  four_none_1 x = left_none (three f p q r ws) (first s (rest (rest (rest ws)))) (three_none_1 f p q r ws x)

  pub four_none_2 : {vs : List (List ℕ)} → vs ≡ rest ws → first q vs ≡ no_form → four f p q r s ws ≡ no_form
  four_none_2 d y = left_none (three f p q r ws) (first s (rest (rest (rest ws)))) (three_none_2 f p q r ws d y)

  pub four_none_3 : {vs us : List (List ℕ)} → vs ≡ rest ws → us ≡ rest vs → first r us ≡ no_form → four f p q r s ws ≡ no_form
  four_none_3 d e z = left_none (three f p q r ws) (first s (rest (rest (rest ws)))) (three_none_3 f p q r ws d e z)

  pub four_none_4 : {vs us ts : List (List ℕ)} → vs ≡ rest ws → us ≡ rest vs → ts ≡ rest us → first s ts ≡ no_form → four f p q r s ws ≡ no_form
  four_none_4 d e g v = right_none (three f p q r ws) (first s (rest (rest (rest ws)))) (ap (first s) (sym (g ∙ ap rest (e ∙ ap rest d))) ∙ v)

  pub four_said : {vs us ts : List (List ℕ)} (a : Option W) (b : Option X) (c : Option Y) (o : Option Z) → vs ≡ rest ws → us ≡ rest vs → ts ≡ rest us → first p ws ≡ said a → first q vs ≡ said b → first r us ≡ said c → first s ts ≡ said o → four f p q r s ws ≡ said (lift (lift (lift (lift (Some f) a) b) c) o)
  four_said a b c o d e g x y z v =
      ap (λ t. apply t (first s (rest (rest (rest ws))))) (three_said f p q r ws a b c d e x y z)
      ∙ ap (apply (said (lift (lift (lift (Some f) a) b) c))) (ap (first s) (sym (g ∙ ap rest (e ∙ ap rest d))) ∙ v)
      ∙ apply_said (lift (lift (lift (Some f) a) b) c) o
