-- Words that are taken one by one from the front of a line are those that spell what was read. Assumes nothing.
--   Leads is ws us      words that spell the items is stand before us in ws
--   Takes s v more us   s means v, and the words us, which are left, spell the items more
use Rattle.std.proofs.Common.{◌≡◌, ℕ, Bool, true, cond, List, [], ◌∷◌, ◌++◌, refl}
use Rattle.listing.specs.Forms.{Says, no_form, means, apply, first, rest, ended, one, two, three, four}
use Rattle.listing.specs.Names.{same_word}
use Rattle.listing.specs.Spelling.{Item, Spelled, Pairwise}
use Rattle.listing.proofs.WordSpells.{Only, only_formless, only_meant, only_cond, only_apply, same_word_eq, Reads}

abbrev pub Leads : List Item → List (List ℕ) → List (List ℕ) → Type 0
Leads is ws us = (more : List Item) → Pairwise Spelled more us → Pairwise Spelled (is ++ more) ws

abbrev pub Takes : {V : Type 0} → Says V → V → List Item → List (List ℕ) → Type 0
Takes s v more us = (s ≡ means v) × Pairwise Spelled more us

-- one word more
module _ {X V : Type 0} {p : List ℕ → Says X} {item : X → Item} {fits : X → Bool} (r : Reads p item fits) where
  next_only : (P : V → Type 0) (s : Says (X → V)) (ws : List (List ℕ))
      → ((x : X) → fits x ≡ true → Leads (item x ∷ []) ws (rest ws) → Only (λ g. P (g x)) s) → Only P (apply s (first p ws))
  next_only P s [] k = only_apply P s no_form (λ g h. only_formless (λ x. P (g x)))
  next_only P s (w ∷ ws) k = only_apply P s (p w) (λ g h x read. let is = r.only w x read in k x is.1 (λ more spelled. (is.0, spelled)) g h)

  next_every : (s : Says (X → V)) (g : X → V) (x : X) (more : List Item) (ws : List (List ℕ)) → fits x ≡ true
      → Takes s g (item x ∷ more) ws → Takes (apply s (first p ws)) (g x) more (rest ws)
  next_every s g x more [] fit h = absurd h.1
  next_every s g x more (w ∷ ws) fit h = (rw (h.0, r.every w x fit h.1.0) refl, h.1.1)

module _ {W : Type 0} {p : List ℕ → Says W} {a : W → Item} {A : W → Bool} (rp : Reads p a A) where
  pub one_only : {V : Type 0} (f : W → V) (P : V → Type 0) (ws : List (List ℕ))
      → ((x : W) → A x ≡ true → Leads (a x ∷ []) ws (rest ws) → P (f x)) → Only P (one f p ws)
  one_only f P ws k = next_only rp P (means f) ws (λ x fit leads. only_meant (λ g. P (g x)) f (k x fit leads))

  pub one_every : {V : Type 0} (f : W → V) (x : W) (more : List Item) (ws : List (List ℕ)) → A x ≡ true
      → Pairwise Spelled (a x ∷ more) ws → Takes (one f p ws) (f x) more (rest ws)
  one_every f x more ws fit h = next_every rp (means f) f x more ws fit (refl, h)

  module _ {X : Type 0} {q : List ℕ → Says X} {b : X → Item} {B : X → Bool} (rq : Reads q b B) where
    pub two_only : {V : Type 0} (f : W → X → V) (P : V → Type 0) (ws : List (List ℕ))
        → ((x : W) (y : X) → A x ≡ true → B y ≡ true → Leads (a x ∷ b y ∷ []) ws (rest (rest ws)) → P (f x y)) → Only P (two f p q ws)
    two_only f P ws k =
        next_only rq P (one f p ws) (rest ws)
        (λ y fit after. one_only f (λ g. P (g y)) ws (λ x fit' leads. k x y fit' fit (λ more h. leads (b y ∷ more) (after more h))))

    pub two_every : {V : Type 0} (f : W → X → V) (x : W) (y : X) (more : List Item) (ws : List (List ℕ)) → A x ≡ true → B y ≡ true
        → Pairwise Spelled (a x ∷ b y ∷ more) ws → Takes (two f p q ws) (f x y) more (rest (rest ws))
    two_every f x y more ws fit fit' h = next_every rq (one f p ws) (f x) y more (rest ws) fit' (one_every f x (b y ∷ more) ws fit h)

    module _ {Y : Type 0} {r : List ℕ → Says Y} {c : Y → Item} {C : Y → Bool} (rr : Reads r c C) where
      pub three_only : {V : Type 0} (f : W → X → Y → V) (P : V → Type 0) (ws : List (List ℕ))
          → ((x : W) (y : X) (z : Y) → A x ≡ true → B y ≡ true → C z ≡ true → Leads (a x ∷ b y ∷ c z ∷ []) ws (rest (rest (rest ws))) → P (f x y z))
          → Only P (three f p q r ws)
      three_only f P ws k =
          next_only rr P (two f p q ws) (rest (rest ws))
          (λ z fit after. two_only f (λ g. P (g z)) ws (λ x y fit' fit'' leads. k x y z fit' fit'' fit (λ more h. leads (c z ∷ more) (after more h))))

      pub three_every : {V : Type 0} (f : W → X → Y → V) (x : W) (y : X) (z : Y) (more : List Item) (ws : List (List ℕ)) → A x ≡ true → B y ≡ true → C z ≡ true
          → Pairwise Spelled (a x ∷ b y ∷ c z ∷ more) ws → Takes (three f p q r ws) (f x y z) more (rest (rest (rest ws)))
      three_every f x y z more ws fit fit' fit'' h = next_every rr (two f p q ws) (f x y) z more (rest (rest ws)) fit'' (two_every f x y (c z ∷ more) ws fit fit' h)

      module _ {Z : Type 0} {s : List ℕ → Says Z} {d : Z → Item} {D : Z → Bool} (rs : Reads s d D) where
        pub four_only : {V : Type 0} (f : W → X → Y → Z → V) (P : V → Type 0) (ws : List (List ℕ))
            → ((x : W) (y : X) (z : Y) (u : Z) → A x ≡ true → B y ≡ true → C z ≡ true → D u ≡ true → Leads (a x ∷ b y ∷ c z ∷ d u ∷ []) ws (rest (rest (rest (rest ws)))) → P (f x y z u))
            → Only P (four f p q r s ws)
        four_only f P ws k =
            next_only rs P (three f p q r ws) (rest (rest (rest ws)))
            (λ u fit after. three_only f (λ g. P (g u)) ws (λ x y z fit' fit'' fit''' leads. k x y z u fit' fit'' fit''' fit (λ more h. leads (d u ∷ more) (after more h))))

        pub four_every : {V : Type 0} (f : W → X → Y → Z → V) (x : W) (y : X) (z : Y) (u : Z) (more : List Item) (ws : List (List ℕ)) → A x ≡ true → B y ≡ true → C z ≡ true → D u ≡ true
            → Pairwise Spelled (a x ∷ b y ∷ c z ∷ d u ∷ more) ws → Takes (four f p q r s ws) (f x y z u) more (rest (rest (rest (rest ws))))
        four_every f x y z u more ws fit fit' fit'' fit''' h =
            next_every rs (three f p q r ws) (f x y z) u more (rest (rest (rest ws))) fit''' (three_every f x y z (d u ∷ more) ws fit fit' fit'' h)

-- the end of a line
pub ended_only : {V : Type 0} (P : V → Type 0) (us : List (List ℕ)) (s : Says V) → (Pairwise Spelled [] us → Only P s) → Only P (ended us s)
ended_only P [] s k = k tt
ended_only P (u ∷ us) s k = only_formless P

pub ended_every : {V : Type 0} (v : V) (us : List (List ℕ)) (s : Says V) → Takes s v [] us → ended us s ≡ means v
ended_every v [] s h = h.0
ended_every v (u ∷ us) s h = absurd h.1

-- a form by its first word
pub word_only : {V : Type 0} (P : V → Type 0) (v w : List ℕ) (s t : Says V) → (w ≡ v → Only P s) → Only P t → Only P (cond (same_word v w) s t)
word_only P v w s t f g = only_cond P (same_word v w) s t (λ same. f (same_word_eq v w same)) (λ other. g)

pub whole_only : {V : Type 0} (P : V → Type 0) (v w : List ℕ) (us : List (List ℕ)) (s t : Says V) → (w ≡ v → Pairwise Spelled [] us → Only P s) → Only P t
    → Only P (cond (same_word v w) (ended us s) t)
whole_only P v w us s t f g = word_only P v w (ended us s) t (λ same. ended_only P us s (f same)) g
