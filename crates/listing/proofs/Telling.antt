-- What words say is told by two facts of them: that they have a form, and that they are in range. Assumes nothing.
--   Tells H I s        s is no form and H fails, or is out of range, where H holds and I fails, or means something, where both hold
--   Judges q p         the word that p reads is told so by the part q
--   Leads R f ws       R holds of the parts f and the first of the words ws, one for each part
--   after f ws         the words after those
use Rattle.std.proofs.Common.{◌≡◌, ◌↔◌, ℕ, true, false, cond, eqb, List, [], ◌∷◌, ◌++◌, sym, refl, subst}
use Rattle.std.proofs.lemmas.Bool.{and_from, eq-eqb}
use Rattle.std.proofs.lemmas.List.{append-nil}
use Rattle.listing.specs.Forms.{Says, no_form, out_of_range, means, apply, first, rest, ended}
use Rattle.listing.specs.LineForms.{Part, Fits, FitsInRange}
use Rattle.listing.specs.Names.{same_word}
use Rattle.listing.specs.Spelling.{Pairwise}
use Rattle.listing.proofs.WordSpells.{same_word_eq}

pub data Tells {X : Type 0} (H I : Type 0) : Says X → Type 0 where
  formless : (H → ⊥) → Tells H I no_form
  unranged : H → (I → ⊥) → Tells H I out_of_range
  meant : {x : X} → H → I → Tells H I (means x)

-- the same by facts that hold just where those do
pub tells_as : {X H I J K : Type 0} {s : Says X} → H ↔ J → I ↔ K → Tells H I s → Tells J K s
tells_as f g (formless t) = formless (λ j. t (f.1 j))
tells_as f g (unranged t u) = unranged (f.0 t) (λ k. u (g.1 k))
tells_as f g (meant t u) = meant (f.0 t) (g.0 u)

pub tells_apply : {X Y H I J K : Type 0} {f : Says (X → Y)} {s : Says X} → Tells H I f → Tells J K s → Tells (H × J) (I × K) (apply f s)
tells_apply (formless t) u = formless (λ h. t h.0)
tells_apply (unranged t t') (formless u) = formless (λ h. u h.1)
tells_apply (unranged t t') (unranged u u') = unranged (t, u) (λ h. t' h.0)
tells_apply (unranged t t') (meant u u') = unranged (t, u) (λ h. t' h.0)
tells_apply (meant t t') (formless u) = formless (λ h. u h.1)
tells_apply (meant t t') (unranged u u') = unranged (t, u) (λ h. u' h.1)
tells_apply (meant t t') (meant u u') = meant (t, u) (t', u')

pub tells_map : {X Y H I : Type 0} (f : X → Y) {s : Says X} → Tells H I s → Tells H I (apply (means f) s)
tells_map f (formless t) = formless t
tells_map f (unranged t u) = unranged t u
tells_map f (meant t u) = meant t u

pub same_word_self : (w : List ℕ) → same_word w w ≡ true
same_word_self [] = refl
same_word_self (b ∷ w) = and_from (eqb b b) (same_word w w) (eq-eqb b b refl) (same_word_self w)

-- a form that its first word begins, and what else there may be
pub tells_word : {X H I : Type 0} (v w : List ℕ) {s t : Says X} → (w ≡ v → Tells H I s) → ((w ≡ v → ⊥) → Tells H I t) → Tells H I (cond (same_word v w) s t)
tells_word {X} {H} {I} v w {s} {t} f g =
    elim (same_word v w) as (λ b. same_word v w ≡ b → Tells H I (cond b s t)) [
      | true ↦ λ same. f (same_word_eq v w same)
      | false ↦ λ other. g (λ e. let is = subst (λ u. same_word v u ≡ true) (sym e) (same_word_self v) in cc)
    ] refl

abbrev pub Judges : {X : Type 0} → Part → (List ℕ → Says X) → Type 0
Judges q p = (w : List ℕ) → Tells (Fits q w) (FitsInRange q w) (p w)

abbrev pub Leads : (Part → List ℕ → Type 0) → List Part → List (List ℕ) → Type 0
Leads R [] ws = Unit {0}
Leads R (q ∷ f) [] = ⊥
Leads R (q ∷ f) (w ∷ ws) = R q w × Leads R f ws

abbrev pub after : List Part → List (List ℕ) → List (List ℕ)
after [] ws = ws
after (q ∷ f) ws = after f (rest ws)

-- one part more
leads_more : (R : Part → List ℕ → Type 0) (f : List Part) (q : Part) (ws : List (List ℕ)) → (Leads R f ws × Leads R (q ∷ []) (after f ws)) ↔ Leads R (f ++ q ∷ []) ws
leads_more R [] q ws = (λ h. h.1, λ h. (tt, h))
leads_more R (p ∷ f) q [] = (λ h. h.0, λ h. absurd h)
leads_more R (p ∷ f) q (w ∷ ws) =
    let more = leads_more R f q ws in
    (λ h. (h.0.0, more.0 (h.0.1, h.1)), λ h. let k = more.1 h.1 in ((h.0, k.0), k.1))

-- what parts and others after them ask
pub leads_all : (R : Part → List ℕ → Type 0) (f g : List Part) (ws : List (List ℕ)) → (Leads R f ws × Pairwise R g (after f ws)) ↔ Pairwise R (f ++ g) ws
leads_all R [] g ws = (λ h. h.1, λ h. (tt, h))
leads_all R (p ∷ f) g [] = (λ h. absurd h.0, λ h. absurd h)
leads_all R (p ∷ f) g (w ∷ ws) =
    let more = leads_all R f g ws in
    (λ h. (h.0.0, more.0 (h.0.1, h.1)), λ h. let k = more.1 h.1 in ((h.0, k.0), k.1))

-- what s says is told by the parts f and the first of the words ws
pub record LedBy {X : Type 0} (f : List Part) (ws : List (List ℕ)) (s : Says X) : Type 0 where
  pub tells : Tells (Leads Fits f ws) (Leads FitsInRange f ws) s

tells_first : {X : Type 0} (q : Part) (p : List ℕ → Says X) → Judges q p → (ws : List (List ℕ)) → Tells (Leads Fits (q ∷ []) ws) (Leads FitsInRange (q ∷ []) ws) (first p ws)
tells_first q p j [] = formless (λ h. h)
tells_first q p j (w ∷ ws) = tells_as (λ h. (h, tt), λ h. h.0) (λ h. (h, tt), λ h. h.0) (j w)

pub no_part : {X : Type 0} (x : X) (ws : List (List ℕ)) → LedBy [] ws (means x)
no_part x ws = record { tells = meant tt tt }

pub next_part : {X Y : Type 0} (f : List Part) (q : Part) (p : List ℕ → Says X) (s : Says (X → Y)) (ws : List (List ℕ)) → Judges q p → LedBy f ws s → LedBy (f ++ q ∷ []) ws (apply s (first p (after f ws)))
next_part f q p s ws j t =
    record { tells = tells_as (leads_more Fits f q ws) (leads_more FitsInRange f q ws) (tells_apply t.tells (tells_first q p j (after f ws))) }

-- the parts of a whole line
pub all_parts : {X : Type 0} {f : List Part} {s : Says X} {ws : List (List ℕ)} → LedBy f ws s → Tells (Pairwise Fits f ws) (Pairwise FitsInRange f ws) (ended (after f ws) s)
all_parts {X} {f} {s} {ws} t =
    ends (after f ws)
    (subst (λ g. (Leads Fits f ws × Pairwise Fits [] (after f ws)) ↔ Pairwise Fits g ws) (append-nil f) (leads_all Fits f [] ws))
    (subst (λ g. (Leads FitsInRange f ws × Pairwise FitsInRange [] (after f ws)) ↔ Pairwise FitsInRange g ws) (append-nil f) (leads_all FitsInRange f [] ws))
  where
    ends : {J K : Type 0} (us : List (List ℕ)) → (Leads Fits f ws × Pairwise Fits [] us) ↔ J → (Leads FitsInRange f ws × Pairwise FitsInRange [] us) ↔ K → Tells J K (ended us s)
    ends [] a b = tells_as (λ h. a.0 (h, tt), λ j. (a.1 j).0) (λ h. b.0 (h, tt), λ k. (b.1 k).0) t.tells
    ends (u ∷ us) a b = formless (λ j. (a.1 j).1)
