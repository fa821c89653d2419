-- The candidates are all sets of the places, the smaller ones first and of two of one size the one that wins. Nothing is assumed.
--   sized ps a n   the choices of n sizes, from a on
--   Precedes a b   the set a is smaller than b, or as large and wins
use Rattle.std.proofs.Common.{◌≡◌, ℕ, zero, suc, ◌+◌, ◌-◌, ◌^◌, ◌<◌, ◌≤◌, ◌⊎◌, Bool, true, List, [], ◌∷◌, ◌++◌, length, All, AllPairs, Contains, filter, find, flat_map, count_ones, Some, None, inl, inr, sym, ap, ap₂, ◌∙◌, subst, ⊎_elim, append_assoc, append-nil, arith}
use Rattle.std.proofs.lemmas.Bool.{both_ways, cases_eq, cond-true}
use Rattle.std.proofs.lemmas.List.Elements.{All-append, All-contains, All-nil, All-weaker, Contains-append_left, Contains-append_right}
use Rattle.std.proofs.lemmas.List.Folds.{find-append}
use Rattle.std.proofs.lemmas.List.Sums.{length-filter, count_by-le-length}
use Rattle.std.proofs.lemmas.Nat.{ones_le_self}
use Rattle.std.specs.List.{range_with_len}
use Rattle.std.specs.Option.{option_or}
use Rattle.machines.proofs.Sets.{set_laws}
use Rattle.machines.specs.Places.{has, places_in}
use Rattle.search.specs.Least.{candidates, choices, least, Within, Wins}
use Rattle.search.proofs.Choices.{Chosen, choices_chosen, choices_count, choices_in_turn, chosen_choices, one_choice}
use Rattle.search.proofs.Lists.{alone, pairs_append}
use Rattle.search.proofs.PlaceLists.{of_place, place_of, places_rise}

abbrev pub sized : List ℕ → ℕ → ℕ → List ℕ
sized ps a n = flat_map (λ k. choices 0 k ps) (range_with_len a n)

abbrev pub Precedes : ℕ → ℕ → Type 0
Precedes a b = (count_ones a < count_ones b) ⊎ ((count_ones a ≡ count_ones b) × Wins a b)

in_sized : (ps : List ℕ) (a n k s : ℕ) → a ≤ k → k < a + n → Contains (choices 0 k ps) s → Contains (sized ps a n) s
in_sized ps a zero k s low high c = absurd (omega arith)
in_sized ps a (suc n) k s low high c =
    ⊎_elim
    (λ e. Contains-append_left (choices 0 a ps) (sized ps (a + 1) n) s (subst (λ j. Contains (choices 0 j ps) s) (sym e) c))
    (λ other. Contains-append_right (choices 0 a ps) (sized ps (a + 1) n) s (in_sized ps (a + 1) n k s (omega (arith, other)) (omega arith) c))
    (cases_eq a k)

all_sized : (P : ℕ → Type 0) (ps : List ℕ) (a n : ℕ) → ((k : ℕ) → a ≤ k → All P (choices 0 k ps)) → All P (sized ps a n)
all_sized P ps a zero each = All-nil P
all_sized P ps a (suc n) each = All-append P (choices 0 a ps) (sized ps (a + 1) n) (each a (omega arith)) (all_sized P ps (a + 1) n (λ k le. each k (omega arith)))

within_chosen : (u s : ℕ) → u < 2 ^ 32 → Within s u → Chosen 0 (places_in u 32) s
within_chosen u s small w = record {
  keeps = λ q h. absurd (both_ways _ (set_laws.empty q) h);
  only = λ q h. inr (of_place u q small (w q h));
}

pub candidates_within : (u s : ℕ) → Contains (candidates (places_in u 32)) s → Within s u
candidates_within u s c q h =
    let ps = places_in u 32 in
    let chosen = All-contains (Chosen 0 ps) (candidates ps) s (all_sized (Chosen 0 ps) ps 0 (suc (length ps)) (λ k le. choices_chosen 0 k ps)) c in
    ⊎_elim (λ a. absurd (both_ways _ (set_laws.empty q) a)) (place_of u 32 q) (chosen.only q h)

pub within_candidates : (u s : ℕ) → u < 2 ^ 32 → Within s u → Contains (candidates (places_in u 32)) s
within_candidates u s small w =
    let ps = places_in u 32 in
    in_sized ps 0 (suc (length ps)) (length (filter (has s) ps)) s (omega arith) (omega (arith, length-filter (has s) ps, count_by-le-length (has s) ps)) (chosen_choices 0 ps s (within_chosen u s small w))

sizes : (u k : ℕ) → All (λ s. count_ones s ≡ k) (choices 0 k (places_in u 32))
sizes u k =
    let ps = places_in u 32 in
    All-weaker (λ s. count_ones s ≡ count_ones 0 + k) (λ s. count_ones s ≡ k) (λ s e. omega (arith, e, ones_le_self 0)) _
    (choices_count 0 k ps (places_rise u 32) (λ i d lt. set_laws.empty _))

sized_in_order : (u a n : ℕ) → AllPairs Precedes (sized (places_in u 32) a n)
sized_in_order u a zero = λ i j d lt under. absurd (omega arith)
sized_in_order u a (suc n) =
    let ps = places_in u 32 in
    pairs_append Precedes (choices 0 a ps) (sized ps (a + 1) n)
    (λ i j d lt under. inr (sizes u a i d (omega arith) ∙ sym (sizes u a j d under), choices_in_turn 0 a ps (places_rise u 32) (λ k e l. set_laws.empty _) i j d lt under))
    (sized_in_order u (a + 1) n)
    (λ x y in_x in_y.
    let same = All-contains (λ s. count_ones s ≡ a) (choices 0 a ps) x (sizes u a) in_x in
    let larger = all_sized (λ s. a < count_ones s) ps (a + 1) n (λ k le. All-weaker (λ s. count_ones s ≡ k) (λ s. a < count_ones s) (λ s e. omega (arith, e, le)) _ (sizes u k)) in
    inl (omega (arith, same, All-contains (λ s. a < count_ones s) (sized ps (a + 1) n) y larger in_y)))

pub in_order : (u : ℕ) → AllPairs Precedes (candidates (places_in u 32))
in_order u = sized_in_order u 0 (suc (length (places_in u 32)))

-- of all the places of a set the only choice is the set
all_chosen : (u : ℕ) → u < 2 ^ 32 → choices 0 (length (places_in u 32)) (places_in u 32) ≡ u ∷ []
all_chosen u small =
    let ps = places_in u 32 in
    let one = one_choice 0 ps in
    let k = length (filter (has u) ps) in
    let there = chosen_choices 0 ps u (within_chosen u u small (λ q h. h)) in
    let many : k ≡ length ps = omega (arith, All-contains (λ s. count_ones s ≡ k) (choices 0 k ps) u (sizes u k) there, set_laws.count u small) in
    one.1 ∙ ap (λ s. s ∷ []) (alone one.0 u (subst (λ l. Contains l u) (ap (λ j. choices 0 j ps) many ∙ one.1) there))

sized_more : (ps : List ℕ) (a b n m k : ℕ) → a + n ≡ b → n + m ≡ k → sized ps a k ≡ sized ps a n ++ sized ps b m
sized_more ps a b zero m k e f = ap₂ (sized ps) (omega arith) (omega arith)
sized_more ps a b (suc n) m zero e f = absurd (omega arith)
sized_more ps a b (suc n) m (suc k) e f =
    ap (λ l. choices 0 a ps ++ l) (sized_more ps (a + 1) b n m k (omega arith) (omega arith)) ∙ sym (append_assoc (choices 0 a ps) (sized ps (a + 1) n) (sized ps b m))

-- sets are tried by size: where none of fewer than j places passes, those of j places come next
module _ (f : ℕ → Bool) (ps : List ℕ) (j : ℕ) (none : find f (sized ps 0 j) ≡ None) where
  then_next : (m k : ℕ) → j + m ≡ k → find f (sized ps 0 k) ≡ find f (sized ps j m)
  then_next m k e = ap (find f) (sized_more ps 0 j j m k (omega arith) e) ∙ (find-append f (sized ps 0 j) (sized ps j m) ∙ ap (λ o. option_or o (find f (sized ps j m))) none)

  pub none_of_size : find f (choices 0 j ps) ≡ None → find f (sized ps 0 (j + 1)) ≡ None
  none_of_size e = then_next 1 (j + 1) (omega arith) ∙ (ap (find f) (append-nil (choices 0 j ps)) ∙ e)

  pub of_size_first : j ≤ length ps → find f (candidates ps) ≡ option_or (find f (choices 0 j ps)) (find f (sized ps (j + 1) (length ps - j)))
  of_size_first l =
      then_next (suc (length ps - j)) (suc (length ps)) (omega arith) ∙ find-append f (choices 0 j ps) (sized ps (j + 1) (length ps - j))

-- where none of fewer places passes, the set itself is found
pub last_of_all : (f : ℕ → Bool) (u : ℕ) → u < 2 ^ 32 → find f (sized (places_in u 32) 0 (count_ones u)) ≡ None → f u ≡ true → least f u ≡ Some u
last_of_all f u small none h =
    let ps = places_in u 32 in
    of_size_first f ps (length ps) (ap (λ k. find f (sized ps 0 k)) (sym (set_laws.count u small)) ∙ none) (omega arith)
    ∙ ap (λ o. option_or o (find f (sized ps (length ps + 1) (length ps - length ps)))) (ap (find f) (all_chosen u small) ∙ cond-true (f u) (Some u) None h)

pub empty_first : (f : ℕ → Bool) (u : ℕ) → f 0 ≡ true → least f u ≡ Some 0
empty_first f u h = cond-true (f 0) _ _ h
