-- What the choices of places are: which sets are among them, how large they are, and that of two the one before wins. Nothing is assumed.
--   Chosen set ps s   s is the set with some of the places ps
--   Free set ps       none of the places is in the set
use Rattle.std.proofs.Common.{◌≡◌, ◌≢◌, ℕ, zero, suc, ◌+◌, ◌-◌, ◌^◌, ◌<◌, ◌⊎◌, Bool, true, false, List, [], ◌∷◌, length, get_or, All, AllPairs, Contains, filter, find, bit_and, count_ones, Some, None, inl, inr, refl, sym, ap, ◌∙◌, subst, ⊎_elim, arith}
use Rattle.std.proofs.lemmas.Bool.{both_ways, cond_both, false_from_ne_true}
use Rattle.std.proofs.lemmas.Bool.Decides.{nat_tests}
use Rattle.std.proofs.lemmas.List.{append-nil}
use Rattle.std.proofs.lemmas.List.Elements.{All-append, All-cons, All-contains, All-nil, All-tail, All-weaker, Contains-append_left, Contains-append_right}
use Rattle.std.proofs.lemmas.List.Folds.{find-append}
use Rattle.std.specs.Cmp.{both_ways as same_truth}
use Rattle.std.specs.Option.{option_or}
use Rattle.machines.proofs.Masks.{fewer_without}
use Rattle.machines.proofs.Sets.{set_laws}
use Rattle.machines.specs.Places.{has, adding, removing, from_place, lowest, places_in}
use Rattle.search.specs.Least.{choices, Within, Wins}
use Rattle.search.proofs.Adding.{added, had_before, nothing_else}
use Rattle.search.proofs.Lists.{alone, among, pairs_append, pairs_first, pairs_rest}
use Rattle.search.proofs.PlaceLists.{next_place, no_place, place_of}

pub record Chosen (set : ℕ) (ps : List ℕ) (s : ℕ) : Type 0 where
  pub keeps : Within set s
  pub only : (q : ℕ) → has s q ≡ true → (has set q ≡ true) ⊎ Contains ps q

widen : (set a p : ℕ) (ps : List ℕ) (s : ℕ) → Within set a → ((q : ℕ) → has a q ≡ true → (has set q ≡ true) ⊎ (p ≡ q)) → Chosen a ps s → Chosen set (p ∷ ps) s
widen set a p ps s more one c = record {
  keeps = λ q h. c.keeps q (more q h);
  only = λ q h. ⊎_elim (λ b. ⊎_elim inl (λ e. inr (0, omega arith, e)) (one q b)) (λ k. inr (Contains-append_right (p ∷ []) ps q k)) (c.only q h);
}

pub choices_chosen : (set k : ℕ) (ps : List ℕ) → All (Chosen set ps) (choices set k ps)
choices_chosen set zero ps = All-cons (Chosen set ps) set [] (record { keeps = λ q h. h; only = λ q h. inl h }) (All-nil _)
choices_chosen set (suc k) [] = All-nil _
choices_chosen set (suc k) (p ∷ ps) =
    All-append (Chosen set (p ∷ ps)) (choices (adding set p) k ps) (choices set (suc k) ps)
    (All-weaker (Chosen (adding set p) ps) (Chosen set (p ∷ ps)) (λ s. widen set (adding set p) p ps s (had_before set p) (nothing_else set p)) _ (choices_chosen (adding set p) k ps))
    (All-weaker (Chosen set ps) (Chosen set (p ∷ ps)) (λ s. widen set set p ps s (λ q h. h) (λ q h. inl h)) _ (choices_chosen set (suc k) ps))

-- a choice of fewer places is one of more places
of_more : (set k p : ℕ) (ps : List ℕ) (s : ℕ) → Contains (choices set k ps) s → Contains (choices set k (p ∷ ps)) s
of_more set zero p ps s c = c
of_more set (suc k) p ps s c = Contains-append_right (choices (adding set p) k ps) _ s c

pub chosen_choices : (set : ℕ) (ps : List ℕ) (s : ℕ) → Chosen set ps s → Contains (choices set (length (filter (has s) ps)) ps) s
chosen_choices set [] s c = (0, omega arith, set_laws.known set s (λ q. same_truth _ _ (c.keeps q) (λ h. ⊎_elim (λ a. a) (λ k. absurd (omega (arith, k.1))) (c.only q h))))
chosen_choices set (p ∷ ps) s c =
    cond_both (has s p) (p ∷ filter (has s) ps) (filter (has s) ps) (λ l. Contains (choices set (length l) (p ∷ ps)) s)
    (λ h. Contains-append_left (choices (adding set p) (length (filter (has s) ps)) ps) (choices set (suc (length (filter (has s) ps))) ps) s
    (chosen_choices (adding set p) ps s (record {
      keeps = λ q a. ⊎_elim (λ b. c.keeps q b) (λ e. ap (has s) (sym e) ∙ h) (nothing_else set p q a);
      only = λ q a. ⊎_elim (λ b. inl (had_before set p q b)) (λ k. ⊎_elim (λ e. inl (ap (has (adding set p)) (sym e) ∙ added set p)) inr (among p ps q k)) (c.only q a);
    })))
    (λ h. of_more set (length (filter (has s) ps)) p ps s (chosen_choices set ps s (record {
      keeps = c.keeps;
      only = λ q a. ⊎_elim inl (λ k. ⊎_elim (λ e. absurd (both_ways (has s p) h (ap (has s) e ∙ a))) inr (among p ps q k)) (c.only q a);
    })))

abbrev Free : ℕ → List ℕ → Type 0
Free set ps = All (λ q. has set q ≡ false) ps

free_adding : (p : ℕ) (ps : List ℕ) (set : ℕ) → AllPairs ◌<◌ (p ∷ ps) → Free set (p ∷ ps) → Free (adding set p) ps
free_adding p ps set rising free k d lt =
    false_from_ne_true _ (λ a. ⊎_elim (both_ways _ (free (suc k) d (omega arith))) (λ e. omega (arith, e, pairs_first ◌<◌ p ps rising k d lt)) (nothing_else set p (get_or ps k d) a))

-- a place that the set does not have is one more
one_larger : (set p : ℕ) → has set p ≡ false → count_ones (adding set p) ≡ count_ones set + 1
one_larger set p h =
    let back : removing (adding set p) p ≡ set = set_laws.known _ _ (λ q. grind (arith, nat_tests, set_laws.removing (adding set p) p q, set_laws.adding set p q, h)) in
    omega (arith, fewer_without (adding set p) p (added set p), ap count_ones back)

pub choices_count : (set k : ℕ) (ps : List ℕ) → AllPairs ◌<◌ ps → Free set ps → All (λ s. count_ones s ≡ count_ones set + k) (choices set k ps)
choices_count set zero ps rising free = All-cons (λ s. count_ones s ≡ count_ones set + 0) set [] (omega arith) (All-nil _)
choices_count set (suc k) [] rising free = All-nil _
choices_count set (suc k) (p ∷ ps) rising free =
    All-append (λ s. count_ones s ≡ count_ones set + suc k) (choices (adding set p) k ps) (choices set (suc k) ps)
    (All-weaker (λ s. count_ones s ≡ count_ones (adding set p) + k) (λ s. count_ones s ≡ count_ones set + suc k)
    (λ s e. omega (arith, e, one_larger set p (free 0 0 (omega arith)))) _ (choices_count (adding set p) k ps (pairs_rest ◌<◌ p ps rising) (free_adding p ps set rising free)))
    (choices_count set (suc k) ps (pairs_rest ◌<◌ p ps rising) (All-tail (λ q. has set q ≡ false) p ps free))

-- below all of the places a choice is as the set
as_set : (set : ℕ) (ps : List ℕ) (s q : ℕ) → Chosen set ps s → All (λ p. q < p) ps → has s q ≡ has set q
as_set set ps s q c over = same_truth _ _ (λ h. ⊎_elim (λ a. a) (λ k. absurd (omega (arith, All-contains (λ p. q < p) ps q over k))) (c.only q h)) (c.keeps q)

pub choices_in_turn : (set k : ℕ) (ps : List ℕ) → AllPairs ◌<◌ ps → Free set ps → AllPairs Wins (choices set k ps)
choices_in_turn set zero ps rising free = λ i j d lt under. absurd (omega arith)
choices_in_turn set (suc k) [] rising free = λ i j d lt under. absurd (omega arith)
choices_in_turn set (suc k) (p ∷ ps) rising free =
    pairs_append Wins (choices (adding set p) k ps) (choices set (suc k) ps)
    (choices_in_turn (adding set p) k ps (pairs_rest ◌<◌ p ps rising) (free_adding p ps set rising free))
    (choices_in_turn set (suc k) ps (pairs_rest ◌<◌ p ps rising) (All-tail (λ q. has set q ≡ false) p ps free))
    (λ a b in_a in_b.
    let of_a = All-contains (Chosen (adding set p) ps) _ a (choices_chosen (adding set p) k ps) in_a in
    let of_b = All-contains (Chosen set ps) _ b (choices_chosen set (suc k) ps) in_b in
    record {
      at = p;
      mine = of_a.keeps p (added set p);
      theirs = as_set set ps b p of_b (pairs_first ◌<◌ p ps rising) ∙ free 0 0 (omega arith);
      lower = λ q l. let over : All (λ r. q < r) ps = λ i d lt. omega (arith, pairs_first ◌<◌ p ps rising i d lt) in
          as_set (adding set p) ps a q of_a over ∙ (grind (arith, nat_tests, set_laws.adding set p q) ∙ sym (as_set set ps b q of_b over));
    })

none_left : (set k : ℕ) (ps : List ℕ) → length ps < k → choices set k ps ≡ []
none_left set zero ps l = absurd (omega arith)
none_left set (suc k) [] l = refl
none_left set (suc k) (p ∷ ps) l = rw (none_left (adding set p) k ps (omega arith), none_left set (suc k) ps (omega arith)) refl

-- of all the places there is one choice
pub one_choice : (set : ℕ) (ps : List ℕ) → (s : ℕ) × (choices set (length ps) ps ≡ s ∷ [])
one_choice set [] = (set, refl)
one_choice set (p ∷ ps) =
    let rest = one_choice (adding set p) ps in
    (rest.0, rw (none_left set (suc (length ps)) ps (omega arith), append-nil (choices (adding set p) (length ps) ps)) rest.1)

-- a set that has none of these places has none of a choice of them; where no place is added the later ones do not matter
pub choice_missed : (c set k u later n s : ℕ) → bit_and c set ≡ 0 → bit_and c later ≡ 0 → (k ≡ 0) ⊎ (later ≡ u) → Contains (choices set k (places_in u n)) s
    → (q : ℕ) → has c q ≡ true → has s q ≡ false
choice_missed c set k u later n s apart far which here q mine =
    let ps = places_in u n in
    false_from_ne_true _ (λ h. ⊎_elim
    (λ none. let is : set ≡ s = alone set s (subst (λ j. Contains (choices set j ps) s) none here) in not_both set apart (ap (λ t. has t q) is ∙ h))
    (λ same. ⊎_elim (λ a. not_both set apart a) (λ i. not_both u (ap (bit_and c) (sym same) ∙ far) (place_of u n q i)) ((All-contains (Chosen set ps) _ s (choices_chosen set k ps) here).only q h))
    which)
  where
    not_both : (o : ℕ) → bit_and c o ≡ 0 → has o q ≡ true → ⊥
    not_both o none h = both_ways _ (set_laws.empty q) (ap (λ t. has t q) (sym none) ∙ grind (arith, set_laws.common c o q, mine, h))

-- what is found first, by the lowest place from n on
module _ (f : ℕ → Bool) (u n set left : ℕ) (some : left ≢ 0) where
  pub found_nowhere : lowest (from_place u n) ≡ None → find f (choices set left (places_in (from_place u n) 32)) ≡ None
  found_nowhere e = ap (find f) (ap (choices set left) (no_place _ e) ∙ none_left set left [] (omega (arith, some)))

  pub found_next : (p : ℕ) → u < 2 ^ 32 → lowest (from_place u n) ≡ Some p
      → find f (choices set left (places_in (from_place u n) 32))
      ≡ option_or (find f (choices (adding set p) (left - 1) (places_in (from_place u (p + 1)) 32))) (find f (choices set left (places_in (from_place u (p + 1)) 32)))
  found_next p small e =
      ap (λ ps. find f (choices set left ps)) (next_place u n p small e) ∙ split left some (places_in (from_place u (p + 1)) 32)
    where
      split : (left : ℕ) → left ≢ 0 → (ps : List ℕ) → find f (choices set left (p ∷ ps)) ≡ option_or (find f (choices (adding set p) (left - 1) ps)) (find f (choices set left ps))
      split zero some ps = absurd (some refl)
      split (suc k) some ps =
          find-append f (choices (adding set p) k ps) (choices set (suc k) ps)
          ∙ ap (λ j. option_or (find f (choices (adding set p) j ps)) (find f (choices set (suc k) ps))) (let same : k ≡ suc k - 1 = omega arith in same)
