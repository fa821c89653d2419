-- The least set is the best one, which is the only such set. Nothing is assumed.
use Rattle.std.proofs.Common.{◌≡◌, ◌↔◌, ℕ, ◌^◌, ◌<◌, ◌⊎◌, Bool, true, false, List, [], ◌∷◌, All, AllPairs, Contains, find, get_or, count_ones, Some, None, Option, inl, inr, refl, sym, ap, ◌∙◌, subst, ⊎_elim, arith}
use Rattle.std.specs.List.{position_or_len}
use Rattle.std.proofs.lemmas.List.Folds.{find_at}
use Rattle.std.proofs.lemmas.List.Sums.{fails_before_first, passes_at_first}
use Rattle.std.proofs.lemmas.Option.{get_or_from_slice_get, none-some, slice_get-get_or, slice_get_within}
use Rattle.std.proofs.lemmas.Bool.{both_ways, cases_order, cond-false}
use Rattle.std.proofs.lemmas.List.Elements.{All-contains, Contains-append_right}
use Rattle.listing.specs.declared.program.Program.{Program}
use Rattle.machines.specs.Machines.{Meaning}
use Rattle.machines.specs.Places.{has, places_in}
use Rattle.search.specs.Faults.{Enough}
use Rattle.search.specs.Least.{candidates, least, Best, Within, Wins}
use Rattle.search.proofs.Lists.{all_fail}
use Rattle.search.proofs.Candidates.{Precedes, candidates_within, in_order, within_candidates}

wins_not_both : (a b : ℕ) → Wins a b → Wins b a → ⊥
wins_not_both a b v w = by (cases_order v.at w.at)
  where
    by : (v.at ≡ w.at) ⊎ ((v.at < w.at) ⊎ (w.at < v.at)) → ⊥
    by (inl e) = both_ways _ w.theirs (ap (has a) (sym e) ∙ v.mine)
    by (inr (inl l)) = both_ways _ v.theirs (w.lower v.at l ∙ v.mine)
    by (inr (inr l)) = both_ways _ w.theirs (v.lower w.at l ∙ w.mine)

module _ (f : ℕ → Bool) where
  none_passes : (xs : List ℕ) → find f xs ≡ None → All (λ x. f x ≡ false) xs
  none_passes xs e = let at = position_or_len f xs in all_fail f xs (λ lt. none-some (get_or xs at 0) (sym e ∙ (find_at f xs ∙ slice_get-get_or xs at 0 lt)))

  pub none_found : (xs : List ℕ) → ((x : ℕ) → Contains xs x → f x ≡ false) → find f xs ≡ None
  none_found [] h = refl
  none_found (x ∷ xs) h = cond-false (f x) _ _ (h x (0, omega arith, refl)) ∙ none_found xs (λ y c. h y (Contains-append_right (x ∷ []) xs y c))

  -- what is found passes, and is there before all others that pass
  first_leads : (R : ℕ → ℕ → Type 0) (xs : List ℕ) (s : ℕ) → AllPairs R xs → find f xs ≡ Some s → (f s ≡ true) × Contains xs s × All (λ y. f y ≡ true → (s ≡ y) ⊎ R s y) xs
  first_leads R xs s order e =
      let at = position_or_len f xs in
      let is = sym (find_at f xs) ∙ e in
      let lt = slice_get_within xs at s is in
      let here = λ (d : ℕ). get_or_from_slice_get xs at s d is in (
        ap f (sym (here s)) ∙ passes_at_first f xs s lt,
        (at, lt, here s),
        λ k d under h. ⊎_elim
            (λ same. inl (sym (here d) ∙ ap (λ j. get_or xs j d) (sym same)))
            (⊎_elim (λ l. absurd (both_ways _ (fails_before_first f xs k d l) h)) (λ g. inr (subst (λ x. R x (get_or xs k d)) (here d) (order at k d g under))))
            (cases_order k at),
      )

module _ (f : ℕ → Bool) (u : ℕ) where
  pub none_of : u < 2 ^ 32 → least f u ≡ None → (s : ℕ) → Within s u → f s ≡ false
  none_of small e s w = All-contains (λ t. f t ≡ false) (candidates (places_in u 32)) s (none_passes f (candidates (places_in u 32)) e) (within_candidates u s small w)

  pub least_none : ((s : ℕ) → Within s u → f s ≡ false) → least f u ≡ None
  least_none h = none_found f (candidates (places_in u 32)) (λ s c. h s (candidates_within u s c))

module _ {S : Type 0} (p : Program) (m : Meaning S) (u : ℕ) where
  pub only_best : (s o : ℕ) → Best p m u s → Best p m u o → s ≡ o
  only_best s o a b =
      let same : count_ones s ≡ count_ones o = omega (arith, a.fewest o b.is_open b.enough, b.fewest s a.is_open a.enough) in
      ⊎_elim (λ e. e) (λ v. ⊎_elim sym (λ w. absurd (wins_not_both s o v w)) (b.wins s a.is_open a.enough (sym same))) (a.wins o b.is_open b.enough same)

  -- by a test that tells which sets are enough
  module _ (f : ℕ → Bool) (tells : (s : ℕ) → f s ≡ true ↔ Enough p m s) (small : u < 2 ^ 32) where
    found_best : (s : ℕ) → least f u ≡ Some s → Best p m u s
    found_best s e =
        let all = candidates (places_in u 32) in
        let found = first_leads f Precedes all s (in_order u) e in
        let first = λ (rival : ℕ) (w : Within rival u) (h : Enough p m rival).
        All-contains (λ y. f y ≡ true → (s ≡ y) ⊎ Precedes s y) all rival found.2 (within_candidates u rival small w) ((tells rival).1 h) in
        record {
          is_open = candidates_within u s found.1;
          enough = (tells s).0 found.0;
          fewest = λ rival w h. ⊎_elim (λ e. omega (arith, ap count_ones e)) (λ l. ⊎_elim (λ k. omega arith) (λ k. omega arith) l) (first rival w h);
          wins = λ rival w h same. ⊎_elim inl (λ l. ⊎_elim (λ k. absurd (omega arith)) (λ k. inr k.1) l) (first rival w h);
        }

    pub least_best : (s : ℕ) → least f u ≡ Some s ↔ Best p m u s
    least_best s = (found_best s, λ b. by (least f u) refl b)
      where
        by : (o : Option ℕ) → least f u ≡ o → Best p m u s → o ≡ Some s
        by None e b = absurd (both_ways (f s) (none_of f u small e s b.is_open) ((tells s).1 b.enough))
        by (Some best) e b = ap Some (only_best best s (found_best best e) b)
