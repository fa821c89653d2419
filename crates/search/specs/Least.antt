-- The least set of open places that is enough, and the law that singles it out.
--   unbarred             the open places
--   choices set k ps     the set with k more of the places ps, in every way; of two, the one that holds the lowest place in which they differ is first
--   candidates ps        all sets of these places, the smaller ones first
--   least f unbarred     the first set of open places that passes the test f
--   Within a b           every place of a is one of b
--   Wins a b             the lowest place in which the two differ is in a
--   Best p m unbarred set
--                        the set is open and enough; no open set that is enough is smaller, and of those of its size it wins over each other one
use Rattle.std.specs.Prelude.{◌≡◌, ℕ, zero, suc, ◌<◌, ◌≤◌, ◌⊎◌, Bool, true, false, List, [], ◌∷◌, ◌++◌, length, Option, count_ones, find, flat_map}
use Rattle.std.specs.List.{range_with_len}
use Rattle.listing.specs.declared.program.Program.{Program}
use Rattle.machines.specs.Machines.{Meaning}
use Rattle.machines.specs.Places.{has, adding, places_in}
use Rattle.search.specs.Faults.{Enough}

abbrev pub choices : ℕ → ℕ → List ℕ → List ℕ
choices set zero ps = set ∷ []
choices set (suc k) [] = []
choices set (suc k) (p ∷ ps) = choices (adding set p) k ps ++ choices set (suc k) ps

abbrev pub candidates : List ℕ → List ℕ
candidates ps = flat_map (λ k. choices 0 k ps) (range_with_len 0 (suc (length ps)))

abbrev pub least : (ℕ → Bool) → ℕ → Option ℕ
least f unbarred = find f (candidates (places_in unbarred 32))

abbrev pub Within : ℕ → ℕ → Type 0
Within a b = (q : ℕ) → has a q ≡ true → has b q ≡ true

pub record Wins (a b : ℕ) : Type 0 where
  pub at : ℕ
  pub mine : has a at ≡ true
  pub theirs : has b at ≡ false
  pub lower : (q : ℕ) → q < at → has a q ≡ has b q

pub record Best {S : Type 0} (p : Program) (m : Meaning S) (unbarred set : ℕ) : Type 0 where
  pub is_open : Within set unbarred
  pub enough : Enough p m set
  pub fewest : (rival : ℕ) → Within rival unbarred → Enough p m rival → count_ones set ≤ count_ones rival
  pub wins : (rival : ℕ) → Within rival unbarred → Enough p m rival → count_ones set ≡ count_ones rival → (set ≡ rival) ⊎ Wins set rival
