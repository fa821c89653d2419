-- Lists of numbers that rise, and the lines of threads among them. Assumes nothing.
use Rattle.std.proofs.Common.{◌≡◌, ℕ, ◌<◌, true, List, [], ◌∷◌, ◌++◌, inl, inr, AllPairs, refl, sym, ap, ◌∙◌, arith}
use Rattle.std.proofs.lemmas.List.{append-nil, append_assoc}
use Rattle.std.proofs.lemmas.List.Elements.{All-from_recursion}
use Rattle.std.proofs.lemmas.List.Kept.{AllPairs-cons}
use Rattle.std.specs.List.{AllByRecursion as All}
use Rattle.listing.specs.Laws.{Somewhere, thread_by_thread}
use Rattle.listing.specs.Reading.{some, grown}
use Rattle.listing.proofs.Pairs.{AsLong}
use Rattle.listing.proofs.Recursive.{all_push, all_front, all_back}

-- each is below all that follow it
abbrev pub Rising : List ℕ → Type 0
Rising [] = Unit {0}
Rising (n ∷ ns) = All (λ m. n < m) ns × Rising ns

pub rising_pairs : (ns : List ℕ) → Rising ns → AllPairs (λ m n. m < n) ns
rising_pairs [] h = λ i j d lt within. absurd (omega arith)
rising_pairs (n ∷ ns) h = AllPairs-cons (λ m n. m < n) n ns (All-from_recursion (λ m. n < m) ns h.0) (rising_pairs ns h.1)

pub rising_push : (ns : List ℕ) (n : ℕ) → Rising ns → All (λ m. m < n) ns → Rising (ns ++ n ∷ [])
rising_push [] n h below = (tt, tt)
rising_push (m ∷ ns) n h below = (all_push (λ k. m < k) ns n h.0 below.0, rising_push ns n h.1 below.1)

pub rising_front : (ms ns : List ℕ) → Rising (ms ++ ns) → Rising ms
rising_front [] ns h = tt
rising_front (m ∷ ms) ns h = (all_front (λ k. m < k) ms ns h.0, rising_front ms ns h.1)

pub rising_back : (ms ns : List ℕ) → Rising (ms ++ ns) → Rising ns
rising_back [] ns h = h
rising_back (m ∷ ms) ns h = rising_back ms ns h.1

pub rising_across : (ms ns : List ℕ) → Rising (ms ++ ns) → All (λ m. All (λ n. m < n) ns) ms
rising_across [] ns h = tt
rising_across (m ∷ ms) ns h = (all_back (λ k. m < k) ms ns h.0, rising_across ms ns h.1)

-- the lines of threads, where a thread or an instruction comes last
pub thread_more : (ns : List ℕ) (nss : List (List ℕ)) (n : ℕ) → AsLong ns nss → thread_by_thread (ns ++ n ∷ []) (nss ++ [] ∷ []) ≡ thread_by_thread ns nss ++ n ∷ []
thread_more [] [] n l = refl
thread_more [] (is ∷ nss) n l = absurd (omega arith)
thread_more (m ∷ ns) [] n l = absurd (omega arith)
thread_more (m ∷ ns) (is ∷ nss) n l =
    ap (λ r. m ∷ r) (ap (λ r. is ++ r) (thread_more ns nss n (omega arith)) ∙ sym (append_assoc is (thread_by_thread ns nss) (n ∷ [])))

pub instruction_more : (ns : List ℕ) (nss : List (List ℕ)) (n : ℕ) → AsLong ns nss → some nss ≡ true → thread_by_thread ns (grown nss n) ≡ thread_by_thread ns nss ++ n ∷ []
instruction_more ns [] n l h = cc
instruction_more [] (is ∷ nss) n l h = absurd (omega arith)
instruction_more (m ∷ []) (is ∷ []) n l h = rw (append-nil (is ++ n ∷ []), append-nil is) refl
instruction_more (m ∷ []) (is ∷ js ∷ nss) n l h = absurd (omega arith)
instruction_more (m ∷ k ∷ ns) (is ∷ []) n l h = absurd (omega arith)
instruction_more (m ∷ k ∷ ns) (is ∷ js ∷ nss) n l h =
    ap (λ r. m ∷ r) (ap (λ r. is ++ r) (instruction_more (k ∷ ns) (js ∷ nss) n (omega arith) refl) ∙ sym (append_assoc is (thread_by_thread (k ∷ ns) (js ∷ nss)) (n ∷ [])))

-- what the lines of all threads have, those of one have too, for a conclusion W
pub thread_meets : {W Y : Type 0} (P : ℕ → Type 0) (R : List ℕ → Y → Type 0) (ns : List ℕ) (nss : List (List ℕ)) (ys : List Y) → AsLong ns nss → All P (thread_by_thread ns nss) → Somewhere R nss ys
    → ((ms : List ℕ) (y : Y) → All P ms → R ms y → W) → W
thread_meets P R ns [] ys l a h k = absurd h
thread_meets P R [] (is ∷ nss) ys l a h k = absurd (omega arith)
thread_meets P R (n ∷ ns) (is ∷ nss) [] l a h k = absurd h
thread_meets P R (n ∷ ns) (is ∷ nss) (y ∷ ys) l a h k =
    elim h [
      | inl r ↦ k is y (all_front P is (thread_by_thread ns nss) a.1) r
      | inr s ↦ thread_meets P R ns nss ys (omega arith) (all_back P is (thread_by_thread ns nss) a.1) s k
    ]

-- the lines at which threads begin rise as well
pub threads_rise : (ns : List ℕ) (nss : List (List ℕ)) → AsLong ns nss → Rising (thread_by_thread ns nss) → Rising ns
threads_rise [] nss l h = tt
threads_rise (n ∷ ns) [] l h = absurd (omega arith)
threads_rise (n ∷ ns) (is ∷ nss) l h =
    (begins (λ m. n < m) ns nss (omega arith) (all_back (λ m. n < m) is (thread_by_thread ns nss) h.0), threads_rise ns nss (omega arith) (rising_back is (thread_by_thread ns nss) h.1))
  where
    begins : (P : ℕ → Type 0) (ns : List ℕ) (nss : List (List ℕ)) → AsLong ns nss → All P (thread_by_thread ns nss) → All P ns
    begins P [] nss l a = tt
    begins P (n ∷ ns) [] l a = absurd (omega arith)
    begins P (n ∷ ns) (is ∷ nss) l a = (a.0, begins P ns nss (omega arith) (all_back P is (thread_by_thread ns nss) a.1))
