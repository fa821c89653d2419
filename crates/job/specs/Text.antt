-- The lines that a job writes, byte by byte.
--   placed out at bs  the buffer with bs written at `at`, the bytes before and after as they were
--   digit n unit      the digit of n at a unit that n reaches
--   decimal n         n in decimal, below 100,000, with no leading zeros
--   before p n        the line that names the place n of the program p: its thread, and its number within it
--   befores p k s     these lines for the places of the set s, lowest first, k of them at most
--   report p k        the report of a kept placement: the fence count that was kept with it, then its places
--   refusal n line    the line that names a refusal
--   line_of e         the line of that refusal
use Rattle.std.specs.Prelude.{ℕ, zero, suc, ◌+◌, ◌-◌, ◌/◌, ◌%◌, cond, List, [], ◌∷◌, ◌++◌, length, take, drop, codes, ◌==◌, nat_le}
use Rattle.std.specs.Int.Count.{count_trailing_zeros}
use Rattle.listing.specs.declared.refusal.Refusal.{Refusal}
use Rattle.listing.specs.Reasons.{number_of}
use Rattle.listing.specs.declared.program.Program.{Program}
use Rattle.listing.specs.Code.{place_of, thread_at}
use Rattle.machines.specs.Places.{removing}
use Rattle.job.specs.declared.solution.Solution.{Solution}

abbrev pub placed : List ℕ → ℕ → List ℕ → List ℕ
placed out at bs = take at out ++ (bs ++ drop (at + length bs) out)

abbrev pub digit : ℕ → ℕ → List ℕ
digit n unit = cond (nat_le unit n) ((48 + n / unit % 10) ∷ []) []

unfoldable pub decimal : ℕ → List ℕ
decimal n = digit n 10000 ++ (digit n 1000 ++ (digit n 100 ++ (digit n 10 ++ ((48 + n % 10) ∷ []))))

unfoldable pub before : Program → ℕ → List ℕ
before p n =
    let t = thread_at p n in
    codes "before " ++ (decimal t ++ (codes " " ++ (decimal (n - place_of p t 0) ++ codes "\n")))

unfoldable pub befores : Program → ℕ → ℕ → List ℕ
befores p zero s = []
befores p (suc k) s = cond (s == 0) [] (before p (count_trailing_zeros 32 s) ++ befores p k (removing s (count_trailing_zeros 32 s)))

unfoldable pub report : Program → Solution → List ℕ
report p k = codes "fences " ++ (decimal k.fences ++ (codes "\n" ++ befores p 32 k.places.mask))

unfoldable pub refusal : ℕ → ℕ → List ℕ
refusal n line = codes "refused " ++ (decimal n ++ (codes " line " ++ (decimal line ++ codes "\n")))

abbrev pub line_of : Refusal → List ℕ
line_of e = refusal (number_of e.reason) e.line
