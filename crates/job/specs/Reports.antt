-- How a report and the line of a refusal are printed: words with one space between them, numbers in decimal, byte 10 last.
use Rattle.std.specs.Prelude.{◌≡◌, ◌↔◌, ℕ, ◌+◌, ◌*◌, ◌^◌, ◌<◌, ◌≤◌, true, List, [], ◌∷◌, ◌++◌, length, codes, AllPairs, Contains}
use Rattle.listing.specs.declared.program.Program.{Program}
use Rattle.listing.specs.declared.refusal.Refusal.{Refusal}
use Rattle.listing.specs.Code.{length_of, place_of, places}
use Rattle.listing.specs.Reasons.{number_of}
use Rattle.machines.specs.Places.{has}
use Rattle.job.specs.Answers.{solution}
use Rattle.job.specs.Text.{line_of, placed, report}

-- the digits write the number; the first of several is not 0
pub data Decimal : ℕ → List ℕ → Type 0 where
  digit : (d : ℕ) → d < 10 → Decimal d ((48 + d) ∷ [])
  more : {n : ℕ} {w : List ℕ} (d : ℕ) → 0 < n → d < 10 → Decimal n w → Decimal (n * 10 + d) (w ++ (48 + d) ∷ [])

-- the line of a place names its thread, and the number of its instruction within the thread
pub data PlaceLine (p : Program) (q : ℕ) : List ℕ → Type 0 where
  before : {t i : ℕ} {thread number : List ℕ} → i < length_of p t → place_of p t i ≡ q → Decimal t thread → Decimal i number
      → PlaceLine p q (codes "before " ++ (thread ++ (codes " " ++ (number ++ codes "\n"))))

-- a line for each of the places, in this order, and nothing else
pub data PlaceLines (p : Program) : List ℕ → List ℕ → Type 0 where
  none : PlaceLines p [] []
  next : {q : ℕ} {qs line rest : List ℕ} → PlaceLine p q line → PlaceLines p qs rest → PlaceLines p (q ∷ qs) (line ++ rest)

-- the report of a set: how many places it has, then a line for each of them, in ascending order
pub record Reported (p : Program) (set : ℕ) (text : List ℕ) : Type 0 where
  pub places : List ℕ
  pub ascending : AllPairs ◌<◌ places
  pub theirs : (q : ℕ) → (has set q ≡ true) ↔ Contains places q
  pub count : List ℕ
  pub counted : Decimal (length places) count
  pub lines : List ℕ
  pub named : PlaceLines p places lines
  pub is : text ≡ codes "fences " ++ (count ++ (codes "\n" ++ lines))

-- the line of a refusal: its number, and its line
pub record RefusalLine (e : Refusal) (text : List ℕ) : Type 0 where
  pub number : List ℕ
  pub numbered : Decimal (number_of e.reason) number
  pub line : List ℕ
  pub lined : Decimal e.line line
  pub is : text ≡ codes "refused " ++ (number ++ (codes " line " ++ (line ++ codes "\n")))

-- of every set of places of a program, and every refusal; a set is a mask of 32 bits, and a line's number has 16
pub record Printing : Type 0 where
  pub reports : (p : Program) (set : ℕ) → set < 2 ^ 32 → ((q : ℕ) → has set q ≡ true → q < places p)
      → Reported p set (report p (solution set))
  pub refusals : (e : Refusal) → e.line < 65536 → RefusalLine e (line_of e)

-- texts that are written into a buffer one after the other are one text
abbrev pub OneText : Type 0
OneText = (out : List ℕ) (at m : ℕ) (a b : List ℕ) → m ≡ at + length a → m + length b ≤ length out
    → placed (placed out at a) m b ≡ placed out at (a ++ b)
