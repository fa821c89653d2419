-- What reading a text means.
--   Exactly t r        the reading r of t is a program exactly when t has at most 4,096 bytes and spells it
--   InReach            each program within the limits is what some text of bytes (are_bytes) reads as; and ProgramsInReach, of programs that exist
--   KnownByLists       programs with the same lists are the same
--   Formless, Unranged, Crowded    a line breaks the rule on forms, on ranges, on counts; Foreign, of Alphabet: on bytes
--   FirstBroken why p bs   the line bs, after what p holds, breaks that rule and none that comes earlier in the order
--   words_say ws       what the words of a line say
--   SaysOn ls n l      line n of ls says l
--   Somewhere R xs ys  R holds of some two that stand at one place in the two lists
--   Held p n l         p holds what line n says, beside that line
--   part_lines p       the lines of what p holds: thread by thread (thread_by_thread), then the fault lines
--   Lined ls p         p holds what the lines ls say, in their order
--   Fine ls p          every line of ls is fine by the rules of a line, and p is what they hold
--   EmptyOn p n        a thread without instructions begins on line n
--   AstrayOn p n       line n names an instruction or a thread that is not there, in a jump (JumpAstrayOn) or in a condition (FaultAstrayOn)
--   First P n          n is the first line at which P holds
--   Wrong t e          the first thing wrong with t, by the reason and the line of e: it is too_long, or has a broken_line, an empty_thread,
--                      is lacking a thread or a fault line, or something in it is astray
--   FirstWrong t r     the reading r of t is a refusal exactly when that is the first thing wrong with t
--   OneOrOther t r     t is read or refused: it spells a program or something is wrong with it, never both, and never two of either
use Rattle.std.specs.Prelude.{◌≡◌, ℕ, ◌+◌, ◌<◌, ◌≤◌, Bool, true, false, ◌&&◌, ◌⊎◌, List, [], ◌∷◌, ◌++◌, length, AllPairs, Any, Contains, Some, Ok, Err, Result, nat_lt}
use Rattle.listing.specs.declared.refusal.Reason.{Reason}
use Rattle.listing.specs.declared.refusal.Reason.TheVariants.{TextTooLong, ByteNotPermitted, NoForm, NumberOutOfRange, TooMany, Missing, TargetMissing}
use Rattle.listing.specs.declared.refusal.Refusal.{Refusal}
use Rattle.listing.specs.declared.program.Program.{Program}
use Rattle.listing.specs.Alphabet.{Foreign}
use Rattle.listing.specs.Astray.{JumpsPast, NamesNone}
use Rattle.listing.specs.Code.{Code, code_of}
use Rattle.listing.specs.Forms.{Says, no_form, means, Line, bound_line, thread_line, instruction_line, fault_line, form}
use Rattle.listing.specs.LineForms.{HasForm, InRange, SpellLine}
use Rattle.listing.specs.LineOrder.{MayStand, IsTooMuch}
use Rattle.listing.specs.Limits.{all}
use Rattle.listing.specs.Reading.{reading, refusal, Progress, nothing, some, read_lines}
use Rattle.listing.specs.Spelling.{Pairwise, Spells, keeps_limits}
use Rattle.listing.specs.Words.{content_of, words, lines}

pub record Exactly (t : List ℕ) (r : Result Code Refusal) : Type 0 where
  pub only : (c : Code) → r ≡ Ok c → (length t ≤ 4096) × Spells t c
  pub every : (c : Code) → length t ≤ 4096 → Spells t c → r ≡ Ok c

abbrev pub are_bytes : List ℕ → Bool
are_bytes t = all (λ b. nat_lt b 256) t

abbrev pub InReach : Type 0
InReach = (c : Code) → keeps_limits c ≡ true → (t : List ℕ) × ((are_bytes t ≡ true) × (reading t ≡ Ok c))

-- The rules of a line on forms, on ranges and on counts, each by itself: a line may break several, and a line without words breaks
-- none. The rule on bytes is Foreign.

-- the words have no form, or a line that they begin may not stand there
abbrev pub Formless : Progress → List (List ℕ) → Type 0
Formless p [] = ⊥
Formless p (w ∷ ws) = (HasForm (w ∷ ws) → ⊥) ⊎ (MayStand p w → ⊥)

-- the words have a form, and a number among them is out of its range
abbrev pub Unranged : List (List ℕ) → Type 0
Unranged [] = ⊥
Unranged (w ∷ ws) = HasForm (w ∷ ws) × (InRange (w ∷ ws) → ⊥)

-- what the words add is one too many
abbrev pub Crowded : Progress → List (List ℕ) → Type 0
Crowded p ws = (l : Line) × (SpellLine ws l × IsTooMuch p l)

-- the line breaks this rule, and none that comes earlier in the order
abbrev pub FirstBroken : Reason → Progress → List ℕ → Type 0
FirstBroken ByteNotPermitted p bs = Foreign bs
FirstBroken NoForm p bs = (Foreign bs → ⊥) × Formless p (words (content_of bs))
FirstBroken NumberOutOfRange p bs =
    (Foreign bs → ⊥) × ((Formless p (words (content_of bs)) → ⊥) × Unranged (words (content_of bs)))
FirstBroken TooMany p bs =
    (Foreign bs → ⊥)
    × ((Formless p (words (content_of bs)) → ⊥)
    × ((Unranged (words (content_of bs)) → ⊥) × Crowded p (words (content_of bs))))
FirstBroken _ p bs = ⊥

-- what the words of a line say
abbrev pub words_say : List (List ℕ) → Says Line
words_say [] = no_form
words_say (w ∷ ws) = form w ws

-- line n says l
pub record SaysOn (ls : List (List ℕ)) (n : ℕ) (l : Line) : Type 0 where
  pub before : List (List ℕ)
  pub here : List ℕ
  pub after : List (List ℕ)
  pub are : ls ≡ before ++ here ∷ after
  pub counted : n ≡ length before + 1
  pub says : words_say (words (content_of here)) ≡ means l

-- R holds of some two that stand at one place
abbrev pub Somewhere : {X Y : Type 0} → (X → Y → Type 0) → List X → List Y → Type 0
Somewhere R [] ys = ⊥
Somewhere R (x ∷ xs) [] = ⊥
Somewhere R (x ∷ xs) (y ∷ ys) = R x y ⊎ Somewhere R xs ys

-- what line n says is held, and held beside that line
abbrev pub Held : Progress → ℕ → Line → Type 0
Held p n (bound_line k) = p.bound ≡ Some k
Held p n thread_line = Contains p.thread_lines n
Held p n (instruction_line i) = Somewhere (Somewhere (λ m j. (m ≡ n) × (j ≡ i))) p.instruction_lines p.threads
Held p n (fault_line cs) = Somewhere (λ m ds. (m ≡ n) × (ds ≡ cs)) p.fault_lines p.faults

-- the lines of threads, each with those of its instructions after it
abbrev pub thread_by_thread : List ℕ → List (List ℕ) → List ℕ
thread_by_thread [] nss = []
thread_by_thread (n ∷ ns) [] = []
thread_by_thread (n ∷ ns) (is ∷ nss) = n ∷ (is ++ thread_by_thread ns nss)

abbrev pub part_lines : Progress → List ℕ
part_lines p = thread_by_thread p.thread_lines p.instruction_lines ++ p.fault_lines

-- p holds what the lines say, each part beside the line that says it, in the order of the lines
pub record Lined (ls : List (List ℕ)) (p : Progress) : Type 0 where
  pub all_held : (n : ℕ) (l : Line) → SaysOn ls n l → Held p n l
  pub bound : (k : ℕ) → p.bound ≡ Some k → (n : ℕ) × SaysOn ls n (bound_line k)
  pub threads : Pairwise (λ n t. SaysOn ls n thread_line) p.thread_lines p.threads
  pub instructions : Pairwise (Pairwise (λ n i. SaysOn ls n (instruction_line i))) p.instruction_lines p.threads
  pub faults : Pairwise (λ n cs. SaysOn ls n (fault_line cs)) p.fault_lines p.faults
  pub in_order : AllPairs (λ m n. m < n) (part_lines p)

-- every line is fine by the rules of a line: none breaks one, after what the lines before it hold; and p is what all of them hold
pub record Fine (ls : List (List ℕ)) (p : Progress) : Type 0 where
  pub are : read_lines nothing 1 ls ≡ Ok p
  pub unbroken : (before : List (List ℕ)) (bs : List ℕ) (after : List (List ℕ)) (q : Progress) (why : Reason) → ls ≡ before ++ bs ∷ after → read_lines nothing 1 before ≡ Ok q → FirstBroken why q bs → ⊥
  pub lined : Lined ls p

-- a thread without instructions begins on line n
abbrev pub EmptyOn : Progress → ℕ → Type 0
EmptyOn p n = Somewhere (λ m is. (m ≡ n) × (is ≡ [])) p.thread_lines p.threads

-- line n has a jump past its thread's length
abbrev pub JumpAstrayOn : Progress → ℕ → Type 0
JumpAstrayOn p n = Somewhere (λ ms is. Somewhere (λ m i. (m ≡ n) × JumpsPast (length is) i) ms is) p.instruction_lines p.threads

-- line n has a condition on a thread that is not there, or on an instruction past its length
abbrev pub FaultAstrayOn : Progress → ℕ → Type 0
FaultAstrayOn p n = Somewhere (λ m cs. (m ≡ n) × Any (NamesNone p.threads) cs) p.fault_lines p.faults

abbrev pub AstrayOn : Progress → ℕ → Type 0
AstrayOn p n = JumpAstrayOn p n ⊎ FaultAstrayOn p n

-- n is the first line at which P holds
pub record First (P : ℕ → Type 0) (n : ℕ) : Type 0 where
  pub there : P n
  pub earliest : (m : ℕ) → P m → n ≤ m

pub data Wrong (t : List ℕ) : Refusal → Type 0 where
  too_long : 4096 < length t → Wrong t (refusal TextTooLong 0)
  broken_line : length t ≤ 4096 → (before after : List (List ℕ)) (bs : List ℕ) (p : Progress) (why : Reason) → lines t ≡ before ++ bs ∷ after → Fine before p → FirstBroken why p bs → Wrong t (refusal why (length before + 1))
  empty_thread : length t ≤ 4096 → (p : Progress) (n : ℕ) → Fine (lines t) p → First (EmptyOn p) n → Wrong t (refusal Missing n)
  lacking : length t ≤ 4096 → (p : Progress) → Fine (lines t) p → all some p.threads ≡ true → (some p.threads && some p.faults) ≡ false → Wrong t (refusal Missing 0)
  astray : length t ≤ 4096 → (p : Progress) (n : ℕ) → Fine (lines t) p → all some p.threads ≡ true → (some p.threads && some p.faults) ≡ true → First (AstrayOn p) n → Wrong t (refusal TargetMissing n)

pub record FirstWrong (t : List ℕ) (r : Result Code Refusal) : Type 0 where
  pub only : (e : Refusal) → r ≡ Err e → Wrong t e
  pub every : (e : Refusal) → Wrong t e → r ≡ Err e

pub record OneOrOther (t : List ℕ) (r : Result Code Refusal) : Type 0 where
  pub either : ((c : Code) × ((r ≡ Ok c) × Spells t c)) ⊎ ((e : Refusal) × ((r ≡ Err e) × Wrong t e))
  pub not_both : (c : Code) (e : Refusal) → length t ≤ 4096 → Spells t c → Wrong t e → ⊥
  pub one_program : (c d : Code) → length t ≤ 4096 → Spells t c → Spells t d → c ≡ d
  pub one_refusal : (d e : Refusal) → Wrong t d → Wrong t e → d ≡ e

-- each program is what some text reads as
abbrev pub ProgramsInReach : Type 0
ProgramsInReach = (p : Program) → (t : List ℕ) × ((are_bytes t ≡ true) × (reading t ≡ Ok (code_of p)))

-- a program is known by its lists
abbrev pub KnownByLists : Type 0
KnownByLists = (p q : Program) → code_of p ≡ code_of q → p ≡ q
