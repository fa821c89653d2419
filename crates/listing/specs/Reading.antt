-- What a text reads as: a program, or the first thing wrong with it.
--   told f r           an answer, with f of what is granted
--   refusal why n      a refusal at line n
--   Progress           what has been read so far: the program's parts, and the lines that they stand on
--   nothing            before the first line
--   some xs            a list has an element
--   may_stand p w      a line with this first word may stand here
--   last_length ls     how long the last of some lists is, 0 where there is none
--   room p l           what the line adds is not one too many
--   grown ls x         some lists with x at the end of the last of them
--   with_line p n l    what has been read with one line more, which is line n
--   bound_stands, thread_stands, instruction_stands, fault_stands    such a line may stand here
--   held p n s         the rules of a line that has words and may stand here
--   standing p n b s   the same of a line that may stand here if b is true
--   worded p n ws      the rules of a line by its words; a line without words is skipped
--   line p n bs        the rules of one line, in their order
--   read_lines p n ls  line by line from the top, where the next line is line n
--   first_failing      the line of the first part that fails a test
--   or_else m n        the line m, or n where there is no m
--   jump_failing       the line of the first jump past its thread's length
--   target_failing p   that line, or else the first fault line that names what is not there
--   targeted p k o     the program with the bound k, or the refusal of the line o, which names what is not there
--   complete p o       the same with the bound o, where bound, threads and fault lines are there; else one of them is missing
--   filled p o         the same where no thread is empty; else the refusal of the line o, on which an empty one begins
--   finished p         the rules after the last line; after_lines: the same, unless a line was refused
--   reading text       the program that a text holds, or the refusal of it
use Rattle.std.specs.Prelude.{ℕ, ◌+◌, Bool, true, false, cond, not, ◌&&◌, List, [], ◌∷◌, ◌++◌, length, is_some, Some, None, Ok, Err, codes, Option, Result, nat_le, nat_lt}
use Rattle.listing.specs.declared.code.Condition.{Condition}
use Rattle.listing.specs.declared.code.Instruction.{Instruction}
use Rattle.listing.specs.declared.refusal.Reason.{Reason}
use Rattle.listing.specs.declared.refusal.Reason.TheVariants.{TextTooLong, ByteNotPermitted, NoForm, NumberOutOfRange, TooMany, Missing, TargetMissing}
use Rattle.listing.specs.declared.refusal.Refusal.{Refusal}
use Rattle.listing.specs.Code.{Code}
use Rattle.listing.specs.Forms.{Says, no_form, out_of_range, means, Line, bound_line, thread_line, instruction_line, fault_line, form}
use Rattle.listing.specs.Limits.{all, condition_there, jump_within, together}
use Rattle.listing.specs.Names.{same_word}
use Rattle.listing.specs.Words.{permitted, content_of, words, lines}

abbrev pub told : {X Y E : Type 0} → (X → Y) → Result X E → Result Y E
told f (Ok x) = Ok (f x)
told f (Err e) = Err e

abbrev pub refusal : Reason → ℕ → Refusal
refusal why n = record { reason = why; line = n }

pub record Progress : Type 0 where
  pub bound : Option ℕ
  pub threads : List (List (Instruction ℕ))
  pub faults : List (List (Condition ℕ))
  pub thread_lines : List ℕ
  pub instruction_lines : List (List ℕ)
  pub fault_lines : List ℕ

abbrev pub nothing : Progress
nothing = record { bound = None; threads = []; faults = []; thread_lines = []; instruction_lines = []; fault_lines = [] }

abbrev pub some : {X : Type 0} → List X → Bool
some [] = false
some (x ∷ xs) = true

abbrev pub bound_stands : Progress → Bool
bound_stands p = not (is_some p.bound)

abbrev pub thread_stands : Progress → Bool
thread_stands p = is_some p.bound && not (some p.faults)

abbrev pub instruction_stands : Progress → Bool
instruction_stands p = some p.threads && not (some p.faults)

abbrev pub fault_stands : Progress → Bool
fault_stands p = is_some p.bound

unfoldable pub may_stand : Progress → List ℕ → Bool
may_stand p w =
    cond (same_word (codes "bound") w) (bound_stands p)
    (cond (same_word (codes "thread") w) (thread_stands p)
    (cond (same_word (codes "fault") w) (fault_stands p) (instruction_stands p)))

-- how long the last of some lists is
abbrev pub last_length : {X : Type 0} → List (List X) → ℕ
last_length [] = 0
last_length (l ∷ []) = length l
last_length (l ∷ m ∷ ls) = last_length (m ∷ ls)

abbrev pub room : Progress → Line → Bool
room p (bound_line k) = true
room p thread_line = nat_lt (length p.threads) 4
room p (instruction_line i) = nat_lt (last_length p.threads) 16 && nat_lt (together p.threads) 32
room p (fault_line cs) = nat_le (length cs) 6 && nat_lt (length p.faults) 8

-- the last of some lists with one element more
abbrev pub grown : {X : Type 0} → List (List X) → X → List (List X)
grown [] x = []
grown (l ∷ []) x = (l ++ x ∷ []) ∷ []
grown (l ∷ m ∷ ls) x = l ∷ grown (m ∷ ls) x

abbrev pub with_line : Progress → ℕ → Line → Progress
with_line p n (bound_line k) =
    record {
      bound = Some k;
      threads = p.threads;
      faults = p.faults;
      thread_lines = p.thread_lines;
      instruction_lines = p.instruction_lines;
      fault_lines = p.fault_lines;
    }
with_line p n thread_line =
    record {
      bound = p.bound;
      threads = p.threads ++ [] ∷ [];
      faults = p.faults;
      thread_lines = p.thread_lines ++ n ∷ [];
      instruction_lines = p.instruction_lines ++ [] ∷ [];
      fault_lines = p.fault_lines;
    }
with_line p n (instruction_line i) =
    record {
      bound = p.bound;
      threads = grown p.threads i;
      faults = p.faults;
      thread_lines = p.thread_lines;
      instruction_lines = grown p.instruction_lines n;
      fault_lines = p.fault_lines;
    }
with_line p n (fault_line cs) =
    record {
      bound = p.bound;
      threads = p.threads;
      faults = p.faults ++ cs ∷ [];
      thread_lines = p.thread_lines;
      instruction_lines = p.instruction_lines;
      fault_lines = p.fault_lines ++ n ∷ [];
    }

abbrev pub held : Progress → ℕ → Says Line → Result Progress Refusal
held p n no_form = Err (refusal NoForm n)
held p n out_of_range = Err (refusal NumberOutOfRange n)
held p n (means l) = cond (room p l) (Ok (with_line p n l)) (Err (refusal TooMany n))

abbrev pub standing : Progress → ℕ → Bool → Says Line → Result Progress Refusal
standing p n stands s = cond stands (held p n s) (Err (refusal NoForm n))

abbrev pub worded : Progress → ℕ → List (List ℕ) → Result Progress Refusal
worded p n [] = Ok p
worded p n (w ∷ ws) = standing p n (may_stand p w) (form w ws)

abbrev pub line : Progress → ℕ → List ℕ → Result Progress Refusal
line p n bs = cond (all permitted (content_of bs)) (worded p n (words (content_of bs))) (Err (refusal ByteNotPermitted n))

abbrev pub read_lines : Progress → ℕ → List (List ℕ) → Result Progress Refusal
read_lines p n [] = Ok p
read_lines p n (l ∷ ls) = elim (line p n l) [ Ok q ↦ read_lines q (n + 1) ls | Err e ↦ Err e ]

abbrev pub first_failing : {X : Type 0} → (X → Bool) → List ℕ → List X → Option ℕ
first_failing test [] xs = None
first_failing test (n ∷ ns) [] = None
first_failing test (n ∷ ns) (x ∷ xs) = cond (test x) (first_failing test ns xs) (Some n)

abbrev pub or_else : Option ℕ → Option ℕ → Option ℕ
or_else None o = o
or_else (Some n) o = Some n

-- the first line with a jump past its thread's length
abbrev pub jump_failing : List (List ℕ) → List (List (Instruction ℕ)) → Option ℕ
jump_failing [] ts = None
jump_failing (ns ∷ nss) [] = None
jump_failing (ns ∷ nss) (t ∷ ts) = or_else (first_failing (jump_within (length t)) ns t) (jump_failing nss ts)

abbrev pub target_failing : Progress → Option ℕ
target_failing p =
    or_else (jump_failing p.instruction_lines p.threads) (first_failing (all (condition_there p.threads)) p.fault_lines p.faults)

abbrev pub targeted : Progress → ℕ → Option ℕ → Result Code Refusal
targeted p k None = Ok (record { bound = k; threads = p.threads; faults = p.faults })
targeted p k (Some n) = Err (refusal TargetMissing n)

abbrev pub complete : Progress → Option ℕ → Result Code Refusal
complete p None = Err (refusal Missing 0)
complete p (Some k) = cond (some p.threads && some p.faults) (targeted p k (target_failing p)) (Err (refusal Missing 0))

abbrev pub filled : Progress → Option ℕ → Result Code Refusal
filled p None = complete p p.bound
filled p (Some n) = Err (refusal Missing n)

unfoldable pub finished : Progress → Result Code Refusal
finished p = filled p (first_failing some p.thread_lines p.threads)

abbrev pub after_lines : Result Progress Refusal → Result Code Refusal
after_lines (Ok p) = finished p
after_lines (Err e) = Err e

unfoldable pub reading : List ℕ → Result Code Refusal
reading text = cond (nat_le (length text) 4096) (after_lines (read_lines nothing 1 (lines text))) (Err (refusal TextTooLong 0))
