-- The table of worked examples, in three parts.
use Rattle.std.specs.Prelude.{ℕ, true, false, List, [], ◌∷◌, ◌++◌, map, replicate, codes}
use Rattle.std.specs.List.{AllByRecursion, flat_map}
use Prim.Native.String.{String}
use Rattle.listing.specs.declared.code.Condition.TheVariants.{At, Holds, Memory}
use Rattle.listing.specs.declared.code.Instruction.TheVariants.{Store, Load, Set, Add, Cas, Fence, Jump, JumpIfEqual, JumpUnlessEqual}
use Rattle.listing.specs.declared.code.Operand.TheVariants.{Value, Register}
use Rattle.listing.specs.declared.code.Register.TheVariants.{R0, R1, R2, R3}
use Rattle.listing.specs.declared.code.Variable.TheVariants.{A, B, C, D, E, F, G, H}
use Rattle.listing.specs.Code.{Code}
use Rattle.worked.specs.Claims.{Claim, Example, RowHolds, is_read, reads, refused, reaches, never, ends, present, absent, prints, plainly}

-- what is claimed of one text, and what of each of several
abbrev row : List ℕ → List Claim → Example
row text claims = record { texts = text ∷ []; claims = claims }

abbrev each : Claim → List (List ℕ) → Example
each claim texts = record { texts = texts; claims = claim ∷ [] }

-- listings whose line 3, the first of the thread, begins so, or whose line 4, the first after the thread
abbrev with_instruction : List String → List (List ℕ)
with_instruction lines =
    map (λ s. codes "bound 1\nthread\n" ++ (codes s ++ codes "\nfault mem a 2\n")) lines

abbrev with_fault : List String → List (List ℕ)
with_fault lines = map (λ s. codes "bound 1\nthread\nfence\n" ++ (codes s ++ codes "\n")) lines

-- a text so many times
abbrev times : ℕ → List ℕ → List ℕ
times n text = flat_map (λ t. t) (replicate n text)

-- a listing whose threads have so many instructions each, all `fence`, and m fault lines of n conditions
abbrev sized : List ℕ → ℕ → ℕ → List ℕ
sized threads m n =
    codes "bound 1\n"
    ++ (flat_map (λ k. codes "thread\n" ++ times k (codes "fence\n")) threads
    ++ times m (codes "fault" ++ (times n (codes " mem a 1") ++ codes "\n")))

abbrev every_form : List ℕ
every_form =
    codes "bound 4\nthread\nstore a 0\nstore h r3\nload r0 a\nload r3 h\nset r0 15\nset r1 r2\n"
    ++ (codes "add r2 0\nadd r3 r0\ncas r0 b 0 15\ncas r1 c r2 r3\nfence\njump 0\njump 16\n"
    ++ (codes "jeq r0 15 16\njeq r1 r0 0\njne r2 0 16\nthread\njne r3 r1 1\n"
    ++ (codes "thread\nfence\nthread\nfence\n"
    ++ (codes "fault at 0 0 at 0 16 at 3 1 reg 0 r0 0 reg 3 r3 15 mem d 0\n"
    ++ codes "fault mem e 15 mem f 1 mem g 2 mem h 3\n"))))

abbrev program_of_every_form : Code
program_of_every_form =
    record {
      bound = 4;
      threads =
          (Store A (Value 0) ∷ Store H (Register R3) ∷ Load R0 A ∷ Load R3 H
          ∷ Set R0 (Value 15) ∷ Set R1 (Register R2) ∷ Add R2 (Value 0) ∷ Add R3 (Register R0)
          ∷ Cas R0 B (Value 0) (Value 15) ∷ Cas R1 C (Register R2) (Register R3) ∷ Fence
          ∷ Jump 0 ∷ Jump 16 ∷ JumpIfEqual R0 (Value 15) 16 ∷ JumpIfEqual R1 (Register R0) 0
          ∷ JumpUnlessEqual R2 (Value 0) 16 ∷ [])
          ∷ (JumpUnlessEqual R3 (Register R1) 1 ∷ [])
          ∷ (Fence ∷ [])
          ∷ (Fence ∷ [])
          ∷ [];
      faults =
          (At 0 0 ∷ At 0 16 ∷ At 3 1 ∷ Holds 0 R0 0 ∷ Holds 3 R3 15 ∷ Memory D 0 ∷ [])
          ∷ (Memory E 15 ∷ Memory F 1 ∷ Memory G 2 ∷ Memory H 3 ∷ [])
          ∷ [];
    }

-- What is read, and what is refused: at the first line that is wrong, by the first rule that it breaks.
abbrev pub readings : List Example
readings =
    -- each form of a line; T is 0 and 3, N 0 and 16, a value 0 and 15
    row every_form (reads program_of_every_form ∷ [])
    -- a zero in front, more spaces, lines without words, comments with any bytes, no line end at the end
    ∷ row (codes " bound 01 # K:\tZ\n\n#\n   \nthread\n  store   a  07\nfault mem a 2#!")
    (reads
    (record {
      bound = 1;
      threads = (Store A (Value 7) ∷ []) ∷ [];
      faults = (Memory A 2 ∷ []) ∷ [];
    }) ∷ [])
    -- a jump goes to the end of its thread, and a condition asks for it
    ∷ each is_read (with_instruction ("fence\njump 2" ∷ "fence\njeq r0 0 2" ∷ "fence\njne r0 0 2" ∷ []))
    ∷ each is_read (with_fault ("fault at 0 1" ∷ []))
    -- four threads, 16 instructions in one and 32 in all, eight fault lines of six conditions
    ∷ row (sized (16 ∷ 14 ∷ 1 ∷ 1 ∷ []) 8 6) (is_read ∷ [])
    -- one more of each; in the first of these texts threads are empty as well
    ∷ row (codes "bound 1\nthread\nthread\nthread\nthread\nthread\n") (refused 5 6 ∷ [])
    ∷ row (sized (17 ∷ []) 1 1) (refused 5 19 ∷ [])
    ∷ row (sized (16 ∷ 16 ∷ 1 ∷ []) 1 1) (refused 5 37 ∷ [])
    ∷ row (sized (1 ∷ []) 9 1) (refused 5 12 ∷ [])
    ∷ row (sized (1 ∷ []) 1 7) (refused 5 4 ∷ [])
    -- a number is out of its range or has three digits; the last fault line has seven conditions as well
    ∷ each (refused 4 1) (codes "bound 0\n" ∷ codes "bound 5\n" ∷ codes "bound 004\n" ∷ [])
    ∷ each (refused 4 3) (with_instruction
    ("store a 16" ∷ "set r0 16" ∷ "add r0 16" ∷ "cas r0 a 16 0" ∷ "cas r0 a 0 16" ∷ "set r0 007"
    ∷ "jeq r0 16 0" ∷ "jne r0 16 0" ∷ "jump 17" ∷ "jeq r0 0 17" ∷ "jne r0 0 17" ∷ []))
    ∷ each (refused 4 4) (with_fault
    ("fault at 4 0" ∷ "fault at 0 17" ∷ "fault reg 4 r0 0" ∷ "fault reg 0 r0 16" ∷ "fault mem a 16"
    ∷ "fault mem a 1 mem a 1 mem a 1 mem a 1 mem a 1 mem a 1 mem a 16" ∷ []))
    -- a jump goes past its thread's end, or a condition names what is not there; of two such lines the first is named
    ∷ each (refused 7 4) (with_instruction
    ("fence\njump 3" ∷ "fence\njeq r0 0 3" ∷ "fence\njne r0 0 3" ∷ "jump 2\njne r0 0 16\nfault at 1 0" ∷ []))
    ∷ each (refused 7 4) (with_fault
    ("fault at 0 2" ∷ "fault at 1 0" ∷ "fault mem a 1 reg 1 r0 0" ∷ []))
    -- a word is misspelt, one too many or missing; the last instruction has a number out of range as well
    ∷ each (refused 3 3) (with_instruction
    ("stor a 1" ∷ "load r4 a" ∷ "store i 1" ∷ "fence 1" ∷ "load r0" ∷ "store z 1" ∷ "store a 16 1" ∷ []))
    ∷ each (refused 3 4) (with_fault ("fault" ∷ "fault at 0" ∷ "fault mem a 1 2" ∷ []))
    -- a line may not stand there: before the bound, a second bound, in no thread, after a fault line
    ∷ each (refused 3 1) (codes "thread\nbound 1\n" ∷ codes "fault mem a 1\n" ∷ [])
    ∷ each (refused 3 2) (codes "bound 1\nbound 1\n" ∷ codes "bound 1\nfence\n" ∷ [])
    ∷ each (refused 3 5) (with_fault ("fault mem a 1\nthread\nfence" ∷ "fault mem a 1\nfence" ∷ []))
    -- a byte is not permitted; none of these instructions has a form either
    ∷ each (refused 2 3) (with_instruction ("Store a 1" ∷ "store\ta 1" ∷ "add r0 -1" ∷ []))
    -- a thread is empty; in the second of these texts another one is, and in the third a jump goes too far as well
    ∷ each (refused 6 4) (codes "bound 1\nthread\nfence\nthread\nfault mem a 1\n"
    ∷ codes "bound 1\nthread\nfence\nthread\nthread\nfault mem a 1\n"
    ∷ codes "bound 1\nthread\njump 2\nthread\nfault mem a 1\n" ∷ [])
    -- there is no thread, no fault line, or neither
    ∷ each (refused 6 0) (codes "bound 1\nfault mem a 1\n" ∷ codes "bound 1\nthread\nfence\n"
    ∷ [] ∷ replicate 4096 32 ∷ [])
    -- there is one byte too many
    ∷ row (replicate 4097 32) (refused 1 0 ∷ [])
    -- lines without words count; of two lines that are wrong the first is named
    ∷ row (codes "\n\nbound 1\n\n  # c\nthread\nstor a 1\n") (refused 3 7 ∷ [])
    ∷ row (codes "bound 1\nthread\nstore a 16\nStore a 1\n") (refused 4 3 ∷ [])
    ∷ []

-- What the machines do. On the buffered machine step 0 is the next instruction of thread 0, step 1 takes its oldest waiting write
-- to memory; steps 2 and 3 are those of thread 1.
abbrev pub runs : List Example
runs =
    -- a thread reads what it has written; no step is present where no write waits, and none at the thread's end
    row (codes "bound 1\nthread\nstore a 1\nload r0 a\nfault mem a 2\n")
    (never (At 0 2 ∷ Holds 0 R0 0 ∷ []) ∷ ends (At 0 2 ∷ []) (Holds 0 R0 1 ∷ Memory A 1 ∷ [])
    ∷ absent [] 1 ∷ present (0 ∷ []) 1 ∷ absent (0 ∷ 1 ∷ 0 ∷ []) 0 ∷ [])
    -- it reads the newest of two waiting writes; a third store has to wait
    ∷ row (codes "bound 2\nthread\nstore a 1\nstore a 2\nload r0 a\nstore a 3\nfault mem a 4\n")
    (present (0 ∷ []) 0 ∷ absent (0 ∷ 0 ∷ 0 ∷ []) 0 ∷ present (0 ∷ 0 ∷ 0 ∷ 1 ∷ []) 0
    ∷ ends (At 0 4 ∷ []) (Holds 0 R0 2 ∷ Memory A 3 ∷ []) ∷ [])
    -- what still waits is not seen, however much it is
    ∷ row (codes "bound 4\nthread\nstore a 1\nstore a 2\nstore a 3\nstore a 4\nfault mem a 5\n")
    (ends (At 0 4 ∷ []) (Memory A 4 ∷ []) ∷ [])
    -- with the bound 1 the second has to wait
    ∷ row (codes "bound 1\nthread\nstore a 1\nstore b 1\nfault mem a 2\n")
    (absent (0 ∷ []) 0 ∷ present (0 ∷ 1 ∷ []) 0 ∷ [])
    -- `fence` and `cas` have to wait until no write does; this `cas` succeeds
    ∷ row (codes "bound 2\nthread\nstore a 1\nstore b 1\nfence\nfault mem a 2\n")
    (absent (0 ∷ 0 ∷ []) 0 ∷ absent (0 ∷ 0 ∷ 1 ∷ []) 0 ∷ present (0 ∷ 0 ∷ 1 ∷ 1 ∷ []) 0 ∷ [])
    ∷ row (codes "bound 1\nthread\nstore a 1\ncas r0 a 1 2\nfault mem a 3\n")
    (absent (0 ∷ []) 0 ∷ present (0 ∷ 1 ∷ []) 0
    ∷ ends (At 0 2 ∷ []) (Holds 0 R0 1 ∷ Memory A 2 ∷ []) ∷ [])
    -- this one fails; and sums are taken modulo 16
    ∷ row (codes "bound 1\nthread\nset r0 7\ncas r0 a 1 2\nset r1 15\nadd r1 1\nfault mem a 2\n")
    (ends (At 0 4 ∷ []) (Holds 0 R0 0 ∷ Memory A 0 ∷ Holds 0 R1 0 ∷ []) ∷ [])
    -- each way that a jump may go: the instructions 3, 5 and 7 are passed over
    ∷ row
    (codes "bound 1\nthread\njeq r0 1 3\njne r0 0 3\njeq r0 0 4\nfence\njne r0 1 6\nfence\n"
    ++ codes "jump 8\nfence\nfault mem a 1\n")
    (reaches 6 6 ∷ never (At 0 3 ∷ []) ∷ never (At 0 5 ∷ []) ∷ never (At 0 7 ∷ []) ∷ [])
    -- store buffering with a fence in each thread: they do not both read 0
    ∷ row
    (codes "bound 1\nthread\nstore a 1\nfence\nload r0 b\nthread\nstore b 1\nfence\nload r0 a\n"
    ++ codes "fault mem a 2\n")
    (never (At 0 3 ∷ At 1 3 ∷ Holds 0 R0 0 ∷ Holds 1 R0 0 ∷ [])
    ∷ ends (At 0 3 ∷ At 1 3 ∷ []) (Memory A 1 ∷ Memory B 1 ∷ []) ∷ [])
    ∷ []

-- What solving prints, with so many rows and such places barred, and whether the unbuffered machine is free of faults.
abbrev pub solutions : List Example
solutions =
    -- one store; three rows hold what is reached, and two do not
    row (codes "bound 1\nthread\nstore a 1\nfault mem a 2\n")
    (reaches 3 2 ∷ prints 3 [] (codes "fences 0\n")
    ∷ prints 2 [] (codes "refused 14 line 0\n") ∷ prints 0 [] (codes "refused 14 line 0\n") ∷ [])
    -- while a write waits, what is seen is no fault
    ∷ row (codes "bound 1\nthread\nstore a 1\nfault at 0 1 mem a 0\n")
    (plainly 512 true ∷ prints 512 [] (codes "fences 0\n") ∷ [])
    -- no fence keeps out a fault that the unbuffered machine has
    ∷ row (codes "bound 1\nthread\nstore a 1\nfault mem a 1\n")
    (plainly 512 false ∷ prints 512 [] (codes "refused 15 line 0\n") ∷ [])
    -- store buffering: both threads may read 0, and without place 1 no fences keep that out
    ∷ row
    (codes "bound 1\nthread\nstore a 1\nload r0 b\nthread\nstore b 1\nload r0 a\n"
    ++ codes "fault at 0 2 at 1 2 reg 0 r0 0 reg 1 r0 0\n")
    (reaches 34 13 ∷ present [] 2 ∷ absent [] 3 ∷ present (2 ∷ []) 3 ∷ absent [] 4
    ∷ ends (At 0 2 ∷ At 1 2 ∷ Holds 0 R0 0 ∷ Holds 1 R0 0 ∷ []) (Memory A 1 ∷ Memory B 1 ∷ [])
    ∷ plainly 512 true
    ∷ prints 512 [] (codes "fences 2\nbefore 0 1\nbefore 1 1\n")
    ∷ prints 512 (1 ∷ []) (codes "refused 15 line 0\n") ∷ [])
    -- with an instruction between store and load the fence goes to the lower place, unless that is barred
    ∷ row
    (codes "bound 1\nthread\nstore a 1\nset r1 0\nload r0 b\nthread\nstore b 1\nload r0 a\n"
    ++ codes "fault at 0 3 at 1 2 reg 0 r0 0 reg 1 r0 0\n")
    (prints 512 [] (codes "fences 2\nbefore 0 1\nbefore 1 1\n")
    ∷ prints 512 (1 ∷ []) (codes "fences 2\nbefore 0 2\nbefore 1 1\n") ∷ [])
    -- message passing needs no fence
    ∷ row
    (codes "bound 1\nthread\nstore a 1\nstore b 1\nthread\nload r0 b\nload r1 a\n"
    ++ codes "fault at 1 2 reg 1 r0 1 reg 1 r1 0\n")
    (plainly 512 true ∷ prints 512 [] (codes "fences 0\n") ∷ [])
    ∷ []

abbrev pub examples : List Example
examples = readings ++ (runs ++ solutions)

-- every row of the table holds
abbrev pub ExamplesHold : Type 0
ExamplesHold = AllByRecursion RowHolds examples
