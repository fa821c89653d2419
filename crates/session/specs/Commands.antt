-- The words of the commands.
use Rattle.std.specs.Prelude.{◌≡◌, ◌≢◌, ℕ, ◌<◌, None, List, [], ◌∷◌, length, Some, codes, map}
use Rattle.std.specs.List.{flat_map}
use Rattle.session.specs.declared.command.Command.{Command}
use Rattle.session.specs.declared.command.Command.TheVariants.{Nothing, Board, Rows, Runs, Read, Listing, Bar, Free, Solve, Report, Test, Show, Plain, Look, Help, Quit}
use Rattle.session.specs.declared.command.Kinds.TheVariants.{Buffered, Unbuffered}
use Rattle.session.specs.declared.command.Spot.{Spot}
use Rattle.session.specs.Words.{number_of}

-- a word, and a number up to 65,536
pub record Counts (word : List ℕ) (n : ℕ) (ws : List (List ℕ)) : Type 0 where
  pub digits : List ℕ
  pub words : ws ≡ word ∷ digits ∷ []
  pub number : number_of 65536 digits ≡ Some n

-- the numbers of a thread and of an instruction in it
pub record Names (s : Spot) (t i : List ℕ) : Type 0 where
  pub thread : number_of 255 t ≡ Some s.thread
  pub number : number_of 255 i ≡ Some s.number

-- a word, and an instruction
pub record Places (word : List ℕ) (s : Spot) (ws : List (List ℕ)) : Type 0 where
  pub thread : List ℕ
  pub number : List ℕ
  pub words : ws ≡ word ∷ thread ∷ number ∷ []
  pub names : Names s thread number

-- the two numbers of an instruction
abbrev pub numbers_in : Spot → List ℕ
numbers_in s = s.thread ∷ s.number ∷ []

-- a word, and instructions in pairs of numbers
pub record Lists (word : List ℕ) (spots : List Spot) (ws : List (List ℕ)) : Type 0 where
  pub rest : List (List ℕ)
  pub words : ws ≡ word ∷ rest
  pub numbers : map (number_of 255) rest ≡ map (λ n. Some n) (flat_map numbers_in spots)

-- a word, and others after it
pub record Follows (word : List ℕ) (ws : List (List ℕ)) : Type 0 where
  pub rest : List (List ℕ)
  pub words : ws ≡ word ∷ rest
  pub some : 0 < length rest

-- the words of a line spell the command
abbrev pub Spells : Command → List (List ℕ) → Type 0
Spells Nothing ws = ws ≡ []
Spells (Board Buffered) ws = ws ≡ codes "board" ∷ codes "tso" ∷ []
Spells (Board Unbuffered) ws = ws ≡ codes "board" ∷ codes "none" ∷ []
Spells (Rows n) ws = Counts (codes "rows") n ws
Spells (Runs n) ws = Counts (codes "runs") n ws
Spells (Read path) ws = Follows (codes "read") ws
Spells Listing ws = ws ≡ codes "listing" ∷ []
Spells (Bar s) ws = Places (codes "bar") s ws
Spells (Free s) ws = Places (codes "free") s ws
Spells Solve ws = ws ≡ codes "solve" ∷ []
Spells Report ws = ws ≡ codes "report" ∷ []
Spells (Test spots) ws = Lists (codes "test") spots.items ws
Spells (Show s) ws = Places (codes "show") s ws
Spells Plain ws = ws ≡ codes "plain" ∷ []
Spells Look ws = ws ≡ codes "look" ∷ []
Spells Help ws = ws ≡ codes "help" ∷ []
Spells Quit ws = ws ≡ codes "quit" ∷ []

-- the word is none that stands alone
pub record NoBare (word : List ℕ) : Type 0 where
  pub listing : word ≢ codes "listing"
  pub solve : word ≢ codes "solve"
  pub report : word ≢ codes "report"
  pub plain : word ≢ codes "plain"
  pub look : word ≢ codes "look"
  pub help : word ≢ codes "help"
  pub quit : word ≢ codes "quit"

-- the word and the one after it are no command
pub record NoneWithOne (word operand : List ℕ) : Type 0 where
  pub tso : word ≡ codes "board" → operand ≢ codes "tso"
  pub none : word ≡ codes "board" → operand ≢ codes "none"
  pub rows : word ≡ codes "rows" → number_of 65536 operand ≡ None
  pub runs : word ≡ codes "runs" → number_of 65536 operand ≡ None

-- the two words name no instruction
abbrev pub NamesNone : List ℕ → List ℕ → Type 0
NamesNone t i = (s : Spot) → Names s t i → ⊥

-- the word and the two after it are no command
pub record NoneAtSpot (word t i : List ℕ) : Type 0 where
  pub bar : word ≡ codes "bar" → NamesNone t i
  pub free : word ≡ codes "free" → NamesNone t i
  pub show : word ≡ codes "show" → NamesNone t i

-- the words, if they are three or fewer, spell no command, but that nothing is said of `read` and of `test`
pub record SpellsNone (ws : List (List ℕ)) : Type 0 where
  pub some : ws ≢ []
  pub one : (w : List ℕ) → ws ≡ w ∷ [] → NoBare w
  pub two : (w o : List ℕ) → ws ≡ w ∷ o ∷ [] → NoneWithOne w o
  pub three : (w t i : List ℕ) → ws ≡ w ∷ t ∷ i ∷ [] → NoneAtSpot w t i
