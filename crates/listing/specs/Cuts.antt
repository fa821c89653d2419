-- What cutting a text into its lines, and a line into its words one by one, promises.
--   kind b             what a byte is: a letter, a digit, a space, a line end, a comment sign, or another
--   unpermitted b      b is neither of a word nor a space
--   onward stop bs     bs from its first byte that stops on
--   line_of text       the first line of a text
--   rest_of text       what follows its line end
--   past_spaces bs     bs from its first byte that is no space on
--   next_word bs       the first word of bs, which is empty if there is none
--   after_word bs      what follows it
--   Tells t word line  the token t is that word or number on that line
use Rattle.std.specs.Prelude.{◌≡◌, ℕ, Bool, true, false, cond, not, List, [], ◌∷◌, drop}
use Rattle.listing.specs.Limits.{all}
use Rattle.listing.specs.declared.lexer.Kind.{Kind}
use Rattle.listing.specs.declared.lexer.Kind.TheVariants.{Letter, Digit, Space, LineEnd, Comment, Other}
use Rattle.listing.specs.declared.lexer.Token.{Token}
use Rattle.listing.specs.declared.lexer.Token.TheVariants.{Word, Number}
use Rattle.listing.specs.Words.{upto, ends, parts, comments, is_letter, is_digit, permitted}

abbrev pub kind : ℕ → Kind
kind b = cond (is_letter b) Letter (cond (is_digit b) Digit (cond (parts b) Space (cond (ends b) LineEnd (cond (comments b) Comment Other))))

abbrev pub unpermitted : ℕ → Bool
unpermitted b = not (permitted b)

abbrev pub onward : (ℕ → Bool) → List ℕ → List ℕ
onward stop [] = []
onward stop (b ∷ bs) = cond (stop b) (b ∷ bs) (onward stop bs)

abbrev pub line_of : List ℕ → List ℕ
line_of text = upto ends text

abbrev pub rest_of : List ℕ → List ℕ
rest_of text = drop 1 (onward ends text)

abbrev pub past_spaces : List ℕ → List ℕ
past_spaces bs = onward (λ b. not (parts b)) bs

abbrev pub next_word : List ℕ → List ℕ
next_word bs = upto parts (past_spaces bs)

abbrev pub after_word : List ℕ → List ℕ
after_word bs = onward parts (past_spaces bs)

abbrev pub Tells : Token → List ℕ → ℕ → Type 0
Tells (Word bytes at) word line = (bytes.now ≡ word) × ((at ≡ line) × (all is_digit word ≡ false))
Tells (Number bytes at) word line = (bytes.now ≡ word) × ((at ≡ line) × (all is_digit word ≡ true))
