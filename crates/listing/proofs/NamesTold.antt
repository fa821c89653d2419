-- Names are written by their letters and digits. Assumes nothing.
use Rattle.std.proofs.Common.{◌≡◌, [], ◌∷◌, ◌++◌, codes, refl}
use Rattle.std.specs.List.{slice_index}
use Rattle.listing.specs.declared.code.Register.{Register}
use Rattle.listing.specs.declared.code.Register.TheVariants as registers
use Rattle.listing.specs.declared.code.Variable.{Variable}
use Rattle.listing.specs.declared.code.Variable.TheVariants as variables
use Rattle.listing.specs.Alphabet.{letters, digits}
use Rattle.listing.specs.Code.{index, slot}
use Rattle.listing.specs.LineLaws.{NamesTold}
use Rattle.listing.specs.Names.{variable_word, register_word}

variable_told : (v : Variable) → variable_word v ≡ slice_index letters (index v) ∷ []
variable_told variables.A = refl
variable_told variables.B = refl
variable_told variables.C = refl
variable_told variables.D = refl
variable_told variables.E = refl
variable_told variables.F = refl
variable_told variables.G = refl
variable_told variables.H = refl

register_told : (r : Register) → register_word r ≡ codes "r" ++ slice_index digits (slot r) ∷ []
register_told registers.R0 = refl
register_told registers.R1 = refl
register_told registers.R2 = refl
register_told registers.R3 = refl

pub names_told : NamesTold
names_told = record { variable = variable_told; register = register_told }
