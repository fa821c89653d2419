use Rattle.std.proofs.Common.{arith, ltb-false, ltb-true}
use Rattle.listing.proofs.FormRows.{no_row}
use Rattle.listing.proofs.lines.mnemonic_named.Goals as goal
use Rattle.listing.proofs.lines.mnemonic_named.Goals.{in_default-via-then-word-lt3, in_default-via-else-word-lt3+then-word-lt4+in-115+in-101+in_default-1, in_default-via-else-word-lt3+then-word-lt4+in-115+in_default-1, in_default-via-else-word-lt3+then-word-lt4+in-97+in-100+in_default-1, in_default-via-else-word-lt3+then-word-lt4+in-97+in_default-1, in_default-via-else-word-lt3+then-word-lt4+in-99+in-97+in_default-1, in_default-via-else-word-lt3+then-word-lt4+in-99+in_default-1, in_default-via-else-word-lt3+then-word-lt4+in-106+in-101+in_default-1, in_default-via-else-word-lt3+then-word-lt4+in-106+in-110+in_default-1, in_default-via-else-word-lt3+then-word-lt4+in-106+in_default-1, in_default-via-else-word-lt3+then-word-lt4+in_default-1, in_default-via-else-word-lt3+else-word-lt4+then-word-lt5+in-108+in-111+in-97+in_default-1, in_default-via-else-word-lt3+else-word-lt4+then-word-lt5+in-108+in-111+in_default-1, in_default-via-else-word-lt3+else-word-lt4+then-word-lt5+in-108+in_default-1, in_default-via-else-word-lt3+else-word-lt4+then-word-lt5+in-106+in-117+in-109+in_default-1, in_default-via-else-word-lt3+else-word-lt4+then-word-lt5+in-106+in-117+in_default-1, in_default-via-else-word-lt3+else-word-lt4+then-word-lt5+in-106+in_default-1, in_default-via-else-word-lt3+else-word-lt4+then-word-lt5+in_default-1, in_default-via-else-word-lt3+else-word-lt4+else-word-lt5+then-word-lt6+in-115+in-116+in-111+in-114+in_default-1, in_default-via-else-word-lt3+else-word-lt4+else-word-lt5+then-word-lt6+in-115+in-116+in-111+in_default-1, in_default-via-else-word-lt3+else-word-lt4+else-word-lt5+then-word-lt6+in-115+in-116+in_default-1, in_default-via-else-word-lt3+else-word-lt4+else-word-lt5+then-word-lt6+in-115+in_default-1, in_default-via-else-word-lt3+else-word-lt4+else-word-lt5+then-word-lt6+in-102+in-101+in-110+in-99+in_default-1, in_default-via-else-word-lt3+else-word-lt4+else-word-lt5+then-word-lt6+in-102+in-101+in-110+in_default-1, in_default-via-else-word-lt3+else-word-lt4+else-word-lt5+then-word-lt6+in-102+in-101+in_default-1, in_default-via-else-word-lt3+else-word-lt4+else-word-lt5+then-word-lt6+in-102+in_default-1, in_default-via-else-word-lt3+else-word-lt4+else-word-lt5+then-word-lt6+in_default-1, in_default-via-else-word-lt3+else-word-lt4+else-word-lt5+else-word-lt6}

pub returns-in_default : goal.returns-in_default
returns-in_default c = (
  c.at.ensures,
  λ ws. no_row c.args.word.now ws
      (elim c.in_default.branch [
        | in_default-via-then-word-lt3 w ↦ omega (arith, ltb-true, ltb-false)
        | in_default-via-else-word-lt3+then-word-lt4+in-115+in-101+in_default-1 w ↦ omega (arith, ltb-true, ltb-false)
        | in_default-via-else-word-lt3+then-word-lt4+in-115+in_default-1 w ↦ omega (arith, ltb-true, ltb-false)
        | in_default-via-else-word-lt3+then-word-lt4+in-97+in-100+in_default-1 w ↦ omega (arith, ltb-true, ltb-false)
        | in_default-via-else-word-lt3+then-word-lt4+in-97+in_default-1 w ↦ omega (arith, ltb-true, ltb-false)
        | in_default-via-else-word-lt3+then-word-lt4+in-99+in-97+in_default-1 w ↦ omega (arith, ltb-true, ltb-false)
        | in_default-via-else-word-lt3+then-word-lt4+in-99+in_default-1 w ↦ omega (arith, ltb-true, ltb-false)
        | in_default-via-else-word-lt3+then-word-lt4+in-106+in-101+in_default-1 w ↦ omega (arith, ltb-true, ltb-false)
        | in_default-via-else-word-lt3+then-word-lt4+in-106+in-110+in_default-1 w ↦ omega (arith, ltb-true, ltb-false)
        | in_default-via-else-word-lt3+then-word-lt4+in-106+in_default-1 w ↦ omega (arith, ltb-true, ltb-false)
        | in_default-via-else-word-lt3+then-word-lt4+in_default-1 w ↦ omega (arith, ltb-true, ltb-false)
        | in_default-via-else-word-lt3+else-word-lt4+then-word-lt5+in-108+in-111+in-97+in_default-1 w ↦ omega (arith, ltb-true, ltb-false)
        | in_default-via-else-word-lt3+else-word-lt4+then-word-lt5+in-108+in-111+in_default-1 w ↦ omega (arith, ltb-true, ltb-false)
        | in_default-via-else-word-lt3+else-word-lt4+then-word-lt5+in-108+in_default-1 w ↦ omega (arith, ltb-true, ltb-false)
        | in_default-via-else-word-lt3+else-word-lt4+then-word-lt5+in-106+in-117+in-109+in_default-1 w ↦ omega (arith, ltb-true, ltb-false)
        | in_default-via-else-word-lt3+else-word-lt4+then-word-lt5+in-106+in-117+in_default-1 w ↦ omega (arith, ltb-true, ltb-false)
        | in_default-via-else-word-lt3+else-word-lt4+then-word-lt5+in-106+in_default-1 w ↦ omega (arith, ltb-true, ltb-false)
        | in_default-via-else-word-lt3+else-word-lt4+then-word-lt5+in_default-1 w ↦ omega (arith, ltb-true, ltb-false)
        | in_default-via-else-word-lt3+else-word-lt4+else-word-lt5+then-word-lt6+in-115+in-116+in-111+in-114+in_default-1 w ↦ omega (arith, ltb-true, ltb-false)
        | in_default-via-else-word-lt3+else-word-lt4+else-word-lt5+then-word-lt6+in-115+in-116+in-111+in_default-1 w ↦ omega (arith, ltb-true, ltb-false)
        | in_default-via-else-word-lt3+else-word-lt4+else-word-lt5+then-word-lt6+in-115+in-116+in_default-1 w ↦ omega (arith, ltb-true, ltb-false)
        | in_default-via-else-word-lt3+else-word-lt4+else-word-lt5+then-word-lt6+in-115+in_default-1 w ↦ omega (arith, ltb-true, ltb-false)
        | in_default-via-else-word-lt3+else-word-lt4+else-word-lt5+then-word-lt6+in-102+in-101+in-110+in-99+in_default-1 w ↦ omega (arith, ltb-true, ltb-false)
        | in_default-via-else-word-lt3+else-word-lt4+else-word-lt5+then-word-lt6+in-102+in-101+in-110+in_default-1 w ↦ omega (arith, ltb-true, ltb-false)
        | in_default-via-else-word-lt3+else-word-lt4+else-word-lt5+then-word-lt6+in-102+in-101+in_default-1 w ↦ omega (arith, ltb-true, ltb-false)
        | in_default-via-else-word-lt3+else-word-lt4+else-word-lt5+then-word-lt6+in-102+in_default-1 w ↦ omega (arith, ltb-true, ltb-false)
        | in_default-via-else-word-lt3+else-word-lt4+else-word-lt5+then-word-lt6+in_default-1 w ↦ omega (arith, ltb-true, ltb-false)
        | in_default-via-else-word-lt3+else-word-lt4+else-word-lt5+else-word-lt6 w ↦ omega (arith, ltb-true, ltb-false)
      ]),
)
