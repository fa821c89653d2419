use Rattle.std.proofs.Common.{refl, ap}
use Rattle.listing.specs.Taking.{left, mnemonic_word}
use Rattle.listing.proofs.FormRows.{fence_row}
use Rattle.listing.proofs.lexer.Words.operands.Goals as goal

pub returns-in-Fence : goal.returns-in-Fence
returns-in-Fence c = (refl, fence_row (mnemonic_word c.args.mnemonic) (left c.args.self.now) (ap mnemonic_word c.in-Fence.is))
