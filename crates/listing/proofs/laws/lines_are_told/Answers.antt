use Rattle.listing.proofs.AlphabetTold.{byte_told}
use Rattle.listing.proofs.FormTold.{form_told}
use Rattle.listing.proofs.LinesTold.{lines_told}
use Rattle.listing.proofs.NamesTold.{names_told}
use Rattle.listing.proofs.OrderTold.{order_told}
use Rattle.listing.proofs.WordsTold.{words_told}
use Rattle.listing.proofs.laws.lines_are_told.Goals as goal

pub returns : goal.returns
returns c = record { lines = lines_told; bytes = byte_told; names = names_told; words = words_told; forms = form_told; order = order_told }
