use Rattle.std.proofs.Common.{◌<◌, ◌∷◌, length, sym, ap, ◌∙◌, arith}
use Rattle.std.proofs.lemmas.Bool.{eqb-true, eqb-false}
use Rattle.std.proofs.lemmas.List.{nil_from_length}
use Rattle.listing.specs.Words.{words}
use Rattle.listing.specs.Cuts.{next_word, after_word}
use Rattle.listing.proofs.Cuts.{cut_word}
use Rattle.listing.proofs.NextWord.{no_word, first_word, comes}
use Rattle.listing.proofs.lexer.Words.next.Goals as goal

pub returns-then-is_empty-clause-word : goal.returns-then-is_empty-clause-word
returns-then-is_empty-clause-word c =
    let bs = c.args.self.now.rest.now in
    let h = cut_word bs c.past_spaces-bytes.result.now c.word_end.result c.unwrap_or.result c.split_at.result.0.now c.split_at.result.1.now c.past_spaces-bytes.ensures.left c.word_end.ensures c.unwrap_or.ensures c.split_at.ensures.front c.split_at.ensures.back in
    sym h.0 ∙ nil_from_length c.split_at.result.0.now (eqb-true (length c.split_at.result.0.now) 0 (sym c.if-is_empty.ensures))

pub returns-then-is_empty-clause-rest : goal.returns-then-is_empty-clause-rest
returns-then-is_empty-clause-rest c =
    let bs = c.args.self.now.rest.now in
    let h = cut_word bs c.past_spaces-bytes.result.now c.word_end.result c.unwrap_or.result c.split_at.result.0.now c.split_at.result.1.now c.past_spaces-bytes.ensures.left c.word_end.ensures c.unwrap_or.ensures c.split_at.ensures.front c.split_at.ensures.back in
    h.1

pub returns-then-is_empty-clause-comes : goal.returns-then-is_empty-clause-comes
returns-then-is_empty-clause-comes c =
    let bs = c.args.self.now.rest.now in
    let h = cut_word bs c.past_spaces-bytes.result.now c.word_end.result c.unwrap_or.result c.split_at.result.0.now c.split_at.result.1.now c.past_spaces-bytes.ensures.left c.word_end.ensures c.unwrap_or.ensures c.split_at.ensures.front c.split_at.ensures.back in
    no_word bs (sym (ap length h.0) ∙ eqb-true (length c.split_at.result.0.now) 0 (sym c.if-is_empty.ensures))

pub returns-else-is_empty-clause-word : goal.returns-else-is_empty-clause-word
returns-else-is_empty-clause-word c =
    let bs = c.args.self.now.rest.now in
    let h = cut_word bs c.past_spaces-bytes.result.now c.word_end.result c.unwrap_or.result c.split_at.result.0.now c.split_at.result.1.now c.past_spaces-bytes.ensures.left c.word_end.ensures c.unwrap_or.ensures c.split_at.ensures.front c.split_at.ensures.back in
    rw (← h.0) c.token_of.ensures

pub returns-else-is_empty-clause-rest : goal.returns-else-is_empty-clause-rest
returns-else-is_empty-clause-rest c =
    let bs = c.args.self.now.rest.now in
    let h = cut_word bs c.past_spaces-bytes.result.now c.word_end.result c.unwrap_or.result c.split_at.result.0.now c.split_at.result.1.now c.past_spaces-bytes.ensures.left c.word_end.ensures c.unwrap_or.ensures c.split_at.ensures.front c.split_at.ensures.back in
    h.1

pub returns-else-is_empty-clause-comes : goal.returns-else-is_empty-clause-comes
returns-else-is_empty-clause-comes c =
    let bs = c.args.self.now.rest.now in
    let h = cut_word bs c.past_spaces-bytes.result.now c.word_end.result c.unwrap_or.result c.split_at.result.0.now c.split_at.result.1.now c.past_spaces-bytes.ensures.left c.word_end.ensures c.unwrap_or.ensures c.split_at.ensures.front c.split_at.ensures.back in
    let some = eqb-false (length c.split_at.result.0.now) 0 (sym c.if-is_empty.ensures) in
    let longer : 0 < length (next_word bs) = omega (arith, some, ap length h.0) in
    comes c.token_of.result c.split_at.result.0.now (words bs) (words c.split_at.result.1.now) c.args.self.now.line c.token_of.ensures
    (first_word bs longer ∙ ap (λ w. w ∷ words (after_word bs)) (sym h.0) ∙ ap (λ r. c.split_at.result.0.now ∷ words r) (sym h.1))
