use Rattle.std.proofs.Common.{refl, sym, ◌∙◌}
use Rattle.listing.proofs.Cuts.{none_unpermitted, some_unpermitted}
use Rattle.listing.proofs.lexer.words_of.Goals as goal

pub returns-in_default-clause-content : goal.returns-in_default-clause-content
returns-in_default-clause-content c = (refl, none_unpermitted c.args.bytes.now (sym c.first_unpermitted.ensures ∙ c.in_default.is))

pub returns-then-is_comment-clause-content : goal.returns-then-is_comment-clause-content
returns-then-is_comment-clause-content c =
    let told = some_unpermitted c.args.bytes.now c.in-Some.end 0 (sym c.first_unpermitted.ensures ∙ c.in-Some.is) in
    (refl, told.1.0 (sym c.is_comment.ensures ∙ c.if-is_comment.true))

pub returns-else-is_comment-clause-content : goal.returns-else-is_comment-clause-content
returns-else-is_comment-clause-content c =
    let told = some_unpermitted c.args.bytes.now c.in-Some.end 0 (sym c.first_unpermitted.ensures ∙ c.in-Some.is) in
    (rw c.at.ensures (refl, refl), told.1.1 (sym c.is_comment.ensures ∙ c.if-is_comment.false))
