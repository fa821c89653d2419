-- The set that a search answers, told by its mask: what is found, or else what is found next. Nothing is assumed.
--   placement s   the set of places with the mask s
use Rattle.std.proofs.Common.{◌≡◌, ℕ, true, false, true≢false, Option, None, Some, is_some, option_map, refl, sym, ap, ◌∙◌}
use Rattle.std.specs.Option.{option_or}
use Rattle.machines.specs.declared.placement.Placement.{Placement}

abbrev pub placement : ℕ → Placement
placement s = record { mask = s }

pub missing : (r : Option Placement) (o : Option ℕ) → r ≡ option_map placement o → false ≡ is_some r → o ≡ None
missing r None e none = refl
missing r (Some s) e none = absurd (true≢false (sym (none ∙ ap is_some e)))

pub taken_first : {all : Option ℕ} (o q : Option ℕ) {r : Option Placement} → all ≡ option_or o q → r ≡ option_map placement o → true ≡ is_some r → r ≡ option_map placement all
taken_first None q next e some = absurd (true≢false (some ∙ ap is_some e))
taken_first (Some s) q next e some = e ∙ sym (ap (option_map placement) next)

pub left_next : {all : Option ℕ} (o q : Option ℕ) {r n : Option Placement} → all ≡ option_or o q → r ≡ option_map placement o → false ≡ is_some r → n ≡ option_map placement q → n ≡ option_map placement all
left_next o q {r = r} next e none rest = rest ∙ ap (option_map placement) (sym (next ∙ ap (λ x. option_or x q) (missing r o e none)))
