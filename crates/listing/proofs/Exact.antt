-- A text reads as a program exactly when it spells it, and each program within the limits is read from some text. Assumes nothing.
use Rattle.std.proofs.Common.{◌≡◌, ℕ, ◌≤◌, leb, List, length, Ok, Err, Result, sym, refl, ap, ◌∙◌}
use Rattle.std.proofs.lemmas.Bool.{leb-true, le-leb, cond-true}
use Rattle.listing.specs.declared.refusal.Refusal.{Refusal}
use Rattle.listing.specs.Code.{Code, code_of}
use Rattle.listing.specs.Laws.{Exactly, InReach, ProgramsInReach}
use Rattle.listing.specs.Reading.{Progress, nothing, read_lines, finished, after_lines, reading}
use Rattle.listing.specs.Spelling.{Spells}
use Rattle.listing.specs.Words.{lines}
use Rattle.listing.proofs.ByWords.{read_by_words, read_permitted}
use Rattle.listing.proofs.Laid.{laid_words, laid_permitted, words_laid}
use Rattle.listing.proofs.PlainText.{plain_bytes, plain_text, plain_spells, plain_short}
use Rattle.listing.proofs.Results.{passed}
use Rattle.listing.proofs.SpelledWords.{spelled_words}
use Rattle.listing.proofs.WordLines.{word_lines, with_words}
use Rattle.listing.proofs.WordsSpell.{words_spell}

record Passed (t : List ℕ) (c : Code) : Type 0 where
  progress : Progress
  lines_pass : read_lines nothing 1 (lines t) ≡ Ok progress
  end_passes : finished progress ≡ Ok c

passed_from : (t : List ℕ) (c : Code) (r : Result Progress Refusal) → read_lines nothing 1 (lines t) ≡ r → after_lines r ≡ Ok c → Passed t c
passed_from t c (Ok p) e h = record { progress = p; lines_pass = e; end_passes = h }
passed_from t c (Err x) e h = cc

pub read_spells : (t : List ℕ) (c : Code) → reading t ≡ Ok c → (length t ≤ 4096) × Spells t c
unfolding reading
read_spells t c h =
    let s = passed (leb (length t) 4096) (after_lines (read_lines nothing 1 (lines t))) _ c h in
    let p = passed_from t c _ refl s.1 in
    let permitted = read_permitted (lines t) nothing p.progress 1 p.lines_pass in
    let by-words = sym (read_by_words (lines t) nothing 1 permitted) ∙ p.lines_pass in
    let spelled = words_spell (word_lines t) p.progress c by-words p.end_passes in
    (leb-true (length t) 4096 s.0, record { written = with_words (word_lines t); laid = words_laid t permitted; spelled = spelled.0; limits = spelled.1 })

pub spells_read : (t : List ℕ) (c : Code) → length t ≤ 4096 → Spells t c → reading t ≡ Ok c
unfolding reading
spells_read t c few s =
    let are = laid_words s.laid in
    let found = spelled_words (word_lines t) c s.limits (rw are s.spelled) in
    let by-words = read_by_words (lines t) nothing 1 (laid_permitted s.laid) ∙ found.1 in
    cond-true (leb (length t) 4096) _ _ (le-leb (length t) 4096 few) ∙ ap after_lines by-words ∙ found.2

pub exactly : (t : List ℕ) → Exactly t (reading t)
exactly t = record { only = read_spells t; every = spells_read t }

pub in_reach : InReach
in_reach c limits = (plain_text c, (plain_bytes c limits, spells_read (plain_text c) c (plain_short c limits) (plain_spells c limits)))

pub programs_in_reach : ProgramsInReach
programs_in_reach p = in_reach (code_of p) p.ok
