-- What a reading promises of the text's length and of the reasons for which it is refused. Assumes nothing.
use Rattle.std.proofs.Common.{◌≡◌, ℕ, ◌<◌, ◌≤◌, true, List, length, Ok, Err, Result, refl, arith, MatchResult}
use Rattle.std.specs.Result.{IfErr}
use Rattle.listing.specs.declared.program.Program.{Program}
use Rattle.listing.specs.declared.refusal.Reason.{Reason}
use Rattle.listing.specs.declared.refusal.Reason.TheVariants.{TextTooLong, ByteNotPermitted, NoForm, NumberOutOfRange, TooMany, Missing, TargetMissing}
use Rattle.listing.specs.declared.refusal.Refusal.{Refusal}
use Rattle.listing.specs.Code.{code_of}
use Rattle.listing.specs.Laws.{Exactly, FirstWrong, FirstBroken, Wrong}
use Rattle.listing.specs.Laws.Wrong.{too_long, broken_line, empty_thread, lacking, astray}
use Rattle.listing.specs.Lines.{Refused, of_reading}
use Rattle.listing.specs.Reading.{Progress, told}

broken : (why : Reason) (p : Progress) (bs : List ℕ) → FirstBroken why p bs → of_reading why ≡ true
broken TextTooLong p bs h = refl
broken ByteNotPermitted p bs h = refl
broken NoForm p bs h = refl
broken NumberOutOfRange p bs h = refl
broken TooMany p bs h = refl
broken Missing p bs h = refl
broken TargetMissing p bs h = refl
broken _ p bs h = absurd h

wrong_reason : (t : List ℕ) (e : Refusal) → Wrong t e → of_reading e.reason ≡ true
wrong_reason t e (too_long far) = refl
wrong_reason t e (broken_line short before after bs p why is fine first) = broken why p bs first
wrong_reason t e (empty_thread short p n fine first) = refl
wrong_reason t e (lacking short p fine used none) = refl
wrong_reason t e (astray short p n fine used both first) = refl

wrong_length : (t : List ℕ) (e : Refusal) → Wrong t e → 4096 < length t → Refused TextTooLong 0 e
wrong_length t e (too_long far) h = (refl, refl)
wrong_length t e (broken_line short before after bs p why is fine first) h = absurd (omega arith)
wrong_length t e (empty_thread short p n fine first) h = absurd (omega arith)
wrong_length t e (lacking short p fine used none) h = absurd (omega arith)
wrong_length t e (astray short p n fine used both first) h = absurd (omega arith)

pub length_promised : (t : List ℕ) (r : Result Program Refusal) → Exactly t (told code_of r) → FirstWrong t (told code_of r)
    → MatchResult r (λ _. length t ≤ 4096) (λ e. 4096 < length t → Refused TextTooLong 0 e)
length_promised t (Ok p) x w = (x.only (code_of p) refl).0
length_promised t (Err e) x w = wrong_length t e (w.only e refl)

pub reason_promised : (t : List ℕ) (r : Result Program Refusal) → FirstWrong t (told code_of r) → IfErr r (λ e. of_reading e.reason ≡ true)
reason_promised t (Ok p) w = tt
reason_promised t (Err e) w = wrong_reason t e (w.only e refl)
