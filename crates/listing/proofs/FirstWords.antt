-- What the first word of a line decides. Assumes nothing.
use Rattle.std.proofs.Common.{◌≡◌, ℕ, true, false, List, Ok, Err, Result, Bor, codes, refl, ap, ◌∙◌}
use Rattle.std.proofs.lemmas.Bool.{both_ways}
use Rattle.listing.specs.declared.lexer.Token.{Token}
use Rattle.listing.specs.declared.lexer.Token.TheVariants.{Word, Number}
use Rattle.listing.specs.declared.lexer.Words.{Words}
use Rattle.listing.specs.declared.lines.Line.{Line as Form}
use Rattle.listing.specs.declared.refusal.Reason.TheVariants.{NoForm}
use Rattle.listing.specs.declared.refusal.Refusal.{Refusal}
use Rattle.listing.specs.Forms.{no_form, bound_form, thread_form, instruction_form, fault_form, instruction, form}
use Rattle.listing.specs.Limits.{all}
use Rattle.listing.specs.Names.{same_word}
use Rattle.listing.specs.Reading.{Progress, refusal, may_stand, bound_stands, thread_stands, instruction_stands, fault_stands, standing, worded}
use Rattle.listing.specs.Taking.{Comes, FormedBy, left, line_read, line_stands}
use Rattle.listing.specs.Words.{is_digit}
use Rattle.listing.proofs.Stands.{forms_not}
use Rattle.listing.proofs.Spelled.{Spells, spelled, unlike}

-- a word that has other bytes than digits is no number
digits_differ : (v w : List ℕ) → all is_digit v ≡ false → all is_digit w ≡ true → same_word v w ≡ false
digits_differ v w n h = unlike v w (λ s. both_ways (all is_digit v) n (rw (spelled v w s) at h))

pub number_no_form : (w : List ℕ) (ws : List (List ℕ)) → all is_digit w ≡ true → form w ws ≡ no_form
unfolding form instruction
number_no_form w ws h =
    let differs = λ (v : List ℕ) (n : all is_digit v ≡ false). digits_differ v w n h in
    rw (differs (codes "bound") refl, differs (codes "thread") refl, differs (codes "fault") refl, differs (codes "store") refl, differs (codes "load") refl, differs (codes "set") refl, differs (codes "add") refl, differs (codes "cas") refl, differs (codes "fence") refl, differs (codes "jump") refl, differs (codes "jeq") refl, differs (codes "jne") refl) refl

-- the form of a line, and where it may stand
module _ (w : List ℕ) (ws : List (List ℕ)) where
  pub bound_first : w ≡ codes "bound" → (form w ws ≡ bound_form ws) × ((p : Progress) → may_stand p w ≡ bound_stands p)
  unfolding may_stand form
  bound_first e = rw e (refl, λ p. refl)

  pub thread_first : w ≡ codes "thread" → (form w ws ≡ thread_form ws) × ((p : Progress) → may_stand p w ≡ thread_stands p)
  unfolding may_stand form
  thread_first e = rw e (refl, λ p. refl)

  pub fault_first : w ≡ codes "fault" → (form w ws ≡ fault_form ws) × ((p : Progress) → may_stand p w ≡ fault_stands p)
  unfolding may_stand form
  fault_first e = rw e (refl, λ p. refl)

  pub other_first : (Spells (codes "bound") w → ⊥) → (Spells (codes "thread") w → ⊥) → (Spells (codes "fault") w → ⊥) → (form w ws ≡ instruction_form w ws) × ((p : Progress) → may_stand p w ≡ instruction_stands p)
  unfolding may_stand form
  other_first b t f = rw (unlike (codes "bound") w b, unlike (codes "thread") w t, unlike (codes "fault") w f) (refl, λ p. refl)

-- what the form of a line promises, where its first word is no number
module _ (t : Token) (bytes : Bor (List ℕ)) (at : ℕ) (w : Words) (is : t ≡ Word bytes at) where
  pub formed_not : (r : Result Form Refusal) (e : Refusal) → r ≡ Err e → e ≡ refusal NoForm w.line → form bytes.now (left w) ≡ no_form → FormedBy t w r
  formed_not r e f g h = rw (is, f) (g, h)

  pub formed : (l : Form) → form bytes.now (left w) ≡ line_read l → ((p : Progress) → may_stand p bytes.now ≡ line_stands p l) → FormedBy t w (Ok l)
  formed l f g = rw is (f, g)

-- what the rules of a line say, by its form
module _ (p : Progress) (n : ℕ) (t : Token) (ws : List (List ℕ)) (w : Words) where
  pub worded_not : (e : Refusal) → Comes t ws (left w) n → w.line ≡ n → FormedBy t w (Err e) → worded p n ws ≡ Err e
  worded_not e comes on formed = by t comes formed
    where
      by : (u : Token) → Comes u ws (left w) n → FormedBy u w (Err e) → worded p n ws ≡ Err e
      by (Word bytes at) c f = rw c.0 (forms_not p n (may_stand p bytes.now) (form bytes.now (left w)) e f.1 (f.0 ∙ ap (refusal NoForm) on))
      by (Number bytes at) c f = rw c.0 (forms_not p n (may_stand p bytes.now) (form bytes.now (left w)) e (number_no_form bytes.now (left w) c.1.1) (f ∙ ap (refusal NoForm) on))

  pub worded_by : (l : Form) → Comes t ws (left w) n → w.line ≡ n → FormedBy t w (Ok l) → standing p w.line (line_stands p l) (line_read l) ≡ worded p n ws
  worded_by l comes on formed = by t comes formed
    where
      by : (u : Token) → Comes u ws (left w) n → FormedBy u w (Ok l) → standing p w.line (line_stands p l) (line_read l) ≡ worded p n ws
      by (Word bytes at) c f = rw (c.0, f.0, f.1 p, on) refl
      by (Number bytes at) c f = absurd f
