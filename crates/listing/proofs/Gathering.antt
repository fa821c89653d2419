-- The conditions of a fault line, gathered one by one. Assumes nothing.
use Rattle.std.proofs.Common.{◌≡◌, ℕ, ◌+◌, ◌<◌, ◌≤◌, min, Bool, true, false, cond, leb, List, [], ◌∷◌, ◌++◌, length, take, Some, None, Ok, Err, codes, Option, sym, refl, ap, ◌∙◌, subst, arith}
use Rattle.std.proofs.lemmas.List.{append-nil, append_assoc, length_push, length-take, take_all, take-append-le, nil_from_length}
use Rattle.std.proofs.lemmas.Bool.{le-leb, lt-leb, cond-true, cond-false}
use Rattle.std.specs.Option.{option_or}
use Rattle.listing.specs.declared.code.Condition.{Condition}
use Rattle.listing.specs.declared.code.Condition.TheVariants as condition
use Rattle.listing.specs.declared.lexer.Words.{Words}
use Rattle.listing.specs.Written.{WrittenCondition}
use Rattle.listing.specs.declared.refusal.Reason.{Reason}
use Rattle.listing.specs.declared.refusal.Reason.TheVariants.{NumberOutOfRange, TooMany}
use Rattle.listing.specs.Forms.{Says, no_form, out_of_range, means, apply, register, target, thread, value, variable, rest, two, three, more, conditions, all_conditions, fault}
use Rattle.listing.specs.Names.{same_word}
use Rattle.listing.specs.Reading.{refusal}
use Rattle.listing.specs.Taking.{TookCondition, condition_read, fitted, left, said}

-- what is said with conditions before it, one of which may be out of range
abbrev prefixed : Bool → List (Condition ℕ) → Says (List (Condition ℕ)) → Says (List (Condition ℕ))
prefixed ranged cs s = apply (apply (means ◌++◌) (cond ranged (means cs) out_of_range)) s

prefixed_none : (s : Says (List (Condition ℕ))) → s ≡ prefixed true [] s
prefixed_none no_form = refl
prefixed_none out_of_range = refl
prefixed_none (means xs) = refl

prefixed_more : (ranged : Bool) (cs : List (Condition ℕ)) (c : Condition ℕ) (s : Says (List (Condition ℕ))) → prefixed ranged cs (more (means c) s) ≡ prefixed ranged (cs ++ c ∷ []) s
prefixed_more true cs c no_form = refl
prefixed_more true cs c out_of_range = refl
prefixed_more true cs c (means xs) = ap means (sym (append_assoc cs (c ∷ []) xs))
prefixed_more false cs c no_form = refl
prefixed_more false cs c out_of_range = refl
prefixed_more false cs c (means xs) = refl

prefixed_out : (ranged : Bool) (cs : List (Condition ℕ)) (s : Says (List (Condition ℕ))) → prefixed ranged cs (more out_of_range s) ≡ prefixed false cs s
prefixed_out true cs no_form = refl
prefixed_out true cs out_of_range = refl
prefixed_out true cs (means xs) = refl
prefixed_out false cs no_form = refl
prefixed_out false cs out_of_range = refl
prefixed_out false cs (means xs) = refl

-- a condition is one more than none
more_some : (x : Says (Condition ℕ)) (xs : Says (List (Condition ℕ))) → more x xs ≡ means [] → ⊥
more_some no_form xs h = cc
more_some out_of_range no_form h = cc
more_some out_of_range out_of_range h = cc
more_some out_of_range (means xs) h = cc
more_some (means x) no_form h = cc
more_some (means x) out_of_range h = cc
more_some (means x) (means xs) h = cc

one_of : (a b c : Bool) (x y z : Says (List (Condition ℕ))) → (x ≡ means [] → ⊥) → (y ≡ means [] → ⊥) → (z ≡ means [] → ⊥) → cond a x (cond b y (cond c z no_form)) ≡ means [] → ⊥
one_of true b c x y z no-x no-y no-z h = no-x h
one_of false true c x y z no-x no-y no-z h = no-y h
one_of false false true x y z no-x no-y no-z h = no-z h
one_of false false false x y z no-x no-y no-z h = cc

none_said : (ws : List (List ℕ)) → all_conditions ws ≡ means [] → ws ≡ []
unfolding conditions
none_said [] h = refl
none_said (k ∷ ws) h =
    let n = length ws in
    absurd (one_of (same_word (codes "at") k) (same_word (codes "reg") k) (same_word (codes "mem") k) _ _ _
    (more_some (two condition.At thread target ws) (conditions n (rest (rest ws))))
    (more_some (three condition.Holds thread register value ws) (conditions n (rest (rest (rest ws)))))
    (more_some (two condition.Memory variable value ws) (conditions n (rest (rest ws)))) h)

-- a fault line says what its conditions say, unless it has none
fault_is : (ws : List (List ℕ)) (s : Says (List (Condition ℕ))) → (s ≡ means [] → ⊥) → all_conditions ws ≡ s → fault ws ≡ s
unfolding conditions
fault_is [] s some h = absurd (some (sym h))
fault_is (w ∷ ws) s some h = h

fault_none : (ws : List (List ℕ)) → all_conditions ws ≡ means [] → fault ws ≡ no_form
fault_none ws h = ap fault (none_said ws h)

-- a condition before words that are no conditions
more_formless : (x : Says (Condition ℕ)) → more x no_form ≡ no_form
more_formless no_form = refl
more_formless out_of_range = refl
more_formless (means x) = refl

pub formless_before : (w v : Words) (c : WrittenCondition) → TookCondition w v (Ok (Some c)) → all_conditions (left v) ≡ no_form → all_conditions (left w) ≡ no_form
formless_before w v c took none = took.1.1 ∙ ap (more (said (condition_read c))) none ∙ more_formless (said (condition_read c))

pub formless_fault : (ws : List (List ℕ)) → all_conditions ws ≡ no_form → fault ws ≡ no_form
formless_fault ws none = fault_is ws no_form (λ e. cc) none

-- what is wrong with the conditions so far, whether all are in range, and how many there are
pub data Found : Option Reason → Bool → ℕ → Type 0 where
  nothing_wrong : {n : ℕ} → n ≤ 6 → Found None true n
  crowded : {n : ℕ} → 6 < n → Found (Some TooMany) true n
  unranged : {n : ℕ} → Found (Some NumberOutOfRange) false n

-- what has been gathered from the words ws while vs are left: the first six conditions, and what is wrong with them
pub record Gathering (ws vs : List (List ℕ)) (line : List (Condition ℕ)) (wrong : Option Reason) : Type 0 where
  pub so_far : List (Condition ℕ)
  pub ranged : Bool
  pub whole : all_conditions ws ≡ prefixed ranged so_far (all_conditions vs)
  pub held : line ≡ take 6 so_far
  pub found : Found wrong ranged (length so_far)

-- one condition more is kept, or is one too many
found_kept : (wrong : Option Reason) (ranged : Bool) (n m : ℕ) → n < 6 → m ≡ n + 1 → Found wrong ranged n → Found wrong ranged m
found_kept wrong ranged n m few e (nothing_wrong h) = nothing_wrong (omega arith)
found_kept wrong ranged n m few e (crowded h) = absurd (omega arith)
found_kept wrong ranged n m few e unranged = unranged

found_past : (wrong : Option Reason) (ranged : Bool) (n m : ℕ) → 6 ≤ n → m ≡ n + 1 → Found wrong ranged n → Found (option_or wrong (Some TooMany)) ranged m
found_past wrong ranged n m many e (nothing_wrong h) = crowded (omega arith)
found_past wrong ranged n m many e (crowded h) = crowded (omega arith)
found_past wrong ranged n m many e unranged = unranged

taken_length : (ws vs : List (List ℕ)) (line : List (Condition ℕ)) (wrong : Option Reason) (g : Gathering ws vs line wrong) → length line ≡ min 6 (length g.so_far)
taken_length ws vs line wrong g = ap length g.held ∙ length-take 6 g.so_far

module _ (ws vs us : List (List ℕ)) (line : List (Condition ℕ)) (wrong : Option Reason) (g : Gathering ws vs line wrong) where
  pub gather_kept : (c : Condition ℕ) (longer : List (Condition ℕ)) → all_conditions vs ≡ more (means c) (all_conditions us) → length line < 6 → longer ≡ line ++ c ∷ [] → Gathering ws us longer wrong
  gather_kept c longer says few is =
      let short : length g.so_far < 6 = omega (arith, taken_length ws vs line wrong g) in
      let pushed = length_push g.so_far c in
      record {
        so_far = g.so_far ++ c ∷ [];
        ranged = g.ranged;
        whole = g.whole ∙ ap (prefixed g.ranged g.so_far) says ∙ prefixed_more g.ranged g.so_far c (all_conditions us);
        held =
            is ∙ ap (λ cs. cs ++ c ∷ []) (g.held ∙ take_all 6 g.so_far (omega arith))
            ∙ sym (take_all 6 (g.so_far ++ c ∷ []) (omega (arith, pushed)));
        found = found_kept wrong g.ranged (length g.so_far) (length (g.so_far ++ c ∷ [])) short pushed g.found;
      }

  pub gather_past : (c : Condition ℕ) → all_conditions vs ≡ more (means c) (all_conditions us) → 6 ≤ length line → Gathering ws us line (option_or wrong (Some TooMany))
  gather_past c says full =
      let long : 6 ≤ length g.so_far = omega (arith, taken_length ws vs line wrong g) in
      record {
        so_far = g.so_far ++ c ∷ [];
        ranged = g.ranged;
        whole = g.whole ∙ ap (prefixed g.ranged g.so_far) says ∙ prefixed_more g.ranged g.so_far c (all_conditions us);
        held = g.held ∙ sym (take-append-le 6 g.so_far (c ∷ []) long);
        found = found_past wrong g.ranged (length g.so_far) (length (g.so_far ++ c ∷ [])) long (length_push g.so_far c) g.found;
      }

  pub gather_out : all_conditions vs ≡ more out_of_range (all_conditions us) → Gathering ws us line (Some NumberOutOfRange)
  gather_out says =
      record {
        so_far = g.so_far;
        ranged = false;
        whole = g.whole ∙ ap (prefixed g.ranged g.so_far) says ∙ prefixed_out g.ranged g.so_far (all_conditions us);
        held = g.held;
        found = unranged;
      }

pub gather_start : (ws : List (List ℕ)) (line : List (Condition ℕ)) → line ≡ [] → Gathering ws ws line None
gather_start ws line none = record { so_far = []; ranged = true; whole = prefixed_none (all_conditions ws); held = none; found = nothing_wrong (omega arith) }

pub gather_ended : (ws : List (List ℕ)) (w v : Words) (o : Option WrittenCondition) (line : List (Condition ℕ)) (wrong : Option Reason) → TookCondition w v (Ok o) → o ≡ None → Gathering ws (left w) line wrong → Gathering ws [] line wrong
gather_ended ws w v o line wrong took none g =
    subst (λ vs. Gathering ws vs line wrong) (subst (λ x. TookCondition w v (Ok x)) none took).1 g

-- nothing is left
module _ (ws : List (List ℕ)) (line : List (Condition ℕ)) where
  at_end : (wrong : Option Reason) (g : Gathering ws [] line wrong) → all_conditions ws ≡ cond g.ranged (means g.so_far) out_of_range
  unfolding conditions
  at_end wrong g = g.whole ∙ ended g.ranged
    where
      ended : (b : Bool) → prefixed b g.so_far (means []) ≡ cond b (means g.so_far) out_of_range
      ended true = ap means (append-nil g.so_far)
      ended false = refl

  some_end : (wrong : Option Reason) (g : Gathering ws [] line wrong) → g.ranged ≡ true → 0 < length g.so_far → fault ws ≡ means g.so_far
  some_end wrong g fit filled =
      fault_is ws (means g.so_far) (λ e. not_empty g.so_far filled e) (at_end wrong g ∙ ap (λ b. cond b (means g.so_far) out_of_range) fit)
    where
      not_empty : (cs : List (Condition ℕ)) → 0 < length cs → means cs ≡ means [] → ⊥
      not_empty [] h e = omega arith
      not_empty (c ∷ cs) h e = cc

  pub wrong_end : (n : ℕ) (why : Reason) → Gathering ws [] line (Some why) → fitted n (fault ws) ≡ Err (refusal why n)
  wrong_end n why g = by g.ranged (Some why) (length g.so_far) refl refl refl g.found
    where
      by : (b : Bool) (o : Option Reason) (m : ℕ) → b ≡ g.ranged → o ≡ Some why → m ≡ length g.so_far → Found o b m → fitted n (fault ws) ≡ Err (refusal why n)
      by b o m e f k (nothing_wrong h) = cc
      by b o m e f k (crowded h) =
          let is : why ≡ TooMany = cc in
          rw is (ap (fitted n) (some_end (Some why) g (sym e) (omega arith)) ∙ cond-false (leb (length g.so_far) 6) _ _ (lt-leb (length g.so_far) 6 (omega arith)))
      by b o m e f k unranged =
          let is : why ≡ NumberOutOfRange = cc in
          rw is (ap (fitted n) (fault_is ws out_of_range (λ z. cc) (at_end (Some why) g ∙ ap (λ b. cond b (means g.so_far) out_of_range) (sym e))))

  fine : (o : Option Reason) (b : Bool) (m : ℕ) → o ≡ None → Found o b m → (b ≡ true) × (m ≤ 6)
  fine o b m e (nothing_wrong h) = (refl, h)
  fine o b m e (crowded h) = cc
  fine o b m e unranged = cc

  pub none_end : Gathering ws [] line None → length line ≡ 0 → fault ws ≡ no_form
  none_end g none =
      let fit = fine None g.ranged (length g.so_far) refl g.found in
      let empty : length g.so_far ≡ 0 = omega (arith, taken_length ws [] line None g) in
      fault_none ws (at_end None g ∙ ap (λ b. cond b (means g.so_far) out_of_range) fit.0 ∙ ap means (nil_from_length g.so_far empty))

  pub granted_end : (n : ℕ) → Gathering ws [] line None → 0 < length line → fitted n (fault ws) ≡ Ok line
  granted_end n g some =
      let fit = fine None g.ranged (length g.so_far) refl g.found in
      let filled : 0 < length g.so_far = omega (arith, taken_length ws [] line None g) in
      ap (fitted n) (some_end None g fit.0 filled) ∙ cond-true (leb (length g.so_far) 6) _ _ (le-leb (length g.so_far) 6 fit.1)
      ∙ ap Ok (sym (g.held ∙ take_all 6 g.so_far fit.1))

  pub few_held : Gathering ws [] line None → length line ≤ 6
  few_held g = omega (arith, taken_length ws [] line None g)
