-- What is claimed of the machines of a program is true where a test of what they reach is passed. Nothing is assumed.
--   seen cs o          o is a picture of which all of cs hold
--   walk m s ns        where the steps ns lead from s
--   reach, never, ends, after    the tests
use Rattle.std.proofs.Common.{◌≡◌, ℕ, Bool, true, false, not, ◌&&◌, ◌||◌, ◌==◌, List, [], ◌∷◌, length, Contains, Some, None, Option, is_some, refl, sym, ap, ◌∙◌, subst}
use Rattle.std.specs.List.{list_all, list_any}
use Rattle.std.proofs.lemmas.Bool.{and_parts, eqb-true, not-true}
use Rattle.std.proofs.lemmas.List.Elements.{All-contains}
use Rattle.std.proofs.lemmas.List.Folds.{Any-from_list_any}
use Rattle.std.proofs.lemmas.List.Sums.{AllPass-from_list_all}
use Rattle.listing.specs.declared.code.Condition.{Condition}
use Rattle.listing.specs.declared.program.Program.{Program}
use Rattle.machines.specs.declared.picture.Picture.{Picture}
use Rattle.machines.specs.Buffered.{buffered, picture_of}
use Rattle.machines.specs.Laws.{Lawful}
use Rattle.machines.specs.Machines.{Meaning, Run, stay, go, Shows}
use Rattle.machines.specs.Pictures.{line_holds}
use Rattle.machines.specs.lawful.Machines.{buffered_is_lawful}
use Rattle.worked.specs.Claims.{Counted, Never, Ends, After}
use Rattle.worked.proofs.Ended.{Held, all_held, ended, on, on_some, then, then_some}

abbrev seen : List (Condition ℕ) → Option Picture → Bool
seen cs None = false
seen cs (Some q) = line_holds q cs

abbrev walk : {S : Type 0} → Meaning S → S → List ℕ → Option S
walk m s [] = Some s
walk m s (n ∷ ns) = then (m.step s n) (λ t. walk m t.after ns)

abbrev same : Bool → Bool → Bool
same true b = b
same false b = not b

-- where all of cs hold, so do all of ds
abbrev leads : {S : Type 0} → Meaning S → List (Condition ℕ) → List (Condition ℕ) → S → Bool
leads m cs ds s = not (seen cs (m.picture s)) || seen ds (m.picture s)

abbrev met : {S : Type 0} → Meaning S → List (Condition ℕ) → List (Condition ℕ) → ℕ × List S → Bool
met m cs ds r = list_any (λ s. seen cs (m.picture s)) r.1 && list_all (leads m cs ds) r.1

abbrev pub reach : {S : Type 0} → Meaning S → ℕ → Bool
reach m n = on (ended m) (λ r. length r.1 == n)

abbrev pub never : Program → List (Condition ℕ) → Bool
never p cs = on (ended (buffered p)) (λ r. list_all (λ s. not (line_holds (picture_of s) cs)) r.1)

abbrev pub ends : {S : Type 0} → Meaning S → List (Condition ℕ) → List (Condition ℕ) → Bool
ends m cs ds = on (ended m) (met m cs ds)

abbrev pub after : {S : Type 0} → Meaning S → List ℕ → ℕ → Bool → Bool
after m ns n b = on (walk m m.start ns) (λ s. same b (is_some (m.step s n)))

module _ {S : Type 0} {p : Program} (m : Meaning S) (l : Lawful p m) where
  pub reach_is : (n : ℕ) → reach m n ≡ true → Counted m n
  reach_is n h =
      let (r, is, long) = on_some (ended m) (λ r. length r.1 == n) h in
      let held = all_held m l r is in
      (r.1, eqb-true _ _ long, held.once, held.each)

  passes : (f : S → Bool) (ss : List S) → list_all f ss ≡ true → (s : S) → Contains ss s → f s ≡ true
  passes f ss h s c = All-contains (λ x. f x ≡ true) ss s (AllPass-from_list_all f ss h) c

  -- a picture that is seen is shown
  shown : (ss : List S) → Held m ss → (cs : List (Condition ℕ)) (s : S) (o : Option Picture)
      → Contains ss s → m.picture s ≡ o → seen cs o ≡ true → (q : Picture) × Shows m q × (line_holds q cs ≡ true)
  shown ss held cs s None c e h = absurd (let no : ⊥ = cc in no)
  shown ss held cs s (Some q) c e h = (q, record { standing = s; reached = (held.each s).1 c; seen = e }, h)

  module _ (cs ds : List (Condition ℕ)) (h : ends m cs ds ≡ true) where
    some_end : (q : Picture) × Shows m q × (line_holds q cs ≡ true)
    some_end =
        let (r, is, both) = on_some (ended m) (met m cs ds) h in
        let (i, s, within, at, here) = Any-from_list_any (λ s. seen cs (m.picture s)) r.1 (and_parts _ _ both).0 in
        shown r.1 (all_held m l r is) cs s (m.picture s) (i, within, at) refl here

    each_end : (q : Picture) → Shows m q → line_holds q cs ≡ true → line_holds q ds ≡ true
    each_end q sh holds =
        let (r, is, both) = on_some (ended m) (met m cs ds) h in
        let in_it = ((all_held m l r is).each sh.standing).0 sh.reached in
        let one = passes (leads m cs ds) r.1 (and_parts _ _ both).1 sh.standing in_it in
        let here : (not (line_holds q cs) || line_holds q ds) ≡ true = sym (ap (λ o. not (seen cs o) || seen ds o) sh.seen) ∙ one in
        sym (ap (λ b. not b || line_holds q ds) holds) ∙ here

    pub ends_is : Ends m cs ds
    ends_is = (some_end, each_end)

pub never_is : (p : Program) (cs : List (Condition ℕ)) → never p cs ≡ true → Never p cs
never_is p cs h s reached =
    let m = buffered p in
    let l = buffered_is_lawful p in
    let (r, is, all) = on_some (ended m) (λ r. list_all (λ s. not (line_holds (picture_of s) cs)) r.1) h in
    not-true _ (passes m l (λ s. not (line_holds (picture_of s) cs)) r.1 all s (((all_held m l r is).each s).0 reached))

same_is : (b c : Bool) → same b c ≡ true → c ≡ b
same_is true c h = h
same_is false c h = not-true c h

module _ {S : Type 0} (m : Meaning S) where
  walk_is : (s e : S) (ns : List ℕ) → walk m s ns ≡ Some e → Run m s ns e
  walk_is s e [] h = let is : s ≡ e = cc in subst (Run m s []) is stay
  walk_is s e (n ∷ ns) h =
      let (t, is, rest) = then_some (m.step s n) (λ t. walk m t.after ns) e h in
      go is (walk_is t.after e ns rest)

  pub after_is : (ns : List ℕ) (n : ℕ) (b : Bool) → after m ns n b ≡ true → After m ns n b
  after_is ns n b h =
      let (s, is, there) = on_some (walk m m.start ns) (λ s. same b (is_some (m.step s n))) h in
      (s, walk_is m.start s ns is, same_is b _ there)
