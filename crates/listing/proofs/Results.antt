-- What a result says of the test and the step that it comes from. Assumes nothing.
use Rattle.std.proofs.Common.{◌≡◌, Bool, true, false, cond, Ok, Err, Result, refl}

module _ {X E : Type 0} where
  pub passed : (b : Bool) (r : Result X E) (e : E) (x : X) → cond b r (Err e) ≡ Ok x → (b ≡ true) × (r ≡ Ok x)
  passed true r e x h = (refl, h)
  passed false r e x h = cc

  -- for a conclusion W
  pub refused : {W : Type 0} (b : Bool) (r : Result X E) (e d : E) → cond b r (Err e) ≡ Err d → (b ≡ true → r ≡ Err d → W) → (b ≡ false → d ≡ e → W) → W
  refused true r e d h later here = later refl h
  refused false r e d h later here = here refl (cc)

  -- a step, and what follows it
  abbrev pub onto : {Y : Type 0} → (X → Result Y E) → Result X E → Result Y E
  onto f r = elim r [ Ok x ↦ f x | Err e ↦ Err e ]

  pub same_onto : {Y : Type 0} (f g : X → Result Y E) → ((x : X) → f x ≡ g x) → (r : Result X E) → onto f r ≡ onto g r
  same_onto f g same (Ok x) = same x
  same_onto f g same (Err e) = refl

  pub went_on : {Y : Type 0} (f : X → Result Y E) (r : Result X E) (y : Y) → onto f r ≡ Ok y → (x : X) × (r ≡ Ok x) × (f x ≡ Ok y)
  went_on f (Ok x) y h = (x, refl, h)
  went_on f (Err e) y h = cc
