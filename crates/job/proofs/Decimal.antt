-- A number below 100,000 is printed as the library prints it. Nothing is assumed.
use Rattle.std.proofs.Common.{◌≡◌, ℕ, zero, suc, ◌+◌, ◌*◌, ◌/◌, ◌%◌, ◌^◌, ◌<◌, ◌≤◌, [], ◌∷◌, ◌++◌, refl, sym, ap, ◌∙◌, ⊎_elim, append_assoc, lt_of_lt_of_le, lit≤, arith}
use native.Mathlib.Nat.{pow-suc}
use Rattle.std.proofs.lemmas.Bool.{cond-true, cond-false, lt-leb, le-leb, cases_lt}
use Rattle.std.proofs.lemmas.Fmt.{decimal_digit, decimal_step_wide}
use Rattle.std.specs.Fmt as library
use Rattle.job.specs.Text.{digit, decimal}

digit_none : (n unit : ℕ) → n < unit → digit n unit ≡ []
digit_none n unit h = cond-false _ _ _ (lt-leb unit n h)

digit_some : (n unit : ℕ) → unit ≤ n → digit n unit ≡ (48 + n / unit % 10) ∷ []
digit_some n unit h = cond-true _ _ _ (le-leb unit n h)

-- a digit of a tenth is the digit one place higher
shifted : (n unit next : ℕ) → (unit ≤ n / 10 → next ≤ n) → (n / 10 < unit → n < next) → n / 10 / unit ≡ n / next → digit (n / 10) unit ≡ digit n next
shifted n unit next some none same =
    ⊎_elim
    (λ lt. digit_none _ _ lt ∙ sym (digit_none _ _ (none lt)))
    (λ le. digit_some _ _ le ∙ (ap (λ q. (48 + q % 10) ∷ []) same ∙ sym (digit_some _ _ (some le))))
    (cases_lt (n / 10) unit)

pub tenth : (n : ℕ) → 10 ≤ n → n < 100000 → decimal n ≡ decimal (n / 10) ++ (48 + n % 10) ∷ []
unfolding decimal
tenth n more small =
    let none : digit (n / 10) 10000 ≡ [] = digit_none (n / 10) 10000 (omega arith) in
    let fifth : digit (n / 10) 1000 ≡ digit n 10000 = shifted n 1000 10000 (λ h. omega (arith, h)) (λ h. omega (arith, h)) (omega arith) in
    let fourth : digit (n / 10) 100 ≡ digit n 1000 = shifted n 100 1000 (λ h. omega (arith, h)) (λ h. omega (arith, h)) (omega arith) in
    let third : digit (n / 10) 10 ≡ digit n 100 = shifted n 10 100 (λ h. omega (arith, h)) (λ h. omega (arith, h)) (omega arith) in
    let second : digit n 10 ≡ (48 + n / 10 % 10) ∷ [] = digit_some n 10 more in
    rw (none, fifth, fourth, third, second) (simp append_assoc)

pub single : (n : ℕ) → n < 10 → decimal n ≡ (48 + n) ∷ []
unfolding decimal
single n h =
    let same : n % 10 ≡ n = omega arith in
    rw (digit_none n 10000 (omega arith), digit_none n 1000 (omega arith), digit_none n 100 (omega arith), digit_none n 10 (omega arith), same) refl

printed_to : (k n : ℕ) → n < 10 ^ suc k → n < 100000 → library.decimal n ≡ decimal n
printed_to zero n low small = decimal_digit n (omega arith) ∙ sym (single n (omega arith))
printed_to (suc k) n low small =
    ⊎_elim
    (λ lt. decimal_digit n lt ∙ sym (single n lt))
    (λ le. decimal_step_wide n le (lt_of_lt_of_le small (lit≤ tt)) ∙ (ap (λ ds. ds ++ (48 + n % 10) ∷ []) (printed_to k (n / 10) lower (omega arith)) ∙ sym (tenth n le small)))
    (cases_lt n 10)
  where
    lower : n / 10 < 10 ^ suc k
    lower = let tens : 10 ^ suc (suc k) ≡ 10 ^ suc k * 10 = pow-suc 10 (suc k) in omega arith

pub printed : (n : ℕ) → n < 100000 → library.decimal n ≡ decimal n
printed n h = printed_to 4 n h h
