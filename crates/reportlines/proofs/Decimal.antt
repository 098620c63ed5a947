-- A number in base ten by its last digit and the rest; a word has at most ten digits. Assumes nothing.
use mathlib.Core.Path.{◌≡◌, refl, sym, ap, ◌∙◌}
use mathlib.Core.List.{List, [], ◌∷◌, ◌++◌}
use Prim.Native.Nat.{ℕ, zero, suc, ◌+◌, ◌/◌, ◌%◌, ◌^◌, ◌≤◌, ◌<◌}
use native.Mathlib.Decide.{dec_lt}
use native.Mathlib.Nat.{pow-suc}
use native.Mathlib.Omega.{arith}
use borrow.Author.Tests.{lt-ltb, le-ltb}
use lib.ListN.{length, length-append}
use Rattle.std.specs.Fmt as fmt
use Rattle.std.proofs.lemmas.Fmt.{decimal_digit, decimal_step}
use Rattle.spec.specs.Text.{digits_within, decimal}

pub digits_one : (k n : ℕ) → n < 10 → digits_within k n ≡ (48 + n) ∷ []
unfolding digits_within
digits_one zero n h = refl
digits_one (suc k) n h = rw (lt-ltb n 10 h, digits_within)

pub digits_more : (k n : ℕ) → 10 ≤ n → digits_within (suc k) n ≡ digits_within k (n / 10) ++ ((48 + n % 10) ∷ [])
unfolding digits_within
digits_more k n h = rw (le-ltb n 10 h, digits_within)

-- The bound on the divisions does not matter once it is the number or more.
same : (j k n : ℕ) → n ≤ j → n ≤ k → digits_within j n ≡ digits_within k n
same zero k n l m = digits_one zero n (omega arith) ∙ sym (digits_one k n (omega arith))
same (suc j) zero n l m = digits_one (suc j) n (omega arith) ∙ sym (digits_one zero n (omega arith))
same (suc j) (suc k) n l m = by (dec_lt n 10) (λ h. same j k (n / 10) (omega arith) (omega arith))
  where
    by : Dec (n < 10) → (10 ≤ n → digits_within j (n / 10) ≡ digits_within k (n / 10)) → digits_within (suc j) n ≡ digits_within (suc k) n
    by (yes h) rest = digits_one (suc j) n h ∙ sym (digits_one (suc k) n h)
    by (no h) rest =
        let m : 10 ≤ n = omega arith in
        digits_more j n m ∙ ap (λ (ds : List ℕ). ds ++ ((48 + n % 10) ∷ [])) (rest m) ∙ sym (digits_more k n m)

pub decimal_one : (n : ℕ) → n < 10 → decimal n ≡ (48 + n) ∷ []
unfolding decimal
decimal_one n h = digits_one n n h

pub decimal_more : (n : ℕ) → 10 ≤ n → decimal n ≡ decimal (n / 10) ++ ((48 + n % 10) ∷ [])
unfolding decimal
decimal_more zero h = absurd (omega arith)
decimal_more (suc m) h = digits_more m (suc m) h ∙ ap (λ (ds : List ℕ). ds ++ ((48 + suc m % 10) ∷ [])) (same m (suc m / 10) (suc m / 10) (omega arith) (omega arith))

pub length_one : (n : ℕ) → n < 10 → length (decimal n) ≡ 1
length_one n h = ap length (decimal_one n h)

pub length_more : (n : ℕ) → 10 ≤ n → length (decimal n) ≡ length (decimal (n / 10)) + 1
length_more n h = ap length (decimal_more n h) ∙ length-append (decimal (n / 10)) ((48 + n % 10) ∷ [])

pub some_digit : (n : ℕ) → 1 ≤ length (decimal n)
some_digit n = by (dec_lt n 10)
  where
    by : Dec (n < 10) → 1 ≤ length (decimal n)
    by (yes h) = omega (arith, length_one n h)
    by (no h) = omega (arith, length_more n (omega arith))

at_most : (k n : ℕ) → n < 10 ^ suc k → length (decimal n) ≤ suc k
at_most zero n h = omega (arith, length_one n (omega arith))
at_most (suc k) n h = by (dec_lt n 10) (at_most k (n / 10) (omega (arith, pow-suc 10 (suc k))))
  where
    by : Dec (n < 10) → length (decimal (n / 10)) ≤ suc k → length (decimal n) ≤ suc (suc k)
    by (yes l) rest = omega (arith, length_one n l)
    by (no l) rest = omega (arith, length_more n (omega arith))

pub word_digits : (n : ℕ) → n < 2 ^ 32 → length (decimal n) ≤ 10
word_digits n h = at_most 9 n (omega arith)

-- The library's digits of a number are these. A word has at most ten, the library's bound is 64.
printed : (k n : ℕ) → n < 10 ^ k → n < 2 ^ 64 → fmt.decimal n ≡ decimal n
printed zero n h w = decimal_digit n (omega arith) ∙ sym (decimal_one n (omega arith))
printed (suc k) n h w = by (dec_lt n 10) (printed k (n / 10) (omega (arith, pow-suc 10 k)) (omega arith))
  where
    by : Dec (n < 10) → fmt.decimal (n / 10) ≡ decimal (n / 10) → fmt.decimal n ≡ decimal n
    by (yes l) rest = decimal_digit n l ∙ sym (decimal_one n l)
    by (no l) rest = decimal_step n (omega arith) w ∙ ap (λ ds. ds ++ ((48 + n % 10) ∷ [])) rest ∙ sym (decimal_more n (omega arith))

pub decimal_same : (n : ℕ) → n < 2 ^ 32 → fmt.decimal n ≡ decimal n
decimal_same n h = printed 10 n (omega arith) (omega arith)
