-- A number that was written in base ten reads as itself. Assumes nothing.
use mathlib.Core.Path.{◌≡◌, refl, ap, ◌∙◌}
use mathlib.Core.List.{List, [], ◌∷◌, ◌++◌}
use mathlib.Core.Bool.{Bool, true, false, not, ◌&&◌, false≢true}
use mathlib.Core.Option.{some}
use Prim.Native.Nat.{ℕ, zero, suc, ◌+◌, ◌-◌, ◌*◌, ◌/◌, ◌%◌, ◌<◌, ◌≤◌}
use native.Mathlib.Decide.{dec_lt}
use native.Mathlib.Omega.{arith}
use borrow.Author.Tests.{lt-ltb, le-leb, ne_eqb}
use lib.Dec.{eqb}
use Rattle.spec.specs.Lists.{every}
use Rattle.spec.specs.Text.{digits_within, decimal, digits_value, is_digit, is_number}
use Rattle.spec.specs.Reading.{number_in}
use Rattle.reportlines.proofs.Decimal.{digits_one, digits_more}

pub every_append : {A : Type 0} (p : A → Bool) (xs ys : List A) → every p xs ≡ true → every p ys ≡ true → every p (xs ++ ys) ≡ true
unfolding every
every_append p [] ys e f = f
every_append p (x ∷ xs) ys e f = by (p x) e (every_append p xs ys)
  where
    by : (b : Bool) → (b && every p xs) ≡ true → (every p xs ≡ true → every p ys ≡ true → every p (xs ++ ys) ≡ true) → (b && every p (xs ++ ys)) ≡ true
    by true e rest = rest e f
    by false e rest = e

-- What holds of the ten digits holds of every byte of a number.
module _ (p : ℕ → Bool) (digit : (d : ℕ) → d < 10 → p (48 + d) ≡ true) where
  one_digit : (d : ℕ) → d < 10 → every p ((48 + d) ∷ []) ≡ true
  unfolding every
  one_digit d h = rw (digit d h)

  digits_are : (k n : ℕ) → n ≤ k → every p (digits_within k n) ≡ true
  digits_are zero n l = ap (every p) (digits_one zero n (omega arith)) ∙ one_digit n (omega arith)
  digits_are (suc k) n l = by (dec_lt n 10) (λ h. digits_are k (n / 10) (omega arith))
    where
      by : Dec (n < 10) → (10 ≤ n → every p (digits_within k (n / 10)) ≡ true) → every p (digits_within (suc k) n) ≡ true
      by (yes h) e = ap (every p) (digits_one (suc k) n h) ∙ one_digit n h
      by (no h) e =
          ap (every p) (digits_more k n (omega arith))
          ∙ every_append p (digits_within k (n / 10)) ((48 + n % 10) ∷ []) (e (omega arith)) (one_digit (n % 10) (omega arith))

  pub all_digits : (n : ℕ) → every p (decimal n) ≡ true
  unfolding decimal
  all_digits n = digits_are n n (omega arith)

-- Its value.
behind : (s d : ℕ) (xs : List ℕ) → digits_value s (xs ++ (d ∷ [])) ≡ 10 * digits_value s xs + (d - 48)
unfolding digits_value
behind s d [] = refl
behind s d (x ∷ xs) = behind (10 * s + (x - 48)) d xs

one_value : (n : ℕ) → digits_value 0 ((48 + n) ∷ []) ≡ n
unfolding digits_value
one_value n = omega arith

value_within : (k n : ℕ) → digits_value 0 (digits_within k n) ≡ n
unfolding digits_within
value_within zero n = one_value n
value_within (suc k) n = by (dec_lt n 10) (value_within k (n / 10))
  where
    by : Dec (n < 10) → digits_value 0 (digits_within k (n / 10)) ≡ n / 10 → digits_value 0 (digits_within (suc k) n) ≡ n
    by (yes h) e = ap (digits_value 0) (digits_one (suc k) n h) ∙ one_value n
    by (no h) e = ap (digits_value 0) (digits_more k n (omega arith)) ∙ behind 0 (48 + n % 10) (digits_within k (n / 10)) ∙ omega (arith, e)

-- Its first digit is 0 for 0 only.
leads : List ℕ → Bool
leads [] = false
leads (b ∷ bs) = not (eqb b 48)

leads_append : (xs ys : List ℕ) → leads xs ≡ true → leads (xs ++ ys) ≡ true
unfolding leads
leads_append [] ys e = absurd (false≢true e)
leads_append (x ∷ xs) ys e = e

one_leads : (n : ℕ) → 1 ≤ n → leads ((48 + n) ∷ []) ≡ true
unfolding leads
one_leads n h = rw (ne_eqb (48 + n) 48 (λ e. omega arith))

digits_lead : (k n : ℕ) → n ≤ k → 1 ≤ n → leads (digits_within k n) ≡ true
unfolding digits_within
digits_lead zero n l h = one_leads n h
digits_lead (suc k) n l h = by (dec_lt n 10) (λ m. digits_lead k (n / 10) (omega arith) (omega arith))
  where
    by : Dec (n < 10) → (10 ≤ n → leads (digits_within k (n / 10)) ≡ true) → leads (digits_within (suc k) n) ≡ true
    by (yes m) e = ap leads (digits_one (suc k) n m) ∙ one_leads n h
    by (no m) e = ap leads (digits_more k n (omega arith)) ∙ leads_append (digits_within k (n / 10)) ((48 + n % 10) ∷ []) (e (omega arith))

leading : (l : List ℕ) → every is_digit l ≡ true → leads l ≡ true → is_number l ≡ true
unfolding leads is_number
leading [] e f = absurd (false≢true f)
leading (b ∷ bs) e f = rw (e, f)

digit_is : (d : ℕ) → d < 10 → is_digit (48 + d) ≡ true
unfolding is_digit
digit_is d h = rw (le-leb 48 (48 + d) (omega arith), lt-ltb (48 + d) 58 (omega arith))

is_number_lem : (n : ℕ) → is_number (decimal n) ≡ true
unfolding decimal is_number digits_within is_digit every
is_number_lem zero = refl
is_number_lem (suc n) = leading (digits_within (suc n) (suc n)) (all_digits is_digit digit_is (suc n)) (digits_lead (suc n) (suc n) (omega arith) (omega arith))

pub number_back : (n : ℕ) → number_in (decimal n) ≡ some n
unfolding number_in decimal
number_back n = rw (is_number_lem n, value_within n n)
