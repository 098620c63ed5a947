-- Every op's value at the edges of the words, as document 01 gives it: a row for each x, in it a value for each y. Assumes nothing.
use mathlib.Core.Path.{◌≡◌, refl}
use mathlib.Core.List.{List, [], ◌∷◌, map}
use Prim.Native.Nat.{ℕ}
use Rattle.spec.specs.Op.{Calc, SET, TID, COUNT, LAUNCHTID, ADD, SUB, MUL, AND, OR, XOR, SHR, SAR, EQ, LT, SLT, value}
use Rattle.spec.proofs.Computing.{computing}

-- 0, 1, 2 ^ 31 - 1, 2 ^ 31, 2 ^ 32 - 1.
unfoldable pub edges : List ℕ
edges = 0 ∷ 1 ∷ 2147483647 ∷ 2147483648 ∷ 4294967295 ∷ []

-- Amounts of a shift: 0, 1, 31, 0, 1, 31, 0, 0 and 31 places.
unfoldable pub amounts : List ℕ
amounts = 0 ∷ 1 ∷ 31 ∷ 32 ∷ 33 ∷ 63 ∷ 64 ∷ 2147483648 ∷ 4294967295 ∷ []

-- The op at every x of the edges and every y of `ys`, in groups of 7 threads, by thread 5 of group 2, whose launch number is 19, in a row whose bytes a and b are 3 and 2.
unfoldable pub tabulated : List ℕ → Calc → List (List ℕ)
tabulated ys c = map (λ x. map (λ y. value c 7 5 19 3 2 x y) ys) edges

pub add_table : tabulated edges ADD ≡
    (0 ∷ 1 ∷ 2147483647 ∷ 2147483648 ∷ 4294967295 ∷ [])
    ∷ (1 ∷ 2 ∷ 2147483648 ∷ 2147483649 ∷ 0 ∷ [])
    ∷ (2147483647 ∷ 2147483648 ∷ 4294967294 ∷ 4294967295 ∷ 2147483646 ∷ [])
    ∷ (2147483648 ∷ 2147483649 ∷ 4294967295 ∷ 0 ∷ 2147483647 ∷ [])
    ∷ (4294967295 ∷ 0 ∷ 2147483646 ∷ 2147483647 ∷ 4294967294 ∷ [])
    ∷ []
unfolding computing edges tabulated
add_table = refl

pub sub_table : tabulated edges SUB ≡
    (0 ∷ 4294967295 ∷ 2147483649 ∷ 2147483648 ∷ 1 ∷ [])
    ∷ (1 ∷ 0 ∷ 2147483650 ∷ 2147483649 ∷ 2 ∷ [])
    ∷ (2147483647 ∷ 2147483646 ∷ 0 ∷ 4294967295 ∷ 2147483648 ∷ [])
    ∷ (2147483648 ∷ 2147483647 ∷ 1 ∷ 0 ∷ 2147483649 ∷ [])
    ∷ (4294967295 ∷ 4294967294 ∷ 2147483648 ∷ 2147483647 ∷ 0 ∷ [])
    ∷ []
unfolding computing edges tabulated
sub_table = refl

pub mul_table : tabulated edges MUL ≡
    (0 ∷ 0 ∷ 0 ∷ 0 ∷ 0 ∷ [])
    ∷ (0 ∷ 1 ∷ 2147483647 ∷ 2147483648 ∷ 4294967295 ∷ [])
    ∷ (0 ∷ 2147483647 ∷ 1 ∷ 2147483648 ∷ 2147483649 ∷ [])
    ∷ (0 ∷ 2147483648 ∷ 2147483648 ∷ 0 ∷ 2147483648 ∷ [])
    ∷ (0 ∷ 4294967295 ∷ 2147483649 ∷ 2147483648 ∷ 1 ∷ [])
    ∷ []
unfolding computing edges tabulated
mul_table = refl

pub and_table : tabulated edges AND ≡
    (0 ∷ 0 ∷ 0 ∷ 0 ∷ 0 ∷ [])
    ∷ (0 ∷ 1 ∷ 1 ∷ 0 ∷ 1 ∷ [])
    ∷ (0 ∷ 1 ∷ 2147483647 ∷ 0 ∷ 2147483647 ∷ [])
    ∷ (0 ∷ 0 ∷ 0 ∷ 2147483648 ∷ 2147483648 ∷ [])
    ∷ (0 ∷ 1 ∷ 2147483647 ∷ 2147483648 ∷ 4294967295 ∷ [])
    ∷ []
unfolding computing edges tabulated
and_table = refl

pub or_table : tabulated edges OR ≡
    (0 ∷ 1 ∷ 2147483647 ∷ 2147483648 ∷ 4294967295 ∷ [])
    ∷ (1 ∷ 1 ∷ 2147483647 ∷ 2147483649 ∷ 4294967295 ∷ [])
    ∷ (2147483647 ∷ 2147483647 ∷ 2147483647 ∷ 4294967295 ∷ 4294967295 ∷ [])
    ∷ (2147483648 ∷ 2147483649 ∷ 4294967295 ∷ 2147483648 ∷ 4294967295 ∷ [])
    ∷ (4294967295 ∷ 4294967295 ∷ 4294967295 ∷ 4294967295 ∷ 4294967295 ∷ [])
    ∷ []
unfolding computing edges tabulated
or_table = refl

pub xor_table : tabulated edges XOR ≡
    (0 ∷ 1 ∷ 2147483647 ∷ 2147483648 ∷ 4294967295 ∷ [])
    ∷ (1 ∷ 0 ∷ 2147483646 ∷ 2147483649 ∷ 4294967294 ∷ [])
    ∷ (2147483647 ∷ 2147483646 ∷ 0 ∷ 4294967295 ∷ 2147483648 ∷ [])
    ∷ (2147483648 ∷ 2147483649 ∷ 4294967295 ∷ 0 ∷ 2147483647 ∷ [])
    ∷ (4294967295 ∷ 4294967294 ∷ 2147483648 ∷ 2147483647 ∷ 0 ∷ [])
    ∷ []
unfolding computing edges tabulated
xor_table = refl

pub eq_table : tabulated edges EQ ≡
    (1 ∷ 0 ∷ 0 ∷ 0 ∷ 0 ∷ [])
    ∷ (0 ∷ 1 ∷ 0 ∷ 0 ∷ 0 ∷ [])
    ∷ (0 ∷ 0 ∷ 1 ∷ 0 ∷ 0 ∷ [])
    ∷ (0 ∷ 0 ∷ 0 ∷ 1 ∷ 0 ∷ [])
    ∷ (0 ∷ 0 ∷ 0 ∷ 0 ∷ 1 ∷ [])
    ∷ []
unfolding computing edges tabulated
eq_table = refl

pub lt_table : tabulated edges LT ≡
    (0 ∷ 1 ∷ 1 ∷ 1 ∷ 1 ∷ [])
    ∷ (0 ∷ 0 ∷ 1 ∷ 1 ∷ 1 ∷ [])
    ∷ (0 ∷ 0 ∷ 0 ∷ 1 ∷ 1 ∷ [])
    ∷ (0 ∷ 0 ∷ 0 ∷ 0 ∷ 1 ∷ [])
    ∷ (0 ∷ 0 ∷ 0 ∷ 0 ∷ 0 ∷ [])
    ∷ []
unfolding computing edges tabulated
lt_table = refl

pub slt_table : tabulated edges SLT ≡
    (0 ∷ 1 ∷ 1 ∷ 0 ∷ 0 ∷ [])
    ∷ (0 ∷ 0 ∷ 1 ∷ 0 ∷ 0 ∷ [])
    ∷ (0 ∷ 0 ∷ 0 ∷ 0 ∷ 0 ∷ [])
    ∷ (1 ∷ 1 ∷ 1 ∷ 0 ∷ 1 ∷ [])
    ∷ (1 ∷ 1 ∷ 1 ∷ 0 ∷ 0 ∷ [])
    ∷ []
unfolding computing edges tabulated
slt_table = refl

pub shr_table : tabulated amounts SHR ≡
    (0 ∷ 0 ∷ 0 ∷ 0 ∷ 0 ∷ 0 ∷ 0 ∷ 0 ∷ 0 ∷ [])
    ∷ (1 ∷ 0 ∷ 0 ∷ 1 ∷ 0 ∷ 0 ∷ 1 ∷ 1 ∷ 0 ∷ [])
    ∷ (2147483647 ∷ 1073741823 ∷ 0 ∷ 2147483647 ∷ 1073741823 ∷ 0 ∷ 2147483647 ∷ 2147483647 ∷ 0 ∷ [])
    ∷ (2147483648 ∷ 1073741824 ∷ 1 ∷ 2147483648 ∷ 1073741824 ∷ 1 ∷ 2147483648 ∷ 2147483648 ∷ 1 ∷ [])
    ∷ (4294967295 ∷ 2147483647 ∷ 1 ∷ 4294967295 ∷ 2147483647 ∷ 1 ∷ 4294967295 ∷ 4294967295 ∷ 1 ∷ [])
    ∷ []
unfolding computing edges amounts tabulated
shr_table = refl

pub sar_table : tabulated amounts SAR ≡
    (0 ∷ 0 ∷ 0 ∷ 0 ∷ 0 ∷ 0 ∷ 0 ∷ 0 ∷ 0 ∷ [])
    ∷ (1 ∷ 0 ∷ 0 ∷ 1 ∷ 0 ∷ 0 ∷ 1 ∷ 1 ∷ 0 ∷ [])
    ∷ (2147483647 ∷ 1073741823 ∷ 0 ∷ 2147483647 ∷ 1073741823 ∷ 0 ∷ 2147483647 ∷ 2147483647 ∷ 0 ∷ [])
    ∷ (2147483648 ∷ 3221225472 ∷ 4294967295 ∷ 2147483648 ∷ 3221225472 ∷ 4294967295 ∷ 2147483648 ∷ 2147483648 ∷ 4294967295 ∷ [])
    ∷ (4294967295 ∷ 4294967295 ∷ 4294967295 ∷ 4294967295 ∷ 4294967295 ∷ 4294967295 ∷ 4294967295 ∷ 4294967295 ∷ 4294967295 ∷ [])
    ∷ []
unfolding computing edges amounts tabulated
sar_table = refl

-- Shifts by 2 to 30 places of 0x9ABCDEF0, whose top bit is set, and of 0x12345678, whose is not.
unfoldable pub between : List ℕ
between = 2 ∷ 3 ∷ 4 ∷ 7 ∷ 8 ∷ 15 ∷ 16 ∷ 17 ∷ 28 ∷ 30 ∷ []

unfoldable pub shifted : Calc → List (List ℕ)
shifted c = map (λ x. map (λ y. value c 7 5 19 3 2 x y) between) (2596069104 ∷ 305419896 ∷ [])

pub shr_between : shifted SHR ≡
    (649017276 ∷ 324508638 ∷ 162254319 ∷ 20281789 ∷ 10140894 ∷ 79225 ∷ 39612 ∷ 19806 ∷ 9 ∷ 2 ∷ [])
    ∷ (76354974 ∷ 38177487 ∷ 19088743 ∷ 2386092 ∷ 1193046 ∷ 9320 ∷ 4660 ∷ 2330 ∷ 1 ∷ 0 ∷ [])
    ∷ []
unfolding computing between shifted
shr_between = refl

pub sar_between : shifted SAR ≡
    (3870242748 ∷ 4082605022 ∷ 4188786159 ∷ 4281694653 ∷ 4288330974 ∷ 4294915449 ∷ 4294941372 ∷ 4294954334 ∷ 4294967289 ∷ 4294967294 ∷ [])
    ∷ (76354974 ∷ 38177487 ∷ 19088743 ∷ 2386092 ∷ 1193046 ∷ 9320 ∷ 4660 ∷ 2330 ∷ 1 ∷ 0 ∷ [])
    ∷ []
unfolding computing between shifted
sar_between = refl

-- Every op of two words that are no edges, 0x9ABCDEF0 and 0x12345678, both ways round.
pub both_ways :
    map (λ c. value c 7 5 19 3 2 2596069104 305419896 ∷ value c 7 5 19 3 2 305419896 2596069104 ∷ []) (ADD ∷ SUB ∷ MUL ∷ AND ∷ OR ∷ XOR ∷ EQ ∷ LT ∷ SLT ∷ []) ≡
    (2901489000 ∷ 2901489000 ∷ [])
    ∷ (2290649208 ∷ 2004318088 ∷ [])
    ∷ (606937216 ∷ 606937216 ∷ [])
    ∷ (305419888 ∷ 305419888 ∷ [])
    ∷ (2596069112 ∷ 2596069112 ∷ [])
    ∷ (2290649224 ∷ 2290649224 ∷ [])
    ∷ (0 ∷ 0 ∷ [])
    ∷ (0 ∷ 1 ∷ [])
    ∷ (1 ∷ 0 ∷ [])
    ∷ []
unfolding computing
both_ways = refl

-- SET, TID, COUNT and LAUNCHTID read no register.
pub plain_values : (x y : ℕ) → map (λ c. value c 7 5 19 3 2 x y) (SET ∷ TID ∷ COUNT ∷ LAUNCHTID ∷ []) ≡ 515 ∷ 5 ∷ 7 ∷ 19 ∷ []
unfolding computing
plain_values x y = refl
