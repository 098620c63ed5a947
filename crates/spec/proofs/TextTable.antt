-- Text and numbers of launch files and reports, computed. Assumes nothing.
use mathlib.Core.Path.{◌≡◌, refl}
use mathlib.Core.List.{List, [], ◌∷◌, ◌++◌, map}
use mathlib.Core.Bool.{true, false}
use mathlib.Core.Option.{none, some}
use Prim.Native.Nat.{ℕ}
use lib.ListN.{replicate}
use Rattle.spec.specs.Lists.{any_of, every, equal_list}
use Rattle.spec.specs.Mask.{nonzero}
use Rattle.spec.specs.Text.{text, newline, comma, equals, hyphen, decimal, is_digit, is_number, number_below, split_at}
use Rattle.spec.proofs.OpTable.{bytes_from}
use Rattle.spec.proofs.Computing.{computing}

-- Exactly the bytes 48 to 57 are digits: not 47, `/`, and not 58, `:`.
pub digits : map is_digit (bytes_from 0 256) ≡ replicate 48 false ++ (replicate 10 true ++ replicate 198 false)
unfolding computing bytes_from
digits = refl

-- The bytes that lines are made of.
pub marks : newline ∷ comma ∷ equals ∷ hyphen ++ text "\n,=-09azAZ" ≡ 10 ∷ 44 ∷ 61 ∷ 45 ∷ 10 ∷ 44 ∷ 61 ∷ 45 ∷ 48 ∷ 57 ∷ 97 ∷ 122 ∷ 65 ∷ 90 ∷ []
unfolding computing
marks = refl

-- Numbers have a digit at least, nothing but digits, and no leading zero.
pub number_texts : map (λ s. is_number (text s))
    ("" ∷ "0" ∷ "9" ∷ "10" ∷ "4294967296" ∷ "00" ∷ "01" ∷ "0x" ∷ "-1" ∷ "+1" ∷ "1 " ∷ " 1" ∷ "1:" ∷ ":1" ∷ "/1" ∷ "1/" ∷ "1,2" ∷ "1=" ∷ "1e3" ∷ [])
    ≡ false ∷ true ∷ true ∷ true ∷ true ∷ replicate 14 false
unfolding computing
number_texts = refl

-- Their values, below 2 ^ 32 and below 256.
pub number_values : map (λ s. number_below 4294967296 (text s)) ("0" ∷ "7" ∷ "10" ∷ "120" ∷ "4096" ∷ "4294967295" ∷ "4294967296" ∷ "10000000000" ∷ "007" ∷ "" ∷ []) ≡
    some 0 ∷ some 7 ∷ some 10 ∷ some 120 ∷ some 4096 ∷ some 4294967295 ∷ none ∷ none ∷ none ∷ none ∷ []
unfolding computing
number_values = refl

pub byte_values : map (λ s. number_below 256 (text s)) ("0" ∷ "15" ∷ "255" ∷ "256" ∷ "1000" ∷ "25:" ∷ []) ≡ some 0 ∷ some 15 ∷ some 255 ∷ none ∷ none ∷ none ∷ []
unfolding computing
byte_values = refl

-- Numbers in a report: one digit to ten.
pub written_numbers : map decimal (0 ∷ 9 ∷ 10 ∷ 11 ∷ 99 ∷ 100 ∷ 256 ∷ 1024 ∷ 65536 ∷ 1000000 ∷ 305419896 ∷ 4294967295 ∷ []) ≡
    map text ("0" ∷ "9" ∷ "10" ∷ "11" ∷ "99" ∷ "100" ∷ "256" ∷ "1024" ∷ "65536" ∷ "1000000" ∷ "305419896" ∷ "4294967295" ∷ [])
unfolding computing
written_numbers = refl

-- Parted at the first such byte, which is in neither half.
pub halves : map (split_at 61) (text "" ∷ text "ab" ∷ text "a=b" ∷ text "=b" ∷ text "a=" ∷ text "a=b=c" ∷ []) ≡
    none
    ∷ none
    ∷ some (record { before = text "a"; behind = text "b" })
    ∷ some (record { before = []; behind = text "b" })
    ∷ some (record { before = text "a"; behind = [] })
    ∷ some (record { before = text "a"; behind = text "b=c" })
    ∷ []
unfolding computing
halves = refl

-- Equal lists: neither is cut short, and every element counts.
pub equal_texts : map (λ s. equal_list (text "row") (text s)) ("row" ∷ "ro" ∷ "" ∷ "rows" ∷ "raw" ∷ "rox" ∷ []) ≡ true ∷ false ∷ false ∷ false ∷ false ∷ false ∷ []
unfolding computing
equal_texts = refl

unfoldable pub pairs : List (List ℕ)
pairs = [] ∷ (0 ∷ 0 ∷ []) ∷ (0 ∷ 1 ∷ []) ∷ (1 ∷ 0 ∷ []) ∷ (1 ∷ 1 ∷ []) ∷ []

pub tests_on_lists : map (any_of nonzero) pairs ++ map (every nonzero) pairs ≡
    false ∷ false ∷ true ∷ true ∷ true ∷ true ∷ false ∷ false ∷ false ∷ true ∷ []
unfolding computing pairs
tests_on_lists = refl
