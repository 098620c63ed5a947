-- A line's length, and its parts in the order in which they are written. Assumes nothing.
use mathlib.Core.Path.{◌≡◌, refl, ap, ◌∙◌}
use mathlib.Core.List.{List, [], ◌∷◌, ◌++◌, append_assoc}
use Prim.Native.Nat.{ℕ, ◌+◌, ◌≤◌}
use native.Mathlib.Omega.{arith}
use lib.ListN.{length, take, length-append}
use Rattle.spec.specs.Report.{key_line}
use Rattle.spec.specs.Entries.{over}
use Rattle.reportlines.specs.Places.{over_from}
use Rattle.reportlines.proofs.Writing.{itself, next}

pub line_size : (key value : List ℕ) → length (key_line key value) ≡ length key + length value + 2
unfolding key_line
line_size key value = simp length-append (omega (arith, length-append value (10 ∷ [])))

-- Key, sign, value and newline, written one behind the other.
pub line_written : (key value word xs a b c d : List ℕ) (at sign start end : ℕ) → at + length (key_line key value) ≤ length xs → word ≡ value
    → sign ≡ at + length key → a ≡ over_from at key xs → start ≡ sign + 1 → b ≡ over_from sign (61 ∷ []) a
    → end ≡ start + length word → c ≡ over_from start word b → d ≡ over_from end (10 ∷ []) c → d ≡ over_from at (key_line key value) xs
unfolding over_from key_line
line_written key value word xs a b c d at sign start end h same e ea f eb g ec ed =
    let size = line_size key value in
    let long = ap length same in
    let keyed = next key a (itself xs at (omega arith)) (omega arith) e ea in
    let signed = next (61 ∷ []) b keyed (omega arith) f eb in
    let valued = next word c signed (omega arith) g ec in
    let all : (((take at xs ++ key) ++ (61 ∷ [])) ++ word) ++ (10 ∷ []) ≡ take at xs ++ (key ++ (61 ∷ (value ++ (10 ∷ [])))) = rw same (simp append_assoc) in
    (next (10 ∷ []) d valued (omega arith) refl ed).bytes ∙ ap (λ (w : List ℕ). over w xs) all
