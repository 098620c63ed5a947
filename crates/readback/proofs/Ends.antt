-- Lines of which the last one stands nowhere before: no part of their bytes that is cut off has it. Assumes nothing.
use mathlib.Core.Path.{◌≡◌, refl, sym, ap, ◌∙◌}
use mathlib.Core.Logic.{◌⊎◌, inl, inr}
use mathlib.Core.List.{List, [], ◌∷◌, ◌++◌, map}
use mathlib.Core.Bool.{Bool, true, false, not, ◌||◌, and-eq-true_iff, false≢true}
use Prim.Native.Nat.{ℕ, zero, suc, ◌+◌, ◌-◌, ◌<◌, ◌≤◌}
use native.Mathlib.Omega.{arith}
use borrow.Author.Tests.{not-true}
use lib.Dec.{eqb}
use lib.ListN.{length, take, length-append}
use Rattle.spec.specs.Lists.{any_of, every}
use Rattle.spec.specs.Text.{newline}
use Rattle.spec.specs.Report.{Line, line_bytes, bytes_of}
use Rattle.spec.specs.Reading.{on_first, lines_in}
use Rattle.spec.proofs.Laws.{lt_or_le}
use Rattle.readback.proofs.Clean.{no_newline}
use Rattle.readback.proofs.Back.{keyed, line_text, first_line, line_clean, ended}

-- Bytes without a newline have no line.
no_line_lem : (w : List ℕ) → every no_newline w ≡ true → lines_in w ≡ []
unfolding lines_in every no_newline on_first
no_line_lem [] e = refl
no_line_lem (b ∷ w) e = let t = (and-eq-true_iff (not (eqb b newline)) _).0 e in rw (not-true (eqb b newline) t.0, no_line_lem w t.1) refl

take_clean : (k : ℕ) (w : List ℕ) → every no_newline w ≡ true → every no_newline (take k w) ≡ true
unfolding every
take_clean zero w e = refl
take_clean (suc k) [] e = refl
take_clean (suc k) (b ∷ w) e = let t = (and-eq-true_iff (no_newline b) _).0 e in rw t.0 (take_clean k w t.1)

-- A part that ends before the newline of the first line; and one that goes on behind it.
take_short : (k : ℕ) (w rest : List ℕ) → k ≤ length w → take k (w ++ rest) ≡ take k w
take_short zero w rest l = refl
take_short (suc k) [] rest l = absurd (omega arith)
take_short (suc k) (x ∷ w) rest l = ap (λ (xs : List ℕ). x ∷ xs) (take_short k w rest (omega arith))

take_long : (w : List ℕ) (b j k : ℕ) (rest : List ℕ) → k ≡ suc (length w + j) → take k (w ++ (b ∷ rest)) ≡ w ++ (b ∷ take j rest)
take_long w b j zero rest e = absurd (omega arith)
take_long [] b j (suc k) rest e = let same : k ≡ j = omega arith in ap (λ (i : ℕ). b ∷ take i rest) same
take_long (x ∷ w) b j (suc k) rest e = ap (λ (xs : List ℕ). x ∷ xs) (take_long w b j k rest (omega arith))

or-false : (a b : Bool) → (a || b) ≡ false → (a ≡ false) × (b ≡ false)
or-false true b e = absurd (false≢true (sym e))
or-false false b e = (refl, e)

module _ (p : List ℕ → Bool) where
  -- A part of the first line alone has no line.
  within : (l : Line) (rest : List ℕ) (k : ℕ) → keyed l ≡ true → k ≤ length (line_text l) → any_of p (lines_in (take k (line_text l ++ (newline ∷ rest)))) ≡ false
  unfolding any_of
  within l rest k e h =
      ap (λ (bs : List ℕ). any_of p (lines_in bs)) (take_short k (line_text l) (newline ∷ rest) h)
      ∙ ap (any_of p) (no_line_lem (take k (line_text l)) (take_clean k (line_text l) (line_clean l e)))

  -- A part that goes behind the first line has that line, and a part of the rest.
  beyond : (l : Line) (rest : List ℕ) (j k : ℕ) → keyed l ≡ true → k ≡ suc (length (line_text l) + j)
      → lines_in (take k (line_text l ++ (newline ∷ rest))) ≡ line_text l ∷ lines_in (take j rest)
  beyond l rest j k e h = ap lines_in (take_long (line_text l) newline j k rest h) ∙ first_line (line_text l) (take j rest) (line_clean l e)

  pub cut_off_lem : (ls : List Line) (l : Line) → every keyed (ls ++ (l ∷ [])) ≡ true → any_of p (map line_text ls) ≡ false → (k : ℕ)
      → k < length (bytes_of (ls ++ (l ∷ []))) → any_of p (lines_in (take k (bytes_of (ls ++ (l ∷ []))))) ≡ false
  unfolding bytes_of every any_of
  cut_off_lem [] l e f k h =
      let shown = ended l [] in
      ap (λ (bs : List ℕ). any_of p (lines_in (take k bs))) shown
      ∙ within l [] k ((and-eq-true_iff (keyed l) _).0 e).0 (omega (arith, h, ap length shown, length-append (line_text l) (newline ∷ [])))
  cut_off_lem (x ∷ ls) l e f k h = by (lt_or_le (length (line_text x)) k) (cut_off_lem ls l)
    where
      rest : List ℕ
      rest = bytes_of (ls ++ (l ∷ []))

      shown : line_bytes x ++ rest ≡ line_text x ++ (newline ∷ rest)
      shown = ended x rest

      by : (length (line_text x) < k) ⊎ (k ≤ length (line_text x))
          → (every keyed (ls ++ (l ∷ [])) ≡ true → any_of p (map line_text ls) ≡ false → (k : ℕ) → k < length rest → any_of p (lines_in (take k rest)) ≡ false)
          → any_of p (lines_in (take k (line_bytes x ++ rest))) ≡ false
      by (inr m) more = ap (λ (bs : List ℕ). any_of p (lines_in (take k bs))) shown ∙ within x rest k ((and-eq-true_iff (keyed x) _).0 e).0 m
      by (inl m) more =
          let t = (and-eq-true_iff (keyed x) _).0 e in
          let no = or-false (p (line_text x)) _ f in
          let j = k - suc (length (line_text x)) in
          let left : j < length rest = omega (arith, h, m, ap length shown, length-append (line_text x) (newline ∷ rest)) in
          ap (λ (bs : List ℕ). any_of p (lines_in (take k bs))) shown ∙ ap (any_of p) (beyond x rest j k t.0 (omega (arith, m)))
          ∙ rw no.0 (more t.1 no.1 j left)
