-- That the front of the table and of the cells holds what has been read, and the rest is kept. Assumes nothing.
use mathlib.Core.Path.{◌≡◌, refl, sym, ap, ◌∙◌}
use mathlib.Core.List.{List, [], ◌∷◌, ◌++◌, map, append_assoc}
use Prim.Native.Nat.{ℕ, zero, suc, ◌+◌, ◌*◌, ◌<◌}
use native.Mathlib.Numerals.{add-one}
use native.Mathlib.Omega.{arith}
use lib.ListN.{length, take, drop, set, length-set}
use lib.Seq.{take-suc-set, drop-set-lt, drop-drop, length-take-le}
use Rattle.spec.specs.Table.{Row, row_of, rows_of}
use Rattle.filelines.specs.Values.{as_row}
use Rattle.contents.specs.Taken.{put_row, fours_of}

-- One store behind the front.
stored : (l : List ℕ) (i j v : ℕ) → j ≡ suc i → i < length l → take j (set l i v) ≡ take i l ++ (v ∷ [])
stored l i j v e h = rw e (take-suc-set l i v h)

fours_append : (k : ℕ) (l m : List ℕ) → length l ≡ 4 * k → fours_of (l ++ m) ≡ fours_of l ++ fours_of m
unfolding fours_of
fours_append k [] m e = refl
fours_append zero (op ∷ l) m e = absurd (omega arith)
fours_append (suc k) (op ∷ []) m e = absurd (omega arith)
fours_append (suc k) (op ∷ d ∷ []) m e = absurd (omega arith)
fours_append (suc k) (op ∷ d ∷ a ∷ []) m e = absurd (omega arith)
fours_append (suc k) (op ∷ d ∷ a ∷ b ∷ l) m e = ap (λ (t : List (List ℕ)). (op ∷ d ∷ a ∷ b ∷ []) ∷ t) (fours_append k l m (omega arith))

one_four : (l : List (List ℕ)) (op d a b : ℕ) → l ++ fours_of (op ∷ d ∷ a ∷ b ∷ []) ≡ l ++ ((op ∷ d ∷ a ∷ b ∷ []) ∷ [])
unfolding fours_of
one_four l op d a b = refl

-- The rows of bytes are those of their fours.
pub fours_rows : (l : List ℕ) → map as_row (fours_of l) ≡ rows_of l
unfolding fours_of rows_of as_row
fours_rows [] = refl
fours_rows (op ∷ []) = refl
fours_rows (op ∷ d ∷ []) = refl
fours_rows (op ∷ d ∷ a ∷ []) = refl
fours_rows (op ∷ d ∷ a ∷ b ∷ l) = ap (λ (t : List Row). row_of op d a b ∷ t) (fours_rows l)

pub row_put : (t : List ℕ) (k op d a b : ℕ) → length t ≡ 1024 → k < 256
    → fours_of (take (4 * (k + 1)) (put_row t (4 * k) op d a b)) ≡ fours_of (take (4 * k) t) ++ ((op ∷ d ∷ a ∷ b ∷ []) ∷ [])
row_put t k op d a b long h =
    let i = 4 * k in
    let t1 = set t i op in
    let t2 = set t1 (i + 1) d in
    let t3 = set t2 (i + 2) a in
    let l1 : length t1 ≡ 1024 = length-set t i op ∙ long in
    let l2 : length t2 ≡ 1024 = length-set t1 (i + 1) d ∙ l1 in
    let l3 : length t3 ≡ 1024 = length-set t2 (i + 2) a ∙ l2 in
    let front : take (4 * (k + 1)) (put_row t i op d a b) ≡ (((take i t ++ (op ∷ [])) ++ (d ∷ [])) ++ (a ∷ [])) ++ (b ∷ []) =
    stored t3 (i + 3) (4 * (k + 1)) b (omega arith) (omega arith)
    ∙ ap (λ (l : List ℕ). l ++ (b ∷ [])) (stored t2 (i + 2) (i + 3) a (omega arith) (omega arith)
    ∙ ap (λ (l : List ℕ). l ++ (a ∷ [])) (stored t1 (i + 1) (i + 2) d (omega arith) (omega arith)
    ∙ ap (λ (l : List ℕ). l ++ (d ∷ [])) (stored t i (i + 1) op (omega arith) (omega arith)))) in
    let flat : (((take i t ++ (op ∷ [])) ++ (d ∷ [])) ++ (a ∷ [])) ++ (b ∷ []) ≡ take i t ++ (op ∷ d ∷ a ∷ b ∷ []) = simp append_assoc in
    ap fours_of (front ∙ flat) ∙ fours_append k (take i t) (op ∷ d ∷ a ∷ b ∷ []) (length-take-le i t (omega arith)) ∙ one_four (fours_of (take i t)) op d a b

-- What is as it was behind some place is so behind a later one.
kept_later : (i j : ℕ) (l m : List ℕ) → drop i l ≡ drop i m → drop (i + j) l ≡ drop (i + j) m
kept_later i j l m e = sym (drop-drop j i l) ∙ ap (drop j) e ∙ drop-drop j i m

pub row_kept : (t u : List ℕ) (k op d a b : ℕ) → drop (4 * k) t ≡ drop (4 * k) u → drop (4 * (k + 1)) (put_row t (4 * k) op d a b) ≡ drop (4 * (k + 1)) u
row_kept t u k op d a b e =
    let i = 4 * k in
    let t1 = set t i op in
    let t2 = set t1 (i + 1) d in
    let t3 = set t2 (i + 2) a in
    let next : 4 * (k + 1) ≡ i + 4 = omega arith in
    drop-set-lt (4 * (k + 1)) t3 (i + 3) b (omega arith)
    ∙ drop-set-lt (4 * (k + 1)) t2 (i + 2) a (omega arith)
    ∙ drop-set-lt (4 * (k + 1)) t1 (i + 1) d (omega arith)
    ∙ drop-set-lt (4 * (k + 1)) t i op (omega arith)
    ∙ rw next (kept_later i 4 t u e)

pub row_long : (t : List ℕ) (at op d a b : ℕ) → length (put_row t at op d a b) ≡ length t
row_long t at op d a b = simp length-set

pub cell_put : (t : List ℕ) (k v : ℕ) → k < length t → take (k + 1) (set t k v) ≡ take k t ++ (v ∷ [])
cell_put t k v h = stored t k (k + 1) v (add-one k) h

pub cell_kept : (t u : List ℕ) (k v : ℕ) → drop k t ≡ drop k u → drop (k + 1) (set t k v) ≡ drop (k + 1) u
cell_kept t u k v e = drop-set-lt (k + 1) t k v (omega arith) ∙ kept_later k 1 t u e
