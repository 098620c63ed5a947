-- Writing from the start of the part of a buffer that begins where the last writing ended. Assumes nothing.
use mathlib.Core.Path.{◌≡◌, refl, sym, ap, ap₂, ◌∙◌}
use mathlib.Core.List.{List, [], ◌++◌, append_assoc, append-nil}
use Prim.Native.Nat.{ℕ, ◌+◌, ◌-◌, ◌≤◌, ◌<◌}
use native.Mathlib.Numerals.{add-one}
use native.Mathlib.Omega.{arith}
use lib.ListN.{length, get_or, set, take, drop, length-append, length-drop, drop_of_length-le, take-append-drop}
use lib.Seq.{take_all, take_at, drop_at, drop-drop, length-take-le, paste, paste-suc}
use borrow.Rule.Slice.PartMut.{mid_of, put_mid}
use Rattle.std.proofs.lemmas.List.Edits.{paste_all}
use Rattle.spec.specs.Entries.{over}
use Rattle.reportlines.specs.Places.{over_from}

pub over_length : (w xs : List ℕ) → length w ≤ length xs → length (over w xs) ≡ length xs
unfolding over
over_length w xs h = simp (length-append, length-drop) (omega arith)

-- What stands in the buffer where v ended.
behind : (v xs l : List ℕ) (at : ℕ) → at ≡ length v → l ≡ over v xs → drop at l ≡ drop at xs
unfolding over
behind v xs l at e el = ap (drop at) el ∙ drop_at v (drop (length v) xs) at (sym e) ∙ ap (λ (n : ℕ). drop n xs) (sym e)

joined : (v w xs : List ℕ) (at : ℕ) → at ≡ length v → v ++ (w ++ drop (at + length w) xs) ≡ over (v ++ w) xs
unfolding over
joined v w xs at e =
    sym (append_assoc v w (drop (at + length w) xs)) ∙ ap (λ (n : ℕ). (v ++ w) ++ drop n xs) (ap (λ (n : ℕ). n + length w) e ∙ sym (length-append v w))

-- The part of l from `at` on, and l with ys in its place.
abbrev pub part : ℕ → List ℕ → List ℕ
part at l = mid_of at (length l - at) l

abbrev pub back : ℕ → List ℕ → List ℕ → List ℕ
back at l ys = put_mid at (length l - at) l ys

put_behind : (xs l ys v w : List ℕ) (at : ℕ) → at ≡ length v → l ≡ over v xs → ys ≡ over w (part at l) → back at l ys ≡ over (v ++ w) xs
unfolding over
put_behind xs l ys v w at e el ey =
    let lent : take (length l - at) (drop at l) ≡ drop at xs = take_all (length l - at) (drop at l) (simp length-drop (omega arith)) ∙ behind v xs l at e el in
    let none : drop (length l - at) (drop at l) ≡ [] = drop_of_length-le (drop at l) {i = length l - at} (simp length-drop (omega arith)) in
    let front : take at l ≡ v = ap (take at) el ∙ take_at v (drop (length v) xs) at (sym e) in
    let mid : ys ≡ w ++ drop (at + length w) xs = ey ∙ ap (λ (p : List ℕ). w ++ drop (length w) p) lent
    ∙ ap (λ (p : List ℕ). w ++ p) (drop-drop (length w) at xs) in
    ap₂ (λ (f p : List ℕ). f ++ p) front (ap₂ (λ (y z : List ℕ). y ++ z) mid none ∙ append-nil (w ++ drop (at + length w) xs)) ∙ joined v w xs at e

-- v has been written from the start of a buffer that held xs and now holds l, and ends before `at`.
pub record Stands (xs l v : List ℕ) (at : ℕ) : Type 0 where
  pub ended : at ≡ length v
  pub bytes : l ≡ over v xs
  pub fitted : length v ≤ length xs

pub started : {xs l v : List ℕ} {at : ℕ} → length v ≤ length xs → at ≡ length v → l ≡ over v xs → Stands xs l v at
started h e el = record { ended = e; bytes = el; fitted = h }

pub same_size : {xs l v : List ℕ} {at : ℕ} → Stands xs l v at → length l ≡ length xs
same_size {xs} {l} {v} s = ap length s.bytes ∙ over_length v xs s.fitted

-- That part, lent to what writes w at its start, comes back: w stands behind v.
pub onward : {xs l v : List ℕ} {at n : ℕ} (w ys : List ℕ) → Stands xs l v at → at + length w ≤ length xs → n ≡ length w
    → ys ≡ over w (part at l) → Stands xs (back at l ys) (v ++ w) (at + n)
onward {xs} {l} {v} {at} {n} w ys s h en ey =
    record {
      ended = ap₂ ◌+◌ s.ended en ∙ sym (length-append v w);
      bytes = put_behind xs l ys v w at s.ended s.bytes ey;
      fitted = omega (arith, length-append v w, s.ended);
    }

-- What a contract says of the whole.
pub finished : {xs l v : List ℕ} {at : ℕ} (w : List ℕ) → Stands xs l v at → v ≡ w → (at ≡ length w) × (l ≡ over w xs)
finished {xs} w s e = (s.ended ∙ ap length e, s.bytes ∙ ap (λ (v : List ℕ). over v xs) e)

-- The front of a buffer stands in it.
pub itself : (xs : List ℕ) (at : ℕ) → at ≤ length xs → Stands xs xs (take at xs) at
unfolding over
itself xs at h =
    let e : length (take at xs) ≡ at = length-take-le at xs h in
    started (omega arith) (sym e) (sym (take-append-drop at xs) ∙ ap (λ (n : ℕ). take at xs ++ drop n xs) (sym e))

-- What was written from `at` on stands behind v.
pub next : {xs l v : List ℕ} {at r : ℕ} (w l' : List ℕ) → Stands xs l v at → at + length w ≤ length xs → r ≡ at + length w → l' ≡ over_from at w l
    → Stands xs l' (v ++ w) r
unfolding over_from over
next {xs} {l} {v} {at} {r} w l' s h er el =
    let front : take at l ≡ v = ap (take at) s.bytes ∙ take_at v (drop (length v) xs) at (sym s.ended) in
    let rest : drop (length (v ++ w)) l ≡ drop (length (v ++ w)) xs =
    ap₂ (λ (n : ℕ) (x : List ℕ). drop n x) (length-append v w) s.bytes
    ∙ sym (drop-drop (length w) (length v) (v ++ drop (length v) xs))
    ∙ ap (drop (length w)) (drop_at v (drop (length v) xs) (length v) refl)
    ∙ drop-drop (length w) (length v) xs
    ∙ ap (λ (n : ℕ). drop n xs) (sym (length-append v w)) in
    started (omega (arith, length-append v w, s.ended)) (er ∙ ap (λ (n : ℕ). n + length w) s.ended ∙ sym (length-append v w))
    (el ∙ ap (λ (x : List ℕ). (x ++ w) ++ drop (length (x ++ w)) l) front ∙ ap (λ (x : List ℕ). (v ++ w) ++ x) rest)

-- Exactly the part that w takes, overwritten by w.
pub put_part : (xs w ys : List ℕ) (at : ℕ) → ys ≡ w → at + length w ≤ length xs → put_mid at (at + length w - at) xs ys ≡ over_from at w xs
unfolding over_from
put_part xs w ys at e h =
    let size : at + length w - at ≡ length w = omega arith in
    rw (e, size, drop-drop (length w) at xs) (joined (take at xs) w xs at (sym (length-take-le at xs (omega arith))))

-- One byte more of w copied, and all of them.
pub copy_more : (xs w l : List ℕ) (k : ℕ) → l ≡ paste xs 0 w k → k < length xs → k < length w → set l k (get_or w k 0) ≡ paste xs 0 w (k + 1)
copy_more xs w l k e h m =
    let here : 0 + k ≡ k = omega arith in
    rw e (ap (λ (i : ℕ). set (paste xs 0 w k) i (get_or w k 0)) (sym here) ∙ paste-suc xs 0 w k 0 (omega arith) m ∙ ap (paste xs 0 w) (sym (add-one k)))

pub copy_all : (xs w : List ℕ) (n : ℕ) → n ≡ length w → length xs ≡ length w → paste xs 0 w n ≡ w
copy_all xs w n e h = paste_all xs 0 w n e ∙ ap (λ (r : List ℕ). w ++ r) (drop_of_length-le xs {i = 0 + n} (omega arith)) ∙ append-nil w
