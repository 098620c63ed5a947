-- The bytes of the first lines of a list, and of one line more; their writing. Assumes nothing.
use mathlib.Core.Path.{◌≡◌, refl, sym, ap, subst, ◌∙◌}
use mathlib.Core.List.{List, [], ◌∷◌, ◌++◌, map, append_assoc, append-nil}
use Prim.Native.Nat.{ℕ, zero, suc, ◌+◌, ◌*◌, ◌≤◌, ◌<◌}
use native.Mathlib.Numerals.{add-one}
use native.Mathlib.Nat.{mul-suc}
use native.Mathlib.Omega.{arith}
use lib.ListN.{length, get_or, take, drop, length-append, length-map, get_or-map, take-append-drop}
use lib.Seq.{take-length, length-take-le}
use Rattle.spec.specs.Report as report
use Rattle.spec.specs.Report.{line_bytes, bytes_of}
use Rattle.reportlines.specs.declared.Line.{Line}
use Rattle.reportlines.specs.Lines.{told}
use Rattle.reportlines.specs.Places.{over_from}
use Rattle.reporttable.specs.Items.{Gives, KeysWithin, HasRoom}
use Rattle.reportlines.proofs.Writing.{Stands, itself, next, same_size}

pub bytes_append : (xs ys : List report.Line) → bytes_of (xs ++ ys) ≡ bytes_of xs ++ bytes_of ys
unfolding bytes_of
bytes_append [] ys = refl
bytes_append (x ∷ xs) ys = ap (λ (l : List ℕ). line_bytes x ++ l) (bytes_append xs ys) ∙ sym (append_assoc (line_bytes x) (bytes_of xs) (bytes_of ys))

pub bytes_one : (l : report.Line) → bytes_of (l ∷ []) ≡ line_bytes l
unfolding bytes_of
bytes_one l = append-nil (line_bytes l)

pub bytes_more : (ls : List report.Line) (i : ℕ) (d : report.Line) → i < length ls → bytes_of (take (i + 1) ls) ≡ bytes_of (take i ls) ++ line_bytes (get_or ls i d)
unfolding bytes_of
bytes_more [] i d h = absurd (omega arith)
bytes_more (l ∷ ls) zero d h = append-nil (line_bytes l)
bytes_more (l ∷ ls) (suc i) d h =
    ap (λ (n : ℕ). bytes_of (take n (l ∷ ls))) (add-one (suc i))
    ∙ ap (λ (b : List ℕ). line_bytes l ++ b) (ap (λ (n : ℕ). bytes_of (take n ls)) (sym (add-one i)) ∙ bytes_more ls i d (omega arith))
    ∙ sym (append_assoc (line_bytes l) (bytes_of (take i ls)) (line_bytes (get_or ls i d)))

pub size_more : (ls : List report.Line) (i : ℕ) (d : report.Line) → i < length ls
    → length (bytes_of (take (i + 1) ls)) ≡ length (bytes_of (take i ls)) + length (line_bytes (get_or ls i d))
size_more ls i d h = ap length (bytes_more ls i d h) ∙ length-append (bytes_of (take i ls)) (line_bytes (get_or ls i d))

fits : (ls : List report.Line) (n : ℕ) → length (bytes_of (take n ls)) ≤ length (bytes_of ls)
fits ls n = omega (arith, ap length (ap bytes_of (sym (take-append-drop n ls)) ∙ bytes_append (take n ls) (drop n ls)), length-append (bytes_of (take n ls)) (bytes_of (drop n ls)))

-- The first i lines have been written from place `at` on to a buffer that held xs, and end before `end`.
abbrev pub Written : (ls : List report.Line) (at i : ℕ) (xs l : List ℕ) (end : ℕ) → Type 0
Written ls at i xs l end = Stands xs l (take at xs ++ bytes_of (take i ls)) end

module _ {T : Type 0} (post : T → Line → Type 0) (items : List T) where
  -- The line of item i, where f gives it.
  line_at : (f : T → report.Line) (i : ℕ) (x : T) (l : Line) → Gives post f → x ≡ get_or items i x → post x l → get_or (map f items) i (f x) ≡ told l
  line_at f i x l h e p = get_or-map f items i x ∙ ap f (sym e) ∙ sym (h x l p)

  below : (f : T → report.Line) (i : ℕ) → i < length items → i < length (map f items)
  below f i h = omega (arith, length-map items f)

  key_within : {i k : ℕ} (x : T) (l : Line) → KeysWithin post items k → i < length items → x ≡ get_or items i x → post x l → length l.key.now ≤ k
  key_within {i} {k} x l g h e p = subst (λ y. (m : Line) → post y m → length m.key.now ≤ k) (sym e) (g i x h) l p

  -- The first i items' lines are so long.
  pub record Measured (i total : ℕ) : Type 0 where
    pub long : (f : T → report.Line) → Gives post f → total ≡ length (bytes_of (take i (map f items)))
    pub bound : (k : ℕ) → KeysWithin post items k → total ≤ (k + 12) * i

  pub measured_none : Measured 0 0
  unfolding bytes_of
  measured_none = record { long = λ f h. refl; bound = λ k h. omega arith }

  pub measured_more : {i total n : ℕ} (x : T) (l : Line) → Measured i total → i < length items → x ≡ get_or items i x → post x l
      → (n ≡ length (line_bytes (told l))) × (n ≤ length l.key.now + 12) → Measured (i + 1) (total + n)
  measured_more {i} {total} {n} x l m h e p s =
      record {
        long = λ f g. omega (arith, m.long f g, size_more (map f items) i (f x) (below f i h), ap (λ r. length (line_bytes r)) (line_at f i x l g e p), s.0);
        bound = λ k g. rw (add-one i, mul-suc (k + 12) i) (omega (arith, m.bound k g, key_within x l g h e p, s.1));
      }

  pub measured_small : {i total n : ℕ} (x : T) (l : Line) → Measured i total → i < length items → x ≡ get_or items i x → post x l
      → length items ≤ 1024 → KeysWithin post items 20 → n ≤ length l.key.now + 12 → total + n ≤ 32 * 1024
  measured_small x l m h e p few short s = omega (arith, m.bound 20 short, key_within x l short h e p)

  pub measured_all : {i total : ℕ} → Measured i total → i ≡ length items → Measured (length items) total
  measured_all m e = rw (← e) m

  -- The first i items' lines have been written from place `at` on to a buffer that held xs and now holds l, and end before `end`.
  pub record Placed (at i : ℕ) (xs l : List ℕ) (end : ℕ) : Type 0 where
    pub stands : (f : T → report.Line) → Gives post f → Written (map f items) at i xs l end

  pub placed_none : (at : ℕ) (xs : List ℕ) → HasRoom post items at xs → Placed at 0 xs xs at
  unfolding bytes_of
  placed_none at xs r = record { stands = λ f g. rw (append-nil (take at xs)) (itself xs at (omega (arith, r.2))) }

  module _ {at i end : ℕ} {xs l : List ℕ} (x : T) (r : Line) (placed : Placed at i xs l end) (h : i < length items) (e : x ≡ get_or items i x) (p : post x r) where
    pub item_room : HasRoom post items at xs → end + length (line_bytes (told r)) ≤ length l
    item_room room =
        let f = room.0 in
        let ls = map f items in
        let s = placed.stands f room.1 in
        omega (
          arith,
          s.ended,
          same_size s,
          length-append (take at xs) (bytes_of (take i ls)),
          length-take-le at xs (omega (arith, room.2)),
          fits ls (i + 1),
          size_more ls i (f x) (below f i h),
          ap (λ q. length (line_bytes q)) (line_at f i x r room.1 e p),
          room.2,
        )

    pub placed_more : {l' : List ℕ} {end' : ℕ} → end + length (line_bytes (told r)) ≤ length l → end' ≡ end + length (line_bytes (told r))
        → l' ≡ over_from end (line_bytes (told r)) l → Placed at (i + 1) xs l' end'
    placed_more {l'} {end'} room ee el =
        record {
          stands = λ f g.
              let ls = map f items in
              let s = placed.stands f g in
              let one = ap line_bytes (line_at f i x r g e p) in
              let more : (take at xs ++ bytes_of (take i ls)) ++ line_bytes (told r) ≡ take at xs ++ bytes_of (take (i + 1) ls) =
              append_assoc (take at xs) (bytes_of (take i ls)) (line_bytes (told r))
              ∙ ap (λ (b : List ℕ). take at xs ++ b) (ap (λ (b : List ℕ). bytes_of (take i ls) ++ b) (sym one) ∙ sym (bytes_more ls i (f x) (below f i h))) in
              rw (← more) (next (line_bytes (told r)) l' s (omega (arith, same_size s)) ee el);
        }

  pub placed_all : {at i end : ℕ} {xs l : List ℕ} → Placed at i xs l end → i ≡ length items → (f : T → report.Line) → Gives post f
      → l ≡ over_from at (bytes_of (map f items)) xs
  unfolding over_from
  placed_all p e f g =
      let all : take _ (map f items) ≡ map f items = ap (λ n. take n (map f items)) (e ∙ sym (length-map items f)) ∙ take-length (map f items) in
      (rw all at (p.stands f g)).bytes
