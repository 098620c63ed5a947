-- A stretch of a list, taken out and put back; the same of a log and of a state. Assumes nothing.
use mathlib.Core.Path.{◌≡◌, refl, sym, ◌∙◌, ap, ap₂, subst}
use mathlib.Core.Logic.{◌⊎◌, inl, inr}
use mathlib.Core.List.{List, [], ◌∷◌, ◌++◌, map, append_assoc, map-append}
use mathlib.Core.Bool.{Bool, true, false, cond}
use Prim.Native.Nat.{ℕ, zero, suc, ◌+◌, ◌-◌, ◌<◌, ◌≤◌}
use native.Mathlib.Nat.{suc-mul, mul-le-mul_right}
use native.Mathlib.Omega.{arith}
use lib.ListN.{length, get_or, set, take, drop, length-append, length-drop, length-set, length-map, take-append-drop, get_or-append}
use lib.Seq.{length-take-le, take-append_seam, drop-append-le, drop-append-add, take-append-add, take_at, drop_at, take-nil}
use lib.Seq.{set-append_left, drop-set-add, take-set-lt, get_or-take, get_or-drop, take-take, drop-drop}
use Rattle.spec.specs.Access.{Mode, reads, writes, adds}
use Rattle.spec.specs.Lists.{map_where}
use Rattle.spec.specs.Shape.{Shape, total}
use Rattle.spec.specs.Mask.{Mask}
use Rattle.spec.specs.Log.{Log, masks_of, nobody, cleared}
use Rattle.spec.specs.LockStep.{LockState}
use Rattle.spec.proofs.Laws.{lt_or_le}
use Rattle.spec.proofs.LogLaws.{masks_cleared, nobody_size, where_size, where_at}
use Rattle.layout.specs.Memory.{Masks}
use Rattle.layout.specs.Views.{part, put_part, log_part, put_log, view_of, put_view, own_from, global_from, Sized}
use Rattle.layout.proofs.Lists.{set_append_right}

module _ {A : Type 0} where
  front_size : (a : ℕ) (xs : List A) → a ≤ length xs → length (take a xs) ≡ a
  front_size a xs h = length-take-le a xs h

  -- ---- the stretch itself

  pub part_size : (a k : ℕ) (xs : List A) → a + k ≤ length xs → length (part a k xs) ≡ k
  unfolding part
  part_size a k xs h = length-take-le k (drop a xs) (let e = length-drop a xs in omega arith)

  pub part_at : (a k : ℕ) (xs : List A) (c : ℕ) (d : A) → c < k → get_or (part a k xs) c d ≡ get_or xs (a + c) d
  unfolding part
  part_at a k xs c d h = get_or-take k (drop a xs) c d h ∙ get_or-drop a xs c d

  pub part_set : (a k : ℕ) (xs : List A) (c : ℕ) (v : A) → c < k → part a k (set xs (a + c) v) ≡ set (part a k xs) c v
  unfolding part
  part_set a k xs c v h = ap (take k) (drop-set-add a xs c v) ∙ take-set-lt k (drop a xs) c v h

  -- its end counted from the front
  part_front : (a k : ℕ) (xs : List A) → take k (drop a xs) ≡ drop a (take (a + k) xs)
  part_front zero k xs = ap (λ (j : ℕ). take j xs) (let e : k ≡ 0 + k = omega arith in e)
  part_front (suc a) k [] = take-nil k ∙ sym (ap (drop (suc a)) (take-nil (suc a + k)))
  part_front (suc a) k (x ∷ xs) = part_front a k xs ∙ ap (λ (j : ℕ). drop (suc a) (take j (x ∷ xs))) (let e : suc (a + k) ≡ suc a + k = omega arith in e)

  -- ---- what stands before and behind what is put back

  take_put : (a : ℕ) (ys xs : List A) → a ≤ length xs → take a (put_part a ys xs) ≡ take a xs
  unfolding put_part
  take_put a ys xs h = take_at (take a xs) (ys ++ drop (a + length ys) xs) a (front_size a xs h)

  from_put : (a : ℕ) (ys xs : List A) → a ≤ length xs → drop a (put_part a ys xs) ≡ ys ++ drop (a + length ys) xs
  unfolding put_part
  from_put a ys xs h = drop_at (take a xs) (ys ++ drop (a + length ys) xs) a (front_size a xs h)

  behind_put : (a : ℕ) (ys xs : List A) (j : ℕ) → a ≤ length xs → drop (a + length ys + j) (put_part a ys xs) ≡ drop (a + length ys + j) xs
  behind_put a ys xs j h =
      ap (λ (i : ℕ). drop i (put_part a ys xs)) (let e : a + length ys + j ≡ a + (length ys + j) = omega arith in e)
      ∙ sym (drop-drop (length ys + j) a (put_part a ys xs))
      ∙ ap (drop (length ys + j)) (from_put a ys xs h)
      ∙ drop-append-add ys (drop (a + length ys) xs) j
      ∙ drop-drop j (a + length ys) xs

  -- ---- the list with a stretch put back

  pub put_size : (a : ℕ) (ys xs : List A) → a + length ys ≤ length xs → length (put_part a ys xs) ≡ length xs
  unfolding put_part
  put_size a ys xs h =
      let p = front_size a xs (omega arith) in
      let q = length-drop (a + length ys) xs in
      let r = length-append ys (drop (a + length ys) xs) in
      let s = length-append (take a xs) (ys ++ drop (a + length ys) xs) in
      omega arith

  pub put_at : (a : ℕ) (ys xs : List A) (c : ℕ) (d : A) → a ≤ length xs → c < length ys → get_or (put_part a ys xs) (a + c) d ≡ get_or ys c d
  put_at a ys xs c d h l =
      sym (get_or-drop a (put_part a ys xs) c d) ∙ ap (λ r. get_or r c d) (from_put a ys xs h) ∙ get_or-append ys (drop (a + length ys) xs) d c l

  pub put_at_below : (a : ℕ) (ys xs : List A) (i : ℕ) (d : A) → a ≤ length xs → i < a → get_or (put_part a ys xs) i d ≡ get_or xs i d
  put_at_below a ys xs i d h l =
      sym (get_or-take a (put_part a ys xs) i d l) ∙ ap (λ r. get_or r i d) (take_put a ys xs h) ∙ get_or-take a xs i d l

  pub put_at_above : (a : ℕ) (ys xs : List A) (i : ℕ) (d : A) → a ≤ length xs → a + length ys ≤ i → get_or (put_part a ys xs) i d ≡ get_or xs i d
  put_at_above a ys xs i d h l =
      let j = i - (a + length ys) in
      let e : i ≡ a + length ys + j + 0 = omega arith in
      ap (λ (u : ℕ). get_or (put_part a ys xs) u d) e ∙ sym (get_or-drop (a + length ys + j) (put_part a ys xs) 0 d)
      ∙ ap (λ r. get_or r 0 d) (behind_put a ys xs j h) ∙ get_or-drop (a + length ys + j) xs 0 d ∙ ap (λ (u : ℕ). get_or xs u d) (sym e)

  pub put_set : (a : ℕ) (ys xs : List A) (c : ℕ) (v : A) → a ≤ length xs → c < length ys → put_part a (set ys c v) xs ≡ set (put_part a ys xs) (a + c) v
  unfolding put_part
  put_set a ys xs c v h l =
      ap (λ (j : ℕ). take a xs ++ (set ys c v ++ drop (a + j) xs)) (length-set ys c v)
      ∙ ap (λ r. take a xs ++ r) (sym (set-append_left ys (drop (a + length ys) xs) c v l))
      ∙ sym (set_append_right (take a xs) (ys ++ drop (a + length ys) xs) c v)
      ∙ ap (λ (j : ℕ). set (take a xs ++ (ys ++ drop (a + length ys) xs)) (j + c) v) (front_size a xs h)

  pub put_part_lem : (a k : ℕ) (xs : List A) → a + k ≤ length xs → put_part a (part a k xs) xs ≡ xs
  unfolding part put_part
  put_part_lem a k xs h =
      ap (λ (j : ℕ). take a xs ++ (part a k xs ++ drop (a + j) xs)) (part_size a k xs h)
      ∙ ap (λ r. take a xs ++ (part a k xs ++ r)) (sym (drop-drop k a xs))
      ∙ ap (λ r. take a xs ++ r) (take-append-drop k (drop a xs))
      ∙ take-append-drop a xs

  pub part_put : (a k : ℕ) (ys xs : List A) → a ≤ length xs → length ys ≡ k → part a k (put_part a ys xs) ≡ ys
  unfolding part
  part_put a k ys xs h e =
      ap (take k) (from_put a ys xs h) ∙ ap (λ (j : ℕ). take j (ys ++ drop (a + length ys) xs)) (sym e) ∙ take-append_seam ys (drop (a + length ys) xs)

  -- a stretch that doesn't meet it
  pub part_put_below : (a b m : ℕ) (ys xs : List A) → a ≤ length xs → b + m ≤ a → part b m (put_part a ys xs) ≡ part b m xs
  unfolding part
  part_put_below a b m ys xs h l =
      part_front b m (put_part a ys xs)
      ∙ ap (drop b) (sym (take-take (b + m) a (put_part a ys xs) l) ∙ ap (take (b + m)) (take_put a ys xs h) ∙ take-take (b + m) a xs l)
      ∙ sym (part_front b m xs)

  pub part_put_above : (a b m : ℕ) (ys xs : List A) → a ≤ length xs → a + length ys ≤ b → part b m (put_part a ys xs) ≡ part b m xs
  unfolding part
  part_put_above a b m ys xs h l =
      let e : b ≡ a + length ys + (b - (a + length ys)) = omega arith in
      ap (λ (j : ℕ). take m (drop j (put_part a ys xs))) e ∙ ap (take m) (behind_put a ys xs (b - (a + length ys)) h)
      ∙ ap (λ (j : ℕ). take m (drop j xs)) (sym e)

  pub put_put : (a : ℕ) (ys zs xs : List A) → a ≤ length xs → length ys ≡ length zs → put_part a ys (put_part a zs xs) ≡ put_part a ys xs
  unfolding put_part
  put_put a ys zs xs h e =
      ap₂ (λ l r. l ++ (ys ++ r)) (take_put a zs xs h)
      (ap (λ (j : ℕ). drop (a + j) (put_part a zs xs)) e
      ∙ ap (λ (j : ℕ). drop j (put_part a zs xs)) (let z : a + length zs ≡ a + length zs + 0 = omega arith in z)
      ∙ behind_put a zs xs 0 h
      ∙ ap (λ (j : ℕ). drop j xs) (let z : a + length zs + 0 ≡ a + length ys = omega arith in z))

  -- two stretches that don't meet
  module _ (a b : ℕ) (ys zs xs : List A) (h : a + length ys ≤ b) (l : b + length zs ≤ length xs) where
    abbrev between : List A
    between = drop (a + length ys) (take b xs)

    abbrev last : List A
    last = zs ++ drop (b + length zs) xs

    lower : put_part a ys (put_part b zs xs) ≡ take a xs ++ (ys ++ (between ++ last))
    unfolding put_part
    lower =
        ap₂ (λ p q. p ++ (ys ++ q))
        (sym (take-take a b (put_part b zs xs) (omega arith)) ∙ ap (take a) (take_put b zs xs (omega arith)) ∙ take-take a b xs (omega arith))
        (drop-append-le (a + length ys) (take b xs) last (omega (arith, front_size b xs (omega arith))))

    upto : take b (put_part a ys xs) ≡ take a xs ++ (ys ++ between)
    unfolding put_part
    upto =
        let j = b - (a + length ys) in
        let e : b ≡ length (take a xs) + (length ys + j) = omega (arith, front_size a xs (omega arith)) in
        let f : a + length ys + j ≡ b = omega arith in
        ap (λ (i : ℕ). take i (take a xs ++ (ys ++ drop (a + length ys) xs))) e
        ∙ take-append-add (take a xs) (ys ++ drop (a + length ys) xs) (length ys + j)
        ∙ ap (λ r. take a xs ++ r) (take-append-add ys (drop (a + length ys) xs) j)
        ∙ ap (λ r. take a xs ++ (ys ++ r)) (part_front (a + length ys) j xs)
        ∙ ap (λ (i : ℕ). take a xs ++ (ys ++ drop (a + length ys) (take i xs))) f

    behind : drop (b + length zs) (put_part a ys xs) ≡ drop (b + length zs) xs
    behind =
        let j = b + length zs - (a + length ys) in
        let e : b + length zs ≡ a + length ys + j = omega arith in
        ap (λ (i : ℕ). drop i (put_part a ys xs)) e ∙ behind_put a ys xs j (omega arith) ∙ ap (λ (i : ℕ). drop i xs) (sym e)

    upper : put_part b zs (put_part a ys xs) ≡ take a xs ++ (ys ++ (between ++ last))
    unfolding put_part
    upper =
        ap₂ (λ p q. p ++ (zs ++ q)) upto behind
        ∙ append_assoc (take a xs) (ys ++ between) last
        ∙ ap (λ r. take a xs ++ r) (append_assoc ys between last)

    pub put_apart : put_part a ys (put_part b zs xs) ≡ put_part b zs (put_part a ys xs)
    put_apart = lower ∙ sym upper

-- ---- elements that are mapped

module _ {A B : Type 0} (f : A → B) where
  map_take : (k : ℕ) (xs : List A) → map f (take k xs) ≡ take k (map f xs)
  map_take zero xs = refl
  map_take (suc k) [] = refl
  map_take (suc k) (x ∷ xs) = ap (λ r. f x ∷ r) (map_take k xs)

  map_drop : (a : ℕ) (xs : List A) → map f (drop a xs) ≡ drop a (map f xs)
  map_drop zero xs = refl
  map_drop (suc a) [] = refl
  map_drop (suc a) (x ∷ xs) = map_drop a xs

  pub map_put : (a : ℕ) (ys xs : List A) → map f (put_part a ys xs) ≡ put_part a (map f ys) (map f xs)
  unfolding put_part
  map_put a ys xs =
      map-append f (take a xs) (ys ++ drop (a + length ys) xs)
      ∙ ap₂ ◌++◌ (map_take a xs) (map-append f ys (drop (a + length ys) xs)
      ∙ ap (λ r. map f ys ++ r) (map_drop (a + length ys) xs ∙ ap (λ (j : ℕ). drop (a + j) (map f xs)) (sym (length-map ys f))))

module _ {A : Type 0} (f : A → A) where
  -- only what p says of the places of the list counts
  pub where_like : (p q : ℕ → Bool) (i j : ℕ) (xs : List A) → ((c : ℕ) → c < length xs → p (i + c) ≡ q (j + c)) → map_where p f i xs ≡ map_where q f j xs
  unfolding map_where
  where_like p q i j [] h = refl
  where_like p q i j (x ∷ xs) h =
      ap₂ ◌∷◌
      (ap (λ b. cond b (f x) x)
      (ap p (let z : i ≡ i + 0 = omega arith in z) ∙ h 0 (omega arith) ∙ ap q (let z : j + 0 ≡ j = omega arith in z)))
      (where_like p q (suc i) (suc j) xs (λ c l.
      ap p (let z : suc i + c ≡ i + suc c = omega arith in z) ∙ h (suc c) (omega arith) ∙ ap q (let z : j + suc c ≡ suc j + c = omega arith in z)))

  pub where_none : (p : ℕ → Bool) (i : ℕ) (xs : List A) → ((c : ℕ) → c < length xs → p (i + c) ≡ false) → map_where p f i xs ≡ xs
  unfolding map_where
  where_none p i [] h = refl
  where_none p i (x ∷ xs) h =
      ap₂ ◌∷◌ (ap (λ b. cond b (f x) x) (ap p (let z : i ≡ i + 0 = omega arith in z) ∙ h 0 (omega arith)))
      (where_none p (suc i) xs (λ c l. ap p (let z : suc i + c ≡ i + suc c = omega arith in z) ∙ h (suc c) (omega arith)))

  where_take : (p : ℕ → Bool) (i k : ℕ) (xs : List A) → take k (map_where p f i xs) ≡ map_where p f i (take k xs)
  unfolding map_where
  where_take p i zero xs = refl
  where_take p i (suc k) [] = refl
  where_take p i (suc k) (x ∷ xs) = ap (λ r. cond (p i) (f x) x ∷ r) (where_take p (suc i) k xs)

  where_drop : (p : ℕ → Bool) (i a : ℕ) (xs : List A) → drop a (map_where p f i xs) ≡ map_where p f (i + a) (drop a xs)
  unfolding map_where
  where_drop p i zero xs = ap (λ (j : ℕ). map_where p f j xs) (let z : i ≡ i + 0 = omega arith in z)
  where_drop p i (suc a) [] = refl
  where_drop p i (suc a) (x ∷ xs) =
      where_drop p (suc i) a xs ∙ ap (λ (j : ℕ). map_where p f j (drop a xs)) (let z : suc i + a ≡ i + suc a = omega arith in z)

  pub part_where : (p : ℕ → Bool) (a k : ℕ) (xs : List A) → part a k (map_where p f 0 xs) ≡ map_where p f a (part a k xs)
  unfolding part
  part_where p a k xs =
      ap (take k) (where_drop p 0 a xs ∙ ap (λ (j : ℕ). map_where p f j (drop a xs)) (let z : 0 + a ≡ a = omega arith in z))
      ∙ where_take p a k (drop a xs)

  -- Where p and q differ at the stretch only, what p changes is what q changes, with the stretch as p has it.
  pub where_put : (p q : ℕ → Bool) (a k : ℕ) (xs : List A) → a + k ≤ length xs
      → ((i : ℕ) → i < a → p i ≡ q i) → ((i : ℕ) → a + k ≤ i → i < length xs → p i ≡ q i)
      → map_where p f 0 xs ≡ put_part a (map_where p f a (part a k xs)) (map_where q f 0 xs)
  unfolding put_part
  where_put p q a k xs h before after =
      sym (put_part_lem a k (map_where p f 0 xs) (omega (arith, where_size p f 0 xs)))
      ∙ ap₂ (λ l r. l ++ (part a k (map_where p f 0 xs) ++ r)) front back
      ∙ ap (λ s. take a (map_where q f 0 xs) ++ (s ++ drop (a + length s) (map_where q f 0 xs))) (part_where p a k xs)
    where
      front : take a (map_where p f 0 xs) ≡ take a (map_where q f 0 xs)
      front =
          where_take p 0 a xs
          ∙ where_like p q 0 0 (take a xs) (λ c l.
          let z : 0 + c ≡ c = omega arith in ap p z ∙ before c (omega (arith, front_size a xs (omega arith))) ∙ ap q (sym z))
          ∙ sym (where_take q 0 a xs)

      size : length (part a k (map_where p f 0 xs)) ≡ k
      size = part_size a k (map_where p f 0 xs) (omega (arith, where_size p f 0 xs))

      end : ℕ
      end = a + length (part a k (map_where p f 0 xs))

      back : drop end (map_where p f 0 xs) ≡ drop end (map_where q f 0 xs)
      back =
          where_drop p 0 end xs
          ∙ where_like p q (0 + end) (0 + end) (drop end xs) (λ c l. after (0 + end + c) (omega (arith, size)) (omega (arith, size, length-drop end xs)))
          ∙ sym (where_drop q 0 end xs)

-- ---- masks

pub masks_part : (n t a k : ℕ) (ms : List Mask) → a + k ≤ t → Masks n t ms → Masks n k (part a k ms)
masks_part n t a k ms h M =
    record {
      count = part_size a k ms (omega (arith, M.count));
      each = λ c l. ap length (part_at a k ms c [] l) ∙ M.each (a + c) (omega arith);
    }

pub masks_put : (n t a k : ℕ) (ys ms : List Mask) → a + k ≤ t → Masks n k ys → Masks n t ms → Masks n t (put_part a ys ms)
masks_put n t a k ys ms h Y M =
    record { count = put_size a ys ms (omega (arith, Y.count, M.count)) ∙ M.count; each = λ i l. by i l (lt_or_le i a) (lt_or_le i (a + k)) }
  where
    by : (i : ℕ) → i < t → (i < a) ⊎ (a ≤ i) → (i < a + k) ⊎ (a + k ≤ i) → length (get_or (put_part a ys ms) i []) ≡ n
    by i l (inl b) e = ap length (put_at_below a ys ms i [] (omega (arith, M.count)) b) ∙ M.each i l
    by i l (inr b) (inr e) = ap length (put_at_above a ys ms i [] (omega (arith, M.count)) (omega (arith, Y.count))) ∙ M.each i l
    by i l (inr b) (inl e) =
        ap (λ j. length (get_or (put_part a ys ms) j [])) (let z : i ≡ a + (i - a) = omega arith in z)
        ∙ ap length (put_at a ys ms (i - a) [] (omega (arith, M.count)) (omega (arith, Y.count)))
        ∙ Y.each (i - a) (omega arith)

pub masks_where : (n k : ℕ) (p : ℕ → Bool) (ms : List Mask) → Masks n k ms → Masks n k (map_where p nobody 0 ms)
masks_where n k p ms M =
    record {
      count = where_size p nobody 0 ms ∙ M.count;
      each = λ c l. ap length (where_at p nobody 0 ms c [] (omega (arith, M.count))) ∙ by (p (0 + c)) (get_or ms c []) ∙ M.each c l;
    }
  where
    by : (b : Bool) (m : Mask) → length (cond b (nobody m) m) ≡ length m
    by true m = nobody_size m
    by false m = refl

-- ---- logs

-- A log of k cells, with masks of n threads.
pub record LogFits (n k : ℕ) (G : Log) : Type 0 where
  pub masks_fit : (m : Mode) → Masks n k (masks_of G m)
  pub values_fit : length G.values ≡ k
  pub marks_fit : length G.marks ≡ k

pub log_part_masks : (a k : ℕ) (G : Log) (m : Mode) → masks_of (log_part a k G) m ≡ part a k (masks_of G m)
unfolding masks_of log_part
log_part_masks a k G reads = refl
log_part_masks a k G writes = refl
log_part_masks a k G adds = refl

pub put_log_masks : (a : ℕ) (P G : Log) (m : Mode) → masks_of (put_log a P G) m ≡ put_part a (masks_of P m) (masks_of G m)
unfolding masks_of put_log
put_log_masks a P G reads = refl
put_log_masks a P G writes = refl
put_log_masks a P G adds = refl

-- Two logs are the same where their words are.
pub same_log : (G H : Log) → ((m : Mode) → masks_of G m ≡ masks_of H m) → G.values ≡ H.values → G.marks ≡ H.marks → G ≡ H
unfolding masks_of
same_log G H masks values marks =
    λ i. record { readers = masks reads i; writers = masks writes i; adders = masks adds i; values = values i; marks = marks i }

module _ (n t : ℕ) (G : Log) (F : LogFits n t G) where
  masks_count : (m : Mode) → length (masks_of G m) ≡ t
  masks_count m = (F.masks_fit m).count

  pub log_part_fits : (a k : ℕ) → a + k ≤ t → LogFits n k (log_part a k G)
  unfolding log_part
  log_part_fits a k h =
      record {
        masks_fit = λ m. subst (Masks n k) (sym (log_part_masks a k G m)) (masks_part n t a k (masks_of G m) h (F.masks_fit m));
        values_fit = part_size a k G.values (omega (arith, F.values_fit));
        marks_fit = part_size a k G.marks (omega (arith, F.marks_fit));
      }

  pub put_log_part : (a k : ℕ) → a + k ≤ t → put_log a (log_part a k G) G ≡ G
  unfolding put_log log_part
  put_log_part a k h =
      same_log (put_log a (log_part a k G) G) G
      (λ m. put_log_masks a (log_part a k G) G m ∙ ap (λ r. put_part a r (masks_of G m)) (log_part_masks a k G m)
      ∙ put_part_lem a k (masks_of G m) (omega (arith, masks_count m)))
      (put_part_lem a k G.values (omega (arith, F.values_fit)))
      (put_part_lem a k G.marks (omega (arith, F.marks_fit)))

  pub log_cleared_fits : (p : ℕ → Bool) → LogFits n t (cleared p G)
  unfolding cleared
  log_cleared_fits p =
      record {
        masks_fit = λ m. subst (Masks n t) (sym (masks_cleared p G m)) (masks_where n t p (masks_of G m) (F.masks_fit m));
        values_fit = where_size p (λ v. 0) 0 G.values ∙ F.values_fit;
        marks_fit = where_size p (λ b. false) 0 G.marks ∙ F.marks_fit;
      }

  module _ (a k : ℕ) (P : Log) (Q : LogFits n k P) (h : a + k ≤ t) where
    pub put_log_fits : LogFits n t (put_log a P G)
    unfolding put_log
    put_log_fits =
        record {
          masks_fit = λ m.
              subst (Masks n t) (sym (put_log_masks a P G m)) (masks_put n t a k (masks_of P m) (masks_of G m) h (Q.masks_fit m) (F.masks_fit m));
          values_fit = put_size a P.values G.values (omega (arith, Q.values_fit, F.values_fit)) ∙ F.values_fit;
          marks_fit = put_size a P.marks G.marks (omega (arith, Q.marks_fit, F.marks_fit)) ∙ F.marks_fit;
        }

    pub log_part_put : log_part a k (put_log a P G) ≡ P
    unfolding put_log log_part
    log_part_put =
        same_log (log_part a k (put_log a P G)) P
        (λ m. log_part_masks a k (put_log a P G) m ∙ ap (part a k) (put_log_masks a P G m)
        ∙ part_put a k (masks_of P m) (masks_of G m) (omega (arith, masks_count m)) (Q.masks_fit m).count)
        (part_put a k P.values G.values (omega (arith, F.values_fit)) Q.values_fit)
        (part_put a k P.marks G.marks (omega (arith, F.marks_fit)) Q.marks_fit)

    -- a stretch that doesn't meet it
    pub log_part_below : (b m : ℕ) → b + m ≤ a → log_part b m (put_log a P G) ≡ log_part b m G
    unfolding put_log log_part
    log_part_below b m l =
        same_log (log_part b m (put_log a P G)) (log_part b m G)
        (λ u. log_part_masks b m (put_log a P G) u ∙ ap (part b m) (put_log_masks a P G u)
        ∙ part_put_below a b m (masks_of P u) (masks_of G u) (omega (arith, masks_count u)) l ∙ sym (log_part_masks b m G u))
        (part_put_below a b m P.values G.values (omega (arith, F.values_fit)) l)
        (part_put_below a b m P.marks G.marks (omega (arith, F.marks_fit)) l)

    pub log_part_above : (b m : ℕ) → a + k ≤ b → log_part b m (put_log a P G) ≡ log_part b m G
    unfolding put_log log_part
    log_part_above b m l =
        same_log (log_part b m (put_log a P G)) (log_part b m G)
        (λ u. log_part_masks b m (put_log a P G) u ∙ ap (part b m) (put_log_masks a P G u)
        ∙ part_put_above a b m (masks_of P u) (masks_of G u) (omega (arith, masks_count u)) (omega (arith, (Q.masks_fit u).count)) ∙ sym (log_part_masks b m G u))
        (part_put_above a b m P.values G.values (omega (arith, F.values_fit)) (omega (arith, Q.values_fit)))
        (part_put_above a b m P.marks G.marks (omega (arith, F.marks_fit)) (omega (arith, Q.marks_fit)))

    pub put_log_put : (R : Log) → LogFits n k R → put_log a R (put_log a P G) ≡ put_log a R G
    unfolding put_log
    put_log_put R W =
        same_log (put_log a R (put_log a P G)) (put_log a R G)
        (λ m. put_log_masks a R (put_log a P G) m ∙ ap (put_part a (masks_of R m)) (put_log_masks a P G m)
        ∙ put_put a (masks_of R m) (masks_of P m) (masks_of G m) (omega (arith, masks_count m)) ((W.masks_fit m).count ∙ sym (Q.masks_fit m).count)
        ∙ sym (put_log_masks a R G m))
        (put_put a R.values P.values G.values (omega (arith, F.values_fit)) (W.values_fit ∙ sym Q.values_fit))
        (put_put a R.marks P.marks G.marks (omega (arith, F.marks_fit)) (W.marks_fit ∙ sym Q.marks_fit))

    pub put_log_apart : (b j : ℕ) (R : Log) → LogFits n j R → a + k ≤ b → b + j ≤ t → put_log a P (put_log b R G) ≡ put_log b R (put_log a P G)
    unfolding put_log
    put_log_apart b j R W l r =
        same_log (put_log a P (put_log b R G)) (put_log b R (put_log a P G))
        (λ m. put_log_masks a P (put_log b R G) m ∙ ap (put_part a (masks_of P m)) (put_log_masks b R G m)
        ∙ put_apart a b (masks_of P m) (masks_of R m) (masks_of G m) (omega (arith, (Q.masks_fit m).count)) (omega (arith, (W.masks_fit m).count, masks_count m))
        ∙ sym (put_log_masks b R (put_log a P G) m ∙ ap (put_part b (masks_of R m)) (put_log_masks a P G m)))
        (put_apart a b P.values R.values G.values (omega (arith, Q.values_fit)) (omega (arith, W.values_fit, F.values_fit)))
        (put_apart a b P.marks R.marks G.marks (omega (arith, Q.marks_fit)) (omega (arith, W.marks_fit, F.marks_fit)))

-- What a log's clearing is on a stretch of it.
pub log_part_cleared : (p : ℕ → Bool) (a k : ℕ) (G : Log) → log_part a k (cleared p G) ≡ cleared (λ c. p (a + c)) (log_part a k G)
log_part_cleared p a k G =
    same_log (log_part a k (cleared p G)) (cleared (λ c. p (a + c)) (log_part a k G))
    (λ m. log_part_masks a k (cleared p G) m ∙ ap (part a k) (masks_cleared p G m) ∙ shifted nobody (masks_of G m)
    ∙ ap (map_where (λ c. p (a + c)) nobody 0) (sym (log_part_masks a k G m)) ∙ sym (masks_cleared (λ c. p (a + c)) (log_part a k G) m))
    values
    marks
  where
    shifted : {A : Type 0} (f : A → A) (xs : List A) → part a k (map_where p f 0 xs) ≡ map_where (λ c. p (a + c)) f 0 (part a k xs)
    shifted f xs =
        part_where f p a k xs ∙ where_like f p (λ c. p (a + c)) a 0 (part a k xs) (λ c l. ap p (let z : a + c ≡ a + (0 + c) = omega arith in z))

    values : (log_part a k (cleared p G)).values ≡ (cleared (λ c. p (a + c)) (log_part a k G)).values
    values = unfold log_part cleared in shifted (λ v. 0) G.values

    marks : (log_part a k (cleared p G)).marks ≡ (cleared (λ c. p (a + c)) (log_part a k G)).marks
    marks = unfold log_part cleared in shifted (λ b. false) G.marks

module _ (n k : ℕ) (G : Log) (F : LogFits n k G) where
  -- only what p says of the log's cells counts
  pub cleared_like : (p q : ℕ → Bool) → ((c : ℕ) → c < k → p c ≡ q c) → cleared p G ≡ cleared q G
  unfolding cleared
  cleared_like p q h =
      same_log (cleared p G) (cleared q G) (λ m. masks_cleared p G m ∙ like nobody (masks_of G m) (F.masks_fit m).count ∙ sym (masks_cleared q G m))
      (like (λ v. 0) G.values F.values_fit) (like (λ b. false) G.marks F.marks_fit)
    where
      like : {A : Type 0} (f : A → A) (xs : List A) → length xs ≡ k → map_where p f 0 xs ≡ map_where q f 0 xs
      like f xs e = where_like f p q 0 0 xs (λ c l. let z : 0 + c ≡ c = omega arith in ap p z ∙ h c (omega arith) ∙ ap q (sym z))

  pub cleared_nowhere : (p : ℕ → Bool) → ((c : ℕ) → c < k → p c ≡ false) → cleared p G ≡ G
  unfolding cleared
  cleared_nowhere p h =
      same_log (cleared p G) G (λ m. masks_cleared p G m ∙ none nobody (masks_of G m) (F.masks_fit m).count)
      (none (λ v. 0) G.values F.values_fit) (none (λ b. false) G.marks F.marks_fit)
    where
      none : {A : Type 0} (f : A → A) (xs : List A) → length xs ≡ k → map_where p f 0 xs ≡ xs
      none f xs e = where_none f p 0 xs (λ c l. ap p (let z : 0 + c ≡ c = omega arith in z) ∙ h c (omega arith))

  -- Where p and q differ at a stretch only, a log cleared by p is the one cleared by q, with the stretch as p leaves it.
  pub cleared_put : (p q : ℕ → Bool) (a j : ℕ) → a + j ≤ k → ((i : ℕ) → i < a → p i ≡ q i) → ((i : ℕ) → a + j ≤ i → i < k → p i ≡ q i)
      → cleared p G ≡ put_log a (cleared (λ c. p (a + c)) (log_part a j G)) (cleared q G)
  cleared_put p q a j h before after =
      same_log (cleared p G) (put_log a (cleared (λ c. p (a + c)) (log_part a j G)) (cleared q G))
      (λ m. masks_cleared p G m ∙ both nobody (masks_of G m) (F.masks_fit m).count
      ∙ sym (put_log_masks a (cleared (λ c. p (a + c)) (log_part a j G)) (cleared q G) m
      ∙ ap₂ (put_part a) (masks_cleared (λ c. p (a + c)) (log_part a j G) m ∙ ap (map_where (λ c. p (a + c)) nobody 0) (log_part_masks a j G m)) (masks_cleared q G m)))
      values
      marks
    where
      both : {A : Type 0} (f : A → A) (xs : List A) → length xs ≡ k
          → map_where p f 0 xs ≡ put_part a (map_where (λ c. p (a + c)) f 0 (part a j xs)) (map_where q f 0 xs)
      both f xs e =
          where_put f p q a j xs (omega arith) before (λ i l m. after i l (omega arith))
          ∙ ap (λ r. put_part a r (map_where q f 0 xs))
          (where_like f p (λ c. p (a + c)) a 0 (part a j xs) (λ c l. ap p (let z : a + c ≡ a + (0 + c) = omega arith in z)))

      values : (cleared p G).values ≡ (put_log a (cleared (λ c. p (a + c)) (log_part a j G)) (cleared q G)).values
      values = unfold log_part put_log cleared in both (λ v. 0) G.values F.values_fit

      marks : (cleared p G).marks ≡ (put_log a (cleared (λ c. p (a + c)) (log_part a j G)) (cleared q G)).marks
      marks = unfold log_part put_log cleared in both (λ b. false) G.marks F.marks_fit

-- ---- states

-- A state of k cells, with masks of n threads.
pub record StateFits (n k : ℕ) (z : LockState) : Type 0 where
  pub cells_fit : length z.cells ≡ k
  pub log_fits : LogFits n k z.log

module _ (n t : ℕ) (z : LockState) (F : StateFits n t z) where
  pub view_fits : (a k : ℕ) → a + k ≤ t → StateFits n k (view_of a k z)
  unfolding view_of
  view_fits a k h =
      record { cells_fit = part_size a k z.cells (omega (arith, F.cells_fit)); log_fits = log_part_fits n t z.log F.log_fits a k h }

  -- a view put back where it is from
  pub put_view_lem : (a k : ℕ) → a + k ≤ t → put_view a (view_of a k z) z ≡ z
  unfolding put_view view_of
  put_view_lem a k h =
      λ i. record {
        row = z.row;
        enabled = z.enabled;
        saved = z.saved;
        regs = z.regs;
        cells = put_part_lem a k z.cells (omega (arith, F.cells_fit)) i;
        log = put_log_part n t z.log F.log_fits a k h i;
        group_log = z.group_log;
        rows = z.rows;
        steps = z.steps;
        barriers = z.barriers;
      }

  module _ (a k : ℕ) (v : LockState) (U : StateFits n k v) (h : a + k ≤ t) where
    -- the view of a state with a view put back
    pub view_put : view_of a k (put_view a v z) ≡ v
    unfolding put_view view_of
    view_put =
        λ i. record {
          row = v.row;
          enabled = v.enabled;
          saved = v.saved;
          regs = v.regs;
          cells = part_put a k v.cells z.cells (omega (arith, F.cells_fit)) U.cells_fit i;
          log = log_part_put n t z.log F.log_fits a k v.log U.log_fits h i;
          group_log = v.group_log;
          rows = v.rows;
          steps = v.steps;
          barriers = v.barriers;
        }

    -- another stretch has its cells and log as before
    pub cells_below : (b m : ℕ) → b + m ≤ a → (view_of b m (put_view a v z)).cells ≡ (view_of b m z).cells
    unfolding put_view view_of
    cells_below b m l = part_put_below a b m v.cells z.cells (omega (arith, F.cells_fit)) l

    pub cells_above : (b m : ℕ) → a + k ≤ b → (view_of b m (put_view a v z)).cells ≡ (view_of b m z).cells
    unfolding put_view view_of
    cells_above b m l = part_put_above a b m v.cells z.cells (omega (arith, F.cells_fit)) (omega (arith, U.cells_fit))

    pub log_below : (b m : ℕ) → b + m ≤ a → (view_of b m (put_view a v z)).log ≡ (view_of b m z).log
    unfolding put_view view_of
    log_below b m l = log_part_below n t z.log F.log_fits a k v.log U.log_fits h b m l

    pub log_above : (b m : ℕ) → a + k ≤ b → (view_of b m (put_view a v z)).log ≡ (view_of b m z).log
    unfolding put_view view_of
    log_above b m l = log_part_above n t z.log F.log_fits a k v.log U.log_fits h b m l

-- ---- the stretches of a launch

module _ (L : Shape) (z : LockState) (S : Sized L z) where
  pub sized_fits : StateFits L.threads (total L) z
  sized_fits =
      record {
        cells_fit = S.cells_are;
        log_fits = record { masks_fit = S.masks_are; values_fit = S.values_are; marks_fit = S.marks_are };
      }

  -- the own cells stand before the global ones
  pub own_before : own_from L + L.cells ≤ global_from L
  own_before = subst (λ j. j ≤ global_from L) (suc-mul L.group L.cells) (mul-le-mul_right L.cells S.group_in)

  pub own_within : own_from L + L.cells ≤ total L
  unfolding total
  own_within = omega (arith, own_before)

  pub global_within : global_from L + L.global ≤ total L
  unfolding total
  global_within = omega arith
