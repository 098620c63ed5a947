-- Two machines side by side: a run of the pair is a run of each, and the pair's runs end well exactly when those of each do. Assumes nothing.
use mathlib.Core.Path.{◌≡◌, refl, sym, ◌∙◌, ap, ap₂, subst}
use mathlib.Core.Logic.{◌⊎◌, inl, inr}
use mathlib.Core.List.{List, [], ◌∷◌, ◌++◌, map}
use Prim.Native.Nat.{ℕ, zero, suc, ◌+◌, ◌≤◌}
use native.Mathlib.Omega.{arith}
use lib.ListN.{length}
use Rattle.spec.specs.Runs.{Machine, Run, after, shown_to, Halted, RunsAlwaysEnd}
use Rattle.spec.specs.Pairs.{firsts, seconds, pair}

-- Moves, of both and of each.
pub pair_length : {A B : Type 0} (ms : List (A ⊎ B)) → length ms ≡ length (firsts ms) + length (seconds ms)
pair_length [] = refl
pair_length (inl m ∷ ms) = omega (arith, pair_length ms)
pair_length (inr m ∷ ms) = omega (arith, pair_length ms)

-- All moves of the first and then all of the second.
abbrev pub in_turns : {A B : Type 0} → List A → List B → List (A ⊎ B)
in_turns [] ks = map inr ks
in_turns (m ∷ ms) ks = inl m ∷ in_turns ms ks

pub firsts_in_turns : {A B : Type 0} (ms : List A) (ks : List B) → firsts (in_turns ms ks) ≡ ms
firsts_in_turns [] [] = refl
firsts_in_turns [] (k ∷ ks) = firsts_in_turns [] ks
firsts_in_turns (m ∷ ms) ks = ap (λ l. m ∷ l) (firsts_in_turns ms ks)

pub seconds_in_turns : {A B : Type 0} (ms : List A) (ks : List B) → seconds (in_turns ms ks) ≡ ks
seconds_in_turns [] [] = refl
seconds_in_turns [] (k ∷ ks) = ap (λ l. k ∷ l) (seconds_in_turns [] ks)
seconds_in_turns (m ∷ ms) ks = seconds_in_turns ms ks

map-append : {A B : Type 0} (f : A → B) (xs ys : List A) → map f (xs ++ ys) ≡ map f xs ++ map f ys
map-append f [] ys = refl
map-append f (x ∷ xs) ys = ap (λ l. f x ∷ l) (map-append f xs ys)

-- Where the runs from a state are bounded and it can be told whether a move is possible, one of them can't be carried on.
abbrev pub Tells : Machine → Type 0
Tells K = (s : K.State) → ((m : K.Move) × K.Possible s m) ⊎ Halted K s

pub halting : (K : Machine) → Tells K → (b : ℕ) (s : K.State) → ((ms : List K.Move) → Run K s ms → length ms ≤ b)
    → (ms : List K.Move) × Run K s ms × Halted K (after K s ms)
halting K some zero s bounded = by (some s)
  where
    by : ((m : K.Move) × K.Possible s m) ⊎ Halted K s → (ms : List K.Move) × Run K s ms × Halted K (after K s ms)
    by (inl p) = absurd (let h : 1 ≤ 0 = bounded (p.0 ∷ []) (p.1, tt) in omega arith)
    by (inr n) = ([], tt, n)
halting K some (suc b) s bounded =
    by (some s) (λ m c. halting K some b (K.next s m) (λ ms u. let h : suc (length ms) ≤ suc b = bounded (m ∷ ms) (c, u) in omega arith))
  where
    by : ((m : K.Move) × K.Possible s m) ⊎ Halted K s
        → ((m : K.Move) → K.Possible s m → (ms : List K.Move) × Run K (K.next s m) ms × Halted K (after K (K.next s m) ms))
        → (ms : List K.Move) × Run K s ms × Halted K (after K s ms)
    by (inl p) f = let g = f p.0 p.1 in (p.0 ∷ g.0, (p.1, g.1), g.2)
    by (inr n) f = ([], tt, n)

module _ (K L : Machine) where
  -- A run of the pair is a run of each.
  pub first_run : (s : K.State) (t : L.State) (ms : List (K.Move ⊎ L.Move)) → Run (pair K L) (s, t) ms → Run K s (firsts ms)
  first_run s t [] r = tt
  first_run s t (inl m ∷ ms) r = (r.0, first_run (K.next s m) t ms r.1)
  first_run s t (inr m ∷ ms) r = first_run s (L.next t m) ms r.1

  pub second_run : (s : K.State) (t : L.State) (ms : List (K.Move ⊎ L.Move)) → Run (pair K L) (s, t) ms → Run L t (seconds ms)
  second_run s t [] r = tt
  second_run s t (inl m ∷ ms) r = second_run (K.next s m) t ms r.1
  second_run s t (inr m ∷ ms) r = (r.0, second_run s (L.next t m) ms r.1)

  -- And any order of a run of the one and a run of the other is one of the pair.
  pub both_run : (s : K.State) (t : L.State) (ms : List (K.Move ⊎ L.Move)) → Run K s (firsts ms) → Run L t (seconds ms) → Run (pair K L) (s, t) ms
  both_run s t [] r u = tt
  both_run s t (inl m ∷ ms) r u = (r.0, both_run (K.next s m) t ms r.1 u)
  both_run s t (inr m ∷ ms) r u = (u.0, both_run s (L.next t m) ms r u.1)

  -- It leaves what the two leave.
  pub both_after : (s : K.State) (t : L.State) (ms : List (K.Move ⊎ L.Move)) → after (pair K L) (s, t) ms ≡ (after K s (firsts ms), after L t (seconds ms))
  both_after s t [] = refl
  both_after s t (inl m ∷ ms) = both_after (K.next s m) t ms
  both_after s t (inr m ∷ ms) = both_after s (L.next t m) ms

  -- An observer of one of them is shown what that shows.
  pub first_shown : (w : K.Observer) (s : K.State) (t : L.State) (ms : List (K.Move ⊎ L.Move))
      → shown_to (pair K L) (inl w) (s, t) ms ≡ map inl (shown_to K w s (firsts ms))
  first_shown w s t [] = refl
  first_shown w s t (inl m ∷ ms) =
      ap (λ l. map inl (K.shows w s m) ++ l) (first_shown w (K.next s m) t ms) ∙ sym (map-append inl (K.shows w s m) (shown_to K w (K.next s m) (firsts ms)))
  first_shown w s t (inr m ∷ ms) = first_shown w s (L.next t m) ms

  pub second_shown : (w : L.Observer) (s : K.State) (t : L.State) (ms : List (K.Move ⊎ L.Move))
      → shown_to (pair K L) (inr w) (s, t) ms ≡ map inr (shown_to L w t (seconds ms))
  second_shown w s t [] = refl
  second_shown w s t (inl m ∷ ms) = second_shown w (K.next s m) t ms
  second_shown w s t (inr m ∷ ms) =
      ap (λ l. map inr (L.shows w t m) ++ l) (second_shown w s (L.next t m) ms) ∙ sym (map-append inr (L.shows w t m) (shown_to L w (L.next t m) (seconds ms)))

  -- A run of each, made one behind the other.
  pub turns_run : (s : K.State) (t : L.State) (ms : List K.Move) (ks : List L.Move) → Run K s ms → Run L t ks → Run (pair K L) (s, t) (in_turns ms ks)
  turns_run s t ms ks r u =
      both_run s t (in_turns ms ks) (subst (Run K s) (sym (firsts_in_turns ms ks)) r) (subst (Run L t) (sym (seconds_in_turns ms ks)) u)

  pub turns_after : (s : K.State) (t : L.State) (ms : List K.Move) (ks : List L.Move) → after (pair K L) (s, t) (in_turns ms ks) ≡ (after K s ms, after L t ks)
  turns_after s t ms ks =
      both_after s t (in_turns ms ks) ∙ ap₂ (λ a b. (after K s a, after L t b)) (firsts_in_turns ms ks) (seconds_in_turns ms ks)

  -- The pair can't go on exactly when neither can.
  pub halted_each : (s : K.State) (t : L.State) → Halted (pair K L) (s, t) → Halted K s × Halted L t
  halted_each s t h = (λ m c. h (inl m) c, λ m c. h (inr m) c)

  pub halted_both : (s : K.State) (t : L.State) → Halted K s → Halted L t → Halted (pair K L) (s, t)
  halted_both s t h k (inl m) c = h m c
  halted_both s t h k (inr m) c = k m c

  -- Where the runs of each always come to an end, so do those of the pair, with as many moves at the most as both have.
  pub always_both : (s : K.State) (t : L.State) → RunsAlwaysEnd K s → RunsAlwaysEnd L t → RunsAlwaysEnd (pair K L) (s, t)
  always_both s t a b =
      record {
        bound = a.bound + b.bound;
        bounded = λ ms r.
            let f = a.bounded (firsts ms) (first_run s t ms r) in
            let g = b.bounded (seconds ms) (second_run s t ms r) in
            omega (arith, f, g, pair_length ms);
        ends = λ ms r h.
            let e = both_after s t ms in
            let k = halted_each _ _ (subst (Halted (pair K L)) e h) in
            subst (pair K L).Ended (sym e) (a.ends (firsts ms) (first_run s t ms r) k.0, b.ends (seconds ms) (second_run s t ms r) k.1);
      }

  -- Where the runs of the pair always come to an end, so do those of each: the other is carried on until it can't be.
  bounded_first : (s : K.State) (t : L.State) (a : RunsAlwaysEnd (pair K L) (s, t)) (ms : List K.Move) → Run K s ms → length ms ≤ a.bound
  bounded_first s t a ms r =
      let h = a.bounded (in_turns ms []) (turns_run s t ms [] r tt) in
      let e = pair_length {B = L.Move} (in_turns ms []) in
      let f = ap length (firsts_in_turns {B = L.Move} ms []) in
      omega (arith, h, e, f)

  bounded_second : (s : K.State) (t : L.State) (a : RunsAlwaysEnd (pair K L) (s, t)) (ks : List L.Move) → Run L t ks → length ks ≤ a.bound
  bounded_second s t a ks u =
      let h = a.bounded (in_turns [] ks) (turns_run s t [] ks tt u) in
      let e = pair_length {A = K.Move} (in_turns [] ks) in
      let f = ap length (seconds_in_turns {A = K.Move} [] ks) in
      omega (arith, h, e, f)

  both_end : (s : K.State) (t : L.State) → RunsAlwaysEnd (pair K L) (s, t) → (ms : List K.Move) (ks : List L.Move) → Run K s ms → Run L t ks
      → Halted K (after K s ms) → Halted L (after L t ks) → K.Ended (after K s ms) × L.Ended (after L t ks)
  both_end s t a ms ks r u h k =
      let e = turns_after s t ms ks in
      subst (pair K L).Ended e (a.ends (in_turns ms ks) (turns_run s t ms ks r u) (subst (Halted (pair K L)) (sym e) (halted_both _ _ h k)))

  pub always_first : Tells L → (s : K.State) (t : L.State) → RunsAlwaysEnd (pair K L) (s, t) → RunsAlwaysEnd K s
  always_first some s t a =
      record {
        bound = a.bound;
        bounded = bounded_first s t a;
        ends = λ ms r h. let z = halting L some a.bound t (bounded_second s t a) in (both_end s t a ms z.0 r z.1 h z.2).0;
      }

  pub always_second : Tells K → (s : K.State) (t : L.State) → RunsAlwaysEnd (pair K L) (s, t) → RunsAlwaysEnd L t
  always_second some s t a =
      record {
        bound = a.bound;
        bounded = bounded_second s t a;
        ends = λ ks u k. let z = halting K some a.bound s (bounded_first s t a) in (both_end s t a z.0 ks z.1 u z.2 k).1;
      }

  -- What is bad.
  pub good_both : (s : K.State) (t : L.State) → ((ms : List K.Move) → Run K s ms → K.Bad (after K s ms) → ⊥)
      → ((ks : List L.Move) → Run L t ks → L.Bad (after L t ks) → ⊥)
      → (ms : List (K.Move ⊎ L.Move)) → Run (pair K L) (s, t) ms → (pair K L).Bad (after (pair K L) (s, t) ms) → ⊥
  good_both s t f g ms r b = by (subst (pair K L).Bad (both_after s t ms) b)
    where
      by : K.Bad (after K s (firsts ms)) ⊎ L.Bad (after L t (seconds ms)) → ⊥
      by (inl x) = f (firsts ms) (first_run s t ms r) x
      by (inr x) = g (seconds ms) (second_run s t ms r) x

  pub good_each : (s : K.State) (t : L.State)
      → ((ms : List (K.Move ⊎ L.Move)) → Run (pair K L) (s, t) ms → (pair K L).Bad (after (pair K L) (s, t) ms) → ⊥)
      → ((ms : List K.Move) → Run K s ms → K.Bad (after K s ms) → ⊥) × ((ks : List L.Move) → Run L t ks → L.Bad (after L t ks) → ⊥)
  good_each s t f = (
    λ ms r b. f (in_turns ms []) (turns_run s t ms [] r tt) (subst (pair K L).Bad (sym (turns_after s t ms [])) (inl b)),
    λ ks u b. f (in_turns [] ks) (turns_run s t [] ks tt u) (subst (pair K L).Bad (sym (turns_after s t [] ks)) (inr b)),
  )
