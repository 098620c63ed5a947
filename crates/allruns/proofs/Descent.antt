-- Random descent: a machine whose different moves close a diamond makes runs of one length.
-- Assumes nothing.
use mathlib.Core.Path.{◌≡◌, refl, sym, ◌∙◌, ap, subst}
use mathlib.Core.List.{List, [], ◌∷◌, ◌++◌, append_assoc}
use mathlib.Core.Logic.{◌⊎◌, inl, inr}
use Prim.Native.Nat.{ℕ, zero, suc, ◌+◌, ◌≤◌}
use native.Mathlib.Omega.{arith}
use lib.ListN.{length, length-append}
use mathlib.Core.Bool.{Bool, cond}
use Rattle.spec.specs.Runs.{Machine, many}
use Rattle.spec.specs.Runs as runs

module _ (K : Machine) where
  abbrev Run : K.State → List K.Move → Type 0
  Run s ms = runs.Run K s ms

  abbrev after : K.State → List K.Move → K.State
  after s ms = runs.after K s ms

  abbrev shown_to : K.Observer → K.State → List K.Move → List K.Shown
  shown_to w s ms = runs.shown_to K w s ms

  abbrev RunsAlwaysEnd : K.State → Type 0
  RunsAlwaysEnd s = runs.RunsAlwaysEnd K s

  -- Two moves that are possible at one state: either order leads to the same, or the second is bad after the first, or the first is bad.
  pub data Close (s : K.State) (a b : K.Move) : Type 0 where
    meet : K.Possible (K.next s a) b → K.Possible (K.next s b) a → K.next (K.next s a) b ≡ K.next (K.next s b) a
        → ((w : K.Observer) → K.shows w s a ++ K.shows w (K.next s a) b ≡ K.shows w s b ++ K.shows w (K.next s b) a) → Close s a b
    clash : K.Possible (K.next s a) b → K.Bad (K.next (K.next s a) b) → Close s a b
    dead : K.Bad (K.next s a) → Close s a b

  pub record Laws : Type 0 where
    pub same : (a b : K.Move) → Dec (a ≡ b)
    pub end_last : (s : K.State) (m : K.Move) → K.Ended s → K.Possible s m → ⊥
    pub bad_last : (s : K.State) (m : K.Move) → K.Bad s → K.Possible s m → ⊥
    pub end_good : (s : K.State) → K.Ended s → K.Bad s → ⊥
    pub diamond : (s : K.State) (a b : K.Move) → K.Possible s a → K.Possible s b → ¬ (a ≡ b) → Close s a b

  -- What is left of the whole run ks from s after the move b: a whole run from there, shorter by one, that sees the rest and ends in the same state.
  pub record Rest (s : K.State) (b : K.Move) (ks : List K.Move) : Type 0 where
    pub moves : List K.Move
    pub run : Run (K.next s b) moves
    pub ended : K.Ended (after (K.next s b) moves)
    pub shorter : suc (length moves) ≡ length ks
    pub classed : (p : K.Move → Bool) → cond (p b) 1 0 + many p moves ≡ many p ks
    pub sees : (w : K.Observer) → K.shows w s b ++ shown_to w (K.next s b) moves ≡ shown_to w s ks
    pub there : after (K.next s b) moves ≡ after s ks

  pub bad_no_run : Laws → (s : K.State) (ks : List K.Move) → Run s ks → K.Ended (after s ks) → K.Bad s → ⊥
  bad_no_run L s [] r e b = L.end_good s e b
  bad_no_run L s (m ∷ ms) r e b = L.bad_last s m b r.0

  rest_same : (s : K.State) (a b : K.Move) (ks : List K.Move) → Run (K.next s a) ks → K.Ended (after (K.next s a) ks) → a ≡ b → Rest s b (a ∷ ks)
  rest_same s a b ks r e p =
      subst
      (λ m. Rest s m (a ∷ ks))
      p
      (record { moves = ks; run = r; ended = e; shorter = refl; classed = λ p. refl; sees = λ w. refl; there = refl })

  -- A whole run from the near corner of a diamond is one from the far corner, led by the other move.
  rest_meet : (s : K.State) (a b : K.Move) (ks : List K.Move) → K.Possible (K.next s b) a
      → K.next (K.next s a) b ≡ K.next (K.next s b) a
      → ((w : K.Observer) → K.shows w s a ++ K.shows w (K.next s a) b ≡ K.shows w s b ++ K.shows w (K.next s b) a)
      → Rest (K.next s a) b ks → Rest s b (a ∷ ks)
  rest_meet s a b ks l p q h =
      record {
        moves = a ∷ h.moves;
        run = (l, subst (λ t. Run t h.moves) p h.run);
        ended = subst (λ t. K.Ended (after t h.moves)) p h.ended;
        shorter = ap suc h.shorter;
        classed = λ c. omega (arith, h.classed c);
        sees = λ w.
            sym (append_assoc (K.shows w s b) (K.shows w (K.next s b) a) _)
            ∙ ap (λ x. x ++ shown_to w (K.next (K.next s b) a) h.moves) (sym (q w))
            ∙ append_assoc (K.shows w s a) (K.shows w (K.next s a) b) _
            ∙ ap (λ t. K.shows w s a ++ (K.shows w (K.next s a) b ++ shown_to w t h.moves)) (sym p)
            ∙ ap (λ x. K.shows w s a ++ x) (h.sees w);
        there = ap (λ t. after t h.moves) (sym p) ∙ h.there;
      }

  pub shift : Laws → (s : K.State) (ks : List K.Move) (b : K.Move) → Run s ks → K.Ended (after s ks) → K.Possible s b → Rest s b ks
  shift L s [] b r e c = absurd (L.end_last s b e c)
  shift L s (a ∷ ks) b r e c = same (L.same a b) (shift L (K.next s a) ks b r.1 e)
    where
      s₁ : K.State
      s₁ = K.next s a

      closed : (K.Possible (K.next s a) b → Rest (K.next s a) b ks) → Close s a b → Rest s b (a ∷ ks)
      closed ih (dead d) = absurd (bad_no_run L (K.next s a) ks r.1 e d)
      closed ih (clash k d) = absurd (bad_no_run L (K.next (K.next s a) b) (ih k).moves (ih k).run (ih k).ended d)
      closed ih (meet k l p q) = rest_meet s a b ks l p q (ih k)

      same : Dec (a ≡ b) → (K.Possible (K.next s a) b → Rest (K.next s a) b ks) → Rest s b (a ∷ ks)
      same (yes p) ih = rest_same s a b ks r.1 e p
      same (no n) ih = closed ih (L.diamond s a b r.0 c n)

  -- A run ms from s carried on to a whole one, beside a given whole run ks.
  pub record Carried (s : K.State) (ms ks : List K.Move) : Type 0 where
    pub more : List K.Move
    pub run : Run (after s ms) more
    pub ended : K.Ended (after (after s ms) more)
    pub count : length ms + length more ≡ length ks
    pub classed : (p : K.Move → Bool) → many p ms + many p more ≡ many p ks
    pub sees : (w : K.Observer) → shown_to w s ms ++ shown_to w (after s ms) more ≡ shown_to w s ks
    pub there : after (after s ms) more ≡ after s ks

  pub carry : Laws → (s : K.State) (ms ks : List K.Move) → Run s ks → K.Ended (after s ks) → Run s ms → Carried s ms ks
  carry L s [] ks r e u = record { more = ks; run = r; ended = e; count = omega arith; classed = λ p. omega arith; sees = λ w. refl; there = refl }
  carry L s (m ∷ ms) ks r e u = on (shift L s ks m r e u.0) (λ h. carry L (K.next s m) ms h.moves h.run h.ended u.1)
    where
      on : (h : Rest s m ks) → ((h : Rest s m ks) → Carried (K.next s m) ms h.moves) → Carried s (m ∷ ms) ks
      on h f =
          record {
            more = (f h).more;
            run = (f h).run;
            ended = (f h).ended;
            count = omega (arith, (f h).count, h.shorter);
            classed = λ p. omega (arith, (f h).classed p, h.classed p);
            sees = λ w. append_assoc (K.shows w s m) _ _ ∙ ap (λ x. K.shows w s m ++ x) ((f h).sees w) ∙ h.sees w;
            there = (f h).there ∙ h.there;
          }

  -- What one whole run says of all runs from the same state.
  pub record Same (s : K.State) (ks : List K.Move) : Type 0 where
    pub all : RunsAlwaysEnd s
    pub good : (ms : List K.Move) → Run s ms → K.Bad (after s ms) → ⊥
    pub count : (ms : List K.Move) → Run s ms → K.Ended (after s ms) → length ms ≡ length ks
    pub classed : (p : K.Move → Bool) (ms : List K.Move) → Run s ms → K.Ended (after s ms) → many p ms ≡ many p ks
    pub sees : (w : K.Observer) (ms : List K.Move) → Run s ms → K.Ended (after s ms) → shown_to w s ms ≡ shown_to w s ks
    -- in every run, carried to its end or not, what a watcher has seen is the first part of what it sees in the whole one
    pub prefix : (w : K.Observer) (ms : List K.Move) → Run s ms → (rest : List K.Shown) × (shown_to w s ms ++ rest ≡ shown_to w s ks)
    pub there : (ms : List K.Move) → Run s ms → K.Ended (after s ms) → after s ms ≡ after s ks

  -- A whole run has nothing more to come.
  no_more : Laws → (s : K.State) (ms ks : List K.Move) → K.Ended (after s ms) → (c : Carried s ms ks) → c.more ≡ []
  no_more L s ms ks e c = go c.more c.run
    where
      go : (ls : List K.Move) → Run (after s ms) ls → ls ≡ []
      go [] u = refl
      go (m ∷ ls) u = absurd (L.end_last (after s ms) m e u.0)

  -- With a whole run in hand, a state that cannot go on is an end, since the carried run has no first move.
  ended_here : (s : K.State) (ms ks : List K.Move) → ((m : K.Move) → K.Possible (after s ms) m → ⊥) → Carried s ms ks → K.Ended (after s ms)
  ended_here s ms ks stop c = go c.more c.run c.ended
    where
      go : (ls : List K.Move) → Run (after s ms) ls → K.Ended (after (after s ms) ls) → K.Ended (after s ms)
      go [] u e = e
      go (m ∷ ls) u e = absurd (stop m u.0)

  append-nil : (xs : List K.Shown) → xs ++ [] ≡ xs
  append-nil [] = refl
  append-nil (x ∷ xs) = ap (λ l. x ∷ l) (append-nil xs)

  pub descent : Laws → (s : K.State) (ks : List K.Move) → Run s ks → K.Ended (after s ks) → Same s ks
  descent L s ks r e =
      record {
        all = record {
          bound = length ks;
          bounded = λ ms u. let h = (carry L s ms ks r e u).count in omega arith;
          ends = λ ms u stop. ended_here s ms ks stop (carry L s ms ks r e u);
        };
        good = λ ms u b. let c = carry L s ms ks r e u in bad_no_run L (after s ms) c.more c.run c.ended b;
        count = λ ms u w. let c = carry L s ms ks r e u in
            let z : length c.more ≡ 0 = ap length (no_more L s ms ks w c) in
            omega (arith, z, c.count);
        classed = λ p ms u w. let c = carry L s ms ks r e u in
            let z : many p c.more ≡ 0 = ap (many p) (no_more L s ms ks w c) in
            omega (arith, z, c.classed p);
        sees = λ v ms u w. let c = carry L s ms ks r e u in
            sym (append-nil (shown_to v s ms)) ∙ ap (λ l. shown_to v s ms ++ shown_to v (after s ms) l) (sym (no_more L s ms ks w c)) ∙ c.sees v;
        prefix = λ v ms u. let c = carry L s ms ks r e u in (shown_to v (after s ms) c.more, c.sees v);
        there = λ ms u w. let c = carry L s ms ks r e u in ap (after (after s ms)) (sym (no_more L s ms ks w c)) ∙ c.there;
      }

  pub run_append : (s : K.State) (ks ms : List K.Move) → Run s ks → Run (after s ks) ms → Run s (ks ++ ms)
  run_append s [] ms r u = u
  run_append s (k ∷ ks) ms r u = (r.0, run_append (K.next s k) ks ms r.1 u)

  pub after_append : (s : K.State) (ks ms : List K.Move) → after s (ks ++ ms) ≡ after (after s ks) ms
  after_append s [] ms = refl
  after_append s (k ∷ ks) ms = after_append (K.next s k) ks ms

  pub seen_append : (w : K.Observer) (s : K.State) (ks ms : List K.Move) → shown_to w s (ks ++ ms) ≡ shown_to w s ks ++ shown_to w (after s ks) ms
  seen_append w s [] ms = refl
  seen_append w s (k ∷ ks) ms = ap (λ l. K.shows w s k ++ l) (seen_append w (K.next s k) ks ms) ∙ sym (append_assoc (K.shows w s k) _ _)

  pub many_append : (p : K.Move → Bool) (ks ms : List K.Move) → many p (ks ++ ms) ≡ many p ks + many p ms
  many_append p [] ms = omega arith
  many_append p (k ∷ ks) ms = omega (arith, many_append p ks ms)

  -- What holds of all runs holds of those that go on from a run.
  pub all_after : (s : K.State) (ks : List K.Move) → Run s ks → RunsAlwaysEnd s → RunsAlwaysEnd (after s ks)
  all_after s ks r a =
      record {
        bound = a.bound;
        bounded = λ ms u. let h = a.bounded (ks ++ ms) (run_append s ks ms r u) in omega (arith, h, length-append ks ms);
        ends = λ ms u stop.
            subst K.Ended (after_append s ks ms)
            (a.ends (ks ++ ms) (run_append s ks ms r u) (λ m c. stop m (subst (λ z. K.Possible z m) (after_append s ks ms) c)));
      }

  -- A run that comes to its end, where all do and it can be told whether a move is possible.
  pub finish : ((s : K.State) → ((m : K.Move) × K.Possible s m) ⊎ ((m : K.Move) → K.Possible s m → ⊥)) → (b : ℕ) (s : K.State)
      → ((ms : List K.Move) → Run s ms → length ms ≤ b)
      → ((ms : List K.Move) → Run s ms → ((m : K.Move) → K.Possible (after s ms) m → ⊥) → K.Ended (after s ms))
      → (ms : List K.Move) × Run s ms × K.Ended (after s ms)
  finish some zero s bounded ends = by (some s)
    where
      by : ((m : K.Move) × K.Possible s m) ⊎ ((m : K.Move) → K.Possible s m → ⊥) → (ms : List K.Move) × Run s ms × K.Ended (after s ms)
      by (inl p) = absurd (let h : 1 ≤ 0 = bounded (p.0 ∷ []) (p.1, tt) in omega arith)
      by (inr n) = ([], tt, ends [] tt n)
  finish some (suc b) s bounded ends = by (some s)
      (λ m c. finish some b (K.next s m) (λ ms u. let h : suc (length ms) ≤ suc b = bounded (m ∷ ms) (c, u) in omega arith) (λ ms u. ends (m ∷ ms) (c, u)))
    where
      by : ((m : K.Move) × K.Possible s m) ⊎ ((m : K.Move) → K.Possible s m → ⊥)
          → ((m : K.Move) → K.Possible s m → (ms : List K.Move) × Run (K.next s m) ms × K.Ended (after (K.next s m) ms))
          → (ms : List K.Move) × Run s ms × K.Ended (after s ms)
      by (inl p) f = let g = f p.0 p.1 in (p.0 ∷ g.0, (p.1, g.1), g.2)
      by (inr n) f = ([], tt, ends [] tt n)
