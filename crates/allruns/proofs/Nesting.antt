-- How a well-formed table nests: where the constructs that are open at a row end, and what is open there. Assumes nothing.
use mathlib.Core.Path.{◌≡◌, refl, sym, ◌∙◌, ap, ap₂, subst}
use mathlib.Core.Logic.{◌⊎◌, inl, inr, ⊎_elim}
use mathlib.Core.List.{List, [], ◌∷◌, ◌++◌, tail, cons≢nil}
use mathlib.Core.Bool.{Bool, true, false}
use Prim.Native.Nat.{ℕ, zero, suc, ◌+◌, ◌-◌, ◌<◌, ◌≤◌}
use native.Mathlib.Omega.{arith}
use lib.ListN.{length, drop}
use lib.Seq.{drop-cons}
use Rattle.spec.specs.Op.{Op, CALC, MEM, IF, ELSE, ENDIF, WHILE, ENDWHILE, BARRIER, UNKNOWN}
use Rattle.spec.specs.Table.{Fits, Role, Row, Table, WellFormed, closing, dividing, else_of, end_of, innermost, no_row, open_before, opened_by, opening}
use Rattle.spec.specs.Table.{past_else, plain, role, row_at, scan, scan_row}

unfoldable pub is_while : Op → Bool
is_while (CALC c) = false
is_while (MEM p m) = false
is_while IF = false
is_while ELSE = false
is_while ENDIF = false
is_while WHILE = true
is_while ENDWHILE = false
is_while BARRIER = false
is_while UNKNOWN = false

-- A scan never goes back.
pub scan_ge : (half : Bool) (xs : List Row) (k at : ℕ) → at ≤ scan half xs k at
unfolding scan scan_row
scan_ge half [] k at = omega arith
scan_ge half (x ∷ xs) k at = by (role x.op) k half (λ h j. scan_ge h xs j (suc at))
  where
    by : (f : Role) (k : ℕ) (half : Bool) → ((h : Bool) (j : ℕ) → suc at ≤ scan h xs j (suc at)) → at ≤ scan_row f half k at (λ j. scan half xs j (suc at))
    by plain k half g = omega (arith, g half k)
    by opening k half g = omega (arith, g half (suc k))
    by dividing zero true g = omega arith
    by dividing zero false g = omega (arith, g false zero)
    by dividing (suc j) half g = omega (arith, g half (suc j))
    by closing zero half g = omega arith
    by closing (suc j) half g = omega (arith, g half j)

-- A scan that has more constructs to leave ends later or at the same place.
pub scan_deeper : (xs : List Row) (k at : ℕ) → scan false xs k at ≤ scan false xs (suc k) at
unfolding scan scan_row
scan_deeper [] k at = omega arith
scan_deeper (x ∷ xs) k at = by (role x.op) k (λ j. scan_deeper xs j (suc at)) (λ j. scan_ge false xs j (suc at))
  where
    by : (f : Role) (k : ℕ) → ((j : ℕ) → scan false xs j (suc at) ≤ scan false xs (suc j) (suc at)) → ((j : ℕ) → suc at ≤ scan false xs j (suc at))
        → scan_row f false k at (λ j. scan false xs j (suc at)) ≤ scan_row f false (suc k) at (λ j. scan false xs j (suc at))
    by plain k g h = g k
    by opening k g h = g (suc k)
    by dividing zero g h = g zero
    by dividing (suc j) g h = g (suc j)
    by closing zero g h = omega (arith, h zero)
    by closing (suc j) g h = g j

-- One row of a scan.
pub scan_step : (T : Table) (half : Bool) (r k : ℕ) → r < length T
    → scan half (drop r T) k r ≡ scan_row (role (row_at T r).op) half k r (λ j. scan half (drop (suc r) T) j (suc r))
unfolding scan row_at
scan_step T half r k l = ap (λ xs. scan half xs k r) (drop-cons T r no_row l)

-- What is outside a construct's row: an ELSE's own IF is not.
unfoldable pub outer : Role → List ℕ → List ℕ
outer plain os = os
outer opening os = os
outer dividing os = tail os
outer closing os = os

-- The construct o, k levels out, is open before row r: a scan from r ends where one from o does, and around it are the constructs os.
pub record Opened (T : Table) (r k o : ℕ) (os : List ℕ) : Type 0 where
  pub above : o < r
  pub inside : o < length T
  pub opens : (role (row_at T o).op ≡ opening) ⊎ (role (row_at T o).op ≡ dividing)
  pub ending : end_of T o ≡ scan false (drop r T) k r
  pub parts : (row_at T o).op ≡ IF → scan true (drop (suc o) T) 0 (suc o) ≡ scan true (drop r T) k r
  pub around : outer (role (row_at T o).op) (Rattle.spec.specs.Table.open_before T o) ≡ os

abbrev pub AllOpened : Table → ℕ → ℕ → List ℕ → Type 0
AllOpened T r k [] = Unit {0}
AllOpened T r k (o ∷ os) = Opened T r k o os × AllOpened T r (suc k) os

-- One more row, by what it does to the levels of the constructs that stay open.
opened_on : (T : Table) (r : ℕ) (R : ℕ → ℕ → Type 0) → ((k l : ℕ) → R k l → R (suc k) (suc l))
    → ((half : Bool) (k l : ℕ) → R k l → scan half (drop r T) k r ≡ scan half (drop (suc r) T) l (suc r))
    → (k l : ℕ) (os : List ℕ) → R k l → AllOpened T r k os → AllOpened T (suc r) l os
opened_on T r R up f k l [] h a = tt
opened_on T r R up f k l (o ∷ os) h a = (
  record {
    above = omega (arith, a.0.above);
    inside = a.0.inside;
    opens = a.0.opens;
    ending = a.0.ending ∙ f false k l h;
    parts = λ e. a.0.parts e ∙ f true k l h;
    around = a.0.around;
  },
  opened_on T r R up f (suc k) (suc l) os (up k l h) a.1,
)

tail_opened : (T : Table) (r k : ℕ) (os : List ℕ) → AllOpened T r k os → AllOpened T r (suc k) (tail os)
tail_opened T r k [] a = tt
tail_opened T r k (o ∷ os) a = a.1

module _ (T : Table) (r : ℕ) (l : r < length T) where
  -- the row itself, newly open
  fresh : (os : List ℕ) → (role (row_at T r).op ≡ opening) ⊎ (role (row_at T r).op ≡ dividing) → outer (role (row_at T r).op) (open_before T r) ≡ os
      → Opened T (suc r) 0 r os
  unfolding end_of
  fresh os o q = record { above = omega arith; inside = l; opens = o; ending = refl; parts = λ e. refl; around = q }

  level : Role → ℕ → ℕ → Type 0
  level plain k m = k ≡ m
  level opening k m = suc k ≡ m
  level dividing k m = (k ≡ m) × (0 < k)
  level closing k m = k ≡ suc m

  level_step : (f : Role) → role (row_at T r).op ≡ f → (half : Bool) (k m : ℕ) → level f k m
      → scan half (drop r T) k r ≡ scan half (drop (suc r) T) m (suc r)
  unfolding level scan_row
  level_step f q half k m h = scan_step T half r k l ∙ ap (λ g. scan_row g half k r (λ j. scan half (drop (suc r) T) j (suc r))) q ∙ by f k m h
    where
      on : ℕ → ℕ
      on j = scan half (drop (suc r) T) j (suc r)

      by : (f : Role) (k m : ℕ) → level f k m → scan_row f half k r on ≡ on m
      by plain k m h = ap on h
      by opening k m h = ap on h
      by dividing zero m h = absurd (omega arith)
      by dividing (suc j) m h = ap on h.0
      by closing zero m h = absurd (omega arith)
      by closing (suc j) m h = ap on (let z : j ≡ m = omega arith in z)

  level_up : (f : Role) (k m : ℕ) → level f k m → level f (suc k) (suc m)
  unfolding level
  level_up plain k m h = ap suc h
  level_up opening k m h = ap suc h
  level_up dividing k m h = (ap suc h.0, omega arith)
  level_up closing k m h = ap suc h

  over : (f : Role) → role (row_at T r).op ≡ f → (k m : ℕ) (os : List ℕ) → level f k m → AllOpened T r k os → AllOpened T (suc r) m os
  over f q k m os h a = opened_on T r (level f) (level_up f) (level_step f q) k m os h a

  -- what is open before the next row
  grown : (f : Role) → role (row_at T r).op ≡ f → Fits (row_at T r).op (innermost T (open_before T r)) → AllOpened T r 0 (open_before T r)
      → AllOpened T (suc r) 0 (opened_by f r (open_before T r))
  unfolding level opened_by outer
  grown plain q w a = over plain q 0 0 (open_before T r) refl a
  grown opening q w a = (fresh (open_before T r) (inl q) (ap (λ f. outer f (open_before T r)) q), over opening q 0 1 (open_before T r) refl a)
  grown dividing q w a = (
    fresh (tail (open_before T r)) (inr q) (ap (λ f. outer f (open_before T r)) q),
    over dividing q 1 1 (tail (open_before T r)) (refl, omega arith)
        (tail_opened T r 0 (open_before T r) a),
  )
  grown closing q w a = over closing q 1 0 (tail (open_before T r)) refl (tail_opened T r 0 (open_before T r) a)

pub all_opened : (T : Table) → WellFormed T → (r : ℕ) → r ≤ length T → AllOpened T r 0 (open_before T r)
unfolding open_before
all_opened T w zero l = tt
all_opened T w (suc r) l = grown T r l (role (row_at T r).op) refl (w.fitting r l) (all_opened T w r (omega arith))

-- The innermost construct at a row.
pub innermost_at : (T : Table) → WellFormed T → (r o : ℕ) (os : List ℕ) → r ≤ length T → open_before T r ≡ o ∷ os → Opened T r 0 o os
innermost_at T w r o os l q = (subst (AllOpened T r 0) q (all_opened T w r l)).0

-- A closing row is the end of the innermost construct.
pub end_here : (T : Table) → WellFormed T → (r o : ℕ) (os : List ℕ) → r < length T → open_before T r ≡ o ∷ os → role (row_at T r).op ≡ closing → end_of T o ≡ r
unfolding scan_row
end_here T w r o os l q c =
    (innermost_at T w r o os (omega arith) q).ending ∙ scan_step T false r 0 l ∙ ap (λ f. scan_row f false 0 r (λ j. scan false (drop (suc r) T) j (suc r))) c

half_here : (T : Table) → WellFormed T → (r o : ℕ) (os : List ℕ) → r < length T → open_before T r ≡ o ∷ os
    → (role (row_at T r).op ≡ closing) ⊎ (role (row_at T r).op ≡ dividing) → (row_at T o).op ≡ IF → scan true (drop (suc o) T) 0 (suc o) ≡ r
unfolding scan_row
half_here T w r o os l q c i =
    (innermost_at T w r o os (omega arith) q).parts i ∙ scan_step T true r 0 l
    ∙ ⊎_elim
    (λ c. ap (λ f. scan_row f true 0 r (λ j. scan true (drop (suc r) T) j (suc r))) c)
    (λ c. ap (λ f. scan_row f true 0 r (λ j. scan true (drop (suc r) T) j (suc r))) c)
    c

-- Where a false IF goes: past its ELSE, or to its ENDIF.
pub else_of_else : (T : Table) → WellFormed T → (r o : ℕ) (os : List ℕ) → r < length T → open_before T r ≡ o ∷ os → (row_at T r).op ≡ ELSE
    → (row_at T o).op ≡ IF → else_of T o ≡ suc r
unfolding else_of past_else role
else_of_else T w r o os l q c i = ap (λ h. past_else (row_at T h).op h) (half_here T w r o os l q (inr (ap role c)) i) ∙ ap (λ p. past_else p r) c

pub else_of_endif : (T : Table) → WellFormed T → (r o : ℕ) (os : List ℕ) → r < length T → open_before T r ≡ o ∷ os → (row_at T r).op ≡ ENDIF
    → (row_at T o).op ≡ IF → else_of T o ≡ r
unfolding else_of past_else role
else_of_endif T w r o os l q c i = ap (λ h. past_else (row_at T h).op h) (half_here T w r o os l q (inl (ap role c)) i) ∙ ap (λ p. past_else p r) c

-- After the end of a construct what was outside it is open.
pub record Left (T : Table) (e : ℕ) (os : List ℕ) : Type 0 where
  pub within : e < length T
  pub leaves : open_before T (suc e) ≡ os

pub none_between : (ks : List ℕ) (o : ℕ) (os : List ℕ) → [] ≡ ks ++ (o ∷ os) → ⊥
none_between [] o os p = cons≢nil (sym p)
none_between (k ∷ ks) o os p = cons≢nil (sym p)

pub leave : (T : Table) → WellFormed T → (m r : ℕ) (ks : List ℕ) (o : ℕ) (os : List ℕ) → r + m ≡ length T → open_before T r ≡ ks ++ (o ∷ os)
    → Left T (scan false (drop r T) (length ks) r) os
unfolding scan_row open_before opened_by
leave T w zero r ks o os f q = absurd (none_between ks o os (sym w.closed ∙ ap (open_before T) (let z : length T ≡ r = omega arith in z) ∙ q))
leave T w (suc m) r ks o os f q =
    subst (λ e. Left T e os) (sym (scan_step T false r (length ks) l))
    (by (role (row_at T r).op) ks q refl (λ ks o z. leave T w m (suc r) ks o os (omega arith) z))
  where
    l : r < length T
    l = omega arith

    by : (g : Role) (ks : List ℕ) → open_before T r ≡ ks ++ (o ∷ os) → role (row_at T r).op ≡ g
        → ((ks : List ℕ) (o : ℕ) → open_before T (suc r) ≡ ks ++ (o ∷ os) → Left T (scan false (drop (suc r) T) (length ks) (suc r)) os)
        → Left T (scan_row g false (length ks) r (λ j. scan false (drop (suc r) T) j (suc r))) os
    by plain ks q c ih = ih ks o (ap₂ (λ g x. opened_by g r x) c q)
    by opening ks q c ih = ih (r ∷ ks) o (ap₂ (λ g x. opened_by g r x) c q)
    by dividing [] q c ih = ih [] r (ap₂ (λ g x. opened_by g r x) c q)
    by dividing (k ∷ ks) q c ih = ih (r ∷ ks) o (ap₂ (λ g x. opened_by g r x) c q)
    by closing [] q c ih = record { within = l; leaves = ap₂ (λ g x. opened_by g r x) c q }
    by closing (k ∷ ks) q c ih = ih ks o (ap₂ (λ g x. opened_by g r x) c q)

pub after_end : (T : Table) → WellFormed T → (r : ℕ) → r < length T → role (row_at T r).op ≡ opening → Left T (end_of T r) (open_before T r)
unfolding end_of open_before opened_by
after_end T w r l c = leave T w (length T - suc r) (suc r) [] r (open_before T r) (omega arith) (ap (λ g. opened_by g r (open_before T r)) c)

pub scan_least : (xs : List Row) (k at : ℕ) → scan false xs 0 at ≤ scan false xs k at
scan_least xs zero at = omega arith
scan_least xs (suc k) at = omega (arith, scan_least xs k at, scan_deeper xs k at)

-- A scan that ends at r or later passes r.
passes : (T : Table) (e m at r k : ℕ) → at + m ≡ r → r < length T → r ≤ e → scan false (drop at T) k at ≡ e → (j : ℕ) × (scan false (drop r T) j r ≡ e)
unfolding scan_row
passes T e zero at r k f l b q = (k, ap (λ z. scan false (drop z T) k z) (let z : r ≡ at = omega arith in z) ∙ q)
passes T e (suc m) at r k f l b q =
    by (role (row_at T at).op) k (sym (scan_step T false at k (omega arith)) ∙ q) (λ j z. passes T e m (suc at) r j (omega arith) l b z)
  where
    by : (g : Role) (k : ℕ) → scan_row g false k at (λ j. scan false (drop (suc at) T) j (suc at)) ≡ e
        → ((j : ℕ) → scan false (drop (suc at) T) j (suc at) ≡ e → (j : ℕ) × (scan false (drop r T) j r ≡ e)) → (j : ℕ) × (scan false (drop r T) j r ≡ e)
    by plain k z ih = ih k z
    by opening k z ih = ih (suc k) z
    by dividing zero z ih = ih zero z
    by dividing (suc j) z ih = ih (suc j) z
    by closing zero z ih = absurd (omega arith)
    by closing (suc j) z ih = ih j z

-- A construct ends within the one around it.
pub end_nested : (T : Table) (i r : ℕ) → i < r → r < length T → r ≤ end_of T i → role (row_at T r).op ≡ opening → end_of T r ≤ end_of T i
unfolding end_of scan_row
end_nested T i r a l b c = go (passes T (end_of T i) (r - suc i) (suc i) r 0 (omega arith) l b refl)
  where
    go : (j : ℕ) × (scan false (drop r T) j r ≡ end_of T i) → end_of T r ≤ end_of T i
    go p =
        let q : scan false (drop (suc r) T) (suc p.0) (suc r) ≡ end_of T i =
        sym (ap (λ g. scan_row g false p.0 r (λ j. scan false (drop (suc r) T) j (suc r))) c) ∙ sym (scan_step T false r p.0 l) ∙ p.1 in
        omega (arith, q, scan_least (drop (suc r) T) (suc p.0) (suc r))

-- A scan with more constructs to leave ends strictly later, where the one with fewer ends in the table.
pub scan_strict : (half : Bool) (xs : List Row) (j k at : ℕ) → j < k → scan false xs j at < at + length xs → scan false xs j at < scan half xs k at
unfolding scan scan_row
scan_strict half [] j k at l b = absurd (omega arith)
scan_strict half (x ∷ xs) j k at l b = by (role x.op) j k l b (λ j k l b. scan_strict half xs j k (suc at) l (omega arith)) (λ j. scan_ge half xs j (suc at))
  where
    by : (f : Role) (j k : ℕ) → j < k → scan_row f false j at (λ j. scan false xs j (suc at)) < at + suc (length xs)
        → ((j k : ℕ) → j < k → scan false xs j (suc at) < at + suc (length xs) → scan false xs j (suc at) < scan half xs k (suc at))
        → ((j : ℕ) → suc at ≤ scan half xs j (suc at))
        → scan_row f false j at (λ j. scan false xs j (suc at)) < scan_row f half k at (λ j. scan half xs j (suc at))
    by plain j k l b ih ge = ih j k l b
    by opening j k l b ih ge = ih (suc j) (suc k) (omega arith) b
    by dividing j zero l b ih ge = absurd (omega arith)
    by dividing zero (suc k) l b ih ge = ih zero (suc k) l b
    by dividing (suc j) (suc k) l b ih ge = ih (suc j) (suc k) l b
    by closing j zero l b ih ge = absurd (omega arith)
    by closing zero (suc k) l b ih ge = ge k
    by closing (suc j) (suc k) l b ih ge = ih j k (omega arith) b
