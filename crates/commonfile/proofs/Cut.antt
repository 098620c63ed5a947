-- A file that is cut off behind enough bytes reads as the whole one, line by line. Assumes nothing.
use mathlib.Core.Path.{◌≡◌, refl, sym, ap, subst}
use mathlib.Core.Logic.{◌⊎◌, inl, inr}
use mathlib.Core.List.{List, [], ◌∷◌}
use mathlib.Core.Bool.{Bool, true, false, cond, and-eq-true_iff}
use mathlib.Core.Option.{Option, none, some}
use Prim.Native.Nat.{ℕ, zero, suc, ◌+◌, ◌-◌, ◌<◌, ◌≤◌}
use Prim.Native.String.{String}
use native.Mathlib.Omega.{arith}
use borrow.Author.Tests.{lt-ltb, le-ltb}
use lib.Dec.{eqb, ltb}
use lib.ListN.{length, take}
use lib.Seq.{take-nil}
use Rattle.spec.specs.Lists.{equal_list}
use Rattle.spec.specs.Text.{text, newline, equals, Halves, starting_with, split_at}
use Rattle.spec.specs.LaunchFile.{Read, stop, read, Reader, continue, given, line_value, is_due, due}
use Rattle.spec.proofs.Laws.{lt_or_le}

-- The two halves of a text of which only the first b bytes are there.
unfoldable halves_cut : ℕ → Option Halves → Option Halves
halves_cut b none = none
halves_cut b (some h) = cond (ltb (length h.before) b) (some (record { before = h.before; behind = take (b - suc (length h.before)) h.behind })) none

module _ (b : ℕ) (h : Halves) where
  shorter : length h.before < b → halves_cut b (some h) ≡ some (record { before = h.before; behind = take (b - suc (length h.before)) h.behind })
  unfolding halves_cut
  shorter l = rw (lt-ltb (length h.before) b l)

  longer : b ≤ length h.before → halves_cut b (some h) ≡ none
  unfolding halves_cut
  longer l = rw (le-ltb (length h.before) b l)

none_left : (o : Option Halves) → halves_cut 0 o ≡ none
none_left none = unfold halves_cut in refl
none_left (some h) = longer 0 h (omega arith)

module _ (b x : ℕ) (xs : List ℕ) where
  behind_first : (h : Halves) → starting_with x (halves_cut b (some h)) ≡ halves_cut (suc b) (starting_with x (some h))
  unfolding starting_with
  behind_first h = by (lt_or_le (length h.before) b)
    where
      g : Halves
      g = record { before = x ∷ h.before; behind = h.behind }

      by : (length h.before < b) ⊎ (b ≤ length h.before) → starting_with x (halves_cut b (some h)) ≡ halves_cut (suc b) (some g)
      by (inl l) =
          let e : suc b - suc (suc (length h.before)) ≡ b - suc (length h.before) = omega arith in
          rw (shorter b h l, shorter (suc b) g (omega arith), e)
      by (inr l) = rw (longer b h l, longer (suc b) g (omega arith))

  first_or_behind : (t : Bool) (o : Option Halves)
      → cond t (some (record { before = []; behind = take b xs })) (starting_with x (halves_cut b o))
      ≡ halves_cut (suc b) (cond t (some (record { before = []; behind = xs })) (starting_with x o))
  first_or_behind true o =
      let e : suc b - suc 0 ≡ b = omega arith in
      rw (shorter (suc b) (record { before = []; behind = xs }) (omega arith), e)
  first_or_behind false none = unfold starting_with halves_cut in refl
  first_or_behind false (some h) = behind_first h

split_cut : (c b : ℕ) (s : List ℕ) → split_at c (take b s) ≡ halves_cut b (split_at c s)
unfolding split_at halves_cut
split_cut c b [] = rw (take-nil {A = ℕ} b)
split_cut c zero (x ∷ xs) = sym (none_left (split_at c (x ∷ xs)))
split_cut c (suc b) (x ∷ xs) = rw (split_cut c b xs) (first_or_behind b x xs (eqb x c) (split_at c xs))

-- The halves and the byte between them are the whole.
abbrev Whole : List ℕ → Option Halves → Type 0
Whole s none = Unit {0}
Whole s (some h) = length s ≡ length h.before + 1 + length h.behind

split_whole : (c : ℕ) (s : List ℕ) → Whole s (split_at c s)
unfolding split_at
split_whole c [] = tt
split_whole c (x ∷ xs) = by (eqb x c) (split_at c xs) (split_whole c xs)
  where
    by : (t : Bool) (o : Option Halves) → Whole xs o → Whole (x ∷ xs) (cond t (some (record { before = []; behind = xs })) (starting_with x o))
    by true o w = omega arith
    by false none w = unfold starting_with in tt
    by false (some h) w = unfold starting_with in (omega arith)

split_long : (c : ℕ) (s : List ℕ) {h : Halves} → split_at c s ≡ some h → length s ≡ length h.before + 1 + length h.behind
split_long c s e = subst (Whole s) e (split_whole c s)

false_true : {B : Type 0} → false ≡ true → B
false_true e = let z : ◌≡◌ {A = ℕ} 0 1 = cc in absurd (omega arith)

pub equal_long : (s t : List ℕ) → equal_list s t ≡ true → length s ≡ length t
unfolding equal_list
equal_long [] [] e = refl
equal_long [] (y ∷ ys) e = false_true e
equal_long (x ∷ xs) [] e = false_true e
equal_long (x ∷ xs) (y ∷ ys) e = ap suc (equal_long xs ys ((and-eq-true_iff (eqb x y) (equal_list xs ys)).0 e).1)

-- What a line gives that has these bytes before its end.
abbrev line_of : {A : Type 0} → String → (List ℕ → Option A) → Halves → Option (A × List ℕ)
line_of key reads line =
    given (split_at equals line.before) λ parts.
    given (cond (equal_list parts.before (text key)) (reads parts.behind) none) λ value.
    some (value, line.behind)

-- A line that is not the one due, or the value that it tells, whatever stands behind it.
data Says {A : Type 0} (key : String) (reads : List ℕ → Option A) (before : List ℕ) : Type 0 where
  says_none : ((behind : List ℕ) → line_of key reads (record { before = before; behind = behind }) ≡ none) → Says key reads before
  says : (v : A) (value : List ℕ) → reads value ≡ some v → length before ≡ length (text key) + 1 + length value
      → ((behind : List ℕ) → line_of key reads (record { before = before; behind = behind }) ≡ some (v, behind)) → Says key reads before

module _ {A : Type 0} (key : String) (reads : List ℕ → Option A) (before : List ℕ) where
  by_value : (parts : Halves) → split_at equals before ≡ some parts → equal_list parts.before (text key) ≡ true → (o : Option A) → reads parts.behind ≡ o
      → Says key reads before
  unfolding given
  by_value parts p e none q = says_none (λ behind. rw (p, e, q))
  by_value parts p e (some v) q =
      says v parts.behind q (omega (arith, split_long equals before p, equal_long parts.before (text key) e)) (λ behind. rw (p, e, q))

  by_name : (parts : Halves) → split_at equals before ≡ some parts → (t : Bool) → equal_list parts.before (text key) ≡ t → Says key reads before
  unfolding given
  by_name parts p true e = by_value parts p e (reads parts.behind) refl
  by_name parts p false e = says_none (λ behind. rw (p, e))

  by_parts : (o : Option Halves) → split_at equals before ≡ o → Says key reads before
  unfolding given
  by_parts none p = says_none (λ behind. rw p)
  by_parts (some parts) p = by_name parts p (equal_list parts.before (text key)) refl

-- The whole and its front read alike: the same refusal; or the same value, of which P holds, and `left` bytes of the front are left.
pub record Alike {A : Type 0} (P : A → (left : ℕ) → Type 0) (a : A) (line : ℕ) (rest : List ℕ) (cut : Read A) : Type 0 where
  pub left : ℕ
  pub holds : P a left
  pub same : cut ≡ read a line (take left rest)

abbrev pub Decided : {A : Type 0} → (A → (left : ℕ) → Type 0) → (whole cut : Read A) → Type 0
Decided P (stop why) cut = cut ≡ stop why
Decided P (read a line rest) cut = Alike P a line rest cut

pub continues : {A B : Type 0} (P : A → ℕ → Type 0) (Q : B → ℕ → Type 0) (whole cut : Read A) (f : A → Reader B) → Decided P whole cut
    → ((a : A) (line : ℕ) (rest : List ℕ) (left : ℕ) → P a left → Decided Q (f a line rest) (f a line (take left rest)))
    → Decided Q (continue whole f) (continue cut f)
unfolding continue
continues P Q (stop why) cut f d g = ap (λ r. continue r f) d
continues P Q (read a line rest) cut f d g = subst (λ r. Decided Q (f a line rest) (continue r f)) (sym d.same) (g a line rest d.left d.holds)

-- A line that was due, and what its bytes leave of b.
pub record Line {A : Type 0} (key : String) (reads : List ℕ → Option A) (b : ℕ) (v : A) (left : ℕ) : Type 0 where
  pub value : List ℕ
  pub means : reads value ≡ some v
  pub size : b ≡ length (text key) + length value + 2 + left

module _ {A : Type 0} (key : String) (reads : List ℕ → Option A) (k : ℕ) (short : (v : A) (value : List ℕ) → reads value ≡ some v → length value ≤ k)
    (b : ℕ) (enough : length (text key) + k + 2 ≤ b) (line : ℕ) where
  by_line : (h : Halves) → Says key reads h.before → (length h.before < b) ⊎ (b ≤ length h.before)
      → Decided (Line key reads b) (is_due line (line_of key reads h)) (is_due line (given (halves_cut b (some h)) (line_of key reads)))
  unfolding is_due given
  by_line h (says_none n) (inl l) = rw (shorter b h l, n h.behind, n (take (b - suc (length h.before)) h.behind))
  by_line h (says_none n) (inr l) = rw (longer b h l, n h.behind)
  by_line h (says v value e s n) (inl l) =
      rw (shorter b h l, n h.behind, n (take (b - suc (length h.before)) h.behind))
      (record { left = b - suc (length h.before); holds = record { value = value; means = e; size = omega arith }; same = refl })
  by_line h (says v value e s n) (inr l) = absurd (omega (arith, short v value e))

  by_split : (o : Option Halves) → Decided (Line key reads b) (is_due line (given o (line_of key reads))) (is_due line (given (halves_cut b o) (line_of key reads)))
  unfolding given is_due halves_cut
  by_split none = refl
  by_split (some h) = by_line h (by_parts key reads h.before (split_at equals h.before) refl) (lt_or_le (length h.before) b)

  -- A front of b bytes is long enough for this line: one that does not fit is too long to be due.
  pub due_cut : (rest : List ℕ) → Decided (Line key reads b) (due key reads line rest) (due key reads line (take b rest))
  unfolding due line_value
  due_cut rest = rw (split_cut newline b rest) (by_split (split_at newline rest))
