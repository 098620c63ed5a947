-- What the lent list holds between two rows: the records of the intervals that are over, and the one that goes on. Assumes nothing.
use mathlib.Core.Path.{◌≡◌, refl, sym, ◌∙◌, ap}
use mathlib.Core.List.{List, [], ◌∷◌, ◌++◌}
use mathlib.Core.Logic.{⊎_elim}
use Prim.Native.Nat.{ℕ, zero, suc, ◌+◌, ◌-◌, ◌*◌, ◌<◌, ◌≤◌}
use native.Mathlib.Omega.{arith}
use borrow.Author.Tests.{lt-ltb, le-ltb}
use lib.ListN.{length, get_or, set, drop, length-drop}
use lib.Seq.{get_or-append-add, drop-drop, drop-set-lt, set-get_or}
use Rattle.spec.specs.Limits.{records_lent}
use Rattle.spec.specs.Steps.{sum}
use Rattle.spec.specs.Intervals.{Interval, Intervals, all_of, started, with_row, together, records_of, record_words, conflicts_of}
use Rattle.spec.specs.Entries.{over}
use Rattle.spec.proofs.Laws.{lt_or_le}
use Rattle.intervals.specs.Records.{in_use, begun, ended, charged, released, costs_up_to, RecordAsks, EndAsks, goes_on, Ledger}

-- Words behind others.
set_behind : (xs ys : List ℕ) (j v : ℕ) → set (xs ++ ys) (length xs + j) v ≡ xs ++ set ys j v
set_behind [] ys j v = ap (λ k. set ys k v) (let z : 0 + j ≡ j = omega arith in z)
set_behind (x ∷ xs) ys j v = ap (λ k. set (x ∷ (xs ++ ys)) k v) (let z : suc (length xs) + j ≡ suc (length xs + j) = omega arith in z) ∙ ap (λ l. x ∷ l) (set_behind xs ys j v)

-- Three words a record.
words_size : (is : List Interval) → length (record_words is) ≡ length is * 3
unfolding record_words
words_size [] = refl
words_size (i ∷ is) = let z = words_size is in omega arith

words_more : (is : List Interval) (i : Interval) (behind : List ℕ)
    → record_words (is ++ (i ∷ [])) ++ behind ≡ record_words is ++ (i.start ∷ i.rows ∷ i.cost ∷ behind)
unfolding record_words
words_more [] i behind = refl
words_more (j ∷ is) i behind = ap (λ l. j.start ∷ j.rows ∷ j.cost ∷ l) (words_more is i behind)

module _ (is : List Interval) (k : ℕ) (e : length is ≡ k) (behind : List ℕ) where
  at_word : (j : ℕ) → length (record_words is) + j ≡ k * 3 + j
  at_word j = omega (arith, words_size is)

  get_word : (j : ℕ) → get_or (record_words is ++ behind) (k * 3 + j) 0 ≡ get_or behind j 0
  get_word j = ap (λ (p : ℕ). get_or (record_words is ++ behind) p 0) (sym (at_word j)) ∙ get_or-append-add (record_words is) behind j 0

  set_word : (j v : ℕ) → set (record_words is ++ behind) (k * 3 + j) v ≡ record_words is ++ set behind j v
  set_word j v = ap (λ p. set (record_words is ++ behind) p v) (sym (at_word j)) ∙ set_behind (record_words is) behind j v

-- The costs of the records, added up from the first on.
costs_behind : (n a b c : ℕ) (l : List ℕ) → costs_up_to (suc n) (a ∷ b ∷ c ∷ l) ≡ c + costs_up_to n l
unfolding costs_up_to
costs_behind zero a b c l = let z : 0 + c ≡ c + 0 = omega arith in z
costs_behind (suc n) a b c l =
    let first = costs_behind n a b c l in
    let next : get_or (a ∷ b ∷ c ∷ l) (suc n * 3 + 2) 0 ≡ get_or l (n * 3 + 2) 0 =
    ap (λ (p : ℕ). get_or (a ∷ b ∷ c ∷ l) p 0) (let z : suc n * 3 + 2 ≡ suc (suc (suc (n * 3 + 2))) = omega arith in z) in
    omega (arith, first, next)

costs_words : (is : List Interval) (behind : List ℕ) → costs_up_to (length is) (record_words is ++ behind) ≡ conflicts_of is
unfolding record_words conflicts_of sum
costs_words [] behind = unfold costs_up_to in refl
costs_words (i ∷ is) behind = costs_behind (length is) i.start i.rows i.cost (record_words is ++ behind) ∙ ap (λ k. i.cost + k) (costs_words is behind)

conflicts_more : (is : List Interval) (i : Interval) → conflicts_of (is ++ (i ∷ [])) ≡ conflicts_of is + i.cost
unfolding conflicts_of sum
conflicts_more [] i = let z : i.cost + 0 ≡ 0 + i.cost = omega arith in z
conflicts_more (j ∷ is) i = let z = conflicts_more is i in omega arith

size_more : (is : List Interval) (i : Interval) → length (is ++ (i ∷ [])) ≡ length is + 1
size_more [] i = refl
size_more (j ∷ is) i = let z = size_more is i in omega arith

append_more : (is js : List Interval) (i : Interval) → is ++ (i ∷ js) ≡ (is ++ (i ∷ [])) ++ js
append_more [] js i = refl
append_more (j ∷ is) js i = ap (λ l. j ∷ l) (append_more is js i)

goes_new : (s : ℕ) (is : Intervals) → is.first.start ≡ s → goes_on s 0 0 is ≡ is
goes_new s is e =
    let rows : 0 + is.first.rows ≡ is.first.rows = omega arith in
    let cost : 0 + is.first.cost ≡ is.first.cost = omega arith in
    λ j. record { first = record { start = sym e j; rows = rows j; cost = cost j }; later = is.later }

goes_row : (s r c x k : ℕ) (is : Intervals) → goes_on s r c (with_row x k is) ≡ goes_on s (r + 1) (c + k) is
unfolding with_row
goes_row s r c x k is =
    let rows : r + suc is.first.rows ≡ r + 1 + is.first.rows = omega arith in
    let cost : c + (k + is.first.cost) ≡ c + k + is.first.cost = omega arith in
    λ j. record { first = record { start = s; rows = rows j; cost = cost j }; later = is.later }

-- An interval that ends here, with the others behind it. Where it started is not looked at: it goes on with the start that it has.
abbrev pub ends_here : (y : ℕ) → Intervals → Intervals
ends_here y is = record { first = (started y).first; later = all_of is }

abbrev over_with : (s r c : ℕ) → Interval
over_with s r c = record { start = s; rows = r; cost = c }

goes_over : (s r c y : ℕ) (is : Intervals) → all_of (goes_on s r c (ends_here y is)) ≡ over_with s r c ∷ all_of is
unfolding all_of started
goes_over s r c y is =
    let rows : r + 0 ≡ r = omega arith in
    let cost : c + 0 ≡ c = omega arith in
    λ j. record { start = s; rows = rows j; cost = cost j } ∷ is.first ∷ is.later

-- From then on in the same record.
goes_capped : (s r c y : ℕ) (is : Intervals) → records_of 0 (all_of (goes_on s r c (ends_here y is))) ≡ records_of 0 (all_of (goes_on s r c is))
goes_capped s r c y is = ap (records_of 0) (goes_over s r c y is) ∙ (unfold records_of all_of together in refl)

records_one : (k : ℕ) (i : Interval) → records_of k (i ∷ []) ≡ i ∷ []
unfolding records_of together
records_one zero i = refl
records_one (suc k) i = refl

begun_front : (row rows : ℕ) (l : List ℕ) → 3 ≤ length l → set (set (set l 0 row) 1 rows) 2 0 ≡ row ∷ rows ∷ 0 ∷ drop 3 l
begun_front row rows [] h = absurd (omega arith)
begun_front row rows (a ∷ []) h = absurd (omega arith)
begun_front row rows (a ∷ b ∷ []) h = absurd (omega arith)
begun_front row rows (a ∷ b ∷ c ∷ l) h = refl

-- The first record is begun once.
pub begun_once : (lent records : List ℕ) → 3 ≤ length lent → records ≡ begun 0 0 0 lent → records ≡ begun 0 0 0 records
unfolding begun
begun_once lent records h e =
    let front = e ∙ begun_front 0 0 lent h in
    front ∙ sym (ap (begun 0 0 0) front)

pub over_begun : (w lent : List ℕ) → 3 ≤ length w → over w (begun 0 0 0 lent) ≡ over w lent
unfolding over begun
over_begun w lent h =
    ap (λ l. w ++ l)
    (drop-set-lt (length w) (set (set lent 0 0) 1 0) 2 0 (omega arith) ∙ drop-set-lt (length w) (set lent 0 0) 1 0 (omega arith)
    ∙ drop-set-lt (length w) lent 0 0 (omega arith))

pub ledger_start : (whole : List Interval) (lent : List ℕ) (rest : Intervals) (records : List ℕ) → records_lent ≤ length lent → records ≡ begun 0 0 0 lent
    → rest.first.start ≡ 0 → whole ≡ records_of 1024 (all_of rest) → Ledger whole lent rest 0 0 records
unfolding begun in_use conflicts_of sum record_words
ledger_start whole lent rest records h e z w =
    record {
      finished = [];
      start = 0;
      before = 0;
      cost = 0;
      count = refl;
      words = e ∙ begun_front 0 0 lent (omega arith);
      began = omega arith;
      same = w ∙ ap (λ is. records_of 1024 (all_of is)) (sym (goes_new 0 rest z));
      few = omega arith;
      enough = h;
    }

-- A cost of 0 changes nothing.
pub charged_none : (earlier cost : ℕ) (records : List ℕ) → cost ≡ 0 → charged earlier cost records ≡ records
unfolding charged
charged_none earlier cost records e =
    let p = in_use earlier * 3 + 2 in
    let same : get_or records p 0 + cost ≡ get_or records p 0 = omega arith in
    ap (set records p) same ∙ set-get_or records p 0

module _ (whole : List Interval) (lent : List ℕ) (rest : Intervals) (earlier rows : ℕ) (records : List ℕ) (B : Ledger whole lent rest earlier rows records) where
  abbrev k : ℕ
  k = in_use earlier

  abbrev behind : List ℕ
  behind = drop (k * 3 + 3) lent

  in_use_lem : k ≤ 1024
  in_use_lem = unfold in_use in omega arith

  pub rows_word : get_or records (k * 3 + 1) 0 ≡ B.before
  rows_word = ap (λ l. get_or l (k * 3 + 1) 0) B.words ∙ get_word B.finished k B.count (B.start ∷ B.before ∷ B.cost ∷ behind) 1

  cost_word : get_or records (k * 3 + 2) 0 ≡ B.cost
  cost_word = ap (λ l. get_or l (k * 3 + 2) 0) B.words ∙ get_word B.finished k B.count (B.start ∷ B.before ∷ B.cost ∷ behind) 2

  -- a row may be run: its cost fits
  pub ledger_asks : records_lent ≤ length records → rows < 1000000 → RecordAsks earlier rows records
  ledger_asks h l =
      record { lent = h; room = omega (arith, cost_word, B.few); before = omega (arith, rows_word, B.began) }

  -- a row that ends no interval
  pub ledger_row : (x cost : ℕ) (rest' : Intervals) (records' : List ℕ) → rest ≡ with_row x cost rest' → cost ≤ 31 → records' ≡ charged earlier cost records
      → Ledger whole lent rest' earlier (rows + 1) records'
  unfolding charged
  ledger_row x cost rest' records' e h w =
      record {
        finished = B.finished;
        start = B.start;
        before = B.before;
        cost = B.cost + cost;
        count = B.count;
        words = w ∙ paid;
        began = omega (arith, B.began);
        same = B.same ∙ ap (λ is. B.finished ++ records_of (1024 - k) (all_of is)) longer;
        few = omega (arith, B.few);
        enough = B.enough;
      }
    where
      paid : charged earlier cost records ≡ record_words B.finished ++ (B.start ∷ B.before ∷ (B.cost + cost) ∷ behind)
      paid =
          ap (λ v. set records (k * 3 + 2) (v + cost)) cost_word ∙ ap (λ l. set l (k * 3 + 2) (B.cost + cost)) B.words
          ∙ set_word B.finished k B.count (B.start ∷ B.before ∷ B.cost ∷ behind) 2 (B.cost + cost)

      longer : goes_on B.start (rows - B.before) B.cost rest ≡ goes_on B.start (rows + 1 - B.before) (B.cost + cost) rest'
      longer =
          let more : rows - B.before + 1 ≡ rows + 1 - B.before = omega (arith, B.began) in
          ap (goes_on B.start (rows - B.before) B.cost) e ∙ goes_row B.start (rows - B.before) B.cost x cost rest'
          ∙ ap (λ r. goes_on B.start r (B.cost + cost) rest') more

  -- an interval ends here: the next record is begun, or the last one goes on
  module _ (y row : ℕ) (rest' : Intervals) (records' : List ℕ) (e : rest ≡ ends_here y rest') (z : rest'.first.start ≡ row)
      (w : records' ≡ released earlier row rows records) where
    abbrev finally : Interval
    finally = over_with B.start (rows - B.before) B.cost

    abbrev next_behind : List ℕ
    next_behind = drop ((k + 1) * 3 + 3) lent

    open_next : earlier < 1024 → Ledger whole lent rest' (earlier + 1) rows records'
    unfolding in_use begun ended released records_of
    open_next h =
        record {
          finished = B.finished ++ (finally ∷ []);
          start = row;
          before = rows;
          cost = 0;
          count = size_more B.finished finally ∙ used;
          words = w ∙ written ∙ ap (λ u. record_words (B.finished ++ (finally ∷ [])) ++ (row ∷ rows ∷ 0 ∷ drop (u * 3 + 3) lent)) next;
          began = omega arith;
          same = B.same ∙ whole_is;
          few = omega (arith, conflicts_more B.finished finally, B.few);
          enough = B.enough;
        }
      where
        k_is : k ≡ earlier
        k_is = omega arith

        next : k + 1 ≡ in_use (earlier + 1)
        next = omega arith

        used : length B.finished + 1 ≡ in_use (earlier + 1)
        used = omega (arith, B.count)

        closed : ended earlier rows records ≡ record_words (B.finished ++ (finally ∷ [])) ++ behind
        closed =
            ap (λ b. ended b rows records) (sym k_is) ∙ ap (λ v. set records (k * 3 + 1) (rows - v)) rows_word
            ∙ ap (λ l. set l (k * 3 + 1) (rows - B.before)) B.words
            ∙ set_word B.finished k B.count (B.start ∷ B.before ∷ B.cost ∷ behind) 1 (rows - B.before)
            ∙ sym (words_more B.finished finally behind)

        left : 3 ≤ length behind
        left = omega (arith, length-drop (k * 3 + 3) lent, B.enough)

        fresh : (l : List ℕ) → l ≡ record_words (B.finished ++ (finally ∷ [])) ++ behind
            → begun (k + 1) row rows l ≡ record_words (B.finished ++ (finally ∷ [])) ++ (row ∷ rows ∷ 0 ∷ next_behind)
        fresh l el =
            let P = B.finished ++ (finally ∷ []) in
            let size = size_more B.finished finally ∙ ap (λ n. n + 1) B.count in
            let third : (k + 1) * 3 ≡ (k + 1) * 3 + 0 = omega arith in
            ap (begun (k + 1) row rows) el
            ∙ ap (λ p. set (set (set (record_words P ++ behind) p row) ((k + 1) * 3 + 1) rows) ((k + 1) * 3 + 2) 0) third
            ∙ ap (λ m. set (set m ((k + 1) * 3 + 1) rows) ((k + 1) * 3 + 2) 0) (set_word P (k + 1) size behind 0 row)
            ∙ ap (λ m. set m ((k + 1) * 3 + 2) 0) (set_word P (k + 1) size (set behind 0 row) 1 rows)
            ∙ set_word P (k + 1) size (set (set behind 0 row) 1 rows) 2 0
            ∙ ap (λ m. record_words P ++ m) (begun_front row rows behind left)
            ∙ ap (λ m. record_words P ++ (row ∷ rows ∷ 0 ∷ m)) (drop-drop 3 (k * 3 + 3) lent ∙ ap (λ n. drop n lent) (let y : k * 3 + 3 + 3 ≡ (k + 1) * 3 + 3 = omega arith in y))

        written : released earlier row rows records ≡ record_words (B.finished ++ (finally ∷ [])) ++ (row ∷ rows ∷ 0 ∷ next_behind)
        written = rw (lt-ltb earlier 1024 h) (ap (λ b. begun (b + 1) row rows (ended earlier rows records)) (sym k_is) ∙ fresh (ended earlier rows records) closed)

        whole_is : B.finished ++ records_of (1024 - k) (all_of (goes_on B.start (rows - B.before) B.cost rest))
            ≡ (B.finished ++ (finally ∷ [])) ++ records_of (1024 - in_use (earlier + 1)) (all_of (goes_on row (rows - rows) 0 rest'))
        whole_is =
            let more : 1024 - k ≡ suc (1024 - in_use (earlier + 1)) = omega arith in
            let none : rows - rows ≡ 0 = omega arith in
            let over = ap (λ is. all_of (goes_on B.start (rows - B.before) B.cost is)) e ∙ goes_over B.start (rows - B.before) B.cost y rest' in
            ap (λ is. B.finished ++ records_of (1024 - k) is) over ∙ ap (λ m. B.finished ++ records_of m (finally ∷ all_of rest')) more
            ∙ append_more B.finished (records_of (1024 - in_use (earlier + 1)) (all_of rest')) finally
            ∙ ap (λ is. (B.finished ++ (finally ∷ [])) ++ records_of (1024 - in_use (earlier + 1)) (all_of is))
            (sym (ap (λ r. goes_on row r 0 rest') none ∙ goes_new row rest' z))

    open_last : 1024 ≤ earlier → Ledger whole lent rest' (earlier + 1) rows records'
    unfolding in_use released
    open_last h =
        record {
          finished = B.finished;
          start = B.start;
          before = B.before;
          cost = B.cost;
          count = B.count ∙ same_record;
          words = w ∙ kept ∙ ap (λ u. record_words B.finished ++ (B.start ∷ B.before ∷ B.cost ∷ drop (u * 3 + 3) lent)) same_record;
          began = B.began;
          same = B.same ∙ ap (λ is. B.finished ++ is) capped;
          few = B.few;
          enough = B.enough;
        }
      where
        same_record : k ≡ in_use (earlier + 1)
        same_record = omega arith

        kept : released earlier row rows records ≡ record_words B.finished ++ (B.start ∷ B.before ∷ B.cost ∷ behind)
        kept = rw (le-ltb earlier 1024 h) B.words

        none : (u : ℕ) → u ≡ 1024 → 1024 - u ≡ 0
        none u q = omega arith

        capped : records_of (1024 - k) (all_of (goes_on B.start (rows - B.before) B.cost rest))
            ≡ records_of (1024 - in_use (earlier + 1)) (all_of (goes_on B.start (rows - B.before) B.cost rest'))
        capped =
            let go = goes_on B.start (rows - B.before) B.cost in
            ap (λ m. records_of m (all_of (go rest))) (none k (omega arith)) ∙ ap (λ is. records_of 0 (all_of (go is))) e
            ∙ goes_capped B.start (rows - B.before) B.cost y rest'
            ∙ ap (λ m. records_of m (all_of (go rest'))) (sym (none (in_use (earlier + 1)) (omega arith)))

    -- with a later group
    pub ledger_opens : Ledger whole lent rest' (earlier + 1) rows records'
    ledger_opens = ⊎_elim open_next open_last (lt_or_le earlier 1024)

  -- the run is over: the last record too
  module _ (x : ℕ) (e : rest ≡ started x) where
    abbrev last : Interval
    last = over_with B.start (rows - B.before) B.cost

    whole_is : whole ≡ B.finished ++ (last ∷ [])
    unfolding started all_of
    whole_is =
        let rows_same : rows - B.before + 0 ≡ rows - B.before = omega arith in
        let cost_same : B.cost + 0 ≡ B.cost = omega arith in
        B.same ∙ ap (λ is. B.finished ++ records_of (1024 - k) (all_of (goes_on B.start (rows - B.before) B.cost is))) e
        ∙ (λ j. B.finished ++ records_of (1024 - k) (record { start = B.start; rows = rows_same j; cost = cost_same j } ∷ []))
        ∙ ap (λ is. B.finished ++ is) (records_one (1024 - k) last)

    left_words : ended k rows records ≡ record_words whole ++ behind
    unfolding ended
    left_words =
        ap (λ v. set records (k * 3 + 1) (rows - v)) rows_word ∙ ap (λ l. set l (k * 3 + 1) (rows - B.before)) B.words
        ∙ set_word B.finished k B.count (B.start ∷ B.before ∷ B.cost ∷ behind) 1 (rows - B.before)
        ∙ sym (words_more B.finished last behind) ∙ ap (λ is. record_words is ++ behind) (sym whole_is)

    whole_count : length whole ≡ k + 1
    whole_count = ap length whole_is ∙ size_more B.finished last ∙ ap (λ n. n + 1) B.count

    pub ledger_words : ended k rows records ≡ over (record_words whole) lent
    unfolding over
    ledger_words =
        left_words ∙ ap (λ n. record_words whole ++ drop n lent) (sym (words_size whole ∙ ap (λ n. n * 3) whole_count ∙ (let z : (k + 1) * 3 ≡ k * 3 + 3 = omega arith in z)))

    pub ledger_conflicts : costs_up_to (k + 1) (ended k rows records) ≡ conflicts_of whole
    ledger_conflicts = ap (λ n. costs_up_to n (ended k rows records)) (sym whole_count) ∙ ap (costs_up_to (length whole)) left_words ∙ costs_words whole behind

    pub ledger_few : conflicts_of whole ≤ 31 * rows
    ledger_few = let z = ap conflicts_of whole_is ∙ conflicts_more B.finished last in omega (arith, B.few)

    pub ledger_ends : records_lent ≤ length records → rows ≤ 1000000 → EndAsks earlier rows records
    ledger_ends h l =
        record { lent = h; before = omega (arith, rows_word, B.began); room = omega (arith, ledger_conflicts, ledger_few) }

-- A release is a row, and ends its interval.
pub ledger_release : (whole : List Interval) (lent : List ℕ) (rest : Intervals) (earlier rows : ℕ) (records : List ℕ) → Ledger whole lent rest earlier rows records
    → (x y row : ℕ) (rest' : Intervals) (records' : List ℕ) → rest ≡ with_row x 0 (ends_here y rest') → rest'.first.start ≡ row
    → records' ≡ released earlier row (rows + 1) records → Ledger whole lent rest' (earlier + 1) (rows + 1) records'
ledger_release whole lent rest earlier rows records B x y row rest' records' e z w =
    ledger_opens whole lent (ends_here y rest') earlier (rows + 1) records
    (ledger_row whole lent rest earlier rows records B x 0 (ends_here y rest') records e (omega arith) (sym (charged_none earlier 0 records refl)))
    y row rest' records' refl z w
