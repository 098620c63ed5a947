-- What holds after each number line that was read, and what it comes to at the end. Assumes nothing.
use mathlib.Core.Path.{◌≡◌, refl, sym, ap, ◌∙◌}
use mathlib.Core.List.{List, map}
use mathlib.Core.Bool.{Bool, true, false, ◌&&◌}
use Prim.Native.Nat.{ℕ, suc, ◌+◌, ◌<◌, ◌≤◌}
use native.Mathlib.Numerals.{add-one}
use native.Mathlib.Omega.{arith}
use lib.Dec.{leb}
use lib.ListN.{length, get_or, take, drop, set, length-set, length-map, get_or-map}
use lib.Seq.{take-suc-set, take-length, length-take-le, get_or-take, drop-set-lt, drop-drop}
use Rattle.spec.specs.Text.{text}
use Rattle.spec.specs.LaunchFile.{NumberLine, Read, stop, read, continue, ◌>>=◌, ◌>>◌, gives, require, number, due_number, numbers}
use Rattle.spec.specs.declared.Refusal.{Refusal}
use Rattle.spec.specs.declared.Refusal.TheVariants.{LineNotDue}
use Rattle.std.specs.Prelude.{Option, Some, None, Result, Ok, Err}
use Rattle.text.specs.Numbers.{number_of}
use Rattle.filelines.specs.Lines.{keyed_value, next_in, line_read}
use Rattle.filelines.proofs.DueLines.{due_line}
use Rattle.filelines.proofs.InOrder.{Going, start, more, stops, ends}
use Rattle.numberlines.specs.Answered.{lines_from, line_count, no_line, line_at, IsLine, lines_behind, answered, NumbersRead}
use Rattle.numberlines.specs.declared.NumberLine as declared
use Rattle.numberlines.proofs.Tables.{from_count, line_from}

-- One line, by what was found there.
module _ (l : NumberLine) (line : ℕ) (rest : List ℕ) (n : Option ℕ) (found : keyed_value (text l.key) number rest ≡ number_of n) where
  not_due : n ≡ None → due_number l line rest ≡ stop (LineNotDue line)
  unfolding due_number ◌>>=◌ continue line_read
  not_due e = rw (due_line line l.key number rest, found, e)

  module _ (v : ℕ) (e : n ≡ Some v) where
    out : (leb l.least v && leb v l.greatest) ≡ false → due_number l line rest ≡ stop l.refusal
    unfolding due_number ◌>>=◌ ◌>>◌ continue line_read require
    out t = rw (due_line line l.key number rest, found, e, t)

    within : (leb l.least v && leb v l.greatest) ≡ true → due_number l line rest ≡ read v (suc line) (next_in rest)
    unfolding due_number ◌>>=◌ ◌>>◌ continue line_read require gives
    within t = rw (due_line line l.key number rest, found, e, t)

pub next_behind : (i : ℕ) (file : List ℕ) → next_in (lines_behind i file) ≡ lines_behind (i + 1) file
unfolding lines_behind
next_behind i file = rw (add-one i)

-- The first i of n lines were read, and would be of fewer; their numbers stand at the front of ns, and all behind is as it was.
pub record NumbersGoing (ls : List NumberLine) (line n : ℕ) (file old ns rest : List ℕ) (i : ℕ) : Type 0 where
  pub size : length ls ≡ n
  pub under : i ≤ n
  pub long : length ns ≡ n
  pub left : rest ≡ lines_behind i file
  pub going : (m : ℕ) → i ≤ m → m ≤ length ls → Going (map due_number (take m ls)) line file i rest (take i ns)
  pub kept : drop i ns ≡ drop i old

pub begins : (ls : List NumberLine) (line n : ℕ) (file ns : List ℕ) → length ls ≡ n → length ns ≡ n → NumbersGoing ls line n file ns ns file 0
unfolding lines_behind
begins ls line n file ns s e =
    record { size = s; under = omega arith; long = e; left = refl; going = λ m h l. start (map due_number (take m ls)) line file; kept = refl }

module _ (ls : List NumberLine) where
  count : (m : ℕ) → m ≤ length ls → length (map due_number (take m ls)) ≡ m
  count m h = length-map (take m ls) due_number ∙ length-take-le m ls h

  line_of : (m i : ℕ) → i < m → get_or (map due_number (take m ls)) i (due_number no_line) ≡ due_number (get_or ls i no_line)
  line_of m i h = get_or-map due_number (take m ls) i no_line ∙ ap due_number (get_or-take m ls i no_line h)

module _ {ls : List NumberLine} {line n : ℕ} {file old ns rest : List ℕ} {i : ℕ} (g : NumbersGoing ls line n file old ns rest i) where
  fronts : numbers (take i ls) line file ≡ read (take i ns) (line + i) (lines_behind i file)
  unfolding numbers
  fronts =
      let inside : i ≤ length ls = omega (arith, g.size, g.under) in
      ends (map due_number (take i ls)) line file (due_number no_line) i rest (take i ns) (g.going i (omega arith) inside) (sym (count ls i inside))
      ∙ ap (read (take i ns) (line + i)) g.left

  all_read : n ≤ i → NumbersRead ls line file old ns (Ok tt)
  unfolding answered
  all_read h =
      let e : i ≡ length ls = omega (arith, g.under, g.size) in
      let whole : take (length ls) ns ≡ ns = ap (λ (k : ℕ). take k ns) (g.size ∙ sym g.long) ∙ take-length ns in
      record {
        answer = ap (λ l. numbers l line file) (sym (ap (λ (k : ℕ). take k ls) e ∙ take-length ls)) ∙ fronts ∙ rw (e, whole);
        good = i;
        front = fronts;
        next = λ why q. let z : ◌≡◌ {A = ℕ} 0 1 = cc in absurd (omega arith);
        kept = g.kept;
      }

  module _ (h : i < n) where
    refuses : (why : Refusal) → due_number (get_or ls i no_line) (line + i) rest ≡ stop why → NumbersRead ls line file old ns (Err why)
    unfolding answered
    refuses why e =
        record {
          answer = ap (λ l. numbers l line file) (sym (take-length ls)) ∙ at (length ls) (omega (arith, g.size)) (omega arith);
          good = i;
          front = fronts;
          next = λ w q. let same : why ≡ w = cc in at (i + 1) (omega arith) (omega (arith, g.size)) ∙ ap stop same;
          kept = g.kept;
        }
      where
        at : (m : ℕ) → i < m → m ≤ length ls → numbers (take m ls) line file ≡ stop why
        at m k l = unfold numbers in
            (stops (map due_number (take m ls)) line file (due_number no_line) i rest (take i ns) (g.going m (omega arith) l) (omega (arith, count ls m l)) why
            (ap (λ p. p (line + i) rest) (line_of ls m i k) ∙ e))

    reads : (v : ℕ) → due_number (get_or ls i no_line) (line + i) rest ≡ read v (suc (line + i)) (next_in rest) → {left : List ℕ} → left ≡ next_in rest
        → NumbersGoing ls line n file old (set ns i v) left (i + 1)
    reads v e q =
        record {
          size = g.size;
          under = omega arith;
          long = length-set ns i v ∙ g.long;
          left = q ∙ ap next_in g.left ∙ next_behind i file;
          going = λ m k l.
              rw (q, add-one i, take-suc-set ns i v (omega (arith, g.long)), ← add-one i)
              (more (map due_number (take m ls)) line file (due_number no_line) i rest (take i ns) (g.going m (omega arith) l) (omega (arith, count ls m l))
              v (next_in rest) (ap (λ p. p (line + i) rest) (line_of ls m i (omega arith)) ∙ e));
          kept = drop-set-lt (i + 1) ns i v (omega arith) ∙ sym (drop-drop 1 i ns) ∙ ap (drop 1) g.kept ∙ drop-drop 1 i old;
        }

-- The lines from some place on, by the tables of the code.
abbrev pub FromGoing : (from n : ℕ) → (file old ns rest : List ℕ) → (i : ℕ) → Type 0
FromGoing from n file old ns rest i = NumbersGoing (lines_from from n) (2 + from) n file old ns rest i

abbrev FromRead : (from n : ℕ) → (file old ns : List ℕ) → Result (Unit {0}) Refusal → Type 0
FromRead from n file old ns r = NumbersRead (lines_from from n) (2 + from) file old ns r

module _ (from n : ℕ) (fits : from + n ≤ line_count) where
  pub from_begins : (file ns : List ℕ) → length ns ≡ n → FromGoing from n file ns ns file 0
  from_begins file ns e = begins (lines_from from n) (2 + from) n file ns (from_count from n fits) e

  module _ {file old ns rest : List ℕ} {i : ℕ} (g : FromGoing from n file old ns rest i) where
    pub all_from : n ≤ i → FromRead from n file old ns (Ok tt)
    all_from h = all_read g h

    -- What the source found at its line d.
    module _ (h : i < n) {d : declared.NumberLine} (same : IsLine (line_at (from + i)) d) (v : Option ℕ) (found : keyed_value d.key.now number rest ≡ number_of v) where
      asked : keyed_value (text (line_at (from + i)).key) number rest ≡ number_of v
      asked = ap (λ key. keyed_value key number rest) (sym same.key) ∙ found

      comes : {r : Read ℕ} → due_number (line_at (from + i)) (2 + from + i) rest ≡ r → due_number (get_or (lines_from from n) i no_line) (2 + from + i) rest ≡ r
      comes e = ap (λ l. due_number l (2 + from + i) rest) (line_from from n i h) ∙ e

      pub line_missing : v ≡ None → FromRead from n file old ns (Err (LineNotDue (2 + from + i)))
      line_missing e = refuses g h (LineNotDue (2 + from + i)) (comes (not_due (line_at (from + i)) (2 + from + i) rest v asked e))

      module _ {w : ℕ} (e : v ≡ Some w) {t : Bool} (tested : t ≡ (leb d.least w && leb w d.greatest)) where
        test : (leb (line_at (from + i)).least w && leb w (line_at (from + i)).greatest) ≡ t
        test = rw (← same.least, ← same.greatest) (sym tested)

        pub out_of_limits : t ≡ false → FromRead from n file old ns (Err d.refusal)
        out_of_limits f =
            rw same.refusal (refuses g h (line_at (from + i)).refusal (comes (out (line_at (from + i)) (2 + from + i) rest v asked w e (test ∙ f))))

        pub one_more : t ≡ true → {left : List ℕ} → left ≡ next_in rest → FromGoing from n file old (set ns i w) left (i + 1)
        one_more f q = reads g h w (comes (within (line_at (from + i)) (2 + from + i) rest v asked w e (test ∙ f))) q
