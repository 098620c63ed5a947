-- What is read from the report of a run, and of a refusal. Assumes nothing.
use mathlib.Core.Path.{◌≡◌, refl, sym, ap, ap₂, ◌∙◌}
use mathlib.Core.List.{List, [], ◌∷◌, ◌++◌, map, append_assoc, append-nil, map-append}
use mathlib.Core.Bool.{Bool, true, false, cond, not, false≢true, ◌&&◌, ◌||◌, and-true, and-false, and-eq-true_iff}
use mathlib.Core.Option.{Option, some}
use Prim.Native.Nat.{ℕ}
use Prim.Native.String.{String}
use borrow.Author.Tests.{not-true}
use lib.ListN.{take}
use Rattle.spec.specs.declared.Outcome.{Outcome}
use Rattle.spec.specs.declared.Subject.{Subject}
use Rattle.spec.specs.declared.Subject.TheVariants as subject
use Rattle.spec.specs.declared.Value.TheVariants as value
use Rattle.spec.specs.declared.Verdict.{Verdict}
use Rattle.spec.specs.declared.Verdict.TheVariants.{Passed, Race, GroupRace, Outside, Common, Diverged, Spent}
use Rattle.spec.specs.Lists.{any_of, every, equal_list}
use Rattle.spec.specs.Text.{text, decimal, equals}
use Rattle.spec.specs.Report.{Line, ◌is◌, verdict_text, value_text, bytes_of, head_with, head_lines, interval_lines, each_line, end_line, run_lines, run_report}
use Rattle.spec.specs.Report.{refusal_lines, refusal_report, report_of}
use Rattle.spec.specs.Reading.{lines_in, is_line, has_line, is_first, begins_with, number_in, numbers_at, EndsOnce, has_passed, installs, Readable}
use Rattle.spec.specs.Answers.{is_passed}
use Rattle.readback.proofs.Numbers.{every_append, number_back}
use Rattle.readback.proofs.Clean.{no_newline}
use Rattle.readback.proofs.Back.{in_key, keyed, line_text, lines_back, said_by, numbers_back}
use Rattle.readback.proofs.Ends.{cut_off_lem}

-- The lines of a run's report behind its head, up to the last: each key with its numbers, of which the keys about intervals have one each.
abbrev key_numbers : Outcome → (steps cells global : List ℕ) → List (String × List ℕ)
key_numbers o steps cells global = ("steps", steps) ∷ ("barriers", o.barriers ∷ []) ∷ ("conflicts", o.conflicts ∷ []) ∷ ("cell", cells) ∷ ("gcell", global) ∷ []

-- Such lines, and then these.
unfoldable lines_of : List (String × List ℕ) → List Line → List Line
lines_of [] rest = rest
lines_of (k ∷ ks) rest = each_line (text k.0) k.1 ++ lines_of ks rest

run_lines_lem : (o : Outcome) (steps cells global : List ℕ) → run_lines o steps cells global ≡ head_lines o ++ lines_of (key_numbers o steps cells global) (end_line ∷ [])
unfolding run_lines interval_lines each_line ◌is◌ lines_of
run_lines_lem o steps cells global = refl

-- The keys of reports are such that each line is read as it was written.
head_keyed : (o : Outcome) → every keyed (head_lines o) ≡ true
unfolding every keyed in_key no_newline head_lines head_with ◌is◌ text
head_keyed o = refl

end_keyed : every keyed (end_line ∷ []) ≡ true
unfolding every keyed in_key no_newline end_line ◌is◌ text
end_keyed = refl

each_keyed : (key : String) → every in_key (text key) ≡ true → (ns : List ℕ) (rest : List Line) → every keyed rest ≡ true
    → every keyed (each_line (text key) ns ++ rest) ≡ true
unfolding every keyed each_line
each_keyed key k [] rest e = e
each_keyed key k (n ∷ ns) rest e = rw k (each_keyed key k ns rest e)

all_keyed : (ks : List (String × List ℕ)) → every (λ k. every in_key (text k.0)) ks ≡ true → (rest : List Line) → every keyed rest ≡ true
    → every keyed (lines_of ks rest) ≡ true
unfolding every lines_of
all_keyed [] h rest e = e
all_keyed (k ∷ ks) h rest e =
    let t = (and-eq-true_iff (every in_key (text k.0)) _).0 h in
    each_keyed k.0 t.0 k.1 _ (all_keyed ks t.1 rest e)

run_keyed : (o : Outcome) (steps cells global : List ℕ) → every keyed (run_lines o steps cells global) ≡ true
unfolding every in_key no_newline text
run_keyed o steps cells global =
    ap (every keyed) (run_lines_lem o steps cells global)
    ∙ every_append keyed (head_lines o) _ (head_keyed o) (all_keyed (key_numbers o steps cells global) refl _ end_keyed)

refusal_keyed : (number place : ℕ) → every keyed (refusal_lines number place) ≡ true
unfolding every keyed in_key no_newline refusal_lines end_line ◌is◌ text
refusal_keyed number place = refl

pub any_append : {A : Type 0} (p : A → Bool) (xs ys : List A) → any_of p (xs ++ ys) ≡ (any_of p xs || any_of p ys)
unfolding any_of
any_append p [] ys = refl
any_append p (x ∷ xs) ys = by (p x) (any_append p xs ys)
  where
    by : (b : Bool) → any_of p (xs ++ ys) ≡ (any_of p xs || any_of p ys) → (b || any_of p (xs ++ ys)) ≡ ((b || any_of p xs) || any_of p ys)
    by true e = refl
    by false e = e

-- A test that no line with one of these keys and a number passes. Where the keys of a run's report are such, only the head and the last line can pass it.
abbrev failing : (p : List ℕ → Bool) → (n : ℕ) → (key : String) → Bool
failing p n key = not (p (line_text (key is value.Number n)))

abbrev NoNumber : (p : List ℕ → Bool) → List (String × List ℕ) → Type 0
NoNumber p ks = (n : ℕ) → every (λ k. failing p n k.0) ks ≡ true

module _ (p : List ℕ → Bool) where
  each_fails : (key : String) → ((n : ℕ) → failing p n key ≡ true) → (ns : List ℕ) (rest : List Line)
      → any_of p (map line_text (each_line (text key) ns ++ rest)) ≡ any_of p (map line_text rest)
  unfolding any_of each_line ◌is◌
  each_fails key fails [] rest = refl
  each_fails key fails (n ∷ ns) rest = rw (not-true (p (line_text (key is value.Number n))) (fails n)) (each_fails key fails ns rest)

  all_fail : (ks : List (String × List ℕ)) → NoNumber p ks → (rest : List Line) → any_of p (map line_text (lines_of ks rest)) ≡ any_of p (map line_text rest)
  unfolding lines_of every
  all_fail [] fails rest = refl
  all_fail (k ∷ ks) fails rest =
      each_fails k.0 (λ n. ((and-eq-true_iff (failing p n k.0) _).0 (fails n)).0) k.1 _
      ∙ all_fail ks (λ n. ((and-eq-true_iff (failing p n k.0) _).0 (fails n)).1) rest

  any_line : (o : Outcome) (ks : List (String × List ℕ)) → NoNumber p ks → (rest : List Line)
      → any_of p (map line_text (head_lines o ++ lines_of ks rest)) ≡ (any_of p (map line_text (head_lines o)) || any_of p (map line_text rest))
  any_line o ks fails rest =
      ap (any_of p) (map-append line_text (head_lines o) (lines_of ks rest)) ∙ any_append p (map line_text (head_lines o)) _
      ∙ ap (λ x. any_of p (map line_text (head_lines o)) || x) (all_fail ks fails rest)

-- Lines that end in `end=report`, which is none of those before.
ends_once : (ls : List Line) → every keyed (ls ++ (end_line ∷ [])) ≡ true → any_of (is_line "end=report") (map line_text ls) ≡ false
    → EndsOnce (bytes_of (ls ++ (end_line ∷ [])))
unfolding has_line line_text end_line ◌is◌ value_text text
ends_once ls e f =
    record {
      before = map line_text ls;
      last = lines_back (ls ++ (end_line ∷ [])) e ∙ map-append line_text ls (end_line ∷ []);
      once = f;
      whole = λ k h. cut_off_lem (is_line "end=report") ls end_line e f k h;
    }

run_ends : (o : Outcome) (steps cells global : List ℕ) → EndsOnce (run_report o steps cells global)
unfolding run_report any_of is_line equal_list line_text head_lines head_with ◌is◌ text lines_of every
run_ends o steps cells global = rw (sym same) (ends_once front (ap (every keyed) same ∙ run_keyed o steps cells global) no_end)
  where
    front : List Line
    front = head_lines o ++ lines_of (key_numbers o steps cells global) []

    same : front ++ (end_line ∷ []) ≡ run_lines o steps cells global
    same = simp append_assoc (sym (run_lines_lem o steps cells global))

    no_end : any_of (is_line "end=report") (map line_text front) ≡ false
    no_end = any_line (is_line "end=report") o (key_numbers o steps cells global) (λ n. refl) []

refusal_ends : (number place : ℕ) → EndsOnce (refusal_report number place)
unfolding refusal_report refusal_lines any_of is_line equal_list line_text ◌is◌ text
refusal_ends number place = ends_once ("refused" is _ ∷ "place" is _ ∷ []) (refusal_keyed number place) refl

-- The first line of a run's report says its verdict.
run_read : (o : Outcome) (steps cells global : List ℕ) → lines_in (run_report o steps cells global) ≡ map line_text (run_lines o steps cells global)
unfolding run_report
run_read o steps cells global = lines_back (run_lines o steps cells global) (run_keyed o steps cells global)

refusal_read : (number place : ℕ) → lines_in (refusal_report number place) ≡ map line_text (refusal_lines number place)
unfolding refusal_report
refusal_read number place = lines_back (refusal_lines number place) (refusal_keyed number place)

unfoldable pub verdict_line : Verdict → List ℕ
verdict_line v = text "verdict" ++ (equals ∷ verdict_text v)

passed_line : (v : Verdict) → is_line "verdict=passed" (verdict_line v) ≡ is_passed v
unfolding is_line equal_list verdict_line verdict_text is_passed text
passed_line Passed = refl
passed_line (Race thread other kind at) = refl
passed_line (GroupRace thread group kind at) = refl
passed_line (Outside thread at) = refl
passed_line (Common thread at) = refl
passed_line (Diverged thread other) = refl
passed_line Spent = refl

begins : (s : String) (o : Outcome) (steps cells global : List ℕ) → begins_with s (run_report o steps cells global) ≡ is_line s (verdict_line o.verdict)
unfolding begins_with is_first run_lines head_lines head_with line_text ◌is◌ value_text verdict_line
begins s o steps cells global = ap (is_first s) (run_read o steps cells global)

pub begins_passed : (o : Outcome) (steps cells global : List ℕ) → begins_with "verdict=passed" (run_report o steps cells global) ≡ is_passed o.verdict
begins_passed o steps cells global = begins "verdict=passed" o steps cells global ∙ passed_line o.verdict

or_none : (b : Bool) → (b || false) ≡ b
or_none true = refl
or_none false = refl

-- `verdict=passed` stands nowhere else.
anywhere : (o : Outcome) (steps cells global : List ℕ) → has_line "verdict=passed" (run_report o steps cells global) ≡ is_passed o.verdict
unfolding has_line head_lines head_with end_line ◌is◌ any_of is_line equal_list line_text value_text verdict_line text every
anywhere o steps cells global =
    ap (any_of (is_line "verdict=passed")) (run_read o steps cells global ∙ ap (map line_text) (run_lines_lem o steps cells global))
    ∙ any_line (is_line "verdict=passed") o (key_numbers o steps cells global) (λ n. refl) (end_line ∷ [])
    ∙ or_none _ ∙ or_none _ ∙ passed_line o.verdict

-- A loader's decision, by where `end=report` stands.
has_end : (report : List ℕ) → EndsOnce report → has_line "end=report" report ≡ true
unfolding has_line any_of is_line equal_list text
has_end report e =
    ap (any_of (is_line "end=report")) e.last ∙ any_append (is_line "end=report") e.before (text "end=report" ∷ [])
    ∙ ap (λ b. b || true) e.once

read_by : (what : Subject) (report : List ℕ) → EndsOnce report → begins_with "verdict=passed" report ≡ has_passed what
    → has_line "verdict=passed" report ≡ has_passed what → Readable what report
unfolding installs
read_by what report e b a =
    record {
      ends = e;
      begins = b;
      anywhere = a;
      decides = ap₂ ◌&&◌ b (has_end report e) ∙ and-true (has_passed what);
      cut_off = λ k h. ap (λ (x : Bool). begins_with "verdict=passed" (take k report) && x) (e.whole k h) ∙ and-false (begins_with "verdict=passed" (take k report));
    }

pub readable : (what : Subject) (steps cells global : List ℕ) → Readable what (report_of what steps cells global)
unfolding report_of has_passed has_line begins_with is_first refusal_lines end_line any_of is_line equal_list line_text ◌is◌ text
readable (subject.Ran o) steps cells global =
    read_by (subject.Ran o) (run_report o steps cells global) (run_ends o steps cells global) (begins_passed o steps cells global) (anywhere o steps cells global)
readable (subject.Refused number place) steps cells global =
    read_by (subject.Refused number place) (refusal_report number place) (refusal_ends number place)
    (ap (is_first "verdict=passed") (refusal_read number place)) (ap (any_of (is_line "verdict=passed")) (refusal_read number place))

-- A verdict by the line that says it.
pub only_passed : (v : Verdict) → is_passed v ≡ true → v ≡ Passed
unfolding is_passed
only_passed Passed e = refl
only_passed (Race thread other kind at) e = absurd (false≢true e)
only_passed (GroupRace thread group kind at) e = absurd (false≢true e)
only_passed (Outside thread at) e = absurd (false≢true e)
only_passed (Common thread at) e = absurd (false≢true e)
only_passed (Diverged thread other) e = absurd (false≢true e)
only_passed Spent e = absurd (false≢true e)

pub is_passed_lem : (v : Verdict) → v ≡ Passed → is_passed v ≡ true
unfolding is_passed
is_passed_lem v e = ap is_passed e

spent_line : (v : Verdict) → is_line "verdict=spent" (verdict_line v) ≡ true → v ≡ Spent
unfolding is_line equal_list verdict_line verdict_text text
spent_line Passed e = absurd (false≢true e)
spent_line (Race thread other kind at) e = absurd (false≢true e)
spent_line (GroupRace thread group kind at) e = absurd (false≢true e)
spent_line (Outside thread at) e = absurd (false≢true e)
spent_line (Common thread at) e = absurd (false≢true e)
spent_line (Diverged thread other) e = absurd (false≢true e)
spent_line Spent e = refl

pub begins_spent : (o : Outcome) (steps cells global : List ℕ) → begins_with "verdict=spent" (run_report o steps cells global) ≡ true → o.verdict ≡ Spent
begins_spent o steps cells global e = spent_line o.verdict (sym (begins "verdict=spent" o steps cells global) ∙ e)

pub spent_begins : (o : Outcome) (steps cells global : List ℕ) → o.verdict ≡ Spent → begins_with "verdict=spent" (run_report o steps cells global) ≡ true
unfolding is_line equal_list verdict_line verdict_text text
spent_begins o steps cells global e = begins "verdict=spent" o steps cells global ∙ ap (λ v. is_line "verdict=spent" (verdict_line v)) e

-- The numbers on the lines of a run's report.
each_said : (key own : String) (ns : List ℕ) (rest : List Line)
    → said_by key (each_line (text own) ns ++ rest) ≡ cond (equal_list (text own) (text key)) (map some ns) [] ++ said_by key rest
unfolding said_by each_line value_text
each_said key own [] rest = by (equal_list (text own) (text key))
  where
    by : (b : Bool) → said_by key rest ≡ cond b [] [] ++ said_by key rest
    by true = refl
    by false = refl
each_said key own (n ∷ ns) rest = by (equal_list (text own) (text key)) (each_said key own ns rest)
  where
    more : List (Option ℕ)
    more = said_by key (each_line (text own) ns ++ rest)

    by : (b : Bool) → more ≡ cond b (map some ns) [] ++ said_by key rest
        → cond b (number_in (decimal n) ∷ []) [] ++ more ≡ cond b (some n ∷ map some ns) [] ++ said_by key rest
    by true e = ap₂ (λ (x : Option ℕ) (xs : List (Option ℕ)). x ∷ xs) (number_back n) e
    by false e = e

-- All that such lines say under a key, and then these.
unfoldable said_under : String → List (String × List ℕ) → List (Option ℕ) → List (Option ℕ)
said_under key [] rest = rest
said_under key (k ∷ ks) rest = cond (equal_list (text k.0) (text key)) (map some k.1) [] ++ said_under key ks rest

all_said : (key : String) (ks : List (String × List ℕ)) (rest : List Line) → said_by key (lines_of ks rest) ≡ said_under key ks (said_by key rest)
unfolding lines_of said_under
all_said key [] rest = refl
all_said key (k ∷ ks) rest =
    each_said key k.0 k.1 _ ∙ ap (λ xs. cond (equal_list (text k.0) (text key)) (map some k.1) [] ++ xs) (all_said key ks rest)

module _ (key : String) (o : Outcome) (steps cells global : List ℕ) where
  behind_said : said_by key (lines_of (key_numbers o steps cells global) (end_line ∷ [])) ≡ said_under key (key_numbers o steps cells global) (said_by key (end_line ∷ []))
  behind_said = all_said key (key_numbers o steps cells global) (end_line ∷ [])

  said_in : numbers_at key (run_report o steps cells global) ≡ said_by key (head_lines o ++ lines_of (key_numbers o steps cells global) (end_line ∷ []))
  unfolding run_report
  said_in = numbers_back key (run_lines o steps cells global) (run_keyed o steps cells global) ∙ ap (said_by key) (run_lines_lem o steps cells global)

module _ (o : Outcome) (steps cells global : List ℕ) where
  pub rows_read : numbers_at "rows" (run_report o steps cells global) ≡ some o.rows ∷ []
  unfolding head_lines head_with end_line said_by said_under ◌is◌ equal_list text value_text
  rows_read =
      said_in "rows" o steps cells global
      ∙ ap₂ (λ (x : Option ℕ) (xs : List (Option ℕ)). x ∷ xs) (number_back o.rows) (behind_said "rows" o steps cells global)

  pub steps_read : numbers_at "steps" (run_report o steps cells global) ≡ map some steps
  unfolding head_lines head_with end_line said_by said_under ◌is◌ equal_list text value_text
  steps_read = said_in "steps" o steps cells global ∙ behind_said "steps" o steps cells global ∙ append-nil (map some steps)

  pub barriers_read : numbers_at "barriers" (run_report o steps cells global) ≡ some o.barriers ∷ []
  unfolding head_lines head_with end_line said_by said_under ◌is◌ equal_list text value_text
  barriers_read = said_in "barriers" o steps cells global ∙ behind_said "barriers" o steps cells global

  pub conflicts_read : numbers_at "conflicts" (run_report o steps cells global) ≡ some o.conflicts ∷ []
  unfolding head_lines head_with end_line said_by said_under ◌is◌ equal_list text value_text
  conflicts_read = said_in "conflicts" o steps cells global ∙ behind_said "conflicts" o steps cells global

  pub cells_read : numbers_at "cell" (run_report o steps cells global) ≡ map some cells
  unfolding head_lines head_with end_line said_by said_under ◌is◌ equal_list text value_text
  cells_read = said_in "cell" o steps cells global ∙ behind_said "cell" o steps cells global ∙ append-nil (map some cells)

  pub global_read : numbers_at "gcell" (run_report o steps cells global) ≡ map some global
  unfolding head_lines head_with end_line said_by said_under ◌is◌ equal_list text value_text
  global_read = said_in "gcell" o steps cells global ∙ behind_said "gcell" o steps cells global ∙ append-nil (map some global)
