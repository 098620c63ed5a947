-- The bytes of a list of lines, read, are these lines, with the numbers on them. Assumes nothing.
use mathlib.Core.Path.{◌≡◌, refl, ap, ap₂, ◌∙◌}
use mathlib.Core.List.{List, [], ◌∷◌, ◌++◌, map, append_assoc}
use mathlib.Core.Bool.{Bool, true, cond, not, ◌&&◌, and-eq-true_iff}
use mathlib.Core.Option.{Option, some}
use Prim.Native.Nat.{ℕ}
use Prim.Native.String.{String}
use borrow.Author.Tests.{not-true}
use lib.Dec.{eqb}
use Rattle.spec.specs.Lists.{every, equal_list}
use Rattle.spec.specs.Text.{text, newline, equals, Halves, starting_with, split_at}
use Rattle.spec.specs.Report.{Line, value_text, key_line, line_bytes, bytes_of}
use Rattle.spec.specs.Reading.{on_first, lines_in, number_in, under_key, numbers_on, numbers_at}
use Rattle.readback.proofs.Numbers.{every_append}
use Rattle.readback.proofs.Clean.{no_newline, value_clean}

-- A key has neither a newline nor a `=`.
unfoldable pub in_key : ℕ → Bool
in_key b = no_newline b && not (eqb b equals)

unfoldable pub keyed : Line → Bool
keyed l = every in_key l.key

-- A line without its newline.
unfoldable pub line_text : Line → List ℕ
line_text l = l.key ++ (equals ∷ value_text l.value)

-- The first line of a text is what stands before its first newline.
pub first_line : (w rest : List ℕ) → every no_newline w ≡ true → lines_in (w ++ (newline ∷ rest)) ≡ w ∷ lines_in rest
unfolding lines_in every no_newline on_first
first_line [] rest e = refl
first_line (b ∷ w) rest e =
    let t = (and-eq-true_iff (not (eqb b newline)) _).0 e in
    rw (not-true (eqb b newline) t.0) (ap (on_first b) (first_line w rest t.1))

key_clean : (key : List ℕ) → every in_key key ≡ true → every no_newline key ≡ true
unfolding every in_key
key_clean [] e = refl
key_clean (b ∷ key) e =
    let t = (and-eq-true_iff (in_key b) _).0 e in
    rw ((and-eq-true_iff (no_newline b) _).0 t.0).0 (key_clean key t.1)

pub line_clean : (l : Line) → keyed l ≡ true → every no_newline (line_text l) ≡ true
unfolding keyed every no_newline line_text
line_clean l e = every_append no_newline l.key (equals ∷ value_text l.value) (key_clean l.key e) (value_clean l.value)

pub ended : (l : Line) (rest : List ℕ) → line_bytes l ++ rest ≡ line_text l ++ (newline ∷ rest)
unfolding line_bytes key_line line_text
ended l rest = simp append_assoc

pub lines_back : (ls : List Line) → every keyed ls ≡ true → lines_in (bytes_of ls) ≡ map line_text ls
unfolding bytes_of every lines_in
lines_back [] e = refl
lines_back (l ∷ ls) e =
    let t = (and-eq-true_iff (keyed l) _).0 e in
    ap lines_in (ended l (bytes_of ls)) ∙ first_line (line_text l) (bytes_of ls) (line_clean l t.0)
    ∙ ap (λ (xs : List (List ℕ)). line_text l ∷ xs) (lines_back ls t.1)

-- A line is split at its first `=`.
split : (key value : List ℕ) → every in_key key ≡ true → split_at equals (key ++ (equals ∷ value)) ≡ some (record { before = key; behind = value })
unfolding split_at every in_key starting_with
split [] value e = refl
split (b ∷ key) value e =
    let t = (and-eq-true_iff (in_key b) _).0 e in
    rw (not-true (eqb b equals) ((and-eq-true_iff (no_newline b) _).0 t.0).1) (ap (starting_with b) (split key value t.1))

-- The numbers on the lines with a key.
unfoldable pub said_by : String → List Line → List (Option ℕ)
said_by key [] = []
said_by key (l ∷ ls) = cond (equal_list l.key (text key)) (number_in (value_text l.value) ∷ []) [] ++ said_by key ls

said : (key : String) (ls : List Line) → every keyed ls ≡ true → numbers_on key (map line_text ls) ≡ said_by key ls
unfolding numbers_on said_by every keyed line_text under_key
said key [] e = refl
said key (l ∷ ls) e =
    let t = (and-eq-true_iff (keyed l) _).0 e in
    ap₂ (λ (x : Option Halves) (xs : List (Option ℕ)). under_key key x ++ xs) (split l.key (value_text l.value) t.0) (said key ls t.1)

pub numbers_back : (key : String) (ls : List Line) → every keyed ls ≡ true → numbers_at key (bytes_of ls) ≡ said_by key ls
unfolding numbers_at
numbers_back key ls e = ap (numbers_on key) (lines_back ls e) ∙ said key ls e
