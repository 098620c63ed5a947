-- That a line which is due is read by its key and its value, and that nothing is due behind the last. Assumes nothing.
use mathlib.Core.Path.{◌≡◌, refl, ap, ◌∙◌}
use mathlib.Core.List.{List, [], ◌∷◌}
use mathlib.Core.Bool.{Bool, cond}
use mathlib.Core.Option.{Option, none, some}
use Prim.Native.Nat.{ℕ}
use Prim.Native.String.{String}
use native.Mathlib.Omega.{arith}
use lib.ListN.{length}
use Rattle.spec.specs.Lists.{equal_list}
use Rattle.spec.specs.Text.{text, Halves, split_at, newline, equals}
use Rattle.spec.specs.LaunchFile.{stop, read, given, line_value, is_due, due, file_ends, exactly}
use Rattle.spec.specs.declared.Refusal.TheVariants.{LineNotDue}
use Rattle.text.specs.Parts.{front_in, back_in, front_of, back_of}
use Rattle.filelines.specs.Lines.{name_is, line_named, keyed, value_in, next_in, keyed_value, line_read}
use Rattle.filelines.specs.Values.{word_in, exact_bytes}

module _ {A : Type 0} (line : ℕ) where
  by_value : (o : Option A) (back : List ℕ) → is_due line (given o (λ value. some (value, back))) ≡ line_read line o back
  unfolding is_due given line_read
  by_value none back = refl
  by_value (some a) back = refl

  by_name : (key name : List ℕ) (reads : List ℕ → Option A) (back : List ℕ) (o : Option Halves)
      → is_due line (given o (λ parts. given (cond (equal_list parts.before key) (reads parts.behind) none) λ value. some (value, back)))
      ≡ line_read line (cond (name_is key o) (reads (back_in o)) none) back
  unfolding is_due given line_read name_is back_in
  by_name key name reads back none = refl
  by_name key name reads back (some h) = by_value (cond (equal_list h.before key) (reads h.behind) none) back

  by_line : (key rest : List ℕ) (reads : List ℕ → Option A) (o : Option Halves)
      → is_due line (given o (λ l.
      given (split_at equals l.before) λ parts.
      given (cond (equal_list parts.before key) (reads parts.behind) none) λ value.
      some (value, l.behind)))
      ≡ line_read line (cond (line_named key o) (reads (back_in (split_at equals (front_in rest o)))) none) (back_in o)
  unfolding is_due given line_read line_named back_in front_in
  by_line key rest reads none = refl
  by_line key rest reads (some l) = by_name key l.before reads l.behind (split_at equals l.before)

  pub due_line : (key : String) (reads : List ℕ → Option A) (rest : List ℕ)
      → due key reads line rest ≡ line_read line (keyed_value (text key) reads rest) (next_in rest)
  unfolding due line_value keyed_value keyed value_in next_in front_of back_of
  due_line key reads rest = by_line (text key) rest reads (split_at newline rest)

-- What `word_line` answers, as the definition reads the line.
pub due_word : (key word : String) (line : ℕ) (rest : List ℕ) (t : Bool) → keyed_value (text key) (exact_bytes (text word)) rest ≡ word_in t
    → due key (exactly word) line rest ≡ line_read line (word_in t) (next_in rest)
unfolding keyed_value exactly exact_bytes
due_word key word line rest t e = due_line line key (exactly word) rest ∙ ap (λ (o : Option (Unit {0})). line_read line o (next_in rest)) e

-- Whether anything stands behind the last line.
pub ended : (line : ℕ) (rest : List ℕ) → length rest ≡ 0 → file_ends line rest ≡ read tt line []
unfolding file_ends
ended line [] e = refl
ended line (b ∷ rest) e = absurd (omega arith)

pub not_ended : (line : ℕ) (rest : List ℕ) → (length rest ≡ 0 → ⊥) → file_ends line rest ≡ stop (LineNotDue line)
unfolding file_ends
not_ended line [] n = absurd (n refl)
not_ended line (b ∷ rest) n = refl
