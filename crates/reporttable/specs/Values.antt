-- The values of a run's lines that stand once, but for the last one, in their order. Assumes nothing.
use Rattle.std.specs.Prelude.{List, [], ◌∷◌, ◌++◌, map, ℕ, zero, suc, get_or}
use Rattle.spec.specs.declared.Outcome.{Outcome}
use Rattle.spec.specs.declared.Verdict.TheVariants.{Passed}
use Rattle.spec.specs.declared.Value.{Value}
use Rattle.spec.specs.declared.Value.TheVariants as value
use Rattle.spec.specs.Report.{Line, head_lines, interval_lines}

unfoldable pub run_values : Outcome → List Value
run_values o = map (λ (l : Line). l.value) (head_lines o ++ interval_lines o)

-- Their keys, which are the same whatever the outcome.
abbrev pub some_outcome : Outcome
some_outcome = record { verdict = Passed; row = 0; group = 0; rows = 0; barriers = 0; conflicts = 0 }

unfoldable pub keys : List (List ℕ)
keys = map (λ (l : Line). l.key) (head_lines some_outcome ++ interval_lines some_outcome)

-- Line i, and n lines from one on, where the lines have these values, a run's or any others.
unfoldable pub table_line : List Value → ℕ → Line
table_line values i = record { key = get_or keys i []; value = get_or values i value.Hyphen }

unfoldable pub table_lines : List Value → (from n : ℕ) → List Line
table_lines values from zero = []
table_lines values from (suc n) = table_line values from ∷ table_lines values (suc from) n
