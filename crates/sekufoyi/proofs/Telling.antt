-- A bare launch's answer told in words. Assumes nothing.
use Rattle.std.specs.Prelude.{Result, Ok}
use mathlib.Core.Path.{◌≡◌, subst}
use mathlib.Core.List.{List, ◌++◌}
use mathlib.Core.Bool.{true}
use Prim.Native.Nat.{ℕ}
use lib.ListN.{take}
use Rattle.spec.specs.declared.Outcome.{Outcome}
use Rattle.spec.specs.declared.Refusal.{Refusal}
use Rattle.spec.specs.Table.{rows_of}
use Rattle.spec.specs.Shape.{Sizes, all_threads}
use Rattle.spec.specs.Entries.{bare_launch}
use Rattle.spec.specs.Demands.{BareDemand3}
use Rattle.answerwords.specs.Codes.{outcome_words, RanDemand3}
use Rattle.answerwords.proofs.Back.{words_demand}

-- Demand 3 of the answer, of the words.
pub run_runs : (table : List ℕ) (Z : Sizes) (limit : ℕ) (cells global left left_global counts : List ℕ) (told : Result Outcome Refusal) (o : Outcome) (ws : List ℕ) → told ≡ Ok o
    → ws ≡ outcome_words o → BareDemand3 table Z limit cells global told left left_global counts → RanDemand3 table Z limit cells global true ws left left_global counts
unfolding bare_launch
run_runs table Z limit cells global left left_global counts told o ws q w d e =
    rw w (words_demand (rows_of table) Z (cells ++ global) limit o (take (all_threads Z) counts) (left ++ left_global)
    (subst (λ a. BareDemand3 table Z limit cells global a left left_global counts) q d))
