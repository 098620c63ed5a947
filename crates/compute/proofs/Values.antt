-- The values of a computing row: SET, TID and COUNT, and the ops that read two registers. Assumes nothing.
use mathlib.Core.Path.{◌≡◌, refl, sym, ◌∙◌, ap, ap₂}
use mathlib.Core.List.{List}
use Prim.Native.Nat.{ℕ, ◌+◌, ◌*◌, ◌<◌, ◌≤◌}
use native.Mathlib.Omega.{arith}
use native.Mathlib.Decide.{ℕ_discrete}
use lib.ListN.{replicate, get_or, get_or-replicate}
use Rattle.spec.specs.Op.{Calc, SET, TID, COUNT, LAUNCHTID, CALC, value, op_table, op_of}
use Rattle.layout.specs.Memory.{ComputeAsks, lane}
use Rattle.lanes.specs.Lanes.{Filled}
use Rattle.compute.proofs.Ops.{OpIs, same_op}
use Rattle.compute.specs.RowLanes.{RowLanes}

module _ {op n a b : ℕ} {regs : List ℕ} where
  pub by_set : {k : ℕ} → op ≡ 1 → k ≡ a + 256 * b → RowLanes op n a b regs (replicate 32 k)
  unfolding op_of op_table value
  by_set {k} e ek =
      record {
        of = λ c o g. record {
          at = λ t h. get_or-replicate 32 t k 0 h ∙ ek ∙ ap (λ z. value z n t (g * n + t) a b (lane a regs t) (lane b regs t)) (same_op op 1 c SET e refl o);
        };
      }

  pub by_tid : {v : List ℕ} → op ≡ 2 → Filled (λ t. t) v 32 → RowLanes op n a b regs v
  unfolding op_of op_table value
  by_tid e L =
      record {
        of = λ c o g. record {
          at = λ t h. L.1 t h ∙ ap (λ z. value z n t (g * n + t) a b (lane a regs t) (lane b regs t)) (same_op op 2 c TID e refl o);
        };
      }

  pub by_count : op ≡ 3 → RowLanes op n a b regs (replicate 32 n)
  unfolding op_of op_table value
  by_count e =
      record {
        of = λ c o g. record {
          at = λ t h. get_or-replicate 32 t n 0 h ∙ ap (λ z. value z n t (g * n + t) a b (lane a regs t) (lane b regs t)) (same_op op 3 c COUNT e refl o);
        };
      }

  pub by_registers : {k : ℕ} {v : List ℕ} {d : Calc} {f : ℕ → ℕ → ℕ} → op ≡ k → OpIs k d f
      → ((t : ℕ) → t < 32 → get_or v t 0 ≡ f (lane a regs t) (lane b regs t)) → RowLanes op n a b regs v
  by_registers {k} {v} {d} e I L =
      record {
        of = λ c o g. record {
          at = λ t h. L t h ∙ ap (λ v. v n t (g * n + t) a b (lane a regs t) (lane b regs t)) (sym I.gives ∙ ap value (same_op op k c d e I.op_is o));
        };
      }

-- What an op reads stands in registers that there are, or else its value is the same whatever they hold.
abbrev pub ReadsThere : Calc → (n a b : ℕ) → Type 0
ReadsThere c n a b = (t u p q p' q' : ℕ) → (a < 16 → p ≡ p') → (b < 16 → q ≡ q') → value c n t u a b p q ≡ value c n t u a b p' q'

pub reads_there : (op d a b n : ℕ) (c : Calc) → op_of op ≡ CALC c → ComputeAsks op d a b → ReadsThere c n a b
unfolding op_of op_table value
reads_there op d a b n c o A t u p q p' q' ep eq = by (ℕ_discrete op 1) (ℕ_discrete op 2) (ℕ_discrete op 3)
  where
    unread : (k : Calc) → k ≡ c → value k n t u a b p q ≡ value k n t u a b p' q' → value c n t u a b p q ≡ value c n t u a b p' q'
    unread k e r = ap (λ z. value z n t u a b p q) (sym e) ∙ r ∙ ap (λ z. value z n t u a b p' q') e

    by : Dec (op ≡ 1) → Dec (op ≡ 2) → Dec (op ≡ 3) → value c n t u a b p q ≡ value c n t u a b p' q'
    by (yes e) y z = unread SET (same_op op 1 c SET e refl o) refl
    by (no x) (yes e) z = unread TID (same_op op 2 c TID e refl o) refl
    by (no x) (no y) (yes e) = unread COUNT (same_op op 3 c COUNT e refl o) refl
    by (no x) (no y) (no z) = let k : 4 ≤ op = omega (arith, A.known) in ap₂ (value c n t u a b) (ep (A.left k)) (eq (A.right k))

pub launch_reads : (n a b : ℕ) → ReadsThere LAUNCHTID n a b
unfolding value
launch_reads n a b t u p q p' q' ep eq = refl
