-- What the stores of a computing row leave: the row's values. Assumes nothing.
use mathlib.Core.Path.{◌≡◌, sym, ◌∙◌, ap}
use mathlib.Core.List.{List}
use mathlib.Core.Bool.{cond}
use Prim.Native.Nat.{ℕ, ◌+◌, ◌-◌, ◌*◌, ◌/◌, ◌%◌, ◌^◌}
use lib.Dec.{eqb}
use lib.ListN.{get_or}
use Rattle.spec.specs.Op.{Calc, LAUNCHTID, value}
use Rattle.layout.specs.Memory.{lane, Puts, computed_lane}
use Rattle.lanes.specs.Lanes.{Filled}
use Rattle.compute.specs.RowLanes.{CalcLanes, picked, numbered}
use Rattle.compute.proofs.Putting.{puts_same, given_on, all_on, stored_all, stored_some}

module _ {c : Calc} {group n mask d a b all : ℕ} {regs v regs' : List ℕ} (B : CalcLanes c group n a b regs v) where
  pub all_stored : mask ≡ all → all ≡ 2 ^ n - 1 → Puts d (λ t. get_or v t 0) regs regs' 32 → Puts d (computed_lane c group n mask d a b regs) regs regs' 32
  unfolding computed_lane
  all_stored e ea P =
      puts_same d (λ t. get_or v t 0) (computed_lane c group n mask d a b regs) regs regs' P
      (λ t h. B.at t h ∙ sym (ap (λ x. cond x (value c n t (group * n + t) a b (lane a regs t) (lane b regs t)) (lane d regs t)) (stored_all n mask t (e ∙ ea))))

  pub some_stored : (on : List ℕ) → (mask ≡ all → ⊥) → all ≡ 2 ^ n - 1 → Filled (λ t. mask / 2 ^ t % 2) on 32 → Puts d (picked v on d regs) regs regs' 32
      → Puts d (computed_lane c group n mask d a b regs) regs regs' 32
  unfolding computed_lane
  some_stored on ne ea F P =
      puts_same d (picked v on d regs) (computed_lane c group n mask d a b regs) regs regs' P (λ t h.
      ap (λ (y : ℕ). cond (eqb y 1) (get_or v t 0) (lane d regs t)) (F.1 t h)
      ∙ ap (λ (y : ℕ). cond (eqb (mask / 2 ^ t % 2) 1) y (lane d regs t)) (B.at t h)
      ∙ sym (ap (λ x. cond x (value c n t (group * n + t) a b (lane a regs t) (lane b regs t)) (lane d regs t)) (stored_some n mask t (λ e. ne (e ∙ sym ea)))))

-- Those of a row of the launch number: every bit of `on` is 1 where all n are enabled.
module _ (group n mask d on : ℕ) (regs : List ℕ) {all : ℕ} {regs' : List ℕ} (ea : all ≡ 2 ^ n - 1) (P : Puts d (numbered group n on d regs) regs regs' 32) where
  pub all_numbered : mask ≡ all → on ≡ 4294967295 → Puts d (computed_lane LAUNCHTID group n mask d 0 0 regs) regs regs' 32
  unfolding computed_lane value
  all_numbered e eo =
      puts_same d (numbered group n on d regs) (computed_lane LAUNCHTID group n mask d 0 0 regs) regs regs' P (λ t h.
      sym (given_on (on / 2 ^ t % 2) (group * n + t) d regs t (all_on 32 on t eo h))
      ∙ sym (ap (λ x. cond x (group * n + t) (lane d regs t)) (stored_all n mask t (e ∙ ea))))

  pub some_numbered : (mask ≡ all → ⊥) → on ≡ mask → Puts d (computed_lane LAUNCHTID group n mask d 0 0 regs) regs regs' 32
  unfolding computed_lane value
  some_numbered ne eo =
      puts_same d (numbered group n on d regs) (computed_lane LAUNCHTID group n mask d 0 0 regs) regs regs' P (λ t h.
      ap (λ (y : ℕ). cond (eqb (y / 2 ^ t % 2) 1) (group * n + t) (lane d regs t)) eo
      ∙ sym (ap (λ x. cond x (group * n + t) (lane d regs t)) (stored_some n mask t (λ e. ne (e ∙ sym ea)))))
