-- What each kind of row asks, and that what it leaves is what the row due of the group comes to. Assumes nothing.
use mathlib.Core.Path.{◌≡◌, sym, ◌∙◌, subst, subst₂}
use mathlib.Core.List.{List}
use mathlib.Core.Logic.{inl}
use Prim.Native.Nat.{ℕ, ◌+◌, ◌-◌, ◌*◌, ◌^◌, ◌<◌, ◌≤◌}
use native.Mathlib.Omega.{arith}
use lib.ListN.{length, get_or}
use Rattle.masks.proofs.Words.{word_lt}
use Rattle.layout.specs.declared.State.{State}
use Rattle.layout.specs.Next.{Next}
use Rattle.layout.specs.Next as next
use Rattle.std.specs.Prelude.{Ok}
use Rattle.layout.specs.Memory.{ComputeAsks, Computed, KeptBut, AccessAsks, InMemory, cell_in}
use Rattle.layout.specs.Represents.{Represents, moved_on}
use Rattle.layout.specs.Constructs.{barrier_next, barrier_log}
use Rattle.layout.specs.Counting.{Roomy, StepsOn, NextCounted}
use Rattle.layout.specs.Groups.{SharedAfter}
use Rattle.layout.specs.Running.{AccessDone, Ready}
use Rattle.layout.specs.Shared.{GlobalAsks}
use Rattle.layout.specs.Views.{view_of, own_from}
use Rattle.layout.proofs.Saving.{slots_kept}
use Rattle.stepcounts.proofs.NextCounts.{counts_on}
use Rattle.banks.specs.Counting.{Older}
use Rattle.banks.specs.Remembering.{Memo}
use Rattle.intervals.specs.Records.{records_after}
use Rattle.step.specs.Recording.{RowRecorded, cell_due}
use Rattle.layout.specs.declared.Operands.{Operands}
use Rattle.step.specs.Arms.{OperandsAt, ConstructCounted, OwnRow}
use Rattle.step.proofs.Registers.{regs_accessed}
use Rattle.step.proofs.Recorded.{recorded_plain}
use Rattle.step.proofs.Tables.{compute_asks}
use Rattle.step.proofs.Arms.{tested_small, compute_row_is, access_row_is, construct_row_is, barrier_row_is}
use Rattle.launchrows.specs.LaunchRows.{Numbered, LaunchDone, GlobalDone}
use Rattle.grouprow.specs.Rows.{GroupReady, GroupSteps, GlobalRowAsks}
use Rattle.grouprow.proofs.RowKinds.{step_done, launch_done, global_done, accessed_counts, accessed_free}

module _ (table ends : List ℕ) (n group : ℕ) (s : State) (regs cells log saved openers global shared masks : List ℕ)
    (R : GroupReady table ends n group s regs cells log saved openers global shared masks) (x : Operands) (X : OperandsAt table s.row x) where
  abbrev byte : ℕ
  byte = get_or table (s.row * 4) 0

  -- The bounds that the state that stands gives.
  pub few : n ≤ 32
  few = subst (λ k. k ≤ 32) R.threads_are R.stands.own.memory.few

  pub mask_below : s.mask < 2 ^ n
  mask_below =
      let Z = R.stands.own in
      subst₂ (λ m k. m < 2 ^ k) (sym Z.enabled_is_lem) (Z.enabled_size ∙ R.threads_are) (word_lt _)

  -- A row over the group's own cells is one of a group alone.
  pub own_ready : (18 < byte → byte < 32 → ⊥) → Ready table ends n s regs cells log saved openers
  own_ready f =
      let view = view_of (own_from R.shape) R.shape.cells R.state in
      record {
        some = R.some;
        inside = R.inside;
        room = R.room;
        asks = R.own_asks f;
        depths = R.depths;
        ends_right = R.ends_right;
        stands = record { state = view; rep = subst (λ k. Represents k view s regs cells log saved openers) R.threads_are R.stands.own };
        sized = R.sizes.log_sized_lem;
        cells_few = R.sizes.cells_few;
      }

  pub own_access : 16 ≤ byte → byte < 19
      → AccessAsks byte x.d x.a cells log × InMemory n regs cells log
  own_access low high =
      let Q = own_ready (λ h l. omega (arith, high)) in
      let q = Q.asks.accesses low (omega (arith, high)) in (
        record {
          known = low;
          small = q.0;
          target = subst (λ k. k < 16) (sym X.d_is) q.1;
          source = subst (λ k. k < 16) (sym X.a_is) q.2;
          sized = Q.sized;
          cells_few = Q.cells_few;
        },
        record { state = Q.stands.state; memory = Q.stands.rep.memory },
      )

  pub compute_asked : byte < 16 → ComputeAsks byte x.d x.a x.b
  compute_asked h = compute_asks _ _ _ _ _ _ _ X.d_is X.a_is X.b_is ((own_ready (λ k l. omega (arith, h))).asks.computes h)

  pub launch_target : byte ≡ 19 → x.d < 16
  launch_target e = subst (λ k. k < 16) (sym X.d_is) (R.launch_asks e).target

  pub construct_tests : 32 ≤ byte → (byte ≡ 32 → x.a < 16) × (byte ≡ 35 → x.a < 16)
  construct_tests low = tested_small table ends n s regs cells log saved openers (own_ready (λ h l. omega (arith, low))) x.a X.a_is

  named_global : 19 ≤ byte → byte < 32 → (byte ≡ 19 → ⊥) → GlobalRowAsks byte (get_or table (s.row * 4 + 1) 0) (get_or table (s.row * 4 + 2) 0)
  named_global low high f = R.global_asks (omega arith) high

  pub global_access : 19 ≤ byte → byte < 32 → (byte ≡ 19 → ⊥)
      → GlobalAsks (byte - 4) x.d x.a global shared masks
  global_access low high f =
      let A = named_global low high f in
      record {
        access = record {
          known = omega (arith, A.known);
          small = omega (arith, A.small);
          target = subst (λ k. k < 16) (sym X.d_is) A.target;
          source = subst (λ k. k < 16) (sym X.a_is) A.source;
          sized = R.sizes.shared_sized;
          cells_few = R.sizes.global_few;
        };
        sized = R.sizes.masks_sized;
      }

  module _ (common counts stamps memo records : List ℕ) (C : Roomy s.mask (s.since + 1) counts) where
    -- What the row due of the group comes to.
    abbrev GroupRow : Next → (regs' cells' log' saved' openers' global' shared' masks' counts' records' stamps' memo' : List ℕ) → Type 0
    GroupRow r regs' cells' log' saved' openers' global' shared' masks' counts' records' stamps' memo' =
        GroupSteps table n group s common regs cells log saved openers global shared masks r regs' cells' log' saved' openers' global' shared' masks'
        × NextCounted byte s r counts counts'
        × RowRecorded byte n group (cell_due table s regs) s r records records' stamps' memo'

    own_row_is : (18 < byte → byte < 32 → ⊥) → (r : Next) (regs' cells' log' saved' openers' counts' records' stamps' memo' shared' : List ℕ)
        → OwnRow table n group s common regs cells log saved openers counts records shared r regs' cells' log' saved' openers' counts' records' stamps' memo' shared'
        → GroupRow r regs' cells' log' saved' openers' global shared' masks counts' records' stamps' memo'
    own_row_is f r regs' cells' log' saved' openers' counts' records' stamps' memo' shared' D =
        let S = D.0 in (
          record {
            counts = S.counts;
            done = λ L z en eg ec G.
                step_done table n group s regs cells log saved openers global shared masks r regs' R.inside L z en G common cells' log' saved' openers' ec S
                (R.own_asks f).known f shared' D.3;
            regs_are = record { numbered = λ e. absurd (f (omega arith) (omega arith)); others = λ g. S.regs_are };
            saved_are = S.saved_are;
            openers_are = S.openers_are;
          },
          D.1,
          D.2,
        )

    pub access_is : 16 ≤ byte → byte < 19
        → (r : Next) (regs' cells' log' records' stamps' memo' : List ℕ)
        → AccessDone byte n x.d x.a s common regs cells log r regs' cells' log' × KeptBut x.d n regs regs' × StepsOn s r
        × RowRecorded byte n group (cell_in byte x.d x.a regs) s r records records' stamps' memo'
        → GroupRow r regs' cells' log' saved openers global shared masks counts records' stamps' memo'
    access_is low high r regs' cells' log' records' stamps' memo' D =
        let own : 18 < byte → byte < 32 → ⊥ = λ h l. omega (arith, high) in
        own_row_is own r regs' cells' log' saved openers counts records' stamps' memo' shared
        (access_row_is table ends n group s common regs cells log saved openers counts stamps memo records shared (own_ready own) C x.d x.a X.d_is X.a_is low (omega (arith, high))
        r regs' cells' log' records' stamps' memo' D)

    module _ (O : Older (s.rows + 1) stamps) (M : Memo memo) where
      pub compute_is : byte < 16 → (r : Next) (regs' : List ℕ) → (r ≡ next.Go (moved_on s)) × Computed byte n s.mask x.d x.a x.b regs regs'
          → GroupRow r regs' cells log saved openers global shared masks counts records stamps memo
      compute_is high r regs' D =
          let own : 18 < byte → byte < 32 → ⊥ = λ h l. omega (arith, high) in
          own_row_is own r regs' cells log saved openers counts records stamps memo shared
          (compute_row_is table ends n group s common regs cells log saved openers counts stamps memo records shared (own_ready own) C O M
          x.d x.a x.b X.d_is X.a_is X.b_is high r regs' D)

      pub construct_is : 32 ≤ byte → byte < 37
          → (r : Next) (saved' openers' counts' : List ℕ) → ConstructCounted byte x.a (get_or ends s.row 0) s regs saved openers counts r saved' openers' counts'
          → GroupRow r regs cells log saved' openers' global shared masks counts' records stamps memo
      construct_is low high r saved' openers' counts' D =
          let own : 18 < byte → byte < 32 → ⊥ = λ h l. omega (arith, low) in
          own_row_is own r regs cells log saved' openers' counts' records stamps memo shared
          (construct_row_is table ends n group s common regs cells log saved openers counts stamps memo records shared (own_ready own) C O M x.a X.a_is low high
          r saved' openers' counts' D)

      pub barrier_is : 37 ≤ byte → (r : Next) (log' records' shared' : List ℕ)
          → (r ≡ barrier_next n s) × (log' ≡ barrier_log n s (length cells) log) × (records' ≡ records_after group 0 s r records) × SharedAfter s r shared shared'
          → GroupRow r regs cells log' saved openers global shared' masks counts records' stamps memo
      barrier_is low r log' records' shared' D =
          let own : 18 < byte → byte < 32 → ⊥ = λ h l. omega (arith, low) in
          own_row_is own r regs cells log' saved openers counts records' stamps memo shared'
          (barrier_row_is table ends n group s common regs cells log saved openers counts stamps memo records shared (own_ready own) C O M low r log' records' shared' D)

      pub launch_is : byte ≡ 19 → (r : Next) (regs' : List ℕ) → LaunchDone n group x.d s regs r regs'
          → GroupRow r regs' cells log saved openers global shared masks counts records stamps memo
      launch_is is-launch r regs' D =
          let left = accessed_counts s (Ok tt) r D.0 in
          let below : byte < 32 = omega arith in
          let slots = slots_kept byte s saved openers (inl below) in (
            record {
              counts = left.0;
              done = λ L z en eg ec G.
                  launch_done table n group s regs cells log saved openers global shared masks r regs' R.inside L z en G eg x.d X.d_is (R.launch_asks is-launch) D;
              regs_are = record {
                numbered = λ e. subst (λ k. Numbered n group s.mask k regs regs') X.d_is D.1;
                others = λ f. absurd (f is-launch);
              };
              saved_are = slots.0;
              openers_are = slots.1;
            },
            counts_on byte s r counts below C.size left.1,
            recorded_plain byte n group _ s records stamps memo r records (λ h l. omega arith) O M (accessed_free group s (Ok tt) r records D.0),
          )

      pub global_is : 19 ≤ byte → byte < 32 → (byte ≡ 19 → ⊥)
          → (r : Next) (regs' global' shared' masks' : List ℕ) → GlobalDone byte n group x.d x.a s regs global shared masks r regs' global' shared' masks'
          → GroupRow r regs' cells log saved openers global' shared' masks' counts records stamps memo
      global_is low high f r regs' global' shared' masks' D =
          let A = named_global low high f in
          let left = accessed_counts s D.0 r D.1 in
          let slots = slots_kept byte s saved openers (inl high) in (
            record {
              counts = left.0;
              done = λ L z en eg ec G.
                  global_done table n group s regs cells log saved openers global shared masks r regs' R.inside L z en G eg x.d x.a X.d_is X.a_is A global' shared' masks' D;
              regs_are = record {
                numbered = λ e. absurd (f e);
                others = λ g. regs_accessed byte n s.mask _ _ _ regs x.d regs' (omega (arith, low)) high X.d_is D.3;
              };
              saved_are = slots.0;
              openers_are = slots.1;
            },
            counts_on byte s r counts high C.size left.1,
            recorded_plain byte n group _ s records stamps memo r records (λ h l. omega (arith, low)) O M (accessed_free group s D.0 r records D.1),
          )
