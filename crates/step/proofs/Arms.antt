-- What each kind of row leaves is what the definition's row due comes to. Assumes nothing.
use mathlib.Core.Path.{◌≡◌, refl, sym, ap, ◌∙◌, subst}
use mathlib.Core.Logic.{inl, inr}
use mathlib.Core.List.{List}
use Prim.Native.Nat.{ℕ, ◌+◌, ◌*◌, ◌<◌, ◌≤◌}
use native.Mathlib.Omega.{arith}
use lib.ListN.{length, get_or}
use Rattle.spec.specs.LockStep.{LockState, run_row}
use Rattle.spec.specs.Table.{Table, rows_of, row_at, end_of}
use Rattle.layout.specs.declared.State.{State}
use Rattle.layout.specs.Next.{Next}
use Rattle.layout.specs.Next as next
use Rattle.layout.specs.Memory.{Computed, KeptBut, shape_by, cell_in}
use Rattle.layout.specs.Represents.{Represents, Counts, moved_on}
use Rattle.layout.specs.Constructs.{barrier_next, barrier_log}
use Rattle.layout.specs.Counting.{Roomy, StepsOn}
use Rattle.layout.specs.Groups.{SharedAfter}
use Rattle.layout.specs.Running.{AccessDone, Ready}
use Rattle.layout.proofs.PlainRows.{counted_moved, counted_settled}
use Rattle.layout.proofs.Saving.{slots_kept}
use Rattle.compute.proofs.Turns.{compute_did}
use Rattle.constructs.proofs.Arms.{construct_after, barrier_after}
use Rattle.constructs.proofs.Barrier.{barrier_counts}
use Rattle.stepcounts.proofs.NextCounts.{counts_on, moved_on_lem, counts_barrier, done_since, counts_construct, after_settled}
use Rattle.banks.specs.Counting.{Older}
use Rattle.banks.specs.Remembering.{Memo}
use Rattle.intervals.specs.Records.{records_after}
use Rattle.step.specs.Recording.{RowRecorded}
use Rattle.step.specs.Arms.{ConstructCounted, OwnRow}
use Rattle.step.proofs.Tables.{row_bytes, compute_op, compute_asks, row_here, inside_row}
use Rattle.step.proofs.Plain.{compute_after}
use Rattle.step.proofs.Recorded.{recorded_plain, recorded_at, after_plain, construct_barriers}
use Rattle.step.proofs.Registers.{regs_computed, regs_accessed, regs_kept}

-- The register that an IF or a WHILE tests is one of 16.
pub tested_small : (table ends : List ℕ) (n : ℕ) (s : State) (regs cells log saved openers : List ℕ) → Ready table ends n s regs cells log saved openers
    → (a : ℕ) → a ≡ get_or table (s.row * 4 + 2) 0 → (get_or table (s.row * 4) 0 ≡ 32 → a < 16) × (get_or table (s.row * 4) 0 ≡ 35 → a < 16)
tested_small table ends n s regs cells log saved openers P a ea =
    ((λ e. subst (λ k. k < 16) (sym ea) (P.asks.ifs e)), (λ e. subst (λ k. k < 16) (sym ea) (P.asks.whiles e)))

module _ (table ends : List ℕ) (n group : ℕ) (s : State) (common regs cells log saved openers counts stamps memo records shared : List ℕ)
    (P : Ready table ends n s regs cells log saved openers) (C : Roomy s.mask (s.since + 1) counts) where
  abbrev T : Table
  T = rows_of table

  abbrev code : ℕ
  code = get_or table (s.row * 4) 0

  here : (z : LockState) → Represents n z s regs cells log saved openers → row_at T z.row ≡ row_bytes table s.row
  here z R = row_here table n z s regs cells log saved openers R (inside_row table s.row P.inside)

  module _ (O : Older (s.rows + 1) stamps) (M : Memo memo) where
    pub compute_row_is : (d a b : ℕ) → d ≡ get_or table (s.row * 4 + 1) 0 → a ≡ get_or table (s.row * 4 + 2) 0 → b ≡ get_or table (s.row * 4 + 3) 0
        → code < 16 → (r : Next) (regs' : List ℕ) → (r ≡ next.Go (moved_on s)) × Computed code n s.mask d a b regs regs'
        → OwnRow table n group s common regs cells log saved openers counts records shared r regs' cells log saved openers counts records stamps memo shared
    compute_row_is d a b ed ea eb h r regs' D =
        subst (λ q. OwnRow table n group s common regs cells log saved openers counts records shared q regs' cells log saved openers counts records stamps memo shared)
        (sym D.0) moved
      where
        moved : OwnRow table n group s common regs cells log saved openers counts records shared (next.Go (moved_on s)) regs' cells log saved openers counts records
            stamps memo shared
        moved =
            let asks = P.asks.computes h in
            let op = compute_op code asks.known asks.small in
            let slots = slots_kept code s saved openers (inl (omega arith)) in (
              record {
                counts = counted_moved s (moved_on s) refl;
                done = λ z R.
                    let x = row_at T z.row in
                    let E = here z R in
                    compute_after n z s regs cells log saved openers R T x common op.0 (moved_on s) regs' (ap (λ y. y.op) E ∙ op.1)
                    (compute_did n s.mask d regs R.memory.regs_are.size x (ap (λ y. y.d) E ∙ sym ed) cells log z
                    R.enabled_is_lem R.enabled_size R.memory regs' 0 code a b
                    (compute_asks _ _ _ _ _ _ _ ed ea eb asks) op.0 op.1
                    (ap (λ y. y.a) E ∙ sym ea) (ap (λ y. y.b) E ∙ sym eb) D.1)
                    refl;
                regs_are = regs_computed code n s.mask _ _ _ regs d a b regs' h ed ea eb D.1;
                saved_are = slots.0;
                openers_are = slots.1;
              },
              counts_on code s (next.Go (moved_on s)) counts (omega (arith, h)) C.size (moved_on_lem s (moved_on s) refl),
              recorded_plain code n group _ s records stamps memo (next.Go (moved_on s)) records (λ k l. omega (arith, h)) O M
                  (sym (after_plain group s (moved_on s) records refl)),
              ((λ e. absurd (omega (arith, h))), (λ e. refl)),
            )

    pub construct_row_is : (a : ℕ) → a ≡ get_or table (s.row * 4 + 2) 0 → 32 ≤ code → code < 37
        → (r : Next) (saved' openers' counts' : List ℕ) → ConstructCounted code a (get_or ends s.row 0) s regs saved openers counts r saved' openers' counts'
        → OwnRow table n group s common regs cells log saved openers counts records shared r regs cells log saved' openers' counts' records stamps memo shared
    construct_row_is a ea low high r saved' openers' counts' D =
        subst (λ q. OwnRow table n group s common regs cells log saved openers counts records shared q regs cells log saved' openers' counts' records stamps memo shared)
        (sym D.result_is) settled
      where
        settled : OwnRow table n group s common regs cells log saved openers counts records shared (next.Go D.after) regs cells log saved' openers' counts' records
            stamps memo shared
        settled =
            let S = D.settled in
            let same-barriers = ap (λ z. z.barriers) S.state_is ∙ construct_barriers _ _ _ _ _ _ _ _ _ _ D.done in (
              record {
                counts = counted_settled s D.gone D.after D.done.counted S.state_is S.since_few;
                done = λ z R.
                    let x = row_at T z.row in
                    let E = here z R in
                    after_settled n (run_row T (shape_by n cells common) x z x.op) D.gone D.after regs cells log saved' openers'
                    (construct_after n z s regs cells log saved openers R T (shape_by n cells common) x code
                    (ap (λ y. y.op) E) a (get_or ends s.row 0) (ap (λ y. y.a) E ∙ sym ea)
                    (λ w. P.ends_right (ap (λ k. (row_at T k).op) R.row_is_lem ∙ w) ∙ ap (end_of T) R.row_is_lem)
                    (tested_small table ends n s regs cells log saved openers P a ea) P.depths low (omega (arith, high)) D.gone saved' openers' D.done) S.state_is;
                regs_are = regs_kept code n s.mask _ _ _ regs low;
                saved_are = D.done.saved_are;
                openers_are = D.done.openers_are;
              },
              counts_construct code s D.gone D.after counts counts' high (done_since D.done) S,
              recorded_plain code n group _ s records stamps memo (next.Go D.after) records (λ k l. omega (arith, low)) O M
                  (sym (after_plain group s D.after records same-barriers)),
              ((λ w. absurd (omega (arith, high))), (λ w. refl)),
            )

    pub barrier_row_is : 37 ≤ code → (r : Next) (log' records' shared' : List ℕ)
        → (r ≡ barrier_next n s) × (log' ≡ barrier_log n s (length cells) log) × (records' ≡ records_after group 0 s r records) × SharedAfter s r shared shared'
        → OwnRow table n group s common regs cells log saved openers counts records shared r regs cells log' saved openers counts records' stamps memo shared'
    barrier_row_is low r log' records' shared' D =
        let e : code ≡ 37 = omega (arith, low, P.asks.known) in
        let slots = slots_kept code s saved openers (inr (omega arith)) in (
          record {
            counts = subst (Counts s) (sym D.0) (barrier_counts n s);
            done = λ z R.
                barrier_after n z s regs cells log saved openers R T (shape_by n cells common) (row_at T z.row) code
                (ap (λ x. x.op) (here z R)) common P.some e r log' (D.0, D.1);
            regs_are = regs_kept code n s.mask _ _ _ regs (omega arith);
            saved_are = slots.0;
            openers_are = slots.1;
          },
          counts_barrier code n s r counts e C.size D.0,
          recorded_plain code n group _ s records stamps memo r records' (λ k l. omega (arith, e)) O M D.2,
          ((λ w. D.3), (λ f. absurd (f e))),
        )

  pub access_row_is : (d a : ℕ) → d ≡ get_or table (s.row * 4 + 1) 0 → a ≡ get_or table (s.row * 4 + 2) 0 → 16 ≤ code → code < 32
      → (r : Next) (regs' cells' log' records' stamps' memo' : List ℕ)
      → AccessDone code n d a s common regs cells log r regs' cells' log' × KeptBut d n regs regs' × StepsOn s r
      × RowRecorded code n group (cell_in code d a regs) s r records records' stamps' memo'
      → OwnRow table n group s common regs cells log saved openers counts records shared r regs' cells' log' saved openers counts records' stamps' memo' shared
  access_row_is d a ed ea low high r regs' cells' log' records' stamps' memo' D =
      let slots = slots_kept code s saved openers (inl high) in (
        record {
          counts = D.0.0;
          done = λ z R.
              let E = here z R in
              D.0.1 saved openers T (row_at T z.row) z (ap (λ x. x.op) E) (ap (λ x. x.d) E ∙ sym ed) (ap (λ x. x.a) E ∙ sym ea) R;
          regs_are = regs_accessed code n s.mask _ _ _ regs d regs' low high ed D.1;
          saved_are = slots.0;
          openers_are = slots.1;
        },
        counts_on code s r counts high C.size D.2,
        recorded_at s _ _ _ _ _ _ _ _ _ _ _ _ regs ed ea D.3,
        ((λ e. absurd (omega (arith, high))), (λ e. refl)),
      )
