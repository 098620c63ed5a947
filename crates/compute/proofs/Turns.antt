-- The turns of a computing row's threads, one after the other, leave in the registers what the lanes hold. Assumes nothing.
use mathlib.Core.Path.{◌≡◌, refl, sym, ◌∙◌, ap, ap₂, subst, subst₂}
use mathlib.Core.List.{List, []}
use Prim.Native.Nat.{ℕ, zero, suc, ◌+◌, ◌*◌, ◌/◌, ◌%◌, ◌^◌, ◌<◌, ◌≤◌}
use native.Mathlib.Nat.{le_refl}
use native.Mathlib.Numerals.{add-one}
use native.Mathlib.Omega.{arith}
use native.Mathlib.Decide.{ℕ_discrete}
use lib.Pow.{shr-shr}
use lib.ListN.{length, get_or, set}
use lib.Seq.{set-get_or}
use Rattle.spec.specs.Mask.{mask_word, members}
use Rattle.spec.specs.Op.{Calc, LAUNCHTID, CALC, op_of, value}
use Rattle.spec.specs.Table.{Row}
use Rattle.spec.specs.LockStep.{LockState, Step, in_turn, compute_turn, set_reg, update, reg}
use Rattle.std.specs.Prelude.{Ok}
use Rattle.layout.specs.Memory.{Regs, Memory, Did, OneTurn, ComputeAsks, lane, Puts, computed_lane, Computed}
use Rattle.layout.proofs.Buffers.{regs_set}
use Rattle.layout.proofs.Turning.{Turning, turn_start, turn_in, turn_out, turn_end, turn_whole}
use Rattle.compute.proofs.Values.{ReadsThere, reads_there, launch_reads}
use Rattle.compute.proofs.Putting.{puts_none, puts_old, puts_more, puts_agree, stored_on, stored_off}

-- Buffers that are the same where registers stand are those of the same state.
did_alike : (n : ℕ) (s : LockState) (o : Step) (regs regs' cells log : List ℕ) → length regs' ≡ 512 → ((t r : ℕ) → t < n → lane r regs' t ≡ lane r regs t)
    → Did n s o (Ok tt) regs cells log → Did n s o (Ok tt) regs' cells log
did_alike n s o regs regs' cells log l e D =
    let M = D.memory in
    let R = M.regs_are in
    record {
      answer = D.answer;
      memory = record {
        few = M.few;
        regs_are = record { size = l; threads = R.threads; sixteen = R.sixteen; at = λ t r h q. e t r h ∙ R.at t r h q };
        cells_are = M.cells_are;
        log_is = M.log_is;
      };
      kept = D.kept;
    }

module _ (c : Calc) (group n : ℕ) (x : Row) where
  turn : LockState → ℕ → Step
  turn = compute_turn x (λ t p q. value c n t (group * n + t) x.a x.b p q)

  one_turn : (t y : ℕ) (regs cells log : List ℕ) → t < n → x.d < 16
      → ((s : LockState) → Memory n s regs cells log → value c n t (group * n + t) x.a x.b (reg s t x.a) (reg s t x.b) ≡ y)
      → OneTurn turn n t regs cells log (Ok tt) (set regs (x.d * 32 + t) y) cells log
  unfolding turn compute_turn set_reg update
  one_turn t y regs cells log h l e s M =
      record {
        answer = refl;
        memory = record {
          few = M.few;
          regs_are =
              subst (λ z. Regs n (set s.regs t (set (get_or s.regs t []) x.d z)) (set regs (x.d * 32 + t) y)) (sym (e s M))
              (regs_set n s.regs regs M.regs_are t x.d y M.few h l);
          cells_are = M.cells_are;
          log_is = M.log_is;
        };
        kept = record { row_same_lem = refl; enabled_same = refl; saved_same_lem = refl; rows_same = refl; barriers_same_lem = refl };
      }

module _ (c : Calc) (group n mask d a b : ℕ) (regs : List ℕ) (target : d < 16) (there : ReadsThere c n a b) (size : length regs ≡ 512) where
  -- Lane t of register d after the row.
  abbrev new : ℕ → ℕ
  new = computed_lane c group n mask d a b regs

  new_on : (t : ℕ) → mask / 2 ^ t % 2 ≡ 1 → new t ≡ value c n t (group * n + t) a b (lane a regs t) (lane b regs t)
  unfolding computed_lane
  new_on t q = rw (stored_on n mask t q)

  new_off : (t : ℕ) → t < n → (mask / 2 ^ t % 2 ≡ 1 → ⊥) → new t ≡ lane d regs t
  unfolding computed_lane
  new_off t h q = rw (stored_off n mask t h q)

  -- The registers after the turns of the threads below t.
  after : ℕ → List ℕ
  after zero = regs
  after (suc t) = set (after t) (d * 32 + t) (new t)

  after_puts : (t : ℕ) → t ≤ 32 → Puts d new regs (after t) t
  unfolding after
  after_puts zero h = puts_none d new regs
  after_puts (suc t) h =
      subst (Puts d new regs (after (suc t))) (add-one t)
      (puts_more d new regs (after t) t (after_puts t (omega arith)) (new t) target size (omega arith) refl)

  module _ (x : Row) (ed : x.d ≡ d) (ea : x.a ≡ a) (eb : x.b ≡ b) (cells log : List ℕ) (s : LockState) (em : mask ≡ mask_word s.enabled)
      (el : length s.enabled ≡ n) (M : Memory n s regs cells log) where
    -- Register r of thread t, before its turn.
    reg_is : (t r i : ℕ) → t < n → i ≡ r → r < 16 → (z : LockState) → Memory n z (after t) cells log → reg z t i ≡ lane r regs t
    unfolding reg
    reg_is t r i h e l z Z =
        ap (λ j. get_or (get_or z.regs t []) j 0) e ∙ sym (Z.regs_are.at t r h l)
        ∙ (after_puts t (omega (arith, M.few))).above (r * 32 + t) (λ j k q. omega (arith, M.few))

    turn_of : (t : ℕ) → t < n → mask / 2 ^ t % 2 ≡ 1 → OneTurn (turn c group n x) n t (after t) cells log (Ok tt) (after (suc t)) cells log
    unfolding after
    turn_of t h q =
        subst (λ i. OneTurn (turn c group n x) n t (after t) cells log (Ok tt) (set (after t) (i * 32 + t) (new t)) cells log) ed
        (one_turn c group n x t (new t) (after t) cells log h (omega (arith, ed, target)) (λ z Z.
        ap₂ (λ i j. value c n t (group * n + t) i j (reg z t x.a) (reg z t x.b)) ea eb
        ∙ there t (group * n + t) (reg z t x.a) (reg z t x.b) (lane a regs t) (lane b regs t)
        (λ l. reg_is t a x.a h ea l z Z) (λ l. reg_is t b x.b h eb l z Z)
        ∙ sym (new_on t q)))

    -- A thread that is not enabled keeps its register.
    turn_off : (t : ℕ) → t < n → (mask / 2 ^ t % 2 ≡ 1 → ⊥) → after t ≡ after (suc t)
    unfolding after
    turn_off t h q =
        sym (ap (set (after t) (d * 32 + t)) (new_off t h q ∙ sym (puts_old d new regs (after t) t (after_puts t (omega (arith, M.few)))))
        ∙ set-get_or (after t) (d * 32 + t) 0)

    step : (t : ℕ) (rs : List ℕ) → Turning (turn c group n x) n s (t + 1) (mask / 2 ^ t / 2) rs cells log
        → Turning (turn c group n x) n s (suc t) (mask / 2 ^ suc t) rs cells log
    step t rs T = subst₂ (λ i m. Turning (turn c group n x) n s i m rs cells log) (add-one t) (shr-shr mask t 1 ∙ ap (λ i. mask / 2 ^ i) (add-one t)) T

    turns : (t : ℕ) → t ≤ n → Turning (turn c group n x) n s t (mask / 2 ^ t) (after t) cells log
    unfolding after
    turns zero h =
        subst (λ m. Turning (turn c group n x) n s 0 m regs cells log) (let e : mask ≡ mask / 1 = omega arith in e)
        (turn_start (turn c group n x) n s mask regs cells log em el M)
    turns (suc t) h = by (turns t (omega arith)) (ℕ_discrete (mask / 2 ^ t % 2) 1)
      where
        by : Turning (turn c group n x) n s t (mask / 2 ^ t) (after t) cells log → Dec (mask / 2 ^ t % 2 ≡ 1)
            → Turning (turn c group n x) n s (suc t) (mask / 2 ^ suc t) (after (suc t)) cells log
        by T (yes q) =
            step t (after (suc t)) (turn_in (turn c group n x) n s t (mask / 2 ^ t) (after t) cells log T (after (suc t)) cells log h q (turn_of t h q))
        by T (no q) =
            subst (λ rs. Turning (turn c group n x) n s (suc t) (mask / 2 ^ suc t) rs cells log) (turn_off t h q)
            (step t (after t) (turn_out (turn c group n x) n s t (mask / 2 ^ t) (after t) cells log T h q))

    row_did : Did n s (in_turn (turn c group n x) (members s.enabled) s) (Ok tt) (after n) cells log
    row_did =
        let T = turns n (le_refl n) in
        let none = turn_end (turn c group n x) n s n (mask / 2 ^ n) (after n) cells log T (le_refl n) in
        turn_whole (turn c group n x) n s n (mask / 2 ^ n) (after n) cells log T none

    -- So do the words that a row of this op leaves.
    calc_did : (regs' : List ℕ) → Puts d new regs regs' 32 → Did n s (in_turn (turn c group n x) (members s.enabled) s) (Ok tt) regs' cells log
    calc_did regs' P =
        did_alike n s (in_turn (turn c group n x) (members s.enabled) s) (after n) regs' cells log (P.size ∙ size)
        (puts_agree d n new new regs regs' (after n) M.few P (after_puts n M.few) (λ t h. refl))
        row_did

-- A row by a byte's op, in any group; and a row of the launch number, which reads neither byte a nor b.
module _ (n mask d : ℕ) (regs : List ℕ) (size : length regs ≡ 512) (x : Row) (ed : x.d ≡ d) (cells log : List ℕ) (s : LockState)
    (em : mask ≡ mask_word s.enabled) (el : length s.enabled ≡ n) (M : Memory n s regs cells log) (regs' : List ℕ) (group : ℕ) where
  pub compute_did : (op a b : ℕ) → ComputeAsks op d a b → (c : Calc) → op_of op ≡ CALC c → x.a ≡ a → x.b ≡ b → Computed op n mask d a b regs regs'
      → Did n s (in_turn (compute_turn x (λ t p q. value c n t (group * n + t) x.a x.b p q)) (members s.enabled) s) (Ok tt) regs' cells log
  unfolding turn
  compute_did op a b A c o ea eb C =
      calc_did c group n mask d a b regs A.target (reads_there op d a b n c o A) size x ed ea eb cells log s em el M regs' (C c o group)

  pub launch_did : d < 16 → Puts d (computed_lane LAUNCHTID group n mask d 0 0 regs) regs regs' 32
      → Did n s (in_turn (compute_turn x (λ t p q. value LAUNCHTID n t (group * n + t) x.a x.b p q)) (members s.enabled) s) (Ok tt) regs' cells log
  unfolding turn computed_lane value
  launch_did target P =
      calc_did LAUNCHTID group n mask d x.a x.b regs target (launch_reads n x.a x.b) size x ed refl refl cells log s em el M regs' P
