-- One thread's access, by what it comes to: outside, a race, or made. Assumes nothing.
use mathlib.Core.Path.{◌≡◌, refl, sym, ◌∙◌, ap, ap₂, subst, subst₂}
use mathlib.Core.Logic.{◌⊎◌, inl, inr}
use mathlib.Core.List.{List, []}
use mathlib.Core.Bool.{Bool, true, false, cond, not, ◌&&◌, false≢true}
use Prim.Native.Nat.{ℕ, ◌+◌, ◌-◌, ◌*◌, ◌%◌, ◌^◌, ◌<◌, ◌≤◌}
use native.Mathlib.Omega.{arith}
use native.Mathlib.Decide.{ℕ_discrete, dec_lt}
use borrow.Author.Tests.{eq-eqb, ne_eqb, eqb-true, le-leb, lt-leb, leb-true, ltb-true, le-ltb, lt-ltb}
use lib.Dec.{eqb, leb, ltb}
use lib.Bits.{bit_and, bit_or}
use lib.Count.{count_trailing_zeros}
use lib.ListN.{length, get_or, set, length-set}
use lib.Seq.{set-get_or, get_or-set_other}
use Rattle.spec.specs.declared.AccessKind.{AccessKind}
use Rattle.spec.specs.declared.Verdict.TheVariants.{Race, Outside, Common}
use Rattle.spec.specs.Access.{Kind, load, store, atomic_add, cell_after, registers_after}
use Rattle.spec.specs.Op.{OWN, Mem, MEM, op_of}
use Rattle.spec.specs.Word.{add}
use Rattle.spec.specs.Table.{Row, cell_byte, kind_of}
use Rattle.spec.specs.Shape.{Shape, at_common, bound, address, in_common, is_common, nowhere, past, shape_of, sizes, with_common}
use Rattle.spec.specs.Limits.{common_from}
use Rattle.spec.specs.Mask.{Mask, mask_word, any, lowest}
use Rattle.spec.specs.Log.{logged, conflict_mask, race_kind}
use Rattle.spec.specs.LockStep.{LockState, Step, continues, stops, update, reg, set_reg, made_access, enter_group, rivals, try_access, past_turn, access_turn}
use Rattle.masks.proofs.Bits.{or_less}
use Rattle.masks.proofs.Words.{any_none, any_some, lowest_is}
use Rattle.layout.specs.Memory.{Access}
use Rattle.std.specs.Prelude.{Ok, Err}
use Rattle.layout.specs.declared.Halt.{Halt}
use Rattle.layout.specs.Memory.{Regs, LogIs, Memory, Kept, Did, OneTurn, AccessOne, KeptBut, AccessAsks, shape_by, cell_by, Transferred}
use Rattle.layout.specs.Memory.{CellRegister, CellNumber, TestAsks, goes_on, takes_common, TurnMade, Halted}
use Rattle.layout.proofs.Buffers.{regs_set}
use Rattle.layout.specs.Logging.{tested_word, kind_word, entered_words}
use Rattle.layout.proofs.LogBuffer.{conflict_size}
use Rattle.layout.proofs.Reach.{or_left, or_right}
use Rattle.layout.proofs.Turning.{Turns, kept_none, turn_stop}
use Rattle.layout.proofs.LogTests.{which, mem_load, mem_store, mem_add, conflict_means, entered_means, kind_means}

-- What a STORE and an ATOMIC ADD leave in the cell.
pub cell_by_store : (op old word : ℕ) → op ≡ 17 → cell_by op old word ≡ word
unfolding cell_by
cell_by_store op old word e = rw (eq-eqb op 17 e)

pub cell_by_add : (op old word : ℕ) → (op ≡ 17 → ⊥) → cell_by op old word ≡ add old word
unfolding cell_by
cell_by_add op old word f = rw (ne_eqb op 17 f)

-- The acting thread is among those that the access test comes to.
pub bit_met : (op v k i : ℕ) (log : List ℕ) (met bit : ℕ) → met ≡ bit_or (tested_word op v k i log) bit → bit ≤ met
bit_met op v k i log met bit e = omega (arith, e, or_right (tested_word op v k i log) bit)

-- The test that decides whether an access goes on, by its two parts.
module _ (op v bit x : ℕ) (cells log : List ℕ) where
  pub goes_outside : length cells ≤ x → false ≡ goes_on op v bit x cells log
  unfolding goes_on
  goes_outside h = sym (rw (le-leb (length cells) x h))

  pub goes_inside : (met : ℕ) → x < length cells → met ≡ bit_or (tested_word op v (length cells) x log) bit → eqb met bit ≡ goes_on op v bit x cells log
  unfolding goes_on
  goes_inside met h e = ap (λ (y : ℕ). eqb y bit) e ∙ sym (rw (lt-leb (length cells) x h))

  pub goes_alone : goes_on op v bit x cells log ≡ true → (x < length cells) × (bit_or (tested_word op v (length cells) x log) bit ≡ bit)
  goes_alone e = by (dec_lt x (length cells))
    where
      by : Dec (x < length cells) → (x < length cells) × (bit_or (tested_word op v (length cells) x log) bit ≡ bit)
      by (yes l) = (l, eqb-true _ bit (goes_inside _ l refl ∙ e))
      by (no l) = absurd (false≢true (goes_outside (omega arith) ∙ e))

  pub goes_not : (met : ℕ) → goes_on op v bit x cells log ≡ false → x < length cells → met ≡ bit_or (tested_word op v (length cells) x log) bit → met ≡ bit → ⊥
  goes_not met e l q z = false≢true (sym (goes_inside met l q ∙ e) ∙ eq-eqb met bit z)

-- The number of a common cell.
pub common_is : (common : List ℕ) (x : ℕ) → in_common common x ≡ true → (common_from ≤ x) × (x - common_from < length common)
unfolding in_common
common_is common x e =
    let a = leb-true common_from x (left (leb common_from x) _ e) in
    let b = ltb-true x (common_from + length common) (right (leb common_from x) _ e) in
    (a, omega (arith, a, b))
  where
    left : (p q : Bool) → (p && q) ≡ true → p ≡ true
    left true q e = refl
    left false q e = e

    right : (p q : Bool) → (p && q) ≡ true → q ≡ true
    right true q e = e
    right false q e = absurd (false≢true e)

pub below_common : (common : List ℕ) (x : ℕ) → x < common_from → false ≡ in_common common x
unfolding in_common
below_common common x l = sym (ap (λ b. b && ltb x (common_from + length common)) (lt-leb common_from x l))

pub from_common : (common : List ℕ) (x : ℕ) → common_from ≤ x → ltb (x - common_from) (length common) ≡ in_common common x
unfolding in_common
from_common common x l = by (dec_lt x (common_from + length common))
  where
    by : Dec (x < common_from + length common) → ltb (x - common_from) (length common) ≡ (leb common_from x && ltb x (common_from + length common))
    by (yes h) =
        lt-ltb (x - common_from) (length common) (omega (arith, h, l))
        ∙ sym (ap₂ ◌&&◌ (le-leb common_from x l) (lt-ltb x (common_from + length common) h))
    by (no h) =
        le-ltb (x - common_from) (length common) (omega (arith, h, l))
        ∙ sym (ap₂ ◌&&◌ (le-leb common_from x l) (le-ltb x (common_from + length common) (omega (arith, h))))

pub none_common : (x : ℕ) → in_common [] x ≡ false
none_common x = by (dec_lt x common_from)
  where
    by : Dec (x < common_from) → in_common [] x ≡ false
    by (yes l) = sym (below_common [] x l)
    by (no l) = sym (from_common [] x (omega arith)) ∙ le-ltb (x - common_from) 0 (omega arith)

pub takes_load : (op x : ℕ) (common : List ℕ) → op ≡ 16 → in_common common x ≡ takes_common op x common
unfolding takes_common
takes_load op x common e = sym (ap (λ b. cond b (in_common common x) false) (eq-eqb op 16 e))

pub takes_other : (op x : ℕ) (common : List ℕ) → (op ≡ 16 → ⊥) → false ≡ takes_common op x common
unfolding takes_common
takes_other op x common f = sym (ap (λ b. cond b (in_common common x) false) (ne_eqb op 16 f))

pub takes_means : (op x : ℕ) (common : List ℕ) → takes_common op x common ≡ true → (op ≡ 16) × (in_common common x ≡ true)
takes_means op x common e = by (ℕ_discrete op 16)
  where
    by : Dec (op ≡ 16) → (op ≡ 16) × (in_common common x ≡ true)
    by (yes q) = (q, takes_load op x common q ∙ e)
    by (no q) = absurd (false≢true (takes_other op x common q ∙ e))

-- What the code's `if !` says of the answer w.
pub halts : (w b : Bool) → w ≡ b → not w ≡ true → b ≡ false
halts true b e q = absurd (false≢true q)
halts false b e q = sym e

pub passes : (w b : Bool) → w ≡ b → not w ≡ false → b ≡ true
passes true b e q = sym e
passes false b e q = absurd (false≢true (sym q))

-- A refused access of a cell that is there meets somebody: j and y are the code's numbers of thread and cell.
pub refused_foe : (op a t : ℕ) (regs cells log : List ℕ) (j x y met bit : ℕ) → goes_on op (get_or regs (a * 32 + t) 0) bit x cells log ≡ false → j ≡ t → y ≡ x
    → y < length cells → met ≡ bit_or (tested_word op (get_or regs (a * 32 + j) 0) (length cells) y log) bit → met ≡ bit → ⊥
refused_foe op a t regs cells log j x y met bit F ej ey l e =
    goes_not op (get_or regs (a * 32 + j) 0) bit y cells log met (ap₂ (λ (u z : ℕ). goes_on op (get_or regs (a * 32 + u) 0) bit z cells log) ej ey ∙ F) l e

-- An access stores to no register but its own lane of register d; what follows one another keeps what all keep.
pub transfer_keeps : (op d t j from i : ℕ) (regs cells regs' cells' : List ℕ) → j ≡ t → Transferred op (d * 32 + j) from i regs cells regs' cells'
    → KeptBut d (t + 1) regs regs'
transfer_keeps op d t j from i regs cells regs' cells' e T k off = by (ℕ_discrete op 16)
  where
    by : Dec (op ≡ 16) → get_or regs' k 0 ≡ get_or regs k 0
    by (yes q) =
        ap (λ x. get_or x k 0) (T.load_regs q)
        ∙ get_or-set_other regs (d * 32 + j) k (get_or cells i 0) 0 (λ p. off t (omega arith) (p ∙ ap (λ x. d * 32 + x) e))
    by (no f) = ap (λ x. get_or x k 0) (T.other_regs f)

-- Within a row the buffers keep their lengths, so what was asked still holds, and a turn is one of the same launch.
pub asks_still : (op d a : ℕ) (cells₀ log₀ cells log : List ℕ) → AccessAsks op d a cells₀ log₀ → length cells ≡ length cells₀ → length log ≡ length log₀
    → AccessAsks op d a cells log
asks_still op d a cells₀ log₀ cells log A c l =
    record {
      known = A.known;
      small = A.small;
      target = A.target;
      source = A.source;
      sized = omega (arith, A.sized);
      cells_few = omega (arith, A.cells_few);
    }

pub test_still : (op d a : ℕ) (cells₀ log₀ cells log : List ℕ) → AccessAsks op d a cells₀ log₀ → length cells ≡ length cells₀ → length log ≡ length log₀
    → TestAsks op a cells log
test_still op d a cells₀ log₀ cells log A c l =
    record { known = A.known; small = A.small; source = A.source; sized = omega (arith, A.sized); cells_few = omega (arith, A.cells_few) }

pub turn_still : (n t : ℕ) (y : Mem) (x : Row) (common cells₀ regs cells log regs' cells' log' : List ℕ) (r : Access) → length cells ≡ length cells₀
    → OneTurn (access_turn (shape_by n cells common) OWN y x) n t regs cells log r regs' cells' log'
    → OneTurn (access_turn (shape_by n cells₀ common) OWN y x) n t regs cells log r regs' cells' log'
turn_still n t y x common cells₀ regs cells log regs' cells' log' r e d =
    subst (λ k. OneTurn (access_turn (shape_of (with_common common (sizes n k 1 0)) 0) OWN y x) n t regs cells log r regs' cells' log') e d

-- What a loop over a row's threads has shown where it halts at thread r .thread, m being what is left of the mask.
pub halted_at : (op n mask d a : ℕ) (common regs₀ cells₀ log₀ : List ℕ) (r : Halt) (m : ℕ) (regs cells log : List ℕ) → r.turn.thread < n → m % 2 ≡ 1
    → length cells ≡ length cells₀ → r.turn.bit ≡ 2 ^ r.turn.thread → CellNumber op d a r.turn.thread regs r.turn.cell
    → goes_on op (get_or regs (a * 32 + r.turn.thread) 0) r.turn.bit r.turn.cell cells log ≡ false
    → takes_common op r.turn.cell common ≡ false
    → ((y : Mem) (x : Row) → op_of op ≡ MEM OWN y → x.d ≡ d → x.a ≡ a
    → Turns (access_turn (shape_by n cells₀ common) OWN y x) n mask regs₀ cells₀ log₀ r.turn.thread m regs cells log)
    → Halted op n mask d a common regs₀ cells₀ log₀ r regs cells log
halted_at op n mask d a common regs₀ cells₀ log₀ r m regs cells log h odd e b N g u T =
    record {
      inside = h;
      bit_is = b;
      number = N;
      refused = g;
      untaken = u;
      stops = λ v D y x o ed ea s q l M.
          turn_stop (access_turn (shape_by n cells₀ common) OWN y x) n s r.turn.thread m regs cells log (T y x o ed ea s q l M) v regs cells log h odd
          (turn_still n r.turn.thread y x common cells₀ _ _ _ _ _ _ _ e (D n y x o h ed ea));
    }

-- The same of a thread's turn that did not go on.
pub halted_turn : (op n mask d a : ℕ) (common regs₀ cells₀ log₀ : List ℕ) (r : Halt) (m : ℕ) (regs cells log : List ℕ) (w : Bool) (regs' cells' log' : List ℕ)
    → r.turn.thread < n → m % 2 ≡ 1 → length cells ≡ length cells₀ → r.turn.bit ≡ 2 ^ r.turn.thread → CellNumber op d a r.turn.thread regs r.turn.cell
    → TurnMade op r.turn.thread d a r.turn.cell r.turn.bit common regs cells log w regs' cells' log' → not w ≡ true
    → ((y : Mem) (x : Row) → op_of op ≡ MEM OWN y → x.d ≡ d → x.a ≡ a
    → Turns (access_turn (shape_by n cells₀ common) OWN y x) n mask regs₀ cells₀ log₀ r.turn.thread m regs cells log)
    → Halted op n mask d a common regs₀ cells₀ log₀ r regs' cells' log'
halted_turn op n mask d a common regs₀ cells₀ log₀ r m regs cells log w regs' cells' log' h odd e b N S q T =
    let at = S.stays (halts w w refl q) in
    subst (λ z. Halted op n mask d a common regs₀ cells₀ log₀ r z cells' log') (sym at.0)
    (subst (λ z. Halted op n mask d a common regs₀ cells₀ log₀ r regs z log') (sym at.1)
    (subst (λ z. Halted op n mask d a common regs₀ cells₀ log₀ r regs cells z) (sym at.2)
    (halted_at op n mask d a common regs₀ cells₀ log₀ r m regs cells log h odd e b N at.3 at.4 T)))

pub keeps_on : (d n t : ℕ) (xs ys zs : List ℕ) → t < n → KeptBut d n xs ys → KeptBut d (t + 1) ys zs → KeptBut d n xs zs
keeps_on d n t xs ys zs h K J i off = J i (λ j l e. off j (omega arith) e) ∙ K i off

module _ (n t : ℕ) (s : LockState) (regs cells log : List ℕ) (M : Memory n s regs cells log) (h : t < n) where
  -- what the code reads at r * 32 + j is the thread's register
  reg_is : (r j q : ℕ) → j ≡ t → q ≡ r → r < 16 → get_or regs (r * 32 + j) 0 ≡ reg s t q
  unfolding reg
  reg_is r j q ej eq l = ap (λ z. get_or regs (r * 32 + z) 0) ej ∙ M.regs_are.at t r h l ∙ ap (λ z. get_or (get_or s.regs t []) z 0) (sym eq)

  cells_size : length cells ≡ length s.cells
  cells_size = ap length M.cells_are

  log_here : LogIs n (length cells) s.log log
  log_here = subst (λ k. LogIs n k s.log log) (sym cells_size) M.log_is

  module _ (op d a j i : ℕ) (m : Mem) (x : Row) (o : op_of op ≡ MEM OWN m) (p : 16 ≤ op) (q : op ≤ 18) (N : CellNumber op d a t regs i) (ed : x.d ≡ d)
      (ea : x.a ≡ a) (ld : d < 16) (la : a < 16) (ej : j ≡ t) (common : List ℕ) where
    abbrev shape : Shape
    shape = shape_by n cells common

    abbrev kind : Kind
    kind = kind_of m (reg s t x.a)

    abbrev turn : Step
    turn = access_turn shape OWN m x s t

    pub number_is : reg s t (cell_byte m x) ≡ i
    unfolding cell_byte
    number_is = by (which op p q)
      where
        r : CellRegister op d a N.register
        r = N.in_register

        word : (y : ℕ) → y ≡ N.register → reg s t y ≡ i
        word y e = sym (N.word ∙ reg_is N.register t y refl e r.small)

        by : (op ≡ 16) ⊎ ((op ≡ 17) ⊎ (op ≡ 18)) → reg s t (cell_byte m x) ≡ i
        by (inl e) = ap (λ y. reg s t (cell_byte y x)) (mem_load op m e o) ∙ word x.a (ea ∙ sym (r.of_load e))
        by (inr (inl e)) = ap (λ y. reg s t (cell_byte y x)) (mem_store op m e o) ∙ word x.d (ed ∙ sym (r.of_other (λ z. omega arith)))
        by (inr (inr e)) = ap (λ y. reg s t (cell_byte y x)) (mem_add op m e o) ∙ word x.d (ed ∙ sym (r.of_other (λ z. omega arith)))

    turn_at : turn ≡ cond (leb (length cells) i) (past_turn s t d i (past shape OWN i kind)) (try_access shape OWN s t d i kind)
    unfolding access_turn bound
    turn_at = ap₂ (λ c e. cond (leb (length cells) c) (past_turn s t e c (past shape OWN c kind)) (try_access shape OWN s t e c kind)) number_is ed

    did : (y : Step) (w : Access) (regs' cells' log' : List ℕ) → turn ≡ y → Did n s y w regs' cells' log'
        → Did n s turn w regs' cells' log'
    did y w regs' cells' log' e D = subst (λ z. Did n s z w regs' cells' log') (sym e) D

    -- past the cells
    beyond : length cells ≤ i → (b : Bool) → in_common common i ≡ b → turn ≡ past_turn s t d i (cond b (at_common kind (get_or common (i - common_from) 0)) nowhere)
    unfolding past is_common
    beyond g b e =
        turn_at ∙ ap (λ z. cond z (past_turn s t d i (past shape OWN i kind)) (try_access shape OWN s t d i kind)) (le-leb (length cells) i g)
        ∙ ap (λ z. past_turn s t d i (cond z (at_common kind (get_or common (i - common_from) 0)) nowhere)) e

    pub outside_did : (v : ℕ) → v ≡ i → length cells ≤ i → in_common common i ≡ false → Did n s turn (Err (Outside t v)) regs cells log
    outside_did v ev g f =
        did (stops (Outside t i) s) _ regs cells log (beyond g false f ∙ (unfold past_turn in refl))
        (record { answer = ap (λ z. Err (Outside t z)) ev; memory = M; kept = kept_none s })

    -- a common cell: a LOAD takes its word, any other access stops
    kind_load : op ≡ 16 → kind ≡ load
    kind_load e = unfold kind_of in (ap (λ y. kind_of y (reg s t x.a)) (mem_load op m e o))

    kind_store : op ≡ 17 → kind ≡ store (reg s t x.a)
    kind_store e = unfold kind_of in (ap (λ y. kind_of y (reg s t x.a)) (mem_store op m e o))

    kind_add : op ≡ 18 → kind ≡ atomic_add (reg s t x.a)
    kind_add e = unfold kind_of in (ap (λ y. kind_of y (reg s t x.a)) (mem_add op m e o))

    taken : (v : ℕ) (regs' : List ℕ) → regs' ≡ set regs (d * 32 + j) v → Memory n (set_reg s t d v) regs' cells log
    unfolding set_reg update
    taken v regs' er =
        record {
          few = M.few;
          regs_are = subst (λ z. Regs n (set s.regs t (set (get_or s.regs t []) d v)) z) (ap (λ y. set regs (d * 32 + y) v) (sym ej) ∙ sym er)
              (regs_set n s.regs regs M.regs_are t d v M.few h ld);
          cells_are = M.cells_are;
          log_is = M.log_is;
        }

    pub taken_did : (regs' : List ℕ) → op ≡ 16 → length cells ≤ i → in_common common i ≡ true
        → regs' ≡ set regs (d * 32 + j) (get_or common (i - common_from) 0) → Did n s turn (Ok tt) regs' cells log
    taken_did regs' e g f er =
        let v = get_or common (i - common_from) 0 in
        did (continues (set_reg s t d v)) _ regs' cells log
        (beyond g true f ∙ ap (λ k. past_turn s t d i (at_common k v)) (kind_load e) ∙ (unfold at_common past_turn in refl))
        (record { answer = refl; memory = taken v regs' er; kept = kept_taken v })
      where
        kept_taken : (v : ℕ) → Kept s (set_reg s t d v)
        kept_taken v = unfold set_reg update in (record { row_same_lem = refl; enabled_same = refl; saved_same_lem = refl; rows_same = refl; barriers_same_lem = refl })

    pub changed_did : (v : ℕ) → v ≡ i → (op ≡ 16 → ⊥) → length cells ≤ i → in_common common i ≡ true → Did n s turn (Err (Common t v)) regs cells log
    changed_did v ev f g e =
        did (stops (Common t i) s) _ regs cells log (beyond g true e ∙ by (which op p q))
        (record { answer = ap (λ z. Err (Common t z)) ev; memory = M; kept = kept_none s })
      where
        w : ℕ
        w = get_or common (i - common_from) 0

        by : (op ≡ 16) ⊎ ((op ≡ 17) ⊎ (op ≡ 18)) → past_turn s t d i (at_common kind w) ≡ stops (Common t i) s
        by (inl c) = absurd (f c)
        by (inr (inl c)) = ap (λ k. past_turn s t d i (at_common k w)) (kind_store c) ∙ (unfold at_common past_turn in refl)
        by (inr (inr c)) = ap (λ k. past_turn s t d i (at_common k w)) (kind_add c) ∙ (unfold at_common past_turn in refl)

    module _ (l : i < length cells) (bit met v : ℕ) (eb : bit ≡ 2 ^ t) (ev : v ≡ get_or regs (a * 32 + j) 0)
        (C : met ≡ bit_or (tested_word op v (length cells) i log) bit) (short : met < 2 ^ 32) (single : bit < 2 ^ 32) where
      -- the value that a store stores or an add adds
      value_is : v ≡ reg s t x.a
      value_is = ev ∙ reg_is a j x.a ej ea la

      abbrev others : Mask
      others = conflict_mask s.log i t kind

      abbrev tested : ℕ
      tested = tested_word op v (length cells) i log

      tested_short : tested < 2 ^ 32
      tested_short = omega (arith, C, or_left tested bit)

      ew : met - bit ≡ mask_word others
      ew =
          ap (λ (y : ℕ). y - bit) C ∙ or_less tested bit tested_short single
          ∙ ap (λ (y : ℕ). bit_and (tested_word op y (length cells) i log) (4294967295 - bit)) value_is
          ∙ conflict_means op (length cells) i log n (reg s t x.a) m s.log o p q l log_here M.few t bit h eb

      inside : turn ≡ cond (any others) (stops (Race t (lowest others) (race_kind s.log i (lowest others) kind) i) s) (continues (made_access s t d i kind))
      inside = turn_at ∙ ap (λ b. cond b (past_turn s t d i (past shape OWN i kind)) (try_access shape OWN s t d i kind)) (lt-leb (length cells) i l) ∙ tried
        where
          -- the one group's cells stand where their numbers say, and no other group can be met there
          tried : try_access shape OWN s t d i kind
              ≡ cond (any others) (stops (Race t (lowest others) (race_kind s.log i (lowest others) kind) i) s) (continues (made_access s t d i kind))
          tried =
              unfold try_access address rivals enter_group any in
              (ap (λ z. let met = conflict_mask s.log z t kind in
              cond (any met) (stops (Race t (lowest met) (race_kind s.log z (lowest met) kind) i) s) (continues (made_access s t d z kind)))
              (let here : 0 * length cells + i ≡ i = omega arith in here))

      size : length others ≡ n
      size = conflict_size n (length s.cells) s.log log M.log_is i (omega (arith, cells_size)) t kind

      pub race_did : (u c : ℕ) (k : AccessKind) → c ≡ i → (met ≡ bit → ⊥) → u ≡ count_trailing_zeros 32 (met - bit)
          → k ≡ kind_word op v (length cells) i u log
          → Did n s turn (Err (Race t u k c)) regs cells log
      race_did u c k ec ne eu K =
          let ek : k ≡ race_kind s.log i u kind =
          K ∙ ap (λ y. kind_word op y (length cells) i u log) value_is ∙ kind_means op (length cells) i log n (reg s t x.a) m s.log o p q l log_here u in
          let some : any others ≡ true = any_some others (λ e. ne (omega (arith, ew, e, bit_met op v (length cells) i log met bit C))) in
          let low : u ≡ lowest others = eu ∙ ap (count_trailing_zeros 32) ew ∙ lowest_is others 32 (omega (arith, size, M.few)) some in
          did (stops (Race t (lowest others) (race_kind s.log i (lowest others) kind) i) s) _ regs cells log (inside ∙ rw some)
          (record {
            answer = ap₂ (λ y z. Err (Race t u y z)) ek ec ∙ ap (λ y. Err (Race t y (race_kind s.log i y kind) i)) low;
            memory = M;
            kept = kept_none s;
          })

      -- made: the buffers after it
      made : (regs' cells' log' : List ℕ) → Transferred op (d * 32 + j) (a * 32 + j) i regs cells regs' cells'
          → LogIs n (length s.cells) (logged s.log i t kind) log' → Memory n (made_access s t d i kind) regs' cells' log'
      unfolding made_access
      made regs' cells' log' T G = by (which op p q)
        where
          old : ℕ
          old = get_or s.cells i 0

          mine : List ℕ
          mine = get_or s.regs t []

          memory : (k : Kind) → kind ≡ k → Regs n (set s.regs t (registers_after k d old mine)) regs' → cells' ≡ set s.cells i (cell_after k old)
              → Memory n (made_access s t d i kind) regs' cells' log'
          memory k e R C =
              record {
                few = M.few;
                regs_are = subst (λ y. Regs n (set s.regs t (registers_after y d old mine)) regs') (sym e) R;
                cells_are = C ∙ ap (λ y. set s.cells i (cell_after y old)) (sym e);
                log_is = subst (λ c. LogIs n c (logged s.log i t kind) log') (sym (length-set s.cells i (cell_after kind old))) G;
              }

          -- an access that is no LOAD: the registers as they were, and a cell set to v
          kept_regs : (op ≡ 16 → ⊥) → Regs n (set s.regs t mine) regs'
          kept_regs f = subst (λ z. Regs n z regs') (sym (set-get_or s.regs t [])) (subst (λ z. Regs n s.regs z) (sym (T.other_regs f)) M.regs_are)

          set_cell : (v : ℕ) → (op ≡ 16 → ⊥) → cell_by op (get_or s.cells i 0) (reg s t x.a) ≡ v → cells' ≡ set s.cells i v
          set_cell v f e =
              T.other_cells f
              ∙ ap₂ (λ y z. set y i (cell_by op (get_or y i 0) z)) M.cells_are (reg_is a j x.a ej ea la) ∙ ap (set s.cells i) e

          by : (op ≡ 16) ⊎ ((op ≡ 17) ⊎ (op ≡ 18)) → Memory n (made_access s t d i kind) regs' cells' log'
          by (inl e) =
              memory load (unfold kind_of in (ap (λ y. kind_of y (reg s t x.a)) (mem_load op m e o)))
              (unfold registers_after in (subst (λ z. Regs n (set s.regs t (set mine d old)) z)
              (ap₂ (λ y z. set regs (d * 32 + y) (get_or z i 0)) (sym ej) (sym M.cells_are) ∙ sym (T.load_regs e))
              (regs_set n s.regs regs M.regs_are t d old M.few h ld)))
              (unfold cell_after in (T.load_cells e ∙ M.cells_are ∙ sym (set-get_or s.cells i 0)))
          by (inr (inl e)) =
              memory (store (reg s t x.a)) (unfold kind_of in (ap (λ y. kind_of y (reg s t x.a)) (mem_store op m e o)))
              (unfold registers_after in (kept_regs (λ z. omega arith)))
              (unfold cell_after in (set_cell _ (λ z. omega arith) (cell_by_store op _ _ e)))
          by (inr (inr e)) =
              memory (atomic_add (reg s t x.a)) (unfold kind_of in (ap (λ y. kind_of y (reg s t x.a)) (mem_add op m e o)))
              (unfold registers_after in (kept_regs (λ z. omega arith)))
              (unfold cell_after in (set_cell _ (λ z. omega arith) (cell_by_add op _ _ (λ z. omega arith))))

      -- nobody is met
      pub goes_turn : met ≡ bit → turn ≡ continues (made_access s t d i kind)
      goes_turn z = let none : any others ≡ false = any_none others (sym ew ∙ omega (arith, z)) in inside ∙ rw none

      pub made_did : (regs' cells' log' : List ℕ) → met ≡ bit → Transferred op (d * 32 + j) (a * 32 + j) i regs cells regs' cells'
          → log' ≡ entered_words op v (length cells) i bit log → Did n s turn (Ok tt) regs' cells' log'
      made_did regs' cells' log' z T E =
          let G : LogIs n (length s.cells) (logged s.log i t kind) log' =
          subst₂ (λ k g. LogIs n k (logged s.log i t kind) g) cells_size (sym (E ∙ ap (λ y. entered_words op y (length cells) i bit log) value_is))
          (entered_means op (length cells) i log n (reg s t x.a) m s.log o p q l log_here M.few t bit h eb) in
          did (continues (made_access s t d i kind)) _ regs' cells' log' (goes_turn z)
          (record {
            answer = refl;
            memory = made regs' cells' log' T G;
            kept = unfold made_access in
                (record { row_same_lem = refl; enabled_same = refl; saved_same_lem = refl; rows_same = refl; barriers_same_lem = refl });
          })

-- A STORE or an ATOMIC ADD to a common cell.
pub common_stops : (op d a t i : ℕ) (common regs cells log : List ℕ) → AccessAsks op d a cells log → CellNumber op d a t regs i → in_common common i ≡ true
    → takes_common op i common ≡ false → AccessOne op t d a common regs cells log (Err (Common t i)) regs cells log
common_stops op d a t i common regs cells log A N c f n m x o h ed ea s M =
    changed_did n t s regs cells log M h op d a t i m x o A.known A.small N ed ea A.target A.source refl common i refl
    (λ e. false≢true (sym f ∙ sym (takes_load op i common e) ∙ c)) (let far = common_is common i c in omega (arith, far.0, A.cells_few)) c
