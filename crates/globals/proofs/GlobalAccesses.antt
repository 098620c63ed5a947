-- One thread's access of a global cell, by what it comes to: stopped in the group, a race with another group, or made. Assumes nothing.
use mathlib.Core.Path.{◌≡◌, refl, sym, ◌∙◌, ap, ap₂, subst}
use mathlib.Core.List.{List, []}
use mathlib.Core.Bool.{true, false, cond}
use Prim.Native.Nat.{ℕ, ◌+◌, ◌*◌, ◌^◌, ◌<◌, ◌≤◌}
use native.Mathlib.Omega.{arith}
use lib.Bits.{bit_or}
use lib.Count.{count_trailing_zeros}
use lib.ListN.{length, get_or}
use lib.Pow.{pow-lt}
use Rattle.spec.specs.declared.Verdict.{Verdict}
use Rattle.spec.specs.declared.Verdict.TheVariants.{GroupRace}
use Rattle.spec.specs.Access.{Kind, mode}
use Rattle.spec.specs.Op.{OWN, GLOBAL, Mem, MEM, op_of}
use Rattle.spec.specs.Table.{Row, cell_byte, kind_of}
use Rattle.spec.specs.Shape.{Shape, total}
use Rattle.spec.specs.Mask.{Mask, mask_word, any, lowest}
use Rattle.spec.specs.GroupLog.{GroupLog, group_conflict_mask, group_race_kind, group_logged, group_words}
use Rattle.spec.specs.LockStep.{LockState, Step, continues, stops, update, reg, made_access, enter_group, access_turn}
use Rattle.masks.proofs.Words.{any_none, any_some, lowest_is}
use Rattle.layout.specs.Memory.{Access}
use Rattle.std.specs.Prelude.{Ok, Err}
use Rattle.layout.specs.Logging.{mode_of, tested_word, mask_entered}
use Rattle.layout.specs.Memory.{Did, AccessAsks, CellNumber, access_of, shape_by, goes_on}
use Rattle.layout.specs.Views.{view_of, put_view, global_from, alone}
use Rattle.layout.specs.Shared.{group_part, GroupsAre, GroupAsks, rivals_word, group_kind_word, GlobalMemory, GlobalDid, GlobalAsks}
use Rattle.layout.proofs.Parts.{part_size}
use Rattle.layout.proofs.GroupBuffer as buffer
use Rattle.layout.proofs.GlobalTurn.{group_conflict_at, group_kind_at, global_step, global_turn}
use Rattle.layout.proofs.GlobalStates.{only_none, groups_are, put_memory, put_kept, put_only}
use Rattle.layout.proofs.Turning.{kept_none}
use Rattle.access.proofs.Accesses.{goes_alone, number_is, goes_turn}
use Rattle.layout.proofs.LogTests.{mode_means}

-- An access that goes on in the group has its cell among the global ones.
pub group_asks : (op d a v bit x i : ℕ) (cells log masks : List ℕ) → GlobalAsks op d a cells log masks → goes_on op v bit x cells log ≡ true → i ≡ x
    → GroupAsks op (length cells) i masks
group_asks op d a v bit x i cells log masks A P e =
    record {
      known = A.access.known;
      small = A.access.small;
      sized = A.sized;
      inside = omega (arith, e, (goes_alone op v bit x cells log P).0);
      few = A.access.cells_few;
    }

module _ (L : Shape) (z : LockState) (regs cells log masks : List ℕ) (M : GlobalMemory L z regs cells log masks) (t : ℕ) (h : t < L.threads) where
  abbrev from : ℕ
  from = global_from L

  abbrev view : LockState
  view = view_of from L.global z

  count : length cells ≡ L.global
  count = ap length M.memory.cells_are ∙ unfold view_of in (part_size from L.global z.cells (unfold total in (omega (arith, M.sized.cells_are))))

  module _ (op d a own i : ℕ) (m : Mem) (x : Row) (o : op_of op ≡ MEM OWN m) (ed : x.d ≡ d) (ea : x.a ≡ a) (A : AccessAsks op d a cells log)
      (N : CellNumber op d a t regs i) (eo : own ≡ 2 ^ L.group) where
    abbrev turn : Step
    turn = access_turn L GLOBAL m x z t

    -- the turn in the stretch
    abbrev seen : Step
    seen = access_turn (shape_by L.threads cells []) OWN m x view t

    abbrev kind : Kind
    kind = kind_of m (reg z t x.a)

    number : reg z t (cell_byte m x) ≡ i
    number =
        unfold reg view_of in
        (number_is L.threads t view regs cells log M.memory h op d a t i m x o A.known A.small N ed ea A.target A.source refl [])

    turn_by : turn ≡ global_step L z t i kind seen
    turn_by =
        global_turn L z M.sized L.threads t m x
        ∙ ap₂ (λ c k. global_step L z t c kind (access_turn (alone L.threads k []) OWN m x view t)) number (sym count)

    did : (y : Step) (w : Access) (regs' cells' log' masks' : List ℕ) → turn ≡ y → GlobalDid L z y w regs' cells' log' masks'
        → GlobalDid L z turn w regs' cells' log' masks'
    did y w regs' cells' log' masks' e D = subst (λ s. GlobalDid L z s w regs' cells' log' masks') (sym e) D

    -- Stopped in the group: nothing has changed.
    unchanged : (v : Verdict) (w : Access) → w ≡ Err v → turn ≡ stops v z → GlobalDid L z turn w regs cells log masks
    unchanged v w ew e =
        did (stops v z) w regs cells log masks e (record { answer = ew; memory = M; kept = kept_none z; only = only_none L z M.sized })

    pub stopped_did : (v : Verdict) → Did L.threads view seen (Err v) regs cells log → GlobalDid L z turn (Err v) regs cells log masks
    stopped_did v D = by seen turn_by D.answer
      where
        by : (y : Step) → turn ≡ global_step L z t i kind y → Err v ≡ access_of y → GlobalDid L z turn (Err v) regs cells log masks
        by (continues y) e q = let z : ◌≡◌ {A = ℕ} 0 1 = cc q in absurd (omega arith)
        by (stops w y) e q = unchanged w (Err v) q (e ∙ unfold global_step in refl)

    module _ (bit : ℕ) (eb : bit ≡ 2 ^ t) (P : goes_on op (get_or regs (a * 32 + t) 0) bit i cells log ≡ true) where
      inside : i < length cells
      inside = (goes_alone op (get_or regs (a * 32 + t) 0) bit i cells log P).0

      -- nobody of the group is met
      goes : seen ≡ continues (made_access view t d i kind)
      unfolding reg view_of
      goes =
          let alone = (goes_alone op (get_or regs (a * 32 + t) 0) bit i cells log P).1 in
          let single : bit < 2 ^ 32 = omega (arith, eb, pow-lt {i = t} {j = 32} (omega (arith, M.memory.few))) in
          goes_turn L.threads t view regs cells log M.memory h op d a t i m x o A.known A.small N ed ea A.target A.source refl [] inside bit
          (bit_or (tested_word op (get_or regs (a * 32 + t) 0) (length cells) i log) bit) (get_or regs (a * 32 + t) 0) eb refl refl (omega (arith, alone, single)) single alone

      abbrev groups : Mask
      groups = group_conflict_mask z.group_log (from + i) L.group kind

      abbrev part : GroupLog
      part = group_part from L.global z.group_log

      here : i < L.global
      here = omega (arith, inside, count)

      words : GroupsAre L.groups L.global part masks
      words = groups_are L z regs cells log masks M

      mode_is : mode_of op ≡ mode kind
      mode_is =
          mode_means op (length view.cells) i log L.threads (reg z t x.a) m view.log o A.known A.small
          (omega (arith, inside, ap length M.memory.cells_are)) M.memory.log_is

      few : L.groups ≤ 32
      few = omega (arith, M.groups_few)

      rivals_word_lem : rivals_word op (length cells) i own masks ≡ mask_word groups
      rivals_word_lem =
          ap₂ (λ (k b : ℕ). rivals_word op k i b masks) count eo
          ∙ buffer.rivals_is L.groups L.global part masks words i here op kind mode_is few L.group M.sized.group_in
          ∙ ap mask_word (group_conflict_at from L.global z.group_log i here L.group kind)

      size : length groups ≡ L.groups
      size =
          ap length (sym (group_conflict_at from L.global z.group_log i here L.group kind))
          ∙ buffer.conflict_size L.groups L.global part masks words i here op kind mode_is L.group

      kind_word_lem : (u : ℕ) → group_kind_word op (length cells) i u masks ≡ group_race_kind z.group_log (from + i) u kind
      kind_word_lem u =
          ap (λ (k : ℕ). group_kind_word op k i u masks) count ∙ buffer.kind_is L.groups L.global part masks words i here op kind mode_is u
          ∙ group_kind_at from L.global z.group_log i here u kind

      -- the state after it
      abbrev made : LockState
      made = made_access view t d i kind

      abbrev raced : Verdict
      raced = GroupRace t (lowest groups) (group_race_kind z.group_log (from + i) (lowest groups) kind) i

      after : turn ≡ cond (any groups) (stops raced z) (continues (enter_group GLOBAL L.group (from + i) kind (put_view from made z)))
      unfolding global_step
      after = turn_by ∙ ap (global_step L z t i kind) goes

      -- Another group is met.
      pub race_did : (others : ℕ) (v : Verdict) → others ≡ rivals_word op (length cells) i own masks → (others ≡ 0 → ⊥)
          → v ≡ GroupRace t (count_trailing_zeros 32 others) (group_kind_word op (length cells) i (count_trailing_zeros 32 others) masks) i
          → GlobalDid L z turn (Err v) regs cells log masks
      race_did others v ew f ev =
          let word : others ≡ mask_word groups = ew ∙ rivals_word_lem in
          let some : any groups ≡ true = any_some groups (λ e. f (word ∙ e)) in
          let low : count_trailing_zeros 32 others ≡ lowest groups = ap (count_trailing_zeros 32) word ∙ lowest_is groups 32 (omega (arith, size, few)) some in
          unchanged raced (Err v)
          (ap Err (ev ∙ ap (λ u. GroupRace t u (group_kind_word op (length cells) i u masks) i) low ∙ ap (λ y. GroupRace t (lowest groups) y i) (kind_word_lem (lowest groups))))
          (after ∙ rw some)

      -- Nobody is met.
      pub made_did : (regs' cells' log' masks' : List ℕ) → rivals_word op (length cells) i own masks ≡ 0 → Did L.threads view seen (Ok tt) regs' cells' log'
          → length cells' ≡ length cells → masks' ≡ mask_entered op (length cells) i own masks → GlobalDid L z turn (Ok tt) regs' cells' log' masks'
      made_did regs' cells' log' masks' e D l q =
          let none : any groups ≡ false = any_none groups (sym rivals_word_lem ∙ e) in
          did (continues (enter_group GLOBAL L.group (from + i) kind (put_view from made z))) (Ok tt) regs' cells' log' masks' (after ∙ rw none)
          (record {
            answer = refl;
            memory = put_memory L z regs cells log masks M made i kind here same_groups sized regs' cells' log' masks' E.memory E.kept entered;
            kept = put_kept L z regs cells log masks M made i kind here same_groups sized regs' cells' log' masks' E.memory E.kept entered;
            only = put_only L z regs cells log masks M made i kind here same_groups sized regs' cells' log' masks' E.memory E.kept entered;
          })
        where
          E : Did L.threads view (continues made) (Ok tt) regs' cells' log'
          E = subst (λ s. Did L.threads view s (Ok tt) regs' cells' log') goes D

          same_groups : made.group_log ≡ z.group_log
          same_groups = unfold made_access update view_of in refl

          sized : length made.cells ≡ L.global
          sized = ap length (sym E.memory.cells_are) ∙ l ∙ count

          entered : masks' ≡ group_words (group_logged part i L.group kind)
          entered =
              q ∙ ap₂ (λ (k b : ℕ). mask_entered op k i b masks) count eo
              ∙ buffer.entered_is L.groups L.global part masks words i here op kind mode_is few L.group M.sized.group_in
