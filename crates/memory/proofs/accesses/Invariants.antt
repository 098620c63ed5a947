-- `memory::accesses` does the turns of the enabled threads, one after the other. Assumes nothing.
use mathlib.Core.Path.{◌≡◌}
use mathlib.Core.Bool.{true, not}
use lib.Dec.{eqb}
use Prim.Native.Nat.{◌-◌, ◌%◌, ◌^◌, ◌<◌}
use lib.ListN.{length}
use Rattle.spec.specs.Op.{OWN, Mem, MEM, op_of}
use Rattle.spec.specs.Table.{Row}
use Rattle.spec.specs.LockStep.{access_turn}
use Rattle.layout.specs.Ops.{number}
use Rattle.layout.specs.Memory.{KeptBut, shape_by}
use Rattle.layout.specs.Logging.{SameAbove}
use Rattle.spec.specs.Limits.{common_from}
use Rattle.layout.proofs.Turning.{Turns}
use Rattle.memory.proofs.accesses.Given as goal

-- `left` is what is left of the mask when the threads below t are gone.
abbrev pub invariant-loop-thread : goal.invariant-loop-thread
invariant-loop-thread g l = record {
  left_few : l.left < 2 ^ (l.thread-end - l.thread);
  all : not (eqb g.row.ALL 0) ≡ true → l.left ≡ 2 ^ (l.n - l.thread) - 1;
  cells_size : length l.cells ≡ length l.initial.cells;
  log_size : length l.log ≡ length l.initial.log;
  turns : (y : Mem) (x : Row) → op_of (number l.row.op) ≡ MEM OWN y → x.d ≡ l.row.d → x.a ≡ l.row.a
      → Turns (access_turn (shape_by l.n l.initial.cells l.common) OWN y x) l.n l.mask l.initial.regs l.initial.cells l.initial.log l.thread l.left l.regs l.cells l.log;
  bit_is : l.thread < 32 → l.bit ≡ 2 ^ l.thread;
  regs_kept : KeptBut l.row.d l.n l.initial.regs l.regs;
  log_same : SameAbove (l.reach % common_from) (length l.initial.cells) l.initial.log l.log;
}
