-- `globals::accesses` does the turns of the enabled threads, one after the other. Assumes nothing.
use mathlib.Core.Path.{◌≡◌}
use Prim.Native.Nat.{◌-◌, ◌^◌, ◌<◌}
use lib.ListN.{length}
use Rattle.layout.specs.Ops.{number}
use Rattle.layout.specs.Memory.{KeptBut}
use Rattle.layout.specs.Logging.{SameAbove}
use Rattle.globals.proofs.GlobalRows.{Turns}
use Rattle.globals.proofs.accesses.Given as goal

-- `left` is what is left of the mask when the lower threads are gone.
abbrev pub invariant-loop-thread : goal.invariant-loop-thread
invariant-loop-thread l = record {
  left_few : l.left < 2 ^ (l.thread-end - l.thread);
  cells_size : length l.cells ≡ length l.initial.cells;
  log_size : length l.log ≡ length l.initial.log;
  masks_size : length l.masks ≡ length l.initial.masks;
  bit_is : l.thread < 32 → l.bit ≡ 2 ^ l.thread;
  turns : Turns (number l.row.op) l.n l.mask l.row.d l.row.a l.group l.initial.regs l.initial.cells l.initial.log l.initial.masks
      l.thread l.left l.regs l.cells l.log l.masks;
  regs_kept : KeptBut l.row.d l.n l.initial.regs l.regs;
  log_same : SameAbove l.reach (length l.initial.cells) l.initial.log l.log;
}
