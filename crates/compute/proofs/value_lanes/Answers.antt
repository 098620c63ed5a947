-- `compute::value_lanes` gives what a computing row gives each thread. Assumes nothing.
use mathlib.Core.Path.{refl}
use Rattle.std.proofs.Common.{rules}
use Rattle.compute.proofs.Ops.{ops_are, last_op}
use Rattle.compute.proofs.Values.{by_set, by_tid, by_count, by_registers}
use Rattle.compute.proofs.value_lanes.Goals as goal

pub returns-in-1 : goal.returns-in-1
returns-in-1 c = by_set c.in-1.is refl

pub returns-in-2 : goal.returns-in-2
returns-in-2 c = by_tid c.in-2.is c.threads.ensures

pub returns-in-3 : goal.returns-in-3
returns-in-3 c = by_count c.in-3.is

pub returns-in-4 : goal.returns-in-4
returns-in-4 c = by_registers c.in-4.is ops_are.0 (λ t h. let g = c.of_registers.ensures.1 t h in search rules)

pub returns-in-5 : goal.returns-in-5
returns-in-5 c = by_registers c.in-5.is ops_are.1 (λ t h. let g = c.of_registers-in-5.ensures.1 t h in search rules)

pub returns-in-6 : goal.returns-in-6
returns-in-6 c = by_registers c.in-6.is ops_are.2 (λ t h. let g = c.of_registers-in-6.ensures.1 t h in search rules)

pub returns-in-7 : goal.returns-in-7
returns-in-7 c = by_registers c.in-7.is ops_are.3 (λ t h. let g = c.of_registers-in-7.ensures.1 t h in search rules)

pub returns-in-8 : goal.returns-in-8
returns-in-8 c = by_registers c.in-8.is ops_are.4 (λ t h. let g = c.of_registers-in-8.ensures.1 t h in search rules)

pub returns-in-9 : goal.returns-in-9
returns-in-9 c = by_registers c.in-9.is ops_are.5 (λ t h. let g = c.of_registers-in-9.ensures.1 t h in search rules)

pub returns-in-10 : goal.returns-in-10
returns-in-10 c = by_registers c.in-10.is ops_are.6 (λ t h. let g = c.of_registers-in-10.ensures.1 t h in search rules)

pub returns-in-11 : goal.returns-in-11
returns-in-11 c = by_registers c.in-11.is ops_are.7 (λ t h. let g = c.of_registers-in-11.ensures.1 t h in search rules)

pub returns-in-12 : goal.returns-in-12
returns-in-12 c = by_registers c.in-12.is ops_are.8 (λ t h. let g = c.of_registers-in-12.ensures.1 t h in search rules)

pub returns-in-13 : goal.returns-in-13
returns-in-13 c = by_registers c.in-13.is ops_are.9 (λ t h. let g = c.of_registers-in-13.ensures.1 t h in search rules)

pub returns-in_default : goal.returns-in_default
returns-in_default c = by_registers (search (last_op, rules)) ops_are.10 (λ t h. let g = c.of_registers-in_default.ensures.1 t h in search rules)
