-- `access::reaching` meets its contract. Assumes nothing.
use mathlib.Core.Path.{◌≡◌, subst}
use mathlib.Core.Logic.{⊎_elim}
use Prim.Native.Nat.{ℕ, suc, ◌+◌, ◌-◌, ◌*◌, ◌^◌, ◌<◌, ◌≤◌}
use Rattle.spec.proofs.Laws.{lt_or_le}
use native.Mathlib.Omega.{arith}
use native.Mathlib.Nat.{pow-suc}
use lib.Count.{count_leading_zeros}
use Rattle.std.proofs.Math.Nat.{pow-le-pow_right}
use Rattle.std.proofs.lemmas.Nat.{leading_length}
use Rattle.access.proofs.reaching.Goals as goal

pub returns : goal.returns
returns c =
    let mask = c.args.mask in
    let n = c.args.n in
    let top = leading_length 32 mask (omega arith) in
    let m : top.0 ≡ 32 - count_leading_zeros 32 mask = omega (arith, top.1) in
    let least : 2 ^ top.0 ≤ 2 * mask + 1 = top.3 in (
      subst (λ (k : ℕ). mask < 2 ^ k) m top.2,
      subst (λ (k : ℕ). k ≤ n) m (not_past n top.0 mask c.requires.1 top.3),
      subst (λ (k : ℕ). 2 ^ k ≤ 2 * mask + 1) m least,
    )
  where
    not_past : (n m x : ℕ) → x < 2 ^ n → 2 ^ m ≤ 2 * x + 1 → m ≤ n
    not_past n m x h g = ⊎_elim past (λ l. l) (lt_or_le n m)
      where
        past : n < m → m ≤ n
        past l = let up : 2 ^ suc n ≤ 2 ^ m = pow-le-pow_right (omega arith) (omega arith) in absurd (omega (arith, pow-suc 2 n))
