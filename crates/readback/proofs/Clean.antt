-- No value holds a newline. Assumes nothing.
use mathlib.Core.Path.{◌≡◌, refl}
use mathlib.Core.Bool.{Bool, true, not}
use Prim.Native.Nat.{ℕ, ◌+◌, ◌<◌}
use native.Mathlib.Omega.{arith}
use borrow.Author.Tests.{ne_eqb}
use lib.Dec.{eqb}
use Rattle.spec.specs.declared.AccessKind.{AccessKind}
use Rattle.spec.specs.declared.AccessKind.TheVariants.{ReadWrite, WriteRead, WriteWrite, ReadAdd, AddRead, WriteAdd, AddWrite}
use Rattle.spec.specs.declared.Verdict.{Verdict}
use Rattle.spec.specs.declared.Verdict.TheVariants.{Passed, Race, GroupRace, Outside, Common, Diverged, Spent}
use Rattle.spec.specs.declared.Value.{Value}
use Rattle.spec.specs.declared.Value.TheVariants as value
use Rattle.spec.specs.Lists.{every}
use Rattle.spec.specs.Text.{text, newline}
use Rattle.spec.specs.Report.{verdict_text, kind_text, value_text}
use Rattle.readback.proofs.Numbers.{all_digits}

unfoldable pub no_newline : ℕ → Bool
no_newline b = not (eqb b newline)

digit_clean : (d : ℕ) → d < 10 → no_newline (48 + d) ≡ true
unfolding no_newline
digit_clean d h = rw (ne_eqb (48 + d) 10 (λ e. omega arith))

verdict_clean : (v : Verdict) → every no_newline (verdict_text v) ≡ true
unfolding verdict_text every no_newline text
verdict_clean Passed = refl
verdict_clean (Race thread other kind at) = refl
verdict_clean (GroupRace thread group kind at) = refl
verdict_clean (Outside thread at) = refl
verdict_clean (Common thread at) = refl
verdict_clean (Diverged thread other) = refl
verdict_clean Spent = refl

kind_clean : (k : AccessKind) → every no_newline (kind_text k) ≡ true
unfolding kind_text every no_newline text
kind_clean ReadWrite = refl
kind_clean WriteRead = refl
kind_clean WriteWrite = refl
kind_clean ReadAdd = refl
kind_clean AddRead = refl
kind_clean WriteAdd = refl
kind_clean AddWrite = refl

pub value_clean : (v : Value) → every no_newline (value_text v) ≡ true
unfolding value_text every no_newline text
value_clean value.Hyphen = refl
value_clean (value.Number n) = all_digits no_newline digit_clean n
value_clean (value.Verdict v) = verdict_clean v
value_clean (value.Kind k) = kind_clean k
value_clean value.Report = refl
