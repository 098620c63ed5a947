-- `accesslog::race_kind` meets its contract. By the other's bits among writers and adders. Assumes nothing.
use mathlib.Core.Path.{◌∙◌, ap, ap₂}
use mathlib.Core.Bool.{not}
use lib.Bits.{bit_and}
use lib.Dec.{eqb}
use Prim.Native.Nat.{◌^◌}
use Rattle.layout.specs.Ops.{number}
use Rattle.spec.specs.Log.{shown_kind}
use Rattle.layout.specs.Logging.{mode_of, has_bit, kind_word, word_of, place_of, rank}
use Rattle.accesslog.proofs.race_kind.Goals as goal

pub returns : goal.returns
unfolding kind_word has_bit word_of place_of rank
returns c =
    let args = c.args in
    let wrote = c.bit-wrote.ensures ∙ ap (λ w. bit_and w (2 ^ args.other)) c.writers_met.ensures in
    c.shown_kind_of.ensures ∙ ap₂ (λ w d. shown_kind (not (eqb w 0)) (not (eqb d 0)) (mode_of (number args.op))) wrote c.bit-added.ensures
