-- The laws about what a value is written as, for whoever writes one. Assumes nothing.
use Rattle.reportlines.proofs.Words.{verdict_short, kind_short}
use Rattle.reportlines.proofs.Decimal.{decimal_same, word_digits}

pub ruleset value_words = (verdict_short, kind_short, decimal_same, word_digits)
