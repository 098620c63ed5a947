-- `answerwords::outcome_words` meets its contract. Each turn fills in one word. Assumes nothing.
use Rattle.answerwords.proofs.Words.{Coded}
use Rattle.answerwords.proofs.outcome_words.Given as goal

abbrev pub invariant-loop-i : goal.invariant-loop-i
invariant-loop-i l = Coded l.values l.i l.words
