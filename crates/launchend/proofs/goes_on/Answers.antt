-- `launchend::goes_on` meets its contract. Assumes nothing.
use mathlib.Core.Path.{◌≡◌, refl, ap, sym, ◌∙◌}
use mathlib.Core.Bool.{true, false, true≢false}
use mathlib.Core.Logic.{inl, inr}
use borrow.Author.Tests.{ltb-true, ltb-false}
use Rattle.spec.specs.declared.Verdict.{Verdict}
use Rattle.spec.specs.declared.Verdict.TheVariants.{Passed, Race, GroupRace, Outside, Common, Diverged, Spent}
use Rattle.spec.specs.Answers.{is_passed}
use Rattle.launchend.proofs.goes_on.Goals as goal
use Rattle.launchend.proofs.goes_on.Goals.{in-Passed, in_default}

not_passed : (v : Verdict) → (v ≡ Passed → ⊥) → is_passed v ≡ false
unfolding is_passed
not_passed Passed f = absurd (f refl)
not_passed (Race t u k x) f = refl
not_passed (GroupRace t u k x) f = refl
not_passed (Outside t x) f = refl
not_passed (Common t x) f = refl
not_passed (Diverged t u) f = refl
not_passed Spent f = refl

pub returns-then-matches : goal.returns-then-matches
unfolding is_passed
returns-then-matches c =
    let passed : is_passed c.args.v ≡ true = elim c.match-matches.branch [
      | in-Passed w ↦ ap is_passed w.in-Passed.is
      | in_default w ↦ absurd (true≢false (sym c.if-matches.true ∙ w.matches-is))
    ] in
    record { more = λ e. (passed, ltb-true _ _ e); over = λ e. inr (ltb-false _ _ e) }

pub returns-else-matches : goal.returns-else-matches
returns-else-matches c =
    let other : is_passed c.args.v ≡ false = elim c.match-matches.branch [
      | in-Passed w ↦ absurd (true≢false (sym w.matches-is ∙ c.if-matches.false))
      | in_default w ↦ not_passed c.args.v w.in_default.not-Passed
    ] in
    record { more = λ e. absurd (true≢false (sym e ∙ c.if-matches.false)); over = λ e. inl other }
