-- When tests refuse nothing. Assumes nothing.
use mathlib.Core.Path.{◌≡◌, refl}
use mathlib.Core.Logic.{◌↔◌}
use mathlib.Core.Option.{Option, none, some}
use mathlib.Core.Bool.{Bool, true, false}
use Rattle.spec.specs.declared.Refusal.{Refusal}
use Rattle.spec.specs.Answers.{unless, or_else}

pub unless_none : (b : Bool) (r : Refusal) → (unless b r ≡ none) ↔ (b ≡ true)
unfolding unless
unless_none true r = (λ e. refl, λ e. refl)
unless_none false r = (λ e. cc, λ e. cc)

pub or_else_none : (x y : Option Refusal) → (or_else x y ≡ none) ↔ ((x ≡ none) × (y ≡ none))
unfolding or_else
or_else_none none y = (λ e. (refl, e), λ e. e.1)
or_else_none (some r) y = (λ e. (e, cc), λ e. e.0)
