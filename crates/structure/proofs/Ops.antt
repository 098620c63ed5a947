-- What each op is to the constructs: the one place where all ops are told apart. Assumes nothing.
use mathlib.Core.Path.{◌≡◌, refl, sym, ◌∙◌, ap}
use mathlib.Core.List.{List}
use mathlib.Core.Bool.{Bool, true, false, false≢true}
use Prim.Native.Nat.{ℕ}
use Rattle.spec.specs.Op.{Op, CALC, MEM, IF, ELSE, ENDIF, WHILE, ENDWHILE, BARRIER, UNKNOWN}
use Rattle.spec.specs.Table.{Role, plain, opening, dividing, closing, role, Fits}
use Rattle.spec.specs.TableCheck.{Open, is_known, fits, shallow, open_after}

-- An op that belongs to no construct: it stands anywhere and leaves what is open as it is. An unknown op is one.
pub record Plain (op : Op) : Type 0 where
  pub alone : role op ≡ plain
  pub fitting : (os : List Open) → fits op os ≡ true
  pub flat : (os : List Open) → shallow op os ≡ true
  pub keeping : (r : ℕ) (os : List Open) → open_after op r os ≡ os
  pub known : ¬ (op ≡ UNKNOWN) → is_known op ≡ true
  pub anywhere : is_known op ≡ true → (i : Op) → Fits op i

-- A row of a construct.
pub data Part : Op → Type 0 where
  is_if : Part IF
  is_else : Part ELSE
  is_endif : Part ENDIF
  is_while : Part WHILE
  is_endwhile : Part ENDWHILE

pub data Sort (op : Op) : Type 0 where
  outside : Plain op → Sort op
  inside : is_known op ≡ true → ¬ (role op ≡ plain) → Part op → Sort op

is_alone : Role → Bool
is_alone plain = true
is_alone opening = false
is_alone dividing = false
is_alone closing = false

part : {op : Op} → is_known op ≡ true → is_alone (role op) ≡ false → Part op → Sort op
unfolding is_alone
part k a p = inside k (λ e. false≢true (sym a ∙ ap is_alone e)) p

pub sort : (op : Op) → Sort op
unfolding role fits shallow open_after is_known is_alone
sort (CALC c) = outside (record { alone = refl; fitting = λ os. refl; flat = λ os. refl; keeping = λ r os. refl; known = λ n. refl; anywhere = λ k i. tt })
sort (MEM p m) = outside (record { alone = refl; fitting = λ os. refl; flat = λ os. refl; keeping = λ r os. refl; known = λ n. refl; anywhere = λ k i. tt })
sort IF = part refl refl is_if
sort ELSE = part refl refl is_else
sort ENDIF = part refl refl is_endif
sort WHILE = part refl refl is_while
sort ENDWHILE = part refl refl is_endwhile
sort BARRIER = outside (record { alone = refl; fitting = λ os. refl; flat = λ os. refl; keeping = λ r os. refl; known = λ n. refl; anywhere = λ k i. tt })
sort UNKNOWN =
    outside (record {
      alone = refl;
      fitting = λ os. refl;
      flat = λ os. refl;
      keeping = λ r os. refl;
      known = λ n. absurd (n refl);
      anywhere = λ k i. absurd (false≢true k);
    })

-- The grammar says of a plain row only its role.
pub plain_of_role : (op : Op) → role op ≡ plain → Plain op
plain_of_role op e = by (sort op)
  where
    by : Sort op → Plain op
    by (outside p) = p
    by (inside k n p) = absurd (n e)

pub known_of_other : (op : Op) → ¬ (op ≡ UNKNOWN) → is_known op ≡ true
known_of_other op n = by (sort op)
  where
    by : Sort op → is_known op ≡ true
    by (outside p) = p.known n
    by (inside k m p) = k

pub other_of_known : (op : Op) → is_known op ≡ true → ¬ (op ≡ UNKNOWN)
unfolding is_known
other_of_known op k e = false≢true (sym (ap is_known e) ∙ k)
