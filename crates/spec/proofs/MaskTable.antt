-- Masks, computed: words, members, who is lowest, what a condition leaves enabled. Assumes nothing.
use mathlib.Core.Path.{◌≡◌, refl}
use mathlib.Core.List.{List, [], ◌∷◌, map}
use mathlib.Core.Bool.{true, false}
use Prim.Native.Nat.{ℕ}
use Rattle.spec.specs.Mask.{Mask, mask_word, has, members, any, full, minus, union, lowest, nonzero, holding}
use Rattle.spec.proofs.Computing.{computing}

-- No thread; one that is out, one that is in; threads 0 and 2, 1 and 2, 2 and 3; all three; none of three.
unfoldable pub masks : List Mask
masks =
    []
    ∷ (false ∷ [])
    ∷ (true ∷ [])
    ∷ (true ∷ false ∷ true ∷ [])
    ∷ (false ∷ true ∷ true ∷ [])
    ∷ (false ∷ false ∷ true ∷ true ∷ [])
    ∷ (true ∷ true ∷ true ∷ [])
    ∷ (false ∷ false ∷ false ∷ [])
    ∷ []

-- Bit t is thread t's.
pub mask_words_lem : map mask_word masks ≡ 0 ∷ 0 ∷ 1 ∷ 5 ∷ 6 ∷ 12 ∷ 7 ∷ 0 ∷ []
unfolding computing masks
mask_words_lem = refl

-- Thread 2 of each mask.
pub second : map (λ m. has m 2) masks ≡ false ∷ false ∷ false ∷ true ∷ true ∷ true ∷ true ∷ false ∷ []
unfolding computing masks
second = refl

pub member_lists : map members masks ≡
    [] ∷ [] ∷ (0 ∷ []) ∷ (0 ∷ 2 ∷ []) ∷ (1 ∷ 2 ∷ []) ∷ (2 ∷ 3 ∷ []) ∷ (0 ∷ 1 ∷ 2 ∷ []) ∷ [] ∷ []
unfolding computing masks
member_lists = refl

pub some_thread_lem : map any masks ≡ false ∷ false ∷ true ∷ true ∷ true ∷ true ∷ true ∷ false ∷ []
unfolding computing masks
some_thread_lem = refl

pub all_threads_lem : map full masks ≡ true ∷ false ∷ true ∷ false ∷ false ∷ false ∷ true ∷ false ∷ []
unfolding computing masks
all_threads_lem = refl

pub lowest_threads : map lowest masks ≡ 0 ∷ 1 ∷ 0 ∷ 0 ∷ 1 ∷ 2 ∷ 0 ∷ 3 ∷ []
unfolding computing masks
lowest_threads = refl

-- Both, the first only, the second only, neither.
unfoldable pub left : Mask
left = true ∷ true ∷ false ∷ false ∷ []

unfoldable pub right : Mask
right = true ∷ false ∷ true ∷ false ∷ []

pub two_masks : minus left right ∷ minus right left ∷ union left right ∷ minus left (true ∷ []) ∷ union left (false ∷ []) ∷ minus left [] ∷ union [] left ∷ [] ≡
    (false ∷ true ∷ false ∷ false ∷ [])
    ∷ (false ∷ false ∷ true ∷ false ∷ [])
    ∷ (true ∷ true ∷ true ∷ false ∷ [])
    ∷ (false ∷ true ∷ false ∷ false ∷ [])
    ∷ left
    ∷ left
    ∷ left
    ∷ []
unfolding computing left right
two_masks = refl

-- Every word but 0 is true: also even ones, and those from 2 ^ 31 on.
pub truth_values : map nonzero (0 ∷ 1 ∷ 2 ∷ 256 ∷ 2147483647 ∷ 2147483648 ∷ 2147483650 ∷ 4294967295 ∷ []) ≡
    false ∷ true ∷ true ∷ true ∷ true ∷ true ∷ true ∷ true ∷ []
unfolding computing
truth_values = refl

-- Four threads' registers 0 and 1. A condition is read by the row's register in each thread's own list, and enables nobody who was not.
unfoldable pub registers_of4 : List (List ℕ)
registers_of4 = (5 ∷ 0 ∷ []) ∷ (0 ∷ 6 ∷ []) ∷ (7 ∷ 8 ∷ []) ∷ (0 ∷ 2147483648 ∷ []) ∷ []

pub conditions :
    map (λ m. holding 1 m registers_of4) ((true ∷ true ∷ true ∷ true ∷ []) ∷ left ∷ right ∷ (false ∷ false ∷ false ∷ true ∷ []) ∷ []) ≡
    (false ∷ true ∷ true ∷ true ∷ [])
    ∷ (false ∷ true ∷ false ∷ false ∷ [])
    ∷ (false ∷ false ∷ true ∷ false ∷ [])
    ∷ (false ∷ false ∷ false ∷ true ∷ [])
    ∷ []
unfolding computing left right registers_of4
conditions = refl

pub other_register : holding 0 (true ∷ true ∷ true ∷ true ∷ []) registers_of4 ≡ right
unfolding computing right registers_of4
other_register = refl

-- A thread that has no registers holds nothing.
pub no_registers : holding 0 (true ∷ true ∷ []) ((5 ∷ []) ∷ []) ≡ true ∷ false ∷ []
unfolding computing
no_registers = refl
