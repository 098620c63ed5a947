-- The words of a part's cells put into the launch's buffer, kind by kind. Assumes nothing.
use Rattle.std.specs.Prelude.{List, ℕ, zero, suc, ◌+◌, ◌*◌, ◌≤◌, ◌≡◌, length}
use Rattle.layout.specs.Views.{part, put_part}

-- The part has k words of each kind, the launch `total`, and the part's begin with the launch's kind `first`. Kind j goes to place `at` of its kind.
unfoldable pub kind_placed : (first total at k j : ℕ) → (words to : List ℕ) → List ℕ
kind_placed first total at k j words to = put_part ((first + j) * total + at) (part (j * k) k words) to

-- The first n kinds.
unfoldable pub kinds_placed : (first total at k n : ℕ) → (words to : List ℕ) → List ℕ
kinds_placed first total at k zero words to = to
kinds_placed first total at k (suc j) words to = kind_placed first total at k j words (kinds_placed first total at k j words to)

-- Each kind of both fits, and no place is out of a word's range.
pub record KindsAsk (kinds first k total at : ℕ) (words to : List ℕ) : Type 0 where
  pub words_are : length words ≡ kinds * k
  pub within : at + k ≤ total
  pub room : (first + kinds) * total ≤ length to
  pub kinds_few : kinds ≤ 8
  pub first_few : first ≤ 8
  pub total_few : total ≤ 1024
