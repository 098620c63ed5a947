-- The sizes of a launch, what stays as it is while one of its groups runs, and where the cells stand that a row can name. Document 02, items 7 and 12.
-- Assumes nothing.
use Rattle.std.specs.Prelude.{List, [], Bool, false, cond, ◌&&◌, ◌||◌, ℕ, ◌+◌, ◌-◌, ◌*◌, leb, ltb, length, get_or}
use Rattle.spec.specs.Limits.{common_from}
use Rattle.spec.specs.Access.{Kind, load, store, atomic_add}
use Rattle.spec.specs.Op.{Space, OWN, GLOBAL}

-- Groups of so many threads, each with so many cells of its own, over so many global cells. Item 12: beside them the words of the common cells,
-- which no run changes.
pub record Sizes : Type 0 where
  pub threads : ℕ
  pub cells : ℕ
  pub groups : ℕ
  pub global : ℕ
  pub common : List ℕ

-- Sizes of a launch without common cells; and with these.
abbrev pub sizes : (threads cells groups global : ℕ) → Sizes
sizes threads cells groups global = record { threads = threads; cells = cells; groups = groups; global = global; common = [] }

abbrev pub with_common : List ℕ → Sizes → Sizes
with_common common Z = record { threads = Z.threads; cells = Z.cells; groups = Z.groups; global = Z.global; common = common }

-- A launch of one group whose cells are all its own.
abbrev pub one_group : (threads : ℕ) → (cells : List ℕ) → Sizes
one_group threads cells = sizes threads (length cells) 1 0

-- How many cells the groups have of their own, and how many cells there are; how many threads.
abbrev pub all_own : Sizes → ℕ
all_own Z = Z.groups * Z.cells

abbrev pub all_cells : Sizes → ℕ
all_cells Z = all_own Z + Z.global

abbrev pub all_threads : Sizes → ℕ
all_threads Z = Z.groups * Z.threads

-- The sizes, and the number of the group that runs.
pub record Shape : Type 0 where
  pub threads : ℕ
  pub cells : ℕ
  pub groups : ℕ
  pub global : ℕ
  pub common : List ℕ
  pub group : ℕ

abbrev pub shape_of : Sizes → (group : ℕ) → Shape
shape_of Z group = record { threads = Z.threads; cells = Z.cells; groups = Z.groups; global = Z.global; common = Z.common; group = group }

-- A thread's number in its group is t; its number in the launch is another.
unfoldable pub launch_number : Shape → (t : ℕ) → ℕ
launch_number L t = L.group * L.threads + t

-- All cells of a launch stand in one list: the own cells of group 0, those of group 1 and so on, then the global ones.
unfoldable pub total : Shape → ℕ
total L = L.groups * L.cells + L.global

-- Of the cells that a row can name in a space: how many, and where the one numbered c stands among all.
unfoldable pub bound : Shape → Space → ℕ
bound L OWN = L.cells
bound L GLOBAL = L.global

unfoldable pub address : Shape → Space → ℕ → ℕ
address L OWN c = L.group * L.cells + c
address L GLOBAL c = L.groups * L.cells + c

-- Item 12: the common cells are numbered from 65,536 on, for the ops of own cells only.
unfoldable pub in_common : (common : List ℕ) → ℕ → Bool
in_common common c = leb common_from c && ltb c (common_from + length common)

unfoldable pub is_common : Shape → Space → ℕ → Bool
is_common L OWN c = in_common L.common c
is_common L GLOBAL c = false

-- What an access comes to whose number is not below `bound`: it is outside; or it loads the word of a common cell; or it would change one.
pub data Past : Type 0 where
  nowhere : Past
  loads : (word : ℕ) → Past
  changes : Past

unfoldable pub at_common : Kind → (word : ℕ) → Past
at_common load v = loads v
at_common (store w) v = changes
at_common (atomic_add w) v = changes

unfoldable pub past : Shape → Space → ℕ → Kind → Past
past L p c k = cond (is_common L p c) (at_common k (get_or L.common (c - common_from) 0)) nowhere

-- Whether the cell that stands at i is a global one, one of the group's own, one that its threads can name.
unfoldable pub is_global : Shape → ℕ → Bool
is_global L i = leb (L.groups * L.cells) i

unfoldable pub is_own : Shape → ℕ → Bool
is_own L i = leb (L.group * L.cells) i && ltb i (L.group * L.cells + L.cells)

unfoldable pub reaches : Shape → ℕ → Bool
reaches L i = is_own L i || is_global L i
