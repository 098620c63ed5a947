-- The figures of document 01. "What the detector's checker covers", "Turned back". Assumes nothing.
use Rattle.std.specs.Prelude.{ℕ, ◌^◌}

abbrev pub max_threads : ℕ
max_threads = 32

-- Of a launch: groups, threads of all groups, cells of all groups and global ones together. Item 7.
abbrev pub max_groups : ℕ
max_groups = 8

abbrev pub max_launch_threads : ℕ
max_launch_threads = 256

abbrev pub max_cells : ℕ
max_cells = 1024

abbrev pub max_rows : ℕ
max_rows = 256

abbrev pub max_nesting : ℕ
max_nesting = 8

-- The most rows that a launch may be allowed to run.
abbrev pub max_limit : ℕ
max_limit = 1000000

abbrev pub max_file : ℕ
max_file = 32768

-- Registers of a thread; numbers of a launch file, cells and registers are below `words`, bytes below `bytes`.
abbrev pub registers : ℕ
registers = 16

abbrev pub words : ℕ
words = 2 ^ 32

abbrev pub bytes : ℕ
bytes = 256

-- Words of the log for each cell: those that a group's threads enter; the group masks; all of them. Item 7.
abbrev pub log_per_cell : ℕ
log_per_cell = 5

abbrev pub groups_per_cell : ℕ
groups_per_cell = 3

abbrev pub launch_log_per_cell : ℕ
launch_log_per_cell = 8

-- Banks that the cells are in. Item 5.
abbrev pub banks : ℕ
banks = 16

-- Records for barrier intervals, and the words that have to be lent for them, three a record.
abbrev pub max_records : ℕ
max_records = 1025

abbrev pub records_lent : ℕ
records_lent = 3075

-- What the whole-file entry has to be lent besides: words for the own cells and as many for the global ones, words for the log, bytes for the report.
abbrev pub file_cells : ℕ
file_cells = 1024

abbrev pub file_log : ℕ
file_log = 8192

abbrev pub file_output : ℕ
file_output = 24576

-- Item 12: the number of the first common cell, and how many there may be.
abbrev pub common_from : ℕ
common_from = 65536

abbrev pub max_common : ℕ
max_common = 256

-- What two reports need at most.
abbrev pub pair_output : ℕ
pair_output = 49152
