-- What each public entry answers and what it leaves in each lent buffer, for all inputs. "Turned back", "The launch file and the report". Assumes nothing.
use Rattle.std.specs.Prelude.{List, [], ◌∷◌, ◌++◌, ◌&&◌, ℕ, ◌+◌, ◌*◌, ◌/◌, ◌%◌, eqb, leb, length, drop, replicate, Result, Ok, Err}
use Rattle.std.proofs.Math.Option.{Option, none, some}
use Rattle.spec.specs.Limits.{max_threads, max_groups, max_launch_threads, max_cells, max_rows, max_limit, launch_log_per_cell, records_lent, file_cells, file_log, file_output}
use Rattle.spec.specs.Answers.{Outcome, Refusal, TableLength, TooManyRows, ThreadsOutOfRange, CellsOutOfRange, GroupsOutOfRange, TooManyCells, LimitOutOfRange}
use Rattle.spec.specs.Answers.{CellsLength, LogLength, RecordsLength, OutputLength, ReportLines, ReportTooLong}
use Rattle.spec.specs.Answers.{Subject, refusal_number, refusal_place, unless, first}
use Rattle.spec.specs.declared.Subject.TheVariants as subject
use Rattle.spec.specs.Table.{rows_of}
use Rattle.spec.specs.TableCheck.{table_refusal}
use Rattle.spec.specs.Shape.{Sizes, all_own, all_cells}
use Rattle.spec.specs.Intervals.{record_words}
use Rattle.spec.specs.Launch.{Launch, launch_outcome, launch_intervals, launch_steps, launch_log, own_after, global_after}
use Rattle.spec.specs.LaunchFile.{Checked, refused, accepted, unless_refused, file_launch}
use Rattle.spec.specs.Report.{run_report, refusal_report, report_of}

-- A lent buffer with w written from its start; what stands behind w keeps its value.
unfoldable pub over : List ℕ → List ℕ → List ℕ
over w buffer = w ++ drop (length w) buffer

-- The bare launch: table bytes, the sizes and the limit; lent own cells, global cells, log, records and step counts.

-- From the input, 1, 2, 8, 9, 32, 33, 10 by the table's length and the launch's numbers. None of them stands on a line.
unfoldable pub bare_numbers : (bytes : ℕ) → Sizes → (limit : ℕ) → Option Refusal
bare_numbers bytes Z limit =
    first
    (unless (eqb (bytes % 4) 0) TableLength
    ∷ unless (leb (bytes / 4) max_rows) (TooManyRows 0)
    ∷ unless (leb 1 Z.threads && leb Z.threads max_threads) (ThreadsOutOfRange 0)
    ∷ unless (leb 1 Z.cells && leb Z.cells max_cells) (CellsOutOfRange 0)
    ∷ unless (leb 1 Z.groups && leb Z.groups max_groups) (GroupsOutOfRange 0)
    ∷ unless (leb (all_cells Z) max_cells) (TooManyCells 0)
    ∷ unless (leb limit max_limit) (LimitOutOfRange 0)
    ∷ [])

-- From the state, 20 for either kind of cells, 21 and 30. More words may be lent for records than are asked.
unfoldable pub bare_lent : Sizes → (cell_words global_words log_words record_words : ℕ) → Option Refusal
bare_lent Z cell_words global_words log_words record_words =
    first
    (unless (eqb cell_words (all_own Z)) CellsLength
    ∷ unless (eqb global_words Z.global) CellsLength
    ∷ unless (eqb log_words (launch_log_per_cell * all_cells Z)) LogLength
    ∷ unless (leb records_lent record_words) RecordsLength
    ∷ [])

-- The rows are checked between the two.
unfoldable pub bare_refusal : (table : List ℕ) → Sizes → (limit : ℕ) → (lent_cells lent_global lent_log lent_records : List ℕ) → Option Refusal
bare_refusal table Z limit lent_cells lent_global lent_log lent_records =
    first
    (bare_numbers (length table) Z limit
    ∷ table_refusal (rows_of table)
    ∷ bare_lent Z (length lent_cells) (length lent_global) (length lent_log) (length lent_records)
    ∷ [])

-- The launch that it is: the lent cells are the launch's.
unfoldable pub bare_launch : (table : List ℕ) → Sizes → (limit : ℕ) → (lent_cells lent_global : List ℕ) → Launch
bare_launch table Z limit lent_cells lent_global = record { sizes = Z; limit = limit; table = rows_of table; cells = lent_cells ++ lent_global }

unfoldable pub answer_of : Option Refusal → Outcome → Result Outcome Refusal
answer_of none o = Ok o
answer_of (some r) o = Err r

-- A buffer that a refusal leaves as it was lent.
unfoldable pub kept_if : Option Refusal → (lent new : List ℕ) → List ℕ
kept_if none lent new = new
kept_if (some r) lent new = lent

unfoldable pub bare_answer : (table : List ℕ) → Sizes → (limit : ℕ) → (lent_cells lent_global lent_log lent_records : List ℕ) → Result Outcome Refusal
bare_answer table Z limit lent_cells lent_global lent_log lent_records =
    answer_of (bare_refusal table Z limit lent_cells lent_global lent_log lent_records) (launch_outcome (bare_launch table Z limit lent_cells lent_global))

unfoldable pub bare_cells : (table : List ℕ) → Sizes → (limit : ℕ) → (lent_cells lent_global lent_log lent_records : List ℕ) → List ℕ
bare_cells table Z limit lent_cells lent_global lent_log lent_records =
    kept_if (bare_refusal table Z limit lent_cells lent_global lent_log lent_records) lent_cells (own_after (bare_launch table Z limit lent_cells lent_global))

unfoldable pub bare_global : (table : List ℕ) → Sizes → (limit : ℕ) → (lent_cells lent_global lent_log lent_records : List ℕ) → List ℕ
bare_global table Z limit lent_cells lent_global lent_log lent_records =
    kept_if (bare_refusal table Z limit lent_cells lent_global lent_log lent_records) lent_global (global_after (bare_launch table Z limit lent_cells lent_global))

unfoldable pub bare_log : (table : List ℕ) → Sizes → (limit : ℕ) → (lent_cells lent_global lent_log lent_records : List ℕ) → List ℕ
bare_log table Z limit lent_cells lent_global lent_log lent_records =
    kept_if (bare_refusal table Z limit lent_cells lent_global lent_log lent_records) lent_log (launch_log (bare_launch table Z limit lent_cells lent_global))

-- Three words for each record from the start of what is lent; the words behind them are kept.
unfoldable pub bare_records : (table : List ℕ) → Sizes → (limit : ℕ) → (lent_cells lent_global lent_log lent_records : List ℕ) → List ℕ
bare_records table Z limit lent_cells lent_global lent_log lent_records =
    kept_if (bare_refusal table Z limit lent_cells lent_global lent_log lent_records) lent_records
    (over (record_words (launch_intervals (bare_launch table Z limit lent_cells lent_global))) lent_records)

-- The lent counts get the steps of each thread by launch number, and 0 for the threads that the launch does not have.
unfoldable pub bare_steps : (table : List ℕ) → Sizes → (limit : ℕ) → (lent_cells lent_global lent_log lent_records lent_steps : List ℕ) → List ℕ
bare_steps table Z limit lent_cells lent_global lent_log lent_records lent_steps =
    kept_if (bare_refusal table Z limit lent_cells lent_global lent_log lent_records) lent_steps
    (over (launch_steps (bare_launch table Z limit lent_cells lent_global)) (replicate max_launch_threads 0))

-- The report writer: what to report, a slice of step counts, one of own cells and one of global ones (not for a refusal), a buffer.

-- 23 first, where there are too few or too many counts, or cells in both slices together; then 22 with the length that is needed.
unfoldable pub lines_reported : Subject → (steps cells global : List ℕ) → Option Refusal
lines_reported (subject.Ran o) steps cells global =
    first
    (unless (leb 1 (length steps) && leb (length steps) max_launch_threads) ReportLines
    ∷ unless (leb 1 (length cells + length global) && leb (length cells + length global) max_cells) ReportLines
    ∷ [])
lines_reported (subject.Refused number place) steps cells global = none

unfoldable pub writer_refusal : Subject → (steps cells global buffer : List ℕ) → Option Refusal
writer_refusal what steps cells global buffer =
    let needed = length (report_of what steps cells global) in
    first (lines_reported what steps cells global ∷ unless (leb needed (length buffer)) (ReportTooLong needed) ∷ [])

unfoldable pub written_of : Option Refusal → ℕ → Result ℕ Refusal
written_of none n = Ok n
written_of (some r) n = Err r

unfoldable pub writer_answer : Subject → (steps cells global buffer : List ℕ) → Result ℕ Refusal
writer_answer what steps cells global buffer = written_of (writer_refusal what steps cells global buffer) (length (report_of what steps cells global))

unfoldable pub writer_buffer : Subject → (steps cells global buffer : List ℕ) → List ℕ
writer_buffer what steps cells global buffer =
    kept_if (writer_refusal what steps cells global buffer) buffer (over (report_of what steps cells global) buffer)

-- The whole-file entry: file bytes, lent own cells, global cells, log and records, output.

-- From the input: the file's refusal. From the state: 20 for either kind of cells, 21, 30, 24.
unfoldable pub file_lent : (cell_words global_words log_words record_words output_bytes : ℕ) → Option Refusal
file_lent cell_words global_words log_words record_words output_bytes =
    first
    (unless (eqb cell_words file_cells) CellsLength
    ∷ unless (eqb global_words file_cells) CellsLength
    ∷ unless (eqb log_words file_log) LogLength
    ∷ unless (leb records_lent record_words) RecordsLength
    ∷ unless (leb file_output output_bytes) OutputLength
    ∷ [])

unfoldable pub and_state : Checked Launch → Option Refusal → Checked Launch
and_state (refused r) state = refused r
and_state (accepted launch) state = unless_refused state launch

unfoldable pub file_checked : (file lent_cells lent_global lent_log lent_records output : List ℕ) → Checked Launch
file_checked file lent_cells lent_global lent_log lent_records output =
    and_state (file_launch file) (file_lent (length lent_cells) (length lent_global) (length lent_log) (length lent_records) (length output))

-- What the file is refused for, if anything.
unfoldable pub checked_refusal : Checked Launch → Option Refusal
checked_refusal (refused r) = some r
checked_refusal (accepted launch) = none

-- The report of an accepted launch.
unfoldable pub launch_report : Launch → List ℕ
launch_report launch = run_report (launch_outcome launch) (launch_steps launch) (own_after launch) (global_after launch)

-- The answer: the refusal, or the report's length.
unfoldable pub report_length : Checked Launch → Result ℕ Refusal
report_length (refused r) = Err r
report_length (accepted launch) = Ok (length (launch_report launch))

unfoldable pub file_answer : (file lent_cells lent_global lent_log lent_records output : List ℕ) → Result ℕ Refusal
file_answer file lent_cells lent_global lent_log lent_records output = report_length (file_checked file lent_cells lent_global lent_log lent_records output)

-- A refusal leaves each buffer as it was lent. An accepted launch leaves what its run makes from the buffer's start; the rest is kept.
unfoldable pub if_accepted : Checked Launch → (lent : List ℕ) → (Launch → List ℕ) → List ℕ
if_accepted (refused r) lent made = lent
if_accepted (accepted launch) lent made = over (made launch) lent

unfoldable pub file_cells_after : (file lent_cells lent_global lent_log lent_records output : List ℕ) → List ℕ
file_cells_after file lent_cells lent_global lent_log lent_records output =
    if_accepted (file_checked file lent_cells lent_global lent_log lent_records output) lent_cells own_after

unfoldable pub file_global_after : (file lent_cells lent_global lent_log lent_records output : List ℕ) → List ℕ
file_global_after file lent_cells lent_global lent_log lent_records output =
    if_accepted (file_checked file lent_cells lent_global lent_log lent_records output) lent_global global_after

unfoldable pub file_log_after : (file lent_cells lent_global lent_log lent_records output : List ℕ) → List ℕ
file_log_after file lent_cells lent_global lent_log lent_records output =
    if_accepted (file_checked file lent_cells lent_global lent_log lent_records output) lent_log launch_log

unfoldable pub file_records_after : (file lent_cells lent_global lent_log lent_records output : List ℕ) → List ℕ
file_records_after file lent_cells lent_global lent_log lent_records output =
    if_accepted (file_checked file lent_cells lent_global lent_log lent_records output) lent_records (λ launch. record_words (launch_intervals launch))

unfoldable pub file_output_after : (file lent_cells lent_global lent_log lent_records output : List ℕ) → List ℕ
file_output_after file lent_cells lent_global lent_log lent_records output =
    if_accepted (file_checked file lent_cells lent_global lent_log lent_records output) output launch_report

-- The program check, which lends buffers of the right sizes: it prints the report, or the refusal's report.
unfoldable pub printed : Checked Launch → List ℕ
printed (refused r) = refusal_report (refusal_number r) (refusal_place r)
printed (accepted launch) = launch_report launch

unfoldable pub check_prints : (file : List ℕ) → List ℕ
check_prints file = printed (file_launch file)

-- What that report is made of.
unfoldable pub subject_of : Checked Launch → Subject
subject_of (refused r) = subject.Refused (refusal_number r) (refusal_place r)
subject_of (accepted launch) = subject.Ran (launch_outcome launch)
