-- Opens every definition of specs/ at once, so that an example is computed. Assumes nothing.
use Rattle.spec.specs.Answers.{refusal_number, refusal_place, named, told, told_by, told_in, unless, or_else, first, is_passed}
use Rattle.spec.specs.Lists.{any_of, every, passing, equal_list, joined, map_where, last_of}
use Rattle.spec.specs.Access.{cell_after, registers_after, mode, value_of, agree, conflict, group_conflict}
use Rattle.spec.specs.Op.{op_table, op_of, form, form_of, is_register, is_unused, operands_fit, value}
use Rattle.spec.specs.Table.{row_of, rows_of, no_row, row_at, cell_byte, kind_of, role, opened_by, open_before, scan_row, scan, end_of, past_else, else_of}
use Rattle.spec.specs.Table.{start_of, innermost}
use Rattle.spec.specs.Grammar.{body_rows, construct_rows, body_depth, construct_depth}
use Rattle.spec.specs.TableCheck.{opener, is_known, else_fits, endif_fits, endwhile_fits, fits, shallow, divided, open_after, row_refusal, left_open}
use Rattle.spec.specs.TableCheck.{rows_refusal, table_refusal}
use Rattle.spec.specs.Mask.{mask_word, has, members_from, members, any, full, minus, union, lowest, nonzero, holding}
use Rattle.spec.specs.Shape.{launch_number, total, bound, address, in_common, is_common, at_common, past, is_global, is_own, reaches}
use Rattle.spec.specs.Log.{masks_of, mark_word, log_kinds, log_words, empty_log, nobody, cleared, cleared_where, cell_cleared, cells_cleared}
use Rattle.spec.specs.Log.{with_thread, first_value, unequal, logged, conflicting, tested_mask, conflict_mask, shown_kind, race_kind}
use Rattle.spec.specs.GroupLog.{group_masks_of, empty_group_log, group_logged, conflicting_groups, group_conflict_mask, group_race_kind, group_kinds, group_words}
use Rattle.spec.specs.Steps.{stepped, all_stepped, sum}
use Rattle.spec.specs.LockStep as lock_step
use Rattle.spec.specs.LockStep.{initial_state, and_then, in_turn, advance, update, set_reg, compute_turn, made_access, enter_group, rivals, try_access, past_turn, access_turn}
use Rattle.spec.specs.LockStep.{for_enabled, count_steps, top_mask, top_opener, pop, if_row, else_row, endif_row, saved_at_while, leave_or_stay, while_row}
use Rattle.spec.specs.LockStep.{endwhile_row, pass_barrier, barrier_row, run_row, result_of, run_from, outcome_of, counted_at, counted_after, counted_from}
use Rattle.spec.specs.LaunchRun.{rows_left, group_result, next_start, runs_from, group_runs, last_run, lockstep, last_group, steps_by_launch, own_cells, counted_barriers}
use Rattle.spec.specs.Banks.{different, in_bank, most_in_bank, conflict_cost}
use Rattle.spec.specs.Intervals.{used_cells, row_cost, all_of, started, with_row, behind, intervals_after, intervals_from, together, records_of}
use Rattle.spec.specs.Intervals.{interval_records, record_words, conflicts_of}
use Rattle.spec.specs.Threads.{reg, goto, put, beyond, reach, on_if, on_while, effect_of, effect, empty_record, recorded, any_below, races, initial_threads}
use Rattle.spec.specs.Threads.{no_thread, thread_count, effect_at, accesses_of, is_outside, ends_badly, mark_bad, thread_after, cells_after, performed}
use Rattle.spec.specs.Threads.{past_barrier, released, next, is_barrier, at_one_barrier, is_waiting, possible, at_end, shown}
use Rattle.spec.specs.LaunchThreads as launch
use Rattle.spec.specs.LaunchThreads.{no_part, has_met, barred_to, part_at_end, initial_part, initial_groups}
use Rattle.spec.specs.AllRuns.{is_move_of, is_release_of, is_release, counted_in_all}
use Rattle.spec.specs.Text.{text, digits_within, decimal, is_digit, is_number, digits_value, number_below, starting_with, split_at}
use Rattle.spec.specs.Launch.{launch_run, launch_intervals, launch_outcome, launch_steps, own_part, global_part, own_after, global_after, all_log_words, launch_log}
use Rattle.spec.specs.LaunchFile.{continue, ◌>>=◌, ◌>>◌, gives, in_order, times, given, line_value, is_due, due, require, file_ends, exactly}
use Rattle.spec.specs.LaunchFile.{number, byte, row_value, size_lines, length_lines, due_number, numbers, content_lines, launch_lines, unless_refused, checked_table, file_launch}
use Rattle.spec.specs.Report.{verdict_text, kind_text, value_text, key_line, line_bytes, ◌is◌, bytes_of, details, details_of, head_with, head_lines, interval_lines}
use Rattle.spec.specs.Report.{each_line, end_line, run_lines, run_report, refusal_lines, refusal_report, report_of}
use Rattle.spec.specs.Reading.{on_first, lines_in, is_line, has_line, is_first, begins_with, number_in, under_key, numbers_on, numbers_at, has_passed, installs}
use Rattle.spec.specs.Entries.{over, bare_numbers, bare_lent, bare_refusal, bare_launch, answer_of, kept_if, bare_answer, bare_cells, bare_global}
use Rattle.spec.specs.Entries.{bare_log, bare_records, bare_steps}
use Rattle.spec.specs.Entries.{lines_reported, writer_refusal, written_of, writer_answer, writer_buffer, file_lent, and_state, file_checked}
use Rattle.spec.specs.Entries.{launch_report, report_length, file_answer, if_accepted, file_cells_after, file_global_after, file_log_after, file_records_after, file_output_after, printed}
use Rattle.spec.specs.Entries.{checked_refusal, check_prints, subject_of}
use Rattle.spec.specs.PairFiles.{common_lines, common_checked, common_cells, kernel_checked, kernel_launch, kernel_prints, pair_prints, pair_refusal, pair_answer}
use Rattle.spec.specs.PairFiles.{pair_output_after}
use Rattle.spec.proofs.Lines.{with_newlines, lines}
use Rattle.spec.proofs.GlobalRows.{global_load, global_store, global_add, launch_tid, growing, numbering}

-- Whoever unfolds this unfolds them all.
unfoldable pub computing : Unit {0}
unfolding refusal_number refusal_place named told told_by told_in unless or_else first is_passed
    any_of every passing equal_list joined map_where last_of
    cell_after registers_after mode value_of agree conflict group_conflict
    op_table op_of form form_of is_register is_unused operands_fit value
    row_of rows_of no_row row_at cell_byte kind_of role opened_by open_before scan_row scan end_of past_else else_of start_of innermost
    body_rows construct_rows body_depth construct_depth
    opener is_known else_fits endif_fits endwhile_fits fits shallow divided open_after row_refusal left_open rows_refusal table_refusal
    mask_word has members_from members any full minus union lowest nonzero holding
    launch_number total bound address in_common is_common at_common past is_global is_own reaches
    masks_of mark_word log_kinds log_words empty_log nobody cleared cleared_where cell_cleared cells_cleared with_thread first_value unequal logged
    conflicting tested_mask conflict_mask shown_kind race_kind
    group_masks_of empty_group_log group_logged conflicting_groups group_conflict_mask group_race_kind group_kinds group_words
    stepped all_stepped sum
    lock_step.reg initial_state and_then in_turn advance update set_reg compute_turn made_access enter_group rivals try_access past_turn access_turn for_enabled count_steps
    top_mask top_opener pop if_row else_row endif_row saved_at_while leave_or_stay while_row endwhile_row pass_barrier barrier_row run_row result_of
    run_from outcome_of counted_at counted_after counted_from
    rows_left group_result next_start runs_from group_runs last_run lockstep last_group steps_by_launch own_cells counted_barriers
    different in_bank most_in_bank conflict_cost
    used_cells row_cost all_of started with_row behind intervals_after intervals_from together records_of interval_records record_words conflicts_of
    reg goto put beyond reach on_if on_while effect_of effect empty_record recorded any_below races initial_threads no_thread thread_count effect_at
    accesses_of is_outside ends_badly mark_bad thread_after cells_after performed past_barrier released next is_barrier at_one_barrier is_waiting
    possible at_end shown
    no_part has_met barred_to launch.next launch.possible part_at_end launch.at_end launch.shown initial_part initial_groups
    is_move_of is_release_of is_release counted_in_all
    text digits_within decimal is_digit is_number digits_value number_below starting_with split_at
    launch_run launch_intervals launch_outcome launch_steps own_part global_part own_after global_after all_log_words launch_log
    continue ◌>>=◌ ◌>>◌ gives in_order times given line_value is_due due require file_ends exactly number byte row_value size_lines length_lines due_number
    numbers content_lines launch_lines unless_refused checked_table file_launch
    verdict_text kind_text value_text key_line line_bytes ◌is◌ bytes_of details details_of head_with head_lines interval_lines each_line end_line run_lines run_report
    refusal_lines refusal_report report_of
    on_first lines_in is_line has_line is_first begins_with number_in under_key numbers_on numbers_at has_passed installs
    over bare_numbers bare_lent bare_refusal bare_launch answer_of kept_if bare_answer bare_cells bare_global bare_log bare_records bare_steps lines_reported writer_refusal
    written_of writer_answer writer_buffer file_lent and_state file_checked launch_report report_length file_answer if_accepted file_cells_after file_global_after
    file_log_after file_records_after file_output_after printed check_prints checked_refusal subject_of
    common_lines common_checked common_cells kernel_checked kernel_launch kernel_prints pair_prints pair_refusal pair_answer pair_output_after
    with_newlines lines global_load global_store global_add launch_tid growing numbering
computing = tt
