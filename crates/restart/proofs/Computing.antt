-- All that calls, the uncut run and histories on given plans are computed with, under one name: who unfolds `computing` unfolds these definitions.
-- Assumes nothing.
use Rattle.word.specs.Word.{add_of, sub_of, div_of, less_of, place_of}
use Rattle.word.specs.Bytes.{bytes_of, number_of, load_of}
use Rattle.cellset.specs.Bits.{bit}
use Rattle.instruction.specs.Bytes.{length_of, instruction_at_of}
use Rattle.instruction.specs.Table.{access, successors}
use Rattle.program.specs.Starts.{starts_from, starts, refusal_at_of, first_refusal, excludes, last_opcode, among, jumps_among}
use Rattle.program.specs.Places.{opcode_before, excludes_before}
use Rattle.program.specs.Check.{check_of}
use Rattle.execution.specs.Effects.{effect_of}
use Rattle.analysis.specs.Analyse.{analyse_of}
use Rattle.marks.specs.Marks.{map_below, excluded_marks, saved_marks, recovered_marks, stored_from, stored_cells_of}
use Rattle.journal.specs.Format.{sum_of, owner_of_plan, kind_of, chip_length, fill_of, fields_image, records_image, image, padded, images}
use Rattle.journal.specs.Reading.{last_of, own_all, saved_in, saved_value}
use Rattle.journal.specs.Writing.{records_of}
use Rattle.step.specs.State.{checkpoint_at, image_at, size_at, zero_from, marks_from, sound_of}
use Rattle.step.specs.Step.{effect_at, performed, begun, executed_of, erased_of, stored_of, step_of, due_opcode_of, given_of, taken_of}
use Rattle.run.specs.Run as run
use Rattle.run.specs.Run.{exit_before_of, stepped, run_of, late_refusal_of, call_of}
use Rattle.recovery.specs.Recover as recovery
use Rattle.recovery.specs.Recover.{included, marks_by_of}
use Rattle.restart.specs.Reference.{zeros, numbered_from, frame_after, effect_in, stays, next_frame, output_at, gathered, ref_at, emitted}
use Rattle.restart.specs.History.{retires, tallied, tallied_over, outcome_of, tally_after, ran}
use Rattle.restart.specs.Claim.{stands, distinct}
use Rattle.restart.specs.Rows.{ran_from, small_sets}
use Rattle.step.proofs.Tables.{tabulated}
use Rattle.restart.proofs.Outcomes.{values_of}
use Rattle.restart.proofs.Testing.{same_numbers, same_outputs, same_end, same_effect}
use Rattle.restart.proofs.Shaped.{saves_from}

unfoldable pub computing : Unit {0}
unfolding add_of sub_of div_of less_of place_of bytes_of number_of load_of bit length_of instruction_at_of access successors starts_from starts refusal_at_of first_refusal
    excludes last_opcode among jumps_among opcode_before excludes_before check_of effect_of analyse_of map_below excluded_marks saved_marks recovered_marks stored_from
    stored_cells_of sum_of owner_of_plan kind_of own_all fields_image records_image image fill_of padded images chip_length last_of saved_in saved_value records_of checkpoint_at image_at size_at zero_from marks_from sound_of effect_at
    performed begun executed_of erased_of stored_of step_of due_opcode_of given_of taken_of exit_before_of stepped run_of late_refusal_of run.refusal_of call_of recovery.refusal_of
    included marks_by_of zeros numbered_from frame_after effect_in stays next_frame output_at gathered ref_at emitted retires tallied tallied_over outcome_of tally_after
    ran stands distinct ran_from small_sets tabulated values_of same_numbers same_outputs same_end same_effect saves_from
computing = tt
