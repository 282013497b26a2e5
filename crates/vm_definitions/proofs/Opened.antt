-- All definitions that a start and a run compute with, opened at once: an example that computes says 'unfolding opened'.
-- Assumes nothing.
use Prim.Native.Nat.{ℕ}
use Rattle.prog_tables.proofs.Opened as tables
use Rattle.base_limits.specs.Record as m1
use Rattle.base_word.specs.Bytes as m2
use Rattle.base_word.specs.Word as m3
use Rattle.vm_definitions.specs.Access as m4
use Rattle.vm_definitions.specs.Broken as m5
use Rattle.vm_definitions.specs.Expressions as m6
use Rattle.vm_definitions.specs.Frames as m7
use Rattle.vm_definitions.specs.Operands as m8
use Rattle.vm_definitions.specs.Start as m9
use Rattle.vm_definitions.specs.Step as m10
use Rattle.vm_definitions.specs.Operators as m11

unfoldable pub opened : ℕ
unfolding tables.opened m1.mark m1.fresh_of m1.going_on m1.moved_to m1.ended m1.stopped m1.with_state m1.of_parts m1.pause_of m1.eight_words m1.paused_words m2.word_bytes m3.add_of m3.sub_of m3.mul_of m3.div_of m3.mod_of m3.shl_of m3.bsr_of m3.asr_of m3.rol_of m3.ror_of m3.and_of m3.or_of m3.xor_of m3.not_of m3.lt_of m3.gt_of m3.ge_of m3.le_of m3.eq_of m3.ne_of m4.byte_address m4.word_address m4.as_word m4.byte_good m4.word_good m4.word_from m4.load_of m4.store_from m5.lower m5.lowest m5.or_else m5.next_bad m5.frame_ends m5.rows_used m5.next_past m5.frame_fault m5.top_fault m5.limit_fault m5.head_fault m5.record_fault m5.step_broken m5.not_import m5.resume_broken m5.numbers_below m5.start_broken m6.eval_of m6.test_holds m7.frame_words m7.is_first m7.is_return_call m7.is_return m7.is_calling m7.returns_import m7.leaves_frame m7.called_from m7.head_good m7.passes_on m7.leaves_good m7.heads_left m7.tops_left m7.rows_left m7.resumption_of m8.is_at m8.number_in m8.fetch_of m8.read_of m8.with_word m8.on_read m8.read_all m9.exports_as m9.export_of m9.start_answer m9.start_world m9.start_by m9.begun_by m9.start_of m9.start_leaves m10.effect_stop m10.goes_to m10.keeps m10.stores m10.block_of m10.end_block_of m10.test_of m10.worked_of m10.assigned m10.assigned_at m10.set_at_of m10.set_byte_by m10.set_word_by m10.arguments_of m10.call_by m10.call_of m10.tail_call_by m10.handed_to m10.handed_by m10.returned m10.return_of m10.effect_of m10.idle m10.effected m10.guarded m10.in_state_of m10.paused_by m10.pausing m10.statement_of m10.in_state m10.step_of m10.counting m10.run_of m10.handed_in m10.on_pause m10.resume_of m11.round_up m11.reserved m11.answered m11.fetched m11.byte_of m11.operators m11.line_in m11.operator_of m11.applied m11.operator_meets
opened = 0
