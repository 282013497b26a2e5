-- All definitions that tables are judged by, opened at once: an example that computes says 'unfolding opened'.
-- Assumes nothing.
use Prim.Native.Nat.{ℕ}
use Rattle.base_prelude.specs.Choice as m1
use Rattle.base_prelude.specs.Lists as m2
use Rattle.lang_kinds.specs.Nesting as m3
use Rattle.lang_words.specs.Words as m4
use Rattle.prog_tables.specs.Tests as m5
use Rattle.prog_tables.specs.Layout as m6
use Rattle.prog_tables.specs.Statement as m7
use Rattle.prog_tables.specs.Label as m8
use Rattle.prog_tables.specs.Nesting as m9
use Rattle.prog_tables.specs.Frames as m10
use Rattle.prog_tables.specs.Faults as m11
use Rattle.prog_tables.specs.WellFormed as m12
use Rattle.prog_tables.specs.Canonical as m13
use Rattle.prog_tables.specs.Hosts as m14

unfoldable pub opened : ℕ
unfolding m1.if_lt m1.if_eq m1.if_true m2.same_list m2.is_among m2.cleared_from m2.overlay m3.statement_in m3.refused_in m3.stands_in m3.rows_of m3.enters m3.leaves m3.ground_of m3.is_frame m3.kind_of_word m4.words m4.first_of m4.is_spelled m4.is_number m4.entry_named m4.entry_of m4.number_of m4.least_operands m4.most_operands m5.all m5.some m5.all_of m5.some_of m5.all_below m5.some_below m5.count_below m5.greatest_below m5.first_from m6.sizes_of m6.numbers_of m7.operand_of m7.operand_kind m7.operand_number m7.has_expression m7.is_test m7.is_operator m7.is_call m7.is_import m7.is_call_expression m7.expression_uses m7.used_by m7.operand_at m7.slots m7.row_from m7.row_at m7.slot_words m7.encode m8.label_at m8.is_data m8.is_function_label m9.behind m9.open_before m9.ground_in m9.func_in m9.scope_in m9.up_in m9.is_listed m9.may_stand m9.follows_jump m9.stands m9.all_closed m9.is_arm m9.is_end_if m9.next_arm m9.end_if_of m9.past_arm m9.target_of m9.has_target m9.depth_of m9.encloses m10.is_in m10.lets_before m10.block_need m10.need_of m10.frame_size m10.first_let m10.block_word m10.let_word m10.let_seen m10.is_parameter m10.seen_at m10.in_scope m10.locals_at m11.expression_listed m11.in_function m11.size_at m11.operand_fault m11.address_listed m11.kind_fault m11.target_fault m11.function_fault m11.import_fault m11.callee_fault m11.size_fault m11.own_word m11.has_word m11.word_fault m11.operands_fault m11.address_fault m11.row_fault m11.label_fault m11.count_fault m11.tables_fault m12.shallow m12.aimed m12.labelled m12.jumps m12.function_calls m12.import_calls m12.calls m12.forward_calls m12.has_operands m12.shaped m12.operand_good m12.operands_good m12.address_good m12.sets_local m12.framed m12.few_locals m12.row_tests m12.names m12.name_good m12.name_new m12.label_tests m12.counts_good m12.well_formed m13.uses_word m13.unused_zero m13.label_unused_zero m13.zero_from m13.canonical m14.entries_of m14.entry_left m14.entry_named m14.host_of m14.host_mark m14.label_hosted m14.hosted
opened = 0
