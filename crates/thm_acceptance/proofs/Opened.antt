-- All definitions that a source is checked by, opened at once: an example that computes says 'unfolding opened'.
-- Assumes nothing.
use Prim.Native.Nat.{ℕ}
use Rattle.parse_verdict.proofs.Opened as parsing
use Rattle.prog_tables.proofs.Opened as tables
use Rattle.base_word.specs.Bytes as m1
use Rattle.base_word.specs.Word as m2
use Rattle.res_skeleton.specs.Skeleton as m3
use Rattle.res_frame_words.specs.Framing as m4
use Rattle.res_scope.specs.Lines as m5
use Rattle.res_scope.specs.Names as m6
use Rattle.res_scope.specs.Parts as m7
use Rattle.res_text.specs.Same as m8
use Rattle.res_names.specs.Naming as m9
use Rattle.res_exports.specs.Exports as m10
use Rattle.res_data.specs.Image as m11
use Rattle.res_data.specs.Sizes as m12
use Rattle.res_labels.specs.Labelling as m13
use Rattle.res_rows.specs.Rows as m14
use Rattle.res_tokens.specs.TokenTable as m15
use Rattle.check_judge.specs.Judge as m16
use Rattle.check_fill.specs.Fill as m17
use Rattle.check_source.specs.Check as m18
use Rattle.thm_acceptance.specs.Accepts as m19
use Rattle.thm_acceptance.specs.Faults as m20
use Rattle.res_names.specs.Uses as m21
use Rattle.thm_acceptance.specs.Lines as m22
use Rattle.thm_acceptance.specs.LineRules as m23
use Rattle.res_hosts.specs.Marks as m24

unfoldable pub opened : ℕ
unfolding parsing.opened tables.opened m1.word_bytes m2.add_of m2.sub_of m2.mul_of m2.div_of m2.mod_of m2.shl_of m2.bsr_of m2.asr_of m2.rol_of m2.ror_of m2.and_of m2.or_of m2.xor_of m2.not_of m2.lt_of m2.gt_of m2.ge_of m2.le_of m2.eq_of m2.ne_of m3.parameters_of m3.bare m3.statement_of m3.put_row m3.rows_in m3.skeleton_of m3.token_of m3.next_of m4.frame_value m4.word_of m4.words_in m4.words_of m5.first_token m5.end_token m5.label_token m5.label_kind m5.label_statement m5.label_arguments m6.has_name m6.same_number m6.last_from m6.let_named m6.let_here m6.let_of m6.parameter_of m6.label_of m6.label_meaning m6.outer_meaning m6.meaning_of m7.symbol_parts m7.expression_parts m7.return_parts m7.lists_operands m7.plain_parts m7.parts_of m8.name_of m8.same_text m9.data_fault m9.value_fault m9.set_fault m9.import_fault m9.function_fault m9.callee_fault m9.place_fault m9.goto_fault m9.parameter_taken m9.local_taken m9.let_fault m9.parameter_fault m9.label_fault m9.mark_use m9.use_of m9.judged m9.value_part m9.operands_part m9.callee_part m9.set_part m9.goto_part m9.parameters_fault m9.declared_fault m9.head_part m9.body_part m9.statement_part m9.statements_part m9.labels_fault m9.names_of m10.is_definition m10.ends_search m10.seek_on m10.seek_step m10.definition_from m10.carries_label m10.carried_by m10.use_fault m10.missing_fault m10.export_fault m10.label_at_token m10.import_use m10.import_fault m10.flagged m10.judged_by m10.import_judged m10.export_part m10.export_on m10.export_step m10.exports_from m10.exports_of m10.carried_in m10.exported_from m10.is_exported m11.line_bytes m11.put_bytes m11.put_unit m11.lay_step m11.lay_from m11.image_of m12.align_of m12.fill_of m12.align_size m12.size_of m12.cursor_behind m12.add_line m12.next_of m12.next_at m12.measure_step m12.measure_from m12.measure_of m12.length_in m12.address_of m12.big_in m12.big_rule m13.outline_word m13.flag_at m13.exported_kind m13.final_kind m13.final_number m13.final_arguments m13.label_words m13.put_words m13.labels_from m13.label_table m13.label_name m13.put_name m13.names_from m13.name_table m14.label_number m14.word_of_let m14.word_of_parameter m14.local_word m14.label_target m14.called_label m14.callee_target m14.is_imported m14.plain_operand m14.at_operand m14.constant_operand m14.token_operand m14.address_constant m14.address_operand m14.operands_from m14.slot_operand m14.aOf m14.bOf m14.expr_of m14.callee_of m14.address_of m14.row_with m14.row_of m14.head_of m14.put_words m14.put_row m14.rows_below m14.statement_table m15.copied m15.statement_marked m15.statements_marked m15.unmarked m15.token_table m16.size_group m16.names_with m16.names_judged m16.fault_group m16.name_group m16.outline_group m16.line_group m16.token_group m16.judge_of m17.zeroed m17.labels_in m17.fill_of m18.refuse m18.accept m18.has_room m18.answer_to m18.check_of m19.tokens_in m19.tokens_of m19.statements_in m19.labels_in m19.long_rule m19.names_in m19.name_faults m19.room_rule m19.later_groups m19.groups_of m19.judge m19.counts_in m19.counts_of m20.label_faults m20.operand_fault m20.operand_faults m20.callee_faults m20.parameter_faults m20.declared_faults m20.head_faults m20.body_faults m20.statement_faults m20.statements_faults m20.all_name_faults m20.line_faults m20.export_faults_from m20.export_faults m21.operand_name m21.operand_names m21.callee_names m21.head_names m21.body_names m21.uses_in m21.is_label m21.or_else m21.first_among m21.first_use_from m21.first_use m22.line_from m22.lines_from m22.lines_of m22.statement_kinds m22.statements_before m22.labels_among m22.labels_on m22.label_count m22.labels_before m22.outer m22.with_local m22.closed_by m22.opened_by m22.opened_by_all m22.open_before m22.locals_in m22.blocks_in m22.section_before m22.ground_among m22.ground_before m23.is_reserved m24.is_import m24.mark_at m24.name_marked m24.hosted_tokens
opened = 0
