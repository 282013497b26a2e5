-- All definitions that a source is read and parsed by, opened at once: an example that computes says 'unfolding opened'.
-- Assumes nothing.
use Prim.Native.Nat.{ℕ}
use Rattle.base_prelude.specs.Bytes as m1
use Rattle.base_prelude.specs.Choice as m2
use Rattle.base_prelude.specs.Fault as m3
use Rattle.base_prelude.specs.Lists as m4
use Rattle.base_prelude.specs.Walk as m5
use Rattle.base_limits.specs.Record as m6
use Rattle.base_limits.specs.Limits as m7
use Rattle.lang_words.specs.Numbers as m8
use Rattle.lang_words.specs.Sections as m9
use Rattle.lang_words.specs.Substitutes as m10
use Rattle.lang_words.specs.Table as m11
use Rattle.lang_words.specs.Words as m12
use Rattle.lex_spelling.specs.Classes as m13
use Rattle.lex_spelling.specs.Continuation as m14
use Rattle.lex_spelling.specs.Escape as m15
use Rattle.lex_spelling.specs.Pair as m16
use Rattle.lex_spelling.specs.Text as m17
use Rattle.lang_kinds.specs.Grounds as m18
use Rattle.lang_kinds.specs.Kinds as m19
use Rattle.lang_kinds.specs.Nesting as m20
use Rattle.lang_kinds.specs.TokenRow as m21
use Rattle.lang_kinds.specs.Tokens as m22
use Rattle.lex_lexeme.specs.Gap as m23
use Rattle.lex_lexeme.specs.Number as m24
use Rattle.lex_lexeme.specs.Reading as m25
use Rattle.lex_source.specs.Faults as m26
use Rattle.lex_source.specs.Filling as m27
use Rattle.lex_source.specs.Lex as m28
use Rattle.lex_source.specs.Rows as m29
use Rattle.lex_source.specs.Token as m30
use Rattle.parse_lines.specs.Lines as m31
use Rattle.parse_lines.specs.Tokens as m32
use Rattle.parse_lines.specs.Units as m33
use Rattle.parse_shapes.specs.Shapes as m34
use Rattle.parse_shapes.specs.Forms as m35
use Rattle.parse_rules.specs.Rules as m36
use Rattle.parse_units.specs.Outline as m37
use Rattle.parse_units.specs.OutlineRow as m38
use Rattle.parse_units.specs.Parse as m39
use Rattle.parse_units.specs.Places as m40
use Rattle.parse_outline.specs.Labels as m41
use Rattle.parse_outline.specs.Outline as m42
use Rattle.parse_verdict.specs.Lexing as m43
use Rattle.parse_verdict.specs.Verdict as m44
use Rattle.lang_kinds.specs.Standing as m45

unfoldable pub opened : ℕ
unfolding m1.byte_at m2.if_lt m2.if_eq m2.if_true m3.key m3.least_of m4.same_list m4.is_among m4.cleared_from m4.overlay m5.walk m6.mark m6.fresh_of m6.going_on m6.moved_to m6.ended m6.stopped m6.with_state m6.of_parts m7.limits_of m8.numbers m9.section_of m9.known_of m10.substitute_of m11.all_letters m11.rows_from m11.rows m11.entry_at m11.row_at m11.letter_at m11.spelled m12.words m12.first_of m12.is_spelled m12.is_number m12.entry_named m12.entry_of m12.number_of m12.least_operands m12.most_operands m13.is_blank m13.is_digit m13.is_letter m13.is_name_byte m13.is_separator m14.blank_step m14.blanks_end m14.is_joint m14.join_step m14.joined m15.hex_of m15.plain_of m15.bad_place m15.plain_at m15.hex_at m15.hex_from m15.escape_at m16.pair_one m16.pair_end m16.pair_of m16.pair_at m17.in_string m17.in_symbol m17.escaped m17.raw_at m17.character_from m17.character_at m17.spell_more m17.spelled_within m17.spelled_at m17.name_at m17.string_at m17.mix m17.hash_from m17.measured_from m17.measured m18.grounds_of m19.kinds_of m20.statement_in m20.refused_in m20.stands_in m20.rows_of m20.enters m20.leaves m20.ground_of m20.is_frame m20.kind_of_word m21.token_row_of m22.tokens_of m23.comment_step m23.comment_end m23.gap_skip m23.gap_step m23.gap_end m24.digit_from m24.digit_at m24.digit_more m24.digits_within m24.digits_at m24.value_from m24.integer_of m24.decimal_from m24.decimal_of m25.starts_symbol m25.starts_integer m25.symbol_to m25.symbol_end m25.symbol_by m25.symbol_at m25.string_to m25.string_end m25.string_by m25.string_read m25.integer_from m25.integer_by m25.digits_read m25.integer_at m25.marked_from m25.marked_at m25.at_from m25.at_read m25.plain_read m25.token_at m25.as_reading m25.read_at m25.next_read m25.is_named m25.name_start m25.text_of m26.lone_rule m26.escape_rule m26.open_rule m26.range_fault m26.length_fault m26.limit_fault m26.follow_fault m26.range_rule m26.length_rule m26.limit_rule m26.follow_rule m26.faults_of m26.fault_of m27.row_named m27.find_within m27.find_name m27.word_named m27.row_from m27.put_row m27.fill_by m27.fill_reading m27.fill_at m28.token_step m28.read_step m28.lex_step m28.tokens_from m28.lex_of m28.answer_of m28.table_of m29.row_of m29.rows_of m29.token_table m30.is_substitute m30.substitute_value m30.word_of m30.token_value m30.has_name m30.first_from m30.name_number m30.token_of m31.section_kind m31.end_kind m31.test_kind m31.else_kind m31.set_kind m31.symbol_kind m31.other_kind m31.line_kind m32.token_word m32.place_at m32.key_at m32.skip_step m32.skip m32.all_from m33.span_from m33.span_of m33.unit_at m34.is_name m34.is_integer m34.is_string m34.operands_from m34.call_from m34.is_operator m34.operator_from m34.operand_at m34.symbol_from m34.expression_from m34.shapes m34.shape_in m34.shape_of m34.is_shaped m34.form_fits m34.ends_in_list m34.is_listed m34.count_fits m34.is_known m34.byte_fits m34.align_fits m34.range_fits m34.shape_fits m35.later_fits m35.statement_fits m35.other_fits m35.ranged_form m36.shape_rule m36.left_rule m36.is_head m36.head_at m36.own_in m36.own_word m36.name_key m36.substitute_key m36.token_key m36.tokens_least m36.tokens_rule m36.past_most m36.list_rule m36.reserved_label m36.label_limit m36.label_key m36.label_step m36.labels_from m36.labels_rule m37.row_at m37.put_row m37.row_in m37.behind m38.outline_row_of m39.put_state m39.put_kind m39.grow_two m39.grow_by m39.locals_behind m39.depth_behind m39.section_behind m39.state_behind m39.join_state m39.advance m39.open_row m39.fault_in m39.unit_step_on m39.unit_step m39.parse_from m39.parse_of m40.ground_in m40.line_on m40.labelled_on m40.may_label m40.label_rule m40.place_rule m40.import_labels m40.import_rule m40.room_rule m40.locals_rule m40.depth_rule m40.line_faults m40.limit_faults m40.unit_fault m41.label_kind m41.label_number m41.put_label m41.mark_token m41.mark_from m41.mark_before m41.mark_import m41.mark_unit m41.marks_behind m41.mark_on m41.mark_step m41.marks_from m41.label_rows m42.answer_of m42.outline_of m43.token_faults m43.lex_faults m44.kind_in m44.fault_at m44.next_world m44.faults_from m44.all_faults m44.verdict_of m45.ground_numbered m45.lines_on m45.stands_on
opened = 0
