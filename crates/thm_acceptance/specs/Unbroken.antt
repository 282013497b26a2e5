-- The page of rules: a source breaks none of them exactly when it is accepted (`accepts-exactly`). One field for each rule, with 01's
-- number and words; it speaks of what is read, of lines and what stands before them, and of rows and labels.
-- Assumes nothing.
use Rattle.std.specs.Prelude.{ℕ, ◌+◌, ◌-◌, ◌≤◌, ◌<◌, ◌≡◌, Bool, true, false, List, length}
use Rattle.base_limits.specs.Limits.{source_bytes}
use Rattle.base_limits.specs.declared.Width.{Width}
use Rattle.lang_kinds.specs.Kinds as kind
use Rattle.lex_source.specs.Faults.{lone_rule, escape_rule, open_rule, range_rule, length_rule, limit_rule, follow_rule}
use Rattle.prog_tables.specs.Statement.{row_at}
use Rattle.prog_tables.specs.Hosts.{Hosts, entries_of, host_of}
use Rattle.res_skeleton.specs.Skeleton.{skeleton_of}
use Rattle.res_scope.specs.Lines.{first_token, end_token, label_token}
use Rattle.res_scope.specs.Names.{let_here}
use Rattle.res_scope.specs.Parts.{parts_of}
use Rattle.res_scope.specs.declared.Parts.{Parts}
use Rattle.res_names.specs.Uses.{uses_in, means_label}
use Rattle.res_exports.specs.Exports.{carried_in, label_at_token}
use Rattle.res_data.specs.Sizes.{big_rule}
use Rattle.res_text.specs.Same.{name_of, same_text}
use Rattle.parse_verdict.specs.Verdict.{All, Clean}
use Rattle.thm_acceptance.specs.Reads.{EachRead}
use Rattle.thm_acceptance.specs.Lines.{Line, EachLine}
use Rattle.thm_acceptance.specs.LineRules.{Silent}
use Rattle.thm_acceptance.specs.LineRules as rule
use Rattle.thm_acceptance.specs.Faults.{head_faults, callee_faults, operand_faults}
use Rattle.thm_acceptance.specs.Accepts.{table_of, outlined, statements_in, labels_in}

-- the parts of statement r
abbrev pub parts_at : List ℕ → List ℕ → ℕ → Parts
parts_at t k r = parts_of t (row_at k r).kind (first_token k r) (end_token k r)

-- its operand tokens
abbrev pub operands_at : List ℕ → List ℕ → ℕ → ℕ
operands_at t k r = end_token k r - (parts_at t k r).first

-- 10 to 13 and 17: the rules of 'Names', in a table t of the tokens of a source of n bytes with c rows k and l label rows y; `same` says
-- whether two tokens have one name
pub record NamesUnbroken (same : ℕ → ℕ → Bool) (t : List ℕ) (n : ℕ) (k y : List ℕ) (l c : ℕ) : Type 0 where
  -- 12: "Two locals of one frame, parameters included, may not share a name": two parameters, two lets, a let and a parameter
  pub parameters : (r : ℕ) → r < c → (row_at k r).kind ≡ kind.function
      → (p q : ℕ) → first_token k r < p → p < q → q < end_token k r → same p q ≡ false
  pub lets : (r : ℕ) → r < c → (row_at k r).kind ≡ kind.let_local
      → (m : ℕ) → (row_at k r).scope ≤ m → m < r → let_here same k (row_at k r).scope (first_token k r + 1) m ≡ false
  pub lets_and_parameters : (r : ℕ) → r < c → (row_at k r).kind ≡ kind.let_local → (row_at k (row_at k r).scope).kind ≡ kind.function
      → (q : ℕ) → first_token k (row_at k r).scope < q → q < end_token k (row_at k r).scope → same q (first_token k r + 1) ≡ false
  -- 12: "nor may two labels"; "Imported names count as labels in the one space" (02, 3)
  pub labels : (i j : ℕ) → i < j → j < l → same (label_token y i) (label_token y j) ≡ false
  -- 10 and 11: "`goto` takes a statement's label in the same function and innermost block. `set` takes a local."
  pub targets : (r : ℕ) → r < c → Clean (head_faults same t n k y l r (row_at k r).kind (first_token k r + 1))
  -- 10, 11 and 13: "`call` and `tail-call` take a function label with its parameter count"; an imported name has "an argument count of 0
  -- to 8" (02, 3)
  pub callees : (r : ℕ) → r < c → Clean (callee_faults same t n k y l r (parts_at t k r).callee (operands_at t k r))
  -- 10 and 11: "A value is a local or a data label (its address)"
  pub values : (r : ℕ) → r < c → Clean (operand_faults (operands_at t k r) same t n k y l r (parts_at t k r).first)
  -- 10 and 11: "`export n`: the first data definition, group or function after it carries label n, with no `section` between; else 10
  -- if no label is n, 11 if one is"
  pub exports : EachLine t (λ before x. x.kind ≡ kind.export → carried_in same t y l x.unit < l)
  -- 17: "An export stands before the first operand or target that means its label": before each of them
  pub exports_first : EachLine t (λ before x. x.kind ≡ kind.export → (r : ℕ) → r < c
      → All (λ i. means_label same k y l r (carried_in same t y l x.unit) i ≡ true → x.unit.word + 1 ≤ i) (uses_in t k r))
  -- 17: "17 also for an import after use, at its name" (02, 3): before each operand or target that means the label at its name
  pub imports_first : EachLine t (λ before x. x.kind ≡ kind.import_line → label_at_token y l (x.unit.word + 1) < l → (r : ℕ) → r < c
      → All (λ i. means_label same k y l r (label_at_token y l (x.unit.word + 1)) i ≡ true → x.unit.word + 1 ≤ i) (uses_in t k r))

-- the rows and labels that the lines of a source make
abbrev pub statement_count : Width → Hosts → List ℕ → ℕ
statement_count w h s = statements_in (outlined w h s).answer

abbrev pub label_total : Width → Hosts → List ℕ → ℕ
label_total w h s = labels_in (outlined w h s).answer

abbrev pub rows_made : Width → Hosts → List ℕ → List ℕ
rows_made w h s = skeleton_of (outlined w h s).rows (statement_count w h s)

-- the host lists the name of token i
abbrev pub Listed : Hosts → List ℕ → List ℕ → ℕ → Type 0
Listed h s t i = host_of h (name_of s t i) < entries_of h

-- "it breaks none of the listed rules", h being the list that the host lends
pub record Unbroken (w : Width) (h : Hosts) (s : List ℕ) : Type 0 where
  -- 1: "source too long"
  pub short : length s ≤ source_bytes
  -- 2: "no token can be read here"
  pub readable : EachRead w s (λ n r. Silent (lone_rule r))
  -- 2: "After an integer, string, symbol or substitute comes a blank, byte 10, `#` or the end .., else refusal 2 there"
  pub separated : EachRead w s (λ n r. Silent (follow_rule s r))
  -- 3: "bad escape"
  pub escapes : EachRead w s (λ n r. Silent (escape_rule r))
  -- 4: "string open at line or source end"
  pub strings : EachRead w s (λ n r. Silent (open_rule r))
  -- 5: "integer out of range"
  pub integers : EachRead w s (λ n r. Silent (range_rule r))
  -- 6: "name too long"
  pub lengths : EachRead w s (λ n r. Silent (length_rule r))
  -- 14: "tokens 4,096"
  pub few_tokens : EachRead w s (λ n r. Silent (limit_rule n r))
  -- 7: words, shapes and ranges; substitutes
  pub shaped : EachLine (table_of w h s) (rule.Shaped w (table_of w h s))
  pub substitutes_known : EachLine (table_of w h s) (rule.SubstitutesKnown w (table_of w h s))
  -- 8: reserved words as names; places; what a label names; a label's own name
  pub names_free : EachLine (table_of w h s) (rule.NamesFree w (table_of w h s))
  pub placed : EachLine (table_of w h s) (rule.Placed w (table_of w h s))
  pub labelled : EachLine (table_of w h s) (rule.MayBeLabelled w (table_of w h s))
  pub labels_free : EachLine (table_of w h s) (rule.LabelsFree w (table_of w h s))
  -- 9: words, imports elsewhere, and the substitute
  pub not_left_out : EachLine (table_of w h s) (rule.NotLeftOut w (table_of w h s))
  pub imports_between : EachLine (table_of w h s) (rule.ImportBetween w (table_of w h s))
  pub no_frame_size : EachLine (table_of w h s) (rule.NoFrameSize w (table_of w h s))
  -- 14, limit by limit
  pub few_statements : EachLine (table_of w h s) (rule.FewStatements w (table_of w h s))
  pub few_labels : EachLine (table_of w h s) (rule.FewLabels w (table_of w h s))
  pub few_imports : EachLine (table_of w h s) (rule.FewImports w (table_of w h s))
  pub few_locals : EachLine (table_of w h s) (rule.FewLocals w (table_of w h s))
  pub few_blocks : EachLine (table_of w h s) (rule.FewBlocks w (table_of w h s))
  pub few_arguments : EachLine (table_of w h s) (rule.FewArguments w (table_of w h s))
  -- 10: "`import` between functions is taken for names in a list that the host lends the check", "10 for a name the host didn't list" (02, 3)
  pub listed : EachLine (table_of w h s) (λ before x. x.kind ≡ kind.import_line → Listed h s (table_of w h s) (x.unit.word + 1))
  -- 10 to 13 and 17
  pub names : NamesUnbroken (same_text s (table_of w h s)) (table_of w h s) (length s) (rows_made w h s) (outlined w h s).labels
      (label_total w h s) (statement_count w h s)
  -- 15: "data too big"
  pub size : Silent (big_rule w (table_of w h s) (length s))
