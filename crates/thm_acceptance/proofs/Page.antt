-- The page of specs/Unbroken says what the groups of faults say: all are clean.
-- Assumes nothing.
use mathlib.Core.Path.{◌≡◌, refl, sym, ◌∙◌, ap, subst}
use mathlib.Core.Bool.{Bool, true, false}
use mathlib.Core.List.{List, [], ◌∷◌, ◌++◌}
use mathlib.Core.Logic.{◌↔◌}
use Prim.Native.Nat.{ℕ, zero, suc, ◌+◌, ◌-◌, ◌≤◌, ◌<◌}
use native.Mathlib.Decide.{dec_lt, ℕ_discrete}
use native.Mathlib.Omega.{arith}
use lib.ListN.{length, get_or, length-append, length-replicate}
use Rattle.base_prelude.specs.Choice.{if_lt, if_eq}
use Rattle.base_prelude.specs.Fault.{none, least_of}
use Rattle.base_prelude.specs.Lists.{zeros}
use Rattle.base_prelude.specs.Walk.{Step, go, stop}
use Rattle.base_prelude.proofs.Choice.{either, either-eq, if_lt-yes, if_lt-no, if_eq-yes, if_eq-no}
use Rattle.base_prelude.proofs.Keys.{key-fault}
use Rattle.base_limits.specs.declared.Width.{Width}
use Rattle.lex_lexeme.specs.Reading.{Reading, next_read}
use Rattle.lex_lexeme.specs.declared.Lexeme.{Lexeme}
use Rattle.lex_lexeme.specs.declared.TokenError.{TokenError}
use Rattle.lex_lexeme.specs.declared.TokenError.TheVariants.{Lone, Broken, Open}
use Rattle.lex_source.specs.Token.{Token, token_of}
use Rattle.lex_source.specs.Faults.{lone_rule, escape_rule, open_rule, range_rule, length_rule, limit_rule, follow_rule, faults_of, fault_of}
use Rattle.lex_source.specs.Lex.{State, state, Outcome, accepted, refused, token_step}
use Rattle.parse_verdict.specs.Verdict.{All, Clean}
use Rattle.parse_verdict.specs.Lexing.{faults_behind, token_faults, lex_faults}
use Rattle.parse_verdict.proofs.Decided.{least-none, none-all}
use Rattle.parse_verdict.proofs.Decided as decided
use Rattle.thm_acceptance.specs.Reads.{Behind, EachReadFrom, EachRead}
use Rattle.thm_acceptance.specs.Lines.{Line, EachFrom, EachLine, lines_of}
use Rattle.thm_acceptance.specs.LineRules.{Silent, Shaped, SubstitutesKnown, NamesFree, Placed, MayBeLabelled, LabelsFree, NotLeftOut, ImportBetween, NoFrameSize, FewStatements, FewLabels, FewImports, FewLocals, FewBlocks, FewArguments}
use Rattle.thm_acceptance.proofs.Paged.{LineFine}
use Rattle.std.proofs.Common.{Option, Some, None, Result, Ok, Err}

-- ---- what is read

behind-map : (r : Reading) (P Q : ℕ → Type 0) → ((next : ℕ) → P next → Q next) → Behind r P → Behind r Q
behind-map (Ok None) P Q f h = tt
behind-map (Err (Lone p)) P Q f h = tt
behind-map (Err (Broken p)) P Q f h = tt
behind-map (Err (Open p)) P Q f h = tt
behind-map (Ok (Some x)) P Q f h = f x.next h

behind-both : (r : Reading) (P Q : ℕ → Type 0) → Behind r P → Behind r Q → Behind r (λ (next : ℕ). P next × Q next)
behind-both (Ok None) P Q h g = tt
behind-both (Err (Lone p)) P Q h g = tt
behind-both (Err (Broken p)) P Q h g = tt
behind-both (Err (Open p)) P Q h g = tt
behind-both (Ok (Some x)) P Q h g = (h, g)

module _ (w : Width) (s : List ℕ) where
  read-map : (P Q : ℕ → Reading → Type 0) → ((n : ℕ) (r : Reading) → P n r → Q n r) → (left n at : ℕ) → EachReadFrom left w s P n at → EachReadFrom left w s Q n at
  read-map P Q f zero n at h = tt
  read-map P Q f (suc left) n at h = (
    f n (next_read w s at) h.0,
    behind-map (next_read w s at) (EachReadFrom left w s P (suc n)) (EachReadFrom left w s Q (suc n)) (λ next. read-map P Q f left (suc n) next) h.1,
  )

  abbrev Both : (ℕ → Reading → Type 0) → (ℕ → Reading → Type 0) → ℕ → Reading → Type 0
  Both P Q n r = P n r × Q n r

  read-both : (P Q : ℕ → Reading → Type 0) (left n at : ℕ) → EachReadFrom left w s P n at → EachReadFrom left w s Q n at → EachReadFrom left w s (Both P Q) n at
  read-both P Q zero n at h g = tt
  read-both P Q (suc left) n at h g = (
    (h.0, g.0),
    behind-map (next_read w s at) _ (EachReadFrom left w s (Both P Q) (suc n)) (λ next x. read-both P Q left (suc n) next x.0 x.1)
        (behind-both (next_read w s at) (EachReadFrom left w s P (suc n)) (EachReadFrom left w s Q (suc n)) h.1 g.1),
  )

  -- a read without a fault
  abbrev Read : ℕ → Reading → Type 0
  Read n r = none ≤ fault_of s n r

  more-tokens : (q : State) (n : ℕ) (x : Lexeme) → n ≡ length q.tokens → suc n ≡ length (q.tokens ++ (token_of w s q.tokens x ∷ []))
  more-tokens q n x e = omega (arith, length-append q.tokens (token_of w s q.tokens x ∷ []))

  faults-read : (left : ℕ) (q : State) (n : ℕ) → n ≡ length q.tokens → Clean (token_faults left w s q) → EachReadFrom left w s Read n q.at
  unfolding token_faults token_step
  faults-read zero q n e h = tt
  faults-read (suc left) q n e h =
      (subst (λ (m : ℕ). none ≤ fault_of s m (next_read w s q.at)) (sym e) h.0, behind (next_read w s q.at) (λ y m f c. faults-read left y m f c) h.1)
    where
      behind : (r : Reading) → ((y : State) (m : ℕ) → m ≡ length y.tokens → Clean (token_faults left w s y) → EachReadFrom left w s Read m y.at)
          → Clean (faults_behind (token_step w s q r) (λ (y : State). token_faults left w s y)) → Behind r (λ (next : ℕ). EachReadFrom left w s Read (suc n) next)
      behind (Ok None) g c = tt
      behind (Err (Lone p)) g c = tt
      behind (Err (Broken p)) g c = tt
      behind (Err (Open p)) g c = tt
      behind (Ok (Some x)) g c = g (state x.next (q.tokens ++ (token_of w s q.tokens x ∷ []))) (suc n) (more-tokens q n x e) c

  read-faults : (left : ℕ) (q : State) (n : ℕ) → n ≡ length q.tokens → EachReadFrom left w s Read n q.at → Clean (token_faults left w s q)
  unfolding token_faults token_step
  read-faults zero q n e h = tt
  read-faults (suc left) q n e h =
      (subst (λ (m : ℕ). none ≤ fault_of s m (next_read w s q.at)) e h.0, behind (next_read w s q.at) (λ y m f c. read-faults left y m f c) h.1)
    where
      behind : (r : Reading) → ((y : State) (m : ℕ) → m ≡ length y.tokens → EachReadFrom left w s Read m y.at → Clean (token_faults left w s y))
          → Behind r (λ (next : ℕ). EachReadFrom left w s Read (suc n) next) → Clean (faults_behind (token_step w s q r) (λ (y : State). token_faults left w s y))
      behind (Ok None) g c = tt
      behind (Err (Lone p)) g c = tt
      behind (Err (Broken p)) g c = tt
      behind (Err (Open p)) g c = tt
      behind (Ok (Some x)) g c = g (state x.next (q.tokens ++ (token_of w s q.tokens x ∷ []))) (suc n) (more-tokens q n x e) c

  -- rule by rule
  read-rules : (n : ℕ) (r : Reading) → none ≤ fault_of s n r → Clean (faults_of s n r)
  unfolding fault_of
  read-rules n r h = none-all (faults_of s n r) (omega (arith, least-none (faults_of s n r)))

  rules-read : (n : ℕ) (r : Reading) → Clean (faults_of s n r) → none ≤ fault_of s n r
  unfolding fault_of
  rules-read n r h = decided.all_none (faults_of s n r) h

  -- 2 to 6, and 14 for tokens
  pub record ReadsUnbroken : Type 0 where
    pub readable : EachRead w s (λ n r. Silent (lone_rule r))
    pub separated : EachRead w s (λ n r. Silent (follow_rule s r))
    pub escapes : EachRead w s (λ n r. Silent (escape_rule r))
    pub strings : EachRead w s (λ n r. Silent (open_rule r))
    pub integers : EachRead w s (λ n r. Silent (range_rule r))
    pub lengths : EachRead w s (λ n r. Silent (length_rule r))
    pub few_tokens : EachRead w s (λ n r. Silent (limit_rule n r))

  abbrev part : (Q : ℕ → Reading → Type 0) → ((n : ℕ) (r : Reading) → Clean (faults_of s n r) → Q n r) → EachRead w s Read → EachRead w s Q
  part Q f h = read-map Read Q (λ n r c. f n r (read-rules n r c)) (suc (length s)) 0 0 h

  pub clean-reads : Clean (lex_faults w s) → ReadsUnbroken
  unfolding lex_faults faults_of
  clean-reads c =
      let h : EachRead w s Read = faults-read (suc (length s)) (state 0 []) 0 refl c in
      record {
        readable = part (λ n r. Silent (lone_rule r)) (λ n r z. z.0) h;
        escapes = part (λ n r. Silent (escape_rule r)) (λ n r z. z.1.0) h;
        strings = part (λ n r. Silent (open_rule r)) (λ n r z. z.1.1.0) h;
        integers = part (λ n r. Silent (range_rule r)) (λ n r z. z.1.1.1.0) h;
        lengths = part (λ n r. Silent (length_rule r)) (λ n r z. z.1.1.1.1.0) h;
        few_tokens = part (λ n r. Silent (limit_rule n r)) (λ n r z. z.1.1.1.1.1.0) h;
        separated = part (λ n r. Silent (follow_rule s r)) (λ n r z. z.1.1.1.1.1.1.0) h;
      }

  abbrev A : ℕ → Reading → Type 0
  A n r = Silent (length_rule r) × (Silent (limit_rule n r) × Silent (follow_rule s r))

  abbrev B : ℕ → Reading → Type 0
  B n r = Silent (open_rule r) × (Silent (range_rule r) × A n r)

  abbrev C : ℕ → Reading → Type 0
  C n r = Silent (lone_rule r) × (Silent (escape_rule r) × B n r)

  pub reads-clean : ReadsUnbroken → Clean (lex_faults w s)
  unfolding lex_faults faults_of
  reads-clean u =
      let m : ℕ = suc (length s) in
      let a : EachRead w s A = read-both (λ n r. Silent (length_rule r)) (λ n r. Silent (limit_rule n r) × Silent (follow_rule s r)) m 0 0 u.lengths (read-both (λ n r. Silent (limit_rule n r)) (λ n r. Silent (follow_rule s r)) m 0 0 u.few_tokens u.separated) in
      let b : EachRead w s B = read-both (λ n r. Silent (open_rule r)) (λ n r. Silent (range_rule r) × A n r) m 0 0 u.strings (read-both (λ n r. Silent (range_rule r)) A m 0 0 u.integers a) in
      let c : EachRead w s C = read-both (λ n r. Silent (lone_rule r)) (λ n r. Silent (escape_rule r) × B n r) m 0 0 u.readable (read-both (λ n r. Silent (escape_rule r)) B m 0 0 u.escapes b) in
      read-faults m (state 0 []) 0 refl
      (read-map C Read (λ n r z. rules-read n r (z.0, (z.1.0, (z.1.1.0, (z.1.1.1.0, (z.1.1.1.1.0, (z.1.1.1.1.1.0, (z.1.1.1.1.1.1, tt)))))))) m 0 0 c)

-- ---- lines

pub each_map : (P Q : List Line → Line → Type 0) → ((before : List Line) (x : Line) → P before x → Q before x) → (before xs : List Line) → EachFrom P before xs → EachFrom Q before xs
each_map P Q f before [] h = tt
each_map P Q f before (x ∷ xs) h = (f before x h.0, each_map P Q f (x ∷ before) xs h.1)

pub each_both : (P Q : List Line → Line → Type 0) (before xs : List Line) → EachFrom P before xs → EachFrom Q before xs → EachFrom (λ b x. P b x × Q b x) before xs
each_both P Q before [] h g = tt
each_both P Q before (x ∷ xs) h g = ((h.0, g.0), each_both P Q (x ∷ before) xs h.1 g.1)

module _ (w : Width) (t : List ℕ) where
  pub record LinesUnbroken : Type 0 where
    pub shaped : EachLine t (Shaped w t)
    pub substitutes_known : EachLine t (SubstitutesKnown w t)
    pub names_free : EachLine t (NamesFree w t)
    pub placed : EachLine t (Placed w t)
    pub labelled : EachLine t (MayBeLabelled w t)
    pub labels_free : EachLine t (LabelsFree w t)
    pub not_left_out : EachLine t (NotLeftOut w t)
    pub imports_between : EachLine t (ImportBetween w t)
    pub no_frame_size : EachLine t (NoFrameSize w t)
    pub few_statements : EachLine t (FewStatements w t)
    pub few_labels : EachLine t (FewLabels w t)
    pub few_imports : EachLine t (FewImports w t)
    pub few_locals : EachLine t (FewLocals w t)
    pub few_blocks : EachLine t (FewBlocks w t)
    pub few_arguments : EachLine t (FewArguments w t)

  abbrev Fine : List Line → Line → Type 0
  Fine = LineFine w t

  pub fine-lines : EachLine t Fine → LinesUnbroken
  fine-lines h =
      record {
        shaped = each_map Fine (Shaped w t) (λ b x z. z.shaped) [] (lines_of t) h;
        substitutes_known = each_map Fine (SubstitutesKnown w t) (λ b x z. z.substitutes) [] (lines_of t) h;
        names_free = each_map Fine (NamesFree w t) (λ b x z. z.names) [] (lines_of t) h;
        placed = each_map Fine (Placed w t) (λ b x z. z.placed) [] (lines_of t) h;
        labelled = each_map Fine (MayBeLabelled w t) (λ b x z. z.labelled) [] (lines_of t) h;
        labels_free = each_map Fine (LabelsFree w t) (λ b x z. z.named) [] (lines_of t) h;
        not_left_out = each_map Fine (NotLeftOut w t) (λ b x z. z.kept) [] (lines_of t) h;
        imports_between = each_map Fine (ImportBetween w t) (λ b x z. z.between) [] (lines_of t) h;
        no_frame_size = each_map Fine (NoFrameSize w t) (λ b x z. z.sizes) [] (lines_of t) h;
        few_statements = each_map Fine (FewStatements w t) (λ b x z. z.statements) [] (lines_of t) h;
        few_labels = each_map Fine (FewLabels w t) (λ b x z. z.labels) [] (lines_of t) h;
        few_imports = each_map Fine (FewImports w t) (λ b x z. z.imports) [] (lines_of t) h;
        few_locals = each_map Fine (FewLocals w t) (λ b x z. z.locals) [] (lines_of t) h;
        few_blocks = each_map Fine (FewBlocks w t) (λ b x z. z.blocks) [] (lines_of t) h;
        few_arguments = each_map Fine (FewArguments w t) (λ b x z. z.arguments) [] (lines_of t) h;
      }

  -- all in one
  abbrev Two : (List Line → Line → Type 0) → (List Line → Line → Type 0) → List Line → Line → Type 0
  Two P Q b x = P b x × Q b x

  joined : (P Q : List Line → Line → Type 0) → EachLine t P → EachLine t Q → EachLine t (Two P Q)
  joined P Q h g = each_both P Q [] (lines_of t) h g

  abbrev Words : List Line → Line → Type 0
  Words = Two (Two (Shaped w t) (SubstitutesKnown w t)) (Two (NamesFree w t) (NoFrameSize w t))

  abbrev Kept : List Line → Line → Type 0
  Kept = Two (LabelsFree w t) (Two (NotLeftOut w t) (ImportBetween w t))

  abbrev Places : List Line → Line → Type 0
  Places = Two (Two (Placed w t) (MayBeLabelled w t)) Kept

  abbrev Labels : List Line → Line → Type 0
  Labels = Two (FewStatements w t) (Two (FewLabels w t) (FewImports w t))

  abbrev Counts : List Line → Line → Type 0
  Counts = Two Labels (Two (FewLocals w t) (Two (FewBlocks w t) (FewArguments w t)))

  pub lines_join : LinesUnbroken → EachLine t Fine
  lines_join u =
      let a : EachLine t Words = joined (Two (Shaped w t) (SubstitutesKnown w t)) (Two (NamesFree w t) (NoFrameSize w t)) (joined (Shaped w t) (SubstitutesKnown w t) u.shaped u.substitutes_known) (joined (NamesFree w t) (NoFrameSize w t) u.names_free u.no_frame_size) in
      let e : EachLine t Kept = joined (LabelsFree w t) (Two (NotLeftOut w t) (ImportBetween w t)) u.labels_free (joined (NotLeftOut w t) (ImportBetween w t) u.not_left_out u.imports_between) in
      let b : EachLine t Places = joined (Two (Placed w t) (MayBeLabelled w t)) Kept (joined (Placed w t) (MayBeLabelled w t) u.placed u.labelled) e in
      let d : EachLine t Labels = joined (FewStatements w t) (Two (FewLabels w t) (FewImports w t)) u.few_statements (joined (FewLabels w t) (FewImports w t) u.few_labels u.few_imports) in
      let c : EachLine t Counts = joined Labels (Two (FewLocals w t) (Two (FewBlocks w t) (FewArguments w t))) d (joined (FewLocals w t) (Two (FewBlocks w t) (FewArguments w t)) u.few_locals (joined (FewBlocks w t) (FewArguments w t) u.few_blocks u.few_arguments)) in
      each_map (Two Words (Two Places Counts)) Fine (λ b x z.
      record {
        shaped = z.0.0.0;
        substitutes = z.0.0.1;
        names = z.0.1.0;
        sizes = z.0.1.1;
        placed = z.1.0.0.0;
        labelled = z.1.0.0.1;
        named = z.1.0.1.0;
        kept = z.1.0.1.1.0;
        between = z.1.0.1.1.1;
        statements = z.1.1.0.0;
        labels = z.1.1.0.1.0;
        imports = z.1.1.0.1.1;
        locals = z.1.1.1.0;
        blocks = z.1.1.1.1.0;
        arguments = z.1.1.1.1.1;
      }) [] (lines_of t) (joined Words (Two Places Counts) a (joined Places Counts b c))
