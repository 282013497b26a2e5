-- Frames on the stack: the words of a new one, and the way out of those that a return leaves.
-- Assumes nothing.
use Rattle.std.specs.Prelude.{ℕ, zero, suc, ◌+◌, ◌-◌, Bool, true, false, List, [], ◌∷◌, ◌++◌, ltb, leb, eqb, get_or, length, replicate}
use Rattle.base_prelude.specs.Choice.{if_true}
use Rattle.base_limits.specs.declared.Width.{Width}
use Rattle.base_limits.specs.Record.{mark}
use Rattle.lang_kinds.specs.Kinds as kind
use Rattle.prog_tables.specs.Layout.{frame_head}
use Rattle.prog_tables.specs.Tests.{both, one_of}
use Rattle.prog_tables.specs.Statement.{Row, has_expression, is_import, is_call_expression}
use Rattle.prog_tables.specs.Faults.{in_function, size_at}
use Rattle.vm_definitions.specs.Access.{as_word}
use Rattle.vm_definitions.specs.declared.Resumption.{Resumption}
use Rattle.vm_definitions.specs.declared.Resumption.TheVariants.{Ends, Caller}

-- "Frame words: place to return to, start of the caller's frame [..], auto top at entry, parameters, [..] Entering a function zeroes the words after
-- the parameters"; the first three are numbers made words
unfoldable pub frame_words : Width → ℕ → ℕ → ℕ → List ℕ → ℕ → List ℕ
frame_words w call frame top xs size = as_word w call ∷ as_word w frame ∷ as_word w top ∷ xs ++ replicate (size - (frame_head + length xs)) 0

-- ---- the words of a frame that starts at s

abbrev pub returns_to : List ℕ → ℕ → ℕ
returns_to st s = get_or st s 0

abbrev pub caller_frame : List ℕ → ℕ → ℕ
caller_frame st s = get_or st (s + 1) 0

abbrev pub top_at_entry : List ℕ → ℕ → ℕ
top_at_entry st s = get_or st (s + 2) 0

-- the first frame: "both 4294967295"
unfoldable pub is_first : Width → List ℕ → ℕ → Bool
is_first w st s = both (eqb s 0) (both (eqb (returns_to st s) (mark w)) (eqb (caller_frame st s) (mark w)))

-- ---- rows that call and return

-- "`return call`"
unfoldable pub is_return_call : Row → Bool
is_return_call r = both (eqb r.kind kind.return) (is_call_expression r.expr)

-- "a `return` without `call`, or `end function`"
unfoldable pub is_return : Row → Bool
is_return r = one_of (eqb r.kind kind.end_function) (both (eqb r.kind kind.return) (if_true (is_call_expression r.expr) false true))

-- "A call in any form", of a function or an imported one: not the tail call, to which nothing returns
unfoldable pub is_calling : Row → Bool
is_calling r = one_of (eqb r.kind kind.call) (both (has_expression r.kind) (is_call_expression r.expr))

-- a call or tail call to an imported function
abbrev pub importing : Row → Bool
importing r = is_import r.kind r.expr

-- `tail-call` or `return call` to an imported function: what the host hands in is returned
unfoldable pub returns_import : Row → Bool
returns_import r = both (importing r) (one_of (eqb r.kind kind.tail_call) (eqb r.kind kind.return))

-- a statement that leaves its frame: a return, or one that returns what the host hands in
unfoldable pub leaves_frame : Row → Bool
leaves_frame r = one_of (is_return r) (returns_import r)

-- ---- the way out

-- "a place to return to that is no call or a caller's frame that doesn't end where this one starts", turned round: f the view of c
-- rows
unfoldable pub called_from : (ℕ → Row) → ℕ → List ℕ → ℕ → Bool
called_from f c st s =
    both (ltb (returns_to st s) c)
    (both (in_function f c (returns_to st s))
    (both (is_calling (f (returns_to st s))) (eqb (caller_frame st s + size_at f c (returns_to st s)) s)))

-- "the first's two marks aside"
unfoldable pub head_good : Width → (ℕ → Row) → ℕ → List ℕ → ℕ → Bool
head_good w f c st s = one_of (is_first w st s) (called_from f c st s)

-- a return goes on to leave the caller's frame too
unfoldable pub passes_on : Width → (ℕ → Row) → ℕ → List ℕ → ℕ → Bool
passes_on w f c st s = if_true (is_first w st s) false (both (called_from f c st s) (is_return_call (f (returns_to st s))))

-- the heads and auto tops of all frames that a return from the frame at s leaves are good; m bytes of memory, at most `fuel` frames
unfoldable pub leaves_good : Width → (ℕ → Row) → ℕ → ℕ → List ℕ → ℕ → ℕ → Bool
leaves_good w f c m st zero s = false
leaves_good w f c m st (suc fuel) s =
    both (head_good w f c st s)
    (both (leb (top_at_entry st s) m)
    (if_true (passes_on w f c st s) (leaves_good w f c m st fuel (caller_frame st s)) true))

-- the heads alone
unfoldable pub heads_left : Width → (ℕ → Row) → ℕ → List ℕ → ℕ → ℕ → Bool
heads_left w f c st zero s = false
heads_left w f c st (suc fuel) s =
    both (head_good w f c st s) (if_true (passes_on w f c st s) (heads_left w f c st fuel (caller_frame st s)) true)

-- the auto tops of entry alone
unfoldable pub tops_left : Width → (ℕ → Row) → ℕ → ℕ → List ℕ → ℕ → ℕ → Bool
tops_left w f c m st zero s = true
tops_left w f c m st (suc fuel) s =
    both (leb (top_at_entry st s) m) (if_true (passes_on w f c st s) (tops_left w f c m st fuel (caller_frame st s)) true)

-- the rows that such a return uses: each place to return to, with its function
unfoldable pub rows_left : Width → (ℕ → Row) → ℕ → List ℕ → ℕ → ℕ → List ℕ
rows_left w f c st zero s = []
rows_left w f c st (suc fuel) s =
    if_true (is_first w st s) []
    (if_true (called_from f c st s)
    (returns_to st s ∷ (f (returns_to st s)).func ∷ if_true (is_return_call (f (returns_to st s))) (rows_left w f c st fuel (caller_frame st s)) [])
    [])

-- where it comes out: "`return call` returns it too"
unfoldable pub resumption_of : Width → (ℕ → Row) → ℕ → List ℕ → ℕ → ℕ → Resumption
resumption_of w f c st zero s = Ends (top_at_entry st s)
resumption_of w f c st (suc fuel) s =
    if_true (is_first w st s) (Ends (top_at_entry st s))
    (if_true (passes_on w f c st s) (resumption_of w f c st fuel (caller_frame st s))
    (Caller (returns_to st s) (caller_frame st s) s (top_at_entry st s)))
