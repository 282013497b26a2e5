-- Buffers of a case: parts of them, what stands twice in them, and bytes that a line stores.
-- Assumes nothing.
use Rattle.std.specs.Prelude.{ℕ, suc, ◌+◌, Bool, false, List, length, drop, nat_lt, slice_index, slice_set}
use Rattle.base_prelude.specs.Choice.{if_lt, if_eq}
use Rattle.base_prelude.specs.Walk.{Step, go, stop, walk}
use Rattle.test_text.specs.Fields.{count_fields}
use Rattle.test_text.specs.Numbers.{field_value}

-- the lesser of two numbers
unfoldable pub lesser_of : ℕ → ℕ → ℕ
lesser_of n most = if_lt most n most n

-- what stands behind the first n elements; all where there are fewer
unfoldable pub behind_of : {X : Type 0} → ℕ → List X → List X
behind_of n t = if_lt (length t) n t (drop n t)

unfoldable pub changed_step : ℕ → List ℕ → ℕ → ℕ → Step ℕ ℕ
changed_step size k n i =
    if_lt i n (if_lt i size (if_eq (slice_index k i) (slice_index k (i + size)) (go (i + 1)) (stop i)) (stop n)) (stop n)

-- the first of the first n elements that differs from the one so many places behind it, or n
unfoldable pub changed_in : ℕ → List ℕ → ℕ → ℕ
changed_in size k n = walk (changed_step size k n) n (suc n) 0

-- whether bytes were stored, and the memory
abbrev pub Stored : Type 0
Stored = record { done : Bool; memory : List ℕ }

abbrev pub stored : Bool → List ℕ → Stored
stored done memory = record { done = done; memory = memory }

-- the next place, the next field, the memory
abbrev pub Storing : Type 0
Storing = record { at : ℕ; field : ℕ; memory : List ℕ }

abbrev pub storing : ℕ → ℕ → List ℕ → Storing
storing at field memory = record { at = at; field = field; memory = memory }

unfoldable pub store_step : List ℕ → ℕ → ℕ → ℕ → Storing → Step Storing Stored
store_step l fields at n q =
    if_lt q.field fields
    (if_lt q.at n
    (if_lt q.at 65537
    (if_lt 255 (field_value l q.field) (stop (stored false q.memory))
    (go (storing (q.at + 1) (q.field + 1) (slice_set q.memory q.at (field_value l q.field)))))
    (stop (stored false q.memory)))
    (stop (stored false q.memory)))
    (stop (stored (nat_lt at q.at) q.memory))

-- the bytes of a line from a place on, into n bytes of memory; whether it has some and all fit
unfoldable pub bytes_stored : List ℕ → ℕ → ℕ → List ℕ → Stored
bytes_stored l at n memory =
    walk (store_step l (count_fields l) at n) (stored false memory) (suc (count_fields l)) (storing at 2 memory)
