-- The number of each reserved word, under its name; the operators stand last, from `add` to `xor`.
-- Assumes nothing.
use Rattle.std.specs.Prelude.{ℕ, List, [], ◌∷◌}

abbrev pub section : ℕ
section = 1

abbrev pub import : ℕ
import = 2

abbrev pub export : ℕ
export = 3

abbrev pub align : ℕ
align = 4

abbrev pub byte : ℕ
byte = 5

abbrev pub word : ℕ
word = 6

abbrev pub string : ℕ
string = 7

abbrev pub group : ℕ
group = 8

abbrev pub function : ℕ
function = 9

abbrev pub block : ℕ
block = 10

abbrev pub end : ℕ
end = 11

abbrev pub else : ℕ
else = 12

abbrev pub if : ℕ
if = 13

abbrev pub call : ℕ
call = 14

abbrev pub goto : ℕ
goto = 15

abbrev pub let_local : ℕ
let_local = 16

abbrev pub return : ℕ
return = 17

abbrev pub set : ℕ
set = 18

abbrev pub set_byte : ℕ
set_byte = 19

abbrev pub set_word : ℕ
set_word = 20

abbrev pub tail_call : ℕ
tail_call = 21

abbrev pub save_frame : ℕ
save_frame = 22

abbrev pub save_locals : ℕ
save_locals = 23

abbrev pub save_frame_and_locals : ℕ
save_frame_and_locals = 24

abbrev pub restore_frame : ℕ
restore_frame = 25

abbrev pub restore_locals : ℕ
restore_locals = 26

abbrev pub ifeq : ℕ
ifeq = 27

abbrev pub ifge : ℕ
ifge = 28

abbrev pub ifgt : ℕ
ifgt = 29

abbrev pub ifle : ℕ
ifle = 30

abbrev pub iflt : ℕ
iflt = 31

abbrev pub ifne : ℕ
ifne = 32

abbrev pub add : ℕ
add = 33

abbrev pub and : ℕ
and = 34

abbrev pub asr : ℕ
asr = 35

abbrev pub auto_bytes : ℕ
auto_bytes = 36

abbrev pub auto_words : ℕ
auto_words = 37

abbrev pub bsr : ℕ
bsr = 38

abbrev pub div : ℕ
div = 39

abbrev pub get_byte : ℕ
get_byte = 40

abbrev pub get_word : ℕ
get_word = 41

abbrev pub modulo : ℕ
modulo = 42

abbrev pub mul : ℕ
mul = 43

abbrev pub not : ℕ
not = 44

abbrev pub or : ℕ
or = 45

abbrev pub rol : ℕ
rol = 46

abbrev pub ror : ℕ
ror = 47

abbrev pub shl : ℕ
shl = 48

abbrev pub shr : ℕ
shr = 49

abbrev pub sub : ℕ
sub = 50

abbrev pub xor : ℕ
xor = 51

-- identifiers of sections, which are not reserved
abbrev pub data_section : ℕ
data_section = 52

abbrev pub functions_section : ℕ
functions_section = 53

abbrev pub code_section : ℕ
code_section = 54

-- the numbers of reserved words are below it
abbrev pub past_words : ℕ
past_words = data_section

-- all reserved words
unfoldable pub numbers : List ℕ
numbers =
    section ∷
    import ∷
    export ∷
    align ∷
    byte ∷
    word ∷
    string ∷
    group ∷
    function ∷
    block ∷
    end ∷
    else ∷
    if ∷
    call ∷
    goto ∷
    let_local ∷
    return ∷
    set ∷
    set_byte ∷
    set_word ∷
    tail_call ∷
    save_frame ∷
    save_locals ∷
    save_frame_and_locals ∷
    restore_frame ∷
    restore_locals ∷
    ifeq ∷
    ifge ∷
    ifgt ∷
    ifle ∷
    iflt ∷
    ifne ∷
    add ∷
    and ∷
    asr ∷
    auto_bytes ∷
    auto_words ∷
    bsr ∷
    div ∷
    get_byte ∷
    get_word ∷
    modulo ∷
    mul ∷
    not ∷
    or ∷
    rol ∷
    ror ∷
    shl ∷
    shr ∷
    sub ∷
    xor ∷
    []
