-- The words of a statement row. docs/TABLES.md says each.
-- Assumes nothing.
use Rattle.std.specs.Prelude.{ℕ}

abbrev pub kind : ℕ
kind = 0

-- the row of its function
abbrev pub func : ℕ
func = 1

-- the row of its frame
abbrev pub scope : ℕ
scope = 2

-- what is open around it
abbrev pub up : ℕ
up = 3

-- target, destination word, word of the saved auto top, or frame size
abbrev pub a : ℕ
a = 4

-- parameters, or own lets
abbrev pub b : ℕ
b = 5

-- the expression kind
abbrev pub expr : ℕ
expr = 6

abbrev pub callee : ℕ
callee = 7

-- of operands or arguments
abbrev pub count : ℕ
count = 8

-- kind and number of the operand behind the `@` of `set @`
abbrev pub address : ℕ
address = 9

-- kind and number of each operand
abbrev pub operands : ℕ
operands = 11

abbrev pub second : ℕ
second = 13

abbrev pub third : ℕ
third = 15

abbrev pub fourth : ℕ
fourth = 17

abbrev pub fifth : ℕ
fifth = 19

abbrev pub sixth : ℕ
sixth = 21

abbrev pub seventh : ℕ
seventh = 23

abbrev pub eighth : ℕ
eighth = 25

-- in a skeleton row, in the place of the address: the statement's first token, and the token behind its line
abbrev pub token : ℕ
token = 9

abbrev pub next : ℕ
next = 10
