-- The limits that document 01 sets, each under a name. Definitions only. Assumes nothing.
use Rattle.std.specs.Prelude.{ℕ}

-- the bytes of the stack
abbrev pub stack_bytes : ℕ
stack_bytes = 16

-- the bytes of a stored state: stack, pending, status, service
abbrev pub state_bytes : ℕ
state_bytes = 19

-- the bytes of a stored state with its error memory: the bits and the code behind the service line
abbrev pub long_state_bytes : ℕ
long_state_bytes = 21

-- the bytes of a report: the refusal and two counts of four bytes
abbrev pub report_bytes : ℕ
report_bytes = 9

-- the most bytes that an input may have
abbrev pub most_input : ℕ
most_input = 12288

-- the most bytes that one record pushes or pops
abbrev pub most_payload : ℕ
most_payload = 240

-- the least and the most that a record's length may say: the kind alone, and the kind with the longest payload
abbrev pub least_length : ℕ
least_length = 2

abbrev pub most_length : ℕ
most_length = 242
