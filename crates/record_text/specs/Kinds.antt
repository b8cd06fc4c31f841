-- The kinds of records: 01's, 02's for the error memory and for module sheets; the number and the name of each, and what stands behind the name.
-- Definitions only. Assumes nothing.
use Rattle.std.specs.Prelude.{ℕ, ◌+◌, ◌-◌, cond, List, [], ◌∷◌, eqb, ltb}
use Prim.Native.String.{String}
use Rattle.record_text.specs.Letters.{written}
use Rattle.record_text.specs.declared.kinds.Form.{Form}
use Rattle.record_text.specs.declared.kinds.Form.TheVariants.{Bytes, Number, Code, Alone, Unknown as Formless}

pub data Kind : Type 0 where
  Push Pop Command Status Reset Acknowledge Recall Forget Open Keep Close Unknown : Kind

-- what a kind has: its number in a record's second word, its name in a text, what stands behind the name (bytes and words, a number, a code, nothing)
pub record KindEntry : Type 0 where
  pub number : ℕ
  pub name : List ℕ
  pub form : Form

abbrev pub entry : ℕ → String → Form → KindEntry
entry number name form = record { number = number; name = written name; form = form }

-- a command of document 001 has a name of its own beside that of its kind
abbrev pub kind_entry : Kind → KindEntry
kind_entry Push = entry 1 "push" Bytes
kind_entry Pop = entry 2 "pop" Number
kind_entry Command = entry 3 "command" Code
kind_entry Status = entry 4 "status" Alone
kind_entry Reset = entry 5 "reset" Alone
kind_entry Acknowledge = entry 6 "acknowledge" Alone
kind_entry Recall = entry 7 "recall" Alone
kind_entry Forget = entry 8 "forget" Alone
kind_entry Open = entry 256 "open" Number
kind_entry Keep = entry 257 "keep" Number
kind_entry Close = entry 258 "close" Alone
kind_entry Unknown = record { number = 0; name = []; form = Formless }

abbrev pub kind_number : Kind → ℕ
kind_number kind = (kind_entry kind).number

abbrev pub kind_name : Kind → List ℕ
kind_name kind = (kind_entry kind).name

abbrev pub form_of : Kind → Form
form_of kind = (kind_entry kind).form

-- the first of some kinds with a number
abbrev pub kind_in : List Kind → ℕ → Kind
kind_in [] number = Unknown
kind_in (kind ∷ kinds) number = cond (eqb number (kind_number kind)) kind (kind_in kinds number)

-- the kind of a number
abbrev pub numbered_kind : ℕ → Kind
numbered_kind number =
    kind_in (Push ∷ Pop ∷ Command ∷ Status ∷ Reset ∷ Acknowledge ∷ Recall ∷ Forget ∷ Open ∷ Keep ∷ Close ∷ []) number

-- ---- the names in turn: those of the codes 0 to 127, then those of the kinds 1 to 8 and 256 to 258

-- the number of the kind whose name stands at a place, and the kind
abbrev pub number_at : ℕ → ℕ
number_at place = cond (ltb place 136) (place - 127) (place + 120)

abbrev pub kind_at : ℕ → Kind
kind_at place = numbered_kind (number_at place)

-- no name stands there
abbrev pub no_place : ℕ
no_place = 139
