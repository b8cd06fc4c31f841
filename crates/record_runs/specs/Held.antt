-- How the program holds a run: its place, and what its record step and its run say of their definitions. Definitions only. Assumes nothing.
use Rattle.std.specs.Prelude.{ℕ, ◌+◌, ◌≤◌, ◌<◌, ◌≡◌, List, [], ◌++◌, Bool, cond, ltb, length, take, drop, get_or}
use Rattle.terms.specs.declared.Refusal.{Refusal}
use Rattle.terms.specs.declared.Refusal.TheVariants.{Done, BadLength, NoRoom}
use Rattle.terms.specs.declared.Mode.{Mode}
use Rattle.terms.specs.declared.Rule.{Rule}
use Rattle.terms.specs.Refusal.{number_of}
use Rattle.terms.specs.Limits.{most_payload, most_input}
use Rattle.terms.specs.declared.Settings.{Settings}
use Rattle.chip.specs.declared.State.{State}
use Rattle.chip.specs.Step.{given}
use Rattle.error_memory.specs.declared.Memory.{Memory}
use Rattle.error_memory.specs.declared.Card.{Card}
use Rattle.error_memory.specs.Memory.{Card as CardOf}
use Rattle.error_memory.specs.Held.{card_under}
use Rattle.record_files.specs.Run.{Outcome}
use Rattle.terms.specs.declared.EventKind.{EventKind}
use Rattle.record_runs.specs.declared.step.Pass.{Pass}
use Rattle.record_runs.specs.declared.step.Place.{Place}
use Rattle.record_runs.specs.Record.{Event, Head, kind_of, payload_of, answered_of, exactly, row_by, answer_of, data_of, turn_by}

-- room over this is as good as this: a reply has at most 245 bytes, for each byte of an input
abbrev pub most_replies : ℕ
most_replies = 3010560

abbrev pub counted_in : ℕ → ℕ
counted_in room = cond (ltb room most_replies) room most_replies

-- the place before the first record, and the place after a record of n bytes with a reply of m
abbrev pub at_start : ℕ → ℕ → Place
at_start size room = record { taken = 0; size = size; written = 0; most = counted_in room }

abbrev pub further : Place → ℕ → ℕ → Place
further p n m = record { taken = p.taken + n; size = p.size; written = p.written + m; most = p.most }

-- a place with so many bytes of the file behind it
abbrev pub Begins : Place → ℕ → Type 0
Begins p rest = (p.taken + rest ≡ p.size) × (p.size ≤ most_input)

-- a place with so much room behind it: for a reply the place says so, whether all of the room is counted or as much as is as good
pub record Stands (p : Place) (room : ℕ) : Type 0 where
  pub early : p.taken ≤ most_input
  pub low : p.written ≤ most_replies
  pub none : (k : ℕ) → k ≤ 5 + most_payload → p.most < p.written + k → room < k
  pub some : (k : ℕ) → k ≤ 5 + most_payload → p.written + k ≤ p.most → k ≤ room

-- whether a record is done: 7 where its payload is not right, then 8 where a reply of so many bytes has no room
abbrev pub ready_at : Bool → Place → ℕ → Refusal
ready_at right p m = cond right (cond (ltb p.most (p.written + m)) NoRoom Done) BadLength

-- nothing of a record is done; a record is done
abbrev pub unchanged : Refusal → Card → Place → Pass
unchanged r c p = record { card = c; refusal = number_of r; place = p }

abbrev pub finished : State → Memory → Place → Pass
finished s m p = record { card = record { chip = s; memory = m }; refusal = 0; place = p }

-- what the code did with a record, or with a file: the place, the card and the room that it was given, what it returned, the room that it left
pub record Work : Type 0 where
  pub place : Place
  pub card : Card
  pub room : List ℕ
  pub pass : Pass
  pub left : List ℕ

-- it did what the definition says, where a card is read as a state of it
pub record Passed {S : Type 0} (read : Card → S) (t : Outcome S) (w : Work) : Type 0 where
  pub place_is : w.pass.place ≡ further w.place t.taken (length t.written)
  pub refusal_is : w.pass.refusal ≡ t.refusal
  pub state_is : read w.pass.card ≡ t.state
  pub left_is : w.left ≡ t.written ++ drop (length t.written) w.room
  pub fits : length t.written ≤ length w.room

-- the turn of a record whose head is this, under these settings
abbrev pub PassesHead : Settings → List ℕ → Head → Work → Type 0
PassesHead on file h w = Passed (card_under on) (turn_by (card_under on w.card) file (length w.room) h) w

-- the turn of a record of this kind with this payload, whatever file it stands in front of
abbrev pub Passes : Settings → EventKind → List ℕ → Work → Type 0
Passes on kind payload w =
    (file : List ℕ) → take (length payload) (drop 4 file) ≡ payload → PassesHead on file (row_by most_payload kind (length payload) (get_or payload 0 0)) w

-- and whatever the mode, or both settings
abbrev pub PassesByRule : Rule → EventKind → List ℕ → Work → Type 0
PassesByRule rule kind payload w = (mode : Mode) → Passes (given mode rule) kind payload w

abbrev pub PassesAll : EventKind → List ℕ → Work → Type 0
PassesAll kind payload w = (on : Settings) → Passes on kind payload w

-- an event that asks no payload and answers no data, with a reply of this kind, leaves a card so
pub record Leaves (c after : CardOf) (kind : ℕ) (e : Event) : Type 0 where
  pub no_payload : payload_of e ≡ 0
  pub no_data : (answered_of e ≡ 0) × (data_of c e ≡ [])
  pub kind_is : kind ≡ kind_of e + 128
  pub card_is : (bytes : List ℕ) → after ≡ (answer_of c bytes e).card
  pub done_is : (bytes : List ℕ) → 0 ≡ number_of (answer_of c bytes e).refusal

-- the turn of a record of such an event, with a payload of n bytes
abbrev pub PassesBare : Card → ℕ → ℕ → Work → Type 0
PassesBare after kind n w =
    (on : Settings) (e : Event) → Leaves (card_under on w.card) (card_under on after) kind e → (file : List ℕ) → PassesHead on file (exactly 0 n e) w
