-- Record files: what the head of a record says, what its event answers, and its reply. Definitions only. Assumes nothing.
use Rattle.std.specs.Prelude.{ℕ, zero, suc, ◌+◌, ◌-◌, ◌≤◌, ◌≡◌, List, [], ◌∷◌, ◌++◌, cond, ltb, eqb, length, take, drop, get_or}
pub use Rattle.numbers.specs.Little.{word_at, le2}
use Rattle.terms.specs.declared.Refusal.{Refusal}
use Rattle.terms.specs.declared.Refusal.TheVariants.{Done, NoSuchKind, CutShort, BadLength, NoRoom}
use Rattle.terms.specs.Refusal.{number_of}
use Rattle.terms.specs.Limits.{most_payload, least_length}
use Rattle.chip.specs.State.{State}
use Rattle.chip.specs.State.{Answer}
use Rattle.chip.specs.Event.{Command as CommandEvent, Status as StatusEvent, Reset as ResetEvent, Acknowledge as AcknowledgeEvent}
use Rattle.chip.specs.State.{busy}
use Rattle.chip.specs.Step.{push_of, pop_of, read_of}
use Rattle.chip.specs.InTurn.{bytes_popped}
use Rattle.error_memory.specs.Event.{Chip, Recall as RecallEvent, Forget as ForgetEvent}
use Rattle.error_memory.specs.Memory.{Card, CardAnswer, card_answer, event_in}
use Rattle.record_files.specs.Run as files
use Rattle.terms.specs.declared.EventKind.{EventKind}
use Rattle.terms.specs.declared.EventKind.TheVariants.{Push as PushKind, Pop as PopKind, Command as CommandKind, Status as StatusKind}
use Rattle.terms.specs.declared.EventKind.TheVariants.{Reset as ResetKind, Acknowledge as AcknowledgeKind, Recall as RecallKind}
use Rattle.terms.specs.declared.EventKind.TheVariants.{Forget as ForgetKind, Unknown as UnknownKind}
use Rattle.terms.specs.Kind.{kind_named}
use Rattle.std.specs.Prelude.{Result, Ok, Err}

-- ---- the event of a record: bytes pushed, which are the payload; bytes popped, which go into the reply; a code; a read; a reset ..
pub data Event : Type 0 where
  Push : ℕ → Event
  Pop : ℕ → Event
  Command : ℕ → Event
  Status : Event
  Reset : Event
  Acknowledge : Event
  Recall : Event
  Forget : Event

-- what stands at the front of a file: a whole record with its event, or a refusal
pub data Head : Type 0 where
  Whole : Event → Head
  Stop : Refusal → Head

-- ---- 01's table, with 02's two kinds of the error memory: the kind, the bytes of the payload, the bytes of data in the reply
pub record Row : Type 0 where
  pub kind : ℕ
  pub payload : ℕ
  pub answered : ℕ

abbrev row : ℕ → ℕ → ℕ → Row
row kind payload answered = record { kind = kind; payload = payload; answered = answered }

abbrev pub row_of : Event → Row
row_of (Push n) = row 1 n 0
row_of (Pop n) = row 2 1 n
row_of (Command code) = row 3 1 0
row_of Status = row 4 0 1
row_of Reset = row 5 0 0
row_of Acknowledge = row 6 0 0
row_of Recall = row 7 0 2
row_of Forget = row 8 0 0

abbrev pub kind_of : Event → ℕ
kind_of e = (row_of e).kind

abbrev pub payload_of : Event → ℕ
payload_of e = (row_of e).payload

abbrev pub answered_of : Event → ℕ
answered_of e = (row_of e).answered

-- 01's number of a head: 0 for a whole record
abbrev pub head_number : Head → ℕ
head_number (Whole e) = 0
head_number (Stop r) = number_of r

-- ---- the head of a record

-- a payload of n bytes where another number is wanted is 7
abbrev pub exactly : ℕ → ℕ → Event → Head
exactly wanted n e = cond (eqb n wanted) (Whole e) (Stop BadLength)

-- a push of no bytes is 7; one of too many is over the length already
abbrev pub push_row : ℕ → Head
push_row n = cond (ltb n 1) (Stop BadLength) (Whole (Push n))

-- a pop whose payload is not one byte, or whose count is 0 or over the most, is 7
abbrev pub pop_row : ℕ → ℕ → ℕ → Head
pop_row most n count =
    cond (eqb n 1)
    (cond (ltb count 1) (Stop BadLength) (cond (ltb most count) (Stop BadLength) (Whole (Pop count))))
    (Stop BadLength)

-- what a record of a kind asks: the most bytes that one pushes or pops, the bytes of the payload, and the first of them
abbrev pub row_by : ℕ → EventKind → ℕ → ℕ → Head
row_by most PushKind n first = push_row n
row_by most PopKind n first = pop_row most n first
row_by most CommandKind n first = exactly 1 n (Command first)
row_by most StatusKind n first = exactly 0 n Status
row_by most ResetKind n first = exactly 0 n Reset
row_by most AcknowledgeKind n first = exactly 0 n Acknowledge
row_by most RecallKind n first = exactly 0 n Recall
row_by most ForgetKind n first = exactly 0 n Forget
row_by most UnknownKind n first = Stop NoSuchKind

-- and of a kind by its number
abbrev pub row_under : ℕ → ℕ → ℕ → ℕ → Head
row_under most kind n first = row_by most (kind_named kind) n first

-- the frame of a record at the front of a file: fewer than two bytes 6, length out of range 7, bytes missing 6, else the bytes of its payload
unfoldable pub frame_under : ℕ → List ℕ → Result ℕ Refusal
frame_under most l =
    cond (ltb (length l) 2) (Err CutShort)
    (cond (ltb (word_at l 0) least_length) (Err BadLength)
    (cond (ltb (least_length + most) (word_at l 0)) (Err BadLength)
    (cond (ltb (length l - 2) (word_at l 0)) (Err CutShort)
    (Ok (word_at l 0 - 2)))))

-- then kind 5 and payload 7
abbrev pub head_in : ℕ → List ℕ → Result ℕ Refusal → Head
head_in most l (Ok n) = row_under most (word_at l 2) n (get_or l 4 0)
head_in most l (Err r) = Stop r

abbrev pub head_under : ℕ → List ℕ → Head
head_under most l = head_in most l (frame_under most l)

-- under the limit of today
abbrev pub head_of : List ℕ → Head
head_of l = head_under most_payload l

-- the event of a record whose first payload byte is this: at least one byte is pushed or popped, and not too many; a code is that byte
abbrev pub Carried : ℕ → ℕ → Event → Type 0
Carried most first (Push n) = 1 ≤ n
Carried most first (Pop n) = (n ≡ first) × (1 ≤ n) × (n ≤ most)
Carried most first (Command code) = code ≡ first
Carried most first Status = Unit
Carried most first Reset = Unit
Carried most first Acknowledge = Unit
Carried most first Recall = Unit
Carried most first Forget = Unit

-- a whole record of this event, of at most so many bytes, stands at the front of a file
pub record Holds (most : ℕ) (l : List ℕ) (e : Event) : Type 0 where
  pub length-is : word_at l 0 ≡ 2 + payload_of e
  pub kind_is : word_at l 2 ≡ kind_of e
  pub there : 4 + payload_of e ≤ length l
  pub small : payload_of e ≤ most
  pub carried : Carried most (get_or l 4 0) e

-- ---- what an event does

-- the state as it stands, before a block of bytes
abbrev pub before : State → Answer
before s = record { refusal = Done; byte = 0; state = s }

-- bytes pushed in order, each as a single byte: the last answer
abbrev pub push_all : Answer → List ℕ → Answer
push_all a [] = a
push_all a (b ∷ bs) = push_all (push_of a.state b) bs

-- n bytes popped, each as a single byte: the last answer
abbrev pub pop_all : ℕ → Answer → Answer
pop_all zero a = a
pop_all (suc n) a = pop_all n (pop_of a.state)

-- the answer to an event with this payload; a block leaves what is remembered
abbrev pub answer_of : Card → List ℕ → Event → CardAnswer
answer_of c payload (Push n) = card_answer c.on c.memory (push_all (before c.chip) payload)
answer_of c payload (Pop n) = card_answer c.on c.memory (pop_all n (before c.chip))
answer_of c payload (Command code) = event_in c (Chip (CommandEvent code))
answer_of c payload Status = event_in c (Chip StatusEvent)
answer_of c payload Reset = event_in c (Chip ResetEvent)
answer_of c payload Acknowledge = event_in c (Chip AcknowledgeEvent)
answer_of c payload Recall = event_in c RecallEvent
answer_of c payload Forget = event_in c ForgetEvent

-- the code of the memory, behind its bits
abbrev pub code_read : Card → ℕ
code_read c = cond (busy c.chip) 0 c.memory.code

-- the data in its reply
abbrev pub data_of : Card → Event → List ℕ
data_of c (Push n) = []
data_of c (Pop n) = bytes_popped n c.chip
data_of c (Command code) = []
data_of c Status = (read_of c.chip).byte ∷ []
data_of c Reset = []
data_of c Acknowledge = []
data_of c Recall = (event_in c RecallEvent).byte ∷ code_read c ∷ []
data_of c Forget = []

-- a reply: length and kind + 128 laid out as in a record, the refusal, the data
abbrev pub reply_of : ℕ → ℕ → List ℕ → List ℕ
reply_of kind refusal bytes = le2 (3 + length bytes) ++ (le2 (kind + 128) ++ (refusal ∷ bytes))

-- ---- what becomes of the record at the front of a file

-- the refusal that stops the run, or 0; the card; the bytes of the record; its reply
abbrev pub Turned : Type 0
Turned = files.Outcome Card

-- nothing of the record is done
abbrev pub stopped : Refusal → Card → Turned
stopped r c = files.ended (number_of r) c

-- the answer makes the card and the reply
abbrev pub worked : Card → Event → CardAnswer → Turned
worked c e a = record {
  refusal = 0;
  state = a.card;
  taken = 4 + payload_of e;
  written = reply_of (kind_of e) (number_of a.refusal) (data_of c e);
}

-- with so much room for the reply: 8 where it does not fit, else the event is done with the payload
abbrev pub turn_by : Card → List ℕ → ℕ → Head → Turned
turn_by c l room (Stop r) = stopped r c
turn_by c l room (Whole e) =
    cond (ltb room (5 + answered_of e)) (stopped NoRoom c) (worked c e (answer_of c (take (payload_of e) (drop 4 l)) e))

-- the record step, where a record pushes or pops at most so many bytes
unfoldable pub turn_under : ℕ → Card → List ℕ → ℕ → Turned
turn_under most c l room = turn_by c l room (head_under most l)

-- under the limit of today
abbrev pub turn_of : Card → List ℕ → ℕ → Turned
turn_of = turn_under most_payload
