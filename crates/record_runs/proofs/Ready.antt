-- A run keeps a card whose state 13 does not turn away: every event of a record leaves such a card and answers 0 to 4. Assumes nothing.
use mathlib.Core.Path.{sym, subst}
use mathlib.Core.List.{List, [], ◌∷◌}
use Prim.Native.Nat.{ℕ, zero, suc, ◌≤◌, ◌<◌, zero-le}
use borrow.Author.Tests.{lt-leb}
use lib.Dec.{lit≤}
use lib.ListN.{take, drop}
use Rattle.stack.specs.Stack.{Bytes}
use Rattle.stack.proofs.Words.{bytes_take, bytes_drop}
use Rattle.chip.specs.State.{Answer}
use Rattle.chip.specs.Event.{Command as CommandEvent, Status as StatusEvent, Reset as ResetEvent, Acknowledge as AcknowledgeEvent}
use Rattle.chip.specs.Step.{push_of, pop_of}
use Rattle.chip.proofs.InTurn.{push_done, pop_done}
use Rattle.chip.proofs.Ready.{Ready, Fair, push_fair, pop_fair, read_fair, reset_fair, acknowledge_fair, command_fair}
use Rattle.error_memory.specs.Event.{Chip, Recall as RecallEvent, Forget as ForgetEvent}
use Rattle.error_memory.specs.Memory.{Card, card_answer}
use Rattle.error_memory.proofs.Good.{ReadyCard, FairCard, event_fair as card-fair}
use Rattle.record_files.proofs.Through.{through}
use Rattle.record_runs.specs.Record.{Event}
use Rattle.record_runs.specs.Record.{Push, Pop, Command, Status, Reset, Acknowledge, Recall, Forget}
use Rattle.record_runs.specs.Record.{payload_of, before, push_all, pop_all, answer_of, turn_of}
use Rattle.record_runs.specs.Run.{run_of}
use Rattle.record_runs.proofs.Steps.{steps}
use Rattle.record_runs.proofs.Prefix.{lawful}

-- blocks
push_all_fair : (p : List ℕ) (a : Answer) → Bytes p → Fair a → Fair (push_all a p)
push_all_fair [] a h f = f
push_all_fair (b ∷ bs) a h f = push_all_fair bs (push_of a.state b) h.1 (push_fair a.state f.left b h.0)

pop_all_fair : (n : ℕ) (a : Answer) → Fair a → Fair (pop_all n a)
pop_all_fair zero a f = f
pop_all_fair (suc n) a f = pop_all_fair n (pop_of a.state) (pop_fair a.state f.left)

-- ---- every event
block_fair : (c : Card) (a : Answer) → ReadyCard c → Fair a → FairCard (card_answer c.on c.memory a)
block_fair c a r f = record { left = record { chip = f.left; memory = r.memory }; small = f.small }

pub event_fair : (c : Card) (p : List ℕ) (e : Event) → ReadyCard c → Bytes p → FairCard (answer_of c p e)
event_fair c p (Push n) r h = block_fair c (push_all (before c.chip) p) r (push_all_fair p (before c.chip) h (record { left = r.chip; small = lit≤ tt }))
event_fair c p (Pop n) r h = block_fair c (pop_all n (before c.chip)) r (pop_all_fair n (before c.chip) (record { left = r.chip; small = lit≤ tt }))
event_fair c p (Command code) r h = card-fair c (Chip (CommandEvent code)) r tt
event_fair c p Status r h = card-fair c (Chip StatusEvent) r tt
event_fair c p Reset r h = card-fair c (Chip ResetEvent) r tt
event_fair c p Acknowledge r h = card-fair c (Chip AcknowledgeEvent) r tt
event_fair c p Recall r h = card-fair c RecallEvent r tt
event_fair c p Forget r h = card-fair c ForgetEvent r tt

-- ---- a card whose state is not busy, whatever it remembers, stays one
calm_pops : (n : ℕ) (a : Answer) → a.state.status < 128 → (pop_all n a).state.status < 128
calm_pops zero a h = h
calm_pops (suc n) a h = calm_pops n (pop_of a.state) (subst (λ (x : Answer). x.state.status < 128) (sym (pop_done a.state h)) h)

calm_pushes : (p : List ℕ) (a : Answer) → a.state.status < 128 → (push_all a p).state.status < 128
calm_pushes [] a h = h
calm_pushes (b ∷ bs) a h = calm_pushes bs (push_of a.state b) (subst (λ (x : Answer). x.state.status < 128) (sym (push_done a.state b h)) h)

calm_event : (c : Card) (p : List ℕ) (e : Event) → Ready c.chip → (answer_of c p e).card.chip.status < 128
calm_event c p (Push n) r = calm_pushes p (before c.chip) r.ready
calm_event c p (Pop n) r = calm_pops n (before c.chip) r.ready
calm_event c p (Command code) r = (command_fair c.on.rule c.chip code r).left.ready
calm_event c p Status r = (read_fair c.chip r).left.ready
calm_event c p Reset r = (reset_fair c.chip r c.on.mode).left.ready
calm_event c p Acknowledge r = (acknowledge_fair c.chip r).left.ready
calm_event c p Recall r = rw (lt-leb 128 c.chip.status r.ready) r.ready
calm_event c p Forget r = rw (lt-leb 128 c.chip.status r.ready) r.ready

pub calm_turn : (c : Card) (l : List ℕ) (room : ℕ) → Ready c.chip → (turn_of c l room).state.chip.status < 128
calm_turn c l room r = steps (λ t. t.state.chip.status < 128) c l room (λ q a b. r.ready) (λ e h g. calm_event c (take (payload_of e) (drop 4 l)) e r)

-- ---- every turn, every run
turn_ready : (c : Card) (l : List ℕ) (room : ℕ) → ReadyCard c → Bytes l → ReadyCard (turn_of c l room).state
turn_ready c l room r h =
    steps (λ t. ReadyCard t.state) c l room (λ q a b. r)
    (λ e x g. (event_fair c (take (payload_of e) (drop 4 l)) e r (bytes_take (payload_of e) (drop 4 l) (bytes_drop 4 l h))).left)

pub run_ready : (c : Card) (l : List ℕ) (room : ℕ) → ReadyCard c → Bytes l → ReadyCard (run_of c l room).state
run_ready =
    through lawful (λ c l room o. ReadyCard c → Bytes l → ReadyCard o.state) (λ c room r h. r) (λ c l room p z r h. r)
    (λ c l room p z more r h. more (turn_ready c l room r h) (bytes_drop (turn_of c l room).taken l h))

-- ---- a run ends with 0, or with 5 to 8
pub run_small : (c : Card) (l : List ℕ) (room : ℕ) → (run_of c l room).refusal ≤ 8
run_small = through lawful (λ c l room o. o.refusal ≤ 8) (λ c room. zero-le) (λ c l room p z. (lawful.stops c l room z).0.1) (λ c l room p z more. more)
