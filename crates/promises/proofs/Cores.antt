-- A core that meets the promises, driven event by event, is the card by value: a good state's bytes are read back as that card, each event's contract gives
-- the card's answer, and every answer leaves a good card. Assumes nothing.
use mathlib.Core.Path.{◌≡◌, refl, sym, ap, ap₂, ◌∙◌, subst, subst₂}
use mathlib.Core.Logic.{◌⊎◌, inl, inr, ⊎_elim}
use mathlib.Core.Bool.{Bool, true, false, ◌&&◌, cond}
use mathlib.Core.List.{List, [], ◌∷◌, ◌++◌}
use Prim.Native.Nat.{ℕ, zero, suc, ◌+◌, ◌*◌, ◌/◌, ◌^◌, ◌<◌}
use native.Mathlib.Nat.{mod-lt}
use native.Mathlib.Omega.{arith}
use borrow.Author.Tests.{lt-leb, eq-eqb, eqb-true}
use lib.Dec.{eqb, lit<}
use lib.ListN.{length, take, get_or}
use Rattle.terms.specs.declared.Settings.{Settings}
use Rattle.terms.specs.declared.Refusal.{Refusal}
use Rattle.terms.specs.declared.Refusal.TheVariants.{BadState}
use Rattle.terms.specs.Refusal.{number_of}
use Rattle.stack.specs.Stack.{Bytes, number_from, bytes_of, pushed}
use Rattle.stack.proofs.Words.{number_bytes}
use Rattle.chip.specs.State.{State}
use Rattle.chip.specs.State.{Answer}
use Rattle.chip.specs.Event.{Event as ChipEvent}
use Rattle.chip.specs.Event.{Push, Pop, Command, Status, Reset, Acknowledge}
use Rattle.chip.specs.State.{busy, moved}
use Rattle.chip.specs.Status.{error_of}
use Rattle.chip.specs.Step.{done, refused, push_of, command_under, answer_to}
use Rattle.promises.specs.BusEvents.{answered, pushes_of, leaves_clear, quiet}
use Rattle.chip.proofs.Rows.{both_of_lem}
use Rattle.record_files.proofs.Tests.{either_eq}
use Rattle.error_memory.specs.Event.{Event}
use Rattle.error_memory.specs.Event.{Chip, Recall, Forget}
use Rattle.error_memory.specs.Memory.{empty_memory, Card, CardAnswer, card_with, event_in}
use Rattle.promises.specs.Remembered.{after_all}
use Rattle.error_memory.proofs.Kept.{settings_stay, event_alike, refused_leaves}
use Rattle.promises.proofs.Remembered.{chip_alone}
use Rattle.error_memory.proofs.Good.{ReadyCard, event_fair, Sendable as Sends}
use Rattle.state_bytes.specs.Bytes.{is_state, state_of, card_in, laid_out}
use Rattle.state_bytes.proofs.Cards.{behind, laid_is, card_returns, card_ready, laid_at_lem, laid_length, card_short, card_long, laid_state, laid_bytes}
use Rattle.state_bytes.proofs.States.{state_ready}
use Rattle.state_bytes.specs.Calls.{Signal, signal_by, signal_under, answer_to_kind, joined_of}
use Rattle.state_bytes.proofs.Calling.{event_chosen}
use Rattle.promises.proofs.Measures.{ours_state, theirs_state}
use Rattle.promises.specs.Given.{Given, Chosen, settings_in, event_call}
use Rattle.promises.specs.Chains.{Step, Add, Subtract, Multiply, Divide, TakeFrom, Change, command_event, events_of, commands_in, chain_of, Constants}
use Rattle.promises.specs.Chains.{word_after}
use Rattle.promises.specs.Chains.{Run, Starts, result_of, Quiet, run_events}
use Rattle.promises.specs.Cores.{Core, Meets, kind_number, byte_of, on_bus, driven, returned, answers_of, NoRecall, KeepsMemory, Sendable, all_zero}
use Rattle.promises.specs.Cores.{clear_after}
use Rattle.promises.specs.Cores.{driven_quietly, Begins, bus_run, word_left, Cores}
use Rattle.promises.specs.FloatWords.{FloatWord, Le}
use Rattle.promises.proofs.Kept.{command_byte}
use Rattle.promises.proofs.Chains.{demand_3, on_top}

-- ---- one event
-- the event call's event is the card's
answer_is : (k : Card) (e : Event) → answer_to_kind k (kind_number e) (byte_of e) ≡ event_in k e
answer_is k (Chip (Push b)) = refl
answer_is k (Chip Pop) = refl
answer_is k (Chip (Command code)) = refl
answer_is k (Chip Status) = refl
answer_is k (Chip Reset) = refl
answer_is k (Chip Acknowledge) = refl
answer_is k Recall = refl
answer_is k Forget = refl

can_send : (e : Event) → byte_of e < 256 → Sends e
can_send (Chip (Push b)) h = h
can_send (Chip Pop) h = tt
can_send (Chip (Command code)) h = tt
can_send (Chip Status) h = tt
can_send (Chip Reset) h = tt
can_send (Chip Acknowledge) h = tt
can_send Recall h = tt
can_send Forget h = tt

-- an event of the chip and the memory cleared are not the memory read
not_recall : (e : ChipEvent) → Chip e ≡ Recall → ⊥
not_recall e z = let y : ◌≡◌ {A = ℕ} 1 0 = ap is_chip z in omega arith
  where
    is_chip : Event → ℕ
    is_chip (Chip x) = 1
    is_chip Recall = 0
    is_chip Forget = 1

forget_recall : Forget ≡ Recall → ⊥
forget_recall z = let y : ◌≡◌ {A = ℕ} 1 0 = ap is_forget z in omega arith
  where
    is_forget : Event → ℕ
    is_forget (Chip x) = 0
    is_forget Recall = 0
    is_forget Forget = 1

-- it leaves a good card
pub leaves_good : (k : Card) (e : Event) → ReadyCard k → byte_of e < 256 → ReadyCard (event_in k e).card
leaves_good k e r h = (event_fair k e r (can_send e h)).left

pub all_good : (es : List Event) (k : Card) → ReadyCard k → Sendable es → ReadyCard (after_all k es)
all_good [] k r S = r
all_good (e ∷ es) k r S = all_good es (event_in k e).card (leaves_good k e r S.0) S.1

kind_small : (e : Event) → kind_number e < 2 ^ 32
kind_small (Chip (Push b)) = lit< tt
kind_small (Chip Pop) = lit< tt
kind_small (Chip (Command code)) = lit< tt
kind_small (Chip Status) = lit< tt
kind_small (Chip Reset) = lit< tt
kind_small (Chip Acknowledge) = lit< tt
kind_small Recall = lit< tt
kind_small Forget = lit< tt

-- what the call makes of an event that a card answers, refused or not
abbrev signal_for : ℕ → CardAnswer → Signal
signal_for n a = record { result = joined_of (number_of a.refusal) a.byte; state = laid_out n a.card }

-- the bytes of a card, read as x
module _ (n : ℕ) (k x : Card) (good : is_state (laid_out n k) ≡ true) (size : length (laid_out n k) ≡ n) (read : card_in k.on (laid_out n k) ≡ x) (same : laid_out
    n k ≡ laid_out n x) where
  kept : (e : Event) → cond (eqb (number_of (event_in x e).refusal) 0) (laid_out n (event_in x e).card) (laid_out n k) ≡ laid_out n (event_in x e).card
  kept e =
      either_eq (λ (l : List ℕ). l ≡ laid_out n (event_in x e).card) (number_of (event_in x e).refusal) 0 _ _ (λ z. refl) (λ z. same
      ∙ ap (laid_out n) (sym (refused_leaves x e z)))

  abbrev signalled : List ℕ → Event → Signal
  signalled l e = record { result = joined_of (number_of (event_in x e).refusal) (event_in x e).byte; state = l }

  abbrev signal_with : ℕ → Event → Signal
  signal_with m e = signalled (cond (eqb (number_of (event_in x e).refusal) 0) (laid_out m (event_in x e).card) (laid_out n k)) e

  signal_is : (e : Event) → signal_under k.on (laid_out n k) (kind_number e) (byte_of e) ≡ signal_for n (event_in x e)
  signal_is e =
      ap (λ (t : Bool). cond t (signal_by (laid_out n k) (answer_to_kind (card_in k.on (laid_out n k)) (kind_number e) (byte_of e)))
      (record { result = joined_of 13 0; state = laid_out n k })) good
      ∙ ap (λ (y : Card). signal_by (laid_out n k) (answer_to_kind y (kind_number e) (byte_of e))) read
      ∙ ap (signal_by (laid_out n k)) (answer_is x e)
      ∙ ap (λ (m : ℕ). signal_with m e) size
      ∙ ap (λ (l : List ℕ). signalled l e) (kept e)

-- with its memory it is the card's answer
long_signal : (k : Card) → ReadyCard k → (e : Event) → signal_under k.on (laid_out 21 k) (kind_number e) (byte_of e) ≡ signal_for 21 (event_in k e)
long_signal k r e =
    let S = r.chip.stack.sixteen in
    signal_is 21 k k (laid_state k r 21 (inr refl)) (laid_length k S 21 (inr refl)) (card_long k S) refl e

-- without, that of the card whose memory is empty, which leaves the same 19 bytes
short_signal_lem : (k : Card) → ReadyCard k → (e : Event) → signal_under k.on (laid_out 19 k) (kind_number e) (byte_of e) ≡ signal_for 19
    (event_in (card_with k.on k.chip empty_memory) e)
short_signal_lem k r e =
    let S = r.chip.stack.sixteen in
    signal_is 19 k (card_with k.on k.chip empty_memory) (laid_state k r 19 (inl refl)) (laid_length k S 19 (inl refl)) (card_short k S) refl e

-- ---- events in turn
-- a card that 13 does not turn away, under the settings that the numbers set
pub record Serves (g : Given) (k : Card) : Type 0 where
  pub good : ReadyCard k
  pub set : k.on ≡ settings_in g

pub still_serves : (g : Given) (k : Card) (e : Event) → Serves g k → byte_of e < 256 → Serves g (event_in k e).card
still_serves g k e r h = record { good = leaves_good k e r.good h; set = settings_stay k e ∙ r.set }

module _ (g : Given) (C : Chosen g) (c : Core) (M : Meets g c) where
  -- the call's definition on the bytes of a card
  called : (n : ℕ) (k : Card) (e : Event) → Serves g k → event_call g (laid_out n k) (kind_number e) (byte_of e) ≡ signal_under k.on (laid_out n k) (kind_number e)
      (byte_of e)
  called n k e r = event_chosen g.mode g.rule (laid_out n k) (kind_number e) (byte_of e) C.mode C.rule
      ∙ ap (λ (on : Settings). signal_under on (laid_out n k) (kind_number e) (byte_of e)) (sym r.set)

  -- the state and the number that its contract gives a core
  abbrev StateTold : ℕ → Card → Event → Type 0
  StateTold n k e = (c.event (laid_out n k) (kind_number e) (byte_of e)).state ≡ laid_out n (event_in k e).card

  abbrev NumberTold : ℕ → Card → Event → Type 0
  NumberTold n k e = (c.event (laid_out n k) (kind_number e) (byte_of e)).result ≡ joined_of (number_of (event_in k e).refusal) (event_in k e).byte

  pub state_told : (n : ℕ) → (n ≡ 19) ⊎ (n ≡ 21) → (k : Card) (e : Event) → Serves g k → byte_of e < 256 → StateTold n k e
  state_told n h k e r b =
      ⊎_elim
      (λ a. subst (λ (m : ℕ). StateTold m k e) (sym a)
      ((M.event (laid_out 19 k) (kind_number e) (byte_of e) (laid_bytes k r.good 19) (kind_small e) b).state_is
      ∙ ap (λ (x : Signal). x.state) (called 19 k e r ∙ short_signal_lem k r.good e)
      ∙ ap (λ (s : State). laid_out 19 (card_with k.on s empty_memory)) (event_alike (card_with k.on k.chip empty_memory) k e refl refl).chip_same))
      (λ a. subst (λ (m : ℕ). StateTold m k e) (sym a)
      ((M.event (laid_out 21 k) (kind_number e) (byte_of e) (laid_bytes k r.good 21) (kind_small e) b).state_is ∙ ap (λ (x : Signal). x.state) (called 21 k e r
      ∙ long_signal k r.good e)))
      h

  pub number_long : (k : Card) (e : Event) → Serves g k → byte_of e < 256 → NumberTold 21 k e
  number_long k e r b = (M.event (laid_out 21 k) (kind_number e) (byte_of e) (laid_bytes k r.good 21) (kind_small e) b).result_is
      ∙ ap (λ (x : Signal). x.result) (called 21 k e r ∙ long_signal k r.good e)

  number_short : (k : Card) (e : Event) → Serves g k → byte_of e < 256 → (e ≡ Recall → ⊥) → NumberTold 19 k e
  number_short k e r b o =
      let s = event_alike (card_with k.on k.chip empty_memory) k e refl refl in
      (M.event (laid_out 19 k) (kind_number e) (byte_of e) (laid_bytes k r.good 19) (kind_small e) b).result_is
      ∙ ap (λ (x : Signal). x.result) (called 19 k e r ∙ short_signal_lem k r.good e)
      ∙ ap₂ (λ (q : Refusal) (m : ℕ). joined_of (number_of q) m) s.refusal_same (s.byte_same o)

  states : (n : ℕ) → (n ≡ 19) ⊎ (n ≡ 21) → (k : Card) → Serves g k → (es : List Event) → Sendable es → driven c (laid_out n k) es ≡ laid_out n (after_all k es)
  states n h k r [] S = refl
  states n h k r (e ∷ es) S =
      ap (λ (l : List ℕ). driven c l es) (state_told n h k e r S.0) ∙ states n h (event_in k e).card (still_serves g k e r S.0) es S.1

  -- one answer more
  more : (n : ℕ) (k : Card) (e : Event) (es : List Event) → NumberTold n k e → StateTold n k e → returned c (laid_out n (event_in k e).card)
      es ≡ answers_of (event_in k e).card es
      → returned c (laid_out n k) (e ∷ es) ≡ answers_of k (e ∷ es)
  more n k e es a b d =
      ap₂ (λ (m : ℕ) (l : List ℕ). m ∷ returned c l es) a b
      ∙ ap (λ (l : List ℕ). joined_of (number_of (event_in k e).refusal) (event_in k e).byte ∷ l) d

  numbers_long : (k : Card) → Serves g k → (es : List Event) → Sendable es → returned c (laid_out 21 k) es ≡ answers_of k es
  numbers_long k r [] S = refl
  numbers_long k r (e ∷ es) S =
      more 21 k e es (number_long k e r S.0) (state_told 21 (inr refl) k e r S.0) (numbers_long (event_in k e).card (still_serves g k e r S.0) es
      S.1)

  numbers_short : (k : Card) → Serves g k → (es : List Event) → Sendable es → NoRecall es → returned c (laid_out 19 k) es ≡ answers_of k es
  numbers_short k r [] S o = refl
  numbers_short k r (Chip e ∷ es) S o =
      more 19 k (Chip e) es (number_short k (Chip e) r S.0 (λ z. not_recall e z)) (state_told 19 (inl refl) k (Chip e) r S.0)
      (numbers_short (event_in k (Chip e)).card (still_serves g k (Chip e) r S.0) es S.1 o)
  numbers_short k r (Recall ∷ es) S o = absurd o
  numbers_short k r (Forget ∷ es) S o =
      more 19 k Forget es (number_short k Forget r S.0 (λ z. forget_recall z)) (state_told 19 (inl refl) k Forget r S.0)
      (numbers_short (event_in k Forget).card (still_serves g k Forget r S.0) es S.1 o)

-- ---- chains
sendable_append : (xs ys : List ChipEvent) → Sendable (on_bus xs) → Sendable (on_bus ys) → Sendable (on_bus (xs ++ ys))
sendable_append [] ys a b = b
sendable_append (x ∷ xs) ys a b = (a.0, sendable_append xs ys a.1 b)

pushes_sendable : (n w : ℕ) → Sendable (on_bus (pushes_of n w))
pushes_sendable zero w = tt
pushes_sendable (suc n) w = (mod-lt w (lit< tt), pushes_sendable n (w / 256))

pub code_sendable : (sr : Bool) (code : ℕ) → code < 128 → cond sr (code + 128) code < 256
code_sendable true code h = omega arith
code_sendable false code h = omega arith

step_sendable : (sr : ℕ → Bool) (k : Step) → Sendable (on_bus (events_of sr k))
step_sendable sr (Add c) = sendable_append (pushes_of 4 c) (command_event (sr 0) 0x10 ∷ []) (pushes_sendable 4 c) (code_sendable (sr 0) 0x10 (lit< tt), tt)
step_sendable sr (Subtract c) = sendable_append (pushes_of 4 c) (command_event (sr 0) 0x11 ∷ []) (pushes_sendable 4 c) (code_sendable (sr 0) 0x11 (lit< tt), tt)
step_sendable sr (Multiply c) = sendable_append (pushes_of 4 c) (command_event (sr 0) 0x12 ∷ []) (pushes_sendable 4 c) (code_sendable (sr 0) 0x12 (lit< tt), tt)
step_sendable sr (Divide c) = sendable_append (pushes_of 4 c) (command_event (sr 0) 0x13 ∷ []) (pushes_sendable 4 c) (code_sendable (sr 0) 0x13 (lit< tt), tt)
step_sendable sr (TakeFrom c) =
    sendable_append (pushes_of 4 c) (command_event (sr 0) 0x19 ∷ command_event (sr 1) 0x11 ∷ []) (pushes_sendable 4 c)
    (code_sendable (sr 0) 0x19 (lit< tt), (code_sendable (sr 1) 0x11 (lit< tt), tt))
step_sendable sr Change = (code_sendable (sr 0) 0x15 (lit< tt), tt)

chain_sendable : (sr : ℕ → Bool) (ks : List Step) → Sendable (on_bus (chain_of sr ks))
chain_sendable sr [] = tt
chain_sendable sr (k ∷ ks) =
    sendable_append (events_of sr k) (chain_of (λ (n : ℕ). sr (commands_in k + n)) ks) (step_sendable sr k) (chain_sendable (λ (n : ℕ). sr (commands_in k + n)) ks)

-- events that read no byte: what is answered 0 returns 0
pub push_byte : (s : State) (b : ℕ) → (push_of s b).byte ≡ 0
unfolding push_of
push_byte s b = go (busy s)
  where
    go : (t : Bool) → (cond {A = Answer} t (refused BadState s) (done 0 (moved s (pushed s.stack b)))).byte ≡ 0
    go true = refl
    go false = refl

-- the chip's answers as the calls give them
abbrev chip_answers : Settings → State → List ChipEvent → List ℕ
chip_answers on s [] = []
chip_answers on s (e ∷ es) = joined_of (number_of (answer_to on s e).refusal) (answer_to on s e).byte ∷ chip_answers on (answer_to on s e).state es

card_answers : (k : Card) (es : List ChipEvent) → answers_of k (on_bus es) ≡ chip_answers k.on k.chip es
card_answers k [] = refl
card_answers k (e ∷ es) = ap (λ (l : List ℕ). joined_of (number_of (answer_to k.on k.chip e).refusal) (answer_to k.on k.chip e).byte ∷ l)
    (card_answers (event_in k (Chip e)).card es)

-- bytes pushed and commands alone: no event reads a byte
abbrev ReadsNone : List ChipEvent → Type 0
ReadsNone [] = Unit
ReadsNone (Push b ∷ es) = ReadsNone es
ReadsNone (Command k ∷ es) = ReadsNone es
ReadsNone (Pop ∷ es) = ⊥
ReadsNone (Status ∷ es) = ⊥
ReadsNone (Reset ∷ es) = ⊥
ReadsNone (Acknowledge ∷ es) = ⊥

one_zero : (r byte : ℕ) (rest all : Bool) → byte ≡ 0 → (eqb r 0 && rest) ≡ true → all ≡ true → (eqb (256 * r + byte) 0 && all) ≡ true
one_zero r byte rest all z h a =
    let e : r ≡ 0 = eqb-true r 0 (both_of_lem (eqb r 0) rest h).0 in
    ap₂ ◌&&◌ (eq-eqb (256 * r + byte) 0 (omega arith)) a

-- the first returns 0, and the rest
more_zero : (on : Settings) (s : State) (e : ChipEvent) (es : List ChipEvent) → (answer_to on s e).byte ≡ 0 → answered on s (e ∷ es) ≡ true
    → (answered on (answer_to on s e).state es ≡ true → all_zero (chip_answers on (answer_to on s e).state es) ≡ true) → all_zero (chip_answers on s (e ∷ es))
    ≡ true
more_zero on s e es z h f =
    let r = number_of (answer_to on s e).refusal in
    let t = (answer_to on s e).state in
    one_zero r (answer_to on s e).byte (answered on t es) (all_zero (chip_answers on t es)) z h (f (both_of_lem (eqb r 0) (answered on t es) h).1)

all_zero_lem : (on : Settings) (s : State) (es : List ChipEvent) → ReadsNone es → answered on s es ≡ true → all_zero (chip_answers on s es) ≡ true
all_zero_lem on s [] n h = refl
all_zero_lem on s (Push b ∷ es) n h = more_zero on s (Push b) es (push_byte s b) h (λ g. all_zero_lem on (push_of s b).state es n g)
all_zero_lem on s (Command k ∷ es) n h = more_zero on s (Command k) es (command_byte on.rule s k) h (λ g. all_zero_lem on (command_under on.rule s k).state es n
    g)
all_zero_lem on s (Pop ∷ es) n h = absurd n
all_zero_lem on s (Status ∷ es) n h = absurd n
all_zero_lem on s (Reset ∷ es) n h = absurd n
all_zero_lem on s (Acknowledge ∷ es) n h = absurd n

none_append : (xs ys : List ChipEvent) → ReadsNone xs → ReadsNone ys → ReadsNone (xs ++ ys)
none_append [] ys a b = b
none_append (Push x ∷ xs) ys a b = none_append xs ys a b
none_append (Command k ∷ xs) ys a b = none_append xs ys a b
none_append (Pop ∷ xs) ys a b = absurd a
none_append (Status ∷ xs) ys a b = absurd a
none_append (Reset ∷ xs) ys a b = absurd a
none_append (Acknowledge ∷ xs) ys a b = absurd a

step_none : (sr : ℕ → Bool) (k : Step) → ReadsNone (events_of sr k)
step_none sr (Add c) = tt
step_none sr (Subtract c) = tt
step_none sr (Multiply c) = tt
step_none sr (Divide c) = tt
step_none sr (TakeFrom c) = tt
step_none sr Change = tt

chain_none : (sr : ℕ → Bool) (ks : List Step) → ReadsNone (chain_of sr ks)
chain_none sr [] = tt
chain_none sr (k ∷ ks) = none_append (events_of sr k) (chain_of (λ (n : ℕ). sr (commands_in k + n)) ks) (step_none sr k)
    (chain_none (λ (n : ℕ). sr (commands_in k + n)) ks)

-- ---- error bits
clear_told : (n : ℕ) (k : Card) (e : ChipEvent) → ReadyCard k → byte_of (Chip e) < 256 → clear_after (Chip e) (laid_out n (event_in k (Chip e)).card)
    ≡ leaves_clear k.on k.chip e
clear_told n k (Command code) r h = ap (λ (u : ℕ). eqb (error_of u) 0) (laid_at_lem (event_in k (Chip (Command code))).card (leaves_good k (Chip (Command code)) r
    h).chip.stack.sixteen n 1)
clear_told n k (Push b) r h = refl
clear_told n k Pop r h = refl
clear_told n k Status r h = refl
clear_told n k Reset r h = refl
clear_told n k Acknowledge r h = refl

quietly : (g : Given) → Chosen g → (c : Core) → Meets g c → (n : ℕ) → (n ≡ 19) ⊎ (n ≡ 21) → (k : Card) → Serves g k → (es : List ChipEvent)
    → Sendable (on_bus es) → driven_quietly c (laid_out n k) (on_bus es) ≡ quiet k.on k.chip es
quietly g C c M n h k r [] S = refl
quietly g C c M n h k r (e ∷ es) S =
    ap (λ (l : List ℕ). clear_after (Chip e) l && driven_quietly c l (on_bus es)) (state_told g C c M n h k (Chip e) r S.0)
    ∙ ap₂ ◌&&◌ (clear_told n k e r.good S.0) (quietly g C c M n h (event_in k (Chip e)).card (still_serves g k (Chip e) r S.0) es S.1)

-- ---- a run from the bytes of a state
abbrev run_from : List ℕ → ℕ → (ℕ → Bool) → Run
run_from state w sr = record { state = state_of state; word = w; sr = sr }

starts : (state : List ℕ) (w : ℕ) (sr : ℕ → Bool) → Begins state w → Starts (run_from state w sr)
starts state w sr B = record {
  at_rest = record { taken = lt-leb 128 (get_or state 17 0) (state_ready state (theirs_state B.good)); whole = ap (λ (n : ℕ). eqb n 1) B.whole };
  proper = B.proper;
}

pub sent : (w : ℕ) (sr : ℕ → Bool) (ks : List Step) → Sendable (bus_run w sr ks)
sent w sr ks = sendable_append (pushes_of 4 w) (chain_of sr ks) (pushes_sendable 4 w) (chain_sendable sr ks)

-- the chip's own events do not read the memory
pub bus_told : (es : List ChipEvent) → NoRecall (on_bus es)
bus_told [] = tt
bus_told (e ∷ es) = bus_told es

module _ (g : Given) (C : Chosen g) (c : Core) (M : Meets g c) where
  -- the card of a state's bytes
  abbrev card_of : List ℕ → Card
  card_of state = card_in (settings_in g) state

  serves : (state : List ℕ) → Bytes state → is_state state ≡ true → Serves g (card_of state)
  serves state B i = record { good = card_ready (settings_in g) state B i; set = refl }

  -- on the bytes of a good state
  from_bytes : (P : List ℕ → Type 0) (state : List ℕ) → is_state state ≡ true → P (laid_out (length state) (card_of state)) → P state
  from_bytes P state i p = subst P (card_returns (settings_in g) state i) p

  calls_states : (state : List ℕ) (es : List Event) → Bytes state → is_state state ≡ true → Sendable es → driven c state es ≡ laid_out (length state)
      (after_all (card_of state) es)
  calls_states state es B i S =
      from_bytes (λ (l : List ℕ). driven c l es ≡ laid_out (length state) (after_all (card_of state) es)) state i
      (states g C c M (length state) (ours_state i).size (card_of state) (serves state B i) es S)

  calls_return : (state : List ℕ) (es : List Event) → Bytes state → is_state state ≡ true → Sendable es → KeepsMemory state es
      → returned c state es ≡ answers_of (card_of state) es
  calls_return state es B i S o =
      let r = serves state B i in
      let k = card_of state in
      from_bytes (λ (l : List ℕ). returned c l es ≡ answers_of k es) state i
      (⊎_elim (λ a. ⊎_elim (λ b. absurd (let y : ⊥ = omega arith in y)) (λ b. subst (λ (m : ℕ). returned c (laid_out m k) es ≡ answers_of k es) (sym a)
      (numbers_short g C c M k r es S b)) o)
      (λ a. subst (λ (m : ℕ). returned c (laid_out m k) es ≡ answers_of k es) (sym a) (numbers_long g C c M k r es S)) (ours_state i).size)

  calls_quiet : (state : List ℕ) (es : List ChipEvent) → Bytes state → is_state state ≡ true → Sendable (on_bus es) → driven_quietly c state (on_bus es) ≡ true
      → quiet (settings_in g) (state_of state) es ≡ true
  calls_quiet state es B i S q =
      sym (from_bytes (λ (l : List ℕ). driven_quietly c l (on_bus es) ≡ quiet (settings_in g) (state_of state) es) state i
      (quietly g C c M (length state) (ours_state i).size (card_of state) (serves state B i) es S)) ∙ q

  module _ (state : List ℕ) (w : ℕ) (sr : ℕ → Bool) (ks : List Step) (B : Begins state w) (K : Constants ks) where
    answers : all_zero (returned c state (bus_run w sr ks)) ≡ true
    answers =
        ap all_zero (calls_return state (bus_run w sr ks) B.bytes (theirs_state B.good) (sent w sr ks) (inr (bus_told (run_events w sr ks)))
        ∙ card_answers (card_of state) (run_events w sr ks))
        ∙ all_zero_lem (settings_in g) (state_of state) (run_events w sr ks) (none_append (pushes_of 4 w) (chain_of sr ks) tt (chain_none sr ks))
        ((demand_3 (settings_in g)).every_answered (run_from state w sr) ks (starts state w sr B) K)

    top_bytes : take 4 (driven c state (bus_run w sr ks)) ≡ bytes_of 4 (word_after (settings_in g).rule w ks)
    top_bytes =
        let k = after_all (card_of state) (bus_run w sr ks) in
        ap (λ (l : List ℕ). take 4 l) (calls_states state (bus_run w sr ks) B.bytes (theirs_state B.good) (sent w sr ks) ∙ laid_is (length state) k)
        ∙ ap (λ (s : State). take 4 (s.stack ++ behind (length state) k)) (chip_alone (card_of state) (run_events w sr ks))
        ∙ on_top (settings_in g) (run_from state w sr) ks (starts state w sr B) K _

    top_word : word_left c state (bus_run w sr ks) ≡ word_after (settings_in g).rule w ks
    top_word =
        let r = (demand_3 (settings_in g)).by_word_alone (run_from state w sr) ks (starts state w sr B) K in
        let p = subst (λ (x : ℕ). FloatWord x) r ((demand_3 (settings_in g)).proper_result (run_from state w sr) ks (starts state w sr B) K) in
        ap (λ (l : List ℕ). number_from 0 l) top_bytes ∙ number_bytes 4 (word_after (settings_in g).rule w ks) p.fits

    -- what the statement's result is at the calls
    result_told : result_of (settings_in g) (run_from state w sr) ks ≡ word_left c state (bus_run w sr ks)
    result_told = (demand_3 (settings_in g)).by_word_alone (run_from state w sr) ks (starts state w sr B) K ∙ sym top_word

    quiet_told : driven_quietly c state (bus_run w sr ks) ≡ true → Quiet (settings_in g) (run_from state w sr) ks
    quiet_told q = calls_quiet state (run_events w sr ks) B.bytes (theirs_state B.good) (sent w sr ks) q

-- ---- the statement
pub cores : Cores
cores g C c M = record {
  states = λ state es B i S. calls_states g C c M state es B (theirs_state i) S;
  returns = λ state es B i S o. calls_return g C c M state es B (theirs_state i) S o;
  chain_answers = λ state w sr ks B K. answers g C c M state w sr ks B K;
  chain_bytes = λ state w sr ks B K. top_bytes g C c M state w sr ks B K;
  chain_word = λ state w sr ks B K. top_word g C c M state w sr ks B K;
  chain_even = λ state state' v w sr sr' ks B B' K q q' l e.
      subst₂ Le (result_told g C c M state v sr ks B K) (result_told g C c M state' w sr' ks B' K)
      ((demand_3 (settings_in g)).even_keeps (run_from state v sr) (run_from state' w sr') ks (starts state v sr B) (starts state' w sr' B') K
      (quiet_told g C c M state v sr ks B K q) (quiet_told g C c M state' w sr' ks B' K q') l e);
  chain_odd = λ state state' v w sr sr' ks B B' K q q' l e.
      subst₂ Le (result_told g C c M state' w sr' ks B' K) (result_told g C c M state v sr ks B K)
      ((demand_3 (settings_in g)).odd_turns (run_from state v sr) (run_from state' w sr') ks (starts state v sr B) (starts state' w sr' B') K
      (quiet_told g C c M state v sr ks B K q) (quiet_told g C c M state' w sr' ks B' K q') l e);
}
