-- What stands for a chip with its memory stands for one after every event: a command that leaves an error has a code, and bits joined are bits of the
-- same places. Assumes nothing.
use mathlib.Core.Path.{◌≡◌, refl, sym, ap, ap₂, ◌∙◌}
use mathlib.Core.Logic.{◌⊎◌, inl, inr, ⊎_elim}
use mathlib.Core.Bool.{Bool, true, false, cond, not, ◌&&◌, beq, false≢true}
use mathlib.Core.List.{List}
use Prim.Native.Nat.{ℕ, ◌+◌, ◌*◌, ◌/◌, ◌%◌, ◌≤◌, ◌<◌, max}
use native.Mathlib.Omega.{arith}
use lib.Bits.{bit_or, or_lt, or_step, or_add_and, and_le_r}
use lib.Dec.{eqb, ltb, leb, lit≤}
use borrow.Author.Tests.{lt-ltb, le-ltb, ltb-false, eq-eqb, ne_eqb, eqb-true, eqb-false, not-true, lt-leb, leb-true, leb-false}
use Rattle.terms.specs.declared.Refusal.{Refusal}
use Rattle.terms.specs.declared.Refusal.TheVariants.{Done, UnknownCode, DerivedCode, HalfWord, Improper, NoSuchKind, CutShort, BadLength, NoRoom}
use Rattle.terms.specs.declared.Refusal.TheVariants.{InputTooLong, NotFinite, TooLarge, TooSmall, BadState, BadReport, MinusZero, BadMode, BadRule}
use Rattle.terms.specs.declared.Refusal.TheVariants.{PartEntry}
use Rattle.terms.specs.Refusal.{number_of}
use Rattle.terms.specs.declared.Rule.{Rule}
use Rattle.terms.specs.declared.Settings.{Settings}
use Rattle.codes.specs.Command.{Kind, Known, Derived, Unknown, Nop}
use Rattle.codes.specs.Codes.{decoded}
use Rattle.chip.specs.State.{State, Answer}
use Rattle.chip.specs.Event.{Event as ChipEvent}
use Rattle.chip.specs.Event.{Push, Pop, Command, Status, Reset, Acknowledge}
use Rattle.chip.specs.Commands.{outcome_of}
use Rattle.chip.specs.Step.{command_under, answer_to}
use Rattle.chip.proofs.Accepted.{accepted as accepted-by}
use Rattle.chip.proofs.Ready.{Ready, Fair, push_fair, pop_fair, read_fair, reset_fair, acknowledge_fair, command_fair}
use Rattle.error_memory.specs.declared.Memory.{Memory}
use Rattle.error_memory.specs.Event.{Event}
use Rattle.error_memory.specs.Event.{Chip, Recall, Forget}
use Rattle.error_memory.specs.Memory.{empty_memory, errors_of, remembered, is_memory, accepted, Card, CardAnswer, card_with, kept_after, event_in}
use Rattle.error_memory.proofs.Kept.{either_way}

-- ---- which two bytes stand for a memory
-- bits in their places, with a code
pub record Marked (bits code : ℕ) : Type 0 where
  pub in_places : bits ≤ 30
  pub even : bits % 2 ≡ 0
  pub some : bits ≡ 0 → ⊥
  pub coded : code ≡ 0 → ⊥

-- such two, or none of both
pub memory_cases : (bits code : ℕ) → is_memory bits code ≡ true → ((bits ≡ 0) × (code ≡ 0)) ⊎ Marked bits code
memory_cases bits code h = by (ltb 30 bits) (eqb (bits % 2) 1) (eqb bits 0) refl refl refl h
  where
    by : (x y z : Bool) → ltb 30 bits ≡ x → eqb (bits % 2) 1 ≡ y → eqb bits 0 ≡ z → cond x false (cond y false (cond z (eqb code 0) (not (eqb code 0)))) ≡ true
        → ((bits ≡ 0) × (code ≡ 0)) ⊎ Marked bits code
    by true y z a b d k = absurd (false≢true k)
    by false true z a b d k = absurd (false≢true k)
    by false false true a b d k = inl (eqb-true bits 0 d, eqb-true code 0 k)
    by false false false a b d k =
        let odd = eqb-false (bits % 2) 1 b in
        inr (record { in_places = ltb-false 30 bits a; even = omega arith; some = eqb-false bits 0 d; coded = eqb-false code 0 (not-true (eqb code 0) k) })

pub marked_memory : (bits code : ℕ) → Marked bits code → is_memory bits code ≡ true
marked_memory bits code h =
    let e = h.even in
    rw (le-ltb 30 bits h.in_places, ne_eqb (bits % 2) 1 (λ o. omega arith), ne_eqb bits 0 h.some, ne_eqb code 0 h.coded)

-- the tests of two bytes at once are the tests one after the other
pub memory_tests : (bits code : ℕ) → ((leb bits 30 && eqb (bits % 2) 0) && beq (eqb bits 0) (eqb code 0)) ≡ is_memory bits code
memory_tests bits code = by (leb bits 30) (eqb (bits % 2) 0) refl refl
  where
    same : (x y : Bool) → beq x y ≡ cond x y (not y)
    same true true = refl
    same true false = refl
    same false true = refl
    same false false = refl

    by : (x y : Bool) → leb bits 30 ≡ x → eqb (bits % 2) 0 ≡ y → ((x && y) && beq (eqb bits 0) (eqb code 0)) ≡ is_memory bits code
    by false y a b = rw (lt-ltb 30 bits (leb-false bits 30 a))
    by true false a b =
        let odd = eqb-false (bits % 2) 0 b in
        rw (le-ltb 30 bits (leb-true bits 30 a), eq-eqb (bits % 2) 1 (omega arith))
    by true true a b =
        let even = eqb-true (bits % 2) 0 b in
        rw (le-ltb 30 bits (leb-true bits 30 a), ne_eqb (bits % 2) 1 (λ o. omega arith)) (same (eqb bits 0) (eqb code 0))

-- a memory whose two bytes stand for one
pub record GoodMemory (m : Memory) : Type 0 where
  pub stands : is_memory m.bits m.code ≡ true
  pub code_byte : m.code < 256

pub empty_good : GoodMemory empty_memory
empty_good = record { stands = refl; code_byte = omega arith }

-- ---- what a command leaves remembered
-- bits joined: as even as both, and no less than one
or_even : (a b : ℕ) → a % 2 ≡ 0 → b % 2 ≡ 0 → bit_or a b % 2 ≡ 0
or_even a b p q =
    let e : bit_or a b ≡ bit_or (a / 2) (b / 2) * 2 + 0 = or_step a b ∙ ap₂ (λ (x y : ℕ). bit_or (a / 2) (b / 2) * 2 + max x y) p q in
    omega arith

or_reaches : (a b : ℕ) → a ≤ bit_or a b
or_reaches a b =
    let s = or_add_and a b in
    let l = and_le_r a b in
    omega arith

module _ (m : Memory) (code status : ℕ) where
  -- where a command that leaves an error has a code
  remembered_stands : is_memory m.bits m.code ≡ true → ((errors_of status ≡ 0 → ⊥) → code % 128 ≡ 0 → ⊥)
      → is_memory (remembered m code status).bits (remembered m code status).code ≡ true
  remembered_stands h g = ⊎_elim empty marked (memory_cases m.bits m.code h)
    where
      first : (x : Bool) → eqb (errors_of status) 0 ≡ x → is_memory (errors_of status) (cond x 0 (code % 128)) ≡ true
      first true e = rw (eqb-true (errors_of status) 0 e)
      first false e =
          let some = eqb-false (errors_of status) 0 e in
          marked_memory (errors_of status) (code % 128) (record { in_places = omega arith; even = omega arith; some = some; coded = g some })

      empty : (m.bits ≡ 0) × (m.code ≡ 0) → is_memory (remembered m code status).bits (remembered m code status).code ≡ true
      empty z = rw (z.0, z.1) (first (eqb (errors_of status) 0) refl)

      marked : Marked m.bits m.code → is_memory (remembered m code status).bits (remembered m code status).code ≡ true
      marked k =
          let some = k.some in
          let up = or_reaches m.bits (errors_of status) in
          let below : bit_or m.bits (errors_of status) < 32 = or_lt 5 m.bits (errors_of status) (omega (arith, k.in_places)) (omega arith) in
          let even = or_even m.bits (errors_of status) k.even (omega arith) in
          rw (ne_eqb m.code 0 k.coded)
          (marked_memory (bit_or m.bits (errors_of status)) m.code
          (record { in_places = omega arith; even = even; some = λ z. some (omega arith); coded = k.coded }))

  remembered_byte : m.code < 256 → (remembered m code status).code < 256
  remembered_byte h = by (eqb m.code 0) (eqb (errors_of status) 0)
    where
      by : (x y : Bool) → cond x (cond y 0 (code % 128)) m.code < 256
      by true true = omega arith
      by true false = omega arith
      by false y = h

-- ---- a command that leaves an error is not NOP, so that its code is not 0
-- the refusal whose number is 0
done_of : (r : Refusal) → number_of r ≡ 0 → r ≡ Done
done_of Done e = refl
done_of UnknownCode e = let y : ⊥ = omega arith in absurd y
done_of DerivedCode e = let y : ⊥ = omega arith in absurd y
done_of HalfWord e = let y : ⊥ = omega arith in absurd y
done_of Improper e = let y : ⊥ = omega arith in absurd y
done_of NoSuchKind e = let y : ⊥ = omega arith in absurd y
done_of CutShort e = let y : ⊥ = omega arith in absurd y
done_of BadLength e = let y : ⊥ = omega arith in absurd y
done_of NoRoom e = let y : ⊥ = omega arith in absurd y
done_of InputTooLong e = let y : ⊥ = omega arith in absurd y
done_of NotFinite e = let y : ⊥ = omega arith in absurd y
done_of TooLarge e = let y : ⊥ = omega arith in absurd y
done_of TooSmall e = let y : ⊥ = omega arith in absurd y
done_of BadState e = let y : ⊥ = omega arith in absurd y
done_of BadReport e = let y : ⊥ = omega arith in absurd y
done_of MinusZero e = let y : ⊥ = omega arith in absurd y
done_of BadMode e = let y : ⊥ = omega arith in absurd y
done_of BadRule e = let y : ⊥ = omega arith in absurd y
done_of PartEntry e = let y : ⊥ = omega arith in absurd y

-- the status that a code's command leaves
abbrev status_by : Rule → Kind → List ℕ → ℕ
status_by rule (Known k) s = (outcome_of rule k s).status
status_by rule Derived s = 0
status_by rule Unknown s = 0

code_0 : decoded 0 ≡ Known Nop
unfolding decoded
code_0 = refl

nop_clear : (rule : Rule) (s : State) (code : ℕ) → (command_under rule s code).refusal ≡ Done → code % 128 ≡ 0 → (command_under rule s code).state.status ≡ 0
nop_clear rule s code d z =
    let a = accepted-by rule s code d in
    ap (λ (x : Answer). x.state.status) a.answer
    ∙ ap (λ (k : Kind). status_by rule k s.stack) (sym a.known ∙ ap decoded z ∙ code_0)

pub error_coded : (rule : Rule) (s : State) (code : ℕ) → accepted (command_under rule s code) ≡ true
    → (errors_of (command_under rule s code).state.status ≡ 0 → ⊥) → code % 128 ≡ 0 → ⊥
error_coded rule s code e some z = some (ap errors_of (nop_clear rule s code (done_of (command_under rule s code).refusal (eqb-true _ _ e)) z))

-- ---- every event
-- of the chip
chip_good : (on : Settings) (s : State) (m : Memory) (e : ChipEvent) → GoodMemory m → GoodMemory (kept_after m e (answer_to on s e))
chip_good on s m (Push b) h = h
chip_good on s m Pop h = h
chip_good on s m (Command code) h = by (accepted (command_under on.rule s code)) refl
  where
    by : (x : Bool) → accepted (command_under on.rule s code) ≡ x → GoodMemory (cond x (remembered m code (command_under on.rule s code).state.status) m)
    by true e = record {
      stands = remembered_stands m code (command_under on.rule s code).state.status h.stands
          (error_coded on.rule s code e);
      code_byte = remembered_byte m code (command_under on.rule s code).state.status h.code_byte;
    }
    by false e = h
chip_good on s m Status h = h
chip_good on s m Reset h = by (accepted (answer_to on s Reset))
  where
    by : (x : Bool) → GoodMemory (cond x empty_memory m)
    by true = empty_good
    by false = h
chip_good on s m Acknowledge h = h

-- of a chip with its memory
pub memory_stays_good : (c : Card) (e : Event) → GoodMemory c.memory → GoodMemory (event_in c e).card.memory
memory_stays_good c (Chip e) h = chip_good c.on c.chip c.memory e h
memory_stays_good c Recall h = either_way (λ (a : CardAnswer). GoodMemory a.card.memory) c (record { refusal = Done; byte = c.memory.bits; card = c }) h h
memory_stays_good c Forget h =
    either_way (λ (a : CardAnswer). GoodMemory a.card.memory) c
    (record { refusal = Done; byte = 0; card = card_with c.on c.chip empty_memory }) h empty_good

-- ---- a card that 13 does not turn away
pub record ReadyCard (c : Card) : Type 0 where
  pub chip : Ready c.chip
  pub memory : GoodMemory c.memory

-- an answer that leaves such a card and is 0 to 4
pub record FairCard (a : CardAnswer) : Type 0 where
  pub left : ReadyCard a.card
  pub small : number_of a.refusal ≤ 4

-- the byte that an event pushes is one
abbrev pub Sendable : Event → Type 0
Sendable (Chip (Push b)) = b < 256
Sendable (Chip Pop) = Unit
Sendable (Chip (Command code)) = Unit
Sendable (Chip Status) = Unit
Sendable (Chip Reset) = Unit
Sendable (Chip Acknowledge) = Unit
Sendable Recall = Unit
Sendable Forget = Unit

chip_fair : (on : Settings) (s : State) (e : ChipEvent) → Ready s → Sendable (Chip e) → Fair (answer_to on s e)
chip_fair on s (Push b) r h = push_fair s r b h
chip_fair on s Pop r h = pop_fair s r
chip_fair on s (Command code) r h = command_fair on.rule s code r
chip_fair on s Status r h = read_fair s r
chip_fair on s Reset r h = reset_fair s r on.mode
chip_fair on s Acknowledge r h = acknowledge_fair s r

pub event_fair : (c : Card) (e : Event) → ReadyCard c → Sendable e → FairCard (event_in c e)
event_fair c (Chip e) r h =
    let f = chip_fair c.on c.chip e r.chip h in
    record { left = record { chip = f.left; memory = chip_good c.on c.chip c.memory e r.memory }; small = f.small }
event_fair c Recall r h = rw (lt-leb 128 c.chip.status r.chip.ready) record { left = r; small = lit≤ tt }
event_fair c Forget r h = rw (lt-leb 128 c.chip.status r.chip.ready) record { left = record { chip = r.chip; memory = empty_good }; small = lit≤ tt }

-- ---- the memory read and cleared where the chip is not busy
module _ (c : Card) (h : c.chip.status < 128) where
  pub recalled : record { refusal = Done; byte = c.memory.bits; card = c } ≡ event_in c Recall
  recalled = rw (lt-leb 128 c.chip.status h)

  pub forgotten : record { refusal = Done; byte = 0; card = card_with c.on c.chip empty_memory } ≡ event_in c Forget
  forgotten = rw (lt-leb 128 c.chip.status h)
