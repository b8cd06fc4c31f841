-- What events keep: the chip goes its way whatever is remembered, and a refused event leaves the card as it came. Assumes nothing.
use mathlib.Core.Path.{◌≡◌, refl, sym, ap, ap₂, subst, ◌∙◌}
use mathlib.Core.Logic.{⊎_elim}
use mathlib.Core.Bool.{Bool, true, false, cond}
use Prim.Native.Nat.{ℕ, ◌/◌, ◌%◌}
use borrow.Author.Tests.{ne_eqb, eqb-true}
use lib.Bits.{or_zero_r}
use lib.Dec.{eqb}
use Rattle.terms.specs.declared.Refusal.TheVariants.{Done, BadState}
use Rattle.terms.specs.Refusal.{number_of}
use Rattle.terms.specs.declared.Settings.{Settings}
use Rattle.chip.specs.State.{State}
use Rattle.chip.specs.Event.{Event as ChipEvent}
use Rattle.chip.specs.Event.{Push, Pop, Command, Status, Reset, Acknowledge}
use Rattle.chip.specs.State.{busy}
use Rattle.chip.specs.Step.{answer_to}
use Rattle.chip.proofs.Kept.{event_keeps}
use Rattle.error_memory.specs.declared.Memory.{Memory}
use Rattle.error_memory.specs.Event.{Event}
use Rattle.error_memory.specs.Event.{Chip, Recall, Forget}
use Rattle.error_memory.specs.Memory.{empty_memory, Card, CardAnswer, card_with, remembered, kept_by, card_answer, unless_busy, event_in}

-- whether 13 turns it away or not
pub either_way : (P : CardAnswer → Type 0) (c : Card) (a : CardAnswer) → P (record { refusal = BadState; byte = 0; card = c }) → P a → P (unless_busy c a)
either_way P c a p q = by (busy c.chip)
  where
    by : (x : Bool) → P (cond x (record { refusal = BadState; byte = 0; card = c }) a)
    by true = p
    by false = q

-- ---- no event changes the settings
pub settings_stay : (c : Card) (e : Event) → (event_in c e).card.on ≡ c.on
settings_stay c (Chip e) = refl
settings_stay c Recall = either_way (λ (a : CardAnswer). a.card.on ≡ c.on) c (record { refusal = Done; byte = c.memory.bits; card = c }) refl refl
settings_stay c Forget =
    either_way (λ (a : CardAnswer). a.card.on ≡ c.on) c (record { refusal = Done; byte = 0; card = card_with c.on c.chip empty_memory }) refl refl

-- ---- the chip does not look at the memory
-- two answers to an event: the refusal, the chip after, and but for the memory read the byte
pub record Alike (e : Event) (a b : CardAnswer) : Type 0 where
  pub refusal_same : a.refusal ≡ b.refusal
  pub chip_same : a.card.chip ≡ b.card.chip
  pub byte_same : (e ≡ Recall → ⊥) → a.byte ≡ b.byte

-- one chip with two memories
on_one_chip : (on : Settings) (s : State) (m n : Memory) (e : Event) → Alike e (event_in (card_with on s m) e) (event_in (card_with on s n) e)
on_one_chip on s m n (Chip e) = record { refusal_same = refl; chip_same = refl; byte_same = λ z. refl }
on_one_chip on s m n Recall = by (busy s)
  where
    by : (x : Bool)
        → Alike Recall (cond x (record { refusal = BadState; byte = 0; card = card_with on s m })
        (record { refusal = Done; byte = m.bits; card = card_with on s m }))
        (cond x (record { refusal = BadState; byte = 0; card = card_with on s n }) (record { refusal = Done; byte = n.bits; card = card_with on s n }))
    by true = record { refusal_same = refl; chip_same = refl; byte_same = λ z. refl }
    by false = record { refusal_same = refl; chip_same = refl; byte_same = λ z. absurd (z refl) }
on_one_chip on s m n Forget = by (busy s)
  where
    by : (x : Bool)
        → Alike Forget (cond x (record { refusal = BadState; byte = 0; card = card_with on s m })
        (record { refusal = Done; byte = 0; card = card_with on s empty_memory }))
        (cond x (record { refusal = BadState; byte = 0; card = card_with on s n }) (record { refusal = Done; byte = 0; card = card_with on s empty_memory }))
    by true = record { refusal_same = refl; chip_same = refl; byte_same = λ z. refl }
    by false = record { refusal_same = refl; chip_same = refl; byte_same = λ z. refl }

-- two cards with the same settings and the same chip
pub event_alike : (c d : Card) (e : Event) → c.on ≡ d.on → c.chip ≡ d.chip → Alike e (event_in c e) (event_in d e)
event_alike c d e k h =
    subst (λ (on : Settings). Alike e (event_in c e) (event_in (card_with on d.chip d.memory) e)) k
    (subst (λ (s : State). Alike e (event_in c e) (event_in (card_with c.on s d.memory) e)) h (on_one_chip c.on c.chip c.memory d.memory e))

-- ---- a refused event
-- of the chip, it leaves the memory
refused_memory : (m : Memory) (e : ChipEvent) (n status : ℕ) → (n ≡ 0 → ⊥) → kept_by m e n status ≡ m
refused_memory m (Push b) n status z = refl
refused_memory m Pop n status z = refl
refused_memory m (Command code) n status z = rw (ne_eqb n 0 z)
refused_memory m Status n status z = refl
refused_memory m Reset n status z = rw (ne_eqb n 0 z)
refused_memory m Acknowledge n status z = refl

-- an answer with no byte and the card as it came, unless it is 0
abbrev pub Keeps : Card → CardAnswer → Type 0
Keeps c a = (number_of a.refusal ≡ 0 → ⊥) → a ≡ record { refusal = a.refusal; byte = 0; card = c }

-- every event
pub event_keeps_card : (c : Card) (e : Event) → Keeps c (event_in c e)
event_keeps_card c (Chip e) z =
    let a = answer_to c.on c.chip e in
    ap (λ (m : Memory). card_answer c.on m a) (refused_memory c.memory e (number_of a.refusal) a.state.status z)
    ∙ ⊎_elim (λ d. absurd (z (ap number_of d))) (λ k. ap (card_answer c.on c.memory) k) (event_keeps c.on c.chip e)
event_keeps_card c Recall z = either_way (Keeps c) c (record { refusal = Done; byte = c.memory.bits; card = c }) (λ y. refl) (λ y. absurd (y refl)) z
event_keeps_card c Forget z =
    either_way (Keeps c) c (record { refusal = Done; byte = 0; card = card_with c.on c.chip empty_memory }) (λ y. refl) (λ y. absurd (y refl)) z

pub refused_leaves : (c : Card) (e : Event) → (number_of (event_in c e).refusal ≡ 0 → ⊥) → (event_in c e).card ≡ c
refused_leaves c e z = ap (λ (a : CardAnswer). a.card) (event_keeps_card c e z)

-- ---- a command that left no error bit leaves what is remembered
stood_or_none : (n : ℕ) (b : Bool) → eqb n 0 ≡ b → n ≡ cond b 0 n
stood_or_none n true e = eqb-true n 0 e
stood_or_none n false e = refl

pub none_left : (m : Memory) (code status : ℕ) → status / 2 % 16 ≡ 0 → m ≡ remembered m code status
none_left m code status h =
    rw h (ap₂ (λ (x y : ℕ). record { bits = x; code = y }) (sym (or_zero_r m.bits)) (stood_or_none m.code (eqb m.code 0) refl))
