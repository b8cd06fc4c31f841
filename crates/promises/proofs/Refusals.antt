-- Which number each event gets: every test on the way to an answer is rewritten with what it is known to give. Assumes nothing.
use mathlib.Core.Path.{◌≡◌, refl}
use mathlib.Core.Bool.{true, false}
use Prim.Native.Nat.{ℕ, ◌%◌}
use Rattle.terms.specs.Refusal.{number_of}
use Rattle.terms.specs.declared.Settings.{Settings}
use Rattle.codes.specs.Command.{Command}
use Rattle.codes.specs.Command.{Known, Derived, Unknown}
use Rattle.codes.specs.Codes.{decoded}
use Rattle.chip.specs.State.{State}
use Rattle.chip.specs.Event.{Event}
use Rattle.chip.specs.Event.{Push, Pop, Command as CommandEvent, Status, Reset, Acknowledge}
use Rattle.chip.specs.State.{busy}
use Rattle.chip.specs.Commands.{proper_operands}
use Rattle.chip.specs.Step.{push_of, pop_of, read_of, reset_of, acknowledge_of, carried, command_under, answer_to}
use Rattle.promises.specs.Refusals.{TurnedAway, Numbers, Refusals}

module _ (on : Settings) (s : State) where
  when_busy : (e : Event) → busy s ≡ true → TurnedAway s (answer_to on s e) 13
  unfolding push_of pop_of read_of reset_of acknowledge_of command_under
  when_busy (Push b) h = rw h (record { number = refl; byte = refl; state = refl })
  when_busy Pop h = rw h (record { number = refl; byte = refl; state = refl })
  when_busy (CommandEvent k) h = rw h (record { number = refl; byte = refl; state = refl })
  when_busy Status h = rw h (record { number = refl; byte = refl; state = refl })
  when_busy Reset h = rw h (record { number = refl; byte = refl; state = refl })
  when_busy Acknowledge h = rw h (record { number = refl; byte = refl; state = refl })

  module _ (ready : busy s ≡ false) where
    when_unknown : (code : ℕ) → decoded (code % 128) ≡ Unknown → TurnedAway s (command_under on.rule s code) 1
    unfolding command_under
    when_unknown code e = rw (ready, e) (record { number = refl; byte = refl; state = refl })

    when_derived : (code : ℕ) → decoded (code % 128) ≡ Derived → TurnedAway s (command_under on.rule s code) 2
    unfolding command_under
    when_derived code e = rw (ready, e) (record { number = refl; byte = refl; state = refl })

    when_half : (code : ℕ) (k : Command) → decoded (code % 128) ≡ Known k → s.pending ≡ true → TurnedAway s (command_under on.rule s code) 3
    unfolding command_under carried
    when_half code k e p = rw (ready, e, p) (record { number = refl; byte = refl; state = refl })

    when_improper : (code : ℕ) (k : Command) → decoded (code % 128) ≡ Known k → s.pending ≡ false → proper_operands k s.stack ≡ false → TurnedAway s
        (command_under on.rule s code) 4
    unfolding command_under carried
    when_improper code k e p o = rw (ready, e, p, o) (record { number = refl; byte = refl; state = refl })

    when_fair : (code : ℕ) (k : Command) → decoded (code % 128) ≡ Known k → s.pending ≡ false → proper_operands k s.stack ≡ true
        → number_of (command_under on.rule s code).refusal ≡ 0
    unfolding command_under carried
    when_fair code k e p o = rw (ready, e, p, o)

    pushing : (byte : ℕ) → number_of (push_of s byte).refusal ≡ 0
    unfolding push_of
    pushing byte = rw ready

    popping : number_of (pop_of s).refusal ≡ 0
    unfolding pop_of
    popping = rw ready

    reading : (number_of (read_of s).refusal ≡ 0) × ((read_of s).byte ≡ s.status) × ((read_of s).state ≡ s)
    unfolding read_of
    reading = rw ready (refl, refl, refl)

    resetting : number_of (reset_of on.mode s).refusal ≡ 0
    unfolding reset_of
    resetting = rw ready

    acknowledging : number_of (acknowledge_of s).refusal ≡ 0
    unfolding acknowledge_of
    acknowledging = rw ready

-- ---- the statement
pub numbers : (on : Settings) → Numbers on
numbers on = record {
  busy_state = λ s e h. when_busy on s e h;
  unknown = λ s code r e. when_unknown on s r code e;
  derived = λ s code r e. when_derived on s r code e;
  half_word_lem = λ s code k r e p. when_half on s r code k e p;
  improper = λ s code k r e p o. when_improper on s r code k e p o;
  command_done = λ s code k r e p o. when_fair on s r code k e p o;
  push_done = λ s byte r. pushing on s r byte;
  pop_done = λ s r. popping on s r;
  read_done = λ s r. reading on s r;
  reset_done = λ s r. resetting on s r;
  acknowledge_done = λ s r. acknowledging on s r;
}

pub refusals : Refusals
refusals = numbers
