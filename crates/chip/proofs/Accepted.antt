-- A command that is answered 0: the state was not busy and whole, the code known, its operands proper, and the state after is what the row of the
-- command leaves. Assumes nothing.
use mathlib.Core.Path.{◌≡◌, refl, sym, ap, subst}
use mathlib.Core.Bool.{Bool, true, false, cond}
use Prim.Native.Nat.{ℕ, ◌%◌, ◌<◌}
use native.Mathlib.Omega.{arith}
use borrow.Author.Tests.{leb-false}
use lib.Dec.{lit<}
use Rattle.terms.specs.declared.Refusal.{Refusal}
use Rattle.terms.specs.declared.Refusal.TheVariants.{Done, UnknownCode, DerivedCode, HalfWord, Improper, BadState}
use Rattle.terms.specs.Refusal.{number_of}
use Rattle.terms.specs.declared.Rule.{Rule}
use Rattle.stack.specs.Stack.{IsStack}
use Rattle.codes.specs.Command.{Command}
use Rattle.codes.specs.Command.{Kind}
use Rattle.codes.specs.Command.{Known, Derived, Unknown}
use Rattle.codes.specs.Codes.{sr, decoded}
use Rattle.chip.specs.State.{State}
use Rattle.chip.specs.State.{Answer}
use Rattle.chip.specs.State.{busy, settled}
use Rattle.chip.specs.Commands.{outcome_of, proper_operands}
use Rattle.chip.specs.Step.{done, refused, carried, answer_by_kind, command_under}
use Rattle.chip.proofs.Outcomes.{outcome_fair}
use Rattle.chip.proofs.Answers.{known_by, carried_done}

-- what an accepted command was given and leaves
pub record Accepted (rule : Rule) (s : State) (code : ℕ) : Type 0 where
  pub ready : s.status < 128
  pub whole : s.pending ≡ false
  pub command : Command
  pub known : decoded (code % 128) ≡ Known command
  pub operands : proper_operands command s.stack ≡ true
  pub answer : command_under rule s code ≡ done 0 (settled s (sr code) (outcome_of rule command s.stack))

-- a refusal is not done
not_done : {A : Type 0} (r : Refusal) → 0 < number_of r → r ≡ Done → A
not_done r h e = let z : number_of r ≡ 0 = ap number_of e in absurd (omega arith)

module _ (rule : Rule) (s : State) (code : ℕ) where
  -- given what 01 asks, a known command is accepted
  pub accepts : (k : Command) → s.status < 128 → s.pending ≡ false → decoded (code % 128) ≡ Known k → proper_operands k s.stack ≡ true
      → command_under rule s code ≡ done 0 (settled s (sr code) (outcome_of rule k s.stack))
  accepts k h p e f = sym (known_by rule s code h (sym e) refl refl (carried_done rule s (sr code) k p f refl refl))

  -- each test on the way to an answer 0, with what it shows
  by_operands : (k : Command) → s.status < 128 → s.pending ≡ false → decoded (code % 128) ≡ Known k
      → (x : Bool) → proper_operands k s.stack ≡ x → (cond {A = Answer} x (done 0 (settled s (sr code) (outcome_of rule k s.stack)))
      (refused Improper s)).refusal ≡ Done → Accepted rule s code
  by_operands k h p e true f d = record { ready = h; whole = p; command = k; known = e; operands = f; answer = accepts k h p e f }
  by_operands k h p e false f d = not_done Improper (lit< tt) d

  by_half : (k : Command) → s.status < 128 → decoded (code % 128) ≡ Known k
      → (x : Bool) → s.pending ≡ x
      → (cond {A = Answer} x (refused HalfWord s) (cond (proper_operands k s.stack) (done 0 (settled s (sr code) (outcome_of rule k s.stack)))
      (refused Improper s))).refusal ≡ Done → Accepted rule s code
  by_half k h e true p d = not_done HalfWord (lit< tt) d
  by_half k h e false p d = by_operands k h p e (proper_operands k s.stack) refl d

  by_kind : s.status < 128 → (k : Kind) → decoded (code % 128) ≡ k → (answer_by_kind rule s (sr code) k).refusal ≡ Done → Accepted rule s code
  unfolding carried
  by_kind h (Known c) e d = by_half c h e s.pending refl d
  by_kind h Derived e d = not_done DerivedCode (lit< tt) d
  by_kind h Unknown e d = not_done UnknownCode (lit< tt) d

  by_busy : (x : Bool) → busy s ≡ x → (cond {A = Answer} x (refused BadState s) (answer_by_kind rule s (sr code) (decoded (code % 128)))).refusal ≡ Done
      → Accepted rule s code
  by_busy true b d = not_done BadState (lit< tt) d
  by_busy false b d = by_kind (leb-false 128 s.status b) (decoded (code % 128)) refl d

  pub accepted : (command_under rule s code).refusal ≡ Done → Accepted rule s code
  unfolding command_under
  accepted d = by_busy (busy s) refl d

-- ---- what every accepted command leaves
-- a stack of 16 bytes, busy clear, pending as it was, the service line as bit 7 of the code says
pub record Leaves (s : State) (code : ℕ) (after : State) : Type 0 where
  pub stack : IsStack after.stack
  pub not_busy : after.status < 128
  pub pending : after.pending ≡ s.pending
  pub service : after.service ≡ sr code

pub leaves : (rule : Rule) (s : State) (code : ℕ) → IsStack s.stack → (command_under rule s code).refusal ≡ Done
    → Leaves s code (command_under rule s code).state
leaves rule s code S d =
    let a = accepted rule s code d in
    let f = outcome_fair s.stack S rule a.command a.operands in
    subst (λ (x : Answer). Leaves s code x.state) (sym a.answer) (record { stack = f.stack; not_busy = f.not_busy; pending = refl; service = refl })
