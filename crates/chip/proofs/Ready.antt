-- A state that 13 does not turn away stays one: every event leaves 16 bytes and busy clear, and answers 0 to 4. Assumes nothing.
use mathlib.Core.Path.{◌≡◌, sym, subst}
use mathlib.Core.Bool.{Bool, true, false, cond}
use mathlib.Core.Logic.{⊎_elim}
use mathlib.Core.List.{List}
use Prim.Native.Nat.{ℕ, ◌%◌, ◌≤◌, ◌<◌}
use borrow.Author.Tests.{lt-leb}
use lib.Dec.{lit≤, lit<}
use Rattle.terms.specs.declared.Mode.{Mode}
use Rattle.terms.specs.declared.Mode.TheVariants.{Am9511A, Am9511}
use Rattle.terms.specs.declared.Rule.{Rule}
use Rattle.terms.specs.Refusal.{number_of}
use Rattle.stack.specs.Stack.{IsStack}
use Rattle.stack.proofs.Layouts.{zeros_stack, pushed_stack, rotated_stack, realigned_stack}
use Rattle.codes.specs.Command.{Kind}
use Rattle.codes.specs.Command.{Known, Derived, Unknown}
use Rattle.codes.specs.Codes.{sr, decoded}
use Rattle.chip.specs.State.{State}
use Rattle.chip.specs.State.{Answer}
use Rattle.chip.specs.State.{busy, kept_stack, after_reset}
use Rattle.chip.specs.Commands.{proper_operands}
use Rattle.chip.specs.Step.{push_of, pop_of, read_of, reset_of, acknowledge_of, carried, answer_by_kind, command_under}
use Rattle.chip.proofs.Kept.{command_keeps}
use Rattle.chip.proofs.Accepted.{leaves}

-- 16 bytes of stack, and busy clear
pub record Ready (s : State) : Type 0 where
  pub stack : IsStack s.stack
  pub ready : s.status < 128

-- an answer that leaves such a state and is 0 to 4
pub record Fair (a : Answer) : Type 0 where
  pub left : Ready a.state
  pub small : number_of a.refusal ≤ 4

-- a reset leaves 16 bytes and status 0
kept_stack_lem : (pending : Bool) (l : List ℕ) → IsStack l → IsStack (kept_stack pending l)
kept_stack_lem true l h = realigned_stack l h
kept_stack_lem false l h = h

reset_stack : (mode : Mode) (s : State) → IsStack s.stack → IsStack (after_reset mode s).stack
reset_stack Am9511A s h = zeros_stack
reset_stack Am9511 s h = kept_stack_lem s.pending s.stack h

reset_status : (mode : Mode) (s : State) → (after_reset mode s).status < 128
reset_status Am9511A s = lit< tt
reset_status Am9511 s = lit< tt

module _ (s : State) (r : Ready s) where
  idle : busy s ≡ false
  idle = lt-leb 128 s.status r.ready

  pub push_fair : (b : ℕ) → b < 256 → Fair (push_of s b)
  unfolding push_of
  push_fair b h = rw idle record { left = record { stack = pushed_stack s.stack r.stack b h; ready = r.ready }; small = lit≤ tt }

  pub pop_fair : Fair (pop_of s)
  unfolding pop_of
  pop_fair = rw idle record { left = record { stack = rotated_stack s.stack r.stack 1 (lit≤ tt); ready = r.ready }; small = lit≤ tt }

  pub read_fair : Fair (read_of s)
  unfolding read_of
  read_fair = rw idle record { left = r; small = lit≤ tt }

  pub reset_fair : (mode : Mode) → Fair (reset_of mode s)
  unfolding reset_of
  reset_fair mode = rw idle record { left = record { stack = reset_stack mode s r.stack; ready = reset_status mode s }; small = lit≤ tt }

  pub acknowledge_fair : Fair (acknowledge_of s)
  unfolding acknowledge_of
  acknowledge_fair = rw idle record { left = record { stack = r.stack; ready = r.ready }; small = lit≤ tt }

-- whichever way a test goes
pub picked : (P : Answer → Type 0) (b : Bool) (x y : Answer) → P x → P y → P (cond b x y)
picked P true x y p q = p
picked P false x y p q = q

abbrev Small : Answer → Type 0
Small a = number_of a.refusal ≤ 4

by_kind : (rule : Rule) (s : State) (code : ℕ) (k : Kind) → Small (answer_by_kind rule s (sr code) k)
unfolding carried
by_kind rule s code (Known c) = picked Small s.pending _ _ (lit≤ tt) (picked Small (proper_operands c s.stack) _ _ (lit≤ tt) (lit≤ tt))
by_kind rule s code Derived = lit≤ tt
by_kind rule s code Unknown = lit≤ tt

-- a command of a state that is not busy is answered 0 to 4
command_small : (rule : Rule) (s : State) (code : ℕ) → Ready s → Small (command_under rule s code)
unfolding command_under
command_small rule s code r = rw (lt-leb 128 s.status r.ready) (by_kind rule s code (decoded (code % 128)))

pub command_fair : (rule : Rule) (s : State) (code : ℕ) → Ready s → Fair (command_under rule s code)
command_fair rule s code r =
    ⊎_elim
    (λ d. let l = leaves rule s code r.stack d in record { left = record { stack = l.stack; ready = l.not_busy }; small = command_small rule s code r })
    (λ e. record { left = subst (λ (a : Answer). Ready a.state) (sym e) r; small = command_small rule s code r })
    (command_keeps rule s code)
