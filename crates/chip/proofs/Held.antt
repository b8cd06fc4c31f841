-- What the program's state answers is what the state of document 01 does: bytes at once turn pending once for each, and a
-- code is answered by what became of it on the stack. Assumes nothing.
use Rattle.std.specs.Prelude.{Result, Ok, Err}
use mathlib.Core.Path.{◌≡◌, refl, sym, ap, ◌∙◌}
use mathlib.Core.Bool.{Bool, true, false, not, cond}
use mathlib.Core.List.{List}
use Prim.Native.Nat.{ℕ, zero, suc, ◌%◌, ◌<◌}
use native.Mathlib.Omega.{arith}
use borrow.Author.Tests.{lt-leb}
use Rattle.terms.specs.declared.Mode.{Mode}
use Rattle.terms.specs.declared.Rule.{Rule}
use Rattle.terms.specs.declared.Refusal.{Refusal}
use Rattle.terms.specs.declared.Refusal.TheVariants.{UnknownCode, DerivedCode, HalfWord, Improper}
use Rattle.terms.specs.declared.Width.{Width}
use Rattle.stack.specs.declared.Stack.{Stack}
use Rattle.stack.specs.Words.{bytes_in}
use Rattle.codes.specs.declared.Kind.{Kind as Coded}
use Rattle.codes.specs.declared.Kind.TheVariants.{Chsf as ChsfCode, Fix as FixCode}
use Rattle.codes.specs.Command.{Command, Kind, Known, Derived, Unknown, Chsf, Fix, kind_in}
use Rattle.codes.specs.Codes.{sr, decoded}
use Rattle.chip.specs.State.{State, Answer, CommandOutcome, left, after_reset, acknowledged, settled}
use Rattle.chip.specs.declared.commands.Outcome.{Outcome}
use Rattle.chip.specs.Commands.{outcome_of, proper_operands}
use Rattle.chip.specs.Step.{done, refused, unless_busy, reset_of, acknowledge_of, read_of, carried, answer_by_kind, command_under}
use Rattle.chip.specs.Held.{held, flipped, became, left_by, LeavesEither, ObeysEither, half_word, performed_of, commanded_of}
use Rattle.chip.proofs.InTurn.{turned}

-- pending by the parity of the bytes is pending turned once for each
pub flips : (n : ℕ) (p : Bool) → flipped n p ≡ turned n p
flips zero p = refl
flips (suc zero) p = refl
flips (suc (suc n)) p =
    let e : suc (suc n) % 2 ≡ n % 2 = omega arith in
    rw e (flips n p ∙ ap (turned n) (twice p))
  where
    twice : (q : Bool) → q ≡ not (not q)
    twice true = refl
    twice false = refl

-- ---- events of a state that is not busy
module _ (s : State) (h : s.status < 128) where
  pub read_done : read_of s ≡ done s.status s
  unfolding read_of
  read_done = rw (lt-leb 128 s.status h)

  pub reset_done : (mode : Mode) → reset_of mode s ≡ done 0 (after_reset mode s)
  unfolding reset_of
  reset_done mode = rw (lt-leb 128 s.status h)

  pub acknowledge_done : acknowledge_of s ≡ done 0 (acknowledged s)
  unfolding acknowledge_of
  acknowledge_done = rw (lt-leb 128 s.status h)

-- ---- a code
-- a code on a stack, answered as the state answers it
abbrev pub answer_as : State → ℕ → Result CommandOutcome Refusal → Answer
answer_as s code (Ok left) = done 0 (settled s (sr code) left)
answer_as s code (Err refusal) = refused refusal s

pub commanded : (rule : Rule) (s : State) (code : ℕ) → s.status < 128 → answer_as s code (commanded_of rule s.pending code s.stack) ≡ command_under rule s code
unfolding command_under carried
commanded rule s code h = rw (lt-leb 128 s.status h) (by_kind (decoded (code % 128)))
  where
    known : (p q : Bool) (command : Command) → answer_as s code (cond p (Err HalfWord) (cond q (Ok (outcome_of rule command s.stack)) (Err Improper)))
        ≡ cond p (refused HalfWord s) (cond q (done 0 (settled s (sr code) (outcome_of rule command s.stack))) (refused Improper s))
    known true q command = refl
    known false true command = refl
    known false false command = refl

    same : (p : Bool) (r : Refusal) → answer_as s code (cond p (Err r) (Err r)) ≡ refused r s
    same true r = refl
    same false r = refl

    by_kind : (kind : Kind) → answer_as s code (cond s.pending (Err (half_word kind)) (performed_of rule kind s.stack)) ≡ answer_by_kind rule s (sr code) kind
    by_kind (Known command) = known s.pending (proper_operands command s.stack) command
    by_kind Derived = same s.pending DerivedCode
    by_kind Unknown = same s.pending UnknownCode

-- the state after a command, part by part
settled_is : (s : State) (stack : List ℕ) (status : ℕ) (v : Bool) → held stack s.pending status v ≡ settled s v (left stack status)
settled_is s stack status v = refl

-- the answer by what became of the code
module _ (rule : Rule) (s : State) (code : ℕ) (stack : Stack) (o : Result ℕ Refusal) {a : Answer} (h : s.status < 128)
    (on : left_by stack o ≡ commanded_of rule s.pending code s.stack) where
  pub accepted : (status : ℕ) (v : Bool) (t : State) → o ≡ Ok status → v ≡ sr code → t ≡ held (bytes_in stack) s.pending status v
      → a ≡ unless_busy s (done 0 t) → a ≡ command_under rule s code
  accepted status v t e f g k =
      k ∙ rw (lt-leb 128 s.status h) (ap (done 0) (g ∙ settled_is s (bytes_in stack) status v ∙ ap (λ (x : Bool). settled s x (left (bytes_in stack) status)) f))
      ∙ ap (answer_as s code) (sym (ap (left_by stack) e) ∙ on) ∙ commanded rule s code h

  pub turned_down : (r : Refusal) → o ≡ Err r → a ≡ refused r s → a ≡ command_under rule s code
  turned_down r e f = f ∙ ap (answer_as s code) (sym (ap (left_by stack) e) ∙ on) ∙ commanded rule s code h

-- a command that either rule does alike
module _ (rule : Rule) (s : Stack) {k : Coded} where
  pub chsf_by : (o : Outcome) → k ≡ ChsfCode → LeavesEither Chsf s o → became (Ok o) ≡ performed_of rule (kind_in k) (bytes_in s)
  chsf_by o e h = h rule ∙ ap (λ (x : Coded). performed_of rule (kind_in x) (bytes_in s)) (sym e)

  pub fix_by : (w : Width) (o : Result Outcome Refusal) → k ≡ FixCode w → ObeysEither (Fix w) s o → became o ≡ performed_of rule (kind_in k) (bytes_in s)
  fix_by w o e h = h rule ∙ ap (λ (x : Coded). performed_of rule (kind_in x) (bytes_in s)) (sym e)
