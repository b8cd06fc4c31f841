-- Float commands on a state that is written out, with two words or one on top: each is answered 0, and R stands on top of the rest. Assumes nothing.
use mathlib.Core.Path.{◌≡◌}
use mathlib.Core.Bool.{Bool, false}
use mathlib.Core.List.{List, ◌++◌}
use Prim.Native.Nat.{ℕ, ◌%◌, ◌<◌}
use borrow.Author.Tests.{lt-leb}
use Rattle.terms.specs.declared.Width.TheVariants.{Double}
use Rattle.float.specs.Word.{FloatWord}
use Rattle.terms.specs.declared.Rule.{Rule}
use Rattle.float.specs.Convert.{chsf}
use Rattle.stack.specs.Stack.{bytes_of, zeros}
use Rattle.stack.proofs.Words.{number_bytes}
use Rattle.codes.specs.declared.FloatOp.{FloatOp}
use Rattle.codes.specs.Command.{Float, Chsf, Xch}
use Rattle.codes.specs.Command.{Known}
use Rattle.codes.specs.Codes.{sr, decoded}
use Rattle.chip.specs.State.{State}
use Rattle.chip.specs.Status.{status_of}
use Rattle.chip.specs.Commands.{float_of, floats}
use Rattle.chip.specs.Step.{done, carried, command_under}

-- a state with nothing pending
abbrev pub idle : List ℕ → ℕ → Bool → State
idle l u v = record { stack = l; pending = false; status = u; service = v }

module _ (rule : Rule) where
  pub floated : (op : FloatOp) (code b a : ℕ) (t : List ℕ) (u : ℕ) (v : Bool) → decoded (code % 128) ≡ Known (Float op) → u < 128 → FloatWord b → FloatWord a
      → command_under rule (idle (bytes_of 4 a ++ (bytes_of 4 b ++ t)) u v) code
      ≡ done 0 (idle (bytes_of 4 (float_of rule op b a).word ++ (t ++ zeros 4))
      (status_of Double (bytes_of 4 (float_of rule op b a).word ++ (t ++ zeros 4)) (float_of rule op b a).error false) (sr code))
  unfolding command_under carried floats
  floated op code b a t u v k h B A = rw (lt-leb 128 u h, k, number_bytes 4 b B.fits, number_bytes 4 a A.fits, B.is_proper, A.is_proper)

  pub exchanged_words : (code b a : ℕ) (t : List ℕ) (u : ℕ) (v : Bool) → decoded (code % 128) ≡ Known (Xch Double) → u < 128
      → command_under rule (idle (bytes_of 4 a ++ (bytes_of 4 b ++ t)) u v) code
      ≡ done 0 (idle (bytes_of 4 b ++ (bytes_of 4 a ++ t)) (status_of Double (bytes_of 4 b ++ (bytes_of 4 a ++ t)) 0 false) (sr code))
  unfolding command_under carried
  exchanged_words code b a t u v k h = rw (lt-leb 128 u h, k)

  pub sign_changed : (code a : ℕ) (t : List ℕ) (u : ℕ) (v : Bool) → decoded (code % 128) ≡ Known Chsf → u < 128 → FloatWord a
      → command_under rule (idle (bytes_of 4 a ++ t) u v) code ≡ done 0
      (idle (bytes_of 4 (chsf a) ++ t) (status_of Double (bytes_of 4 (chsf a) ++ t) 0 false) (sr code))
  unfolding command_under carried
  sign_changed code a t u v k h A = rw (lt-leb 128 u h, k, number_bytes 4 a A.fits)
