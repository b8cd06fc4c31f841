-- `host_floats::word_to_f32` meets its contract: the test for a proper word is the definition's. Assumes nothing.
use mathlib.Core.Path.{sym, ap, ◌∙◌}
use Prim.Native.Nat.{ℕ}
use lib.Ieee.{binary32, of_bits}
use Rattle.host_floats.specs.declared.Host.TheVariants.{Float}
use Rattle.host_floats.proofs.Patterns.{no_nan}
use Rattle.host_floats.proofs.Outward.{goes, stays}
use Rattle.host_floats.proofs.word_to_f32.Goals as goal

pub float_from_bits-result : goal.float_from_bits-result
float_from_bits-result c = no_nan binary32 _ c.bits_of.ensures.1

pub returns-then-is_proper : goal.returns-then-is_proper
returns-then-is_proper c =
    ap (λ (p : ℕ). Float (of_bits binary32 p)) c.bits_of.ensures.0 ∙ sym (goes c.args.word (sym c.is_proper.ensures
    ∙ c.if-is_proper.true))

pub returns-else-is_proper : goal.returns-else-is_proper
returns-else-is_proper c = sym (stays c.args.word (sym c.is_proper.ensures ∙ c.if-is_proper.false))
