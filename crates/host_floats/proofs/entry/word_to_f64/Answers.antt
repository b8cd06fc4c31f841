-- `host_floats::entry::word_to_f64` meets its contract: the test for a proper word is the definition's. Assumes nothing.
use mathlib.Core.Path.{sym, ap, ◌∙◌}
use Prim.Native.Nat.{ℕ}
use lib.Ieee.{binary64, of_bits}
use Rattle.host_floats.specs.declared.entry.Outward.TheVariants.{Float}
use Rattle.host_floats.proofs.Patterns.{no_nan}
use Rattle.host_floats.proofs.DoubleOut.{goes_out, stays_in}
use Rattle.host_floats.proofs.entry.word_to_f64.Goals as goal

pub float_from_bits-result : goal.float_from_bits-result
float_from_bits-result c = no_nan binary64 _ c.double_bits.ensures.1

pub returns-then-is_proper : goal.returns-then-is_proper
returns-then-is_proper c =
    ap (λ (p : ℕ). Float (of_bits binary64 p)) c.double_bits.ensures.0 ∙ sym (goes_out c.args.word (sym c.is_proper.ensures
    ∙ c.if-is_proper.true))

pub returns-else-is_proper : goal.returns-else-is_proper
returns-else-is_proper c = sym (stays_in c.args.word (sym c.is_proper.ensures ∙ c.if-is_proper.false))
