-- `host_floats::entry::small` meets its contract: its tests are the definition's, and the field is not all ones. Assumes nothing.
use mathlib.Core.Path.{◌≡◌}
use Prim.Native.Nat.{ℕ, ◌<◌}
use native.Mathlib.Omega.{arith}
use borrow.Author.Tests.{lt-ltb, eq-eqb, ne_eqb}
use Rattle.host_floats.specs.Double.{inward_of}
use Rattle.host_floats.proofs.entry.small.Goals as goal

not-ones : (x : ℕ) → x < 958 → x ≡ 2047 → ⊥
not-ones x h e = absurd (omega arith)

pub returns-then-bits-eq9223372036854775808 : goal.returns-then-bits-eq9223372036854775808
unfolding inward_of
returns-then-bits-eq9223372036854775808 c = simp (ne_eqb _ _ (not-ones _ c.requires), eq-eqb _ _ c.if-bits-eq9223372036854775808.true)

pub returns-then-bits-eq0 : goal.returns-then-bits-eq0
unfolding inward_of
returns-then-bits-eq0 c = simp (ne_eqb _ _ (not-ones _ c.requires), ne_eqb _ _ c.if-bits-eq9223372036854775808.false, eq-eqb _ _ c.if-bits-eq0.true)

pub returns : goal.returns
unfolding inward_of
returns c =
    simp (ne_eqb _ _ (not-ones _ c.requires), ne_eqb _ _ c.if-bits-eq9223372036854775808.false, ne_eqb _ _ c.if-bits-eq0.false, lt-ltb _ _ c.requires)
