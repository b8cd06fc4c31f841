-- `float::root::sqrt` meets its contract: the root to 26 digits, made odd where it is not whole, stands for the root. Assumes nothing.
use mathlib.Core.Path.{◌≡◌, sym, ◌∙◌}
use Prim.Native.Nat.{ℕ, ◌-◌, ◌*◌, ◌%◌, ◌^◌, ◌<◌}
use native.Mathlib.Nat.{lt_of_lt_of_le}
use native.Mathlib.Omega.{arith}
use lib.Dec.{lit<}
use lib.Pow.{shl_exact}
use Rattle.float.proofs.root.WholeRoot.{root_lt}
use Rattle.float.proofs.root.RootCut.{root_negative, root_zero, root_law, raised}
use Rattle.float.proofs.root.sqrt.Goals as goal

-- the mantissa moved up, which no bit leaves
up : (m e : ℕ) → m < 16777216 → m * 2 ^ (24 - e % 2) % 2 ^ 64 ≡ m * 2 ^ (24 - e % 2)
up m e h = shl_exact 24 (24 - e % 2) 64 h (omega arith)

pub returns-then-is_negative : goal.returns-then-is_negative
returns-then-is_negative c = root_negative c.args.rule c.args.a (sym c.is_negative.ensures ∙ c.if-is_negative.true)

pub returns-then-m-eq0 : goal.returns-then-m-eq0
returns-then-m-eq0 c =
    root_zero c.args.rule c.args.a _ (sym c.is_negative.ensures ∙ c.if-is_negative.false) c.mantissa_of-m.ensures.0 c.if-m-eq0.true

pub whole_root-requires : goal.whole_root-requires
whole_root-requires c =
    let m = c.mantissa_of-m in
    let e = c.biased_of-e.result in
    let b = raised c.args.a m.result e _ c.requires m.ensures.0 m.ensures.1 c.if-m-eq0.false (up m.result e m.ensures.1) in
    (lt_of_lt_of_le (lit< tt) b.0, b.1)

pub traced-t-requires : goal.traced-t-requires
traced-t-requires c =
    let m = c.mantissa_of-m in
    let e = c.biased_of-e.result in
    let r = c.whole_root.ensures in
    let b = raised c.args.a m.result e _ c.requires m.ensures.0 m.ensures.1 c.if-m-eq0.false (up m.result e m.ensures.1) in
    (root_lt _ _ 16777216 r b.1, r.0, r.1)

pub returns : goal.returns
returns c =
    let m = c.mantissa_of-m in
    let e = c.biased_of-e in
    let v = up m.result e.result m.ensures.1 in
    let b = raised c.args.a m.result e.result _ c.requires m.ensures.0 m.ensures.1 c.if-m-eq0.false v in
    c.cut_word.ensures
    ∙ root_law c.args.rule c.args.a m.result e.result _ _ (sym c.is_negative.ensures ∙ c.if-is_negative.false) m.ensures.0 e.ensures.0 b.0 v
    c.traced-t.ensures
