-- `decimals::line::brief_of` begins with the whole part, which 63 bits hold. Assumes nothing.
use native.Mathlib.Omega.{arith}
use mathlib.Core.Path.{sym, ◌∙◌, ap₂}
use Prim.Native.Nat.{ℕ}
use Rattle.decimals.specs.Short.{short_from}
use Rattle.decimals.proofs.Lines.{whole_small, whole_is, rest_is, not_proper, exact_asked, in_brief}
use Rattle.decimals.proofs.line.brief_of.Goals as goal

pub returns-then-exact : goal.returns-then-exact
returns-then-exact c = let a = c.args in (exact_asked a.rule a.exact a.word c.if-exact.true, tt)

pub returns-then-not-is_proper : goal.returns-then-not-is_proper
returns-then-not-is_proper c =
    let a = c.args in
    (not_proper a.rule a.exact a.word c.if-exact.false (sym c.is_proper.ensures ∙ c.if-not-is_proper.true), tt)

pub overflow_mul-whole : goal.overflow_mul-whole
overflow_mul-whole c =
    let m = c.args.m in
    let h = whole_small c.args.word m.whole.high m.whole.low m.rest.high m.rest.low c.requires.0 in
    omega (arith, c.requires.1.whole.high)

pub overflow_add-whole : goal.overflow_add-whole
overflow_add-whole c =
    let m = c.args.m in
    let h = whole_small c.args.word m.whole.high m.whole.low m.rest.high m.rest.low c.requires.0 in omega arith

pub shortest-requires : goal.shortest-requires
shortest-requires c =
    let m = c.args.m in
    (c.requires.1.rest, whole_small c.args.word m.whole.high m.whole.low m.rest.high m.rest.low c.requires.0)

pub returns : goal.returns
returns c =
    let a = c.args in
    let w = a.m.whole in
    let r = a.m.rest in
    let R = c.requires.1.rest in (
      c.shortest.ensures.0
          ∙ ap₂ (λ (x y : ℕ). short_from 27 a.rule a.word x y 0)
          (whole_is a.word w.high w.low r.high r.low c.requires.0 R.high R.low)
          (rest_is a.word w.high w.low r.high r.low c.requires.0 R.high R.low)
          ∙ in_brief a.rule a.exact a.word c.if-exact.false (sym c.is_proper.ensures ∙ c.if-not-is_proper.false),
      c.shortest.ensures.1,
    )
