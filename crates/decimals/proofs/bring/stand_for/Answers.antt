-- `decimals::bring::stand_for` makes the last bit odd where something remains below it, of the whole part or of a quotient by a power of five. Assumes
-- nothing.
use mathlib.Core.Path.{sym, ap, ◌∙◌, subst}
use Prim.Native.Nat.{ℕ, ◌+◌, ◌*◌, ◌^◌, ◌<◌}
use native.Mathlib.Omega.{arith}
use Rattle.decimals.proofs.Quotients.{jam_enough, quotient_stands, begun_is}
use Rattle.decimals.proofs.bring.stand_for.Goals as goal

pub returns : goal.returns
returns c =
    let a = c.args in
    let f = c.five_to-d.ensures in
    let q = c.carried-q.ensures in
    let e = q.same ∙ ap (λ (x : ℕ). x * 2 ^ c.carried-q.result.bits) (begun_is a.whole a.fraction a.places _ (omega arith)
    (omega arith) f.0) in
    record {
      stands = quotient_stands (a.whole * 10 ^ a.places + a.fraction) a.places _ c.carried-q.result.whole
          c.carried-q.result.rest _ q.few (omega arith)
          (ap (λ (x : ℕ). c.carried-q.result.whole * x + c.carried-q.result.rest) (sym f.0) ∙ e) (subst (λ
          (x : ℕ). c.carried-q.result.rest < x) f.0 q.below) c.jam-2.ensures;
      enough = jam_enough c.carried-q.result.whole c.carried-q.result.rest _ q.enough c.jam-2.ensures;
      least = omega (arith, q.few);
      most = omega arith;
    }
