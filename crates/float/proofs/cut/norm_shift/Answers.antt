-- `float::cut::norm_shift` meets its contract: the leading zeros and the place of the highest set bit make 63. Assumes nothing.
use mathlib.Core.Path.{◌≡◌, sym, ◌∙◌, subst}
use Prim.Native.Nat.{ℕ, suc, ◌+◌, ◌*◌, ◌^◌, ◌≤◌, ◌<◌}
use native.Mathlib.Nat.{le_trans, le_of_eq, suc_inj, add-suc, add_comm, mul-le-mul_right}
use native.Mathlib.Omega.{arith}
use lib.Pow.{pow-add, shl_lt}
use lib.Count.{count_leading_zeros, leading_top}
use Rattle.float.proofs.cut.norm_shift.Goals as goal

normalized : (a k s : ℕ) → 2 ^ k ≤ a → a < 2 ^ suc k → s + suc k ≡ 64 → (2 ^ 63 ≤ a * 2 ^ s) × (a * 2 ^ s < 2 ^ 64) × (s < 64)
normalized a k s lo hi e = (
  subst (λ (x : ℕ). 2 ^ x ≤ a * 2 ^ s) (add_comm k s ∙ suc_inj (sym (add-suc s k) ∙ e)) (le_trans (le_of_eq (pow-add 2 k s)) (mul-le-mul_right (2 ^ s) lo)),
  subst (λ (x : ℕ). a * 2 ^ s < 2 ^ x) (add_comm (suc k) s ∙ e) (shl_lt {a = a} (suc k) s hi),
  omega arith,
)

pub returns : goal.returns
returns c =
    let d = c.args.v in
    let top = leading_top 64 d c.requires c.ranges.v.fits in
    normalized d top.0 (count_leading_zeros 64 d) top.2 top.3 top.1
