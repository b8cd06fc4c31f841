-- The sums over the lines of a slice: what is gathered and what is to come make the whole; the sign and the magnitude of the difference. Assumes nothing.
use Prim.Native.Nat.{ℕ, ◌+◌, ◌*◌, ◌≤◌, ◌<◌}
use mathlib.Core.Path.{◌≡◌, refl, sym, ap, subst, ◌∙◌}
use mathlib.Core.Logic.{⊎_elim}
use mathlib.Core.List.{List, [], ◌∷◌}
use native.Mathlib.Omega.{arith}
use native.Mathlib.Nat.{lt_of_le_of_lt}
use lib.ListN.{get_or, drop}
use lib.IntN.{sub_ℕ, nat_abs}
use Rattle.numbers.proofs.Differences.{either, sub_lt, sub_ge}
use Rattle.sheet_bytes.specs.Ledger.{lines_of, closed_in}
use Rattle.sheet_figures.specs.Limbs.{up, down, ups, downs, sum_limit}
use Rattle.sheet_figures.specs.Figures.{word_on, words, sum88}
use Rattle.sheet_figures.specs.Digits.{sign_of}
use Rattle.sheet_figures.proofs.Lines.{length-lines}
use Rattle.sheet_figures.proofs.Running.{ahead_is, counted_all}
use Rattle.sheet_figures.proofs.Sums.{ups_fit, sum_is, length-words}

-- ---- over the lines

pub record Gathers (s : List ℕ) (p m i : ℕ) : Type 0 where
  pub at_most : i ≤ closed_in s
  pub plus_is : p + ups (words (drop i (lines_of s))) ≡ ups (words (lines_of s))
  pub minus_is : m + downs (words (drop i (lines_of s))) ≡ downs (words (lines_of s))

pub gather_starts : (s : List ℕ) (p m : ℕ) → p ≡ 0 → m ≡ 0 → Gathers s p m 0
gather_starts s p m a b =
    let x : (q n : ℕ) → q ≡ 0 → q + n ≡ n = λ q n e. omega arith in
    record { at_most = omega arith; plus_is = x p (ups (words (lines_of s))) a; minus_is = x m (downs (words (lines_of s))) b }

module _ (s : List ℕ) (p m i w : ℕ) (more : i < closed_in s) (is : w ≡ word_on (get_or (lines_of s) i [])) (g : Gathers s p m i) where
  next : words (drop i (lines_of s)) ≡ w ∷ words (drop (i + 1) (lines_of s))
  next = ap words (ahead_is s i more) ∙ ap (λ (v : ℕ). v ∷ words (drop (i + 1) (lines_of s))) (sym is)

  plus_next : p + (up w + ups (words (drop (i + 1) (lines_of s)))) ≡ ups (words (lines_of s))
  plus_next = ap (λ (v : List ℕ). p + ups v) (sym next) ∙ g.plus_is

  minus_next : m + (down w + downs (words (drop (i + 1) (lines_of s)))) ≡ downs (words (lines_of s))
  minus_next = ap (λ (v : List ℕ). m + downs v) (sym next) ∙ g.minus_is

  pub gather_room : closed_in s ≤ 64 → (p + up w < sum_limit) × (m + down w < sum_limit)
  gather_room h =
      let f = ups_fit (words (lines_of s)) (subst (λ (k : ℕ). k ≤ 64) (sym (length-words (lines_of s) ∙ length-lines s)) h) in
      (lt_of_le_of_lt (less p (up w) _ _ plus_next) f.0, lt_of_le_of_lt (less m (down w) _ _ minus_next) f.1)
    where
      less : (a b c d : ℕ) → a + (b + c) ≡ d → a + b ≤ d
      less a b c d e = omega arith

  pub gather_on : (q r : ℕ) → q ≡ p + up w → r ≡ m + down w → Gathers s q r (i + 1)
  gather_on q r a b = record {
    at_most = omega arith;
    plus_is = same q p (up w) (ups (words (drop (i + 1) (lines_of s)))) (ups (words (lines_of s))) a plus_next;
    minus_is = same r m (down w) (downs (words (drop (i + 1) (lines_of s)))) (downs (words (lines_of s))) b minus_next;
  }
    where
      same : (q p u c d : ℕ) → q ≡ p + u → p + (u + c) ≡ d → q + c ≡ d
      same q p u c d a e = omega arith

pub gather_ends : (s : List ℕ) (p m i : ℕ) → closed_in s ≤ i → Gathers s p m i → (p ≡ ups (words (lines_of s))) × (m ≡ downs (words (lines_of s)))
gather_ends s p m i h g = (
  counted_all (λ l. ups (words l)) s p i (ups (words (lines_of s))) refl h g.plus_is,
  counted_all (λ l. downs (words l)) s m i (downs (words (lines_of s)))
      refl h g.minus_is,
)

-- ---- the sum of all

module _ (l : List (List ℕ)) (a b d top : ℕ) (is-a : a ≡ ups (words l)) (is_b : b ≡ downs (words l)) where
  difference : sum88 l ≡ sub_ℕ a b
  difference = sum_is l ∙ ap (λ (n : ℕ). sub_ℕ n (downs (words l))) (sym is-a) ∙ ap (λ (n : ℕ). sub_ℕ a n) (sym is_b)

  -- nothing borrowed: not below zero
  pub sum_above : (x : ℕ) → x ≡ 0 → d + b ≡ a + x * top → (43 ≡ sign_of (sum88 l)) × (d ≡ nat_abs (sum88 l))
  sum_above x z e =
      let o : d + b ≡ a = left x z e in
      let i : sum88 l ≡ _ = difference ∙ sub_ge a b (omega arith) in
      (sym (ap sign_of i), sym (ap nat_abs i ∙ omega arith))
    where
      left : (x : ℕ) → x ≡ 0 → d + b ≡ a + x * top → d + b ≡ a
      left x z e = let f : d + b ≡ a + 0 * top = subst (λ (n : ℕ). d + b ≡ a + n * top) z e in omega arith

  -- borrowed: below zero, and the other difference is the magnitude
  pub sum_below : (c x y : ℕ) → (x ≡ 0 → ⊥) → x ≤ 1 → y ≤ 1 → c < top → d < top → c + b ≡ a + x * top → d + a ≡ b + y * top → (45 ≡ sign_of (sum88 l))
      × (d ≡ nat_abs (sum88 l))
  sum_below c x y z hx hy hc hd e f =
      let o : x ≡ 1 = omega arith in
      let g : c + b ≡ a + 1 * top = subst (λ (n : ℕ). c + b ≡ a + n * top) o e in
      let m : a < b = omega arith in
      let k : y ≡ 0 = none y hy f m in
      let r : d + a ≡ b + 0 * top = subst (λ (n : ℕ). d + a ≡ b + n * top) k f in
      let i : sum88 l ≡ _ = difference ∙ sub_lt a b m in
      (sym (ap sign_of i), sym (ap nat_abs i ∙ omega arith))
    where
      none : (y : ℕ) → y ≤ 1 → d + a ≡ b + y * top → a < b → y ≡ 0
      none y h e m = ⊎_elim (λ (p : 0 < y). let z : y ≡ 1 = omega arith in let q : d + a ≡ b + 1 * top = subst (λ (n : ℕ). d + a ≡ b + n * top) z e
          in absurd (omega arith)) (λ (p : y ≤ 0). omega arith) (either 0 y)
