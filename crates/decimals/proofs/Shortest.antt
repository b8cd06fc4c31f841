-- Places are tried one after another: the digits so far are the whole part of rest * 10 ^ p / 2 ^ 88, and trying on leads to the same. Assumes nothing.
use mathlib.Core.Path.{◌≡◌, refl, sym, ap, ap₂, ◌∙◌, subst}
use mathlib.Core.Bool.{Bool, true, false, cond, ◌&&◌}
use Prim.Native.Nat.{ℕ, suc, ◌+◌, ◌-◌, ◌*◌, ◌/◌, ◌%◌, ◌^◌, ◌≤◌, ◌<◌}
use native.Mathlib.Nat.{mul_assoc, mul-one, div-eq_of_lt, div-eq_of_lt-le, div-add-mod', mod-eq_of_lt, mod-lt}
use native.Mathlib.Nat.{pow-suc}
use native.Mathlib.Numerals.{add-one}
use native.Mathlib.Omega.{arith}
use borrow.Author.Tests.{lt-ltb, le-ltb, ltb-true, ltb-false, eq-eqb, ne_eqb, eqb-true, eqb-false, leb-true, leb-false, le-leb, lt-leb}
use lib.Dec.{eqb, ltb, leb}
use lib.Pow.{pow_pos}
use Rattle.terms.specs.declared.Rule.{Rule}
use Rattle.decimals.specs.declared.short.Short.{Short}
use Rattle.decimals.specs.declared.short.Short.TheVariants.{Decimal, Nothing}
use Rattle.decimals.specs.Short.{gives_of, decimal_of, try_of, or_else, around_of, tried_at, short_from}

-- ---- one decimal
quotient_is : (w f y : ℕ) → f < y → (w * y + f) / y ≡ w
quotient_is w f y h = div-eq_of_lt-le y (omega arith) (omega arith)

remainder_is : (w f y : ℕ) → f < y → (w * y + f) % y ≡ f
remainder_is w f y h =
    let q = ap (λ (x : ℕ). x * y) (quotient_is w f y h) in
    let d = div-add-mod' (w * y + f) y in
    omega arith

pub decimal_is : (w f p : ℕ) → f < 10 ^ p → Decimal w f p ≡ decimal_of (w * 10 ^ p + f) p
decimal_is w f p h = ap₂ (λ (x y : ℕ). Decimal x y p) (sym (quotient_is w f (10 ^ p) h)) (sym (remainder_is w f (10 ^ p) h))

module _ (rule : Rule) (word w f p : ℕ) where
  pub try_yes : f < 10 ^ p → gives_of rule word (w * 10 ^ p + f) p ≡ true → Decimal w f p ≡ try_of rule word (w * 10 ^ p + f) p
  try_yes h e = decimal_is w f p h ∙ ap (λ (t : Bool). cond t (decimal_of (w * 10 ^ p + f) p) Nothing) (sym e)

  pub try_no : gives_of rule word (w * 10 ^ p + f) p ≡ false → Nothing ≡ try_of rule word (w * 10 ^ p + f) p
  try_no e = ap (λ (t : Bool). cond t (decimal_of (w * 10 ^ p + f) p) Nothing) (sym e)

-- the decimal above, where the places are all nines and where not
pub above_nines : (w f y : ℕ) → f + 1 ≡ y → (w + 1) * y + 0 ≡ w * y + f + 1
above_nines w f y e = omega arith

pub above_next : (w f y : ℕ) → w * y + (f + 1) ≡ w * y + f + 1
above_next w f y = omega arith

pub not_nines : (f y : ℕ) → f < y → eqb (f + 1) y ≡ false → f + 1 < y
not_nines f y h e = pick (ltb (f + 1) y) refl
  where
    pick : (t : Bool) → ltb (f + 1) y ≡ t → f + 1 < y
    pick true g = ltb-true (f + 1) y g
    pick false g = let n = eqb-false (f + 1) y e in let x = ltb-false (f + 1) y g in absurd (n (omega arith))

pub around_as : (rule : Rule) (word k p : ℕ) (up : Bool) (a b : Short) → a ≡ try_of rule word (k + 1) p → b ≡ try_of rule word k p
    → cond up (or_else a b) (or_else b a) ≡ around_of rule word k p up
around_as rule word k p true a b e f = ap₂ or_else e f
around_as rule word k p false a b e f = ap₂ or_else f e

-- ---- the nearer one
pub half_up : (h l : ℕ) → l < 2 ^ 40 → leb (2 ^ 47) h ≡ leb (2 ^ 87) (h * 2 ^ 40 + l)
half_up h l s = go (leb (2 ^ 47) h) refl
  where
    go : (t : Bool) → leb (2 ^ 47) h ≡ t → t ≡ leb (2 ^ 87) (h * 2 ^ 40 + l)
    go true e = let x = leb-true (2 ^ 47) h e in sym (le-leb (2 ^ 87) (h * 2 ^ 40 + l) (omega arith))
    go false e = let x = leb-false (2 ^ 47) h e in sym (lt-leb (2 ^ 87) (h * 2 ^ 40 + l) (omega arith))

-- ---- one place after the other
pub record Trying (rule : Rule) (word whole r f p : ℕ) (nines : Bool) (l : ℕ) : Type 0 where
  pub leads : short_from (27 - p) rule word whole r p ≡ short_from 27 rule word whole r 0
  pub within : p ≤ 27
  pub digits : f ≡ r * 10 ^ p / 2 ^ 88
  pub remains : l ≡ r * 10 ^ p % 2 ^ 88
  pub small : f < 10 ^ p
  pub nine : nines ≡ eqb (f + 1) (10 ^ p)

pub starts : (rule : Rule) (word whole r : ℕ) → r < 2 ^ 88 → Trying rule word whole r 0 0 true r
starts rule word whole r h = record {
  leads = refl;
  within = omega arith;
  digits = sym (ap (λ (x : ℕ). x / 2 ^ 88) (mul-one r) ∙ div-eq_of_lt h);
  remains = sym (ap (λ (x : ℕ). x % 2 ^ 88) (mul-one r) ∙ mod-eq_of_lt h);
  small = omega arith;
  nine = refl;
}

ten_suc : (p : ℕ) → 10 ^ (p + 1) ≡ 10 ^ p * 10
ten_suc p = ap (λ (n : ℕ). 10 ^ n) (add-one p) ∙ pow-suc 10 p

module _ (rule : Rule) (word whole r f p : ℕ) (nines : Bool) (l : ℕ) (t : Trying rule word whole r f p nines l) where
  -- the number, in units of 2 ^ 88, and ten times as much
  number : f * 2 ^ 88 + l ≡ r * 10 ^ p
  number = ap₂ (λ (x y : ℕ). x * 2 ^ 88 + y) t.digits t.remains ∙ div-add-mod' (r * 10 ^ p) (2 ^ 88)

  tenfold : r * 10 ^ (p + 1) ≡ (f * 2 ^ 88 + l) * 10
  tenfold = ap (λ (x : ℕ). r * x) (ten_suc p) ∙ sym (mul_assoc r (10 ^ p) 10) ∙ ap (λ (x : ℕ). x * 10) (sym number)

  next_digits : (d m : ℕ) → d ≡ l * 10 / 2 ^ 88 → f * 10 + d ≡ r * 10 ^ (p + 1) / 2 ^ 88
  next_digits d m e = ap (λ (x : ℕ). f * 10 + x) e ∙ sym (ap (λ (x : ℕ). x / 2 ^ 88) tenfold ∙ over f l)
    where
      over : (f l : ℕ) → (f * 2 ^ 88 + l) * 10 / 2 ^ 88 ≡ f * 10 + l * 10 / 2 ^ 88
      over f l = omega arith

  next_left : (m : ℕ) → m ≡ l * 10 % 2 ^ 88 → m ≡ r * 10 ^ (p + 1) % 2 ^ 88
  next_left m e = e ∙ sym (ap (λ (x : ℕ). x % 2 ^ 88) tenfold ∙ left f l)
    where
      left : (f l : ℕ) → (f * 2 ^ 88 + l) * 10 % 2 ^ 88 ≡ l * 10 % 2 ^ 88
      left f l = omega arith

  pub digit_below : (d : ℕ) → d ≡ l * 10 / 2 ^ 88 → d < 10
  digit_below d e = let m : l < 2 ^ 88 = subst (λ (x : ℕ). x < 2 ^ 88) (sym t.remains) (mod-lt (r * 10 ^ p) (pow_pos 88)) in omega arith

  pub next_small : (d : ℕ) → d ≡ l * 10 / 2 ^ 88 → f * 10 + d < 10 ^ (p + 1)
  next_small d e = let a = digit_below d e in let b = t.small in let c = ten_suc p in omega arith

  next_nines : (d : ℕ) → d ≡ l * 10 / 2 ^ 88 → (nines && eqb d 9) ≡ eqb (f * 10 + d + 1) (10 ^ (p + 1))
  next_nines d e = ap (λ (s : Bool). s && eqb d 9) t.nine ∙ go (eqb (f + 1) (10 ^ p)) (eqb d 9) refl refl
    where
      last : (f d y : ℕ) → d < 10 → f < y → f * 10 + d + 1 ≡ y * 10 → (d ≡ 9) × (f + 1 ≡ y)
      last f d y a b c = (omega arith, omega arith)

      go : (s u : Bool) → eqb (f + 1) (10 ^ p) ≡ s → eqb d 9 ≡ u → (s && u) ≡ eqb (f * 10 + d + 1) (10 ^ (p + 1))
      go true true x y =
          let a = eqb-true (f + 1) (10 ^ p) x in
          let b = eqb-true d 9 y in
          let c = ten_suc p in
          sym (eq-eqb (f * 10 + d + 1) (10 ^ (p + 1)) (omega arith))
      go true false x y =
          let b = eqb-false d 9 y in
          sym (ne_eqb (f * 10 + d + 1) (10 ^ (p + 1)) (λ z. b (last f d (10 ^ p) (digit_below d e) t.small (z ∙ ten_suc p)).0))
      go false u x y =
          let a = eqb-false (f + 1) (10 ^ p) x in
          let z : eqb (f * 10 + d + 1) (10 ^ (p + 1)) ≡ false =
          ne_eqb (f * 10 + d + 1) (10 ^ (p + 1)) (λ z. a (last f d (10 ^ p) (digit_below d e) t.small (z ∙ ten_suc p)).1) in
          both u ∙ sym z
        where
          both : (u : Bool) → (false && u) ≡ false
          both true = refl
          both false = refl

  -- what is tried at one place more
  module _ (d m : ℕ) (k : Bool) (low : p < 27) (room : f < 10 ^ 17) (e : d ≡ l * 10 / 2 ^ 88) (g : m ≡ l * 10 % 2 ^ 88) (n : k ≡ (nines && eqb d 9)) where
    pub now_nines : k ≡ eqb (f * 10 + d + 1) (10 ^ (p + 1))
    now_nines = n ∙ next_nines d e

    pub tried_is : (up : Bool) → up ≡ leb (2 ^ 87) m → around_of rule word (whole * 10 ^ (p + 1) + (f * 10 + d)) (p + 1) up ≡ tried_at rule word whole r (p + 1)
    tried_is up u =
        ap₂ (λ (x : ℕ) (s : Bool). around_of rule word (whole * 10 ^ (p + 1) + x) (p + 1) s) (next_digits d m e) (u ∙ ap (λ (x : ℕ). leb (2 ^ 87) x)
        (next_left m g))

    one_more : short_from (27 - p) rule word whole r p ≡ or_else (tried_at rule word whole r (p + 1)) (short_from (27 - (p + 1)) rule word whole r (p + 1))
    one_more = ap (λ (i : ℕ). short_from i rule word whole r p) count ∙ step
      where
        count : 27 - p ≡ suc (27 - (p + 1))
        count = omega arith

        step : short_from (suc (27 - (p + 1))) rule word whole r p ≡ or_else (tried_at rule word whole r (p + 1)) (short_from (27 - (p + 1)) rule word whole r
            (p + 1))
        step = unfold short_from in rw (lt-ltb (r * 10 ^ p / 2 ^ 88) (10 ^ 17) (subst (λ (x : ℕ). x < 10 ^ 17) t.digits room))

    pub goes_on : tried_at rule word whole r (p + 1) ≡ Nothing → Trying rule word whole r (f * 10 + d) (p + 1) k m
    goes_on z = record {
      leads = sym (one_more ∙ ap (λ (s : Short). or_else s (short_from (27 - (p + 1)) rule word whole r (p + 1))) z) ∙ t.leads;
      within = omega arith;
      digits = next_digits d m e;
      remains = next_left m g;
      small = next_small d e;
      nine = now_nines;
    }

    pub found : (w v q : ℕ) → tried_at rule word whole r (p + 1) ≡ Decimal w v q → Decimal w v q ≡ short_from 27 rule word whole r 0
    found w v q z = sym (one_more ∙ ap (λ (s : Short). or_else s (short_from (27 - (p + 1)) rule word whole r (p + 1))) z) ∙ t.leads

  pub full : p < 27 → 10 ^ 17 ≤ f → Nothing ≡ short_from 27 rule word whole r 0
  full low h = sym (ap (λ (i : ℕ). short_from i rule word whole r p) count ∙ step) ∙ t.leads
    where
      count : 27 - p ≡ suc (27 - (p + 1))
      count = omega arith

      step : short_from (suc (27 - (p + 1))) rule word whole r p ≡ Nothing
      step = unfold short_from in rw (le-ltb (r * 10 ^ p / 2 ^ 88) (10 ^ 17) (subst (λ (x : ℕ). 10 ^ 17 ≤ x) t.digits h))

  pub ends : 27 ≤ p → Nothing ≡ short_from 27 rule word whole r 0
  ends h = sym (ap (λ (i : ℕ). short_from i rule word whole r p) count ∙ (unfold short_from in refl)) ∙ t.leads
    where
      count : 27 - p ≡ 0
      count = omega arith

pub no_nines : (s t : Bool) → s ≡ false → false ≡ (s && t)
no_nines false true e = refl
no_nines false false e = refl
no_nines true t e = let z : ◌≡◌ {A = ℕ} 0 1 = cc in absurd (omega arith)
