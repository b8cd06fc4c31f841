-- Whole numbers as differences of two numbers: sum, opposite, product, and the order. Assumes nothing.
use mathlib.Core.Path.{◌≡◌, refl, sym, ap, ap₂, ◌∙◌, subst₂}
use mathlib.Core.Logic.{◌⊎◌, inl, inr, ⊎_elim}
use mathlib.Core.Bool.{Bool, true, false}
use Prim.Native.Nat.{ℕ, zero, suc, ◌+◌, ◌-◌, ◌≤◌, ◌<◌}
use native.Mathlib.Omega.{arith}
use borrow.Author.Tests.{lt-ltb, le-ltb, ltb-true, ltb-false}
use lib.Dec.{ltb, leb→le, le→leb}
use lib.IntN.{ℤ, pos, negsuc, neg_ℤ, nat_abs, sub_ℕ, ◌+ℤ◌, ◌-ℤ◌, +ℤ_comm}
use lib.Signed.{◌≤ℤ◌, le_z_yes}

pub either : (a b : ℕ) → (a < b) ⊎ (b ≤ a)
either a b = go (ltb a b) refl
  where
    go : (t : Bool) → ltb a b ≡ t → (a < b) ⊎ (b ≤ a)
    go true e = inl (ltb-true a b e)
    go false e = inr (ltb-false a b e)

pub sub_lt : (a b : ℕ) → a < b → sub_ℕ a b ≡ negsuc (b - suc a)
sub_lt a b h = rw (lt-ltb a b h)

pub sub_ge : (a b : ℕ) → b ≤ a → sub_ℕ a b ≡ pos (a - b)
sub_ge a b h = rw (le-ltb a b h)

-- a - b and c - d are the same number
pub same : (a b c d : ℕ) → a + d ≡ c + b → sub_ℕ a b ≡ sub_ℕ c d
same a b c d e =
    ⊎_elim
    (λ (h : a < b). sub_lt a b h ∙ ap negsuc (omega arith) ∙ sym (sub_lt c d (omega arith)))
    (λ (h : b ≤ a). sub_ge a b h ∙ ap pos (omega arith) ∙ sym (sub_ge c d (omega arith)))
    (either a b)

pub sum_differences : (a b c d : ℕ) → sub_ℕ a b +ℤ sub_ℕ c d ≡ sub_ℕ (a + c) (b + d)
sum_differences a b c d = ⊎_elim (λ (h : a < b). ⊎_elim (nn h) (np h) (either c d)) (λ (h : b ≤ a). ⊎_elim (pn h) (pp h) (either c d)) (either a b)
  where
    nn : a < b → c < d → sub_ℕ a b +ℤ sub_ℕ c d ≡ sub_ℕ (a + c) (b + d)
    nn h k = ap₂ ◌+ℤ◌ (sub_lt a b h) (sub_lt c d k) ∙ ap negsuc (omega arith) ∙ sym (sub_lt (a + c) (b + d) (omega arith))

    np : a < b → d ≤ c → sub_ℕ a b +ℤ sub_ℕ c d ≡ sub_ℕ (a + c) (b + d)
    np h k = ap₂ ◌+ℤ◌ (sub_lt a b h) (sub_ge c d k) ∙ same (c - d) (suc (b - suc a)) (a + c) (b + d) (omega arith)

    pn : b ≤ a → c < d → sub_ℕ a b +ℤ sub_ℕ c d ≡ sub_ℕ (a + c) (b + d)
    pn h k = ap₂ ◌+ℤ◌ (sub_ge a b h) (sub_lt c d k) ∙ same (a - b) (suc (d - suc c)) (a + c) (b + d) (omega arith)

    pp : b ≤ a → d ≤ c → sub_ℕ a b +ℤ sub_ℕ c d ≡ sub_ℕ (a + c) (b + d)
    pp h k = ap₂ ◌+ℤ◌ (sub_ge a b h) (sub_ge c d k) ∙ ap pos (omega arith) ∙ sym (sub_ge (a + c) (b + d) (omega arith))

pub neg_pos : (a : ℕ) → neg_ℤ (pos a) ≡ sub_ℕ 0 a
neg_pos zero = refl
neg_pos (suc a) = sym (sub_lt 0 (suc a) (omega arith) ∙ ap negsuc (omega arith))

pub pos_is : (a : ℕ) → pos a ≡ sub_ℕ a 0
pos_is a = sym (sub_ge a 0 (omega arith) ∙ ap pos (omega arith))

pub opposite_difference : (a b : ℕ) → neg_ℤ (sub_ℕ a b) ≡ sub_ℕ b a
opposite_difference a b =
    ⊎_elim
    (λ (h : a < b). ap neg_ℤ (sub_lt a b h) ∙ ap pos (omega arith) ∙ sym (sub_ge b a (omega arith)))
    (λ (h : b ≤ a). ap neg_ℤ (sub_ge a b h) ∙ neg_pos (a - b) ∙ same 0 (a - b) b a (omega arith))
    (either a b)

-- ---- the parts of a whole number above and below zero
abbrev pub above : ℤ → ℕ
above (pos n) = n
above (negsuc n) = 0

abbrev pub beneath : ℤ → ℕ
beneath (pos n) = 0
beneath (negsuc n) = suc n

pub parts : (z : ℤ) → z ≡ sub_ℕ (above z) (beneath z)
parts (pos n) = pos_is n
parts (negsuc n) = neg_pos (suc n)

pub sum_parts : (x y : ℤ) → x +ℤ y ≡ sub_ℕ (above x + above y) (beneath x + beneath y)
sum_parts x y = ap₂ ◌+ℤ◌ (parts x) (parts y) ∙ sum_differences (above x) (beneath x) (above y) (beneath y)

pub opposite_parts : (x : ℤ) → neg_ℤ x ≡ sub_ℕ (beneath x) (above x)
opposite_parts x = ap neg_ℤ (parts x) ∙ opposite_difference (above x) (beneath x)

-- ---- the order
pub le_differences : (a b c d : ℕ) → a + d ≤ c + b → sub_ℕ a b ≤ℤ sub_ℕ c d
le_differences a b c d h = ⊎_elim (λ (k : a < b). ⊎_elim (nn k) (np k) (either c d)) (λ (k : b ≤ a). ⊎_elim (pn k) (pp k) (either c d)) (either a b)
  where
    nn : a < b → c < d → sub_ℕ a b ≤ℤ sub_ℕ c d
    nn k l = subst₂ (λ (x y : ℤ). x ≤ℤ y) (sym (sub_lt a b k)) (sym (sub_lt c d l)) (le_z_yes (le→leb (d - suc c) (b - suc a) (omega arith)))

    np : a < b → d ≤ c → sub_ℕ a b ≤ℤ sub_ℕ c d
    np k l = subst₂ (λ (x y : ℤ). x ≤ℤ y) (sym (sub_lt a b k)) (sym (sub_ge c d l)) (le_z_yes tt)

    pn : b ≤ a → c < d → sub_ℕ a b ≤ℤ sub_ℕ c d
    pn k l = absurd (omega arith)

    pp : b ≤ a → d ≤ c → sub_ℕ a b ≤ℤ sub_ℕ c d
    pp k l = subst₂ (λ (x y : ℤ). x ≤ℤ y) (sym (sub_ge a b k)) (sym (sub_ge c d l)) (le_z_yes (le→leb (a - b) (c - d) (omega arith)))

pub le_parts : (x y : ℤ) → x ≤ℤ y → above x + beneath y ≤ above y + beneath x
le_parts (pos a) (pos b) h = let l = leb→le a b h.le in omega arith
le_parts (pos a) (negsuc b) h = absurd h.le
le_parts (negsuc a) (pos b) h = omega arith
le_parts (negsuc a) (negsuc b) h = let l = leb→le b a h.le in omega arith

pub le_sum_left : (x y c : ℤ) → x ≤ℤ y → (x +ℤ c) ≤ℤ (y +ℤ c)
le_sum_left x y c h =
    let l = le_parts x y h in
    subst₂ (λ (u v : ℤ). u ≤ℤ v) (sym (sum_parts x c)) (sym (sum_parts y c)) (le_differences (above x + above c) (beneath x + beneath c) (above y + above c)
    (beneath y + beneath c) (omega arith))

pub le_sum_right : (x y c : ℤ) → x ≤ℤ y → (c +ℤ x) ≤ℤ (c +ℤ y)
le_sum_right x y c h = subst₂ (λ (u v : ℤ). u ≤ℤ v) (+ℤ_comm x c) (+ℤ_comm y c) (le_sum_left x y c h)

pub le_opposite : (x y : ℤ) → x ≤ℤ y → neg_ℤ y ≤ℤ neg_ℤ x
le_opposite x y h =
    let l = le_parts x y h in
    subst₂ (λ (u v : ℤ). u ≤ℤ v) (sym (opposite_parts y)) (sym (opposite_parts x)) (le_differences (beneath y) (above y) (beneath x) (above x) (omega arith))

pub differences_le : (a b c d : ℕ) → sub_ℕ a b ≤ℤ sub_ℕ c d → a + d ≤ c + b
differences_le a b c d h = ⊎_elim (λ (k : a < b). ⊎_elim (nn k) (np k) (either c d)) (λ (k : b ≤ a). ⊎_elim (pn k) (pp k) (either c d)) (either a b)
  where
    nn : a < b → c < d → a + d ≤ c + b
    nn k l = let g = le_parts (negsuc (b - suc a)) (negsuc (d - suc c)) (subst₂ (λ (x y : ℤ). x ≤ℤ y) (sub_lt a b k) (sub_lt c d l) h) in omega arith

    np : a < b → d ≤ c → a + d ≤ c + b
    np k l = omega arith

    pn : b ≤ a → c < d → a + d ≤ c + b
    pn k l = let g = le_parts (pos (a - b)) (negsuc (d - suc c)) (subst₂ (λ (x y : ℤ). x ≤ℤ y) (sub_ge a b k) (sub_lt c d l) h) in omega arith

    pp : b ≤ a → d ≤ c → a + d ≤ c + b
    pp k l = let g = le_parts (pos (a - b)) (pos (c - d)) (subst₂ (λ (x y : ℤ). x ≤ℤ y) (sub_ge a b k) (sub_ge c d l) h) in omega arith

pub less_difference : (a b c : ℕ) → sub_ℕ a b -ℤ pos c ≡ sub_ℕ a (b + c)
less_difference a b c = ap (λ (x : ℤ). sub_ℕ a b +ℤ x) (neg_pos c) ∙ sum_differences a b 0 c ∙ same (a + 0) (b + c) a (b + c) (omega arith)

pub more_difference : (a b c : ℕ) → sub_ℕ a b +ℤ pos c ≡ sub_ℕ (a + c) b
more_difference a b c = ap (λ (x : ℤ). sub_ℕ a b +ℤ x) (pos_is c) ∙ sum_differences a b c 0 ∙ same (a + c) (b + 0) (a + c) b (omega arith)

pub size_difference : (a b : ℕ) → nat_abs (sub_ℕ a b) ≡ (a - b) + (b - a)
size_difference a b =
    ⊎_elim (λ (h : a < b). ap nat_abs (sub_lt a b h) ∙ (omega arith)) (λ (h : b ≤ a). ap nat_abs (sub_ge a b h) ∙ (omega arith)) (either a b)
