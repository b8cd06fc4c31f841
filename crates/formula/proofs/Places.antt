-- Places: one number for a place of the text and one of the postfix, and how both go on. Assumes nothing.
use mathlib.Core.Path.{◌≡◌, refl, sym, ◌∙◌}
use mathlib.Core.Bool.{Bool, true, false}
use mathlib.Core.List.{List}
use Prim.Native.Nat.{ℕ, ◌+◌, ◌*◌, ◌-◌, ◌≤◌, ◌<◌}
use native.Mathlib.Omega.{arith}
use borrow.Author.Tests.{eq-eqb, ne_eqb}
use lib.Dec.{eqb}
use lib.ListN.{get_or}
use Rattle.formula.specs.File.{minus_code}
use Rattle.formula.specs.Told.{at_of, end_of, nowhere, closed_at, longer_of}
use Rattle.formula.specs.Postfix.{lowered_by}

-- ---- a command behind its operands
pub longer_none : (p : ℕ) → p ≡ nowhere → longer_of p ≡ nowhere
longer_none p e = rw (eq-eqb p nowhere e)

pub longer_is : (p : ℕ) → (p ≡ nowhere → ⊥) → longer_of p ≡ p + 512
longer_is p n = rw (ne_eqb p nowhere n)

-- ---- the closing bracket
pub closed_is : (text : List ℕ) (p b : ℕ) → b ≡ get_or text (at_of p) 0 → b ≡ 0x29 → closed_at text p ≡ p + 1
closed_is text p b e h = rw (eq-eqb (get_or text (at_of p) 0) 0x29 (sym e ∙ h))

pub closed_none : (text : List ℕ) (p b : ℕ) → b ≡ get_or text (at_of p) 0 → (b ≡ 0x29 → ⊥) → closed_at text p ≡ nowhere
closed_none text p b e h = rw (ne_eqb (get_or text (at_of p) 0) 0x29 (λ z. h (e ∙ z)))

-- ---- the two numbers of a place
pub place_is : (p : ℕ) → p ≡ 512 * end_of p + at_of p
unfolding at_of end_of
place_is p = omega arith

pub at_small : (p : ℕ) → at_of p < 512
unfolding at_of
at_small p = omega arith

pub nowhere_at : at_of nowhere ≡ 511
unfolding at_of
nowhere_at = refl

pub first_at : at_of 0 ≡ 0
unfolding at_of
first_at = refl

pub first_end : end_of 0 ≡ 0
unfolding end_of
first_end = refl

pub end_small : (p : ℕ) → p < 131072 → end_of p < 256
unfolding end_of
end_small p h = omega arith

-- ---- the next places
pub next_at : (p : ℕ) → at_of p < 511 → at_of (p + 1) ≡ at_of p + 1
unfolding at_of end_of
next_at p h = omega arith

pub next_end : (p : ℕ) → at_of p < 511 → end_of (p + 1) ≡ end_of p
unfolding at_of end_of
next_end p h = omega arith

pub longer_at : (p : ℕ) → at_of (p + 512) ≡ at_of p
unfolding at_of end_of
longer_at p = omega arith

pub longer_end : (p : ℕ) → end_of (p + 512) ≡ end_of p + 1
unfolding at_of end_of
longer_end p = omega arith

-- n bytes of text and of postfix
pub both : (p n : ℕ) → at_of p + n < 512 → (at_of (p + 513 * n) ≡ at_of p + n) × (end_of (p + 513 * n) ≡ end_of p + n)
unfolding at_of end_of
both p n h = (omega arith, omega arith)

-- ---- the height after a command
pub lowered_le : (c h : ℕ) → lowered_by c h ≤ h
lowered_le c h = go (eqb c minus_code) refl
  where
    go : (t : Bool) → eqb c minus_code ≡ t → lowered_by c h ≤ h
    go true e = rw e (omega arith)
    go false e = rw e (omega arith)

pub lowered_minus : (c h : ℕ) → c ≡ minus_code → h ≡ lowered_by c h
lowered_minus c h e = rw (eq-eqb c minus_code e)

pub lowered_less : (c h r : ℕ) → (c ≡ minus_code → ⊥) → r ≡ h - 1 → r ≡ lowered_by c h
lowered_less c h r n e = e ∙ sym (rw (ne_eqb c minus_code n))
