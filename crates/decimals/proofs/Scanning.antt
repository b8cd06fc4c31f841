-- Digits at the front of a text are read one after another, and reading on from those read leads to the same. Assumes nothing.
use mathlib.Core.Path.{◌≡◌, refl, sym, ap, ◌∙◌}
use mathlib.Core.Bool.{Bool, true, false, cond, not}
use mathlib.Core.List.{List}
use Prim.Native.Nat.{ℕ, ◌+◌, ◌-◌, ◌*◌, ◌^◌, ◌≤◌, ◌<◌}
use native.Mathlib.Nat.{pow-suc}
use native.Mathlib.Numerals.{add-one}
use native.Mathlib.Omega.{arith}
use borrow.Author.Tests.{lt-ltb, le-ltb, ltb-true, ltb-false}
use lib.Dec.{ltb}
use lib.ListN.{length, drop, get_or, drop_of_length-le}
use lib.Seq.{drop-cons}
use Rattle.decimals.specs.declared.read.Scanned.TheVariants.{Digits, TooMany}
use Rattle.decimals.specs.Read.{is_digit, scan_from, scan_of}

pub digit_within : (c : ℕ) → is_digit c ≡ true → (48 ≤ c) × (c < 58)
digit_within c e = go (ltb c 48) refl e
  where
    go : (t : Bool) → ltb c 48 ≡ t → cond t false (ltb c 58) ≡ true → (48 ≤ c) × (c < 58)
    go true f g = let z : ◌≡◌ {A = ℕ} 0 1 = cc in absurd (omega arith)
    go false f g = (ltb-false c 48 f, ltb-true c 58 g)

pub digit_small : (c : ℕ) → is_digit c ≡ true → c - 48 < 2 ^ 64
digit_small c e = let d = digit_within c e in omega arith

pub digit_room : (v c : ℕ) → v < 10 ^ 18 → is_digit c ≡ true → v * 10 + (c - 48) < 2 ^ 64
digit_room v c h e = let d = digit_within c e in omega arith

pub record Scanning (text : List ℕ) (value i : ℕ) : Type 0 where
  pub leads : scan_from value i (drop i text) ≡ scan_of text
  pub within : i ≤ length text
  pub small : value < 10 ^ i
  pub narrow : value < 10 ^ 19

pub starts : (text : List ℕ) → Scanning text 0 0
starts text = record { leads = refl; within = omega arith; small = omega arith; narrow = omega arith }

module _ (text : List ℕ) (value i : ℕ) (s : Scanning text value i) where
  pub stops : i < length text → is_digit (get_or text i 0) ≡ false → Digits value i ≡ scan_of text
  stops l e = sym here ∙ s.leads
    where
      here : scan_from value i (drop i text) ≡ Digits value i
      here = unfold scan_from in rw (drop-cons text i 0 l, e)

  pub full : i < length text → is_digit (get_or text i 0) ≡ true → 10 ^ 18 ≤ value → TooMany i ≡ scan_of text
  full l e h = sym here ∙ s.leads
    where
      here : scan_from value i (drop i text) ≡ TooMany i
      here = unfold scan_from in rw (drop-cons text i 0 l, e, le-ltb value (10 ^ 18) h)

  pub goes_on : i < length text → is_digit (get_or text i 0) ≡ true → value < 10 ^ 18 → Scanning text (value * 10 + (get_or text i 0 - 48)) (i + 1)
  goes_on l e h =
      let d = digit_within (get_or text i 0) e in
      let p : 10 ^ (i + 1) ≡ 10 ^ i * 10 = ap (λ (n : ℕ). 10 ^ n) (add-one i) ∙ pow-suc 10 i in
      let v = s.small in
      record { leads = sym here ∙ s.leads; within = omega arith; small = omega arith; narrow = omega arith }
    where
      here : scan_from value i (drop i text) ≡ scan_from (value * 10 + (get_or text i 0 - 48)) (i + 1) (drop (i + 1) text)
      here = unfold scan_from in rw (drop-cons text i 0 l, e, lt-ltb value (10 ^ 18) h, add-one i)

  pub ends : length text ≤ i → Digits value i ≡ scan_of text
  ends l = sym here ∙ s.leads
    where
      here : scan_from value i (drop i text) ≡ Digits value i
      here = unfold scan_from in rw (drop_of_length-le text l)

-- what a test that is turned round says
pub not-true : (s t : Bool) → s ≡ t → not s ≡ true → t ≡ false
not-true true t e f = let z : ◌≡◌ {A = ℕ} 0 1 = cc in absurd (omega arith)
not-true false t e f = sym e

pub not-false : (s t : Bool) → s ≡ t → not s ≡ false → t ≡ true
not-false true t e f = sym e
not-false false t e f = let z : ◌≡◌ {A = ℕ} 0 1 = cc in absurd (omega arith)
