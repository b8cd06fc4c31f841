-- Hex digits are read one after another, and reading on from the value so far leads to the number. Assumes nothing.
use mathlib.Core.Path.{◌≡◌, refl, sym, ap, ◌∙◌}
use mathlib.Core.List.{List}
use Prim.Native.Nat.{ℕ, ◌+◌, ◌*◌, ◌^◌, ◌≤◌, ◌<◌}
use native.Mathlib.Numerals.{add-one}
use native.Mathlib.Nat.{pow-suc, pow-le-pow_right, lt_of_lt_of_le}
use native.Mathlib.Omega.{arith}
use borrow.Author.Tests.{lt-ltb, le-ltb}
use lib.ListN.{length, drop, get_or, drop_of_length-le}
use lib.Seq.{drop-cons}
use Rattle.listing.specs.declared.hex.Hex.TheVariants.{Number, Nothing as Unread}
use Rattle.listing.specs.Hex.{digit_value, hex_from}

-- what holds where the loop stands: reading on from the value leads to the number
pub record Reading (text : List ℕ) (value i : ℕ) : Type 0 where
  pub leads : hex_from value (drop i text) ≡ hex_from 0 text
  pub within : i ≤ length text
  pub small : value < 16 ^ i

pub starts : (text : List ℕ) → Reading text 0 0
starts text = record { leads = refl; within = omega arith; small = omega arith }

-- eight digits make no more than 32 bits
pub narrow : (text : List ℕ) (value i : ℕ) → Reading text value i → length text ≤ 8 → value < 4294967296
narrow text value i r l = lt_of_lt_of_le r.small (pow-le-pow_right {n = 16} (omega arith) {i = i} {j = 8} (let w = r.within in omega arith))

-- one digit more, and a character that is none
pub on : (text : List ℕ) (value i d : ℕ) → i < length text → d ≡ digit_value (get_or text i 0) → d < 16
    → hex_from value (drop i text) ≡ hex_from (value * 16 + d) (drop (i + 1) text)
unfolding hex_from
on text value i d l e h = rw (drop-cons text i 0 l, ← e, lt-ltb d 16 h, add-one i)

pub off : (text : List ℕ) (value i d : ℕ) → i < length text → d ≡ digit_value (get_or text i 0) → 16 ≤ d → hex_from value (drop i text) ≡ Unread
unfolding hex_from
off text value i d l e h = rw (drop-cons text i 0 l, ← e, le-ltb d 16 h)

pub reads_on : (text : List ℕ) (value i d : ℕ) → Reading text value i → i < length text → d ≡ digit_value (get_or text i 0) → d < 16 → Reading text
    (value * 16 + d) (i + 1)
reads_on text value i d r l e h = record {
  leads = sym (on text value i d l e h) ∙ r.leads;
  within = omega arith;
  small = let p = ap (λ (n : ℕ). 16 ^ n) (add-one i) ∙ pow-suc 16 i in let s = r.small in omega arith;
}

pub unreadable : (text : List ℕ) (value i d : ℕ) → Reading text value i → i < length text → d ≡ digit_value (get_or text i 0) → 16 ≤ d → Unread ≡ hex_from 0 text
unreadable text value i d r l e h = sym (off text value i d l e h) ∙ r.leads

pub all_read : (text : List ℕ) (value i : ℕ) → Reading text value i → length text ≤ i → Number value ≡ hex_from 0 text
all_read text value i r l = sym done ∙ r.leads
  where
    done : hex_from value (drop i text) ≡ Number value
    done = unfold hex_from in rw (drop_of_length-le text l)
