-- The hex digits of a sum are read two at a time, a byte, the highest first: reading on from the bytes so far leads to the number. Assumes nothing.
use mathlib.Core.Path.{◌≡◌, sym, ap, ◌∙◌}
use mathlib.Core.Bool.{Bool, true, false, not}
use mathlib.Core.List.{List, [], ◌∷◌, ◌++◌}
use Prim.Native.Nat.{ℕ, suc, ◌+◌, ◌-◌, ◌*◌, ◌≤◌, ◌<◌}
use native.Mathlib.Omega.{arith}
use native.Mathlib.Numerals.{add-one}
use borrow.Author.Tests.{eq-eqb, ne_eqb}
use lib.Dec.{eqb}
use lib.ListN.{length, take, drop, get_or, set, length-set, drop_of_length-le}
use lib.Seq.{set_split, drop_at, length-take-le}
use Rattle.listing.specs.declared.hex.Hex.TheVariants.{Number, Nothing as Unread}
use Rattle.decimals.specs.Magnitude.{bytes_at}
use Rattle.listing.specs.Hex.{digit_value, hex_from, hex_of}
use Rattle.decimals.specs.Sum.{Bytes·Of, no_sum, size_line, is_sign, sum_line}
use Rattle.decimals.specs.Exact.{exact_text}
use Rattle.listing.proofs.HexReading.{on, off}

-- so many bytes are left to be read, and the digits before this place are read
pub record Filling (digits bytes : List ℕ) (left i : ℕ) : Type 0 where
  pub leads : hex_from (bytes_at (drop left bytes)) (drop i digits) ≡ hex_from 0 digits
  pub places : i + 2 * left ≡ 48
  pub long : length bytes ≡ 24

pub starts : (digits bytes : List ℕ) → length bytes ≡ 24 → Filling digits bytes 24 0
starts digits bytes h = record { leads = rw (drop_of_length-le bytes (let e : length bytes ≤ 24 = omega arith in e)); places = omega arith; long = h }

-- a byte that is written stands before those above it
written : (l : List ℕ) (k v : ℕ) → k < length l → drop k (set l k v) ≡ v ∷ drop (k + 1) l
written l k v h =
    ap (drop k) (set_split l k v h) ∙ drop_at (take k l) (v ∷ drop (suc k) l) k (length-take-le k l (omega arith)) ∙ rw (add-one k)

module _ (digits bytes : List ℕ) (left i : ℕ) (f : Filling digits bytes left i) (more : 0 < left) (all : length digits ≡ 48) where
  pub fills : (high low : ℕ) → high ≡ digit_value (get_or digits i 0) → low ≡ digit_value (get_or digits (i + 1) 0) → high < 16 → low < 16
      → Filling digits (set bytes (left - 1) (high * 16 + low)) (left - 1) (i + 2)
  fills high low a b h l = record {
    leads = number ∙ f.leads;
    places = omega (arith, f.places);
    long = length-set bytes (left - 1) (high * 16 + low) ∙ f.long;
  }
    where
      n : ℕ
      n = bytes_at (drop left bytes)

      first : hex_from n (drop i digits) ≡ hex_from (n * 16 + high) (drop (i + 1) digits)
      first = on digits n i high (omega (arith, f.places)) a h

      second : hex_from (n * 16 + high) (drop (i + 1) digits) ≡ hex_from ((n * 16 + high) * 16 + low) (drop (i + 1 + 1) digits)
      second = on digits (n * 16 + high) (i + 1) low (omega (arith, f.places)) b l

      next : left - 1 + 1 ≡ left
      next = omega arith

      put : bytes_at (drop (left - 1) (set bytes (left - 1) (high * 16 + low))) ≡ (n * 16 + high) * 16 + low
      put = ap bytes_at (written bytes (left - 1) (high * 16 + low) (omega (arith, f.places, f.long)))
          ∙ ap (λ (k : ℕ). high * 16 + low + 256 * bytes_at (drop k bytes)) next ∙ omega arith

      two : i + 2 ≡ i + 1 + 1
      two = omega arith

      number : hex_from (bytes_at (drop (left - 1) (set bytes (left - 1) (high * 16 + low)))) (drop (i + 2) digits) ≡ hex_from n (drop i digits)
      number = rw (put, two) (sym (first ∙ second))

  pub high_none : (d : ℕ) → d ≡ digit_value (get_or digits i 0) → 16 ≤ d → hex_of digits ≡ Unread
  high_none d e h = sym f.leads ∙ off digits (bytes_at (drop left bytes)) i d (omega (arith, f.places)) e h

  pub low_none : (high d : ℕ) → high ≡ digit_value (get_or digits i 0) → high < 16 → d ≡ digit_value (get_or digits (i + 1) 0) → 16 ≤ d → hex_of digits ≡ Unread
  low_none high d a g e h =
      sym f.leads ∙ on digits (bytes_at (drop left bytes)) i high (omega (arith, f.places)) a g
      ∙ off digits (bytes_at (drop left bytes) * 16 + high) (i + 1) d (omega (arith, f.places)) e h

pub all_filled : (digits bytes : List ℕ) (left i : ℕ) → Filling digits bytes left i → length digits ≡ 48 → left ≤ 0 → hex_of digits ≡ Number (bytes_at bytes)
all_filled digits bytes left i f all h =
    let z : left ≡ 0 = omega arith in
    sym f.leads ∙ ap (λ (k : ℕ). hex_from (bytes_at (drop k bytes)) (drop i digits)) z ∙ end
  where
    end : hex_from (bytes_at bytes) (drop i digits) ≡ Number (bytes_at bytes)
    end = unfold hex_from in rw (drop_of_length-le digits (let e : length digits ≤ i = omega (arith, f.places) in e))

-- the sum by the tests that the code makes
module _ (text : List ℕ) where
  pub another : (length text ≡ 49 → ⊥) → no_sum ≡ sum_line text
  unfolding sum_line
  another h = rw (ne_eqb (length text) 49 h)

  pub no_sign : length text ≡ 49 → is_sign (get_or text 0 0) ≡ false → no_sum ≡ sum_line text
  unfolding sum_line
  no_sign h e = rw (eq-eqb (length text) 49 h, e)

  signed : length text ≡ 49 → is_sign (get_or text 0 0) ≡ true → size_line (eqb (get_or text 0 0) 45) (hex_of (drop 1 text)) ≡ sum_line text
  unfolding sum_line
  signed h e = rw (eq-eqb (length text) 49 h, e)

  pub unread : (r : Bool) (bytes : List ℕ) → length text ≡ 49 → is_sign (get_or text 0 0) ≡ true → Bytes·Of (drop 1 text) r bytes → not r ≡ true → no_sum
      ≡ sum_line text
  unread true bytes h e b n = let z : ◌≡◌ {A = ℕ} 0 1 = cc in absurd (omega arith)
  unread false bytes h e b n = ap (size_line (eqb (get_or text 0 0) 45)) (sym b) ∙ signed h e

  pub read : (r : Bool) (bytes : List ℕ) → length text ≡ 49 → is_sign (get_or text 0 0) ≡ true → Bytes·Of (drop 1 text) r bytes → not r ≡ false → (size : ℕ)
      → size ≡ bytes_at bytes → exact_text (eqb (get_or text 0 0) 45) size ++ (10 ∷ []) ≡ sum_line text
  read true bytes h e b n size s =
      ap (λ (k : ℕ). exact_text (eqb (get_or text 0 0) 45) k ++ (10 ∷ [])) s
      ∙ ap (size_line (eqb (get_or text 0 0) 45)) (sym b) ∙ signed h e
  read false bytes h e b n size s = let z : ◌≡◌ {A = ℕ} 0 1 = cc in absurd (omega arith)
