-- The bytes of a number the other way round. Assumes nothing.
use mathlib.Core.Path.{◌≡◌, sym, ap, ap₂, ◌∙◌}
use mathlib.Core.List.{List, ◌++◌, reverse}
use Prim.Native.Nat.{ℕ, ◌+◌, ◌*◌, ◌/◌, ◌%◌, ◌<◌}
use native.Mathlib.Nat.{mod-lt}
use native.Mathlib.Omega.{arith}
use lib.Dec.{lit<}
use Rattle.numbers.specs.Little.{le4, le8, high4, high8}
use Rattle.numbers.proofs.Exact.{same_bytes, le8_joined}

pub four : (w : ℕ) → w < 4294967296 → le4 (w % 256 * 16777216 + w / 256 % 256 * 65536 + w / 65536 % 256 * 256 + w / 16777216) ≡ high4 w
four w h =
    let a = w % 256 in
    let b = w / 256 % 256 in
    let c = w / 65536 % 256 in
    let d = w / 16777216 in
    let turned : a * 16777216 + b * 65536 + c * 256 + d ≡ d + c * 256 + b * 65536 + a * 16777216 = omega arith in
    let e : d % 256 ≡ d = omega arith in
    ap le4 turned
    ∙ same_bytes d c b a (omega arith) (mod-lt (w / 65536) (lit< tt)) (mod-lt (w / 256) (lit< tt)) (mod-lt w (lit< tt))
    ∙ sym (rw e)

-- the halves of a number change places, and the bytes of each
pub eight : (w x y : ℕ) → x < 4294967296 → le4 x ≡ high4 (w / 4294967296) → le4 y ≡ high4 (w % 4294967296) → le8 (x + y * 4294967296) ≡ high8 w
eight w x y h p q =
    let low = w % 4294967296 in
    let high = w / 4294967296 in
    let whole : w ≡ low + high * 4294967296 = omega arith in
    le8_joined x y h
    ∙ ap₂ (λ (s t : List ℕ). s ++ t) p q
    ∙ sym (ap reverse (ap le8 whole ∙ le8_joined low high (mod-lt w (lit< tt))))

-- what is the other way round is so from either side
pub back : (w r : ℕ) → le8 r ≡ high8 w → high8 r ≡ le8 w
back w r e = ap reverse e
