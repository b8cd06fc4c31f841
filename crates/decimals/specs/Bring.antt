-- A decimal number of digits k and p places, k / 10 ^ p, as a word under a rule. Definitions only. Assumes nothing.
use Rattle.std.specs.Prelude.{ℕ, ◌+◌, ◌*◌, ◌%◌, ◌^◌, ◌≤◌, ◌<◌, ◌≡◌, Bool, cond, ◌⊎◌, eqb, ltb}
use Rattle.numbers.specs.Signed.{with_sign}
use Rattle.terms.specs.declared.Rule.{Rule}
use Rattle.terms.specs.declared.Refusal.TheVariants.{TooLarge, TooSmall}
use Rattle.float.specs.declared.Flagged.{Flagged}
use Rattle.float.specs.Word.{size88}
use Rattle.float.specs.Cut.{cut}
use Rattle.decimals.specs.declared.bring.Brought.{Brought}
use Rattle.decimals.specs.declared.bring.Brought.TheVariants.{Exact, Rounded, Refused}
use Rattle.decimals.specs.declared.bring.Quotient.{Quotient}
use Rattle.decimals.specs.declared.bring.Near.{Near}

-- what k / 10 ^ p is answered where r is its value brought to 24 bits: overflow, a magnitude of 2 ^ 63 or more (11); exact where the word's value is k /
-- 10 ^ p
abbrev pub judged : Flagged → ℕ → ℕ → Brought
judged r k p = cond (eqb r.error 0) (cond (eqb (size88 r.word * 10 ^ p) (k * 2 ^ 88)) (Exact r.word) (Rounded r.word)) (Refused TooLarge)

-- zero is the zero word; under 2 ^ -65 as it is given (12); else by its value brought to 24 bits
unfoldable pub bring_of : Rule → Bool → ℕ → ℕ → Brought
unfolding cut
bring_of rule neg k p =
    cond (eqb k 0) (Exact 0)
    (cond (ltb (k * 2 ^ 65) (10 ^ p)) (Refused TooSmall)
    (judged (cut rule (with_sign neg k) (10 ^ p)) k p))

-- ---- as the program finds it
-- one bit more of a quotient by d
abbrev pub NextBit : Quotient → ℕ → Quotient → Type 0
NextBit q d r = (r.whole * d + r.rest ≡ 2 * (q.whole * d + q.rest)) × (r.rest < d) × (r.bits ≡ q.bits + 1)

-- a quotient by d, so many bits further than q and r began
pub record Quotient·Of (q r d : ℕ) (found : Quotient) : Type 0 where
  pub same : found.whole * d + found.rest ≡ (q * d + r) * 2 ^ found.bits
  pub below : found.rest < d
  pub enough : 2 ^ 25 ≤ found.whole
  pub few : found.bits ≤ 88

-- t stands for n in units of u: n is t units, or t is odd and n lies strictly between t - 1 and t + 1 units
abbrev pub StandsFor : ℕ → ℕ → ℕ → Type 0
StandsFor n u t = (n ≡ t * u) ⊎ ((t % 2 ≡ 1) × (t * u < n + u) × (n < t * u + u))

-- a number of at least 26 bits that stands for k / 10 ^ p in fine units of 2 ^ -200
pub record NearTo (k p : ℕ) (found : Near) : Type 0 where
  pub stands : StandsFor (k * 2 ^ 200) (10 ^ p * 2 ^ found.place) found.stand
  pub enough : 2 ^ 25 ≤ found.stand
  pub least : 24 ≤ found.place
  pub most : found.place ≤ 200
