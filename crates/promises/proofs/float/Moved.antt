-- The value of a result: its word is sign, m and e of the exact value's pair where no error is set, the same with e less 128 after overflow and
-- with e more 128 after underflow. Assumes nothing.
use mathlib.Core.Path.{◌≡◌, sym, ap, ◌∙◌, subst, subst₂}
use mathlib.Core.Logic.{◌⊎◌, inl, inr, ⊎_elim}
use Prim.Native.Nat.{ℕ, ◌+◌, ◌*◌, ◌^◌, ◌≤◌, ◌<◌}
use native.Mathlib.Nat.{mul_assoc, mul_comm}
use native.Mathlib.Omega.{arith}
use lib.IntN.{ℤ, pos, neg_ℤ, sub_ℕ, ◌+ℤ◌, ◌-ℤ◌}
use lib.Signed.{◌≤ℤ◌}
use lib.Ieee.{up, down}
use Rattle.numbers.proofs.Differences.{either, above, beneath, parts, le_differences, less_difference}
use Rattle.terms.specs.declared.Rule.{Rule}
use Rattle.float.specs.declared.Flagged.{Flagged}
use Rattle.float.specs.Word.{biased, exponent, mantissa, size88}
use Rattle.promises.proofs.float.OnePair.{scale}
use Rattle.promises.specs.FloatResults.{Steps, CutsBy}

-- the magnitude x, times 2 ^ 88, is m * 2 ^ (e - 24)
abbrev pub IsSize : ℕ → ℕ → ℤ → Type 0
IsSize x m e = x * down (e -ℤ pos 24) ≡ m * (2 ^ 88 * up (e -ℤ pos 24))

-- the magnitude of every word is m * 2 ^ (e - 24)
pub word_size : (w : ℕ) → IsSize (size88 w) (mantissa w) (exponent w)
unfolding size88
word_size w = go (mantissa w) (biased w)
  where
    go : (m b : ℕ) → m * 2 ^ b * down (sub_ℕ b 64 -ℤ pos 24) ≡ m * (2 ^ 88 * up (sub_ℕ b 64 -ℤ pos 24))
    go m b =
        rw (less_difference b 64 24)
        (mul_assoc m (2 ^ b) (down (sub_ℕ b 88)) ∙ ap (λ (x : ℕ). m * x) (sym (scale b 88) ∙ mul_comm (up (sub_ℕ b 88)) (2 ^ 88)))

-- ---- which of the three steps it was
places : (e : ℤ) → ((neg_ℤ (pos 64) ≤ℤ e) × (e ≤ℤ pos 63)) ⊎ ((pos 64 ≤ℤ e) ⊎ (e ≤ℤ neg_ℤ (pos 65)))
places e = ⊎_elim low (λ h. inr (inl (from 64 0 (omega arith)))) (either (above e) (beneath e + 64))
  where
    from : (a b : ℕ) → a + beneath e ≤ above e + b → sub_ℕ a b ≤ℤ e
    from a b h = subst (λ (x : ℤ). sub_ℕ a b ≤ℤ x) (sym (parts e)) (le_differences a b (above e) (beneath e) h)

    to : (a b : ℕ) → above e + b ≤ a + beneath e → e ≤ℤ sub_ℕ a b
    to a b h = subst (λ (x : ℤ). x ≤ℤ sub_ℕ a b) (sym (parts e)) (le_differences (above e) (beneath e) a b h)

    low : above e < beneath e + 64 → ((neg_ℤ (pos 64) ≤ℤ e) × (e ≤ℤ pos 63)) ⊎ ((pos 64 ≤ℤ e) ⊎ (e ≤ℤ neg_ℤ (pos 65)))
    low h = ⊎_elim (λ (k : above e + 64 < beneath e). inr (inr (to 0 65 (omega arith)))) (λ (k : beneath e ≤ above e + 64). inl (
      from 0 64 (omega arith),
      to 63
          0 (omega arith),
    )) (either (above e + 64) (beneath e))

module _ (e : ℤ) (r : Flagged) (s : Steps e r) where
  clash : {A : Type 0} (x y : ℕ) → r.error ≡ x → r.error ≡ y → (x ≡ y → ⊥) → A
  clash x y a b n = absurd (n (sym a ∙ b))

  -- no error: e is from -64 to 63 and stored
  pub stored_as_is : r.error ≡ 0 → (neg_ℤ (pos 64) ≤ℤ e) × (e ≤ℤ pos 63) × (exponent r.word ≡ e)
  stored_as_is h = go (places e)
    where
      go : ((neg_ℤ (pos 64) ≤ℤ e) × (e ≤ℤ pos 63)) ⊎ ((pos 64 ≤ℤ e) ⊎ (e ≤ℤ neg_ℤ (pos 65))) → (neg_ℤ (pos 64) ≤ℤ e) × (e ≤ℤ pos 63) × (exponent r.word ≡ e)
      go (inl w) = (w.0, w.1, (s.within w.0 w.1).1)
      go (inr (inl w)) = clash 0 1 h (s.over w).0 (λ z. omega arith)
      go (inr (inr w)) = clash 0 2 h (s.under w).0 (λ z. omega arith)

  -- overflow: e is above 63 and e - 128 stored
  pub stored_over : r.error ≡ 1 → (pos 64 ≤ℤ e) × (exponent r.word ≡ e -ℤ pos 128)
  stored_over h = go (places e)
    where
      go : ((neg_ℤ (pos 64) ≤ℤ e) × (e ≤ℤ pos 63)) ⊎ ((pos 64 ≤ℤ e) ⊎ (e ≤ℤ neg_ℤ (pos 65))) → (pos 64 ≤ℤ e) × (exponent r.word ≡ e -ℤ pos 128)
      go (inl w) = clash 1 0 h (s.within w.0 w.1).0 (λ z. omega arith)
      go (inr (inl w)) = (w, (s.over w).1)
      go (inr (inr w)) = clash 1 2 h (s.under w).0 (λ z. omega arith)

  -- underflow: e is below -64 and e + 128 stored
  pub stored_under : r.error ≡ 2 → (e ≤ℤ neg_ℤ (pos 65)) × (exponent r.word ≡ e +ℤ pos 128)
  stored_under h = go (places e)
    where
      go : ((neg_ℤ (pos 64) ≤ℤ e) × (e ≤ℤ pos 63)) ⊎ ((pos 64 ≤ℤ e) ⊎ (e ≤ℤ neg_ℤ (pos 65))) → (e ≤ℤ neg_ℤ (pos 65)) × (exponent r.word ≡ e +ℤ pos 128)
      go (inl w) = clash 2 0 h (s.within w.0 w.1).0 (λ z. omega arith)
      go (inr (inl w)) = clash 2 1 h (s.over w).0 (λ z. omega arith)
      go (inr (inr w)) = (w, (s.under w).1)

-- ---- the value of a cut
module _ {rule : Rule} {z : ℤ} {d : ℕ} {lo hi : ℤ} {r : Flagged} (c : CutsBy rule z d lo hi r) where
  sized : (e : ℤ) → exponent r.word ≡ e → IsSize (size88 r.word) c.m e
  sized e h = subst₂ (λ (m : ℕ) (x : ℤ). IsSize (size88 r.word) m x) c.digits h (word_size r.word)

  pub value_kept : r.error ≡ 0 → IsSize (size88 r.word) c.m c.e
  value_kept h = sized c.e (stored_as_is c.e r c.step h).2

  pub value_over : r.error ≡ 1 → IsSize (size88 r.word) c.m (c.e -ℤ pos 128)
  value_over h = sized (c.e -ℤ pos 128) (stored_over c.e r c.step h).1

  pub value_under : r.error ≡ 2 → IsSize (size88 r.word) c.m (c.e +ℤ pos 128)
  value_under h = sized (c.e +ℤ pos 128) (stored_under c.e r c.step h).1
