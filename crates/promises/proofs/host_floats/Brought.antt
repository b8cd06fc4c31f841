-- What `inward_of` answers is right for the f64's value under the rule: a word as exact only where it has that value and the f64 is not minus zero, a word as
-- rounded only where it is the rule's and no word has that value, and each refusal only where 02 has it. Assumes nothing.
use mathlib.Core.Path.{◌≡◌, refl, sym, ap, ◌∙◌, subst, subst₂}
use mathlib.Core.Logic.{◌⊎◌, inl, inr, ⊎_elim}
use mathlib.Core.Bool.{Bool, true, false, cond}
use Prim.Native.Nat.{ℕ, zero, suc, ◌+◌, ◌-◌, ◌*◌, ◌%◌, ◌^◌, ◌≤◌, ◌<◌}
use native.Mathlib.Nat.{le_trans, lt_of_lt_of_le, lt_irrefl, not-le_of_lt, mul_comm, mul_right_comm, mul-pos, mul-le-mul, mul-le-mul_right}
use native.Mathlib.Nat.{mul-lt-mul_of_pos_right, zero-mul, mod-lt}
use native.Mathlib.Omega.{arith}
use lib.Dec.{ltb, eqb, lit<, lit≤}
use lib.IntN.{ℤ, pos, neg_ℤ, nat_abs, ◌-ℤ◌}
use lib.Signed.{◌≤ℤ◌}
use lib.Pow.{pow_pos, pow_mono}
use borrow.Author.Tests.{ltb-true, ltb-false, eqb-true, eqb-false}
use lib.Ieee.{Float, nan, inf, fin, up, down, binary64, of_bits}
use lib.Ieee.Exact.{HasValue}
use lib.Ieee.Fits.{down_pos}
use Rattle.numbers.specs.Signed.{with_sign}
use Rattle.numbers.proofs.Differences.{either, above, beneath, parts, le_differences}
use Rattle.numbers.proofs.Signs.{size_of_signed}
use Rattle.terms.specs.declared.Refusal.TheVariants.{NotFinite, TooLarge, TooSmall, MinusZero}
use Rattle.terms.specs.declared.Rule.{Rule}
use Rattle.terms.specs.declared.Rule.TheVariants.{Cut, Nearest}
use Rattle.float.specs.declared.Flagged.{Flagged}
use Rattle.float.specs.Word.{negative, mantissa, exponent, size88}
use Rattle.promises.specs.FloatWords.{FloatWord}
use Rattle.float.specs.Cut.{below0}
use Rattle.float.specs.Float.{Result}
use Rattle.float.proofs.cut.Signs.{cut_sign}
use Rattle.float.proofs.Results.{cut_result}
use Rattle.promises.proofs.float.Steps.{exactly}
use Rattle.promises.proofs.float.Moved.{stored_as_is}
use Rattle.promises.proofs.float.RulePair.{one_pair_by, a_pair_by}
use Rattle.promises.specs.HostFloats.{HasWord, Endless, IsMinusZero, Small, PairOf, Signed, BroughtTo, LargeBy}
use Rattle.host_floats.specs.Double.{double_sign, double_field, double_fraction, double_bits, brought_of, inward_of}
use Rattle.host_floats.specs.declared.entry.Inward.{Inward}
use Rattle.host_floats.specs.declared.entry.Inward.TheVariants.{Exact, Rounded, Refused}
use Rattle.promises.proofs.host_floats.Signs.{parted, same_value}
use Rattle.host_floats.proofs.WordSizes.{proper_cases, size_zero}
use Rattle.promises.proofs.host_floats.Classes.{all_ones, below_ones, zero_right, minus_right, minus_bits, small_right}
use Rattle.host_floats.proofs.DoubleOut.{double_value_lem}
use Rattle.host_floats.proofs.DoubleIn.{double_size, overflows}
use Rattle.promises.proofs.host_floats.Pairs.{pair_same, own_pair, exponent_reaches, Reaches, pair_reaches, reaches_large, word_below}
use Rattle.promises.proofs.host_floats.Owned.{normal_value, own_cut, own_bits}
use Rattle.promises.specs.FloatResults.{CutsBy, PairBy}
use Rattle.promises.proofs.Measures.{ours_word}

-- ---- the pair of a float from the fraction a / c that it is in size
pair_of : (r : Rule) (x : Float) (s : Bool) (a c m : ℕ) (e : ℤ) → 0 < c → HasValue x s a c → PairBy r a c m e → PairOf r x m e
pair_of r nan s a c m e C h p = h
pair_of r (inf t) s a c m e C h p = h
pair_of r (fin t n k) s a c m e C h p = pair_same a c (n * up k) (down k) m e C (down_pos k) (sym h.1) r p

signed_of : (x : Float) (s t : Bool) (a c : ℕ) → HasValue x s a c → s ≡ t → Signed x t
signed_of nan s t a c h e = h
signed_of (inf u) s t a c h e = h
signed_of (fin u n k) s t a c h e = h.0 ∙ e

-- a magnitude of 2 ^ 63 or more stays so under either rule
large_by : (r : Rule) (x : Float) (s : Bool) (a c : ℕ) → 0 < c → HasValue x s a c → 2 ^ 63 * c ≤ a → LargeBy r x
large_by r x s a c C h l =
    let p = a_pair_by r a c (lt_of_lt_of_le (mul-pos (pow_pos 63) C) l) C in
    record {
      m = p.0;
      e = p.1;
      pair = pair_of r x s a c p.0 p.1 C h p.2;
      reaches = pair_reaches a c p.0 p.1 C r p.2 l;
    }

-- ---- what excludes 2 ^ 63 or more under a rule
large_size : (r : Rule) (s : Bool) (n : ℕ) (k : ℤ) → LargeBy r (fin s n k) → 2 ^ 62 * down k ≤ n * up k
large_size r s n k b = reaches_large (n * up k) (down k) b.m b.e (down_pos k) r b.pair b.reaches

no_size : (r : Rule) (s : Bool) (n : ℕ) (k : ℤ) → n * up k ≡ 0 → LargeBy r (fin s n k) → ⊥
no_size r s n k z b = lt_irrefl 0 (lt_of_lt_of_le (mul-pos (pow_pos 62) (down_pos k)) (subst (λ (y : ℕ). 2 ^ 62 * down k ≤ y) z (large_size r s n k b)))

pub held_large_by : (r : Rule) (x : Float) (w : ℕ) → HasWord x w → LargeBy r x → ⊥
held_large_by r nan w a b = a.same
held_large_by r (inf s) w a b = a.same
held_large_by r (fin s n k) w a b = ⊎_elim some none (proper_cases w a.word.is_proper)
  where
    sizes : n * up k * 2 ^ 88 ≡ size88 w * down k
    sizes = (parted s n k w a.same).0

    some : 8388608 ≤ mantissa w → ⊥
    some h =
        let own = pair_same (size88 w) (2 ^ 88) (n * up k) (down k) (mantissa w) (exponent w) (pow_pos 88) (down_pos k) (sym sizes) r (own_pair r w h) in
        let one = one_pair_by r (n * up k) (down k) b.m (mantissa w) b.e (exponent w) (down_pos k) b.pair own in
        word_below w (subst₂ (λ (m : ℕ) (e : ℤ). Reaches m (e -ℤ pos 24)) one.0 one.1 b.reaches)

    none : w ≡ 0 → ⊥
    none z =
        let f : n * up k * 2 ^ 88 ≡ 0 = sizes ∙ ap (λ (y : ℕ). y * down k) (ap size88 z ∙ size_zero) ∙ zero-mul (down k) in
        no_size r s n k (omega arith) b

pub endless_large_by : (r : Rule) (x : Float) → Endless x → LargeBy r x → ⊥
endless_large_by r nan t b = b.pair
endless_large_by r (inf s) t b = b.pair
endless_large_by r (fin s n k) t b = t

pub minus_large_by : (r : Rule) (x : Float) → IsMinusZero x → LargeBy r x → ⊥
minus_large_by r nan t b = t
minus_large_by r (inf s) t b = t
minus_large_by r (fin s n k) t b = no_size r s n k (ap (λ (y : ℕ). y * up k) t.1 ∙ zero-mul (up k)) b

pub small_large_by : (r : Rule) (x : Float) → Small x → LargeBy r x → ⊥
small_large_by r nan t b = t
small_large_by r (inf s) t b = t
small_large_by r (fin s n k) t b =
    let a = large_size r s n k b in
    let c = t.1 in
    omega arith

-- ---- the cut of an f64 that is neither 10 nor 15 nor zero nor 12
below_or_beyond : (e : ℤ) → (e ≤ℤ pos 63) ⊎ (pos 64 ≤ℤ e)
below_or_beyond e = ⊎_elim
    (λ (h : above e < beneath e + 64). inl (subst (λ (x : ℤ). x ≤ℤ pos 63) (sym (parts e)) (le_differences (above e) (beneath e) 63 0 (omega arith))))
    (λ (h : beneath e + 64 ≤ above e). inr (subst (λ (x : ℤ). pos 64 ≤ℤ x) (sym (parts e)) (le_differences 64 0 (above e) (beneath e) (omega arith))))
    (either (above e) (beneath e + 64))

pair_low : (r : Rule) (n d m : ℕ) (e : ℤ) → PairBy r n d m e → 8388608 ≤ m
pair_low Cut n d m e p = p.low
pair_low Nearest n d m e p = p.low

sign_of : (s : Bool) (n : ℕ) → 0 < n → below0 (with_sign s n) ≡ s
sign_of s zero h = absurd (omega arith)
sign_of true (suc n) h = refl
sign_of false (suc n) h = refl

module _ (rule : Rule) (p : ℕ) (lo : 958 ≤ double_field p) (hi : double_field p < 2047) where
  value : HasValue (of_bits binary64 p) (double_sign p) (double_size p) (2 ^ 1074)
  value = normal_value p (omega arith) hi

  least : 2 ^ 52 * 2 ^ 957 ≤ double_size p
  least = mul-le-mul {n₁ = 2 ^ 52} {m₁ = 2 ^ 957} {n₂ = 2 ^ 52 + double_fraction p} {m₂ = 2 ^ (double_field p - 1)} (omega arith)
      (pow_mono {i = 957} {j = double_field p - 1} (omega arith))

  most : double_field p < 1086 → double_size p ≤ 2 ^ 53 * 2 ^ 1084
  most h =
      let f : double_fraction p < 2 ^ 52 = mod-lt p (pow_pos 52) in
      mul-le-mul {n₁ = 2 ^ 52 + double_fraction p} {m₁ = 2 ^ (double_field p - 1)} {n₂ = 2 ^ 53} {m₂ = 2 ^ 1084} (omega arith)
      (pow_mono {i = double_field p - 1} {j = 1084} (omega arith))

  positive : 0 < double_size p
  positive = lt_of_lt_of_le (lit< {m = 0} {n = 2 ^ 52 * 2 ^ 957} tt) least

  sized : nat_abs (with_sign (double_sign p) (double_size p)) ≡ double_size p
  sized = size_of_signed (double_sign p) (double_size p)

  cuts : double_field p < 1086 → CutsBy rule (with_sign (double_sign p) (double_size p)) (2 ^ 1074) (neg_ℤ (pos 64)) (pos 64) (brought_of rule p)
  cuts h = ⊎_elim (λ none. absurd (lt_irrefl 0 (subst (λ (n : ℕ). 0 < n) (sym sized ∙ ap nat_abs none.0) positive))) (λ c. c)
      (exactly rule (with_sign (double_sign p) (double_size p)) (2 ^ 1074) 112 240 (pow_pos 1074) (lit< tt) (λ g.
      subst (λ (n : ℕ). (2 ^ 135 * 2 ^ 1074 ≤ n * 2 ^ 200) × (n * 2 ^ 200 ≤ 16777215 * 2 ^ 240 * 2 ^ 1074)) (sym sized) (
        le_trans (lit≤ {m = 2 ^ 135 * 2 ^ 1074} {n = 2 ^ 52 * 2 ^ 957 * 2 ^ 200} tt) (mul-le-mul_right (2 ^ 200) least),
        le_trans (mul-le-mul_right (2 ^ 200) (most h)) (lit≤ {m = 2 ^ 53 * 2 ^ 1084 * 2 ^ 200} {n = 16777215 * 2 ^ 240 * 2 ^ 1074} tt),
      )))

  proper_word : FloatWord (brought_of rule p).word
  proper_word =
      ours_word (subst Result (sym (cut_sign rule (double_sign p) (double_size p) (2 ^ 1074)))
      (cut_result rule (double_sign p) (double_size p * 2 ^ 200) (2 ^ 1074) (pow_pos 1074)
      (inr (le_trans (lit≤ {m = 8388608 * 2 ^ 1074} {n = 2 ^ 52 * 2 ^ 957 * 2 ^ 200} tt) (mul-le-mul_right (2 ^ 200) least))))).word

  -- no error: the word is the rule's
  brought_right : (brought_of rule p).error ≡ 0 → BroughtTo rule (of_bits binary64 p) (brought_of rule p).word
  brought_right none =
      let r = brought_of rule p in
      let within : double_field p < 1086 = ⊎_elim (λ h. h) (λ (h : 1086 ≤ double_field p). absurd (overflows rule p lo h none)) (either (double_field p) 1086) in
      let c = cuts within in
      let at : exponent r.word ≡ c.e = (stored_as_is c.e r c.step none).2 in
      let pair : PairBy rule (double_size p) (2 ^ 1074) (mantissa r.word) (exponent r.word) =
      subst (λ (n : ℕ). PairBy rule n (2 ^ 1074) (mantissa r.word) (exponent r.word)) sized
      (subst₂ (λ (m : ℕ) (e : ℤ). PairBy rule (nat_abs (with_sign (double_sign p) (double_size p))) (2 ^ 1074) m e) (sym c.digits) (sym at) c.pair) in
      record {
        word = proper_word;
        sign = signed_of (of_bits binary64 p) (double_sign p) (negative r.word) (double_size p) (2 ^ 1074) value
            (sym (c.sign ∙ sign_of (double_sign p) (double_size p) positive));
        pair = pair_of rule (of_bits binary64 p) (double_sign p) (double_size p) (2 ^ 1074) (mantissa r.word) (exponent r.word) (pow_pos 1074) value pair;
      }

  -- an error: 2 ^ 63 or more once it is brought to 24 bits
  large_right : ((brought_of rule p).error ≡ 0 → ⊥) → LargeBy rule (of_bits binary64 p)
  large_right some = ⊎_elim rounded given (either (double_field p) 1086)
    where
      given : 1086 ≤ double_field p → LargeBy rule (of_bits binary64 p)
      given h =
          large_by rule (of_bits binary64 p) (double_sign p) (double_size p) (2 ^ 1074) (pow_pos 1074) value
          (le_trans (lit≤ {m = 2 ^ 63 * 2 ^ 1074} {n = 2 ^ 52 * 2 ^ 1085} tt)
          (mul-le-mul {n₁ = 2 ^ 52} {m₁ = 2 ^ 1085} {n₂ = 2 ^ 52 + double_fraction p} {m₂ = 2 ^ (double_field p - 1)} (omega arith)
          (pow_mono {i = 1085} {j = double_field p - 1} (omega arith))))

      rounded : double_field p < 1086 → LargeBy rule (of_bits binary64 p)
      rounded h =
          let c = cuts h in
          let pair = subst (λ (n : ℕ). PairBy rule n (2 ^ 1074) c.m c.e) sized c.pair in
          record {
            m = c.m;
            e = c.e;
            pair = pair_of rule (of_bits binary64 p) (double_sign p) (double_size p) (2 ^ 1074) c.m c.e (pow_pos 1074) value pair;
            reaches = exponent_reaches c.m c.e (pair_low rule (double_size p) (2 ^ 1074) c.m c.e pair)
                (⊎_elim (λ l. absurd (some (c.step.within c.at_least l).0)) (λ l. l) (below_or_beyond c.e));
          }

-- ---- an answer that is right for an f64's value under a rule
pub data Right (rule : Rule) (x : Float) (r : Inward) : Type 0 where
  exact : (w : ℕ) → r ≡ Exact w → HasWord x w → (IsMinusZero x → ⊥) → Right rule x r
  rounded : (w : ℕ) (y : Float) → r ≡ Rounded w y → BroughtTo rule x w → HasWord y w → ((v : ℕ) → HasWord x v → ⊥) → (Small x → ⊥) → Right rule x r
  endless : r ≡ Refused NotFinite → Endless x → Right rule x r
  minus : r ≡ Refused MinusZero → IsMinusZero x → Right rule x r
  small : r ≡ Refused TooSmall → Small x → Right rule x r
  large : r ≡ Refused TooLarge → LargeBy rule x → Right rule x r

-- the value of a float that is not zero, from a word that has it
held_value : (x : Float) (v : ℕ) (s : Bool) (a c : ℕ) → 0 < a → HasValue x s a c → HasWord x v → HasValue x (negative v) (size88 v) (2 ^ 88)
held_value nan v s a c A h b = absurd h
held_value (inf t) v s a c A h b = absurd h
held_value (fin t n k) v s a c A h b =
    let q = parted t n k v b.same in
    (⊎_elim (λ e. e) (λ none. absurd (lt_irrefl 0 (subst (λ (y : ℕ). 0 < y) (nothing q.0 none) (mul-pos A (down_pos k))))) q.1, q.0)
  where
    nothing : n * up k * 2 ^ 88 ≡ size88 v * down k → size88 v ≡ 0 → a * down k ≡ 0
    nothing e none =
        let z : n * up k * 2 ^ 88 ≡ 0 = e ∙ ap (λ (y : ℕ). y * down k) none ∙ zero-mul (down k) in
        let y : n * up k ≡ 0 = omega arith in
        sym h.1 ∙ ap (λ (y : ℕ). y * c) y ∙ zero-mul c

-- a magnitude a / c of 2 ^ -65 or more is not under it
not_small : (x : Float) (s : Bool) (a c : ℕ) → 0 < c → HasValue x s a c → c ≤ a * 2 ^ 65 → Small x → ⊥
not_small nan s a c C h l t = h
not_small (inf u) s a c C h l t = h
not_small (fin u n k) s a c C h l t =
    let e : a * 2 ^ 65 * down k ≡ n * up k * 2 ^ 65 * c =
    mul_right_comm a (2 ^ 65) (down k) ∙ ap (λ (y : ℕ). y * 2 ^ 65) (sym h.1) ∙ mul_right_comm (n * up k) c (2 ^ 65) in
    let b : c * down k ≤ n * up k * 2 ^ 65 * c = subst (λ (y : ℕ). c * down k ≤ y) e (mul-le-mul_right (down k) l) in
    not-le_of_lt (mul-lt-mul_of_pos_right t.1 C) (subst (λ (y : ℕ). y ≤ n * up k * 2 ^ 65 * c) (mul_comm c (down k)) b)

-- the word's own f64
pub own_word : (w : ℕ) → FloatWord w → HasWord (of_bits binary64 (double_bits w)) w
own_word w f = record { word = f; same = same_value (of_bits binary64 (double_bits w)) w (double_value_lem w f.is_proper) }

pub right : (rule : Rule) (p : ℕ) → p < 2 ^ 64 → Right rule (of_bits binary64 p) (inward_of rule p)
unfolding inward_of
right rule p l =
    go (eqb (double_field p) 2047) (eqb p (2 ^ 63)) (eqb p 0) (ltb (double_field p) 958) (eqb r.error 0) (eqb (double_bits r.word) p) refl refl refl refl
    refl refl
  where
    r : Flagged
    r = brought_of rule p

    not_minus : eqb p (2 ^ 63) ≡ false → IsMinusZero (of_bits binary64 p) → ⊥
    not_minus e₂ t = eqb-false p (2 ^ 63) e₂ (minus_bits binary64 p l t)

    some : eqb p (2 ^ 63) ≡ false → eqb p 0 ≡ false → p % 2 ^ 63 ≡ 0 → ⊥
    some e₂ e₃ z = ⊎_elim (λ (k : p < 2 ^ 63). eqb-false p 0 e₃ (omega arith)) (λ (k : 2 ^ 63 ≤ p). eqb-false p (2 ^ 63) e₂ (omega arith)) (either p (2 ^ 63))

    judged : eqb p (2 ^ 63) ≡ false → 958 ≤ double_field p → double_field p < 2047 → (t₅ t₆ : Bool) → eqb r.error 0 ≡ t₅ → eqb (double_bits r.word) p ≡ t₆
        → Right rule (of_bits binary64 p) (cond t₅ (cond t₆ (Exact r.word) (Rounded r.word (of_bits binary64 (double_bits r.word)))) (Refused TooLarge))
    judged e₂ lo hi true true e₅ e₆ =
        exact r.word refl
        (subst (λ (q : ℕ). HasWord (of_bits binary64 q) r.word) (eqb-true (double_bits r.word) p e₆) (own_word r.word (proper_word rule p lo hi)))
        (not_minus e₂)
    judged e₂ lo hi true false e₅ e₆ =
        rounded r.word (of_bits binary64 (double_bits r.word)) refl
        (brought_right rule p lo hi (eqb-true r.error 0 e₅))
        (own_word r.word (proper_word rule p lo hi))
        (λ v b.
        let h = held_value (of_bits binary64 p) v (double_sign p) (double_size p) (2 ^ 1074) (positive rule p lo hi) (value rule p lo hi) b in
        eqb-false (double_bits r.word) p e₆
        (ap (λ (y : Flagged). double_bits y.word) (own_cut p v l b.word (omega arith) hi h rule) ∙ own_bits p v l b.word (omega arith) hi h))
        (not_small (of_bits binary64 p) (double_sign p) (double_size p) (2 ^ 1074) (pow_pos 1074) (value rule p lo hi)
        (mul-le-mul_right (2 ^ 65) (least rule p lo hi)))
    judged e₂ lo hi false t₆ e₅ e₆ = large refl (large_right rule p lo hi (eqb-false r.error 0 e₅))

    go : (t₁ t₂ t₃ t₄ t₅ t₆ : Bool) → eqb (double_field p) 2047 ≡ t₁ → eqb p (2 ^ 63) ≡ t₂ → eqb p 0 ≡ t₃ → ltb (double_field p) 958 ≡ t₄ → eqb r.error 0 ≡ t₅
        → eqb (double_bits r.word) p ≡ t₆
        → Right rule (of_bits binary64 p)
        (cond t₁ (Refused NotFinite)
        (cond t₂ (Refused MinusZero)
        (cond t₃ (Exact 0)
        (cond t₄ (Refused TooSmall) (cond t₅ (cond t₆ (Exact r.word) (Rounded r.word (of_bits binary64 (double_bits r.word)))) (Refused TooLarge))))))
    go true t₂ t₃ t₄ t₅ t₆ e₁ e₂ e₃ e₄ e₅ e₆ = endless refl (all_ones binary64 p (eqb-true (double_field p) 2047 e₁))
    go false true t₃ t₄ t₅ t₆ e₁ e₂ e₃ e₄ e₅ e₆ = minus refl (minus_right binary64 p (eqb-true p (2 ^ 63) e₂))
    go false false true t₄ t₅ t₆ e₁ e₂ e₃ e₄ e₅ e₆ = exact 0 refl (zero_right binary64 p (let z = eqb-true p 0 e₃ in omega arith)) (not_minus e₂)
    go false false false true t₅ t₆ e₁ e₂ e₃ e₄ e₅ e₆ = small refl (small_right binary64 p (ltb-true (double_field p) 958 e₄) (some e₂ e₃))
    go false false false false t₅ t₆ e₁ e₂ e₃ e₄ e₅ e₆ =
        judged e₂ (ltb-false (double_field p) 958 e₄) (below_ones binary64 p (eqb-false (double_field p) 2047 e₁)) t₅ t₆ e₅ e₆
