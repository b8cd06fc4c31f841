-- A buffer looked through entry by entry: what is left to look at has the first refused entry of all, and the entries brought to 24 bits are those counted so
-- far and those left. Assumes nothing.
use mathlib.Core.Path.{◌≡◌, refl, sym, ap, ◌∙◌, subst}
use mathlib.Core.Bool.{cond}
use mathlib.Core.List.{List, [], ◌∷◌}
use Prim.Native.Nat.{ℕ, suc, ◌+◌, ◌-◌, ◌≤◌, ◌<◌}
use native.Mathlib.Nat.{add_assoc}
use native.Mathlib.Omega.{arith}
use lib.Dec.{eqb}
use borrow.Author.Tests.{eq-eqb, ne_eqb}
use Rattle.host_floats.specs.declared.buffer.Entry.{Entry}
use Rattle.host_floats.specs.Buffers.{entries_from, first_bad, rounded_in, reply_to}

-- all entries, and those from the i-th on
abbrev pub all_of : (ℕ → Entry) → ℕ → List Entry
all_of f n = entries_from f 0 n

abbrev pub rest_of : (ℕ → Entry) → ℕ → ℕ → List Entry
rest_of f n i = entries_from f i (n - i)

next : (f : ℕ → Entry) (n i : ℕ) → i < n → rest_of f n i ≡ f i ∷ rest_of f n (i + 1)
unfolding entries_from
next f n i h = ap (entries_from f i) (count h)
  where
    count : i < n → n - i ≡ suc (n - (i + 1))
    count g = omega arith

none : (f : ℕ → Entry) (n i : ℕ) → n ≤ i → rest_of f n i ≡ []
unfolding entries_from
none f n i h = ap (entries_from f i) (gone h)
  where
    gone : n ≤ i → n - i ≡ 0
    gone g = omega arith

-- the entries before the i-th are all taken, and k of them were brought to 24 bits
pub record Seen (f : ℕ → Entry) (n i k : ℕ) : Type 0 where
  pub left : i ≤ n
  pub first : first_bad 1 (all_of f n) ≡ first_bad (i + 1) (rest_of f n i)
  pub count : rounded_in (all_of f n) ≡ k + rounded_in (rest_of f n i)

pub looks_start : (f : ℕ → Entry) (n : ℕ) → Seen f n 0 0
looks_start f n =
    let e : n ≡ n - 0 = omega arith in
    record {
      left = omega arith;
      first = ap (λ (m : ℕ). first_bad 1 (entries_from f 0 m)) e;
      count = ap (λ (m : ℕ). rounded_in (entries_from f 0 m)) e ∙ omega arith;
    }

module _ (f : ℕ → Entry) (n i k : ℕ) (so : Seen f n i k) where
  module _ (h : i < n) (e : Entry) (p : e ≡ f i) where
    first_is : first_bad 1 (all_of f n) ≡ cond (eqb e.refusal 0) (first_bad (i + 1 + 1) (rest_of f n (i + 1))) (record { refusal = e.refusal; number = i + 1 })
    unfolding first_bad
    first_is = so.first ∙ ap (first_bad (i + 1)) (next f n i h ∙ ap (λ (x : Entry). x ∷ rest_of f n (i + 1)) (sym p))

    count_is : rounded_in (all_of f n) ≡ k + (e.rounded + rounded_in (rest_of f n (i + 1)))
    unfolding rounded_in
    count_is = so.count ∙ ap (λ (es : List Entry). k + rounded_in es) (next f n i h ∙ ap (λ (x : Entry). x ∷ rest_of f n (i + 1)) (sym p))

    pub looks_bad : (e.refusal ≡ 0 → ⊥) → record { refusal = e.refusal; number = i + 1 } ≡ reply_to (all_of f n)
    looks_bad z =
        let g : first_bad 1 (all_of f n) ≡ record { refusal = e.refusal; number = i + 1 } = first_is ∙ rw (ne_eqb e.refusal 0 z) in
        rw (g, ne_eqb e.refusal 0 z)

    pub looks_on : e.refusal ≡ 0 → Seen f n (i + 1) (k + e.rounded)
    looks_on z = record {
      left = omega arith;
      first = first_is ∙ rw (eq-eqb e.refusal 0 z);
      count = count_is ∙ sym (add_assoc k e.rounded (rounded_in (rest_of f n (i + 1))));
    }

    -- where it was not brought to 24 bits the count stays
    pub looks_past : e.refusal ≡ 0 → e.rounded ≡ 0 → Seen f n (i + 1) k
    looks_past z o = subst (λ (m : ℕ). Seen f n (i + 1) m) (ap (λ (m : ℕ). k + m) o ∙ omega arith) (looks_on z)

  pub looks_end : n ≤ i → record { refusal = 0; number = k } ≡ reply_to (all_of f n)
  looks_end h =
      let g : first_bad 1 (all_of f n) ≡ record { refusal = 0; number = 0 } = so.first ∙ ap (first_bad (i + 1)) (none f n i h) ∙ (unfold first_bad in refl) in
      let c : rounded_in (all_of f n) ≡ k = so.count ∙ ap (λ (es : List Entry). k + rounded_in es) (none f n i h) ∙ (unfold rounded_in in omega arith) in
      rw (g, c)
