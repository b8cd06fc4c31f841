-- What a list of numbers measures in any order: how many pass a test, the different ones, those that stand more than once, the sum. Assumes nothing.
use Prim.Native.Nat.{ℕ, suc}
use mathlib.Core.Path.{◌≡◌, refl, sym, ap, subst, ◌∙◌}
use mathlib.Core.Bool.{Bool, true, false, cond}
use mathlib.Core.List.Permᴰ
use mathlib.Core.List.{List, [], ◌∷◌, Permᴰ}
use lib.Dec.{eqb, leb}
use lib.ListN.{length}
use lib.IntN.{ℤ, ◌+ℤ◌, +ℤ_assoc, +ℤ_comm}
use borrow.Author.Tests.{eqb-true, eqb-false, ne_eqb}
use Rattle.sheet_promises.specs.Figures.{count, once, many, total}

-- ---- of numbers

pub length-perm : {A : Type 0} {l m : List A} → Permᴰ l m → length l ≡ length m
length-perm Permᴰ.nil = refl
length-perm (Permᴰ.cons e d) = ap suc (length-perm d)
length-perm (Permᴰ.swap e f) = refl
length-perm (Permᴰ.trans d e) = length-perm d ∙ length-perm e

-- two tests in either order
turned : (a b : Bool) (n : ℕ) → cond a (suc (cond b (suc n) n)) (cond b (suc n) n) ≡ cond b (suc (cond a (suc n) n)) (cond a (suc n) n)
turned true true n = refl
turned true false n = refl
turned false true n = refl
turned false false n = refl

pub many_perm : (test : ℕ → Bool) {l m : List ℕ} → Permᴰ l m → many test l ≡ many test m
many_perm test Permᴰ.nil = refl
many_perm test (Permᴰ.cons {a = a} {b = b} {l₁ = l} {l₂ = m} e d) =
    ap (λ (n : ℕ). cond (test a) (suc n) n) (many_perm test d) ∙ ap (λ (x : ℕ). cond (test x) (suc (many test m)) (many test m)) e
many_perm test (Permᴰ.swap {a = a} {b = b} {a' = a'} {b' = b'} {l = l} e f) =
    turned (test a) (test b) (many test l)
    ∙ ap (λ (x : ℕ). cond (test b) (suc (cond (test x) (suc (many test l)) (many test l))) (cond (test x) (suc (many test l)) (many test l))) e
    ∙ ap (λ (x : ℕ). cond (test x) (suc (cond (test b') (suc (many test l)) (many test l))) (cond (test b') (suc (many test l)) (many test l))) f
many_perm test (Permᴰ.trans d e) = many_perm test d ∙ many_perm test e

-- a count is how many are that number
count_many : (x : ℕ) (l : List ℕ) → count x l ≡ many (eqb x) l
count_many x [] = refl
count_many x (y ∷ l) = ap (λ (n : ℕ). cond (eqb x y) (suc n) n) (count_many x l)

count_perm : (x : ℕ) {l m : List ℕ} → Permᴰ l m → count x l ≡ count x m
count_perm x {l = l} {m = m} d = count_many x l ∙ many_perm (eqb x) d ∙ sym (count_many x m)

-- ---- each once

abbrev Perm : List ℕ → List ℕ → Type 0
Perm l m = Permᴰ l m

-- two numbers in either order
once_swap : (a b : ℕ) (l : List ℕ) → Perm (once (a ∷ b ∷ l)) (once (b ∷ a ∷ l))
once_swap a b l = by (eqb a b) refl (eqb (count a l) 0) refl (eqb (count b l) 0) refl
  where
    by : (e : Bool) → eqb a b ≡ e → (p : Bool) → eqb (count a l) 0 ≡ p → (q : Bool) → eqb (count b l) 0 ≡ q → Perm (once (a ∷ b ∷ l)) (once (b ∷ a ∷ l))
    by true e p hp q hq =
        let i : a ≡ b = eqb-true a b e in
        subst (λ (x : ℕ). Perm (once (a ∷ x ∷ l)) (once (x ∷ a ∷ l))) i (Permᴰ.refl (once (a ∷ a ∷ l)))
    by false e p hp q hq =
        let ne : (a ≡ b → ⊥) = eqb-false a b e in
        let f : eqb b a ≡ false = ne_eqb b a (λ z. ne (sym z)) in
        rw (e, f) (cases p hp q hq)
      where
        cases : (p : Bool) → eqb (count a l) 0 ≡ p → (q : Bool) → eqb (count b l) 0 ≡ q
            → Perm (cond (eqb (count a l) 0) (a ∷ cond (eqb (count b l) 0) (b ∷ once l) (once l)) (cond (eqb (count b l) 0) (b ∷ once l) (once l)))
            (cond (eqb (count b l) 0) (b ∷ cond (eqb (count a l) 0) (a ∷ once l) (once l)) (cond (eqb (count a l) 0) (a ∷ once l) (once l)))
        cases true hp true hq = rw (hp, hq) (Permᴰ.swap refl refl)
        cases true hp false hq = rw (hp, hq) (Permᴰ.refl (a ∷ once l))
        cases false hp true hq = rw (hp, hq) (Permᴰ.refl (b ∷ once l))
        cases false hp false hq = rw (hp, hq) (Permᴰ.refl (once l))

once_cons : (a b : ℕ) (l m : List ℕ) → a ≡ b → count a l ≡ count a m → Perm (once l) (once m) → Perm (once (a ∷ l)) (once (b ∷ m))
once_cons a b l m e c d =
    subst (λ (x : ℕ). Perm (once (a ∷ l)) (once (x ∷ m))) e
    (subst (λ (n : ℕ). Perm (once (a ∷ l)) (cond (eqb n 0) (a ∷ once m) (once m))) c (pick (eqb (count a l) 0)))
  where
    pick : (p : Bool) → Perm (cond p (a ∷ once l) (once l)) (cond p (a ∷ once m) (once m))
    pick true = Permᴰ.cons refl d
    pick false = d

pub once_perm : {l m : List ℕ} → Permᴰ l m → Perm (once l) (once m)
once_perm Permᴰ.nil = Permᴰ.nil
once_perm (Permᴰ.cons {a = a} {b = b} {l₁ = l} {l₂ = m} e d) = once_cons a b l m e (count_perm a d) (once_perm d)
once_perm (Permᴰ.swap {a = a} {b = b} {a' = a'} {b' = b'} {l = l} e f) =
    subst (λ (y : ℕ). Perm (once (a ∷ b ∷ l)) (once (a' ∷ y ∷ l))) e (subst (λ (x : ℕ). Perm (once (a ∷ b ∷ l)) (once (x ∷ a ∷ l))) f (once_swap a b l))
once_perm (Permᴰ.trans d e) = Permᴰ.trans (once_perm d) (once_perm e)

-- the same test
many_same : (p q : ℕ → Bool) → ((x : ℕ) → p x ≡ q x) → (l : List ℕ) → many p l ≡ many q l
many_same p q h [] = refl
many_same p q h (x ∷ l) = ap (λ (b : Bool). cond b (suc (many p l)) (many p l)) (h x) ∙ ap (λ (n : ℕ). cond (q x) (suc n) n) (many_same p q h l)

-- how many of the different numbers stand more than once
abbrev pub more : List ℕ → ℕ
more l = many (λ x. leb 2 (count x l)) (once l)

pub more_perm : {l m : List ℕ} → Permᴰ l m → more l ≡ more m
more_perm {l = l} {m = m} d =
    many_same (λ x. leb 2 (count x l)) (λ x. leb 2 (count x m)) (λ x. ap (leb 2) (count_perm x d)) (once l)
    ∙ many_perm (λ x. leb 2 (count x m)) (once_perm d)

-- ---- of whole numbers

pub total_perm : {l m : List ℤ} → Permᴰ l m → total l ≡ total m
total_perm Permᴰ.nil = refl
total_perm (Permᴰ.cons {a = a} {l₂ = m} e d) = ap (λ (t : ℤ). a +ℤ t) (total_perm d) ∙ ap (λ (x : ℤ). x +ℤ total m) e
total_perm (Permᴰ.swap {a = a} {b = b} {a' = a'} {b' = b'} {l = l} e f) =
    sym (+ℤ_assoc a b (total l))
    ∙ ap (λ (t : ℤ). t +ℤ total l) (+ℤ_comm a b)
    ∙ +ℤ_assoc b a (total l)
    ∙ ap (λ (x : ℤ). b +ℤ (x +ℤ total l)) e
    ∙ ap (λ (x : ℤ). x +ℤ (b' +ℤ total l)) f
total_perm (Permᴰ.trans d e) = total_perm d ∙ total_perm e
