-- The tables of names, of commands by code and of kinds by place, each law by one computation over its entries. Assumes nothing.
use mathlib.Core.Path.{◌≡◌, refl, sym, ap, ◌∙◌, subst}
use mathlib.Core.Logic.{⊎_elim}
use mathlib.Core.Bool.{Bool, true, false, cond}
use mathlib.Core.List.{List, [], ◌∷◌, ◌++◌}
use Prim.Native.Nat.{ℕ, zero, suc, ◌+◌, ◌*◌, ◌-◌, ◌/◌, ◌%◌, ◌≤◌, ◌<◌}
use native.Mathlib.Nat.{eq-or-lt_of_le}
use native.Mathlib.Omega.{arith}
use borrow.Author.Tests.{ne_eqb, lt-ltb, le-ltb, leb-true}
use lib.Dec.{eqb, leb}
use lib.ListN.{take, drop}
use Rattle.numbers.specs.Little.{le4, four_at}
use Rattle.record_text.specs.Letters.{same}
use Rattle.record_text.specs.Names.{name_of}
use Rattle.record_text.specs.Kinds.{Kind, Unknown, numbered_kind, kind_at, kind_name, form_of}
use Rattle.record_text.specs.Held.{key_of, letters_in, kind_names, NamePlace}
use Rattle.record_text.specs.declared.kinds.Form.TheVariants.{Bytes, Number, Code, Alone, Unknown as Formless}
use Rattle.record_text.specs.declared.kinds.Span.{Span}
use Rattle.record_text.proofs.Tests.{split}
use Rattle.record_text.proofs.Same.{same_true}

-- ---- two functions with one list of values for the b numbers from a on agree on these numbers
abbrev pub values : {A : Type 0} → (ℕ → A) → ℕ → ℕ → List A
values f a zero = []
values f a (suc b) = f a ∷ values f (suc a) b

abbrev first : {A : Type 0} → A → List A → A
first d [] = d
first d (k ∷ l) = k

abbrev others : {A : Type 0} → List A → List A
others [] = []
others (k ∷ l) = l

pub agree : {A : Type 0} (d : A) (f g : ℕ → A) (a b : ℕ) → values f a b ≡ values g a b → (n : ℕ) → a ≤ n → n < a + b → f n ≡ g n
agree d f g a zero e n l h = absurd (omega arith)
agree d f g a (suc b) e n l h =
    ⊎_elim
    (λ (z : a ≡ n). ap f (sym z) ∙ ap (first d) e ∙ ap g z)
    (λ (k : a < n). agree d f g (suc a) b (ap others e) n k (omega arith))
    (eq-or-lt_of_le l)

-- ---- the table of names, each filled up to four letters
abbrev table : ℕ → ℕ → List ℕ
table code zero = []
table code (suc n) = le4 (key_of (name_of code)) ++ table (suc code) n

pub key_at : (code : ℕ) → code < 128 → four_at (table 0 128) (code * 4) ≡ key_of (name_of code)
unfolding name_of
key_at code h = agree 0 (λ (n : ℕ). four_at (table 0 128) (n * 4)) (λ (n : ℕ). key_of (name_of n)) 0 128 refl code (omega arith) h

-- ---- a name is the letters of its number
key_back : (code : ℕ) → code < 128 → take (letters_in (key_of (name_of code))) (le4 (key_of (name_of code))) ≡ name_of code
unfolding name_of
key_back code h =
    agree [] (λ (n : ℕ). take (letters_in (key_of (name_of n))) (le4 (key_of (name_of n)))) name_of 0 128 refl code (omega arith) h

pub letters_of : (code key size : ℕ) (text : List ℕ) → code < 128 → key ≡ key_of (name_of code) → size ≡ letters_in key → text ≡ le4 key
    → take size text ≡ name_of code
letters_of code key size text h e s t = rw (t, s, e) (key_back code h)

-- ---- a kind by the place of its name
pub low_place : (n : ℕ) → n < 9 → kind_at (n + 127) ≡ numbered_kind n
low_place n h =
    let e : n + 127 - 127 ≡ n = omega arith in
    ap (λ (t : Bool). numbered_kind (cond t (n + 127 - 127) (n + 127 + 120))) (lt-ltb (n + 127) 136 (omega arith)) ∙ ap numbered_kind e

pub high_place : (n : ℕ) → 256 ≤ n → n < 259 → kind_at (n - 120) ≡ numbered_kind n
high_place n l h =
    let e : n - 120 + 120 ≡ n = omega arith in
    ap (λ (t : Bool). numbered_kind (cond t (n - 120 - 127) (n - 120 + 120))) (le-ltb (n - 120) 136 (omega arith)) ∙ ap numbered_kind e

pub no_kind : (n : ℕ) → 9 ≤ n → (n ≡ 256 → ⊥) → (n ≡ 257 → ⊥) → (n ≡ 258 → ⊥) → numbered_kind n ≡ Unknown
no_kind n l a b c =
    simp (
      ne_eqb n 1 (λ e. omega arith),
      ne_eqb n 2 (λ e. omega arith),
      ne_eqb n 3 (λ e. omega arith),
      ne_eqb n 4 (λ e. omega arith),
      ne_eqb n 5 (λ e. omega arith),
      ne_eqb n 6 (λ e. omega arith),
      ne_eqb n 7 (λ e. omega arith),
      ne_eqb n 8 (λ e. omega arith),
      ne_eqb n 256 a,
      ne_eqb n 257 b,
      ne_eqb n 258 c,
    )

-- what stands behind its name: of a status, a reset and their like nothing
pub alone : (place : ℕ) → 127 ≤ place → place ≤ 139 → (place ≡ 127 → ⊥) → (place ≡ 128 → ⊥) → (place ≡ 129 → ⊥) → (place ≡ 130 → ⊥) → (place ≡ 136 → ⊥)
    → (place ≡ 137 → ⊥) → (place ≡ 139 → ⊥) → Alone ≡ form_of (kind_at place)
alone place l h a b c d e f g =
    sym
    (agree Alone (λ (p : ℕ). form_of (kind_at p)) (λ (p : ℕ). cond (eqb p 127) Formless (cond (eqb p 128) Bytes (cond (eqb p 129) Number (cond (eqb p 130) Code
    (cond (eqb p 136) Number (cond (eqb p 137) Number (cond (eqb p 139) Formless Alone))))))) 127 13 refl place l (omega arith)
    ∙ rw (ne_eqb place 127 a, ne_eqb place 128 b, ne_eqb place 129 c, ne_eqb place 130 d, ne_eqb place 136 e, ne_eqb place 137 f, ne_eqb place 139 g))

-- where the name stands among the names of kinds
abbrev ends : List ℕ
ends = 0 ∷ 0 ∷ 4 ∷ 7 ∷ 14 ∷ 20 ∷ 25 ∷ 36 ∷ 42 ∷ 48 ∷ 52 ∷ 56 ∷ 61 ∷ 61 ∷ 61 ∷ 61 ∷ []

abbrev span : ℕ → Span
span w = record { from = w % 256; to = w / 256 % 256 }

abbrev stands : Kind → Span → Bool
stands kind s =
    cond (same (take (s.to - s.from) (drop s.from kind_names)) (kind_name kind))
    (cond (leb s.from s.to) (cond (leb s.to 61) (leb (s.to - s.from) 11) false) false) false

stand : (kind : Kind) (s : Span) → stands kind s ≡ true → NamePlace kind s
stand kind s e =
    let p = split _ _ e in
    let q = split _ _ p.1 in
    let r = split _ _ q.1 in
    record {
      reads = same_true _ _ p.0;
      ordered = leb-true s.from s.to q.0;
      within = leb-true s.to 61 r.0;
      short = leb-true (s.to - s.from) 11 r.1;
    }

pub place_of_name : (place w : ℕ) → 127 ≤ place → place ≤ 139 → w ≡ four_at ends (place - 127) → NamePlace (kind_at place) (span w)
place_of_name place w l h e =
    subst (λ (v : ℕ). NamePlace (kind_at place) (span v)) (sym e)
    (stand (kind_at place) (span (four_at ends (place - 127)))
    (agree false (λ (p : ℕ). stands (kind_at p) (span (four_at ends (p - 127)))) (λ (p : ℕ). true) 127 13 refl place l (omega arith)))
