-- The loop over a formula in postfix order: a token a turn, told by its first byte, and its record behind those before. Assumes nothing.
use mathlib.Core.Path.{◌≡◌, refl, sym, ◌∙◌, ap}
use mathlib.Core.Bool.{true}
use mathlib.Core.List.{List, [], ◌∷◌, ◌++◌}
use Prim.Native.Nat.{ℕ, suc, ◌+◌, ◌*◌, ◌-◌, ◌≤◌, ◌<◌}
use native.Mathlib.Omega.{arith}
use lib.ListN.{length, take, drop, get_or, length-append, length-drop}
use lib.Seq.{sets, drop-drop}
use Rattle.formula.specs.Grammar.{are_digits}
use Rattle.formula.specs.File.{letter_word, constant_word, push_record, command_record}
use Rattle.formula.specs.Postfix.{Token, LetterAt, Digits, Gives, spelt, spelling, Good, AllGood, Spells, pushed_of, commanded_of, stepped, walked}
use Rattle.formula.specs.Postfix.{unwritten, record_of, records_of}
use Rattle.formula.specs.declared.postfix.Written.{Written}
use Rattle.formula.proofs.Stores.{sets_append}
use Rattle.formula.proofs.Reading.{from}

-- ---- the tokens that are left
pub record Walking (letters bytes before : List ℕ) (ts : List Token) (out : List ℕ) (i : ℕ) (w : Written) : Type 0 where
  pub left : List Token
  pub spelling_is : drop i bytes ≡ spelling left
  pub good : AllGood left
  pub walked_is : walked letters w left ≡ walked letters unwritten ts
  pub stored_is : sets out w.end (records_of letters left) ≡ sets before 0 (records_of letters ts)

-- the loop: all tokens that the bytes can spell, and the bounds that keep its numbers small
pub record Goes (letters bytes before out : List ℕ) (i : ℕ) (w : Written) : Type 0 where
  pub inside : i ≤ length bytes
  pub same : length out ≡ length before
  pub few : w.end ≤ 8 * i
  pub low : w.height ≤ i
  pub walks : (ts : List Token) → Spells bytes ts → Walking letters bytes before ts out i w

-- two lists that begin alike
head_is : {x y : ℕ} {s t : List ℕ} → x ∷ s ≡ y ∷ t → x ≡ y
head_is e = ap (λ (l : List ℕ). get_or l 0 0) e

tail_is : {x y : ℕ} {s t : List ℕ} → x ∷ s ≡ y ∷ t → s ≡ t
tail_is e = ap (λ (l : List ℕ). drop 1 l) e

front_is : (s rest l : List ℕ) → l ≡ s ++ rest → take (length s) l ≡ s
front_is [] rest l e = refl
front_is (x ∷ s) rest l e = ap (take (suc (length s))) e ∙ ap (λ (m : List ℕ). x ∷ m) (front_is s rest (s ++ rest) refl)

back_is : (s rest l : List ℕ) → l ≡ s ++ rest → drop (length s) l ≡ rest
back_is [] rest l e = e
back_is (x ∷ s) rest l e = ap (drop (suc (length s))) e ∙ back_is s rest (s ++ rest) refl

-- a token's record has the bytes by which its step goes on
step_end : (letters : List ℕ) (w : Written) (t : Token) → (stepped letters w t).end ≡ w.end + length (record_of letters t)
step_end letters w (LetterAt k) = refl
step_end letters w (Digits s) = refl
step_end letters w (Gives c) = refl

module _ {letters bytes before out : List ℕ} {ts : List Token} {i : ℕ} {w : Written} (h : i < length bytes) (W : Walking letters bytes before ts out i w) where
  -- the token at the place, and those behind it
  record Front (t : Token) (rest : List Token) : Type 0 where
    spells : get_or bytes i 0 ∷ drop (i + 1) bytes ≡ spelt t ++ spelling rest
    good : Good t
    all_good : AllGood rest
    walked_is : walked letters (stepped letters w t) rest ≡ walked letters unwritten ts
    stored_is : sets out w.end (record_of letters t ++ records_of letters rest) ≡ sets before 0 (records_of letters ts)

  front : (t : Token) × (rest : List Token) × Front t rest
  unfolding spelling AllGood walked records_of
  front = go W.left (sym (from bytes i h) ∙ W.spelling_is) W.good W.walked_is W.stored_is
    where
      go : (l : List Token) → get_or bytes i 0 ∷ drop (i + 1) bytes ≡ spelling l → AllGood l → walked letters w l ≡ walked letters unwritten ts
          → sets out w.end (records_of letters l) ≡ sets before 0 (records_of letters ts) → (t : Token) × (rest : List Token) × Front t rest
      go [] s g v r = absurd (let z = ap length s in omega arith)
      go (t ∷ rest) s g v r = (t, rest, record { spells = s; good = g.0; all_good = g.1; walked_is = v; stored_is = r })

  -- eight digits stand behind a hash
  eight_digits : {s : List ℕ} {rest : List Token} → Front (Digits s) rest → take 8 (drop (i + 1) bytes) ≡ s
  eight_digits {s} {rest} F =
      ap (λ (k : ℕ). take k (drop (i + 1) bytes)) (sym F.good.0) ∙ front_is s (spelling rest) (drop (i + 1) bytes) (tail_is F.spells)

  pub digits_at : get_or bytes i 0 ≡ 0x23 → (i + 9 ≤ length bytes) × (are_digits (take 8 (drop (i + 1) bytes)) ≡ true)
  digits_at b = go front.0 front.1 front.2
    where
      go : (t : Token) (rest : List Token) → Front t rest → (i + 9 ≤ length bytes) × (are_digits (take 8 (drop (i + 1) bytes)) ≡ true)
      go (Gives c) rest F = absurd (let z = head_is F.spells in omega (arith, F.good))
      go (LetterAt k) rest F = absurd (let z = head_is F.spells in omega arith)
      go (Digits s) rest F =
          let n = ap length (tail_is F.spells) ∙ length-append s (spelling rest) in
          let m = length-drop (i + 1) bytes in
          (omega (arith, F.good.0), ap are_digits (eight_digits F) ∙ F.good.1)

  -- any other byte that is no command is a letter
  pub letter_at : 32 ≤ get_or bytes i 0 → (get_or bytes i 0 ≡ 0x23 → ⊥) → (0x61 ≤ get_or bytes i 0) × (get_or bytes i 0 - 0x61 < 8)
  letter_at n m = go front.0 front.2
    where
      go : (t : Token) {rest : List Token} → Front t rest → (0x61 ≤ get_or bytes i 0) × (get_or bytes i 0 - 0x61 < 8)
      go (Gives c) F = absurd (let z = head_is F.spells in omega (arith, F.good))
      go (Digits s) F = absurd (m (head_is F.spells))
      go (LetterAt k) F = let z = head_is F.spells in (omega arith, omega (arith, F.good))

  -- ---- a turn
  -- past the token at the place, its record stored behind those before
  past : {t : Token} {rest : List Token} {out' : List ℕ} {j : ℕ} {w' : Written} → Front t rest → drop j bytes ≡ spelling rest → w' ≡ stepped letters w t
      → out' ≡ sets out w.end (record_of letters t) → Walking letters bytes before ts out' j w'
  past {t} {rest} {out'} {j} {w'} F s e o =
      record {
        left = rest;
        spelling_is = s;
        good = F.all_good;
        walked_is = ap (λ (x : Written). walked letters x rest) e ∙ F.walked_is;
        stored_is = ap (λ (x : Written). sets out' x.end (records_of letters rest)) e
            ∙ ap (λ (l : List ℕ). sets l (stepped letters w t).end (records_of letters rest)) o
            ∙ sets_append (record_of letters t) (records_of letters rest) out w.end (stepped letters w t).end (step_end letters w t) ∙ F.stored_is;
      }

  pub command_on : {out' : List ℕ} {w' : Written} → get_or bytes i 0 < 32 → w' ≡ commanded_of w (get_or bytes i 0)
      → out' ≡ sets out w.end (command_record (get_or bytes i 0))
      → Walking letters bytes before ts out' (i + 1) w'
  command_on {out'} {w'} b e o = go front.0 front.2
    where
      go : (t : Token) {rest : List Token} → Front t rest → Walking letters bytes before ts out' (i + 1) w'
      go (Digits d) F = absurd (let z = head_is F.spells in omega arith)
      go (LetterAt k) F = absurd (let z = head_is F.spells in omega arith)
      go (Gives c) F =
          let z = head_is F.spells in
          past F (tail_is F.spells) (e ∙ ap (commanded_of w) z) (o ∙ ap (λ (x : ℕ). sets out w.end (command_record x)) z)

  pub digits_on : {out' : List ℕ} {w' : Written} (word : ℕ) → get_or bytes i 0 ≡ 0x23 → word ≡ constant_word (take 8 (drop (i + 1) bytes)) → w' ≡ pushed_of w word
      → out' ≡ sets out w.end (push_record word)
      → Walking letters bytes before ts out' (i + 9) w'
  digits_on {out'} {w'} word b y e o = go front.0 front.1 front.2
    where
      go : (t : Token) (rest : List Token) → Front t rest → Walking letters bytes before ts out' (i + 9) w'
      go (Gives c) rest F = absurd (let z = head_is F.spells in omega (arith, F.good))
      go (LetterAt k) rest F = absurd (let z = head_is F.spells in omega arith)
      go (Digits d) rest F =
          let z : word ≡ constant_word d = y ∙ ap constant_word (eight_digits F) in
          let k : i + 9 ≡ i + 1 + 8 = omega arith in
          past F (ap (λ (n : ℕ). drop n bytes) k ∙ sym (drop-drop 8 (i + 1) bytes) ∙ ap (λ (n : ℕ). drop n (drop (i + 1) bytes)) (sym F.good.0)
          ∙ back_is d (spelling rest) (drop (i + 1) bytes) (tail_is F.spells)) (e ∙ ap (pushed_of w) z)
          (o ∙ ap (λ (x : ℕ). sets out w.end (push_record x)) z)

  pub letter_on : {out' : List ℕ} {w' : Written} (word : ℕ) → 32 ≤ get_or bytes i 0 → (get_or bytes i 0 ≡ 0x23 → ⊥)
      → word ≡ letter_word letters (get_or bytes i 0 - 0x61) → w' ≡ pushed_of w word
      → out' ≡ sets out w.end (push_record word) → Walking letters bytes before ts out' (i + 1) w'
  letter_on {out'} {w'} word n m y e o = go front.0 front.2
    where
      go : (t : Token) {rest : List Token} → Front t rest → Walking letters bytes before ts out' (i + 1) w'
      go (Gives c) F = absurd (let z = head_is F.spells in omega (arith, F.good))
      go (Digits d) F = absurd (m (head_is F.spells))
      go (LetterAt k) F =
          let b = head_is F.spells in
          let j : get_or bytes i 0 - 0x61 ≡ k = omega arith in
          let z : word ≡ letter_word letters k = y ∙ ap (letter_word letters) j in
          past F (tail_is F.spells) (e ∙ ap (pushed_of w) z) (o ∙ ap (λ (x : ℕ). sets out w.end (push_record x)) z)

-- no byte is left, so no token is
pub walked_all : {letters bytes before out : List ℕ} {ts : List Token} {i : ℕ} {w : Written} → length bytes ≤ i → Walking letters bytes before ts out i w
    → (w ≡ walked letters unwritten ts) × (out ≡ sets before 0 (records_of letters ts))
unfolding spelling walked records_of
walked_all {letters} {bytes} {before} {out} {ts} {i} {w} h W = go W.left W.spelling_is W.walked_is W.stored_is
  where
    go : (l : List Token) → drop i bytes ≡ spelling l → walked letters w l ≡ walked letters unwritten ts → sets out w.end (records_of letters l) ≡ sets before
        0 (records_of letters ts)
        → (w ≡ walked letters unwritten ts) × (out ≡ sets before 0 (records_of letters ts))
    go [] s v r = (v, r)
    go (Gives c ∷ rest) s v r = absurd (let z = ap length s in let n = length-drop i bytes in omega arith)
    go (Digits d ∷ rest) s v r = absurd (let z = ap length s in let n = length-drop i bytes in omega arith)
    go (LetterAt k ∷ rest) s v r = absurd (let z = ap length s in let n = length-drop i bytes in omega arith)
