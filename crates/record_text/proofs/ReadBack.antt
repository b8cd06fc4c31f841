-- The words of a record's text are the words that it was told in, and each is read as what it was written from: hex digits as bytes, decimal digits as a
-- number, a name as its code. Assumes nothing.
use mathlib.Core.Path.{◌≡◌, refl, sym, ap, ap₂, ◌∙◌, subst}
use mathlib.Core.Bool.{Bool, true, false, cond}
use mathlib.Core.List.{List, [], ◌∷◌, ◌++◌, append-nil, append_assoc}
use Prim.Native.Nat.{ℕ, zero, suc, ◌+◌, ◌-◌, ◌*◌, ◌/◌, ◌%◌, ◌^◌, ◌≤◌, ◌<◌}
use native.Mathlib.Nat.{mod-eq_of_lt, mod-lt, add-zero}
use native.Mathlib.Omega.{arith}
use borrow.Author.Tests.{eq-eqb, ne_eqb, eqb-true, lt-ltb, le-ltb, ltb-false, leb-true, leb-false, eqb-false}
use lib.Dec.{eqb, ltb, leb}
use lib.ListN.{length, take, get_or, length-append}
use Rattle.terms.specs.declared.Rule.{Rule}
use Rattle.numbers.specs.Little.{le4, four_at}
use Rattle.numbers.proofs.Exact.{same_bytes, four_lt}
use Rattle.listing.specs.Text.{digit, decimal, hex}
use Rattle.listing.specs.Listing.{blank}
use Rattle.listing.specs.Hex.{hex_of}
use Rattle.listing.specs.Hex.{digits_to}
use Rattle.decimals.specs.Meaning.{all_digits, number_in}
use Rattle.decimals.specs.Read.{is_digit, scan_of}
use Rattle.decimals.specs.declared.read.Scanned.TheVariants.{Digits}
use Rattle.listing.proofs.Digits.{digits_length}
use Rattle.listing.proofs.Digits.{hex_back}
use Rattle.decimals.proofs.Fractions.{spells}
use Rattle.decimals.proofs.Texts.{scans_all}
use Rattle.record_text.specs.Names.{name_of}
use Rattle.record_text.specs.Kinds.{Command, number_at, kind_at, kind_name, form_of}
use Rattle.record_text.specs.Told.{spaced, joined, group_text, groups, sr_word, sr_words, command_words, words_by}
use Rattle.record_text.specs.Words.{Word, word, ended, words_from}
use Rattle.record_text.specs.Held.{passes}
use Rattle.record_text.specs.Named.{place_from, place_named}
use Rattle.record_text.specs.Values.{size_for, bytes_of, number_for, code_hex, code_of, range, range_of, value_of}
use Rattle.record_text.specs.Line.{record_bytes, Record, Taken, Payload, take_words, closed, needed, with_sr, line_by, line_at, line_in, said_of}
use Rattle.record_text.specs.Meaning.{Takes, AllBytes, RecordReadsBack}
use Rattle.record_text.specs.declared.kinds.Form.{Form}
use Rattle.record_text.specs.declared.kinds.Form.TheVariants.{Bytes, Number as Numbered, Code, Alone, Unknown}
use Rattle.record_text.specs.declared.values.Value.TheVariants.{Number}
use Rattle.record_text.proofs.Tests.{clash, split, unless}
use Rattle.record_text.proofs.Tables.{agree}
use Rattle.record_text.proofs.Parting.{taken_in}

-- ---- words that are joined are parted again

-- characters of a word
abbrev plain : List ℕ → Bool
plain [] = true
plain (c ∷ l) = cond (passes false c) (plain l) false

-- words of one character or more
abbrev words : List (List ℕ) → Bool
words [] = true
words ([] ∷ ws) = false
words ((c ∷ w) ∷ ws) = cond (plain (c ∷ w)) (words ws) false

-- words at their places, parted by single blanks
abbrev placed : ℕ → List (List ℕ) → List Word
placed at [] = []
placed at (w ∷ ws) = word at w ∷ placed (at + length w + 1) ws

-- a word's characters are read into it
read_in : (at : ℕ) (read w rest : List ℕ) → plain w ≡ true → words_from at read (w ++ rest) ≡ words_from (at + length w) (read ++ w) rest
read_in at read [] rest e = ap₂ (λ (n : ℕ) (l : List ℕ). words_from n l rest) (sym (add-zero at)) (sym (append-nil read))
read_in at read (c ∷ w) rest e =
    let p = split (passes false c) (plain w) e in
    taken_in at read c (w ++ rest) p.0 ∙ read_in (at + 1) (read ++ (c ∷ [])) w rest p.1
    ∙ ap₂ (λ (n : ℕ) (l : List ℕ). words_from n l rest) (more at w) (append_assoc read (c ∷ []) w)
  where
    more : (at : ℕ) (w : List ℕ) → at + 1 + length w ≡ at + suc (length w)
    more at w = omega arith

ended_at : (at c : ℕ) (w : List ℕ) (ws : List Word) → ended (at + length (c ∷ w)) (c ∷ w) ws ≡ word at (c ∷ w) ∷ ws
ended_at at c w ws = let z : at + length (c ∷ w) - length (c ∷ w) ≡ at = omega arith in ap (λ (n : ℕ). word n (c ∷ w) ∷ ws) z

last_ends : (n : ℕ) (l : List ℕ) → words_from n l [] ≡ ended n l []
unfolding words_from
last_ends n l = refl

blank_ends : (n : ℕ) (l rest : List ℕ) → words_from n l (blank ∷ rest) ≡ ended n l (words_from (n + 1) [] rest)
unfolding words_from
blank_ends n l rest = refl

parted : (ws : List (List ℕ)) (at : ℕ) (w : List ℕ) → words (w ∷ ws) ≡ true → words_from at [] (w ++ spaced ws) ≡ placed at (w ∷ ws)
parted [] at [] e = clash e
parted [] at (c ∷ w) e =
    let p = split (plain (c ∷ w)) true e in
    read_in at [] (c ∷ w) [] p.0 ∙ last_ends (at + length (c ∷ w)) (c ∷ w) ∙ ended_at at c w []
parted (v ∷ ws) at [] e = clash e
parted (v ∷ ws) at (c ∷ w) e =
    let p = split (plain (c ∷ w)) (words (v ∷ ws)) e in
    read_in at [] (c ∷ w) (blank ∷ (v ++ spaced ws)) p.0 ∙ blank_ends (at + length (c ∷ w)) (c ∷ w) (v ++ spaced ws)
    ∙ ended_at at c w (words_from (at + length (c ∷ w) + 1) [] (v ++ spaced ws))
    ∙ ap (λ (l : List Word). word at (c ∷ w) ∷ l) (parted ws (at + length (c ∷ w) + 1) v p.1)

pub line_of : (rule : Rule) (w : List ℕ) (ws : List (List ℕ)) → words (w ∷ ws) ≡ true → said_of rule (joined (w ∷ ws)) ≡ line_in rule (placed 0 (w ∷ ws))
unfolding said_of
line_of rule w ws e = ap (line_in rule) (parted ws 0 w e)

a_word : (w : List ℕ) (ws : List (List ℕ)) → 0 < length w → plain w ≡ true → words ws ≡ true → words (w ∷ ws) ≡ true
a_word [] ws h p e = absurd (omega arith)
a_word (c ∷ w) ws h p e = rw p e

-- ---- digits are characters of words
digit_plain : (d : ℕ) → d < 16 → passes false (digit d) ≡ true
digit_plain d h = agree false (λ (n : ℕ). passes false (digit n)) (λ (n : ℕ). true) 0 16 refl d (omega arith) h

both_plain : (l m : List ℕ) → plain l ≡ true → plain m ≡ true → plain (l ++ m) ≡ true
both_plain [] m e f = f
both_plain (c ∷ l) m e f = let p = split (passes false c) (plain l) e in rw p.0 (both_plain l m p.1 f)

hex_plain : (count n : ℕ) → plain (digits_to 16 count n) ≡ true
unfolding digits_to
hex_plain zero n = refl
hex_plain (suc count) n =
    both_plain (digits_to 16 count (n / 16)) (digit (n % 16) ∷ []) (hex_plain count (n / 16)) (rw (digit_plain (n % 16) (mod-lt n (omega arith))))

decimal_plain : (l : List ℕ) → all_digits l ≡ true → plain l ≡ true
decimal_plain [] e = refl
decimal_plain (c ∷ l) e =
    let p = split (is_digit c) (all_digits l) e in rw (is_plain c p.0) (decimal_plain l p.1)
  where
    is_plain : (c : ℕ) → is_digit c ≡ true → passes false c ≡ true
    is_plain c f =
        let h = unless (ltb c 48) (ltb c 58) f in
        let b = ltb-false c 48 h.0 in
        rw (ne_eqb c 35 (λ z. omega arith), ne_eqb c 32 (λ z. omega arith), ne_eqb c 9 (λ z. omega arith))

-- ---- a number reads back
number_back : (n : ℕ) → n < 4294967296 → scan_of (decimal n) ≡ Digits n (length (decimal n))
number_back n h =
    let s = spells 19 n (omega arith) in
    subst (λ (l : List ℕ). scan_of l ≡ Digits (number_in (decimal n)) (length (decimal n))) (append-nil (decimal n))
    (scans_all (decimal n) [] s.digits (subst (λ (x : ℕ). x < 10 ^ 19) (sym s.number) (omega arith)) tt)
    ∙ ap (λ (x : ℕ). Digits x (length (decimal n))) s.number

counted : (kind n : ℕ) → n < 4294967296 → (range_of kind).least ≤ n → n ≤ (range_of kind).most → number_for kind (decimal n) ≡ Number n (range_of kind).size
unfolding number_for
counted kind n h l m =
    rw (number_back n h, eq-eqb (length (decimal n)) (length (decimal n)) refl, le-ltb n (range_of kind).least l, le-ltb (range_of kind).most n m)

-- ---- bytes read back
value_back : (rule : Rule) (digits size n : ℕ) → size_for digits ≡ size → (size ≡ 0 → ⊥) → n < 16 ^ digits → bytes_of rule (digits_to 16 digits n) ≡ Number n size
unfolding bytes_of
value_back rule digits size n e k h = rw (digits_length 16 digits n, e, ne_eqb size 0 k, hex_back digits n h)

one_byte : (a : ℕ) → a < 256 → take 1 (le4 (four_at (a ∷ []) 0)) ≡ a ∷ []
one_byte a h = let e : (a + 0 * 2 ^ 8 + 0 * 2 ^ 16 + 0 * 2 ^ 24) % 256 ≡ a = omega arith in ap (λ (x : ℕ). x ∷ []) e

two_bytes : (a b : ℕ) → a < 256 → b < 256 → take 2 (le4 (four_at (a ∷ b ∷ []) 0)) ≡ a ∷ b ∷ []
two_bytes a b h k =
    let e : (a + b * 2 ^ 8 + 0 * 2 ^ 16 + 0 * 2 ^ 24) % 256 ≡ a = omega arith in
    let f : (a + b * 2 ^ 8 + 0 * 2 ^ 16 + 0 * 2 ^ 24) / 256 ≡ b = omega arith in
    ap₂ (λ (x y : ℕ). x ∷ y ∷ []) e (ap (λ (x : ℕ). x % 256) f ∙ mod-eq_of_lt k)

small1 : (a : ℕ) → a < 256 → four_at (a ∷ []) 0 < 16 ^ 2
small1 a h = omega arith

small2 : (a b : ℕ) → a < 256 → b < 256 → four_at (a ∷ b ∷ []) 0 < 16 ^ 4
small2 a b h k = omega arith

small4 : (a b c d : ℕ) → a < 256 → b < 256 → c < 256 → d < 256 → four_at (a ∷ b ∷ c ∷ d ∷ []) 0 < 16 ^ 8
small4 a b c d h k l m = omega arith

-- one word more of a push
module _ (rule : Rule) (kind at : ℕ) (g : List ℕ) (n size : ℕ) (bytes : List ℕ) (v : bytes_of rule g ≡ Number n size) (b : take size (le4 n) ≡ bytes) where
  step : (ws : List Word) (done : List ℕ) → length done + size ≤ 240 → take_words true rule Bytes kind (word at g ∷ ws) done ≡ take_words true rule Bytes kind ws
      (done ++ bytes)
  step ws done h = unfold take_words in rw (v, le-ltb 240 (length done + size) h, b)

module _ (rule : Rule) (kind : ℕ) where
  push_back : (at : ℕ) (l done : List ℕ) → AllBytes l → length done + length l ≤ 240 → take_words true rule Bytes kind (placed at (groups l)) done ≡ Payload
      (done ++ l) []
  unfolding groups take_words
  push_back at [] done B h = ap (λ (l : List ℕ). Payload l []) (sym (append-nil done))
  push_back at (a ∷ []) done B h =
      step rule kind at (group_text (a ∷ [])) (four_at (a ∷ []) 0) 1 (a ∷ []) (value_back rule 2 1 (four_at (a ∷ []) 0) refl (λ z. omega arith) (small1 a (B 0)))
      (one_byte a (B 0)) [] done h
  push_back at (a ∷ b ∷ []) done B h =
      step rule kind at (group_text (a ∷ b ∷ [])) (four_at (a ∷ b ∷ []) 0) 2 (a ∷ b ∷ [])
      (value_back rule 4 2 (four_at (a ∷ b ∷ []) 0) refl (λ z. omega arith) (small2 a b (B 0) (B 1))) (two_bytes a b (B 0) (B 1)) [] done h
  push_back at (a ∷ b ∷ c ∷ []) done B h =
      let w = group_text (a ∷ b ∷ []) in
      step rule kind at w (four_at (a ∷ b ∷ []) 0) 2 (a ∷ b ∷ [])
      (value_back rule 4 2 (four_at (a ∷ b ∷ []) 0) refl (λ z. omega arith) (small2 a b (B 0) (B 1))) (two_bytes a b (B 0) (B 1))
      (placed (at + length w + 1) (group_text (c ∷ []) ∷ [])) done (omega arith)
      ∙ step rule kind (at + length w + 1) (group_text (c ∷ [])) (four_at (c ∷ []) 0) 1 (c ∷ [])
      (value_back rule 2 1 (four_at (c ∷ []) 0) refl (λ z. omega arith) (small1 c (B 2))) (one_byte c (B 2)) [] (done ++ (a ∷ b ∷ []))
      (omega (arith, length-append done (a ∷ b ∷ [])))
      ∙ ap (λ (l : List ℕ). Payload l []) (append_assoc done (a ∷ b ∷ []) (c ∷ []))
  push_back at (a ∷ b ∷ c ∷ d ∷ l) done B h =
      let w = group_text (a ∷ b ∷ c ∷ d ∷ []) in
      step rule kind at w (four_at (a ∷ b ∷ c ∷ d ∷ []) 0) 4 (a ∷ b ∷ c ∷ d ∷ [])
      (value_back rule 8 4 (four_at (a ∷ b ∷ c ∷ d ∷ []) 0) refl (λ z. omega arith) (small4 a b c d (B 0) (B 1) (B 2) (B 3)))
      (same_bytes a b c d (B 0) (B 1) (B 2) (B 3)) (placed (at + length w + 1) (groups l)) done (omega arith)
      ∙ push_back (at + length w + 1) l (done ++ (a ∷ b ∷ c ∷ d ∷ [])) (λ i. B (suc (suc (suc (suc i)))))
      (omega (arith, length-append done (a ∷ b ∷ c ∷ d ∷ [])))
      ∙ ap (λ (m : List ℕ). Payload m []) (append_assoc done (a ∷ b ∷ c ∷ d ∷ []) l)

-- a word behind another name
one_word : (rule : Rule) (form : Form) (kind at n size : ℕ) (w : List ℕ) → value_of rule form kind w ≡ Number n size → size ≤ 240
    → take_words false rule form kind (word at w ∷ []) [] ≡ Payload (take size (le4 n)) []
unfolding take_words
one_word rule form kind at n size w v h = rw (v, le-ltb 240 (0 + size) (omega arith))

-- the words of a push are words
group_word : (bytes : List ℕ) (ws : List (List ℕ)) → 0 < length bytes → words ws ≡ true → words (group_text bytes ∷ ws) ≡ true
group_word bytes ws h e =
    let n = digits_length 16 (2 * length bytes) (four_at bytes 0) in
    a_word (group_text bytes) ws (omega arith) (hex_plain (2 * length bytes) (four_at bytes 0)) e

groups_words : (l : List ℕ) → words (groups l) ≡ true
unfolding groups
groups_words [] = refl
groups_words (a ∷ []) = group_word (a ∷ []) [] (omega arith) refl
groups_words (a ∷ b ∷ []) = group_word (a ∷ b ∷ []) [] (omega arith) refl
groups_words (a ∷ b ∷ c ∷ []) = group_word (a ∷ b ∷ []) (group_text (c ∷ []) ∷ []) (omega arith) (group_word (c ∷ []) [] (omega arith) refl)
groups_words (a ∷ b ∷ c ∷ d ∷ l) = group_word (a ∷ b ∷ c ∷ d ∷ []) (groups l) (omega arith) (groups_words l)

-- ---- names read back

abbrev is_code : Form → Bool
is_code Bytes = false
is_code Numbered = false
is_code Code = true
is_code Alone = false
is_code Unknown = false

-- of a kind, by the place of its name
module _ (place : ℕ) (l : 128 ≤ place) (h : place < 139) where
  place_back : place_named (kind_name (kind_at place)) ≡ place
  unfolding place_from name_of
  place_back = agree 0 (λ (p : ℕ). place_named (kind_name (kind_at p))) (λ (p : ℕ). p) 128 11 refl place l (omega arith)

  kind_word : words (kind_name (kind_at place) ∷ []) ≡ true
  kind_word = agree false (λ (p : ℕ). words (kind_name (kind_at p) ∷ [])) (λ (p : ℕ). true) 128 11 refl place l (omega arith)

  by_kind : (rule : Rule) (ws : List Word)
      → line_in rule (word 0 (kind_name (kind_at place)) ∷ ws) ≡ line_by rule (form_of (kind_at place)) (number_at place) (word 0 (kind_name (kind_at place))) ws
  by_kind rule ws =
      ap (λ (p : ℕ). line_at rule p (word 0 (kind_name (kind_at place))) ws) place_back ∙ rw (le-ltb place 128 l)

  -- a code stands behind one name alone
  code_place : form_of (kind_at place) ≡ Code → place ≡ 130
  code_place e =
      eqb-true place 130
      (sym (agree false (λ (p : ℕ). is_code (form_of (kind_at p))) (λ (p : ℕ). eqb p 130) 128 11 refl place l (omega arith)) ∙ ap is_code e)

-- of a command, by its code
module _ (n : ℕ) (h : n < 128) where
  name_code : (length (name_of n) ≡ 0 → ⊥) → place_named (name_of n) ≡ n
  unfolding name_of place_from
  name_code k =
      agree 0 (λ (m : ℕ). place_named (name_of m)) (λ (m : ℕ). cond (eqb (length (name_of m)) 0) 12 m) 0 128 refl n (omega arith) h
      ∙ rw (ne_eqb (length (name_of n)) 0 k)

  name_plain : plain (name_of n) ≡ true
  unfolding name_of
  name_plain = agree false (λ (m : ℕ). plain (name_of m)) (λ (m : ℕ). true) 0 128 refl n (omega arith) h

-- ---- a command
sr_words_lem : (code : ℕ) → words (sr_words code) ≡ true
sr_words_lem code = go (leb 128 code)
  where
    go : (t : Bool) → words (cond t (sr_word ∷ []) []) ≡ true
    go true = refl
    go false = refl

hex_is : (code : ℕ) → code < 256 → hex code ≡ digits_to 16 2 code
unfolding digits_to
hex_is code h = let e : code / 16 ≡ code / 16 % 16 = omega arith in ap (λ (d : ℕ). digit d ∷ digit (code % 16) ∷ []) e

code_back : (code : ℕ) → code < 256 → code_of (hex code) ≡ Number code 1
unfolding code_of
code_back code h = ap code_hex (ap hex_of (hex_is code h) ∙ hex_back 2 code h)

with_sr_lem : (code at : ℕ) → code < 256 → with_sr (code % 128) (placed at (sr_words code)) ≡ Payload (code ∷ []) []
with_sr_lem code at h = go (leb 128 code) refl
  where
    go : (t : Bool) → leb 128 code ≡ t → with_sr (code % 128) (placed at (cond t (sr_word ∷ []) [])) ≡ Payload (code ∷ []) []
    go true e = let l = leb-true 128 code e in let z : code % 128 + 128 ≡ code = omega arith in ap (λ (n : ℕ). Payload (n ∷ []) []) z
    go false e = let l = leb-false 128 code e in let z : code % 128 ≡ code = omega arith in ap (λ (n : ℕ). Payload (n ∷ []) []) z

unnamed : (code : ℕ) → eqb (length (name_of (code % 128))) 0 ≡ true → command_words code ≡ kind_name Command ∷ hex code ∷ []
unfolding command_words
unnamed code e = rw e

by_name : (code : ℕ) → eqb (length (name_of (code % 128))) 0 ≡ false → command_words code ≡ name_of (code % 128) ∷ sr_words code
unfolding command_words
by_name code e = rw e

command_back : (rule : Rule) (code : ℕ) → code < 256 → said_of rule (joined (command_words code)) ≡ Record (record_bytes 3 (code ∷ []))
command_back rule code h = go (eqb (length (name_of (code % 128))) 0) refl
  where
    n : ℕ
    n = code % 128

    below : n < 128
    below = mod-lt code (omega arith)

    ws : List Word
    ws = placed (0 + length (name_of n) + 1) (sr_words code)

    named : (length (name_of n) ≡ 0 → ⊥) → line_in rule (word 0 (name_of n) ∷ ws) ≡ Record (record_bytes 3 (code ∷ []))
    named k =
        ap (λ (p : ℕ). line_at rule p (word 0 (name_of n)) ws) (name_code n below k)
        ∙ ap (λ (t : Bool). cond t (closed 3 (with_sr n ws)) (line_by rule (form_of (kind_at n)) (number_at n) (word 0 (name_of n)) ws)) (lt-ltb n 128 below)
        ∙ ap (closed 3) (with_sr_lem code (0 + length (name_of n) + 1) h)

    go : (t : Bool) → eqb (length (name_of n)) 0 ≡ t → said_of rule (joined (command_words code)) ≡ Record (record_bytes 3 (code ∷ []))
    go true e =
        ap (λ (l : List (List ℕ)). said_of rule (joined l)) (unnamed code e)
        ∙ line_of rule (kind_name (kind_at 130)) (hex code ∷ [])
        (a_word (hex code) [] (omega arith) (subst (λ (l : List ℕ). plain l ≡ true) (sym (hex_is code h)) (hex_plain 2 code)) refl)
        ∙ by_kind 130 (omega arith) (omega arith) rule (placed 8 (hex code ∷ []))
        ∙ ap (λ (t : Taken). closed 3 (needed 7 t)) (one_word rule Code 3 8 code 1 (hex code) (code_back code h) (omega arith))
        ∙ ap (λ (c : ℕ). Record (record_bytes 3 (c ∷ []))) (mod-eq_of_lt h)
    go false e =
        let k = eqb-false (length (name_of n)) 0 e in
        ap (λ (l : List (List ℕ)). said_of rule (joined l)) (by_name code e)
        ∙ line_of rule (name_of n) (sr_words code) (a_word (name_of n) (sr_words code) (omega arith) (name_plain n below) (sr_words_lem code))
        ∙ named k

-- ---- every record
single : (l : List ℕ) → length l ≡ 1 → l ≡ get_or l 0 0 ∷ []
single [] e = absurd (omega arith)
single (a ∷ []) e = refl
single (a ∷ b ∷ l) e = absurd (omega arith)

pub one_number : (l : List ℕ) → length l ≡ 1 → four_at l 0 ≡ get_or l 0 0
one_number l e = ap (λ (m : List ℕ). four_at m 0) (single l e) ∙ (let n = get_or l 0 0 in let z : n + 0 * 2 ^ 8 + 0 * 2 ^ 16 + 0 * 2 ^ 24 ≡ n = omega arith in z)

-- the number in a payload of one byte or of four has these bytes
sized_back : (kind : ℕ) (l : List ℕ) → length l ≡ (range_of kind).size → AllBytes l → take (range_of kind).size (le4 (four_at l 0)) ≡ l
sized_back kind l e B = go (eqb kind 2) (eqb kind 256) e
  where
    one : (l : List ℕ) → length l ≡ 1 → AllBytes l → take 1 (le4 (four_at l 0)) ≡ l
    one l f b = subst (λ (m : List ℕ). take 1 (le4 (four_at m 0)) ≡ m) (sym (single l f)) (one_byte (get_or l 0 0) (b 0))

    four : (l : List ℕ) → length l ≡ 4 → AllBytes l → take 4 (le4 (four_at l 0)) ≡ l
    four [] f b = absurd (omega arith)
    four (a ∷ []) f b = absurd (omega arith)
    four (a ∷ b ∷ []) f k = absurd (omega arith)
    four (a ∷ b ∷ c ∷ []) f k = absurd (omega arith)
    four (a ∷ b ∷ c ∷ d ∷ []) f k = same_bytes a b c d (k 0) (k 1) (k 2) (k 3)
    four (a ∷ b ∷ c ∷ d ∷ x ∷ l) f k = absurd (omega arith)

    go : (s t : Bool) → length l ≡ (cond s (range 1 240 1) (cond t (range 0 4294967295 4) (range 0 255 1))).size
        → take (cond s (range 1 240 1) (cond t (range 0 4294967295 4) (range 0 255 1))).size (le4 (four_at l 0)) ≡ l
    go true t f = one l f B
    go false true f = four l f B
    go false false f = one l f B

-- and there is such a byte
sized : (kind : ℕ) → (1 ≤ (range_of kind).size) × ((range_of kind).size ≤ 240)
sized kind = go (eqb kind 2) (eqb kind 256)
  where
    go : (s t : Bool) → let n = (cond s (range 1 240 1) (cond t (range 0 4294967295 4) (range 0 255 1))).size in (1 ≤ n) × (n ≤ 240)
    go true t = (omega arith, omega arith)
    go false true = (omega arith, omega arith)
    go false false = (omega arith, omega arith)

first : (w : List ℕ) (ws : List (List ℕ)) → words (w ∷ []) ≡ true → words ws ≡ true → words (w ∷ ws) ≡ true
first [] ws p e = clash p
first (c ∷ w) ws p e = rw (split (plain (c ∷ w)) true p).0 e

-- a payload that is there makes the record
there : (kind at : ℕ) (l : List ℕ) → 1 ≤ length l → closed kind (needed at (Payload l [])) ≡ Record (record_bytes kind l)
there kind at [] h = absurd (omega arith)
there kind at (b ∷ l) h = refl

module _ (rule : Rule) (place : ℕ) (payload : List ℕ) (l : 128 ≤ place) (h : place < 139) (B : AllBytes payload) where
  abbrev kind : ℕ
  kind = number_at place

  abbrev name : List ℕ
  name = kind_name (kind_at place)

  -- a line of the name and other words, by the form of these
  named_line : (form : Form) (ws : List (List ℕ)) → form_of (kind_at place) ≡ form → words ws ≡ true
      → said_of rule (joined (name ∷ ws)) ≡ line_by rule form kind (word 0 name) (placed (0 + length name + 1) ws)
  named_line form ws f e =
      line_of rule name ws (first name ws (kind_word place l h) e) ∙ by_kind place l h rule (placed (0 + length name + 1) ws)
      ∙ ap (λ (g : Form). line_by rule g kind (word 0 name) (placed (0 + length name + 1) ws)) f

  by_form : (form : Form) → form_of (kind_at place) ≡ form → Takes form kind payload
      → said_of rule (joined (words_by form (kind_at place) payload)) ≡ Record (record_bytes kind payload)
  by_form Bytes f (some, few) =
      named_line Bytes (groups payload) f (groups_words payload)
      ∙ ap (λ (t : Taken). closed kind (needed (0 + length name) t)) (push_back rule kind (0 + length name + 1) payload [] B (let z = few in omega arith))
      ∙ there kind (0 + length name) payload some
  by_form Numbered f (size, least, most) =
      let n = four_at payload 0 in
      let small = four_lt payload 0 B in
      let d = spells 19 n (omega arith) in
      let s = sized kind in
      named_line Numbered (decimal n ∷ []) f (a_word (decimal n) [] d.some (decimal_plain (decimal n) d.digits) refl)
      ∙ ap (λ (t : Taken). closed kind (needed (0 + length name) t))
      (one_word rule Numbered kind (0 + length name + 1) n (range_of kind).size (decimal n) (counted kind n small least most) s.1
      ∙ ap (λ (b : List ℕ). Payload b []) (sized_back kind payload size B))
      ∙ there kind (0 + length name) payload (omega (arith, s.0, size))
  by_form Code f size =
      subst (λ (p : List ℕ). said_of rule (joined (command_words (get_or payload 0 0))) ≡ Record (record_bytes kind p)) (sym (single payload size))
      (command_back rule (get_or payload 0 0) (B 0) ∙ ap (λ (p : ℕ). Record (record_bytes (number_at p) (get_or payload 0 0 ∷ []))) (sym (code_place place l h f)))
  by_form Alone f e = named_line Alone [] f refl ∙ ap (λ (p : List ℕ). Record (record_bytes kind p)) (sym e)
  by_form Unknown f e = absurd e

pub record_reads_back : RecordReadsBack
record_reads_back rule place payload l h t B = by_form rule place payload l h B (form_of (kind_at place)) refl t
