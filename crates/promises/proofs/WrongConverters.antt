-- No wrong converter keeps the two contracts: for each class an input tells, or two. Assumes nothing.
use mathlib.Core.Path.{◌≡◌, refl, sym, ap, ◌∙◌}
use mathlib.Core.List.{List, [], ◌∷◌, ◌++◌}
use Prim.Native.Nat.{ℕ}
use native.Mathlib.Omega.{arith}
use lib.Dec.{lit<}
use lib.ListN.{get_or}
use lib.Ieee.{size, of_bits, to_bits}
use Rattle.stack.specs.Stack.{Bytes, zeros}
use Rattle.host_floats.specs.Double.{outward_of, inward_of}
use Rattle.host_floats.specs.Buffers.{Turn, words_turn, floats_turn}
use Rattle.promises.specs.Doubles.{turned}
use Rattle.promises.specs.WrongConverters.{Converter, KeepsContracts, WrongConverter, never_words, never_floats, same_words, same_floats, back_words}
use Rattle.promises.specs.WrongConverters.{back_floats, number_words, number_floats, first_word, first_float, NoWrongConverter}
use Rattle.promises.proofs.WrongCores.{literal}

-- ---- the inputs: 1 as a word and as an f64, a word that is not proper, an f64 halfway above 1
abbrev one : List ℕ
one = 0x00 ∷ 0x00 ∷ 0x80 ∷ 0x01 ∷ []

abbrev one_float : List ℕ
one_float = 0x00 ∷ 0x00 ∷ 0x00 ∷ 0x00 ∷ 0x00 ∷ 0x00 ∷ 0xf0 ∷ 0x3f ∷ []

abbrev improper : List ℕ
improper = 0x01 ∷ 0x00 ∷ 0x00 ∷ 0x00 ∷ []

abbrev halfway : List ℕ
halfway = 0x00 ∷ 0x00 ∷ 0x00 ∷ 0x10 ∷ 0x00 ∷ 0x00 ∷ 0xf0 ∷ 0x3f ∷ []

-- ---- what the contracts say of them
record ConverterAnswers : Type 0 where
  no_words : words_turn [] [] ≡ turned 0 0 []
  no_floats : floats_turn 0 [] [] ≡ turned 0 0 []
  part_word : words_turn (0x00 ∷ []) [] ≡ turned 18 0 []
  part_float : floats_turn 0 (0x00 ∷ []) [] ≡ turned 18 0 []
  bad_word : words_turn improper (zeros 16) ≡ turned 4 1 (zeros 16)
  rounded : floats_turn 0 halfway (zeros 16) ≡ turned 0 1 (one ++ zeros 12)
  word : words_turn one (zeros 16) ≡ turned 0 0 (one_float ++ zeros 8)
  words : words_turn (one ++ one) (zeros 16) ≡ turned 0 0 (one_float ++ one_float)
  float : floats_turn 0 one_float (zeros 16) ≡ turned 0 0 (one ++ zeros 12)
  floats : floats_turn 0 (one_float ++ one_float) (zeros 16) ≡ turned 0 0 (one ++ one ++ zeros 8)

tells : ConverterAnswers
unfolding outward_of inward_of words_turn floats_turn size of_bits to_bits
tells = record {
  no_words = refl;
  no_floats = refl;
  part_word = refl;
  part_float = refl;
  bad_word = refl;
  rounded = refl;
  word = refl;
  words = refl;
  float = refl;
  floats = refl;
}

-- ---- what a converter that keeps them does
module _ (c : Converter) (k : KeepsContracts c) where
  does_words : {t : Turn} (words out : List ℕ) → Bytes words → Bytes out → words_turn words out ≡ t → c.words_to_f64 words out ≡ t
  does_words words out a b e = let h = k.words words out a b in (λ i. record { result = h.result_is i; number = h.number_is i; out = h.out_is i }) ∙ e

  does_floats : {t : Turn} (floats out : List ℕ) → Bytes floats → Bytes out → floats_turn 0 floats out ≡ t → c.f64_to_words 0 floats out ≡ t
  does_floats floats out a b e = let h = k.floats 0 floats out (lit< tt) a b
      in (λ i. record { result = h.result_is i; number = h.number_is i; out = h.out_is i }) ∙ e

  result : {s t : Turn} → s ≡ t → s.result ≡ t.result
  result e = ap (λ (t : Turn). t.result) e

  number : {s t : Turn} → s ≡ t → s.number ≡ t.number
  number e = ap (λ (t : Turn). t.number) e

  -- the byte at a place of what is left
  left : {s t : Turn} (i : ℕ) → s ≡ t → get_or s.out i 0 ≡ get_or t.out i 0
  left i e = ap (λ (t : Turn). get_or t.out i 0) e

  no_wrong : WrongConverter c → ⊥
  no_wrong (never_words f) = f [] [] tt tt (result (does_words [] [] tt tt tells.no_words))
  no_wrong (never_floats f) = f 0 [] [] (lit< tt) tt tt (result (does_floats [] [] tt tt tells.no_floats))
  no_wrong (same_words n f) =
      let a = sym (f [] [] tt tt) ∙ result (does_words [] [] tt tt tells.no_words) in
      let b = sym (f (0x00 ∷ []) [] (lit< tt, tt) tt) ∙ result (does_words (0x00 ∷ []) [] (lit< tt, tt) tt tells.part_word) in
      omega arith
  no_wrong (same_floats n f) =
      let a = sym (f 0 [] [] (lit< tt) tt tt) ∙ result (does_floats [] [] tt tt tells.no_floats) in
      let b = sym (f 0 (0x00 ∷ []) [] (lit< tt) (lit< tt, tt) tt) ∙ result (does_floats (0x00 ∷ []) [] (lit< tt, tt) tt tells.part_float) in
      omega arith
  no_wrong (back_words f) =
      let a = ap (λ (l : List ℕ). get_or l 6 0) (sym (f one (zeros 16) (literal one refl) (literal (zeros 16) refl))) ∙ left 6
      (does_words one (zeros 16) (literal one refl) (literal (zeros 16) refl) tells.word) in
      omega arith
  no_wrong (back_floats f) =
      let a = ap (λ (l : List ℕ). get_or l 2 0) (sym (f 0 one_float (zeros 16) (lit< tt) (literal one_float refl) (literal (zeros 16) refl)))
      ∙ left 2 (does_floats one_float (zeros 16) (literal one_float refl) (literal (zeros 16) refl) tells.float) in
      omega arith
  no_wrong (number_words n f) =
      let a = sym (f [] [] tt tt) ∙ number (does_words [] [] tt tt tells.no_words) in
      let b = sym (f improper (zeros 16) (literal improper refl) (literal (zeros 16) refl)) ∙ number
      (does_words improper (zeros 16) (literal improper refl) (literal (zeros 16) refl) tells.bad_word) in
      omega arith
  no_wrong (number_floats n f) =
      let a = sym (f 0 [] [] (lit< tt) tt tt) ∙ number (does_floats [] [] tt tt tells.no_floats) in
      let b = sym (f 0 halfway (zeros 16) (lit< tt) (literal halfway refl) (literal (zeros 16) refl)) ∙ number
      (does_floats halfway (zeros 16) (literal halfway refl) (literal (zeros 16) refl) tells.rounded) in
      omega arith
  no_wrong (first_word f) =
      let a = left 14 (does_words (one ++ one) (zeros 16) (literal (one ++ one) refl) (literal (zeros 16) refl) tells.words) in
      let b = left 14 (does_words one (zeros 16) (literal one refl) (literal (zeros 16) refl) tells.word) in
      let e = ap (λ (l : List ℕ). get_or l 14 0) (f one one (zeros 16) refl (literal one refl) (literal one refl) (literal (zeros 16) refl)) in
      omega arith
  no_wrong (first_float f) =
      let a = left 6 (does_floats (one_float ++ one_float) (zeros 16) (literal (one_float ++ one_float) refl) (literal (zeros 16) refl) tells.floats) in
      let b = left 6 (does_floats one_float (zeros 16) (literal one_float refl) (literal (zeros 16) refl) tells.float) in
      let e = ap (λ (l : List ℕ). get_or l 6 0) (f 0 one_float one_float (zeros 16) (lit< tt) refl (literal one_float refl) (literal one_float refl)
      (literal (zeros 16) refl)) in
      omega arith

pub no_wrong_converter : NoWrongConverter
no_wrong_converter c k w = no_wrong c k w
