-- The rows of the conversions, of the calls on buffers and of the call for formulas hold: each is computed. Assumes nothing.
use mathlib.Core.Path.{refl}
use lib.Ieee.{size, of_bits, to_bits}
use Rattle.host_floats.specs.Host.{host_of, taken_of}
use Rattle.host_floats.specs.Double.{outward_of, inward_of}
use Rattle.host_floats.specs.Buffers.{words_turn, floats_turn}
use Rattle.formula.specs.Formula.{need_of}
use Rattle.formula.specs.Reader.{formula_of, factor_of, more, leaf_of}
use Rattle.formula.specs.File.{letter_word, proper_in, file_of}
use Rattle.formula.specs.Translation.{translation_of}
use Rattle.pundaliket.specs.Calls.{sent_of}
use Rattle.promises.specs.CallRows.{WordToF32Rows, F32ToWordRows, WordsToF64Rows, F64ToWordsRows, FormulaRows, LongFormulas}

pub word_to_f32_rows : WordToF32Rows
unfolding sent_of host_of of_bits to_bits
word_to_f32_rows = refl

pub f32_to_word_rows : F32ToWordRows
unfolding sent_of taken_of
f32_to_word_rows = refl

pub words_to_f64_rows : WordsToF64Rows
unfolding outward_of words_turn of_bits to_bits
words_to_f64_rows = refl

pub f64_to_words_rows : F64ToWordsRows
unfolding inward_of floats_turn size of_bits to_bits
f64_to_words_rows = refl

pub formula_rows : FormulaRows
unfolding translation_of formula_of factor_of more leaf_of letter_word proper_in need_of file_of
formula_rows = refl

pub long_formulas : LongFormulas
unfolding translation_of formula_of factor_of more leaf_of letter_word proper_in need_of file_of
long_formulas = record {
  size = refl;
  taken = refl;
  refused = refl;
}
