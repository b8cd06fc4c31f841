-- 02, ask 13, by tables: entries each way and whole calls, byte by byte. Definitions and the statement only:
-- proofs/DoubleBench.antt proves it. Assumes nothing.
use Rattle.std.specs.Prelude.{ℕ, ◌≡◌, List, [], ◌∷◌, map, replicate}
use Rattle.terms.specs.declared.Rule.TheVariants.{Cut, Nearest}
use Rattle.host_floats.specs.declared.buffer.Entry.{Entry}
use Rattle.promises.specs.Subjects.{Turn, words_turn, floats_turn}
use Rattle.promises.specs.Doubles.{outward, inward, turned}

-- a word, and what it says outward, refusal and bits: 0, 1, -1, -2.5, pi cut, the largest, the least, the largest below
-- it; three that are not proper
abbrev pub OutRow : Type 0
OutRow = ℕ × ℕ × ℕ

abbrev pub out_table : List OutRow
out_table =
    (0x00000000, 0, 0x0000000000000000) ∷ (0x01800000, 0, 0x3ff0000000000000) ∷ (0x81800000, 0, 0xbff0000000000000)
    ∷ (0x82a00000, 0, 0xc004000000000000) ∷ (0x02c90fda, 0, 0x400921fb40000000) ∷ (0x3fffffff, 0, 0x43dfffffe0000000)
    ∷ (0x40800000, 0, 0x3be0000000000000) ∷ (0xc0ffffff, 0, 0xbbefffffe0000000) ∷ (0x01400000, 4, 0)
    ∷ (0x80000000, 4, 0) ∷ (0x007fffff, 4, 0) ∷ []

-- an f64 by its bits, and what it says inward under cut, then under nearest: refusal, word, 1 where it was rounded
pub record InRow : Type 0 where
  pub float : ℕ
  pub by_cut : Entry
  pub by_nearest : Entry

-- the same under both
abbrev pub gives : ℕ → ℕ → ℕ → Entry
gives refusal word rounded = record { refusal = refusal; bits = word; rounded = rounded }

abbrev pub under_both : ℕ → Entry → InRow
under_both float e = record { float = float; by_cut = e; by_nearest = e }

abbrev pub under_each : ℕ → Entry → Entry → InRow
under_each float c n = record { float = float; by_cut = c; by_nearest = n }

-- exact ones; halfway between two words, the even one below and above; beside halfway; up to the next power of two; a
-- third and its opposite;
-- the largest word, what rounds to it, and what rounds to 2 ^ 63; the least word and what lies under it; subnormal
-- ones; minus zero; infinite or no number
abbrev pub in_table : List InRow
in_table =
    under_both 0x0000000000000000 (gives 0 0x00000000 0) ∷ under_both 0x3ff0000000000000 (gives 0 0x01800000 0)
    ∷ under_both 0xc004000000000000 (gives 0 0x82a00000 0) ∷ under_both 0x3ff0000010000000 (gives 0 0x01800000 1)
    ∷ under_each 0x3ff0000010000001 (gives 0 0x01800000 1) (gives 0 0x01800001 1)
    ∷ under_each 0x3ff0000030000000 (gives 0 0x01800001 1) (gives 0 0x01800002 1)
    ∷ under_both 0x3ff000002fffffff (gives 0 0x01800001 1)
    ∷ under_each 0x3fffffffffffffff (gives 0 0x01ffffff 1) (gives 0 0x02800000 1)
    ∷ under_each 0x3fd5555555555555 (gives 0 0x7faaaaaa 1) (gives 0 0x7faaaaab 1)
    ∷ under_each 0xbfd5555555555555 (gives 0 0xffaaaaaa 1) (gives 0 0xffaaaaab 1)
    ∷ under_both 0x43dfffffe0000000 (gives 0 0x3fffffff 0) ∷ under_both 0x43dfffffefffffff (gives 0 0x3fffffff 1)
    ∷ under_each 0x43dffffff0000000 (gives 0 0x3fffffff 1) (gives 11 0 0)
    ∷ under_each 0xc3dfffffffffffff (gives 0 0xbfffffff 1) (gives 11 0 0) ∷ under_both 0x43e0000000000000 (gives 11 0 0)
    ∷ under_both 0x7fefffffffffffff (gives 11 0 0) ∷ under_both 0x3be0000000000000 (gives 0 0x40800000 0)
    ∷ under_each 0xbbe0000010000001 (gives 0 0xc0800000 1) (gives 0 0xc0800001 1)
    ∷ under_both 0x3bdfffffffffffff (gives 12 0 0) ∷ under_both 0x000fffffffffffff (gives 12 0 0)
    ∷ under_both 0x8000000000000001 (gives 12 0 0) ∷ under_both 0x8000000000000000 (gives 15 0 0)
    ∷ under_both 0x7ff0000000000000 (gives 10 0 0) ∷ under_both 0xfff8000000000000 (gives 10 0 0)
    ∷ under_both 0x7ff0000000000001 (gives 10 0 0) ∷ []

-- the bytes of 1, of the f64 halfway above 01800001, and of plus zero
abbrev pub three : List ℕ
three =
    0x00 ∷ 0x00 ∷ 0x00 ∷ 0x00 ∷ 0x00 ∷ 0x00 ∷ 0xf0 ∷ 0x3f
    ∷ 0x00 ∷ 0x00 ∷ 0x00 ∷ 0x30 ∷ 0x00 ∷ 0x00 ∷ 0xf0 ∷ 0x3f
    ∷ replicate 8 0x00

-- of 1, of an infinite one, and of minus zero
abbrev pub three_bad : List ℕ
three_bad =
    0x00 ∷ 0x00 ∷ 0x00 ∷ 0x00 ∷ 0x00 ∷ 0x00 ∷ 0xf0 ∷ 0x3f
    ∷ 0x00 ∷ 0x00 ∷ 0x00 ∷ 0x00 ∷ 0x00 ∷ 0x00 ∷ 0xf0 ∷ 0x7f
    ∷ 0x00 ∷ 0x00 ∷ 0x00 ∷ 0x00 ∷ 0x00 ∷ 0x00 ∷ 0x00 ∷ 0x80
    ∷ []

-- calls: 1 and -2.5 out, two bytes to spare; 1 and a word that is not proper; 17, then 18, then 8; three f64s in under
-- cut and under nearest, a byte to spare; the first
-- of two bad ones; no bytes at all
abbrev pub called : List Turn
called =
    words_turn (0x00 ∷ 0x00 ∷ 0x80 ∷ 0x01 ∷ 0x00 ∷ 0x00 ∷ 0xa0 ∷ 0x82 ∷ []) (replicate 18 0xaa)
    ∷ words_turn (0x00 ∷ 0x00 ∷ 0x80 ∷ 0x01 ∷ 0x00 ∷ 0x00 ∷ 0x40 ∷ 0x01 ∷ []) (replicate 16 0xaa)
    ∷ floats_turn 2 (0x00 ∷ []) []
    ∷ floats_turn 1 (0x00 ∷ []) []
    ∷ floats_turn 1 (replicate 8 0x00) (replicate 3 0xaa)
    ∷ floats_turn 0 three (replicate 13 0xaa)
    ∷ floats_turn 1 three (replicate 13 0xaa)
    ∷ floats_turn 0 three_bad (replicate 12 0xaa)
    ∷ words_turn [] (0xaa ∷ [])
    ∷ floats_turn 0 [] []
    ∷ []

abbrev pub expected : List Turn
expected =
    turned 0 0 (
    0x00 ∷ 0x00 ∷ 0x00 ∷ 0x00 ∷ 0x00 ∷ 0x00 ∷ 0xf0 ∷ 0x3f
    ∷ 0x00 ∷ 0x00 ∷ 0x00 ∷ 0x00 ∷ 0x00 ∷ 0x00 ∷ 0x04 ∷ 0xc0
    ∷ 0xaa ∷ 0xaa
    ∷ []
    )
    ∷ turned 4 2 (replicate 16 0xaa)
    ∷ turned 17 0 []
    ∷ turned 18 0 []
    ∷ turned 8 0 (replicate 3 0xaa)
    ∷ turned 0 1 (0x00 ∷ 0x00 ∷ 0x80 ∷ 0x01 ∷ 0x01 ∷ 0x00 ∷ 0x80 ∷ 0x01 ∷ 0x00 ∷ 0x00 ∷ 0x00 ∷ 0x00 ∷ 0xaa ∷ [])
    ∷ turned 0 1 (0x00 ∷ 0x00 ∷ 0x80 ∷ 0x01 ∷ 0x02 ∷ 0x00 ∷ 0x80 ∷ 0x01 ∷ 0x00 ∷ 0x00 ∷ 0x00 ∷ 0x00 ∷ 0xaa ∷ [])
    ∷ turned 10 2 (replicate 12 0xaa)
    ∷ turned 0 0 (0xaa ∷ [])
    ∷ turned 0 0 []
    ∷ []

pub record DoublesBench : Type 0 where
  pub outward_rows : map (λ (r : OutRow). outward r.0) out_table
      ≡ map (λ (r : OutRow). gives r.1 r.2 0) out_table
  pub cut_rows : map (λ (r : InRow). inward Cut r.float) in_table ≡ map (λ (r : InRow). r.by_cut) in_table
  pub nearest_rows : map (λ (r : InRow). inward Nearest r.float) in_table ≡ map (λ (r : InRow). r.by_nearest) in_table
  pub call_rows : called ≡ expected
