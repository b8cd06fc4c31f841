-- Request 1 of document 02, SQRT: what the command leaves, the root in whole numbers, the order that it keeps, and a
-- table of roots through the whole step. Definitions and the statements only: proofs/Roots.antt proves them. Assumes
-- nothing.
use Rattle.std.specs.Prelude.{ℕ, ◌^◌, ◌<◌, ◌≡◌, true, false, List, [], ◌∷◌, ◌++◌, ℤ, pos, ◌*ℤ◌}
use Rattle.terms.specs.declared.Refusal.TheVariants.{Improper}
use Rattle.terms.specs.declared.Width.TheVariants.{Double}
use Rattle.terms.specs.declared.Rule.{Rule}
use Rattle.terms.specs.declared.Rule.TheVariants.{Cut}
use Rattle.float.specs.Root.{sqrt}
use Rattle.codes.specs.Command.{Sqrt}
use Rattle.codes.specs.Command.{Known}
use Rattle.codes.specs.Codes.{decoded}
use Rattle.promises.specs.Stack.{bytes_of, zeros}
use Rattle.promises.specs.FloatWords.{negative, proper, value, FloatWord, exact_product, Le}
use Rattle.promises.specs.FloatResults.{clean, RootPair, ExactlyRoot}
use Rattle.promises.specs.BusEvents.{pushes_of}
use Rattle.promises.specs.Commands.{words, word, status_by, Leaves, Refuses}
use Rattle.promises.specs.Bench.{BenchRow, leaves, one, turned_away, RowsHold}

-- ---- the command
pub record RootRows (rule : Rule) : Type 0 where
  -- code 01, and so 81
  pub code : decoded 0x01 ≡ Known Sqrt
  -- a proper word not below zero: its root, no error; R, B, C, 0
  pub root_row : (a b c : ℕ) → FloatWord a → negative a ≡ false → (ds : List ℕ)
      → Leaves rule Sqrt (word Double a (word Double b (word Double c ds)))
      Double (sqrt rule a).word 0 false (word Double b (word Double c (zeros 4)))
  -- zero gives zero, with status 20
  pub zero_row : (b c : ℕ) (ds : List ℕ)
      → Leaves rule Sqrt (word Double 0 (word Double b (word Double c ds)))
      Double 0 0 false (word Double b (word Double c (zeros 4)))
  pub zero_status : status_by Double 0 0 false ≡ 0x20
  -- a negative proper word: the whole stack as it stands, A, B, C, D; error 0100, sign by the TOS, which is status 48
  pub negative_row : (a b c : ℕ) → FloatWord a → negative a ≡ true → (ds : List ℕ)
      → Leaves rule Sqrt (word Double a (word Double b (word Double c ds)))
      Double a 4 false (word Double b (word Double c ds))
  pub negative_status : (a : ℕ) → negative a ≡ true → status_by Double a 4 false ≡ 0x48
  -- a word that is not proper: 4
  pub improper : (a : ℕ) → a < words Double → proper a ≡ false → (bs : List ℕ)
      → Refuses rule Sqrt (word Double a bs) Improper

-- ---- the result
pub record RootValues : Type 0 where
  -- a magnitude has no two pairs m, e of 24 digits whose square in the scale of e is at most the magnitude and that of
  -- m + 1 above it
  pub only : (n m m' : ℕ) (e e' : ℤ) → RootPair n m e → RootPair n m' e' → (m ≡ m') × (e ≡ e')
  -- and the root of a proper word has that pair, e from -32 to 32; zero gives the zero word, a negative word stays with
  -- error 4
  pub found : (a : ℕ) → FloatWord a → ExactlyRoot a (sqrt Cut a)
  -- there is neither overflow nor underflow, under either rule, and the result is proper
  pub no_error : (rule : Rule) (a : ℕ) → FloatWord a → negative a ≡ false → (sqrt rule a).error ≡ 0
  pub proper_root : (rule : Rule) (a : ℕ) → FloatWord a → FloatWord (sqrt rule a).word
  -- where A is the square of a proper word not below zero, the root is that word
  pub square : (rule : Rule) (a b : ℕ) → negative a ≡ false → FloatWord b → negative b ≡ false
      → exact_product b b ≡ value a *ℤ pos (2 ^ 88) → sqrt rule a ≡ clean b

pub record Roots : Type 0 where
  pub rows : (rule : Rule) → RootRows rule
  pub values : RootValues

-- ---- the order of two words not below zero is kept, under either rule; chains of demand 3 do not include the root
abbrev pub RootOrder : Type 0
RootOrder =
    (rule : Rule) (a b : ℕ) → FloatWord a → FloatWord b → negative a ≡ false → negative b ≡ false → Le a b
    → Le (sqrt rule a).word (sqrt rule b).word

-- ---- A on zeros: its root, and the status
abbrev pub root : ℕ → ℕ → ℕ → BenchRow
root a r status = one 0x01 Double a Double r status

-- A on three other words; the word on top and the one at the bottom after
abbrev pub on_three : ℕ → ℕ → ℕ → ℕ → BenchRow
on_three a r bottom status =
    leaves (pushes_of 4 0x44444444 ++ (pushes_of 4 0x33333333 ++ (pushes_of 4 0x22222222 ++ pushes_of 4 a))) 0x01
    (bytes_of 4 r ++ (bytes_of 4 0x22222222 ++ (bytes_of 4 0x33333333 ++ bytes_of 4 bottom))) status

-- a word that is not proper, refused
abbrev pub improper_root : BenchRow
improper_root = record {
  events = pushes_of 4 0x80000000;
  code = 0x81;
  refusal = 4;
  stack = bytes_of 4 0x80000000 ++ zeros 12;
  status = 0x00;
}

-- roots of 0, 1, 2, 4, 9, 1/4, the least and the largest word; the words beside 1 and 2; D cleared, and kept for -1;
-- refusals 3 and 4
abbrev pub root_table : List BenchRow
root_table =
    root 0x00000000 0x00000000 0x20 ∷ root 0x01800000 0x01800000 0x00 ∷ root 0x02800000 0x01b504f3 0x00
    ∷ one 0x81 Double 0x03800000 Double 0x02800000 0x00 ∷ root 0x04900000 0x02c00000 0x00
    ∷ root 0x7f800000 0x00800000 0x00 ∷ root 0x40800000 0x60b504f3 0x00 ∷ root 0x3fffffff 0x20b504f2 0x00
    ∷ root 0x00ffffff 0x00ffffff 0x00 ∷ root 0x01ffffff 0x01b504f2 0x00 ∷ on_three 0x03800000 0x02800000 0 0x00
    ∷ on_three 0x81800000 0x81800000 0x44444444 0x48
    ∷ turned_away 0x01 (0x55 ∷ []) 3 ∷ improper_root ∷ []

abbrev pub RootBench : Type 0
RootBench = RowsHold Cut root_table
