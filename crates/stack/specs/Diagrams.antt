-- The stack diagrams of the sheets, which their texts have lost: 16-bit words A to H, 32-bit words A to D, R on top.
-- Definitions and the statement only: proofs/Diagrams.antt proves it. Assumes nothing.
use Rattle.std.specs.Prelude.{ℕ, ◌*◌, ◌≡◌, List, [], ◌∷◌, ◌++◌, take, drop}
use Rattle.stack.specs.Stack.{bytes_of, zeros, over_a, over_zero, replaced, rotated, copied, exchanged, pushed_word, converted, widened, narrowed}

-- words of n bytes from the top down, by their places in a stack: the sheets' A is 0, B 1, and so on to H
abbrev pub words : ℕ → List ℕ → List ℕ → List ℕ
words n s [] = []
words n s (i ∷ l) = take n (drop (n * i) s) ++ words n s l

-- each stack after, of a stack s and a result r of 16 or of 32 bits
pub record Diagrams (s : List ℕ) (r : ℕ) : Type 0 where
  pub sadd_ssub : over_a 2 s r ≡ bytes_of 2 r ++ words 2 s (2 ∷ 3 ∷ 4 ∷ 5 ∷ 6 ∷ 7 ∷ 0 ∷ [])
  pub dadd_dsub : over_a 4 s r ≡ bytes_of 4 r ++ words 4 s (2 ∷ 3 ∷ 0 ∷ [])
  pub smul_smuu_sdiv : over_zero 2 s r ≡ bytes_of 2 r ++ (words 2 s (2 ∷ 3 ∷ 4 ∷ 5 ∷ 6 ∷ 7 ∷ []) ++ zeros 2)
  pub dmul_dmuu_ddiv_float : over_zero 4 s r ≡ bytes_of 4 r ++ (words 4 s (2 ∷ 3 ∷ []) ++ zeros 4)
  pub chss : replaced 2 s r ≡ bytes_of 2 r ++ words 2 s (1 ∷ 2 ∷ 3 ∷ 4 ∷ 5 ∷ 6 ∷ 7 ∷ [])
  pub chsd_chsf : replaced 4 s r ≡ bytes_of 4 r ++ words 4 s (1 ∷ 2 ∷ 3 ∷ [])
  pub pops : rotated 2 s ≡ words 2 s (1 ∷ 2 ∷ 3 ∷ 4 ∷ 5 ∷ 6 ∷ 7 ∷ 0 ∷ [])
  pub popd_popf : rotated 4 s ≡ words 4 s (1 ∷ 2 ∷ 3 ∷ 0 ∷ [])
  pub ptos : copied 2 s ≡ words 2 s (0 ∷ 0 ∷ 1 ∷ 2 ∷ 3 ∷ 4 ∷ 5 ∷ 6 ∷ [])
  pub ptod_ptof : copied 4 s ≡ words 4 s (0 ∷ 0 ∷ 1 ∷ 2 ∷ [])
  pub xchs : exchanged 2 s ≡ words 2 s (1 ∷ 0 ∷ 2 ∷ 3 ∷ 4 ∷ 5 ∷ 6 ∷ 7 ∷ [])
  pub xchd_xchf : exchanged 4 s ≡ words 4 s (1 ∷ 0 ∷ 2 ∷ 3 ∷ [])
  pub pupi : pushed_word s r ≡ bytes_of 4 r ++ words 4 s (0 ∷ 1 ∷ 2 ∷ [])
  pub fltd_fixd : converted s r ≡ bytes_of 4 r ++ (words 4 s (1 ∷ 2 ∷ []) ++ zeros 4)
  pub flts : widened s r ≡ bytes_of 4 r ++ (words 2 s (1 ∷ 2 ∷ 3 ∷ 4 ∷ []) ++ zeros 4)
  pub fixs : narrowed s r ≡ bytes_of 2 r ++ (words 4 s (1 ∷ 2 ∷ []) ++ zeros 6)
