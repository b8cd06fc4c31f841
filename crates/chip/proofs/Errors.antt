-- The error of every float result has four bits, so that the status has room for it: overflow 1, underflow 2, the root of a negative word 4, divide by
-- zero 8. Assumes nothing.
use mathlib.Core.Bool.{Bool, true, false, cond}
use mathlib.Core.Path.{◌≡◌, sym, subst}
use Prim.Native.Nat.{ℕ, ◌^◌, ◌<◌}
use lib.Dec.{lit<, leb}
use Rattle.float.specs.declared.Flagged.{Flagged}
use Rattle.terms.specs.declared.Rule.{Rule}
use Rattle.float.specs.Word.{negative, proper, FloatWord}
use Rattle.float.specs.Float.{Result}
use Rattle.float.specs.Convert.{whole_part, complement, fix, flts, fltd, fixs, fixd}
use Rattle.float.specs.Root.{sqrt}
use Rattle.float.proofs.Results.{add_result, sub_result, mul_result, div_result, flts_result, fltd_result, root_result}
use Rattle.codes.specs.declared.FloatOp.{FloatOp}
use Rattle.codes.specs.declared.FloatOp.TheVariants.{Add as FAdd, Sub as FSub, Mul as FMul, Div as FDiv}
use Rattle.chip.specs.Commands.{float_of}

pub float_result : (rule : Rule) (op : FloatOp) (b a : ℕ) → FloatWord b → Result (float_of rule op b a)
float_result rule FAdd b a B = add_result rule b a
float_result rule FSub b a B = sub_result rule b a
float_result rule FMul b a B = mul_result rule b a
float_result rule FDiv b a B = div_result rule b a B

-- the whole part of a word raises overflow or nothing
pub fix_error : (half a : ℕ) → (fix half a).error < 16
unfolding fix
fix_error half a = go (leb half (whole_part a))
  where
    go : (over : Bool) → (cond {A = Flagged} over (record { word = a; error = 1 })
        (record { word = complement half (negative a) (whole_part a); error = 0 })).error < 16
    go true = lit< tt
    go false = lit< tt

-- of a result by what it is
module _ {r : Flagged} where
  few : {q : Flagged} → r ≡ q → q.error < 16 → r.error < 16
  few e h = subst (λ (x : Flagged). x.error < 16) (sym e) h

  pub flts_few : (a : ℕ) → r ≡ flts a → r.error < 16
  flts_few a e = few e (flts_result a).small

  pub fltd_few : (rule : Rule) (a : ℕ) → r ≡ fltd rule a → r.error < 16
  fltd_few rule a e = few e (fltd_result rule a).small

  pub fixs_few : (a : ℕ) → r ≡ fixs a → r.error < 16
  fixs_few a e = few e (fix_error (2 ^ 15) a)

  pub fixd_few : (a : ℕ) → r ≡ fixd a → r.error < 16
  fixd_few a e = few e (fix_error (2 ^ 31) a)

  pub sqrt_few : (rule : Rule) (a : ℕ) → a < 4294967296 → proper a ≡ true → r ≡ sqrt rule a → r.error < 16
  sqrt_few rule a l p e = few e (root_result rule a (record { fits = l; is_proper = p })).small
