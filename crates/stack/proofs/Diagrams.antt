-- The layouts are the diagrams: with the 16 bytes of a stack spelled out, each computes to it. Assumes nothing.
use mathlib.Core.Path.{◌≡◌, refl, sym, subst}
use mathlib.Core.List.{List}
use Prim.Native.Nat.{ℕ}
use lib.ListN.{length}
use Rattle.stack.specs.Diagrams.{Diagrams}
use Rattle.stack.proofs.Elems.{rest}

pub diagrams : (s : List ℕ) (r : ℕ) → length s ≡ 16 → Diagrams s r
diagrams s r h =
    subst (λ (l : List ℕ). Diagrams l r) (sym (rest s 16 0 (sym h)))
    (record {
      sadd_ssub = refl;
      dadd_dsub = refl;
      smul_smuu_sdiv = refl;
      dmul_dmuu_ddiv_float = refl;
      chss = refl;
      chsd_chsf = refl;
      pops = refl;
      popd_popf = refl;
      ptos = refl;
      ptod_ptof = refl;
      xchs = refl;
      xchd_xchf = refl;
      pupi = refl;
      fltd_fixd = refl;
      flts = refl;
      fixs = refl;
    })
