-- Figure 8 by the format of a code: the laws of `codes`. Assumes nothing.
use mathlib.Core.Path.{refl}
use Prim.Native.Nat.{ℕ, ◌+◌}
use native.Mathlib.Omega.{arith}
use Rattle.terms.specs.declared.Width.TheVariants.{Single, Double}
use Rattle.codes.specs.Codes.{decoded}
use Rattle.codes.proofs.Bits.{agree, no_format}
use Rattle.promises.specs.Format.{CommandFormat, operations, operation_in}

pub command_format : CommandFormat
unfolding decoded
command_format = record {
  sixteen_bit_lem = λ n h. agree (λ (k : ℕ). decoded (0x60 + k)) (operation_in operations Single) 0 32 refl n (omega arith) h;
  thirty_two_bit_lem = λ n h. agree (λ (k : ℕ). decoded (0x20 + k)) (operation_in operations Double) 0 32 refl n (omega arith) h;
  float_forms = (refl, refl, refl);
  no_format = λ operation h. no_format operation h;
}
