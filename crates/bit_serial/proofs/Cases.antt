-- The operations by their cases: an operation's width has words of at most 32 bits, and what its case says is said of it. Assumes nothing.
use mathlib.Core.Path.{◌≡◌, sym, ap, ◌∙◌}
use Prim.Native.Nat.{ℕ, ◌^◌, ◌≤◌, ◌<◌}
use native.Mathlib.Omega.{arith}
use Rattle.terms.specs.declared.Width.{Width}
use Rattle.terms.specs.declared.Width.TheVariants.{Single, Double}
use Rattle.terms.specs.Width.{bits_of}
use Rattle.fixed.specs.Fixed.{half}
use Rattle.fixed.specs.Parts.{Words}
use Rattle.bit_serial.specs.declared.Operation.{Operation}
use Rattle.bit_serial.specs.Work.{width_of, Operands}

-- words of an operation's width
pub words : (op : Operation) (h b a : ℕ) → h ≡ half (bits_of (width_of op)) → Operands op b a → Words h b a
words op h b a f l = by_width (width_of op) f l
  where
    by_width : (w : Width) → h ≡ half (bits_of w) → (b < 2 ^ bits_of w) × (a < 2 ^ bits_of w) → Words h b a
    by_width Single g m = record { some = omega arith; narrow = omega arith; left = omega arith; right = omega arith }
    by_width Double g m = record { some = omega arith; narrow = omega arith; left = omega arith; right = omega arith }

-- ---- an operation's words, with the half h and the bits n of its width
pub record Sized (op : Operation) (b a h n : ℕ) : Type 0 where
  pub half_is : h ≡ half (bits_of (width_of op))
  pub bits_is : n ≡ bits_of (width_of op)
  pub given : Words h b a × (n ≤ 32)

pub sized : (op : Operation) (b a : ℕ) {w : Width} {h n : ℕ} → w ≡ width_of op → h ≡ half (bits_of w) → (n ≡ bits_of w) × (n ≤ 32) → Operands op b a
    → Sized op b a h n
sized op b a {h = h} W H N l =
    let H : h ≡ half (bits_of (width_of op)) = H ∙ ap (λ (w : Width). half (bits_of w)) W in
    record { half_is = H; bits_is = N.0 ∙ ap bits_of W; given = (words op h b a H l, N.1) }

-- what is said of the operation's case k, at its width, is said of it
pub said : {op k : Operation} {b a h n : ℕ} {A : Type 0} → Sized op b a h n → op ≡ k → (of : Operation → A) (f : ℕ → ℕ → ℕ → ℕ → A)
    → f (half (bits_of (width_of k))) (bits_of (width_of k)) b a ≡ of k
    → f h n b a ≡ of op
said {b = b} {a = a} s is of f e =
    (λ i. f (s.half_is i) (s.bits_is i) b a) ∙ ap (λ (o : Operation). f (half (bits_of (width_of o))) (bits_of (width_of o)) b a) is ∙ e ∙ ap of (sym is)
