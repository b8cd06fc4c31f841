-- The ways through a conversion's call: a slice of another length, a refusal, the bits sent. Assumes nothing.
use mathlib.Core.Path.{◌≡◌, refl}
use mathlib.Core.List.{List}
use Prim.Native.Nat.{ℕ}
use lib.ListN.{length}
use borrow.Author.Tests.{eq-eqb, ne_eqb}
use Rattle.numbers.specs.Little.{le4}
use Rattle.terms.specs.declared.Refusal.TheVariants.{NoRoom}
use Rattle.terms.specs.Refusal.{number_of}
use Rattle.host_floats.specs.declared.Reply.{Reply}
use Rattle.pundaliket.specs.Calls.{sent_of, Sends}

module _ (reply : Reply) (out : List ℕ) where
  pub no_slice : (length out ≡ 4 → ⊥) → (n : ℕ) → n ≡ number_of NoRoom → Sends (sent_of reply out) n out
  unfolding sent_of
  no_slice h n e = simp ne_eqb record { result_is = e; out_is = refl }

  module _ (h : length out ≡ 4) (n : ℕ) (e : n ≡ number_of reply.refusal) where
    pub no_value : (n ≡ 0 → ⊥) → Sends (sent_of reply out) n out
    unfolding sent_of
    no_value g = rw (eq-eqb (length out) 4 h, ← e, ne_eqb n 0 g) record { result_is = refl; out_is = refl }

    pub a_value : n ≡ 0 → (left : List ℕ) → left ≡ le4 reply.bits → Sends (sent_of reply out) 0 left
    unfolding sent_of
    a_value g left d = rw (eq-eqb (length out) 4 h, ← e, g) record { result_is = refl; out_is = d }
