-- The book's measures are those of the crates: where a definition of the book is a record of its own, or the crate's does not unfold by itself, each is made of
-- the other here, `ours-*` the book's and `theirs-*` the crate's; every other one computes to the crate's by itself. Assumes nothing.
use mathlib.Core.Path.{◌≡◌, refl, ap}
use mathlib.Core.Logic.{⊎_elim}
use mathlib.Core.Bool.{Bool, true, false, cond}
use mathlib.Core.List.{List}
use Prim.Native.Nat.{ℕ}
use native.Mathlib.Omega.{arith}
use lib.ListN.{get_or}
use Rattle.float.specs.Word as word
use Rattle.promises.proofs.float.Order as order
use Rattle.float.specs.Convert as convert
use Rattle.float.specs.Word.{size88 as size_of, value as value_of_lem}
use Rattle.float.specs.Convert.{whole_part as whole_of}
use Rattle.stack.specs.Stack as stack
use Rattle.record_files.proofs.Tests.{either_eq}
use Rattle.error_memory.specs.Memory.{is_memory}
use Rattle.error_memory.proofs.Good.{memory_cases, marked_memory}
use Rattle.state_bytes.specs.Bytes.{is_state}
use Rattle.state_bytes.proofs.States.{state_stands, stands_state}
use Rattle.promises.specs.Stack.{IsStack}
use Rattle.promises.specs.FloatResults.{whole_part}
use Rattle.promises.specs.FloatWords.{size88, value, FloatWord, Le}
use Rattle.promises.specs.Remembered.{Remembers}
use Rattle.promises.specs.StateBytes.{IsState}

-- ---- the stack
pub theirs_stack : {s : List ℕ} → IsStack s → stack.IsStack s
theirs_stack S = record { sixteen = S.sixteen; bytes = S.bytes }

pub ours_stack : {s : List ℕ} → stack.IsStack s → IsStack s
ours_stack S = record { sixteen = S.sixteen; bytes = S.bytes }

-- ---- words
pub size_is : (w : ℕ) → word.size88 w ≡ size88 w
unfolding size_of
size_is w = refl

pub value_is : (w : ℕ) → word.value w ≡ value w
unfolding value_of_lem
value_is w = refl

pub whole_is : (w : ℕ) → convert.whole_part w ≡ whole_part w
unfolding whole_of
whole_is w = refl

pub theirs_word : {w : ℕ} → FloatWord w → word.FloatWord w
theirs_word W = record { fits = W.fits; is_proper = W.is_proper }

pub ours_word : {w : ℕ} → word.FloatWord w → FloatWord w
ours_word W = record { fits = W.fits; is_proper = W.is_proper }

pub theirs_le : (v w : ℕ) → Le v w → order.Le v w
unfolding value_of_lem
theirs_le v w h = h

pub ours_le : (v w : ℕ) → order.Le v w → Le v w
unfolding value_of_lem
ours_le v w h = h

-- ---- the bytes of a state
-- the two bytes of a memory, test by test
pub ours_memory : (bits code : ℕ) → is_memory bits code ≡ true → Remembers bits code
ours_memory bits code h =
    ⊎_elim
    (λ z. let b = z.0 in record { in_places = omega arith; even = omega arith; no_code = λ e. z.1; no_bits = λ e. z.0 })
    (λ m. record { in_places = m.in_places; even = m.even; no_code = λ e. absurd (m.some e); no_bits = λ e. absurd (m.coded e) })
    (memory_cases bits code h)

pub theirs_memory : (bits code : ℕ) → Remembers bits code → is_memory bits code ≡ true
theirs_memory bits code h =
    either_eq (λ (x : ℕ). is_memory bits code ≡ true) bits 0 0 0 (λ e. rw (e, h.no_code e))
    (λ n. marked_memory bits code (record { in_places = h.in_places; even = h.even; some = n; coded = λ e. n (h.no_bits e) }))

-- the tests of a state, passed
pub ours_state : {l : List ℕ} → is_state l ≡ true → IsState l
ours_state {l} h =
    let g = state_stands l h in
    record {
      size = g.size;
      pending = g.chip.pending;
      ready = g.chip.ready;
      service = g.chip.service;
      memory = λ n. ours_memory (get_or l 19 0)
          (get_or l 20 0) (g.memory n);
    }

pub theirs_state : {l : List ℕ} → IsState l → is_state l ≡ true
theirs_state {l} h = stands_state l (record {
  size = h.size;
  chip = record { pending = h.pending; ready = h.ready; service = h.service };
  memory = λ n. theirs_memory (get_or l 19 0) (get_or l 20 0) (h.memory n);
})

-- and not passed
pub no_state_is : (l : List ℕ) → (IsState l → ⊥) → is_state l ≡ false
no_state_is l n = go (is_state l) refl
  where
    go : (b : Bool) → is_state l ≡ b → is_state l ≡ false
    go true e = absurd (n (ours_state e))
    go false e = e

pub is_no_state : (l : List ℕ) → is_state l ≡ false → IsState l → ⊥
is_no_state l e S = clash (is_state l) (theirs_state S) e
  where
    clash : (b : Bool) → b ≡ true → b ≡ false → ⊥
    clash true p q = let z : ◌≡◌ {A = ℕ} 1 0 = ap (λ (b : Bool). cond b 1 0) q in omega arith
    clash false p q = let z : ◌≡◌ {A = ℕ} 0 1 = ap (λ (b : Bool). cond b 1 0) p in omega arith
