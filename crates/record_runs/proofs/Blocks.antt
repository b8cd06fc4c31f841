-- A block of bytes pushed or popped at once is its single bytes in turn: the stack after all of them, pending turned once for each. Assumes nothing.
use mathlib.Core.Path.{◌≡◌, refl, sym, ap, ap₂, ◌∙◌}
use mathlib.Core.Bool.{Bool}
use mathlib.Core.List.{List, [], ◌∷◌, ◌++◌}
use Prim.Native.Nat.{ℕ, zero, suc, ◌-◌, ◌≤◌, ◌<◌}
use native.Mathlib.Nat.{not-suc-le-zero}
use native.Mathlib.Omega.{arith}
use lib.ListN.{length, drop, get_or, get_or-append}
use Rattle.stack.specs.Stack.{pushed, popped, top_byte, pushed_all, popped_all, handed_out}
use Rattle.chip.specs.State.{State}
use Rattle.chip.specs.State.{Answer}
use Rattle.chip.specs.State.{moved}
use Rattle.chip.specs.Step.{done, pop_of}
use Rattle.chip.specs.InTurn.{bytes_popped}
use Rattle.chip.specs.Held.{held, flipped}
use Rattle.chip.proofs.InTurn.{restacked, push_done, pop_done, pops_bytes}
use Rattle.chip.proofs.Held.{flips}
use Rattle.record_runs.specs.Record.{before, push_all, pop_all}

-- as many bytes are handed out as are asked for
pub length-popped : (n : ℕ) (s : State) → length (bytes_popped n s) ≡ n
length-popped zero s = refl
length-popped (suc n) s = ap suc (length-popped n (pop_of s).state)

-- on a state that is not busy
pushes : (p : List ℕ) (s : State) → s.status < 128 → push_all (done 0 s) p ≡ done 0 (restacked s (pushed_all s.stack p) (length p))
pushes [] s h = refl
pushes (b ∷ p) s h = rw (push_done s b h) (pushes p (moved s (pushed s.stack b)) h)

pops : (k : ℕ) (a : Answer) → a.state.status < 128 → pop_all (suc k) a ≡ done (get_or (handed_out (suc k) a.state.stack) k 0)
    (restacked a.state (popped_all (suc k) a.state.stack) (suc k))
pops zero a h = pop_done a.state h
pops (suc k) a h =
    ap (pop_all (suc k)) (pop_done a.state h)
    ∙ pops k (done (top_byte a.state.stack) (moved a.state (popped a.state.stack))) h

module _ (s : State) (h : s.status < 128) where
  pub pushed_block : (p after : List ℕ) (q : Bool) → q ≡ flipped (length p) s.pending → after ≡ pushed_all s.stack p
      → done 0 (held after q s.status s.service) ≡ push_all (before s) p
  pushed_block p after q eq ea =
      ap₂ (λ (l : List ℕ) (x : Bool). done 0 (held l x s.status s.service)) ea (eq ∙ flips (length p) s.pending)
      ∙ sym (pushes p s h)

  pub popped_block : (n : ℕ) (after room left : List ℕ) (q : Bool) → 1 ≤ n → q ≡ flipped n s.pending → after ≡ popped_all n s.stack
      → left ≡ handed_out n s.stack ++ drop n room
      → (done (get_or left (n - 1) 0) (held after q s.status s.service) ≡ pop_all n (before s)) × (left ≡ bytes_popped n s ++ drop n room)
  popped_block zero after room left q m eq ea el = absurd (not-suc-le-zero m)
  popped_block (suc k) after room left q m eq ea el =
      let b = sym (pops_bytes (suc k) s h) in
      let y : k < length (handed_out (suc k) s.stack) = omega (arith, ap length b ∙ length-popped (suc k) s) in
      let o : suc k - 1 ≡ k = omega arith in
      let z : get_or left (suc k - 1) 0 ≡ get_or (handed_out (suc k) s.stack) k 0 = ap (λ (i : ℕ). get_or left i 0) o ∙ ap (λ (l : List ℕ). get_or l k 0) el
      ∙ get_or-append (handed_out (suc k) s.stack) (drop (suc k) room) 0 k y in (
        ap (λ (x : ℕ). done x (held after q s.status s.service)) z
            ∙ ap₂ (λ (l : List ℕ) (x : Bool). done (get_or (handed_out (suc k) s.stack) k 0) (held l x s.status s.service)) ea
            (eq ∙ flips (suc k) s.pending)
            ∙ sym (pops k (before s) h),
        el ∙ ap (λ (l : List ℕ). l ++ drop (suc k) room) b,
      )
