-- A push is a push of single bytes, of which the last 16 stay; a pop of single bytes, which go round the stack. Assumes nothing.
use mathlib.Core.Path.{◌≡◌, refl, sym, ap, ap₂, ◌∙◌}
use mathlib.Core.Bool.{Bool, false}
use mathlib.Core.List.{List, [], ◌∷◌, ◌++◌, reverse}
use Prim.Native.Nat.{ℕ, zero, suc, ◌+◌, ◌*◌, ◌<◌}
use native.Mathlib.Omega.{arith}
use native.Mathlib.Nat.{not-suc-le-zero}
use borrow.Author.Tests.{leb-false}
use lib.Dec.{lit≤}
use lib.ListN.{length, get_or, drop}
use Rattle.stack.specs.Stack.{popped_all, handed_out}
use Rattle.promises.proofs.Round.{once_round, byte_round, last_pushed}
use Rattle.chip.specs.State.{State}
use Rattle.chip.specs.State.{busy}
use Rattle.chip.specs.Step.{pop_of}
use Rattle.promises.specs.BusEvents.{after_pushes, after_pops, bytes_popped}
use Rattle.chip.specs.Held.{held}
use Rattle.chip.proofs.InTurn.{turned, pops_bytes}
use Rattle.chip.proofs.Held.{flips}
use Rattle.error_memory.specs.Memory.{card_with}
use Rattle.record_runs.specs.Run.{took, run_of}
use Rattle.promises.proofs.InTurn.{pushes_state, pops_state, push_alone, pop_alone}
use Rattle.promises.specs.LongBlocks.{times_over, LongBlocks}

ready : (s : State) → busy s ≡ false → s.status < 128
ready s b = leb-false 128 s.status b

-- ---- pops
rounds : (k : ℕ) (s : List ℕ) → length s ≡ 16 → (handed_out (k * 16) s ≡ times_over k s) × (popped_all (k * 16) s ≡ s)
rounds zero s h = (refl, refl)
rounds (suc k) s h =
    let e : suc k * 16 ≡ 16 + k * 16 = omega arith in
    let o = once_round (k * 16) s h in
    let r = rounds k s h in (
      ap (λ (n : ℕ). handed_out n s) e ∙ o.0 ∙ ap (λ (l : List ℕ). s ++ l) r.0,
      ap (λ (n : ℕ). popped_all n s) e ∙ o.1 ∙ r.1,
    )

in_turn_lem : (s : State) (n i : ℕ) → i < n → get_or (bytes_popped n s) i 0 ≡ (pop_of (after_pops i s)).byte
in_turn_lem s zero i h = absurd (not-suc-le-zero h)
in_turn_lem s (suc n) zero h = refl
in_turn_lem s (suc n) (suc i) h = in_turn_lem (pop_of s).state n i (omega arith)

module _ (s : State) (b : busy s ≡ false) (h : length s.stack ≡ 16) where
  -- 240 is even
  same_pending : turned 240 s.pending ≡ s.pending
  same_pending = sym (flips 240 s.pending)

  after_pops_lem : after_pops 240 s ≡ s
  after_pops_lem =
      pops_state 240 s (ready s b)
      ∙ ap₂ (λ (l : List ℕ) (p : Bool). held l p s.status s.service) (rounds 15 s.stack h).1 same_pending

  after_pushes_lem : (p : List ℕ) → length p ≡ 240 → after_pushes s p ≡ held (reverse (drop 224 p)) s.pending s.status s.service
  after_pushes_lem p n =
      pushes_state p s (ready s b)
      ∙ ap₂ (λ (l : List ℕ) (q : Bool). held l q s.status s.service) (last_pushed p s.stack 224 h n) (ap (λ (k : ℕ). turned k s.pending) n
      ∙ same_pending)

-- ---- the statement
pub long_blocks : LongBlocks
long_blocks = record {
  push_240 = λ on s m p room b h n i.
      sym (ap (λ (k : ℕ). run_of (card_with on s m) ((2 + k) ∷ 0 ∷ 1 ∷ 0 ∷ p) room) n)
      ∙ push_alone on s m p room b (omega arith) (omega arith) i
      ∙ ap₂ (λ (t : State) (k : ℕ). took (card_with on t m) (4 + k) (3 ∷ 0 ∷ 129 ∷ 0 ∷ 0 ∷ [])) (after_pushes_lem s b h p n) n;
  pop_240 = λ on s m room b h i.
      pop_alone on s m 240 room b (lit≤ tt) (lit≤ tt) i
      ∙ ap₂ (λ (t : State) (l : List ℕ). took (card_with on t m) 5 (243 ∷ 0 ∷ 130 ∷ 0 ∷ 0 ∷ l)) (after_pops_lem s b h) (pops_bytes 240 s (ready s b)
      ∙ (rounds 15 s.stack h).0);
  in_turn_lem = in_turn_lem;
  round = λ s n i b h l. ap (λ (k : List ℕ). get_or k i 0) (pops_bytes n s (ready s b)) ∙ byte_round n i s.stack h l;
}
