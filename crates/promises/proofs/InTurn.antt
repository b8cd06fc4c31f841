-- Bytes pushed and popped in turn: a word pushed low byte first lies on top with the rest moved down and nothing more pending, pops hand out its bytes, and
-- after an accepted command R's. A record that pushes or pops does the same. Assumes nothing.
use mathlib.Core.Path.{◌≡◌, refl, ap, ap₂, ◌∙◌}
use mathlib.Core.Bool.{Bool, true, false, cond}
use mathlib.Core.List.{List, [], ◌∷◌, ◌++◌}
use Prim.Native.Nat.{ℕ, zero, suc, ◌+◌, ◌-◌, ◌/◌, ◌%◌, ◌≤◌, ◌<◌}
use native.Mathlib.Omega.{arith}
use borrow.Author.Tests.{leb-false}
use lib.Dec.{lit≤, eqb}
use lib.ListN.{length, take, drop, length-drop, length-take, length-append}
use lib.Seq.{take_at, take-append-le, length-take-le}
use Rattle.terms.specs.declared.Refusal.TheVariants.{Done}
use Rattle.terms.specs.declared.Width.{Width}
use Rattle.terms.specs.declared.Width.TheVariants.{Single, Double}
use Rattle.terms.specs.Width.{size_of}
use Rattle.terms.specs.declared.Rule.{Rule}
use Rattle.terms.specs.declared.Settings.{Settings}
use Rattle.terms.specs.Limits.{most_payload}
use Rattle.fixed.specs.declared.Fixed.{Fixed}
use Rattle.fixed.specs.Fixed.{add, sub, mul, muu, div, chs}
use Rattle.float.specs.declared.Flagged.{Flagged}
use Rattle.float.specs.Convert.{flts, fltd, fixs, fixd, chsf}
use Rattle.float.specs.Root.{sqrt}
use Rattle.stack.specs.Stack.{IsStack, bytes_of, zeros, pushed, popped, pushed_all, popped_all, low_first, handed_out, rotated, converted, narrowed}
use Rattle.stack.proofs.Words.{length-bytes}
use Rattle.stack.proofs.Layouts.{two_fit}
use Rattle.stack.proofs.Moves.{pushes_lay, pops_hand, pops_read}
use Rattle.codes.specs.Command.{Command, Known}
use Rattle.codes.specs.Command.{Nop, Add, Sub, Mul, Muu, Div, Chs, Float, Chsf, Flt, Fix, Pto, Pop, Xch, Pupi, Sqrt}
use Rattle.codes.specs.Codes.{decoded}
use Rattle.chip.specs.State.{State, Answer, CommandOutcome, busy, moved}
use Rattle.chip.specs.Commands.{pi_of, word_a, word_b, half_of, ends, keeps_a, loses_a, changes_a, floats, converts, widens, narrows, roots, float_of, outcome_of}
use Rattle.chip.specs.Step.{push_of, pop_of, command_under}
use Rattle.chip.proofs.Outcomes.{one}
use Rattle.chip.proofs.Accepted.{accepted, leaves}
use Rattle.chip.proofs.InTurn.{push_done, pop_done, turned, restacked, pops_bytes}
use Rattle.error_memory.specs.declared.Memory.{Memory}
use Rattle.error_memory.specs.Memory.{card_with}
use Rattle.record_runs.specs.Record.{Push as PushRecord, Pop as PopRecord, Holds, before, push_all, pop_all}
use Rattle.record_runs.specs.Run.{took, run_of}
use Rattle.record_runs.proofs.Blocks.{length-popped}
use Rattle.promises.proofs.Single.{one_turn}
use Rattle.promises.specs.BusEvents.{after_pushes, after_pops, bytes_popped, result_bytes}

-- ---- the state after several
pub pushes_state : (l : List ℕ) (s : State) → s.status < 128 → after_pushes s l ≡ restacked s (pushed_all s.stack l) (length l)
pushes_state [] s h = refl
pushes_state (b ∷ l) s h =
    ap (λ (a : Answer). after_pushes a.state l) (push_done s b h) ∙ pushes_state l (moved s (pushed s.stack b)) h

pub pops_state : (k : ℕ) (s : State) → s.status < 128 → after_pops k s ≡ restacked s (popped_all k s.stack) k
pops_state zero s h = refl
pops_state (suc k) s h = ap (λ (a : Answer). after_pops k a.state) (pop_done s h) ∙ pops_state k (moved s (popped s.stack)) h

-- ---- a word
even : (w : Width) (p : Bool) → turned (size_of w) p ≡ p
even Single true = refl
even Single false = refl
even Double true = refl
even Double false = refl

length-low : (n r : ℕ) → length (low_first n r) ≡ n
length-low zero r = refl
length-low (suc n) r = ap suc (length-low n (r / 256))

lies : (w : Width) (r : ℕ) (s : List ℕ) → pushed_all s (low_first (size_of w) r) ≡ bytes_of (size_of w) r ++ take (16 - size_of w) s
lies Single r s = pushes_lay 1 r s (lit≤ tt)
lies Double r s = pushes_lay 3 r s (lit≤ tt)

-- its bytes pushed low first lie on top, the rest moves down, and pending is as it was
pub word_pushed : (w : Width) (r : ℕ) (s : State) → s.status < 128
    → after_pushes s (low_first (size_of w) r) ≡ record {
      stack = bytes_of (size_of w) r ++ take (16 - size_of w)
          s.stack;
      pending = s.pending;
      status = s.status;
      service = s.service;
    }
word_pushed w r s h =
    pushes_state (low_first (size_of w) r) s h
    ∙ ap₂ (λ (l : List ℕ) (p : Bool). record { stack = l; pending = p; status = s.status; service = s.service }) (lies w r s.stack)
    (ap (λ (k : ℕ). turned k s.pending) (length-low (size_of w) r) ∙ even w s.pending)

-- and pops hand them out, high first
pub word_popped : (w : Width) (r : ℕ) (s : State) → s.status < 128 → bytes_popped (size_of w) (after_pushes s (low_first (size_of w) r)) ≡ bytes_of (size_of w) r
word_popped w r s h =
    ap (bytes_popped (size_of w)) (word_pushed w r s h)
    ∙ pops_bytes (size_of w) (record {
      stack = bytes_of (size_of w) r ++ take (16 - size_of w)
          s.stack;
      pending = s.pending;
      status = s.status;
      service = s.service;
    }) h
    ∙ pops_read (size_of w) r (take (16 - size_of w) s.stack)

-- ---- R on top
-- what is on top of a list is what as many pops hand out
on_top : (n : ℕ) (x t : List ℕ) → length x ≡ n → handed_out n (x ++ t) ≡ x
on_top n x t h =
    let m : n ≤ length (x ++ t) = simp length-append (omega arith) in
    pops_hand n (x ++ t) m ∙ take_at x t n h

module _ (s : List ℕ) (S : IsStack s) where
  keeps_hand : (w : Width) (r : Fixed) → handed_out (size_of w) (keeps_a w s r).stack ≡ bytes_of (size_of w) r.word
  unfolding keeps_a
  keeps_hand w r = pops_read (size_of w) r.word (drop (size_of w + size_of w) s ++ take (size_of w) s)

  loses_hand : (w : Width) (r : Fixed) → handed_out (size_of w) (loses_a w s r).stack ≡ bytes_of (size_of w) r.word
  unfolding loses_a
  loses_hand w r = pops_read (size_of w) r.word (drop (size_of w + size_of w) s ++ zeros (size_of w))

  changes_hand : (w : Width) (r : Fixed) → handed_out (size_of w) (changes_a w s r).stack ≡ bytes_of (size_of w) r.word
  unfolding changes_a
  changes_hand w r = pops_read (size_of w) r.word (drop (size_of w) s)

  floats_hand : (r : Flagged) → handed_out 4 (floats s r).stack ≡ bytes_of 4 r.word
  unfolding floats
  floats_hand r = pops_read 4 r.word (drop 8 s ++ zeros 4)

  converts_hand : (r : Flagged) → handed_out 4 (converts s r).stack ≡ bytes_of 4 r.word
  unfolding converts
  converts_hand r = pops_read 4 r.word (take 8 (drop 4 s) ++ zeros 4)

  widens_hand : (r : Flagged) → handed_out 4 (widens s r).stack ≡ bytes_of 4 r.word
  unfolding widens
  widens_hand r = pops_read 4 r.word (take 8 (drop 2 s) ++ zeros 4)

  narrows_hand : (r : Flagged) → handed_out (cond (eqb r.error 0) 2 4) (narrows s r).stack ≡ bytes_of (cond (eqb r.error 0) 2 4) r.word
  unfolding narrows
  narrows_hand r = go (eqb r.error 0)
    where
      go : (x : Bool) → handed_out (cond x 2 4) (cond {A = CommandOutcome} x (ends Single (narrowed s r.word) 0 false)
          (ends Double (converted s r.word) r.error false)).stack ≡ bytes_of (cond x 2 4) r.word
      go true = pops_read 2 r.word (take 8 (drop 4 s) ++ zeros 6)
      go false = pops_read 4 r.word (take 8 (drop 4 s) ++ zeros 4)

  roots_hand : (r : Flagged) → handed_out (length (cond (eqb r.error 0) (bytes_of 4 r.word) (take 4 s))) (roots s r).stack ≡ cond (eqb r.error 0)
      (bytes_of 4 r.word) (take 4 s)
  unfolding roots
  roots_hand r = go (eqb r.error 0)
    where
      go : (x : Bool)
          → handed_out (length (cond x (bytes_of 4 r.word) (take 4 s)))
          (cond {A = CommandOutcome} x (ends Double (converted s r.word) 0 false) (ends Double s r.error false)).stack ≡ cond x
          (bytes_of 4 r.word) (take 4 s)
      go true = pops_read 4 r.word (take 8 (drop 4 s) ++ zeros 4)
      go false = let e = S.sixteen in rw (length-take-le 4 s (omega arith)) (pops_hand 4 s (omega arith))

  -- B has its bytes, and A its own
  b_bytes : (w : Width) → length (take (size_of w) (drop (size_of w) s)) ≡ size_of w
  b_bytes w = let e = S.sixteen in let h = two_fit w in length-take-le (size_of w) (drop (size_of w) s) (simp length-drop (omega arith))

  a_bytes : (w : Width) → length (take (size_of w) s) ≡ size_of w
  a_bytes w = let e = S.sixteen in let h = one w in length-take-le (size_of w) s (omega arith)

  pub outcome_hands : (rule : Rule) (k : Command) → handed_out (length (result_bytes rule k s)) (outcome_of rule k s).stack ≡ result_bytes rule k s
  outcome_hands rule Nop = refl
  outcome_hands rule (Add w) = rw (length-bytes (size_of w)) (keeps_hand w (add (half_of w) (word_b w s) (word_a w s)))
  outcome_hands rule (Sub w) = rw (length-bytes (size_of w)) (keeps_hand w (sub (half_of w) (word_b w s) (word_a w s)))
  outcome_hands rule (Mul w) = rw (length-bytes (size_of w)) (loses_hand w (mul (half_of w) (word_b w s) (word_a w s)))
  outcome_hands rule (Muu w) = rw (length-bytes (size_of w)) (loses_hand w (muu (half_of w) (word_b w s) (word_a w s)))
  outcome_hands rule (Div w) = rw (length-bytes (size_of w)) (loses_hand w (div (half_of w) (word_b w s) (word_a w s)))
  outcome_hands rule (Chs w) = rw (length-bytes (size_of w)) (changes_hand w (chs (half_of w) (word_a w s)))
  outcome_hands rule (Float op) = floats_hand (float_of rule op (word_b Double s) (word_a Double s))
  outcome_hands rule Chsf = pops_read 4 (chsf (word_a Double s)) (drop 4 s)
  outcome_hands rule (Flt Double) = converts_hand (fltd rule (word_a Double s))
  outcome_hands rule (Flt Single) = widens_hand (flts (word_a Single s))
  outcome_hands rule (Fix Double) = converts_hand (fixd (word_a Double s))
  outcome_hands rule (Fix Single) = rw (length-bytes (cond (eqb (fixs (word_a Double s)).error 0) 2 4)) (narrows_hand (fixs (word_a Double s)))
  outcome_hands rule (Pto w) = rw (a_bytes w) (on_top (size_of w) (take (size_of w) s) (take (16 - size_of w) s) (a_bytes w))
  outcome_hands rule (Pop w) =
      let e = S.sixteen in
      let h = two_fit w in
      let l : size_of w ≤ length (drop (size_of w) s) = simp length-drop (omega arith) in
      let m : size_of w ≤ length (rotated (size_of w) s) = simp (length-append, length-drop, length-take) (omega arith) in
      rw (b_bytes w) (pops_hand (size_of w) (rotated (size_of w) s) m ∙ take-append-le (size_of w) (drop (size_of w) s) (take (size_of w) s) l)
  outcome_hands rule (Xch w) =
      rw (b_bytes w) (on_top (size_of w) (take (size_of w) (drop (size_of w) s)) (take (size_of w) s ++ drop (size_of w + size_of w) s) (b_bytes w))
  outcome_hands rule Pupi = pops_read 4 (pi_of rule) (take 12 s)
  outcome_hands rule Sqrt = roots_hand (sqrt rule (word_a Double s))

-- ---- after an accepted command the pops hand out R's bytes
pub result_popped : (rule : Rule) (s : State) (code : ℕ) (k : Command) → IsStack s.stack → decoded (code % 128) ≡ Known k
    → (command_under rule s code).refusal ≡ Done
    → bytes_popped (length (result_bytes rule k s.stack)) (command_under rule s code).state ≡ result_bytes rule k s.stack
result_popped rule s code k S e d =
    let a = accepted rule s code d in
    let same : a.command ≡ k = cc (e, a.known) in
    let n = (leaves rule s code S d).not_busy in
    pops_bytes (length (result_bytes rule k s.stack)) (command_under rule s code).state n
    ∙ ap (λ (x : Answer). handed_out (length (result_bytes rule k s.stack)) x.state.stack) a.answer
    ∙ ap (λ (c : Command). handed_out (length (result_bytes rule k s.stack)) (outcome_of rule c s.stack).stack) same
    ∙ outcome_hands s.stack S rule k

-- ---- a record of bytes on a state that is not busy: each is answered 0
pushes : (p : List ℕ) (a : Answer) → busy a.state ≡ false → a.refusal ≡ Done → ((push_all a p).refusal ≡ Done) × ((push_all a p).state ≡ after_pushes a.state
    p)
pushes [] a h d = (d, refl)
pushes (b ∷ bs) a h d =
    let e = push_done a.state b (leb-false 128 a.state.status h) in
    pushes bs (push_of a.state b) (ap (λ (x : Answer). busy x.state) e ∙ h) (ap (λ (x : Answer). x.refusal) e)

pops : (n : ℕ) (a : Answer) → busy a.state ≡ false → a.refusal ≡ Done → ((pop_all n a).refusal ≡ Done) × ((pop_all n a).state ≡ after_pops n a.state)
pops zero a h d = (d, refl)
pops (suc n) a h d =
    let e = pop_done a.state (leb-false 128 a.state.status h) in
    pops n (pop_of a.state) (ap (λ (x : Answer). busy x.state) e ∙ h) (ap (λ (x : Answer). x.refusal) e)

module _ (on : Settings) (s : State) (m : Memory) where
  pub push_alone : (p : List ℕ) (room : ℕ) → busy s ≡ false → 1 ≤ length p → length p ≤ most_payload → 5 ≤ room
      → run_of (card_with on s m) ((2 + length p) ∷ 0 ∷ 1 ∷ 0 ∷ p) room ≡ took (card_with on (after_pushes s p) m) (4 + length p) (3 ∷ 0 ∷ 129 ∷ 0 ∷ 0 ∷ [])
  push_alone p room calm least most fits =
      let r : List ℕ = (2 + length p) ∷ 0 ∷ 1 ∷ 0 ∷ p in
      let e = PushRecord (length p) in
      let h : Holds most_payload r e = record { length-is = omega arith; kind_is = refl; there = omega arith; small = most; carried = least } in
      let q = pushes p (before s) calm refl in
      one_turn (card_with on s m) r room e h (omega arith) (omega arith) ∙ rw (q.0, q.1)

  pub pop_alone : (n room : ℕ) → busy s ≡ false → 1 ≤ n → n ≤ most_payload → 5 + n ≤ room
      → run_of (card_with on s m) (3 ∷ 0 ∷ 2 ∷ 0 ∷ n ∷ []) room ≡ took (card_with on (after_pops n s) m) 5 ((3 + n) ∷ 0 ∷ 130 ∷ 0 ∷ 0 ∷ bytes_popped n s)
  pop_alone n room calm least most fits =
      let r : List ℕ = 3 ∷ 0 ∷ 2 ∷ 0 ∷ n ∷ [] in
      let e = PopRecord n in
      let h : Holds most_payload r e = record { length-is = refl; kind_is = refl; there = omega arith; small = lit≤ tt; carried = (refl, least, most) } in
      let q = pops n (before s) calm refl in
      let low : (3 + n) % 256 ≡ 3 + n = omega arith in
      let high : (3 + n) / 256 ≡ 0 = omega arith in
      one_turn (card_with on s m) r room e h refl fits ∙ rw (q.0, q.1, length-popped n s, low, high)
