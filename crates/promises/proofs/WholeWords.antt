-- A word goes in and comes out by its own bytes: the laws of the chip's turns, and that each byte turns pending. Assumes nothing.
use mathlib.Core.Path.{◌≡◌, refl, sym, ap, ap₂, subst, ◌∙◌}
use mathlib.Core.Bool.{Bool, true, false, not, cond}
use mathlib.Core.List.{List, [], ◌∷◌, ◌++◌, append_assoc, append-nil}
use Prim.Native.Nat.{ℕ, zero, suc, ◌+◌, ◌-◌, ◌*◌, ◌/◌, ◌%◌, ◌^◌, ◌<◌}
use native.Mathlib.Nat.{add-zero, zero-add, add-suc, suc-add}
use native.Mathlib.Omega.{arith}
use borrow.Author.Tests.{leb-false}
use lib.ListN.{length, take, drop, length-drop, take-append-drop}
use lib.Seq.{length-take-le}
use Rattle.terms.specs.declared.Refusal.TheVariants.{Done, HalfWord}
use Rattle.terms.specs.declared.Width.{Width}
use Rattle.terms.specs.declared.Width.TheVariants.{Single, Double}
use Rattle.terms.specs.Width.{size_of}
use Rattle.terms.specs.declared.Settings.{Settings}
use Rattle.stack.specs.Stack.{number_from, bytes_of, Bytes, pushed, popped}
use Rattle.stack.proofs.Words.{bytes_take, bytes_drop, number_below}
use Rattle.codes.specs.Command.{Command}
use Rattle.codes.specs.Command.{Known}
use Rattle.codes.specs.Codes.{decoded}
use Rattle.chip.specs.State.{State}
use Rattle.chip.specs.State.{Answer}
use Rattle.chip.specs.Event.{Event}
use Rattle.chip.specs.State.{busy, moved}
use Rattle.chip.specs.Step.{refused, carried, command_under}
use Rattle.promises.specs.BusEvents.{after_events}
use Rattle.chip.proofs.Accepted.{accepted}
use Rattle.chip.proofs.InTurn.{push_done, pop_done}
use Rattle.promises.proofs.InTurn.{word_pushed, word_popped, result_popped}
use Rattle.promises.proofs.Measures.{theirs_stack}
use Rattle.promises.specs.WholeWords.{Moves, none, pushing, popping, odd, Whole, WholeWords, words_of, EachBelow, StackOfWords}

-- one turn more
once : (o q : Bool) → cond o (not (not q)) (not q) ≡ cond (not o) (not q) q
once true true = refl
once true false = refl
once false q = refl

module _ (on : Settings) where
  -- each byte pushed or popped turns pending
  turns : {es : List Event} {n : ℕ} (m : Moves es n) (s : State) → s.status < 128 → (after_events on s es).pending ≡ cond (odd n) (not s.pending)
      s.pending
  turns none s h = refl
  turns (pushing {es = es} {n = n} b m) s h =
      ap (λ (a : Answer). (after_events on a.state es).pending) (push_done s b h) ∙ turns m (moved s (pushed s.stack b)) h ∙ once (odd n) s.pending
  turns (popping {es = es} {n = n} m) s h =
      ap (λ (a : Answer). (after_events on a.state es).pending) (pop_done s h) ∙ turns m (moved s (popped s.stack)) h ∙ once (odd n) s.pending

  plain : (o p : Bool) → p ≡ false → cond o (not p) p ≡ o
  plain true p e = ap not e
  plain false p e = e

  refuses : (s : State) (code : ℕ) (k : Command) → decoded (code % 128) ≡ Known k → busy s ≡ false → s.pending ≡ true → command_under on.rule s
      code ≡ refused HalfWord s
  unfolding command_under carried
  refuses s code k e b p = rw (b, e, p)

  found_nothing : (s : State) (code : ℕ) → (command_under on.rule s code).refusal ≡ Done → (s.pending ≡ false) × ((command_under on.rule s code).state.pending ≡ false)
  found_nothing s code d = let a = accepted on.rule s code d in (a.whole, ap (λ (x : Answer). x.state.pending) a.answer ∙ a.whole)

-- ---- the statement
pub whole : (on : Settings) → Whole on
whole on = record {
  push_answer = λ s byte b. push_done s byte (leb-false 128 s.status b);
  pop_answer = λ s b. pop_done s (leb-false 128 s.status b);
  parity = λ s es n m b p. turns on m s (leb-false 128 s.status b) ∙ plain on (odd n) s.pending p;
  lies_on_top = λ w s x b p.
      word_pushed w x s (leb-false 128 s.status b)
      ∙ ap (λ (q : Bool). record { stack = bytes_of (size_of w) x ++ take (16 - size_of w) s.stack; pending = q; status = s.status; service = s.service }) p;
  handed_back = λ w s x b. word_popped w x s (leb-false 128 s.status b);
  after_command = λ s code k S e d. result_popped on.rule s code k (theirs_stack S) e d;
  nothing_pending = λ s code d. found_nothing on s code d;
  half_refused = λ s code k e b p. refuses on s code k e b p;
}

pub whole_words : WholeWords
whole_words = whole

-- ---- every 16 bytes are words
-- bytes are those of the number that they stand for, after the bytes of the number before them
spelled : (l : List ℕ) → Bytes l → (n x : ℕ) → bytes_of (n + length l) (number_from x l) ≡ bytes_of n x ++ l
spelled [] h n x = ap (λ (k : ℕ). bytes_of k x) (add-zero n) ∙ sym (append-nil (bytes_of n x))
spelled (b ∷ l) h n x =
    let small = h.0 in
    let up : (x * 256 + b) / 256 ≡ x = omega arith in
    let low : (x * 256 + b) % 256 ≡ b = omega arith in
    ap (λ (k : ℕ). bytes_of k (number_from (x * 256 + b) l)) (add-suc n (length l) ∙ sym (suc-add n (length l)))
    ∙ spelled l h.1 (suc n) (x * 256 + b)
    ∙ ap₂ (λ (y z : ℕ). (bytes_of n y ++ (z ∷ [])) ++ l) up low
    ∙ append_assoc (bytes_of n x) (b ∷ []) l

-- k words of n bytes each
record Split (k n : ℕ) (w : Width) (l : List ℕ) : Type 0 where
  words : List ℕ
  number : length words ≡ k
  each : EachBelow (256 ^ n) words
  laid : l ≡ words_of w words

splits : (k : ℕ) (w : Width) (l : List ℕ) → Bytes l → length l ≡ k * size_of w → Split k (size_of w) w l
splits zero w l B h = record { words = []; number = refl; each = tt; laid = nothing l (omega arith) }
  where
    nothing : (m : List ℕ) → length m ≡ 0 → m ≡ []
    nothing [] e = refl
    nothing (x ∷ m) e = absurd (omega arith)
splits (suc k) w l B h =
    let n = size_of w in
    let a = take n l in
    let size : length a ≡ n = length-take-le n l (omega arith) in
    let len = length-drop n l in
    let more = splits k w (drop n l) (bytes_drop n l B) (omega arith) in
    let top : bytes_of n (number_from 0 a) ≡ a = ap (λ (m : ℕ). bytes_of m (number_from 0 a)) (sym size ∙ sym (zero-add (length a))) ∙ spelled a (bytes_take n l B)
    0 0 in
    record {
      words = number_from 0 a ∷ more.words;
      number = ap suc more.number;
      each = (subst (λ (m : ℕ). number_from 0 a < 256 ^ m) size (number_below a (bytes_take n l B)), more.each);
      laid = sym (take-append-drop n l) ∙ ap₂ (λ (x y : List ℕ). x ++ y) (sym top) more.laid;
    }

pub stack_of_words : StackOfWords
stack_of_words Single l S = let p = splits 8 Single l S.bytes S.sixteen in record { words = p.words; number = p.number; each = p.each; laid = p.laid }
stack_of_words Double l S = let p = splits 4 Double l S.bytes S.sixteen in record { words = p.words; number = p.number; each = p.each; laid = p.laid }
