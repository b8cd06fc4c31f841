-- The order's own fear, a word joined from two units: by which bytes a word goes in and comes out. Definitions and the
-- statement only: proofs/WholeWords.antt proves it. Assumes nothing.
use Rattle.std.specs.Prelude.{ℕ, zero, suc, ◌-◌, ◌%◌, ◌^◌, ◌<◌, ◌≡◌, Bool, true, false, not, List, [], ◌∷◌, ◌++◌, length, take}
use Rattle.terms.specs.declared.Refusal.TheVariants.{Done, HalfWord}
use Rattle.terms.specs.declared.Width.{Width}
use Rattle.terms.specs.declared.Width.TheVariants.{Single, Double}
use Rattle.codes.specs.Command.{Command}
use Rattle.codes.specs.Command.{Known}
use Rattle.codes.specs.Codes.{decoded}
use Rattle.promises.specs.Subjects.{Settings, State, ChipEvent as Event, Push, Pop, push_of, pop_of, command_under}
use Rattle.promises.specs.Stack.{size_of, bits_of, IsStack, bytes_of, low_first, top_byte, pushed, popped}
use Rattle.promises.specs.BusEvents.{busy, moved, done, refused, after_events, after_pushes, bytes_popped}
use Rattle.promises.specs.BusEvents.{result_bytes}

-- events that push or pop a byte, n in all
pub data Moves : List Event → ℕ → Type 0 where
  none : Moves [] zero
  pushing : {es : List Event} {n : ℕ} (byte : ℕ) → Moves es n → Moves (Push byte ∷ es) (suc n)
  popping : {es : List Event} {n : ℕ} → Moves es n → Moves (Pop ∷ es) (suc n)

-- odd in number
abbrev pub odd : ℕ → Bool
odd zero = false
odd (suc n) = not (odd n)

pub record Whole (on : Settings) : Type 0 where
  -- a byte pushed or popped is answered 0 and turns pending
  pub push_answer : (s : State) (byte : ℕ) → busy s ≡ false → push_of s byte ≡ done 0 (moved s (pushed s.stack byte))
  pub pop_answer : (s : State) → busy s ≡ false → pop_of s ≡ done (top_byte s.stack) (moved s (popped s.stack))
  -- with nothing pending, after an odd number of bytes pushed and popped a half word is pending, and after an even
  -- number none
  pub parity : (s : State) (es : List Event) (n : ℕ) → Moves es n → busy s ≡ false → s.pending ≡ false
      → (after_events on s es).pending ≡ odd n
  -- with nothing pending, a word's bytes pushed, low first, lie on top, the rest moves down, and nothing is pending
  pub lies_on_top : (w : Width) (s : State) (x : ℕ) → busy s ≡ false → s.pending ≡ false
      → after_pushes s (low_first (size_of w) x)
      ≡ record {
        stack = bytes_of (size_of w) x ++ take (16 - size_of w) s.stack;
        pending = false;
        status = s.status;
        service = s.service;
      }
  -- and as many pops hand out that word's bytes, high first
  pub handed_back : (w : Width) (s : State) (x : ℕ) → busy s ≡ false
      → bytes_popped (size_of w) (after_pushes s (low_first (size_of w) x)) ≡ bytes_of (size_of w) x
  -- after any accepted command the pops hand out R's bytes
  pub after_command : (s : State) (code : ℕ) (k : Command) → IsStack s.stack → decoded (code % 128) ≡ Known k
      → (command_under on.rule s code).refusal ≡ Done
      → bytes_popped (length (result_bytes on.rule k s.stack)) (command_under on.rule s code).state
      ≡ result_bytes on.rule k s.stack
  -- an accepted command found nothing pending, and leaves nothing pending
  pub nothing_pending : (s : State) (code : ℕ) → (command_under on.rule s code).refusal ≡ Done
      → (s.pending ≡ false) × ((command_under on.rule s code).state.pending ≡ false)
  -- while a half word is pending, every known command, NOP too, is refused with 3 and no byte changes
  pub half_refused : (s : State) (code : ℕ) (k : Command) → decoded (code % 128) ≡ Known k → busy s ≡ false
      → s.pending ≡ true → command_under on.rule s code ≡ refused HalfWord s

-- of the chip as it stands
abbrev pub WholeWords : Type 0
WholeWords = (on : Settings) → Whole on

-- ---- every 16 bytes are words, in the sense of the rows of 01's tables
-- words of a width, each over the next
abbrev pub words_of : Width → List ℕ → List ℕ
words_of w [] = []
words_of w (x ∷ xs) = bytes_of (size_of w) x ++ words_of w xs

-- each is one of 2^n
abbrev pub EachBelow : ℕ → List ℕ → Type 0
EachBelow most [] = Unit
EachBelow most (x ∷ xs) = (x < most) × EachBelow most xs

-- eight of 16 bits, or four of 32
abbrev pub cells : Width → ℕ
cells Single = 8
cells Double = 4

pub record Read (w : Width) (l : List ℕ) : Type 0 where
  pub words : List ℕ
  pub number : length words ≡ cells w
  pub each : EachBelow (2 ^ bits_of w) words
  pub laid : l ≡ words_of w words

abbrev pub StackOfWords : Type 0
StackOfWords = (w : Width) (l : List ℕ) → IsStack l → Read w l
