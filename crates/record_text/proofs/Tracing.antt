-- The lines of a trace, one record at a time: where they stand, that a record more keeps it so, and what they are where no record is left. Assumes nothing.
use mathlib.Core.Path.{◌≡◌, refl, sym, ◌∙◌}
use mathlib.Core.List.{List, [], ◌∷◌, ◌++◌}
use Prim.Native.Nat.{ℕ, zero, suc, ◌+◌, ◌*◌, ◌-◌, ◌≤◌, ◌<◌}
use native.Mathlib.Omega.{arith}
use native.Mathlib.Nat.{add-zero}
use lib.ListN.{length, take, get_or, length-append}
use lib.Seq.{get_or-drop}
use borrow.Author.Tests.{le-leb, lt-leb, lt-ltb, le-ltb, eq-eqb, ne_eqb}
use Rattle.terms.specs.Limits.{most_input}
use Rattle.listing.specs.Text.{Adds, decimal}
use Rattle.listing.specs.Listing.{data_text}
use Rattle.listing.proofs.Adding.{all_added, next_added}
use Rattle.listing.proofs.Decimal.{at_most}
use Rattle.listing.proofs.Lines.{data_length}
use Rattle.record_text.specs.Trace.{state_text, line_room, call_from, after_text, end_at, lines_from, lines_of, last_line, trace_of}

-- a line of a state of 21 bytes or fewer has room
pub state_length : (number : ℕ) (state : List ℕ) → length (state_text number state) ≡ length (decimal number) + 3 * length state + 1
state_length number state =
    let rest = length-append (data_text state) (10 ∷ []) in
    omega (arith, length-append (decimal number) (data_text state ++ (10 ∷ [])), rest, data_length state)

pub state_short : (number : ℕ) (state : List ℕ) → length state ≤ 21 → length (state_text number state) ≤ line_room
state_short number state h = omega (arith, state_length number state, at_most 20 number)

-- the line of a run that is stopped, and of one that is not
pub stopped : (mode rule number : ℕ) (file : List ℕ) {refusal : ℕ} → refusal ≡ (call_from mode rule file).result → (refusal ≡ 0 → ⊥)
    → after_text mode rule number file ≡ []
stopped mode rule number file e h = rw (ne_eqb (call_from mode rule file).result 0 (λ z. h (e ∙ z)))

pub taken : (mode rule number : ℕ) (file : List ℕ) {refusal : ℕ} {state : List ℕ} → refusal ≡ (call_from mode rule file).result
    → state ≡ (call_from mode rule file).state → refusal ≡ 0 → state_text number state ≡ after_text mode rule number file
taken mode rule number file e f h = rw (f, eq-eqb (call_from mode rule file).result 0 (sym e ∙ h))

-- where a record ends, by its length as the code reads it
pub end_is : (input : List ℕ) (at : ℕ) {w : ℕ} → w ≡ get_or input at 0 + get_or input (at + 1) 0 * 256 → at + 2 + w ≡ end_at input at
end_is input at {w} e = rw (e, get_or-drop at input 0 0, get_or-drop at input 1 0, add-zero at)

-- no record is left; the last one is cut off; one more
pub none_left : (f mode rule : ℕ) (input : List ℕ) (number at : ℕ) → length input < at + 2 → lines_from f mode rule input number at ≡ []
unfolding lines_from
none_left zero mode rule input number at h = refl
none_left (suc f) mode rule input number at h = rw (lt-leb (at + 2) (length input) h)

pub cut_off : (f mode rule : ℕ) (input : List ℕ) (number at : ℕ) → at + 2 ≤ length input → length input < end_at input at
    → lines_from f mode rule input number at ≡ []
unfolding lines_from
cut_off zero mode rule input number at h k = refl
cut_off (suc f) mode rule input number at h k = rw (le-leb (at + 2) (length input) h, lt-leb (end_at input at) (length input) k)

pub one_more : (f mode rule : ℕ) (input : List ℕ) (number at : ℕ) → at + 2 ≤ length input → end_at input at ≤ length input
    → lines_from (suc f) mode rule input number at
    ≡ after_text mode rule number (take (end_at input at) input) ++ lines_from f mode rule input (number + 1) (end_at input at)
unfolding lines_from
one_more f mode rule input number at h k = rw (le-leb (at + 2) (length input) h, le-leb (end_at input at) (length input) k)

-- an input that is too long, and one that is not
pub too_long_lem : (mode rule : ℕ) (input : List ℕ) → most_input < length input → last_line ≡ trace_of mode rule input
too_long_lem mode rule input h = rw (lt-ltb most_input (length input) h)

pub not_long : (mode rule : ℕ) (input : List ℕ) → length input ≤ most_input → lines_of mode rule input ++ last_line ≡ trace_of mode rule input
not_long mode rule input h = rw (le-ltb most_input (length input) h)

-- where the lines stand: the place in the text, the next record's number, and the bytes passed
pub record Going (mode rule : ℕ) (input before after : List ℕ) (place number at : ℕ) : Type 0 where
  pub in_it : at ≤ length input
  pub same : length after ≡ length before
  pub first : 1 ≤ number
  pub few : number ≤ at + 1
  pub room : place ≤ 42 * at
  pub so_far : lines_of mode rule input ≡ take place after ++ lines_from (length input + 1 - number) mode rule input number at

pub starts : (mode rule : ℕ) (input out : List ℕ) → Going mode rule input out out 0 1 0
starts mode rule input out = record {
  in_it = omega arith;
  same = refl;
  first = omega arith;
  few = omega arith;
  room = omega arith;
  so_far = let e : length input + 1 - 1 ≡ length input = omega arith in rw e;
}

module _ (mode rule : ℕ) (input before after : List ℕ) (place number at : ℕ) (g : Going mode rule input before after place number at)
    (fits : 42 * length input ≤ length before) where
  -- no line is left
  pub ends : lines_from (length input + 1 - number) mode rule input number at ≡ [] → Adds (lines_of mode rule input) before after 0 place
  ends e = all_added g.so_far (omega (arith, g.room, g.in_it, g.same)) e

  -- one line more
  pub goes_on : (out : List ℕ) (new end : ℕ) → at + 2 ≤ length input → end ≡ end_at input at → end ≤ length input → length out ≡ length after
      → new ≤ place + line_room → Adds (after_text mode rule number (take end input)) after out place new
      → Going mode rule input before out new (number + 1) end
  goes_on out new end h e k s short a =
      let line = after_text mode rule number (take end input) in
      let left = length input + 1 - (number + 1) in
      let tail = lines_from left mode rule input (number + 1) end in
      let fuel : length input + 1 - number ≡ suc left = omega (arith, g.few, g.first) in
      let next : lines_from (length input + 1 - number) mode rule input number at ≡ line ++ tail =
      rw (fuel, e) (one_more left mode rule input number at h (rw (← e) k)) in
      record {
        in_it = k;
        same = s ∙ g.same;
        first = omega arith;
        few = omega (arith, g.few, e);
        room = omega (arith, g.room, short, e);
        so_far = next_added g.so_far line tail next a;
      }
