-- The record step is lawful: a record that is taken is taken alike in every file that begins with its bytes, and one that a cut goes through is 6. Assumes
-- nothing.
use mathlib.Core.Path.{◌≡◌, refl, sym, ap, ◌∙◌}
use mathlib.Core.List.{List}
use Prim.Native.Nat.{ℕ, ◌+◌, ◌*◌, ◌≤◌, ◌<◌, zero-le}
use native.Mathlib.Omega.{arith}
use native.Mathlib.Nat.{mul-le-mul_left}
use lib.Dec.{lit≤}
use lib.ListN.{length, get_or, take, drop}
use lib.Seq.{get_or-take, length-take-le}
use borrow.Author.Tests.{le-ltb}
use Rattle.terms.specs.declared.Refusal.TheVariants.{CutShort}
use Rattle.terms.specs.Limits.{most_payload}
use Rattle.error_memory.specs.Memory.{Card}
use Rattle.record_files.specs.Run.{ended}
use Rattle.record_files.specs.Lawful.{Stopping, Lawful}
use Rattle.record_files.proofs.Tests.{either_lt}
use Rattle.record_files.proofs.Through.{drop_take}
use Rattle.record_runs.specs.Record.{Event}
use Rattle.record_runs.specs.Record.{Push, Pop, Command, Status, Reset, Acknowledge, Recall, Forget}
use Rattle.std.specs.Prelude.{Result, Err}
use Rattle.record_runs.specs.Record.{word_at, payload_of, answered_of, frame_under, Carried, Holds, answer_of, Turned, stopped, worked, turn_under, turn_of}
use Rattle.record_runs.proofs.Heads.{short, cut, head_is, few}
use Rattle.record_runs.proofs.Turning.{length-data_of}
use Rattle.record_runs.proofs.Steps.{steps, moves}

-- the first payload byte counts only where the payload is one byte
same_carried : (most : ℕ) (e : Event) (a b : ℕ) → (1 ≤ payload_of e → a ≡ b) → Carried most a e → Carried most b e
same_carried most (Push n) a b h c = c
same_carried most (Pop n) a b h c = (c.0 ∙ h (omega arith), c.1, c.2)
same_carried most (Command code) a b h c = c ∙ h (omega arith)
same_carried most Status a b h c = tt
same_carried most Reset a b h c = tt
same_carried most Acknowledge a b h c = tt
same_carried most Recall a b h c = tt
same_carried most Forget a b h c = tt

-- two files with the same first bytes hold the same whole record
module _ (e : Event) (l m : List ℕ) (same : take (4 + payload_of e) l ≡ take (4 + payload_of e) m) where
  at : (i : ℕ) → i < 4 + payload_of e → get_or m i 0 ≡ get_or l i 0
  at i h = sym (get_or-take (4 + payload_of e) m i 0 h) ∙ ap (λ (t : List ℕ). get_or t i 0) (sym same) ∙ get_or-take (4 + payload_of e) l i 0 h

  pub holds_too : {most : ℕ} → 4 + payload_of e ≤ length m → Holds most l e → Holds most m e
  holds_too {most} fits h = record {
    length-is = rw (at 0 (omega arith), at 1 (omega arith)) h.length-is;
    kind_is = rw (at 2 (omega arith), at 3 (omega arith)) h.kind_is;
    there = fits;
    small = h.small;
    carried = same_carried most e (get_or l 4 0) (get_or m 4 0) (λ p. sym (at 4 (omega arith))) h.carried;
  }

  same_payload : take (payload_of e) (drop 4 m) ≡ take (payload_of e) (drop 4 l)
  same_payload = sym (drop_take 4 (payload_of e) m) ∙ ap (drop 4) (sym same) ∙ drop_take 4 (payload_of e) l

abbrev Alike : ℕ → Card → List ℕ → List ℕ → ℕ → Turned → Type 0
Alike most s l m more t = t.refusal ≡ 0 → take t.taken l ≡ take t.taken m → t.taken ≤ length m → length t.written ≤ more → turn_under most s m more
    ≡ t

worked_too : {most : ℕ} (s : Card) (l m : List ℕ) (more : ℕ) (e : Event) → Holds most l e
    → Alike most s l m more (worked s e (answer_of s (take (payload_of e) (drop 4 l)) e))
unfolding turn_under
worked_too s l m more e h z same fits g =
    let d = length-data_of s e in
    rw (head_is m e (holds_too e l m same fits h), le-ltb more (5 + answered_of e) (omega arith), same_payload e l m same)

-- a record that is taken
pub alike : (most : ℕ) (s : Card) (l m : List ℕ) (room more : ℕ) → Alike most s l m more (turn_under most s l room)
alike most s l m room more = steps {most = most} (Alike most s l m more) s l room (λ r a b z. let y : ⊥ = omega arith in absurd y)
    (λ e h g. worked_too s l m more e h)

-- what is taken stands in the file
pub within : (most : ℕ) (s : Card) (l : List ℕ) (room : ℕ) → (turn_under most s l room).refusal ≡ 0 → (turn_under most s l room).taken ≤ length l
within most s l room = steps {most = most} (λ t. t.refusal ≡ 0 → t.taken ≤ length l) s l room (λ r a b z. omega arith) (λ e h g z. h.there)

-- its reply fits the room and, for each byte of the record, is no longer than the longest
pub reply_few : (most : ℕ) → 2 ≤ most → (s : Card) (l : List ℕ) (room : ℕ)
    → (length (turn_under most s l room).written ≤ room) × (length (turn_under most s l room).written ≤ (5 + most) * (turn_under most s l room).taken)
reply_few most some s l room =
    steps {most = most} (λ t. (length t.written ≤ room) × (length t.written ≤ (5 + most) * t.taken)) s l room
    (λ r a b. (zero-le, zero-le))
    (λ e h g.
    let d = length-data_of s e in
    let f = few l e some h in
    let m : (5 + most) * 1 ≤ (5 + most) * (4 + payload_of e) = mul-le-mul_left (5 + most) (omega arith) in
    (omega arith, omega (arith, d, f, m)))

-- a record that a cut goes through
module _ (most : ℕ) (s : Card) (l : List ℕ) (room k : ℕ) (in_file : k ≤ length l) where
  long : length (take k l) ≡ k
  long = length-take-le k l in_file

  word : 2 ≤ k → word_at (take k l) 0 ≡ word_at l 0
  word i = rw (get_or-take k l 0 0 (omega arith), get_or-take k l 1 0 (omega arith))

  cut_frame : (e : Event) → Holds most l e → k < 4 + payload_of e → frame_under most (take k l) ≡ Err CutShort
  cut_frame e h i =
      either_lt (λ (n : ℕ). frame_under most (take k l) ≡ Err CutShort) k 2 0 0
      (λ d. short most (take k l) (omega (arith, long)))
      (λ d.
      let w = word d in
      cut most (take k l) (omega (arith, long)) (omega (arith, w, h.length-is)) (omega (arith, w, h.length-is, h.small))
      (omega (arith, w, long, h.length-is)))

  cut_turn : (e : Event) → Holds most l e → k < 4 + payload_of e → turn_under most s (take k l) room ≡ stopped CutShort s
  unfolding turn_under
  cut_turn e h i = rw (cut_frame e h i)

  pub cut_through : (turn_under most s l room).refusal ≡ 0 → k < (turn_under most s l room).taken → turn_under most s (take k l) room ≡ stopped CutShort s
  cut_through =
      steps {most = most} (λ t. t.refusal ≡ 0 → k < t.taken → turn_under most s (take k l) room ≡ stopped CutShort s) s l room
      (λ r a b z. let y : ⊥ = omega arith in absurd y) (λ e h g z i. cut_turn e h i)

-- a record that stops stops with 5 to 8 and nothing done
stops : (most : ℕ) (s : Card) (l : List ℕ) (room : ℕ) → ((turn_under most s l room).refusal ≡ 0 → ⊥) → Stopping (turn_under most s l room).refusal
    × (turn_under most s l room ≡ ended (turn_under most s l room).refusal s)
stops most s l room =
    steps {most = most} (λ t. (t.refusal ≡ 0 → ⊥) → Stopping t.refusal × (t ≡ ended t.refusal s)) s l room (λ r a b z. ((a, b), refl))
    (λ e h g z. absurd (z refl))

-- under every limit that lets two bytes through
pub lawful_under : (most : ℕ) → 2 ≤ most → Lawful (5 + most) (turn_under most)
lawful_under most some = record {
  stops = stops most;
  moves = moves most;
  within = within most;
  fits = λ s l room z. (reply_few most some s l room).0;
  few = λ s l room z. (reply_few most some s l room).1;
  alike = alike most;
  cut_through = cut_through most;
}

pub lawful : Lawful (5 + most_payload) turn_of
lawful = lawful_under most_payload (lit≤ tt)
