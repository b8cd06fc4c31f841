-- The number of a bad record from its bytes: each test of the head goes the way that the bytes say, and a head that stops ends the run at once. Assumes
-- nothing.
use mathlib.Core.Path.{◌≡◌, refl, ap, ap₂, ◌∙◌}
use mathlib.Core.Logic.{◌⊎◌, ⊎_elim}
use mathlib.Core.List.{List, [], ◌∷◌}
use Prim.Native.Nat.{ℕ, ◌+◌, ◌*◌, ◌-◌, ◌≤◌, ◌<◌}
use native.Mathlib.Omega.{arith}
use borrow.Author.Tests.{lt-ltb, le-ltb, ne_eqb}
use lib.Dec.{lit<, lit≤}
use lib.ListN.{length, get_or}
use Rattle.terms.specs.declared.Refusal.{Refusal}
use Rattle.terms.specs.declared.Refusal.TheVariants.{NoSuchKind, CutShort, BadLength, NoRoom}
use Rattle.terms.specs.Refusal.{number_of}
use Rattle.terms.specs.Limits.{most_payload}
use Rattle.error_memory.specs.Memory.{Card}
use Rattle.record_runs.specs.Record.{Event}
use Rattle.record_runs.specs.Record.{Push, Pop, Command, Status, Reset, Acknowledge, Recall, Forget}
use Rattle.std.specs.Prelude.{Err}
use Rattle.record_runs.specs.Record.{Stop}
use Rattle.numbers.specs.Little.{word_at}
use Rattle.terms.specs.declared.EventKind.{EventKind}
use Rattle.terms.specs.declared.EventKind.TheVariants.{Unknown as UnknownKind}
use Rattle.terms.specs.Kind.{kind_named}
use Rattle.record_runs.specs.Record.{kind_of, payload_of, answered_of, row_by, row_under, frame_under, head_in, head_of, Carried, Holds, stopped, turn_under}
use Rattle.record_runs.specs.Record.{turn_of}
use Rattle.record_files.proofs.Tests.{either_lt, either_eq}
use Rattle.promises.proofs.Single.{stopped_by}
use Rattle.record_runs.proofs.Heads.{short, low, high, cut, whole, head_is}
use Rattle.record_files.proofs.Append.{first_stops}
use Rattle.promises.specs.Fronts.{Stops, Fronts}
use Rattle.record_runs.proofs.Prefix.{lawful}

-- a head that is a refusal ends the run with its number
stops_with : (s : Card) (l : List ℕ) (room : ℕ) (r : Refusal) → head_of l ≡ Stop r → 0 < length l → 0 < number_of r → Stops s l room (number_of r)
stops_with s l room r e some n =
    first_stops lawful s l room (stopped r s) (stopped_by s l room r e) some (λ z. omega (arith, z, n))

-- a frame that is broken
broken : (l : List ℕ) (r : Refusal) → frame_under most_payload l ≡ Err r → head_of l ≡ Stop r
broken l r e = ap (head_in most_payload l) e

-- all bytes there: the row of the kind and of the payload of n bytes
row_is : (l : List ℕ) (n k : ℕ) → word_at l 0 ≡ 2 + n → word_at l 2 ≡ k → n ≤ 240 → 4 + n ≤ length l → head_of l ≡ row_under most_payload k n (get_or l 4 0)
row_is l n k a b d e =
    let m : word_at l 0 - 2 ≡ n = omega arith in
    ap (head_in most_payload l) (whole most_payload l (omega arith) (omega arith) (omega arith) (omega arith))
    ∙ ap₂ (λ (i j : ℕ). row_under most_payload i j (get_or l 4 0)) b m

-- ---- rows
-- a kind that is none is none of the eight
none : (k : ℕ) → (k ≡ 0) ⊎ (8 < k) → (i : ℕ) → 1 ≤ i → i ≤ 8 → k ≡ i → ⊥
none k h i a b e = ⊎_elim (λ z. omega arith) (λ z. omega arith) h

pub unnamed : (k : ℕ) → (k ≡ 0) ⊎ (8 < k) → kind_named k ≡ UnknownKind
unnamed k h =
    rw (
      ne_eqb k 1 (none k h 1 (lit≤ tt) (lit≤ tt)),
      ne_eqb k 2 (none k h 2 (lit≤ tt) (lit≤ tt)),
      ne_eqb k 3 (none k h 3 (lit≤ tt) (lit≤ tt)),
      ne_eqb k 4 (none k h 4 (lit≤ tt) (lit≤ tt)),
      ne_eqb k 5 (none k h 5 (lit≤ tt) (lit≤ tt)),
      ne_eqb k 6 (none k h 6 (lit≤ tt) (lit≤ tt)),
      ne_eqb k 7 (none k h 7 (lit≤ tt) (lit≤ tt)),
      ne_eqb k 8 (none k h 8 (lit≤ tt) (lit≤ tt)),
    )

other_kind : (k n first : ℕ) → (k ≡ 0) ⊎ (8 < k) → row_under most_payload k n first ≡ Stop NoSuchKind
other_kind k n first h = ap (λ (x : EventKind). row_by most_payload x n first) (unnamed k h)

not_one : (n first : ℕ) → (n ≡ 1 → ⊥) → (row_under most_payload 2 n first ≡ Stop BadLength) × (row_under most_payload 3 n first ≡ Stop BadLength)
not_one n first h = rw (ne_eqb n 1 h) (refl, refl)

pop_low : (first : ℕ) → first ≡ 0 → row_under most_payload 2 1 first ≡ Stop BadLength
pop_low first h = rw h

pop_high : (first : ℕ) → 240 < first → row_under most_payload 2 1 first ≡ Stop BadLength
pop_high first h = rw (le-ltb first 1 (omega arith), lt-ltb 240 first h)

some_bytes : (k n first : ℕ) → 1 ≤ n → 4 ≤ k → k ≤ 8 → row_under most_payload k n first ≡ Stop BadLength
some_bytes k n first h a b =
    let z = ne_eqb n 0 (λ e. omega arith) in
    either_eq (λ (x : ℕ). row_under most_payload k n first ≡ Stop BadLength) k 4 0 0 (λ e. rw (e, z)) (λ e.
    either_eq (λ (x : ℕ). row_under most_payload k n first ≡ Stop BadLength) k 5 0 0 (λ f. rw (f, z)) (λ f.
    either_eq (λ (x : ℕ). row_under most_payload k n first ≡ Stop BadLength) k 6 0 0 (λ g. rw (g, z)) (λ g.
    either_eq (λ (x : ℕ). row_under most_payload k n first ≡ Stop BadLength) k 7 0 0 (λ i. rw (i, z)) (λ i.
    let j : k ≡ 8 = omega arith in rw (j, z)))))

-- a whole record whose reply has no room
no_turn : (s : Card) (l : List ℕ) (room : ℕ) (e : Event) → Holds most_payload l e → room < 5 + answered_of e → turn_of s l room ≡ stopped NoRoom s
unfolding turn_under
no_turn s l room e h g = rw (head_is l e h, lt-ltb room (5 + answered_of e) g)

crowded : (s : Card) (l : List ℕ) (room : ℕ) (e : Event) → Holds most_payload l e → room < 5 + answered_of e → Stops s l room 8
crowded s l room e h g = first_stops lawful s l room (stopped NoRoom s) (no_turn s l room e h g) (omega (arith, h.there)) (λ y. omega arith)

-- one without payload, of a kind that is one byte
crowded_bare : (s : Card) (room : ℕ) (e : Event) (rest : List ℕ) → payload_of e ≡ 0 → Carried most_payload (get_or rest 0 0) e → kind_of e < 256
    → room < 5 + answered_of e → Stops s (2 ∷ 0 ∷ kind_of e ∷ 0 ∷ rest) room 8
crowded_bare s room e rest z c k g =
    crowded s (2 ∷ 0 ∷ kind_of e ∷ 0 ∷ rest) room e (record {
      length-is = omega (arith, z);
      kind_is = omega arith;
      there = omega (arith, z);
      small = omega (arith, z);
      carried = c;
    }) g

-- ---- the statement
pub fronts : Fronts
fronts = record {
  one_byte = λ s room a. stops_with s (a ∷ []) room CutShort (broken (a ∷ []) CutShort (short most_payload (a ∷ []) (omega arith))) (omega arith) (omega arith);
  bad_length = λ s room a b rest h.
      stops_with s (a ∷ b ∷ rest) room BadLength
      (either_lt (λ (x : ℕ). head_of (a ∷ b ∷ rest) ≡ Stop BadLength) (a + b * 256) 2 0 0
      (λ i. broken (a ∷ b ∷ rest) BadLength (low most_payload (a ∷ b ∷ rest) (omega arith) i))
      (λ i. broken (a ∷ b ∷ rest) BadLength (high most_payload (a ∷ b ∷ rest) (omega arith) i (⊎_elim (λ z. absurd (omega arith)) (λ z. z) h))))
      (omega arith) (omega arith);
  bytes_missing = λ s room a b rest i j h. stops_with s (a ∷ b ∷ rest) room CutShort (broken (a ∷ b ∷ rest) CutShort
      (cut most_payload (a ∷ b ∷ rest) (omega arith) i j (omega arith))) (omega arith) (omega arith);
  bad_kind = λ s room n c d rest i j h.
      let l : List ℕ = (2 + n) ∷ 0 ∷ c ∷ d ∷ rest in
      stops_with s l room NoSuchKind (row_is l n (c + d * 256) (omega arith) refl i (omega arith) ∙ other_kind (c + d * 256) n (get_or l 4 0) h) (omega arith)
      (omega arith);
  push_none = λ s room rest. let l : List ℕ = 2 ∷ 0 ∷ 1 ∷ 0 ∷ rest in stops_with s l room BadLength (row_is l 0 1 refl refl (omega arith) (omega arith))
      (omega arith) (omega arith);
  pop_payload = λ s room n rest i j h.
      let l : List ℕ = (2 + n) ∷ 0 ∷ 2 ∷ 0 ∷ rest in
      stops_with s l room BadLength (row_is l n 2 (omega arith) refl i (omega arith) ∙ (not_one n (get_or l 4 0) h).0) (omega arith) (omega arith);
  pop_count = λ s room n rest h.
      let l : List ℕ = 3 ∷ 0 ∷ 2 ∷ 0 ∷ n ∷ rest in
      stops_with s l room BadLength (row_is l 1 2 refl refl (omega arith) (omega arith) ∙ ⊎_elim (λ z. pop_low n z) (λ z. pop_high n z) h) (omega arith)
      (omega arith);
  command_payload = λ s room n rest i j h.
      let l : List ℕ = (2 + n) ∷ 0 ∷ 3 ∷ 0 ∷ rest in
      stops_with s l room BadLength (row_is l n 3 (omega arith) refl i (omega arith) ∙ (not_one n (get_or l 4 0) h).1) (omega arith) (omega arith);
  bare_payload = λ s room n k rest o i j a b.
      let l : List ℕ = (2 + n) ∷ 0 ∷ k ∷ 0 ∷ rest in
      stops_with s l room BadLength (row_is l n k (omega arith) (omega arith) i (omega arith) ∙ some_bytes k n (get_or l 4 0) o a b) (omega arith) (omega arith);
  push_room = λ s room n rest a b j h.
      crowded s ((2 + n) ∷ 0 ∷ 1 ∷ 0 ∷ rest) room (Push n) (record { length-is = omega arith; kind_is = refl; there = omega arith; small = b; carried = a }) h;
  pop_room = λ s room n rest a b h.
      crowded s (3 ∷ 0 ∷ 2 ∷ 0 ∷ n ∷ rest) room (Pop n) (record {
        length-is = refl;
        kind_is = refl;
        there = omega arith;
        small = omega arith;
        carried = (refl, a, b);
      }) h;
  command_room = λ s room code rest h.
      crowded s (3 ∷ 0 ∷ 3 ∷ 0 ∷ code ∷ rest) room (Command code) (record {
        length-is = refl;
        kind_is = refl;
        there = omega arith;
        small = omega arith;
        carried = refl;
      }) h;
  status_room = λ s room rest h. crowded_bare s room Status rest refl tt (lit< tt) h;
  reset_room = λ s room rest h. crowded_bare s room Reset rest refl tt (lit< tt) h;
  acknowledge_room = λ s room rest h. crowded_bare s room Acknowledge rest refl tt (lit< tt) h;
  recall_room = λ s room rest h. crowded_bare s room Recall rest refl tt (lit< tt) h;
  forget_room = λ s room rest h. crowded_bare s room Forget rest refl tt (lit< tt) h;
}
