-- What a call replies, case by case. Assumes nothing.
use mathlib.Core.Path.{◌≡◌, refl, sym, ap, ◌∙◌}
use mathlib.Core.Bool.{true, false}
use mathlib.Core.List.{List, ◌++◌}
use Prim.Native.Nat.{ℕ, ◌*◌, ◌/◌, ◌%◌, ◌≤◌, ◌<◌}
use lib.ListN.{length, drop}
use borrow.Author.Tests.{eq-eqb, ne_eqb, lt-ltb, le-ltb}
use Rattle.numbers.specs.Little.{le4, le8}
use Rattle.terms.specs.Settings.{is_rule, rule_of}
use Rattle.host_floats.specs.declared.buffer.BufferReply.{BufferReply}
use Rattle.host_floats.specs.Buffers.{word_entry, float_entry, word_entries, float_entries, reply_to, bytes_of, Turn, filled_by, words_turn, floats_turn, Turns}
use Rattle.host_floats.proofs.Writing.{first_length}

-- the reply r and the slice after
abbrev pub TurnsBy : Turn → BufferReply → List ℕ → Type 0
TurnsBy t r out = Turns t r.refusal r.number out

turned : (t : Turn) (r : BufferReply) (out : List ℕ) → t ≡ record { result = r.refusal; number = r.number; out = out } → TurnsBy t r out
turned t r out e = rw e (record { result_is = refl; number_is = refl; out_is = refl })

-- a refused buffer, and one that is written
refused : (s : BufferReply) (bytes out : List ℕ) → (s.refusal ≡ 0 → ⊥) → filled_by s bytes out ≡ record { result = s.refusal; number = s.number; out = out }
refused s bytes out n = rw (ne_eqb s.refusal 0 n)

filled : (s : BufferReply) (bytes out after : List ℕ) (k : ℕ) → s.refusal ≡ 0 → length bytes ≡ k → after ≡ bytes ++ drop k out
    → filled_by s bytes out ≡ record { result = s.refusal; number = s.number; out = after }
filled s bytes out after k z l e =
    rw (eq-eqb s.refusal 0 z) (ap (λ (t : List ℕ). record { result = s.refusal; number = s.number; out = t }) (ap (λ (i : ℕ). bytes ++ drop i out) l
    ∙ sym e))

-- a call that is turned away before an entry is looked at
gone : (t : Turn) (r : BufferReply) (n : ℕ) (out : List ℕ) → t ≡ record { result = n; number = 0; out = out } → r ≡ record { refusal = n; number = 0 }
    → TurnsBy t r out
gone t r n out e p = turned t r out (e ∙ ap (λ (s : BufferReply). record { result = s.refusal; number = s.number; out = out }) (sym p))

-- ---- words to f64s
module _ (words out : List ℕ) where
  pub part_words : (r : BufferReply) → (length words % 4 ≡ 0 → ⊥) → r ≡ record { refusal = 18; number = 0 } → TurnsBy (words_turn words out) r out
  unfolding words_turn
  part_words r h = gone (words_turn words out) r 18 out (rw (ne_eqb (length words % 4) 0 h))

  pub no_room_words : (r : BufferReply) → length words % 4 ≡ 0 → length out < length words / 4 * 8 → r ≡ record { refusal = 8; number = 0 }
      → TurnsBy (words_turn words out) r out
  unfolding words_turn
  no_room_words r h l = gone (words_turn words out) r 8 out (rw (eq-eqb (length words % 4) 0 h, lt-ltb (length out) (length words / 4 * 8) l))

  module _ (r : BufferReply) (whole : length words % 4 ≡ 0) (room : length words / 4 * 8 ≤ length out) (said : r ≡ reply_to (word_entries words)) where
    looked_words : words_turn words out ≡ filled_by r (bytes_of le8 (word_entries words)) out
    unfolding words_turn
    looked_words =
        rw (eq-eqb (length words % 4) 0 whole, le-ltb (length out) (length words / 4 * 8) room)
        (ap (λ (s : BufferReply). filled_by s (bytes_of le8 (word_entries words)) out) (sym said))

    pub bad_word : (r.refusal ≡ 0 → ⊥) → TurnsBy (words_turn words out) r out
    bad_word n = turned (words_turn words out) r out (looked_words ∙ refused r (bytes_of le8 (word_entries words)) out n)

    pub words_written : (after : List ℕ) → r.refusal ≡ 0 → after ≡ bytes_of le8 (word_entries words) ++ drop (length words / 4 * 8) out
        → TurnsBy (words_turn words out) r after
    words_written after z e =
        turned (words_turn words out) r after
        (looked_words ∙ filled r (bytes_of le8 (word_entries words)) out after (length words / 4 * 8) z (first_length 8 le8 (λ x. refl) (word_entry words)
        (length words / 4)) e)

-- ---- f64s to words
module _ (rule : ℕ) (floats out : List ℕ) where
  pub no_rule : (r : BufferReply) → is_rule rule ≡ false → r ≡ record { refusal = 17; number = 0 } → TurnsBy (floats_turn rule floats out) r out
  unfolding floats_turn
  no_rule r h = gone (floats_turn rule floats out) r 17 out (rw h)

  module _ (good : is_rule rule ≡ true) where
    pub part_floats : (r : BufferReply) → (length floats % 8 ≡ 0 → ⊥) → r ≡ record { refusal = 18; number = 0 } → TurnsBy (floats_turn rule floats out) r out
    unfolding floats_turn
    part_floats r h = gone (floats_turn rule floats out) r 18 out (rw (good, ne_eqb (length floats % 8) 0 h))

    pub no_room_floats : (r : BufferReply) → length floats % 8 ≡ 0 → length out < length floats / 8 * 4 → r ≡ record { refusal = 8; number = 0 }
        → TurnsBy (floats_turn rule floats out) r out
    unfolding floats_turn
    no_room_floats r h l =
        gone (floats_turn rule floats out) r 8 out (rw (good, eq-eqb (length floats % 8) 0 h, lt-ltb (length out) (length floats / 8 * 4) l))

    module _ (r : BufferReply) (whole : length floats % 8 ≡ 0) (room : length floats / 8 * 4 ≤ length out)
        (said : r ≡ reply_to (float_entries (rule_of rule) floats)) where
      looked_floats : floats_turn rule floats out ≡ filled_by r (bytes_of le4 (float_entries (rule_of rule) floats)) out
      unfolding floats_turn
      looked_floats =
          rw (good, eq-eqb (length floats % 8) 0 whole, le-ltb (length out) (length floats / 8 * 4) room)
          (ap (λ (s : BufferReply). filled_by s (bytes_of le4 (float_entries (rule_of rule) floats)) out) (sym said))

      pub bad_float : (r.refusal ≡ 0 → ⊥) → TurnsBy (floats_turn rule floats out) r out
      bad_float n = turned (floats_turn rule floats out) r out (looked_floats ∙ refused r (bytes_of le4 (float_entries (rule_of rule) floats)) out n)

      pub floats_written : (after : List ℕ) → r.refusal ≡ 0 → after ≡ bytes_of le4 (float_entries (rule_of rule) floats) ++ drop (length floats / 8 * 4) out
          → TurnsBy (floats_turn rule floats out) r after
      floats_written after z e =
          turned (floats_turn rule floats out) r after
          (looked_floats
          ∙ filled r (bytes_of le4 (float_entries (rule_of rule) floats)) out after (length floats / 8 * 4) z
          (first_length 4 le4 (λ x. refl) (float_entry (rule_of rule) floats) (length floats / 8)) e)
