-- Bytes and cards: the bytes of a state come back as they were, and the bytes of a card that 13 does not turn away stand for a state, from which the card comes
-- back. Assumes nothing.
use mathlib.Core.Path.{◌≡◌, refl, sym, ap, ap₂, ◌∙◌}
use mathlib.Core.Logic.{◌⊎◌, inl, inr, ⊎_elim}
use mathlib.Core.Bool.{Bool, true, false, cond}
use mathlib.Core.List.{List, [], ◌∷◌, ◌++◌, append_assoc}
use Prim.Native.Nat.{ℕ, ◌+◌, ◌≤◌, ◌<◌}
use native.Mathlib.Omega.{arith}
use lib.Dec.{eqb, lit≤, lit<}
use lib.ListN.{length, take, drop, get_or, length-append, take-append-drop, drop_of_length-le}
use lib.Seq.{length-take-le, drop-cons, get_or-append-add, take_at}
use borrow.Author.Tests.{eq-eqb, ne_eqb, eqb-true, eqb-false}
use Rattle.terms.specs.Limits.{state_bytes, long_state_bytes}
use Rattle.terms.specs.declared.Mode.TheVariants.{Am9511A}
use Rattle.terms.specs.declared.Rule.TheVariants.{Cut}
use Rattle.terms.specs.declared.Settings.{Settings}
use Rattle.chip.specs.Step.{given}
use Rattle.stack.specs.Stack.{Bytes}
use Rattle.stack.proofs.Words.{bytes_append, bytes_take, byte_at}
use Rattle.chip.specs.State.{State}
use Rattle.error_memory.specs.declared.Memory.{Memory}
use Rattle.error_memory.specs.Memory.{Card, card_with, empty_memory}
use Rattle.error_memory.proofs.Good.{ReadyCard, memory_cases}
use Rattle.state_bytes.specs.Bytes.{is_state, state_of, memory_in, card_in, flag_of, laid, laid_out}
use Rattle.state_bytes.proofs.States.{state_stands, stands_state, state_sized, short_memory, long_memory, state_memory}

-- ---- bytes, read and written back
-- a flag's byte is the flag, and the flag comes back
pub flag_back : (x : ℕ) → x ≤ 1 → flag_of (eqb x 1) ≡ x
flag_back x h = by (eqb x 1) refl
  where
    by : (t : Bool) → eqb x 1 ≡ t → flag_of t ≡ x
    by true e = sym (eqb-true x 1 e)
    by false e = let n = eqb-false x 1 e in omega arith

pub flag_read : (t : Bool) → eqb (flag_of t) 1 ≡ t
flag_read true = refl
flag_read false = refl

pub flag_small : (t : Bool) → flag_of t ≤ 1
flag_small true = lit≤ tt
flag_small false = lit≤ tt

-- the bytes behind the stack
short_end : (l : List ℕ) → length l ≡ 19 → drop 16 l ≡ get_or l 16 0 ∷ get_or l 17 0 ∷ get_or l 18 0 ∷ []
short_end l h =
    drop-cons l 16 0 (omega arith)
    ∙ ap (λ (t : List ℕ). get_or l 16 0 ∷ t) (drop-cons l 17 0 (omega arith)
    ∙ ap (λ (t : List ℕ). get_or l 17 0 ∷ t) (drop-cons l 18 0 (omega arith)
    ∙ ap (λ (t : List ℕ). get_or l 18 0 ∷ t) (drop_of_length-le l {i = 19} (omega arith))))

long_end : (l : List ℕ) → length l ≡ 21 → drop 16 l ≡ get_or l 16 0 ∷ get_or l 17 0 ∷ get_or l 18 0 ∷ get_or l 19 0 ∷ get_or l 20 0 ∷ []
long_end l h =
    drop-cons l 16 0 (omega arith)
    ∙ ap (λ (t : List ℕ). get_or l 16 0 ∷ t) (drop-cons l 17 0 (omega arith)
    ∙ ap (λ (t : List ℕ). get_or l 17 0 ∷ t) (drop-cons l 18 0 (omega arith)
    ∙ ap (λ (t : List ℕ). get_or l 18 0 ∷ t) (drop-cons l 19 0 (omega arith)
    ∙ ap (λ (t : List ℕ). get_or l 19 0 ∷ t) (drop-cons l 20 0 (omega arith)
    ∙ ap (λ (t : List ℕ). get_or l 20 0 ∷ t) (drop_of_length-le l {i = 21} (omega arith))))))

-- what is written behind a stack
abbrev pub behind : ℕ → Card → List ℕ
behind n c = flag_of c.chip.pending ∷ c.chip.status ∷ flag_of c.chip.service ∷ cond (eqb n state_bytes) [] (c.memory.bits ∷ c.memory.code ∷ [])

pub laid_is : (n : ℕ) (c : Card) → laid_out n c ≡ c.chip.stack ++ behind n c
laid_is n c = append_assoc c.chip.stack (flag_of c.chip.pending ∷ c.chip.status ∷ flag_of c.chip.service ∷ []) (cond (eqb n state_bytes) []
    (c.memory.bits ∷ c.memory.code ∷ []))

-- the bytes of a state come back as they were
pub card_returns : (on : Settings) (l : List ℕ) → is_state l ≡ true → laid_out (length l) (card_in on l) ≡ l
card_returns on l h = laid_is (length l) (card_in on l) ∙ ap (λ (t : List ℕ). take 16 l ++ t) ends ∙ take-append-drop 16 l
  where
    k : get_or l 16 0 ≤ 1
    k = (state_stands l h).chip.pending

    v : get_or l 18 0 ≤ 1
    v = (state_stands l h).chip.service

    ends : behind (length l) (card_in on l) ≡ drop 16 l
    ends =
        ⊎_elim (λ a. rw (flag_back (get_or l 16 0) k, flag_back (get_or l 18 0) v, eq-eqb (length l) 19 a) (sym (short_end l a)))
        (λ b. rw (flag_back (get_or l 16 0) k, flag_back (get_or l 18 0) v, ne_eqb (length l) 19 (λ a. omega arith)) (sym (long_end l b))) (state_sized l h)

-- and stand for a card that 13 does not turn away
pub card_ready : (on : Settings) (l : List ℕ) → Bytes l → is_state l ≡ true → ReadyCard (card_in on l)
card_ready on l bytes h =
    let s = state_stands l h in
    record {
      chip = record {
        stack = record {
          sixteen = ⊎_elim (λ a. length-take-le 16 l (omega arith)) (λ b. length-take-le 16 l (omega arith)) s.size;
          bytes = bytes_take 16 l bytes;
        };
        ready = s.chip.ready;
      };
      memory = record {
        stands = state_memory l h;
        code_byte = ⊎_elim (λ a. rw (eq-eqb (length l) 19 a) (lit< tt)) (λ b. rw
            (ne_eqb (length l) 19 (λ a. omega arith)) (byte_at l bytes 20)) s.size;
      };
    }

-- ---- cards, written and read back
module _ (c : Card) (n : length c.chip.stack ≡ 16) where
  -- a byte behind the stack
  pub laid_at_lem : (size i : ℕ) → get_or (laid_out size c) (16 + i) 0 ≡ get_or (behind size c) i 0
  laid_at_lem size i =
      ap (λ (l : List ℕ). get_or l (16 + i) 0) (laid_is size c)
      ∙ ap (λ (k : ℕ). get_or (c.chip.stack ++ behind size c) (k + i) 0) (sym n)
      ∙ get_or-append-add c.chip.stack (behind size c) i 0

  pub laid_length : (size : ℕ) → (size ≡ state_bytes) ⊎ (size ≡ long_state_bytes) → length (laid_out size c) ≡ size
  laid_length size h =
      ap length (laid_is size c) ∙ length-append c.chip.stack (behind size c)
      ∙ ⊎_elim (λ a. rw (eq-eqb size 19 a) (omega arith)) (λ b. rw (ne_eqb size 19 (λ a. omega arith)) (omega arith)) h

  -- the chip comes back, and the memory from 21 bytes
  pub laid_chip : (size : ℕ) → state_of (laid_out size c) ≡ c.chip
  laid_chip size =
      rw (laid_at_lem size 0, laid_at_lem size 1, laid_at_lem size 2, flag_read c.chip.pending, flag_read c.chip.service, laid_is size c)
      (ap (λ (s : List ℕ). record { stack = s; pending = c.chip.pending; status = c.chip.status; service = c.chip.service })
      (take_at c.chip.stack (behind size c) 16 n))

  pub card_short : card_in c.on (laid_out state_bytes c) ≡ card_with c.on c.chip empty_memory
  card_short = ap₂ (card_with c.on) (laid_chip 19) (short_memory (laid_out 19 c) (laid_length 19 (inl refl)))

  pub card_long : card_in c.on (laid_out long_state_bytes c) ≡ c
  card_long =
      ap₂ (card_with c.on) (laid_chip 21)
      (long_memory (laid_out 21 c) (laid_length 21 (inr refl)) ∙ ap₂ (λ (b k : ℕ). record { bits = b; code = k }) (laid_at_lem 21 3) (laid_at_lem 21 4))

-- a memory, laid behind any chip
pub long_back : (s : State) (m : Memory) → length s.stack ≡ 16 → (size : ℕ) → size ≡ long_state_bytes → memory_in (laid size s m) ≡ m
long_back s m n size b = rw b (ap (λ (k : Card). k.memory) (card_long (card_with (given Am9511A Cut) s m) n))

-- a card that 13 does not turn away
module _ (c : Card) (r : ReadyCard c) where
  pub laid_state : (size : ℕ) → (size ≡ state_bytes) ⊎ (size ≡ long_state_bytes) → is_state (laid_out size c) ≡ true
  laid_state size h =
      let n = r.chip.stack.sixteen in
      let len = laid_length c n size h in
      stands_state (laid_out size c) (record {
        size = ⊎_elim (λ a. inl (len ∙ a)) (λ b. inr (len ∙ b)) h;
        chip = record {
          pending = rw (laid_at_lem c n size 0) (flag_small c.chip.pending);
          ready = rw (laid_at_lem c n size 1) r.chip.ready;
          service = rw (laid_at_lem c n size 2) (flag_small c.chip.service);
        };
        memory = λ m. rw (laid_at_lem c n size 3, laid_at_lem c n size 4, ne_eqb size 19 (λ a. omega arith)) r.memory.stands;
      })

  pub laid_bytes : (size : ℕ) → Bytes (laid_out size c)
  laid_bytes size =
      let t = r.chip.ready in
      let v = flag_small c.chip.service in
      rw (laid_is size c) (bytes_append c.chip.stack (behind size c) r.chip.stack.bytes (
        omega (arith, flag_small c.chip.pending),
        (omega arith, (omega arith, memory_bytes (eqb size state_bytes))),
      ))
    where
      memory_bytes : (x : Bool) → Bytes (cond x [] (c.memory.bits ∷ c.memory.code ∷ []))
      memory_bytes true = tt
      memory_bytes false = (bits_byte, (r.memory.code_byte, tt))
        where
          bits_byte : c.memory.bits < 256
          bits_byte = ⊎_elim (λ z. omega (arith, z.0)) (λ m. omega (arith, m.in_places)) (memory_cases c.memory.bits c.memory.code
              r.memory.stands)
