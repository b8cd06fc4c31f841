-- The event call and the conversions: each test of the call's definition goes the way that the premise says. Assumes nothing.
use mathlib.Core.Path.{◌≡◌, refl, sym, ap, ap₂, ◌∙◌}
use mathlib.Core.Logic.{◌⊎◌, inl, inr, ⊎_elim}
use mathlib.Core.Bool.{Bool, true, false, not, cond}
use mathlib.Core.List.{List, [], ◌∷◌, ◌++◌}
use Prim.Native.Nat.{ℕ, ◌+◌, ◌*◌, ◌-◌, ◌≤◌, ◌<◌}
use native.Mathlib.Omega.{arith}
use borrow.Author.Tests.{lt-leb, eq-eqb, ne_eqb, eqb-true, eqb-false}
use lib.Dec.{eqb, leb}
use lib.ListN.{length, take, get_or, length-append}
use lib.Seq.{take_at, take-append-le, get_or-append-add}
use Rattle.terms.specs.declared.Mode.{Mode}
use Rattle.terms.specs.declared.Mode.TheVariants.{Am9511A, Am9511}
use Rattle.terms.specs.declared.Rule.{Rule}
use Rattle.terms.specs.declared.Settings.{Settings}
use Rattle.terms.specs.Settings.{is_mode, mode_of, is_rule, rule_of}
use Rattle.stack.specs.Stack.{zeros}
use Rattle.chip.specs.State.{State}
use Rattle.chip.specs.Event.{Reset}
use Rattle.chip.specs.State.{after_reset}
use Rattle.chip.specs.Step.{done, push_of, pop_of, read_of, reset_of, acknowledge_of, given}
use Rattle.error_memory.specs.declared.Memory.{Memory}
use Rattle.error_memory.specs.Memory.{empty_memory, Card, CardAnswer, card_with, card_answer, answer_with}
use Rattle.host_floats.specs.declared.Reply.{Reply}
use Rattle.terms.specs.declared.Refusal.TheVariants.{Done, BadState, BadMode, BadRule}
use Rattle.state_bytes.specs.Bytes.{is_state, state_of, memory_in, card_in, flag_of}
use Rattle.record_files.proofs.Tests.{either_eq}
use Rattle.state_bytes.proofs.States.{short_memory, long_memory}
use Rattle.state_bytes.proofs.Cards.{flag_back, laid_is}
use Rattle.terms.specs.declared.EventKind.{EventKind}
use Rattle.state_bytes.specs.Calls.{Signal, settings_of, signal_by, unsent, signal_under, signal_of, answer_to_kind, answered_by}
use Rattle.pundaliket.specs.Calls.{sent_of}
use Rattle.state_bytes.proofs.Calling.{event_chosen}
use Rattle.promises.proofs.Measures.{theirs_state, no_state_is}
use Rattle.promises.specs.Given.{Given, Chosen, settings_in, event_call}
use Rattle.promises.specs.Host.{number, outward, inward}
use Rattle.promises.specs.Remembered.{Remembers}
use Rattle.promises.specs.SmallCalls.{signalled, Tail, none as no-tail, two, Parts, EventCallUnder, EventCall, ConversionCall, ConversionCalls}
use Rattle.promises.proofs.Fronts.{unnamed}

-- ---- turned away
bad_state_lem : (on : Settings) (state : List ℕ) (kind byte : ℕ) → is_state state ≡ false → signal_under on state kind byte ≡ signalled 3328 state
bad_state_lem on state kind byte h = rw h

bad_kind : (on : Settings) (state : List ℕ) (kind byte : ℕ) → is_state state ≡ true → (kind ≡ 0) ⊎ (8 < kind) → signal_under on state kind byte ≡ signalled 1280
    state
bad_kind on state kind byte g h = rw (g, unnamed kind h)

-- neither a push nor a command
same_byte : (c : Card) (byte other kind : ℕ) → (kind ≡ 1 → ⊥) → (kind ≡ 3 → ⊥) → answer_to_kind c kind byte ≡ answer_to_kind c kind other
same_byte c byte other kind a b =
    either_eq T kind 1 _ _ (λ e. absurd (a e)) (λ i.
    either_eq T kind 2 _ _ (λ e. refl) (λ j.
    either_eq T kind 3 _ _ (λ e. absurd (b e)) (λ k.
    either_eq T kind 4 _ _ (λ e. refl) (λ l.
    either_eq T kind 5 _ _ (λ e. refl) (λ m.
    either_eq T kind 6 _ _ (λ e. refl) (λ n.
    either_eq T kind 7 _ _ (λ e. refl) (λ o.
    either_eq T kind 8 _ _ (λ e. refl) (λ p. refl))))))))
  where
    T : EventKind → Type 0
    T k = answered_by c byte k ≡ answered_by c other k

byte_ignored : (g : Given) (state : List ℕ) (kind byte other : ℕ) → (kind ≡ 1 → ⊥) → (kind ≡ 3 → ⊥) → event_call g state kind byte ≡ event_call g state kind other
unfolding signal_of
byte_ignored g state kind byte other a b =
    ap (λ (x : CardAnswer). cond (is_mode g.mode) (cond (is_rule g.rule) (cond (is_state state) (signal_by state x) (unsent BadState state))
    (unsent BadRule state)) (unsent BadMode state))
    (same_byte (card_in (settings_of g.mode g.rule) state) byte other kind a b)

-- ---- done
-- a flag turned is 1 less its byte
flag_turned : (x : ℕ) → x ≤ 1 → flag_of (not (eqb x 1)) ≡ 1 - x
flag_turned x h = by (eqb x 1) refl
  where
    by : (b : Bool) → eqb x 1 ≡ b → flag_of (not b) ≡ 1 - x
    by true e = let i = eqb-true x 1 e in omega arith
    by false e = let n = eqb-false x 1 e in omega arith

abbrev laid : List ℕ → ℕ → ℕ → ℕ → List ℕ → List ℕ
laid l p u v t = l ++ (p ∷ u ∷ v ∷ t)

abbrev stood : List ℕ → ℕ → ℕ → ℕ → State
stood l p u v = record { stack = l; pending = eqb p 1; status = u; service = eqb v 1 }

-- the memory that the bytes behind are
abbrev behind_is : List ℕ → Memory
behind_is t = record { bits = get_or t 0 0; code = get_or t 1 0 }

-- how many they are
tail_size : (t : List ℕ) → Tail t → (length t ≡ 0) ⊎ (length t ≡ 2)
tail_size [] no-tail = inl refl
tail_size (b ∷ []) T = elim T [ ]
tail_size (b ∷ k ∷ []) (two bits code h) = inr refl
tail_size (b ∷ (k ∷ (_ ∷ _))) T = elim T [ ]

tail_remembers : (t : List ℕ) → Tail t → length t ≡ 2 → Remembers (get_or t 0 0) (get_or t 1 0)
tail_remembers [] no-tail n = absurd (let y : ⊥ = omega arith in y)
tail_remembers (b ∷ []) T n = elim T [ ]
tail_remembers (b ∷ k ∷ []) (two bits code h) n = h
tail_remembers (b ∷ (k ∷ (_ ∷ _))) T n = elim T [ ]

module _ (l : List ℕ) (p u v : ℕ) (t : List ℕ) (P : Parts l p u v t) where
  at : (i : ℕ) → get_or (laid l p u v t) (16 + i) 0 ≡ get_or (p ∷ u ∷ v ∷ t) i 0
  at i = ap (λ (n : ℕ). get_or (laid l p u v t) (n + i) 0) (sym P.sixteen) ∙ get_or-append-add l (p ∷ u ∷ v ∷ t) i 0

  size : length (laid l p u v t) ≡ 19 + length t
  size = let n = P.sixteen in length-append l (p ∷ u ∷ v ∷ t) ∙ omega arith

  stands : is_state (laid l p u v t) ≡ true
  stands =
      theirs_state (record {
        size = ⊎_elim (λ z. inl (omega (arith, size, z))) (λ z. inr (omega (arith, size, z))) (tail_size t P.tail);
        pending = rw (at 0) P.pending;
        ready = rw (at 1) P.ready;
        service = rw (at 2) P.service;
        memory = λ m. rw (at 3, at 4) (tail_remembers t P.tail (omega (arith, size, m)));
      })

  memory_read : memory_in (laid l p u v t) ≡ behind_is t
  memory_read =
      ⊎_elim
      (λ z. short_memory (laid l p u v t) (omega (arith, size, z)) ∙ none_there t z)
      (λ z. long_memory (laid l p u v t) (omega (arith, size, z)) ∙ (λ i. record { bits = at 3 i; code = at 4 i }))
      (tail_size t P.tail)
    where
      none_there : (k : List ℕ) → length k ≡ 0 → empty_memory ≡ behind_is k
      none_there [] z = refl
      none_there (x ∷ k) z = absurd (let y : ⊥ = omega arith in y)

  reads : (on : Settings) → card_in on (laid l p u v t) ≡ card_with on (stood l p u v) (behind_is t)
  reads on =
      let chip : state_of (laid l p u v t) ≡ stood l p u v = λ i. record {
        stack = take_at l (p ∷ u ∷ v ∷ t) 16 P.sixteen i;
        pending = eqb (at 0 i) 1;
        status = at 1 i;
        service = eqb (at 2 i) 1;
      } in
      ap₂ (card_with on) chip memory_read

  -- the bytes written behind the flags, of a memory that stays and of one that is emptied
  tail_back : cond (eqb (length (laid l p u v t)) 19) [] (get_or t 0 0 ∷ get_or t 1 0 ∷ []) ≡ t
  tail_back = rw size (by t P.tail)
    where
      by : (k : List ℕ) → Tail k → cond (eqb (19 + length k) 19) [] (get_or k 0 0 ∷ get_or k 1 0 ∷ []) ≡ k
      by [] no-tail = refl
      by (b ∷ []) T = elim T [ ]
      by (b ∷ k ∷ []) (two bits code h) = refl
      by (b ∷ (k ∷ (_ ∷ _))) T = elim T [ ]

  tail_gone : cond (eqb (length (laid l p u v t)) 19) [] (0 ∷ 0 ∷ []) ≡ zeros (length t)
  tail_gone = rw size (by t P.tail)
    where
      by : (k : List ℕ) → Tail k → cond (eqb (19 + length k) 19) [] (0 ∷ 0 ∷ []) ≡ zeros (length k)
      by [] no-tail = refl
      by (b ∷ []) T = elim T [ ]
      by (b ∷ k ∷ []) (two bits code h) = refl
      by (b ∷ (k ∷ (_ ∷ _))) T = elim T [ ]

  -- an event that is done
  signals : (on : Settings) (kind byte b : ℕ) (s : State) (m : Memory) {after : List ℕ} → answer_to_kind (card_with on (stood l p u v) (behind_is t)) kind
      byte ≡ record { refusal = Done; byte = b; card = card_with on s m }
      → cond (eqb (length (laid l p u v t)) 19) [] (m.bits ∷ m.code ∷ []) ≡ after
      → signal_under on (laid l p u v t) kind byte ≡ signalled b (s.stack ++ (flag_of s.pending ∷ s.status ∷ flag_of s.service ∷ after))
  signals on kind byte b s m e a =
      ap (λ (x : Bool). cond x (signal_by state (answer_to_kind (card_in on state) kind byte)) (signalled 3328 state)) stands
      ∙ ap (λ (c : Card). signal_by state (answer_to_kind c kind byte)) (reads on)
      ∙ ap (signal_by state) e
      ∙ ap₂ signalled same (laid_is (length (laid l p u v t)) (card_with on s m) ∙ ap (λ (k : List ℕ). s.stack
      ++ (flag_of s.pending ∷ s.status ∷ flag_of s.service ∷ k)) a)
    where
      state : List ℕ
      state = laid l p u v t

      same : 256 * 0 + b ≡ b
      same = omega arith

  ready : leb 128 u ≡ false
  ready = lt-leb 128 u P.ready

  pushes : (b : ℕ) → push_of (stood l p u v) b ≡ done 0 (record { stack = b ∷ take 15 l; pending = not (eqb p 1); status = u; service = eqb v 1 })
  unfolding push_of
  pushes b = rw ready

  statuses : read_of (stood l p u v) ≡ done u (stood l p u v)
  unfolding read_of
  statuses = rw ready

  resets : (mode : Mode) → reset_of mode (stood l p u v) ≡ done 0 (after_reset mode (stood l p u v))
  unfolding reset_of
  resets mode = rw ready

  acknowledges : acknowledge_of (stood l p u v) ≡ done 0 (record { stack = l; pending = eqb p 1; status = u; service = false })
  unfolding acknowledge_of
  acknowledges = rw ready

  recalls : (on : Settings) → answer_to_kind (card_with on (stood l p u v) (behind_is t)) 7 0 ≡ record {
    refusal = Done;
    byte = get_or t 0 0;
    card = card_with on
        (stood l p u v) (behind_is t);
  }
  recalls on = rw ready

  forgets : (on : Settings) → answer_to_kind (card_with on (stood l p u v) (behind_is t)) 8 0 ≡ record {
    refusal = Done;
    byte = 0;
    card = card_with on
        (stood l p u v) empty_memory;
  }
  forgets on = rw ready

  -- the bytes behind a stack whose flag pending is turned, and as it was
  turned : (k : List ℕ) → k ++ (flag_of (not (eqb p 1)) ∷ u ∷ flag_of (eqb v 1) ∷ t) ≡ laid k (1 - p) u v t
  turned k = ap₂ (λ (x y : ℕ). k ++ (x ∷ u ∷ y ∷ t)) (flag_turned p P.pending) (flag_back v P.service)

  back : (k w : List ℕ) → k ++ (flag_of (eqb p 1) ∷ u ∷ flag_of (eqb v 1) ∷ w) ≡ laid k p u v w
  back k w = ap₂ (λ (x y : ℕ). k ++ (x ∷ u ∷ y ∷ w)) (flag_back p P.pending) (flag_back v P.service)

pops : (b : ℕ) (l : List ℕ) (p u v : ℕ) → u < 128 → pop_of (stood (b ∷ l) p u v) ≡ done b (record {
  stack = l ++ (b ∷ []);
  pending = not (eqb p 1);
  status = u;
  service = eqb v 1;
})
unfolding pop_of
pops b l p u v h = rw (lt-leb 128 u h)

-- what a reset leaves of the bytes, whichever part's it is
reset_signals : (mode : Mode) (rule : Rule) (byte : ℕ) (l : List ℕ) (p u v : ℕ) (t : List ℕ) → Parts l p u v t
    → signal_under (given mode rule) (laid l p u v t) 5 byte ≡ signalled 0 ((after_reset mode (stood l p u v)).stack ++ (0 ∷ 0 ∷ 0 ∷ zeros (length t)))
reset_signals Am9511A rule byte l p u v t P =
    signals l p u v t P (given Am9511A rule) 5 byte 0 _ empty_memory (ap (answer_with (given Am9511A rule) (behind_is t) Reset) (resets l p u v t P Am9511A))
    (tail_gone l p u v t P)
reset_signals Am9511 rule byte l p u v t P =
    signals l p u v t P (given Am9511 rule) 5 byte 0 _ empty_memory (ap (answer_with (given Am9511 rule) (behind_is t) Reset) (resets l p u v t P Am9511))
    (tail_gone l p u v t P)

-- the mode of a number that is known
mode_is : (g : Given) (n : ℕ) → g.mode ≡ n → settings_in g ≡ given (mode_of n) (rule_of g.rule)
mode_is g n e = ap (λ (m : ℕ). given (mode_of m) (rule_of g.rule)) e

module _ (g : Given) (C : Chosen g) where
  -- the settings, and the call under them
  abbrev set : Settings
  set = settings_in g

  chosen : (state : List ℕ) (kind byte : ℕ) {x : Signal} → signal_under set state kind byte ≡ x → event_call g state kind byte ≡ x
  chosen state kind byte e = event_chosen g.mode g.rule state kind byte C.mode C.rule ∙ e

  reset_told : (n : ℕ) → g.mode ≡ n → (byte : ℕ) (l : List ℕ) (p u v : ℕ) (t : List ℕ) → Parts l p u v t
      → event_call g (laid l p u v t) 5 byte ≡ signalled 0 ((after_reset (mode_of n) (stood l p u v)).stack ++ (0 ∷ 0 ∷ 0 ∷ zeros (length t)))
  reset_told n m byte l p u v t P =
      chosen (laid l p u v t) 5 byte (ap (λ (on : Settings). signal_under on (laid l p u v t) 5 byte) (mode_is g n m)
      ∙ reset_signals (mode_of n) (rule_of g.rule) byte l p u v t P)

  event_under : EventCallUnder g
  event_under = record {
    bad_state_lem = λ state kind byte h. chosen state kind byte (bad_state_lem set state kind byte (no_state_is state h));
    bad_kind = λ state kind byte i h. chosen state kind byte (bad_kind set state kind byte (theirs_state i) h);
    byte_ignored = λ state kind byte other a b. byte_ignored g state kind byte other a b;
    push_call = λ b l p u v t P.
        chosen (laid l p u v t) 1 b (signals l p u v t P set 1 b 0 _ (behind_is t)
        (ap (card_answer set (behind_is t)) (pushes l p u v t P b)) (tail_back l p u v t P))
        ∙ ap (signalled 0) (turned l p u v t P (b ∷ take 15 l));
    pop_call = λ b byte l p u v t P.
        chosen (laid (b ∷ l) p u v t) 2 byte (signals (b ∷ l) p u v t P set 2 byte b _ (behind_is t)
        (ap (card_answer set (behind_is t)) (pops b l p u v P.ready))
        (tail_back (b ∷ l) p u v t P)) ∙ ap (signalled b) (turned (b ∷ l) p u v t P (l ++ (b ∷ [])));
    status_call = λ byte l p u v t P.
        chosen (laid l p u v t) 4 byte (signals l p u v t P set 4 byte u _ (behind_is t) (ap (card_answer set (behind_is t)) (statuses l p u v t P))
        (tail_back l p u v t P)) ∙ ap (signalled u) (back l p u v t P l t);
    reset_call = λ m byte l p u v t P. reset_told 0 m byte l p u v t P;
    older_reset_call = λ m byte l u v t P. reset_told 1 m byte l 0 u v t P;
    realigned_call = λ m b byte l u v t P.
        let n = P.sixteen in
        reset_told 1 m byte (b ∷ l) 1 u v t P ∙ ap (λ (k : List ℕ). signalled 0 ((k ++ (0 ∷ 0 ∷ [])) ++ (0 ∷ 0 ∷ 0 ∷ zeros (length t))))
        (take-append-le 14 l (b ∷ []) (omega arith));
    acknowledge_call = λ byte l p u v t P.
        chosen (laid l p u v t) 6 byte (signals l p u v t P set 6 byte 0 _ (behind_is t) (ap (card_answer set (behind_is t)) (acknowledges l p u v t P))
        (tail_back l p u v t P)) ∙ ap (λ (x : ℕ). signalled 0 (l ++ (x ∷ u ∷ 0 ∷ t))) (flag_back p P.pending);
    recall_call = λ byte l p u v t P.
        chosen (laid l p u v t) 7 byte (signals l p u v t P set 7 byte (get_or t 0 0) _ (behind_is t) (recalls l p u v t P set) (tail_back l p u v t P))
        ∙ ap (signalled (get_or t 0 0)) (back l p u v t P l t);
    forget_call = λ byte l p u v t P.
        chosen (laid l p u v t) 8 byte (signals l p u v t P set 8 byte 0 _ empty_memory (forgets l p u v t P set) (tail_gone l p u v t P))
        ∙ ap (signalled 0) (back l p u v t P l (zeros (length t)));
  }

pub event_call_lem : EventCall
event_call_lem = event_under

-- ---- conversions
module _ (reply : Reply) where
  converts : ConversionCall reply
  unfolding sent_of
  converts = record {
    other_length = λ out h. rw (ne_eqb (length out) 4 h);
    refused = λ out n h. rw (eq-eqb (length out) 4 n, ne_eqb (number reply) 0 h);
    done = λ out n h. rw (eq-eqb (length out) 4 n, h);
  }

pub conversion_calls : ConversionCalls
conversion_calls = record { word_to_f32 = λ word. converts (outward word); f32_to_word = λ bits. converts (inward bits) }
