-- The statements on f64s: what is answered is right for the value, of right answers there is one, and a buffer is its entries in turn, so that each number and
-- each byte is as it is due; a word's f64 is answered with the word, so a buffer comes back. Assumes nothing.
use mathlib.Core.Path.{◌≡◌, refl, sym, ap, ap₂, ◌∙◌, subst}
use mathlib.Core.Logic.{◌⊎◌, inl, inr, ⊎_elim}
use mathlib.Core.Bool.{Bool, true, false, cond}
use mathlib.Core.List.{List, [], ◌++◌, append-nil}
use Prim.Native.Nat.{ℕ, zero, suc, ◌+◌, ◌-◌, ◌*◌, ◌/◌, ◌%◌, ◌^◌, ◌≤◌, ◌<◌}
use native.Mathlib.Omega.{arith}
use lib.Dec.{eqb, ltb, lit<}
use lib.ListN.{length, take, drop, get_or, length-append, length-drop}
use lib.Seq.{take_at, drop_at}
use borrow.Author.Tests.{le-leb, lt-leb, eqb-true, eqb-false}
use lib.Ieee.{Float, binary64, of_bits, to_bits}
use lib.Ieee.Bits.{of_bits-fits, of_bits-to_bits, to_bits-of_bits, to_bits-lt}
use lib.Ieee.Exact.{HasValue}
use Rattle.numbers.proofs.Differences.{either}
use Rattle.terms.specs.declared.Rule.{Rule}
use Rattle.terms.specs.Settings.{is_rule, rule_of}
use Rattle.numbers.specs.Little.{le4, le8, four_at, eight_at}
use Rattle.numbers.proofs.Exact.{four_back, eight_back, le4_of, le8_of, four_lt, eight_lt}
use Rattle.stack.specs.Stack.{Bytes}
use Rattle.stack.proofs.Words.{byte_at}
use Rattle.float.specs.Word.{negative, proper, size88}
use Rattle.promises.specs.FloatWords.{FloatWord}
use Rattle.promises.specs.HostFloats.{HasWord, Endless, IsMinusZero, Small, BroughtTo, LargeBy}
use Rattle.host_floats.specs.Double.{double_field, double_bits, brought_of, outward_of, inward_of}
use Rattle.host_floats.specs.declared.entry.Outward.{Outward}
use Rattle.host_floats.specs.declared.entry.Outward.TheVariants.{Float as Floats, Refused as Stays}
use Rattle.host_floats.specs.declared.entry.Inward.{Inward}
use Rattle.host_floats.specs.declared.entry.Inward.TheVariants.{Exact, Rounded, Refused}
use Rattle.promises.proofs.host_floats.Apart.{held_endless, held_small, endless_minus, endless_small, minus_small}
use Rattle.host_floats.proofs.DoubleOut.{double_value_lem, goes_out, stays_in, no_nan_out}
use Rattle.promises.proofs.host_floats.Brought.{held_large_by, endless_large_by, minus_large_by, small_large_by, Right, exact, rounded, endless, minus}
use Rattle.promises.proofs.host_floats.Brought.{small, large}
use Rattle.promises.proofs.host_floats.Brought.{right}
use Rattle.promises.proofs.host_floats.DoubleBack.{brought_once, answers_exact, answers_rounded, answers_endless, answers_minus, answers_small}
use Rattle.promises.proofs.host_floats.DoubleBack.{answers_large}
use Rattle.promises.proofs.host_floats.DoubleBack.{double_back, exact_bits}
use Rattle.host_floats.specs.declared.buffer.Entry.{Entry}
use Rattle.host_floats.specs.declared.buffer.BufferReply.{BufferReply}
use Rattle.host_floats.specs.Buffers.{outward_entry, inward_entry, word_entry, float_entry, float_entries, reply_to, Turn, words_turn, floats_turn, Turns}
use Rattle.host_floats.proofs.Writing.{first_bytes, first_length}
use Rattle.host_floats.proofs.Answers.{part_words, no_room_words, bad_word, words_written, no_rule, part_floats, no_room_floats, bad_float, floats_written}
use Rattle.promises.proofs.host_floats.Blocks.{block, whole}
use Rattle.promises.proofs.host_floats.Found.{rounded_below, Taken, reply_bad, reply_done, First, all_or_first, none_rounded, rounded_none}
use Rattle.promises.specs.Doubles.{carried_bits, outward, inward, OutwardExact, InwardAnswered, BroughtOnce, float_in, word_bytes, float_bytes, turned}
use Rattle.promises.specs.Doubles.{WordsCall, Names, cut, nearest, is_rounded, how_many, FloatsCall, BufferCalls, BuffersKept, WordsBack, FloatsBack}
use Rattle.promises.specs.Doubles.{WordsToF64Determined, F64ToWordsDetermined}

-- ---- one entry, outward
-- the bits of a word's f64 stand for that f64
again : (w : ℕ) → proper w ≡ true → of_bits binary64 (double_bits w) ≡ of_bits binary64 (outward w).bits
again w e =
    sym (of_bits-to_bits binary64 (of_bits binary64 (double_bits w)) (of_bits-fits binary64 (double_bits w)))
    ∙ ap (λ (o : Outward). of_bits binary64 (outward_entry o).bits) (sym (goes_out w e))

pub outward_exact : OutwardExact
unfolding size88
outward_exact w l = (
  λ e. (
    ap (λ (o : Outward). (outward_entry o).refusal) (goes_out w e),
    subst (λ (x : Float). HasValue x (negative w) (size88 w) (2 ^ 88)) (again w e)
        (double_value_lem w e),
  ),
  λ e. ap (λ (o : Outward). (outward_entry o).refusal) (stays_in w e),
)

-- ---- one entry, inward
abbrev number_in : Inward → ℕ
number_in r = (inward_entry r).refusal

-- why an answer to x has a number that is not 0
abbrev Because : Rule → Float → ℕ → Type 0
Because rule x n =
    cond (eqb n 10) (Endless x)
    (cond (eqb n 15) (IsMinusZero x)
    (cond (eqb n 12) (Small x)
    (cond (eqb n 11) (LargeBy rule x) (n ≡ 0))))

module _ (rule : Rule) (x : Float) (r : Inward) where
  because : Right rule x r → Because rule x (number_in r)
  because (exact w e b n) = subst (Because rule x) (sym (ap number_in e)) refl
  because (rounded w y e b o n t) = subst (Because rule x) (sym (ap number_in e)) refl
  because (endless e b) = subst (Because rule x) (sym (ap number_in e)) b
  because (minus e b) = subst (Because rule x) (sym (ap number_in e)) b
  because (small e b) = subst (Because rule x) (sym (ap number_in e)) b
  because (large e b) = subst (Because rule x) (sym (ap number_in e)) b

  answered : Right rule x r → (n : ℕ) → number_in r ≡ n → (n ≡ 0) ⊎ (n ≡ 10) ⊎ (n ≡ 15) ⊎ (n ≡ 12) ⊎ (n ≡ 11)
  answered (exact w e b k) n q = inl (sym q ∙ ap number_in e)
  answered (rounded w y e b o k t) n q = inl (sym q ∙ ap number_in e)
  answered (endless e b) n q = inr (inl (sym q ∙ ap number_in e))
  answered (minus e b) n q = inr (inr (inl (sym q ∙ ap number_in e)))
  answered (small e b) n q = inr (inr (inr (inl (sym q ∙ ap number_in e))))
  answered (large e b) n q = inr (inr (inr (inr (sym q ∙ ap number_in e))))

  was_exact : (w : ℕ) → r ≡ Exact w → Right rule x r → HasWord x w × (IsMinusZero x → ⊥)
  was_exact w q (exact v e b k) = let f : v ≡ w = (cc) in (subst (HasWord x) f b, k)
  was_exact w q (rounded v y e b o k t) = let z : ◌≡◌ {A = ℕ} 0 1 = (cc) in absurd (omega arith)
  was_exact w q (endless e b) = let z : ◌≡◌ {A = ℕ} 0 1 = (cc) in absurd (omega arith)
  was_exact w q (minus e b) = let z : ◌≡◌ {A = ℕ} 0 1 = (cc) in absurd (omega arith)
  was_exact w q (small e b) = let z : ◌≡◌ {A = ℕ} 0 1 = (cc) in absurd (omega arith)
  was_exact w q (large e b) = let z : ◌≡◌ {A = ℕ} 0 1 = (cc) in absurd (omega arith)

  was_rounded : (w : ℕ) (y : Float) → r ≡ Rounded w y → Right rule x r → BroughtTo rule x w × ((v : ℕ) → HasWord x v → ⊥) × (Small x → ⊥) × HasWord y w
  was_rounded w y q (exact v e b k) = let z : ◌≡◌ {A = ℕ} 0 1 = (cc) in absurd (omega arith)
  was_rounded w y q (rounded v u e b o k t) =
      let f : v ≡ w = (cc) in
      let g : u ≡ y = (cc) in
      (subst (BroughtTo rule x) f b, k, t, subst (λ (z : Float). HasWord z w) g (subst (HasWord u) f o))
  was_rounded w y q (endless e b) = let z : ◌≡◌ {A = ℕ} 0 1 = (cc) in absurd (omega arith)
  was_rounded w y q (minus e b) = let z : ◌≡◌ {A = ℕ} 0 1 = (cc) in absurd (omega arith)
  was_rounded w y q (small e b) = let z : ◌≡◌ {A = ℕ} 0 1 = (cc) in absurd (omega arith)
  was_rounded w y q (large e b) = let z : ◌≡◌ {A = ℕ} 0 1 = (cc) in absurd (omega arith)

-- the f64 that is carried is the word's own
abbrev OwnFloat : Inward → Type 0
OwnFloat (Exact w) = Unit
OwnFloat (Rounded w y) = y ≡ of_bits binary64 (double_bits w)
OwnFloat (Refused r) = Unit

own : (rule : Rule) (p : ℕ) → OwnFloat (inward_of rule p)
unfolding inward_of
own rule p =
    pick (eqb (double_field p) 2047) _ _ tt (pick (eqb p (2 ^ 63)) _ _ tt (pick (eqb p 0) _ _ tt (pick (ltb (double_field p) (1023 - 65)) _ _ tt
    (pick (eqb (brought_of rule p).error 0) _ _ (pick (eqb (double_bits (brought_of rule p).word) p) _ _ tt refl) tt))))
  where
    pick : (b : Bool) (x y : Inward) → OwnFloat x → OwnFloat y → OwnFloat (cond b x y)
    pick true x y f g = f
    pick false x y f g = g

pub inward_answered : InwardAnswered
inward_answered rule p l =
    let x = of_bits binary64 p in
    let r = inward_of rule p in
    let h = right rule p l in
    let why = because rule x r h in
    record {
      exact = λ w. (λ e. let a = was_exact rule x r w e h in (a.0, a.1), λ a. answers_exact rule x r w a.0 a.1 h);
      rounded = λ w. (
        λ e. let a = was_rounded rule x r w e.0 e.1 h in (a.0, a.1, a.2),
        λ a. answers_rounded rule x r w a.0 a.1 a.2 h,
      );
      carried = λ w y e. (was_rounded rule x r w y e h).3;
      carried_bits_lem = λ w y e.
          ap carried_bits e ∙ ap (to_bits binary64) (subst OwnFloat e (own rule p))
          ∙ sym (ap (λ (o : Outward). (outward_entry o).bits) (goes_out w (was_rounded rule x r w y e h).3.word.is_proper));
      answered = answered rule x r h;
      ten = (λ d. subst (Because rule x) d why, λ a. ap number_in (answers_endless rule x r a h));
      fifteen = (λ d. subst (Because rule x) d why, λ a. ap number_in (answers_minus rule x r a h));
      twelve = (λ d. subst (Because rule x) d why, λ a. ap number_in (answers_small rule x r a h));
      eleven = (λ d. subst (Because rule x) d why, λ a. ap number_in (answers_large rule x r a h));
      apart = record {
        endless_minus = endless_minus x;
        endless_small = endless_small x;
        endless_large = endless_large_by rule x;
        minus_small = minus_small x;
        minus_large = minus_large_by rule x;
        small_large = small_large_by rule x;
        with_word = λ w a. (held_endless x w a, held_small x w a, held_large_by rule x w a);
      };
    }

pub brought_to_one : BroughtOnce
brought_to_one rule x w v a b = brought_once rule x w v a b

-- ---- the calls
as_turned : {t : Turn} {result number : ℕ} {out : List ℕ} → Turns t result number out → t ≡ turned result number out
as_turned h = λ i. turned (sym h.result_is i) (sym h.number_is i) (sym h.out_is i)

-- the definition's bytes are the literal ones
le8_is : (p : ℕ) → le8 p ≡ float_bytes p
le8_is p =
    let a : p / 4294967296 / 256 ≡ p / 1099511627776 = omega arith in
    let b : p / 4294967296 / 65536 ≡ p / 281474976710656 = omega arith in
    let c : p / 4294967296 / 16777216 ≡ p / 72057594037927936 = omega arith in
    rw (a, b, c)

-- and so are the definition's f64s
float_in_lem : (l : List ℕ) (i : ℕ) → eight_at l (i * 8) ≡ float_in l i
float_in_lem l i =
    let at : (a b : ℕ) → a ≡ b → get_or l a 0 ≡ get_or l b 0 = λ a b e. ap (λ (k : ℕ). get_or l k 0) e in
    let a = at (i * 8 + 4 + 1) (i * 8 + 5) (omega arith) in
    let b = at (i * 8 + 4 + 2) (i * 8 + 6) (omega arith) in
    let c = at (i * 8 + 4 + 3) (i * 8 + 7) (omega arith) in
    rw (a, b, c) (omega arith)

-- what lies past the entries, and the length
module _ (c : ℕ) (le : ℕ → List ℕ) (size : (x : ℕ) → length (le x) ≡ c) (f : ℕ → Entry) (n m : ℕ) (out : List ℕ) (e : n * c ≡ m) (room : m ≤ length out) where
  past : drop m (first_bytes le f n ++ drop m out) ≡ drop m out
  past = drop_at (first_bytes le f n) (drop m out) m (first_length c le size f n ∙ e)

  front : take m (first_bytes le f n ++ drop m out) ≡ first_bytes le f n
  front = take_at (first_bytes le f n) (drop m out) m (first_length c le size f n ∙ e)

  long : length (first_bytes le f n ++ drop m out) ≡ length out
  long = length-append (first_bytes le f n) (drop m out) ∙ omega (arith, first_length c le size f n, length-drop m out)

-- ---- words to f64s
never_rounded : (f : ℕ → Outward) (n : ℕ) → rounded_below (λ (i : ℕ). outward_entry (f i)) n ≡ 0
unfolding rounded_below
never_rounded f zero = refl
never_rounded f (suc n) = ap₂ ◌+◌ (never_rounded f n) (one (f n))
  where
    one : (o : Outward) → (outward_entry o).rounded ≡ 0
    one (Floats x) = refl
    one (Stays r) = refl

module _ (words out : List ℕ) where
  words_part : (length words % 4 ≡ 0 → ⊥) → words_turn words out ≡ turned 18 0 out
  words_part h = as_turned (part_words words out (record { refusal = 18; number = 0 }) h refl)

  words_room : length words % 4 ≡ 0 → length out < 2 * length words → words_turn words out ≡ turned 8 0 out
  words_room w h = as_turned (no_room_words words out (record { refusal = 8; number = 0 }) w (omega arith) refl)

  module _ (w : length words % 4 ≡ 0) (h : 2 * length words ≤ length out) where
    double : length words / 4 * 8 ≡ 2 * length words
    double = omega arith

    words_first : (b : First (word_entry words) (length words / 4)) → words_turn words out ≡ turned (word_entry words b.i).refusal (b.i + 1) out
    words_first b =
        as_turned
        (bad_word words out (record { refusal = (word_entry words b.i).refusal; number = b.i + 1 }) w (omega arith)
        (reply_bad (word_entry words) (length words / 4) b.i b.within b.before b.refused) b.refused)

    words_all : Taken (word_entry words) (length words / 4)
        → words_turn words out ≡ turned 0 0 (first_bytes le8 (word_entry words) (length words / 4) ++ drop (2 * length words) out)
    words_all t =
        as_turned
        (words_written words out (record { refusal = 0; number = 0 }) w (omega arith)
        (ap (λ (k : ℕ). record { refusal = 0; number = k }) (sym (never_rounded (λ (i : ℕ). outward_of (four_at words (i * 4))) (length words / 4)))
        ∙ reply_done (word_entry words) (length words / 4) t)
        (first_bytes le8 (word_entry words) (length words / 4) ++ drop (2 * length words) out)
        refl
        (ap (λ (k : ℕ). first_bytes le8 (word_entry words) (length words / 4) ++ drop k out) (sym double)))

  words_call : WordsCall words out
  words_call = record {
    part = words_part;
    room = words_room;
    bad = λ w h i g t b. words_first w h (record { i = i; within = g; before = t; refused = b });
    done = λ w h t.
        let e = words_all w h t in
        let f = word_entry words in
        let n = length words / 4 in
        let d = double w h in (
          ap (λ (u : Turn). u.result) e,
          ap (λ (u : Turn). u.number) e,
          λ i g. ap (λ (u : Turn). take 8 (drop (i * 8) u.out)) e ∙ block 8 le8 (λ x. refl) f n i (drop (2 * length words) out) g ∙ le8_is (f i).bits,
          ap (λ (u : Turn). drop (2 * length words) u.out) e ∙ past 8 le8 (λ x. refl) f n (2 * length words) out d h,
          ap (λ (u : Turn). length u.out) e ∙ long 8 le8 (λ x. refl) f n (2 * length words) out d h,
        );
  }

-- ---- f64s to words
abbrev Named : ℕ → Rule → Type 0
Named rule how = (rule < 2) × (rule_of rule ≡ how)

named : {rule : ℕ} {how : Rule} → Names rule how → Named rule how
named cut = (lit< tt, refl)
named nearest = (lit< tt, refl)

is_rule_lem : {rule : ℕ} → rule < 2 → is_rule rule ≡ true
is_rule_lem {rule} h = le-leb rule 1 (omega arith)

how_many_lem : (how : Rule) (floats : List ℕ) (n : ℕ) → rounded_below (float_entry how floats) n ≡ how_many (λ (j : ℕ). inward_of how (float_in floats j)) n
unfolding rounded_below how_many
how_many_lem how floats zero = refl
how_many_lem how floats (suc n) = ap₂ ◌+◌ (how_many_lem how floats n) (one (inward_of how (eight_at floats (n * 8))) ∙ ap (λ (p : ℕ). is_rounded (inward_of how p))
    (float_in_lem floats n))
  where
    one : (r : Inward) → (inward_entry r).rounded ≡ is_rounded r
    one (Exact v) = refl
    one (Rounded v y) = refl
    one (Refused r) = refl

module _ (rule : ℕ) (floats out : List ℕ) where
  floats_rule : 2 ≤ rule → floats_turn rule floats out ≡ turned 17 0 out
  floats_rule h = as_turned (no_rule rule floats out (record { refusal = 17; number = 0 }) (lt-leb rule 1 (omega arith)) refl)

  floats_part : rule < 2 → (length floats % 8 ≡ 0 → ⊥) → floats_turn rule floats out ≡ turned 18 0 out
  floats_part r h = as_turned (part_floats rule floats out (is_rule_lem r) (record { refusal = 18; number = 0 }) h refl)

  floats_room : rule < 2 → length floats % 8 ≡ 0 → length out < length floats / 2 → floats_turn rule floats out ≡ turned 8 0 out
  floats_room r w h = as_turned (no_room_floats rule floats out (is_rule_lem r) (record { refusal = 8; number = 0 }) w (omega arith) refl)

  module _ (how : Rule) (r : Named rule how) (w : length floats % 8 ≡ 0) (h : length floats / 2 ≤ length out) where
    half : length floats / 8 * 4 ≡ length floats / 2
    half = omega arith

    by_rule : (s : BufferReply) → s ≡ reply_to (float_entries how floats) → s ≡ reply_to (float_entries (rule_of rule) floats)
    by_rule s e = e ∙ ap (λ (q : Rule). reply_to (float_entries q floats)) (sym r.1)

    floats_first : (b : First (float_entry how floats) (length floats / 8)) → floats_turn rule floats out ≡ turned (float_entry how floats b.i).refusal
        (b.i + 1) out
    floats_first b =
        as_turned
        (bad_float rule floats out (is_rule_lem r.0) (record { refusal = (float_entry how floats b.i).refusal; number = b.i + 1 }) w (omega arith)
        (by_rule _ (reply_bad (float_entry how floats) (length floats / 8) b.i b.within b.before b.refused)) b.refused)

    floats_all : Taken (float_entry how floats) (length floats / 8)
        → floats_turn rule floats out
        ≡ turned 0 (rounded_below (float_entry how floats) (length floats / 8)) (first_bytes le4 (float_entry how floats) (length floats / 8)
        ++ drop (length floats / 2) out)
    floats_all t =
        as_turned
        (floats_written rule floats out (is_rule_lem r.0) (record { refusal = 0; number = rounded_below (float_entry how floats) (length floats / 8) }) w
        (omega arith)
        (by_rule _ (reply_done (float_entry how floats) (length floats / 8) t))
        (first_bytes le4 (float_entry how floats) (length floats / 8) ++ drop (length floats / 2) out)
        refl
        (ap₂ (λ (q : Rule) (k : ℕ). first_bytes le4 (float_entry q floats) (length floats / 8) ++ drop k out) (sym r.1) (sym half)))

-- the definition's entries are those of the literal f64s
entry_in : (how : Rule) (floats : List ℕ) (j : ℕ) → float_entry how floats j ≡ inward how (float_in floats j)
entry_in how floats j = ap (inward how) (float_in_lem floats j)

refusal_in : (how : Rule) (floats : List ℕ) (j : ℕ) → (float_entry how floats j).refusal ≡ (inward how (float_in floats j)).refusal
refusal_in how floats j = ap (λ (e : Entry). e.refusal) (entry_in how floats j)

floats_call : (floats out : List ℕ) → FloatsCall floats out
floats_call floats out = record {
  no_rule = λ rule. floats_rule rule floats out;
  part = λ rule. floats_part rule floats out;
  room = λ rule. floats_room rule floats out;
  bad = λ rule how q w h i g t b.
      floats_first rule floats out how (named q) w h (record {
        i = i;
        within = g;
        before = λ j l. refusal_in how floats j ∙ t j l;
        refused = λ z. b (sym (refusal_in how floats i) ∙ z);
      })
      ∙ ap (λ (e : Entry). turned e.refusal (i + 1) out) (entry_in how floats i);
  done = λ rule how q w h t.
      let f = float_entry how floats in
      let n = length floats / 8 in
      let m = length floats / 2 in
      let d = half rule floats out how (named q) w h in
      let e = floats_all rule floats out how (named q) w h (λ j l. refusal_in how floats j ∙ t j l) in (
        ap (λ (u : Turn). u.result) e,
        ap (λ (u : Turn). u.number) e ∙ how_many_lem how floats n,
        λ i g. ap (λ (u : Turn). take 4 (drop (i * 4) u.out)) e ∙ block 4 le4 (λ x. refl) f n i (drop m out) g ∙ ap (λ (y : Entry). word_bytes y.bits)
            (entry_in how floats i),
        ap (λ (u : Turn). drop m u.out) e ∙ past 4 le4 (λ x. refl) f n m out d h,
        ap (λ (u : Turn). length u.out) e ∙ long 4 le4 (λ x. refl) f n m out d h,
      );
}

pub buffer_calls : BufferCalls
buffer_calls = record { words_to_f64 = words_call; f64_to_words = floats_call }

-- ---- a call that returns 0 has passed every test
returned : {t : Turn} {result number : ℕ} {out : List ℕ} → t ≡ turned result number out → t.result ≡ 0 → result ≡ 0
returned e q = sym (ap (λ (t : Turn). t.result) e) ∙ q

equal_or_not : (a b : ℕ) → (a ≡ b) ⊎ (a ≡ b → ⊥)
equal_or_not a b = go (eqb a b) refl
  where
    go : (t : Bool) → eqb a b ≡ t → (a ≡ b) ⊎ (a ≡ b → ⊥)
    go true e = inl (eqb-true a b e)
    go false e = inr (eqb-false a b e)

record WordsTaken (words out : List ℕ) : Type 0 where
  entries : length words % 4 ≡ 0
  room : 2 * length words ≤ length out
  taken : Taken (word_entry words) (length words / 4)

words_taken_lem : (words out : List ℕ) → (words_turn words out).result ≡ 0 → WordsTaken words out
words_taken_lem words out e = record {
  entries = entries;
  room = room;
  taken = ⊎_elim (λ t. t) (λ b. absurd (first b)) (all_or_first (word_entry words)
      (length words / 4));
}
  where
    entries : length words % 4 ≡ 0
    entries = ⊎_elim (λ h. h) (λ h. let z = returned (words_part words out h) e in absurd (omega arith)) (equal_or_not (length words % 4) 0)

    room : 2 * length words ≤ length out
    room = ⊎_elim (λ h. let z = returned (words_room words out entries h) e in absurd (omega arith)) (λ h. h) (either (length out) (2 * length words))

    first : First (word_entry words) (length words / 4) → ⊥
    first b = b.refused (returned (words_first words out entries room b) e)

record FloatsTaken (rule : ℕ) (floats out : List ℕ) : Type 0 where
  good : rule < 2
  entries : length floats % 8 ≡ 0
  room : length floats / 2 ≤ length out
  taken : Taken (float_entry (rule_of rule) floats) (length floats / 8)

floats_taken : (rule : ℕ) (floats out : List ℕ) → (floats_turn rule floats out).result ≡ 0 → FloatsTaken rule floats out
floats_taken rule floats out e = record {
  good = good;
  entries = entries;
  room = room;
  taken = ⊎_elim (λ t. t) (λ b. absurd (first b)) (all_or_first (float_entry (rule_of rule) floats) (length floats / 8));
}
  where
    good : rule < 2
    good = ⊎_elim (λ h. h) (λ h. let z = returned (floats_rule rule floats out h) e in absurd (omega arith)) (either rule 2)

    entries : length floats % 8 ≡ 0
    entries = ⊎_elim (λ h. h) (λ h. let z = returned (floats_part rule floats out good h) e in absurd (omega arith)) (equal_or_not (length floats % 8) 0)

    room : length floats / 2 ≤ length out
    room = ⊎_elim (λ h. let z = returned (floats_room rule floats out good entries h) e in absurd (omega arith)) (λ h. h)
        (either (length out) (length floats / 2))

    first : First (float_entry (rule_of rule) floats) (length floats / 8) → ⊥
    first b = b.refused (returned (floats_first rule floats out (rule_of rule) (good, refl) entries room b) e)

-- ---- out and back
-- an entry of proper words
module _ (words : List ℕ) (b : Bytes words) where
  proper_at : (i : ℕ) → (word_entry words i).refusal ≡ 0 → FloatWord (four_at words (i * 4))
  proper_at i z = record { fits = four_lt words (i * 4) (byte_at words b); is_proper = go (proper (four_at words (i * 4))) refl }
    where
      go : (t : Bool) → proper (four_at words (i * 4)) ≡ t → proper (four_at words (i * 4)) ≡ true
      go true e = e
      go false e = let k = sym (ap (λ (o : Outward). (outward_entry o).refusal) (stays_in (four_at words (i * 4)) e)) ∙ z in absurd (omega arith)

-- the f64 of a proper word, by its bits
sent_bits : (w : ℕ) → FloatWord w → (outward w).bits ≡ to_bits binary64 (of_bits binary64 (double_bits w))
sent_bits w f = ap (λ (o : Outward). (outward_entry o).bits) (goes_out w f.is_proper)

sent_lt : (w : ℕ) → FloatWord w → (outward w).bits < 2 ^ 64
sent_lt w f = subst (λ (p : ℕ). p < 2 ^ 64) (sym (sent_bits w f)) (to_bits-lt binary64 (of_bits binary64 (double_bits w)) (of_bits-fits binary64 (double_bits w)))

sent_back : (how : Rule) (w : ℕ) → FloatWord w → inward how (outward w).bits ≡ record { refusal = 0; bits = w; rounded = 0 }
sent_back how w f = ap (λ (p : ℕ). inward how p) (sent_bits w f) ∙ ap inward_entry (double_back how w f)

-- a block of a buffer that is its entries' bytes
own_block : (c : ℕ) (le : ℕ → List ℕ) (size : (x : ℕ) → length (le x) ≡ c) (f : ℕ → Entry) (n i : ℕ) → i < n → take c (drop (i * c) (first_bytes le f n))
    ≡ le (f i).bits
own_block c le size f n i h = ap (λ (l : List ℕ). take c (drop (i * c) l)) (sym (append-nil (first_bytes le f n))) ∙ block c le size f n i [] h

pub words_come_back : WordsBack
words_come_back rule good words out back b e l = ap (λ (t : List ℕ). floats_turn rule t back) sent ∙ came
  where
    k : WordsTaken words out
    k = words_taken_lem words out e

    f : ℕ → Entry
    f = word_entry words

    n : ℕ
    n = length words / 4

    buffer : List ℕ
    buffer = first_bytes le8 f n

    how : Rule
    how = rule_of rule

    sent : take (2 * length words) (words_turn words out).out ≡ buffer
    sent = ap (λ (t : Turn). take (2 * length words) t.out) (words_all words out k.entries k.room k.taken) ∙ front 8 le8 (λ x. refl) f n
        (2 * length words) out (double words out k.entries k.room) k.room

    size : length buffer ≡ n * 8
    size = first_length 8 le8 (λ x. refl) f n

    same : (i : ℕ) → i < n → float_entry how buffer i ≡ record { refusal = 0; bits = four_at words (i * 4); rounded = 0 }
    same i h =
        let w = proper_at words b i (k.taken i h) in
        ap (λ (p : ℕ). inward how p) (eight_back buffer (i * 8) (f i).bits (sent_lt (four_at words (i * 4)) w) (own_block 8 le8 (λ x. refl) f n i h))
        ∙ sent_back how (four_at words (i * 4)) w

    came : floats_turn rule buffer back ≡ turned 0 0 (words ++ drop (length words) back)
    came =
        let z = size in
        let w = k.entries in
        let g = float_entry how buffer in
        let count : length buffer / 8 ≡ n = omega arith in
        let half : length buffer / 2 ≡ length words = omega arith in
        floats_all rule buffer back how (good, refl) (omega arith) (omega arith) (λ j h. ap (λ (y : Entry). y.refusal) (same j (omega arith)))
        ∙ ap₂ (λ (i j : ℕ). turned 0 (rounded_below g i) (first_bytes le4 g i ++ drop j back)) count half
        ∙ ap₂ (λ (i : ℕ) (t : List ℕ). turned 0 i (t ++ drop (length words) back))
        (rounded_none g n (λ j h. ap (λ (y : Entry). y.rounded) (same j h)))
        (whole 4 le4 (λ x. refl) g n words (omega arith) (λ i h. ap (λ (y : Entry). le4 y.bits) (same i h) ∙ le4_of words (i * 4) (omega arith)
        (byte_at words b)))

-- ---- in and back
-- an f64 that is taken and not rounded is exact for a word
exact_one : (rule : Rule) (x : Float) (r : Inward) → Right rule x r → (inward_entry r).refusal ≡ 0 → (inward_entry r).rounded ≡ 0 → r ≡ Exact (inward_entry r).bits
exact_one rule x r (exact w e b k) z o = e ∙ ap Exact (sym (ap (λ (y : Inward). (inward_entry y).bits) e))
exact_one rule x r (rounded w y e b k n t) z o = let q = sym (ap (λ (y : Inward). (inward_entry y).rounded) e) ∙ o in absurd (omega arith)
exact_one rule x r (endless e b) z o = let q = sym (ap number_in e) ∙ z in absurd (omega arith)
exact_one rule x r (minus e b) z o = let q = sym (ap number_in e) ∙ z in absurd (omega arith)
exact_one rule x r (small e b) z o = let q = sym (ap number_in e) ∙ z in absurd (omega arith)
exact_one rule x r (large e b) z o = let q = sym (ap number_in e) ∙ z in absurd (omega arith)

-- the word of an exact f64 goes out as the same bits
out_again : (how : Rule) (p w : ℕ) → p < 2 ^ 64 → FloatWord w → inward_of how p ≡ Exact w → outward w ≡ record { refusal = 0; bits = p; rounded = 0 }
out_again how p w l f e =
    let own : double_bits w ≡ p = exact_bits how p w e in
    let goes = goes_out w f.is_proper in
    ap outward_entry goes
    ∙ ap (λ (q : ℕ). record { refusal = 0; bits = q; rounded = 0 })
    (to_bits-of_bits binary64 (double_bits w) (subst (λ (q : ℕ). q < 2 ^ 64) (sym own) l) (no_nan_out w (of_bits binary64 (double_bits w)) goes) ∙ own)

pub floats_come_back : FloatsBack
floats_come_back rule floats out back b e m l = ap (λ (t : List ℕ). words_turn t back) sent ∙ came
  where
    k : FloatsTaken rule floats out
    k = floats_taken rule floats out e

    how : Rule
    how = rule_of rule

    f : ℕ → Entry
    f = float_entry how floats

    n : ℕ
    n = length floats / 8

    buffer : List ℕ
    buffer = first_bytes le4 f n

    all : floats_turn rule floats out ≡ turned 0 (rounded_below f n) (buffer ++ drop (length floats / 2) out)
    all = floats_all rule floats out how (k.good, refl) k.entries k.room k.taken

    sent : take (length floats / 2) (floats_turn rule floats out).out ≡ buffer
    sent = ap (λ (t : Turn). take (length floats / 2) t.out) all ∙ front 4 le4 (λ x. refl) f n (length floats / 2) out
        (half rule floats out how (k.good, refl) k.entries k.room) k.room

    size : length buffer ≡ n * 4
    size = first_length 4 le4 (λ x. refl) f n

    none : rounded_below f n ≡ 0
    none = sym (ap (λ (t : Turn). t.number) all) ∙ m

    float_lt : (i : ℕ) → eight_at floats (i * 8) < 2 ^ 64
    float_lt i = eight_lt floats (i * 8) (byte_at floats b)

    exact_at : (i : ℕ) → i < n → inward_of how (eight_at floats (i * 8)) ≡ Exact (f i).bits
    exact_at i h = exact_one how (of_bits binary64 (eight_at floats (i * 8))) (inward_of how (eight_at floats (i * 8))) (right how (eight_at floats (i * 8))
        (float_lt i)) (k.taken i h) (none_rounded f n none i h)

    word_at : (i : ℕ) → i < n → FloatWord (f i).bits
    word_at i h = (was_exact how (of_bits binary64 (eight_at floats (i * 8))) (inward_of how (eight_at floats (i * 8))) (f i).bits (exact_at i h)
        (right how (eight_at floats (i * 8)) (float_lt i))).0.word

    same : (i : ℕ) → i < n → word_entry buffer i ≡ record { refusal = 0; bits = eight_at floats (i * 8); rounded = 0 }
    same i h =
        ap (λ (w : ℕ). outward w) (four_back buffer (i * 4) (f i).bits (word_at i h).fits (own_block 4 le4 (λ x. refl) f n i h))
        ∙ out_again how (eight_at floats (i * 8)) (f i).bits (float_lt i) (word_at i h) (exact_at i h)

    came : words_turn buffer back ≡ turned 0 0 (floats ++ drop (length floats) back)
    came =
        let z = size in
        let w = k.entries in
        let g = word_entry buffer in
        let count : length buffer / 4 ≡ n = omega arith in
        let twice : 2 * length buffer ≡ length floats = omega arith in
        words_all buffer back (omega arith) (omega arith) (λ j h. ap (λ (y : Entry). y.refusal) (same j (omega arith)))
        ∙ ap₂ (λ (i j : ℕ). turned 0 0 (first_bytes le8 g i ++ drop j back)) count twice
        ∙ ap (λ (t : List ℕ). turned 0 0 (t ++ drop (length floats) back))
        (whole 8 le8 (λ x. refl) g n floats (omega arith) (λ i h. ap (λ (y : Entry). le8 y.bits) (same i h) ∙ le8_of floats (i * 8) (omega arith)
        (byte_at floats b)))

-- ---- kept, and determined
pub buffers_kept : BuffersKept
buffers_kept rule input out = (words_kept, floats_kept)
  where
    words_kept : ((words_turn input out).result ≡ 0 → ⊥) → (words_turn input out).out ≡ out
    words_kept n = ⊎_elim entries (λ h. ap (λ (t : Turn). t.out) (words_part input out h)) (equal_or_not (length input % 4) 0)
      where
        roomy : length input % 4 ≡ 0 → 2 * length input ≤ length out → (words_turn input out).out ≡ out
        roomy w h = ⊎_elim (λ t. absurd (n (ap (λ (u : Turn). u.result) (words_all input out w h t)))) (λ b. ap (λ (t : Turn). t.out)
            (words_first input out w h b)) (all_or_first (word_entry input) (length input / 4))

        entries : length input % 4 ≡ 0 → (words_turn input out).out ≡ out
        entries w = ⊎_elim (λ h. ap (λ (t : Turn). t.out) (words_room input out w h)) (roomy w) (either (length out) (2 * length input))

    floats_kept : ((floats_turn rule input out).result ≡ 0 → ⊥) → (floats_turn rule input out).out ≡ out
    floats_kept n = ⊎_elim good (λ h. ap (λ (t : Turn). t.out) (floats_rule rule input out h)) (either rule 2)
      where
        roomy : rule < 2 → length input % 8 ≡ 0 → length input / 2 ≤ length out → (floats_turn rule input out).out ≡ out
        roomy r w h = ⊎_elim
            (λ t. absurd (n (ap (λ (u : Turn). u.result) (floats_all rule input out (rule_of rule) (r, refl) w h t))))
            (λ b. ap (λ (t : Turn). t.out) (floats_first rule input out (rule_of rule) (r, refl) w h b))
            (all_or_first (float_entry (rule_of rule) input) (length input / 8))

        entries : rule < 2 → length input % 8 ≡ 0 → (floats_turn rule input out).out ≡ out
        entries r w = ⊎_elim (λ h. ap (λ (t : Turn). t.out) (floats_room rule input out r w h)) (roomy r w) (either (length out) (length input / 2))

        good : rule < 2 → (floats_turn rule input out).out ≡ out
        good r = ⊎_elim (entries r) (λ h. ap (λ (t : Turn). t.out) (floats_part rule input out r h)) (equal_or_not (length input % 8) 0)

turns_alike : (u : Turn) (r q n m : ℕ) (s t : List ℕ) → Turns u r n s → Turns u q m t → (r ≡ q) × (n ≡ m) × (s ≡ t)
turns_alike u r q n m s t a b = (a.result_is ∙ sym b.result_is, a.number_is ∙ sym b.number_is, a.out_is ∙ sym b.out_is)

pub words_to_f64_determined : WordsToF64Determined
words_to_f64_determined words out r q n m s t a b = turns_alike _ r q n m s t a b

pub f64_to_words_determined : F64ToWordsDetermined
f64_to_words_determined rule floats out r q n m s t a b = turns_alike _ r q n m s t a b
