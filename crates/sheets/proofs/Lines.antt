-- The record step of sheets is lawful: a record of this library is framed as the core's are, and every other is the core's. Assumes nothing.
use mathlib.Core.Path.{◌≡◌, refl, sym, ap, subst, ◌∙◌}
use mathlib.Core.Bool.{Bool, true, false, not, cond, false≢true}
use mathlib.Core.List.{List}
use Prim.Native.Nat.{ℕ, ◌+◌, ◌*◌, ◌≤◌, ◌<◌}
use native.Mathlib.Omega.{arith}
use lib.Dec.{ltb, lit≤}
use lib.ListN.{length, get_or, take, drop}
use lib.Seq.{get_or-take, length-take-le}
use borrow.Author.Tests.{lt-ltb, le-ltb, eq-eqb, ne_eqb, ltb-false}
use Rattle.numbers.specs.Little.{word_at}
use Rattle.terms.specs.declared.Refusal.TheVariants.{CutShort}
use Rattle.terms.specs.Limits.{most_payload}
use Rattle.record_files.specs.Run.{Outcome, ended}
use Rattle.record_files.specs.Lawful.{Stopping, Lawful}
use Rattle.record_files.proofs.Tests.{either_lt, either_eq}
use Rattle.record_files.proofs.Through.{drop_take}
use Rattle.error_memory.specs.Memory.{Card}
use Rattle.record_runs.specs.Record.{Event}
use Rattle.record_runs.specs.Record.{Push, Pop, Command, Status, Reset, Acknowledge, Recall, Forget}
use Rattle.std.specs.Prelude.{Err}
use Rattle.record_runs.specs.Record.{kind_of, frame_under, turn_under, turn_of}
use Rattle.record_runs.proofs.Heads.{short, cut, whole, frames}
use Rattle.record_runs.proofs.Steps.{steps}
use Rattle.record_runs.proofs.Turning.{length-data_of}
use Rattle.record_runs.proofs.Prefix.{lawful as core-lawful}
use Rattle.sheet_bytes.specs.Entering.{payload_for}
use Rattle.sheets.specs.Step.{Held, holding, is_framed, is_own_kind, is_own, entry_of, own_turn, answered, core_by, sheet_step}

-- a whole record of this library at the front of a file
pub record Owns (l : List ℕ) : Type 0 where
  pub least : 256 ≤ word_at l 2
  pub most : word_at l 2 ≤ 258
  pub in_range : 2 ≤ word_at l 0
  pub short : word_at l 0 ≤ 2 + most_payload
  pub there : 2 + word_at l 0 ≤ length l

-- what a kind's test says
module _ (kind : ℕ) where
  pub own_kind_lem : 256 ≤ kind → kind ≤ 258 → is_own_kind kind ≡ true
  own_kind_lem a b = rw (le-ltb _ _ a, le-ltb _ _ b)

  pub low_kind : kind < 256 → is_own_kind kind ≡ false
  low_kind a = rw (lt-ltb _ _ a)

  pub kind_owned : is_own_kind kind ≡ true → (256 ≤ kind) × (kind ≤ 258)
  kind_owned =
      either_lt (λ (b : Bool). b ≡ true → (256 ≤ kind) × (kind ≤ 258)) kind 256 false (not (ltb 258 kind))
      (λ a e. absurd (false≢true e))
      (λ a. by a (ltb 258 kind) refl)
    where
      by : 256 ≤ kind → (b : Bool) → ltb 258 kind ≡ b → not b ≡ true → (256 ≤ kind) × (kind ≤ 258)
      by a true q e = absurd (false≢true e)
      by a false q e = (a, ltb-false _ _ q)

-- what the test of a record says
pub owns : (l : List ℕ) → is_own l ≡ true → Owns l
unfolding is_own
owns l = by (is_own_kind (word_at l 2)) refl
  where
    framed : (256 ≤ word_at l 2) × (word_at l 2 ≤ 258) → is_framed (frame_under most_payload l) ≡ true → Owns l
    framed k =
        frames {most = most_payload} (λ f. is_framed f ≡ true → Owns l) (λ r g e. absurd (false≢true e)) l (λ n f e. record {
          least = k.0;
          most = k.1;
          in_range = omega (arith, f.length-is);
          short = omega (arith, f.length-is, f.small);
          there = omega (arith, f.length-is, f.there);
        })

    by : (b : Bool) → is_own_kind (word_at l 2) ≡ b → cond b (is_framed (frame_under most_payload l)) false ≡ true → Owns l
    by true k e = framed (kind_owned (word_at l 2) k) e
    by false k e = absurd (false≢true e)

pub is_own_lem : (l : List ℕ) → Owns l → is_own l ≡ true
unfolding is_own
is_own_lem l o =
    rw (own_kind_lem (word_at l 2) o.least o.most, whole most_payload l (omega (arith, o.there)) o.in_range o.short (omega (arith, o.there)))

-- a file that does not hold one
pub not_own : (l : List ℕ) → (Owns l → ⊥) → is_own l ≡ false
not_own l n = pick (is_own l) refl
  where
    pick : (b : Bool) → is_own l ≡ b → is_own l ≡ false
    pick true e = absurd (n (owns l e))
    pick false e = e

-- a record of this library, answered
abbrev pub done : Held → List ℕ → Outcome Held
done h l = answered h (word_at l 2) (entry_of h (word_at l 2) (take (payload_for (word_at l 2)) (drop 4 l)))

-- the ways of the step: nothing done, a record of this library answered, or the core's own
pub ways : (P : Outcome Held → Type 0) (h : Held) (l : List ℕ) (room : ℕ)
    → (Owns l → (word_at l 0 ≡ 2 + payload_for (word_at l 2) → ⊥) → P (ended 7 h))
    → (Owns l → word_at l 0 ≡ 2 + payload_for (word_at l 2) → room < 5 → P (ended 8 h))
    → (Owns l → word_at l 0 ≡ 2 + payload_for (word_at l 2) → 5 ≤ room → P (done h l))
    → ((Owns l → ⊥) → P (core_by h (word_at l 2) (turn_of h.card l room)))
    → P (sheet_step h l room)
unfolding sheet_step
ways P h l room bad full good core = pick (is_own l) refl
  where
    pick : (b : Bool) → is_own l ≡ b → P (cond b (own_turn h l room) (core_by h (word_at l 2) (turn_of h.card l room)))
    pick true e =
        let o = owns l e in
        either_eq P (word_at l 0) (2 + payload_for (word_at l 2)) _ _ (λ q. either_lt P room 5 _ _ (full o q) (good o q)) (bad o)
    pick false e = core (λ o. subst (λ (b : Bool). cond b Unit ⊥) (sym (is_own_lem l o) ∙ e) tt)

-- ---- the core's turn

-- with the sheets as they stand
abbrev plain : Held → Outcome Card → Outcome Held
plain h t = record { refusal = t.refusal; state = holding t.state h.sheets; taken = t.taken; written = t.written }

ended_core : (h : Held) (kind : ℕ) (t : Outcome Card) → (t.refusal ≡ 0 → ⊥) → t ≡ ended t.refusal h.card → core_by h kind t ≡ ended t.refusal h
ended_core h kind t z e = rw (ne_eqb t.refusal 0 z) (ap (plain h) e)

-- a record that the core takes: its kind and its bytes, and those of its reply
pub record CoreTook (l : List ℕ) (t : Outcome Card) : Type 0 where
  pub kind_is : word_at l 2 ≤ 8
  pub four : 4 ≤ t.taken
  pub framed : t.taken ≡ 2 + word_at l 0
  pub reply_framed : length t.written ≡ 2 + word_at t.written 0
  pub reply_low : word_at t.written 2 < 32768

kinds : (e : Event) → kind_of e ≤ 8
kinds (Push n) = lit≤ tt
kinds (Pop n) = lit≤ tt
kinds (Command code) = lit≤ tt
kinds Status = lit≤ tt
kinds Reset = lit≤ tt
kinds Acknowledge = lit≤ tt
kinds Recall = lit≤ tt
kinds Forget = lit≤ tt

pub core_took : (c : Card) (l : List ℕ) (room : ℕ) → (turn_of c l room).refusal ≡ 0 → CoreTook l (turn_of c l room)
core_took c l room =
    steps {most = most_payload} (λ t. t.refusal ≡ 0 → CoreTook l t) c l room (λ r a b z. let y : ⊥ = omega arith in absurd y)
    (λ e h g z.
    let d = length-data_of c e in
    let k = kinds e in
    record {
      kind_is = rw h.kind_is k;
      four = omega arith;
      framed = omega (arith, h.length-is);
      reply_framed = omega arith;
      reply_low = omega arith;
    })

-- it has four bytes
pub core_four : (c : Card) (l : List ℕ) (room : ℕ) → (turn_of c l room).refusal ≡ 0 → 4 ≤ length l
core_four c l room z = omega (arith, (core_took c l room z).four, core-lawful.within c l room z)

-- ---- the step is lawful

-- the first bytes of two files
module _ (n : ℕ) (l m : List ℕ) (same : take n l ≡ take n m) where
  at : (i : ℕ) → i < n → get_or m i 0 ≡ get_or l i 0
  at i h = sym (get_or-take n m i 0 h) ∙ ap (λ (t : List ℕ). get_or t i 0) (sym same) ∙ get_or-take n l i 0 h

  pub word_too : (i : ℕ) → i + 1 < n → word_at m i ≡ word_at l i
  word_too i h = rw (at i (omega arith), at (i + 1) h)

  pub part_too : (a k : ℕ) → n ≡ a + k → take k (drop a m) ≡ take k (drop a l)
  part_too a k e =
      let q : take (a + k) m ≡ take (a + k) l = rw e at (sym same) in
      sym (drop_take a k m) ∙ ap (drop a) q ∙ drop_take a k l

-- a record that a cut goes through
cut_core : (c : Card) (l : List ℕ) (room k : ℕ) → k ≤ length l → 2 ≤ word_at l 0 → word_at l 0 ≤ 2 + most_payload → k < 2 + word_at l 0
    → turn_of c (take k l) room ≡ ended 6 c
unfolding turn_under
cut_core c l room k most a b i = rw frame
  where
    long : length (take k l) ≡ k
    long = length-take-le k l most

    frame : frame_under most_payload (take k l) ≡ Err CutShort
    frame =
        either_lt (λ (n : ℕ). frame_under most_payload (take k l) ≡ Err CutShort) k 2 0 0
        (λ d. short most_payload (take k l) (omega (arith, long)))
        (λ d.
        let w : word_at (take k l) 0 ≡ word_at l 0 = rw (get_or-take k l 0 0 (omega arith), get_or-take k l 1 0 (omega arith)) in
        cut most_payload (take k l) (omega (arith, long)) (omega (arith, w)) (omega (arith, w)) (omega (arith, w, long)))

-- and it is none of this library
cut_own : (l : List ℕ) (k : ℕ) → k ≤ length l → k < 2 + word_at l 0 → Owns (take k l) → ⊥
cut_own l k most i o =
    let long = length-take-le k l most in
    let d = o.there in
    let w : word_at (take k l) 0 ≡ word_at l 0 = rw (get_or-take k l 0 0 (omega arith), get_or-take k l 1 0 (omega arith)) in
    omega arith

abbrev Alike : Held → List ℕ → List ℕ → ℕ → Outcome Held → Type 0
Alike h l m more t = t.refusal ≡ 0 → take t.taken l ≡ take t.taken m → t.taken ≤ length m → length t.written ≤ more → sheet_step h m more ≡ t

own_too : (h : Held) (l m : List ℕ) (more : ℕ) → Owns l → word_at l 0 ≡ 2 + payload_for (word_at l 2) → Alike h l m more (done h l)
unfolding sheet_step
own_too h l m more o q z same fits has =
    let n = payload_for (word_at l 2) in
    let a : word_at m 0 ≡ word_at l 0 = word_too (4 + n) l m same 0 (omega arith) in
    let b : word_at m 2 ≡ word_at l 2 = word_too (4 + n) l m same 2 (omega arith) in
    let p : take n (drop 4 m) ≡ take n (drop 4 l) = part_too (4 + n) l m same 4 n refl in
    let own : Owns m = record {
      least = rw b o.least;
      most = rw b o.most;
      in_range = rw a o.in_range;
      short = rw a o.short;
      there = omega (arith, a);
    } in
    rw (is_own_lem m own, a, b, p, eq-eqb (word_at l 0) (2 + n) q, le-ltb more 5 (omega arith))

core_too : (h : Held) (l m : List ℕ) (room more : ℕ) → Alike h l m more (core_by h (word_at l 2) (turn_of h.card l room))
unfolding sheet_step
core_too h l m room more z same fits has =
    let t = turn_of h.card l room in
    let c = core_took h.card l room z in
    let b : word_at m 2 ≡ word_at l 2 = word_too t.taken l m same 2 (omega (arith, c.four)) in
    let k = c.kind_is in
    rw (not_own m (λ o. let y = o.least in omega arith), b, core-lawful.alike h.card l m room more z same fits has)

alike : (h : Held) (l m : List ℕ) (room more : ℕ) → Alike h l m more (sheet_step h l room)
alike h l m room more =
    ways (Alike h l m more) h l room (λ o q z. let y : ⊥ = omega arith in absurd y) (λ o q g z. let y : ⊥ = omega arith in absurd y)
    (λ o q g. own_too h l m more o q) (λ n. core_too h l m room more)

-- cut through
abbrev Cut : Held → List ℕ → ℕ → ℕ → Outcome Held → Type 0
Cut h l room k t = t.refusal ≡ 0 → k < t.taken → sheet_step h (take k l) room ≡ ended 6 h

cut_line : (h : Held) (l : List ℕ) (room k : ℕ) → (Owns (take k l) → ⊥) → turn_of h.card (take k l) room ≡ ended 6 h.card
    → sheet_step h (take k l) room ≡ ended 6 h
unfolding sheet_step
cut_line h l room k n e = rw (not_own (take k l) n, e)

cut_through : (h : Held) (l : List ℕ) (room k : ℕ) → k ≤ length l → Cut h l room k (sheet_step h l room)
cut_through h l room k most =
    ways (Cut h l room k) h l room (λ o q z. let y : ⊥ = omega arith in absurd y) (λ o q g z. let y : ⊥ = omega arith in absurd y)
    (λ o q g z i. cut_line h l room k (cut_own l k most (omega arith)) (cut_core h.card l room k most o.in_range o.short (omega arith)))
    (λ n z i.
    let f = (core_took h.card l room z).framed in
    cut_line h l room k (cut_own l k most (omega arith)) (core-lawful.cut_through h.card l room k most z i))

stops : (h : Held) (l : List ℕ) (room : ℕ) → ((sheet_step h l room).refusal ≡ 0 → ⊥)
    → Stopping (sheet_step h l room).refusal × (sheet_step h l room ≡ ended (sheet_step h l room).refusal h)
stops h l room =
    ways (λ t. (t.refusal ≡ 0 → ⊥) → Stopping t.refusal × (t ≡ ended t.refusal h)) h l room
    (λ o q z. ((lit≤ tt, lit≤ tt), refl)) (λ o q g z. ((lit≤ tt, lit≤ tt), refl)) (λ o q g z. absurd (z refl))
    (λ n z. let c = core-lawful.stops h.card l room z in (c.0, ended_core h (word_at l 2) (turn_of h.card l room) z c.1))

-- what holds of a record that is taken
pub taken : (P : Outcome Held → Type 0) (h : Held) (l : List ℕ) (room : ℕ)
    → (Owns l → word_at l 0 ≡ 2 + payload_for (word_at l 2) → 5 ≤ room → P (done h l))
    → ((turn_of h.card l room).refusal ≡ 0 → P (core_by h (word_at l 2) (turn_of h.card l room)))
    → (sheet_step h l room).refusal ≡ 0 → P (sheet_step h l room)
taken P h l room good core =
    ways (λ t. t.refusal ≡ 0 → P t) h l room (λ o q z. let y : ⊥ = omega arith in absurd y) (λ o q g z. let y : ⊥ = omega arith in absurd y)
    (λ o q g z. good o q g) (λ n z. core z)

pub lawful : Lawful (5 + most_payload) sheet_step
lawful = record {
  stops = stops;
  moves = λ h l room. taken (λ t. 0 < t.taken) h l room (λ o q g. omega arith) (λ z. core-lawful.moves h.card l room z);
  within = λ h l room. taken (λ t. t.taken ≤ length l) h l room (λ o q g. omega (arith, o.there)) (λ z. core-lawful.within h.card l room z);
  fits = λ h l room. taken (λ t. length t.written ≤ room) h l room (λ o q g. g) (λ z. core-lawful.fits h.card l room z);
  few = λ h l room. taken (λ t. length t.written ≤ (5 + most_payload) * t.taken) h l room (λ o q g. omega arith) (λ z. core-lawful.few h.card l room z);
  alike = alike;
  cut_through = cut_through;
}
