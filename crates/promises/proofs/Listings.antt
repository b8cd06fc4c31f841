-- The listing of every input: the report's counts give back what the run wrote and took, each reply of a record taken has the record's own line, and the
-- lines follow one another. Assumes nothing.
use mathlib.Core.Path.{◌≡◌, refl, sym, ap, ap₂, subst, ◌∙◌}
use mathlib.Core.Bool.{Bool, true, false, cond}
use mathlib.Core.List.{List, [], ◌∷◌, ◌++◌, append_assoc}
use Prim.Native.Nat.{ℕ, zero, suc, ◌+◌, ◌*◌, ◌-◌, ◌/◌, ◌%◌, ◌^◌, ◌≤◌, ◌<◌}
use native.Mathlib.Nat.{div-lt_iff_lt-mul, div-add-mod', mod-lt, pow-suc}
use native.Mathlib.Omega.{arith}
use borrow.Author.Tests.{eqb-true, ltb-true, ltb-false, lt-ltb, le-ltb, eq-eqb, ne_eqb, leb-true}
use lib.Dec.{eqb, leb, ltb, lit<, lit≤}
use lib.ListN.{length, take, drop, get_or, replicate, length-replicate, length-append, take-append-drop}
use lib.Seq.{length-take-le, take-append_seam, drop-append_seam}
use Rattle.terms.specs.Refusal.{number_of}
use Rattle.error_memory.specs.Memory.{Card}
use Rattle.record_runs.specs.Record.{Event}
use Rattle.record_runs.specs.Record.{Push, Pop, Command, Status, Reset, Acknowledge, Recall, Forget}
use Rattle.record_runs.specs.Record.{word_at, kind_of, answer_of, data_of, reply_of}
use Rattle.record_runs.specs.Run.{Outcome, run_of}
use Rattle.record_files.proofs.Append.{appended}
use Rattle.record_files.proofs.Through.{tally}
use Rattle.record_runs.proofs.Prefix.{lawful}
use Rattle.state_bytes.specs.Bytes.{is_state, card_in, laid_out}
use Rattle.state_bytes.specs.Calls.{Called, call_of, ran_of}
use Rattle.state_bytes.proofs.Calling.{good}
use Rattle.listing.specs.Text.{spelled as their-spelled, decimal as their-decimal}
use Rattle.promises.specs.PrintedText.{digit, spelled, decimal}
use Rattle.promises.proofs.PrintedText.{decimal_is}
use Rattle.listing.specs.Listing.{data_text, line_of, end_of, reply_kind, reply_refusal, reply_size, reply_data, lines_up_to, has_reply, lines_of}
use Rattle.numbers.proofs.Exact.{two_bytes}
use Rattle.listing.proofs.Listed.{reply_listed, core_kind}
use Rattle.listing.specs.declared.options.Asked.{Asked}
use Rattle.listing.specs.declared.options.Asked.TheVariants.{Under, Nothing}
use Rattle.listing.specs.Options.{same_text, am9511_text, nearest_text, asked_of, text_for}
use Rattle.listing.proofs.Texts.{same_is}
use Rattle.list_text.specs.Printout.{printout_under}
use Rattle.record_text.specs.Trace.{state_text, after_text, end_at, lines_from, trace_of}
use Rattle.record_text.proofs.Tracing.{one_more, too_long_lem, not_long}
use Rattle.promises.proofs.RecordFiles.{theirs_record}
use Rattle.promises.specs.Records.{joined, EachTaken, replies_of, total, lengths, Split}
use Rattle.promises.specs.PrintedText.{written}
use Rattle.promises.specs.Given.{Given, Chosen, settings_in}
use Rattle.promises.specs.Listings.{value_of, Digits, Decimal, hex_text, record_line, state_line, lines_for, last_line}
use Rattle.promises.specs.Listings.{Asks, neither, older, nearest, both, reset_card, Listings}
use Rattle.promises.proofs.Records.{record_run}

-- ---- the lines of the records
data_same : (bytes : List ℕ) → data_text bytes ≡ hex_text bytes
data_same [] = refl
data_same (b ∷ bs) = ap (λ (t : List ℕ). 32 ∷ digit (b / 16) ∷ digit (b % 16) ∷ t) (data_same bs)

-- no kind of the core reaches bit 15 in its reply
low : (e : Event) → kind_of e < 32640
low (Push n) = lit< tt
low (Pop n) = lit< tt
low (Command code) = lit< tt
low Status = lit< tt
low Reset = lit< tt
low Acknowledge = lit< tt
low Recall = lit< tt
low Forget = lit< tt

lines_are : (rs : List (List ℕ)) (s : Card) (room number : ℕ) → EachTaken s rs room
    → lines_of number (joined (replies_of s rs room)) ≡ lines_for record_line number s rs room
unfolding lines_up_to
lines_are [] s room number h = refl
lines_are (r ∷ rs) s room number h =
    let o = run_of s r room in
    let one = h.0 in
    let e = (theirs_record one).event in
    let n = number_of (answer_of s (drop 4 r) e).refusal in
    let w : o.written ≡ reply_of (kind_of e) n (data_of s e) = ap (λ (p : Outcome). p.written) (record_run s r room one h.1) in
    let more = joined (replies_of o.state rs (room - length o.written)) in
    ap (λ (l : List ℕ). lines_of number (l ++ more)) w
    ∙ reply_listed number (kind_of e) n (data_of s e) more (low e)
    ∙ ap₂ (λ (x y : List ℕ). x ++ y) (line r (kind_of e) n (data_of s e) o (theirs_record one).held.kind_is w)
    (lines_are rs o.state (room - length o.written) (number + 1) h.2)
  where
    line : (r : List ℕ) (kind n : ℕ) (bytes : List ℕ) (o : Outcome) → get_or r 2 0 + get_or r 3 0 * 256 ≡ kind → o.written ≡ reply_of kind n bytes
        → line_of number kind n bytes ≡ record_line number r o
    line r kind n bytes o k w =
        ap (λ (t : List ℕ). their-decimal number ++ ((32 ∷ their-decimal kind) ++ ((32 ∷ their-decimal n) ++ (t ++ (10 ∷ []))))) (data_same bytes)
        ∙ ap (λ (t : List ℕ). t ++ ((32 ∷ their-decimal kind) ++ ((32 ∷ their-decimal n) ++ (hex_text bytes ++ (10 ∷ []))))) (decimal_is number)
        ∙ ap₂ (λ (t u : List ℕ). decimal number ++ ((32 ∷ t) ++ ((32 ∷ u) ++ (hex_text bytes ++ (10 ∷ []))))) (decimal_is kind) (decimal_is n)
        ∙ ap₂ (λ (x : ℕ) (l : List ℕ). decimal number ++ ((32 ∷ decimal x) ++ ((32 ∷ decimal (get_or l 4 0)) ++ (hex_text (drop 5 l) ++ (10 ∷ []))))) (sym k)
        (sym w)

last_is : (refusal taken : ℕ) → end_of refusal taken ≡ last_line refusal taken
last_is refusal taken = ap₂ (λ (t u : List ℕ). 101 ∷ 110 ∷ 100 ∷ ((32 ∷ t) ++ ((32 ∷ u) ++ (10 ∷ [])))) (decimal_is refusal) (decimal_is taken)

-- ---- what is printed of a run
module _ (g : Given) (input : List ℕ) where
  abbrev listed : Outcome
  listed = run_of (reset_card g) input 65536

  text_is : length input ≤ 12288 → printout_under g.mode g.rule input ≡ lines_of 1 listed.written ++ end_of listed.refusal listed.taken
  text_is h = rw (le-ltb 12288 (length input) h)

  long_is : 12288 < length input → printout_under g.mode g.rule input ≡ written "end 9 0" ++ (10 ∷ [])
  unfolding lines_up_to has_reply their-spelled
  long_is h = rw (lt-ltb 12288 (length input) h)

-- ---- the trace
long_good : is_state (replicate 21 0) ≡ true
unfolding is_state
long_good = refl

-- a record's length counts what follows its first two bytes
first_two : (r m : List ℕ) → 2 ≤ length r → word_at (r ++ m) 0 ≡ word_at r 0
first_two [] m h = absurd (omega arith)
first_two (a ∷ []) m h = absurd (omega arith)
first_two (a ∷ b ∷ r) m h = refl

module _ (g : Given) (C : Chosen g) where
  -- the run of a file from reset
  abbrev run : List ℕ → Outcome
  run file = run_of (reset_card g) file 65536

  -- the call on the bytes of a state
  call_is : (state : List ℕ) → is_state state ≡ true → (file : List ℕ) → length file ≤ 12288
      → call_of g.mode g.rule state file (replicate 65536 0) (replicate 9 0)
      ≡ ran_of (length state) (run_of (card_in (settings_in g) state) file 65536) (replicate 65536 0)
  call_is state S file h =
      good g.mode g.rule state file (replicate 65536 0) (replicate 9 0) refl C.mode C.rule S h
      ∙ ap (λ (n : ℕ). ran_of (length state) (run_of (card_in (settings_in g) state) file n) (replicate 65536 0)) (length-replicate {A = ℕ} 65536 0)

  -- the line behind a file: the state that its run leaves, or nothing where that is stopped
  after_is : (number : ℕ) (file : List ℕ) → length file ≤ 12288
      → after_text g.mode g.rule number file ≡ cond (eqb (run file).refusal 0) (state_text number (laid_out 21 (run file).state)) []
  after_is number file h =
      ap (λ (c : Called). cond (eqb c.result 0) (state_text number c.state) []) (call_is (replicate 21 0) long_good file h)

  -- behind a file the run is on this card and in this room
  abbrev Leaves : List ℕ → Card → ℕ → Type 0
  Leaves file s room = (q : List ℕ) → ((run (file ++ q)).refusal ≡ (run_of s q room).refusal) × ((run (file ++ q)).state ≡ (run_of s q room).state)

  leaves_too : (p r : List ℕ) (s : Card) (room : ℕ) → Leaves p s room → (run_of s r room).refusal ≡ 0
      → Leaves (p ++ r) (run_of s r room).state (room - length (run_of s r room).written)
  leaves_too p r s room L z q =
      let both = appended lawful s r q room z in
      rw (append_assoc p r q)
      ((L (r ++ q)).0 ∙ ap (λ (o : Outcome). o.refusal) both, (L (r ++ q)).1 ∙ ap (λ (o : Outcome). o.state) both)

  module _ (input : List ℕ) (h : length input ≤ 12288) where
    -- the lines from a place on, the first of this number, at most so many
    abbrev from : ℕ → ℕ → ℕ → List ℕ
    from f number at = lines_from f g.mode g.rule input number at

    -- no file that ends behind the bytes taken is run to its end, so it has no line
    stopped_behind : (n : ℕ) → n ≤ length input → (run input).taken < n → (run (take n input)).refusal ≡ 0 → ⊥
    stopped_behind n k b z =
        let o = run (take n input) in
        let all : (run input).taken ≡ o.taken + (run_of o.state (drop n input) (65536 - length o.written)).taken =
        ap (λ (l : List ℕ). (run l).taken) (sym (take-append-drop n input))
        ∙ ap (λ (p : Outcome). p.taken) (appended lawful (reset_card g) (take n input) (drop n input) 65536 z) in
        omega (arith, all, (tally lawful (reset_card g) (take n input) 65536).all z, length-take-le n input k)

    untold : (number n : ℕ) → n ≤ length input → (run input).taken < n → after_text g.mode g.rule number (take n input) ≡ []
    untold number n k b =
        after_is number (take n input) (omega (arith, length-take-le n input k)) ∙ rw (ne_eqb (run (take n input)).refusal 0 (stopped_behind n k b))

    none_behind : (f number at : ℕ) → (run input).taken ≤ at → from f number at ≡ []
    unfolding lines_from
    none_behind zero number at b = refl
    none_behind (suc f) number at b =
        by (leb (at + 2) (length input)) (leb (end_at input at) (length input)) refl (none_behind f (number + 1) (end_at input at) (omega (arith, b)))
      where
        by : (x y : Bool) → leb (end_at input at) (length input) ≡ y → from f (number + 1) (end_at input at) ≡ []
            → cond x (cond y (after_text g.mode g.rule number (take (end_at input at) input) ++ from f (number + 1) (end_at input at)) []) [] ≡ []
        by false y e i = refl
        by true false e i = refl
        by true true e i = rw (i, untold number (end_at input at) (leb-true (end_at input at) (length input) e) (omega (arith, b)))

    -- the lines of the records that are left behind a file
    states_are : (rs : List (List ℕ)) (p rest : List ℕ) (s : Card) (room number f : ℕ) → input ≡ p ++ (joined rs ++ rest) → EachTaken s rs room
        → Leaves p s room → (run input).taken ≡ length p + total (lengths rs) → length input ≤ f + length p
        → from f number (length p) ≡ lines_for state_line number s rs room
    states_are [] p rest s room number f e each L t few = none_behind f number (length p) (omega (arith, t))
    states_are (r ∷ rs) p rest s room number f e each L t few =
        let o = run_of s r room in
        let w = theirs_record each.0 in
        let more = joined rs ++ rest in
        let i : input ≡ (p ++ r) ++ more = e ∙ ap (λ (l : List ℕ). p ++ l) (append_assoc r (joined rs) rest) ∙ sym (append_assoc p r more) in
        let size = length-append p r in
        let n : length input ≡ length (p ++ r) + length more = ap length i ∙ length-append (p ++ r) more in
        let front : drop (length p) input ≡ r ++ more = rw (i, append_assoc p r more) (drop-append_seam p (r ++ more)) in
        let end : end_at input (length p) ≡ length (p ++ r) =
        rw (front, first_two r more (omega (arith, w.size)), w.held.length-is) (omega (arith, size, w.size)) in
        let passed : take (end_at input (length p)) input ≡ p ++ r = rw (end, i) (take-append_seam (p ++ r) more) in
        let fuel : f ≡ suc (f - 1) = omega (arith, few, n, size, w.size) in
        let line : after_text g.mode g.rule number (p ++ r) ≡ state_line number r o =
        after_is number (p ++ r) (omega (arith, n, h))
        ∙ rw (eq-eqb (run (p ++ r)).refusal 0 ((L r).0 ∙ each.1))
        (ap₂ (λ (t u : List ℕ). t ++ (u ++ (10 ∷ []))) (decimal_is number)
        (data_same (laid_out 21 (run (p ++ r)).state) ∙ ap (λ (c : Card). hex_text (laid_out 21 c)) (L r).1)) in
        ap (λ (k : ℕ). from k number (length p)) fuel
        ∙ one_more (f - 1) g.mode g.rule input number (length p) (omega (arith, n, size, w.size)) (omega (arith, end, n))
        ∙ ap₂ (λ (x y : List ℕ). x ++ y) (ap (λ (l : List ℕ). after_text g.mode g.rule number l) passed ∙ line)
        (ap (λ (k : ℕ). from (f - 1) (number + 1) k) end
        ∙ states_are rs (p ++ r) rest o.state (room - length o.written) (number + 1) (f - 1) i each.2 (leaves_too p r s room L each.1)
        (omega (arith, t, size)) (omega (arith, few, size, w.size)))

    trace_is : (split : Split (reset_card g) input 65536 (run input))
        → trace_of g.mode g.rule input ≡ lines_for state_line 1 (reset_card g) split.records 65536 ++ (written "end" ++ (10 ∷ []))
    trace_is split =
        sym (not_long g.mode g.rule input h)
        ∙ ap (λ (l : List ℕ). l ++ (written "end" ++ (10 ∷ [])))
        (states_are split.records [] split.rest (reset_card g) 65536 1 (length input) split.parts split.each (λ q. (refl, refl))
        (omega (arith, split.taken)) (omega arith))

-- ---- what a call asks for
chosen : {words : ℕ} {first second : List ℕ} {g : Given} → Asks words first second g → Chosen g
chosen (neither e) = record { mode = lit≤ tt; rule = lit≤ tt }
chosen (older e f) = record { mode = lit≤ tt; rule = lit≤ tt }
chosen (nearest e f) = record { mode = lit≤ tt; rule = lit≤ tt }
chosen (both e f s) = record { mode = lit≤ tt; rule = lit≤ tt }

asked : {words : ℕ} {first second : List ℕ} {g : Given} → Asks words first second g → asked_of words first second ≡ Under g.mode g.rule
unfolding asked_of same_text
asked (neither e) = rw e
asked (older e f) = rw (e, f)
asked (nearest e f) = rw (e, f)
asked (both e f s) = rw (e, f, s)

told_is : {words : ℕ} {first second : List ℕ} {g : Given} → (under : ℕ → ℕ → List ℕ → List ℕ) (input : List ℕ) → Asks words first second g
    → text_for under (asked_of words first second) input ≡ under g.mode g.rule input
told_is under input A = ap (λ (a : Asked). text_for under a input) (asked A)

usage_is : (words : ℕ) (first second : List ℕ) → ((g : Given) → Asks words first second g → ⊥) → asked_of words first second ≡ Nothing
unfolding asked_of
usage_is words first second h =
    by (eqb words 1) refl (eqb words 2) refl (eqb words 3) refl
    (same_text first am9511_text) refl (same_text first nearest_text) refl (same_text second nearest_text) refl
  where
    by : (a : Bool) → eqb words 1 ≡ a → (b : Bool) → eqb words 2 ≡ b → (c : Bool) → eqb words 3 ≡ c
        → (p : Bool) → same_text first am9511_text ≡ p → (q : Bool) → same_text first nearest_text ≡ q → (r : Bool) → same_text second nearest_text ≡ r
        → cond a (Under 0 0) (cond b (cond p (Under 1 0) (cond q (Under 0 1) Nothing)) (cond c (cond p (cond r (Under 1 1) Nothing) Nothing) Nothing)) ≡ Nothing
    by true e b f c i p j q k r l = absurd (h _ (neither (eqb-true words 1 e)))
    by false e true f c i true j q k r l = absurd (h _ (older (eqb-true words 2 f) (same_is first am9511_text j)))
    by false e true f c i false j true k r l = absurd (h _ (nearest (eqb-true words 2 f) (same_is first nearest_text k)))
    by false e true f c i false j false k r l = refl
    by false e false f true i true j q k true l = absurd (h _ (both (eqb-true words 3 i) (same_is first am9511_text j) (same_is second nearest_text l)))
    by false e false f true i true j q k false l = refl
    by false e false f true i false j q k r l = refl
    by false e false f false i p j q k r l = refl

-- ---- characters
value_snoc : (n : ℕ) (l : List ℕ) (c : ℕ) → value_of n (l ++ (c ∷ [])) ≡ value_of n l * 10 + (c - 48)
value_snoc n [] c = refl
value_snoc n (x ∷ l) c = value_snoc (n * 10 + (x - 48)) l c

digits_snoc : (l : List ℕ) (c : ℕ) → Digits l → 48 ≤ c → c ≤ 57 → Digits (l ++ (c ∷ []))
digits_snoc [] c d a b = (a, b, tt)
digits_snoc (x ∷ l) c d a b = (d.0, d.1, digits_snoc l c d.2 a b)

-- one digit
one_digit : (n : ℕ) → n < 10 → Decimal n (digit n ∷ [])
one_digit n h =
    let e : digit n ≡ 48 + n = rw (lt-ltb n 10 h) in
    record { value = omega arith; digits = (omega arith, omega arith, tt); first = λ z. omega arith }

-- one digit more
digit_more : (n : ℕ) (l : List ℕ) → 10 ≤ n → Decimal (n / 10) l → Decimal n (l ++ (digit (n % 10) ∷ []))
digit_more n l h p =
    let d : n % 10 < 10 = mod-lt n (lit< tt) in
    let e : digit (n % 10) ≡ 48 + n % 10 = rw (lt-ltb (n % 10) 10 d) in
    let v = p.value in
    let all = div-add-mod' n 10 in
    record {
      value = value_snoc 0 l (digit (n % 10)) ∙ omega arith;
      digits = digits_snoc l (digit (n % 10)) p.digits (omega arith) (omega arith);
      first = λ z. absurd (leads l p z);
    }
  where
    leads : (k : List ℕ) → Decimal (n / 10) k → get_or (k ++ (digit (n % 10) ∷ [])) 0 0 ≡ 48 → ⊥
    leads [] q z = let v : 0 ≡ n / 10 = q.value in omega arith
    leads (x ∷ k) q z = let v : n / 10 ≡ 0 = q.first z in omega arith

spells : (most n : ℕ) → n < 10 ^ most → Decimal n (spelled most n)
unfolding spelled
spells zero n h = let e : n < 1 = h in record { value = omega arith; digits = tt; first = λ z. absurd (omega arith) }
spells (suc most) n h = pick (spells most (n / 10) ((div-lt_iff_lt-mul {k = 10} {x = n} {y = 10 ^ most} (lit< tt)).1 (subst (λ (x : ℕ). n < x) (pow-suc 10 most)
    h))) (ltb n 10) refl
  where
    pick : Decimal (n / 10) (spelled most (n / 10)) → (b : Bool)
        → ltb n 10 ≡ b → Decimal n (cond b (digit n ∷ []) (spelled most (n / 10) ++ (digit (n % 10) ∷ [])))
    pick p true e = one_digit n (ltb-true n 10 e)
    pick p false e = digit_more n (spelled most (n / 10)) (ltb-false n 10 e) p

-- ---- the statement
read_back : (kind refusal : ℕ) (bytes rest : List ℕ) → kind + 128 < 32768
    → (reply_kind (reply_of kind refusal bytes ++ rest) ≡ kind) × (reply_refusal (reply_of kind refusal bytes ++ rest) ≡ refusal)
    × (reply_size (reply_of kind refusal bytes ++ rest) ≡ 5 + length bytes) × (reply_data (reply_of kind refusal bytes ++ rest) ≡ bytes)
read_back kind refusal bytes rest h =
    let l = reply_of kind refusal bytes ++ rest in
    let size : reply_size l ≡ 5 + length bytes = omega (arith, two_bytes (3 + length bytes)) in
    let k : reply_kind l ≡ kind = core_kind kind (word_at l 2) (omega arith) (two_bytes (kind + 128)) in
    let n : reply_size l - 5 ≡ length bytes = omega arith in
    (k, refl, size, ap (λ (i : ℕ). take i (bytes ++ rest)) n ∙ take-append_seam bytes rest)

pub listings : Listings
listings = record {
  printed = λ words first second input g A h p.
      let r = run_of (reset_card g) input 65536 in
      told_is printout_under input A
      ∙ text_is g input h
      ∙ ap₂ (λ (l : List ℕ) (n : ℕ). lines_of 1 l ++ end_of r.refusal n) p.replies p.taken
      ∙ ap₂ (λ (l m : List ℕ). l ++ m) (lines_are p.records (reset_card g) 65536 1 p.each) (last_is r.refusal (total (lengths p.records)));
  long = λ words first second input g A h. told_is printout_under input A ∙ long_is g input h;
  usage = λ words first second input h. ap (λ (a : Asked). text_for printout_under a input) (usage_is words first second h);
  traced = λ words first second input g A h p. told_is trace_of input A ∙ trace_is g (chosen A) input h p;
  traced_long = λ words first second input g A h. told_is trace_of input A ∙ sym (too_long_lem g.mode g.rule input h);
  read_back = λ kind refusal bytes rest h. read_back kind refusal bytes rest h;
  characters = record { decimals = λ n h. spells 20 n h; hex_digits_lem = refl };
}
