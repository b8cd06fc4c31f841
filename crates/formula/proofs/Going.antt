-- The loop of sums and products: a left operand that grows by one sign and one right operand a turn. Assumes nothing.
use mathlib.Core.Path.{◌≡◌, refl, sym, ◌∙◌, ap}
use mathlib.Core.Logic.{⊎_elim}
use mathlib.Core.List.{List, [], ◌∷◌, ◌++◌}
use Prim.Native.Nat.{ℕ, zero, suc, ◌+◌, ◌-◌, ◌≤◌, ◌<◌}
use native.Mathlib.Omega.{arith}
use lib.ListN.{length, drop, get_or, set, length-append, length-drop, drop_of_length-le, get_or-eq_default}
use lib.Seq.{sets}
use Rattle.numbers.proofs.Differences.{either}
use Rattle.formula.specs.Formula.{Operator, Plus, Less, Times, Over, Formula, Joined}
use Rattle.formula.specs.Reader.{Read, Found, Outside, Reader, then, Sign, Joins, Ends, more, joined_by}
use Rattle.formula.specs.File.{code_of}
use Rattle.formula.specs.Postfix.{postfix_of}
use Rattle.formula.specs.Told.{most_text, at_of, end_of, nowhere, longer_of, sign_code, Asks, Move, FoundTo, Reads, ReadsBy}
use Rattle.formula.proofs.Cases.{never, ends_never, more_ends, more_joins}
use Rattle.formula.proofs.Stores.{sets_append, sets_over}
use Rattle.formula.proofs.Places.{nowhere_at, longer_none, longer_is, next_at, next_end, longer_at, longer_end}
use Rattle.formula.proofs.Reading.{from, somewhere, reads_as, JoinedBehind, reads_small, asks_small}
use Rattle.formula.proofs.Measure.{left_over, right_place}

-- ---- the sign after an operand
ends_code : (sign : ℕ → Sign) (b code : ℕ) → code ≡ sign_code (sign b) → code ≡ 0 → sign b ≡ Ends
ends_code sign b code e z = go (sign b) e
  where
    go : (x : Sign) → code ≡ sign_code x → x ≡ Ends
    go Ends e = refl
    go (Joins Plus) e = absurd (omega arith)
    go (Joins Less) e = absurd (omega arith)
    go (Joins Times) e = absurd (omega arith)
    go (Joins Over) e = absurd (omega arith)

-- a sign that joins stands at a place of the text
pub record Joining (sign : ℕ → Sign) (text : List ℕ) (k code : ℕ) : Type 0 where
  pub operator : Operator
  pub sign_is : sign (get_or text k 0) ≡ Joins operator
  pub code_is : code ≡ code_of operator
  pub inside : k < length text

joins_code : (sign : ℕ → Sign) (text : List ℕ) (k code : ℕ) → sign 0 ≡ Ends → code ≡ sign_code (sign (get_or text k 0)) → (code ≡ 0 → ⊥)
    → Joining sign text k code
joins_code sign text k code z e n = go (sign (get_or text k 0)) refl e
  where
    go : (x : Sign) → sign (get_or text k 0) ≡ x → code ≡ sign_code x → Joining sign text k code
    go Ends i e = absurd (n e)
    go (Joins o) i e = record {
      operator = o;
      sign_is = i;
      code_is = e;
      inside = ⊎_elim (λ l. l) (λ l. ends_never (sym z ∙ ap sign (sym (get_or-eq_default text 0 l)) ∙ i)) (either k (length text));
    }

-- ---- one turn of the reader
module _ (sign : ℕ → Sign) (operand : Reader) (text : List ℕ) where
  -- no sign follows
  ended : (turns : ℕ) (f : Formula) (k : ℕ) → sign (get_or text k 0) ≡ Ends → more sign operand turns f (drop k text) ≡ Found f (drop k text)
  unfolding more
  ended zero f k e = refl
  ended (suc n) f k e = ⊎_elim
      (λ l. ap (more sign operand (suc n) f) (from text k l) ∙ more_ends sign operand n f (get_or text k 0) (drop (k + 1) text) e
      ∙ ap (Found f) (sym (from text k l)))
      (λ l. ap (more sign operand (suc n) f) (drop_of_length-le text l) ∙ ap (Found f) (sym (drop_of_length-le text l)))
      (either k (length text))

  -- a sign follows
  turned : (turns : ℕ) (f : Formula) (o : Operator) (k : ℕ) → sign (get_or text k 0) ≡ Joins o → k < length text → length text - k ≤ turns
      → more sign operand turns f (drop k text) ≡ then (operand (drop (k + 1) text)) (λ r rest. more sign operand (turns - 1) (Joined o f r) rest)
  turned zero f o k e l h = absurd (omega arith)
  turned (suc n) f o k e l h =
      let m : suc n - 1 ≡ n = omega arith in
      ap (more sign operand (suc n) f) (from text k l) ∙ more_joins sign operand n f (get_or text k 0) (drop (k + 1) text) o e
      ∙ ap (λ (m : ℕ). then (operand (drop (k + 1) text)) (λ r rest. more sign operand m (Joined o f r) rest)) (sym m)

-- ---- the loop, whose move begins with what the first operand left; `least` is the end of that operand's postfix
pub record Going (sign : ℕ → Sign) (operand : Reader) (text : List ℕ) (m : Move) (least : ℕ) : Type 0 where
  pub so_far : Read
  pub turns : ℕ
  pub enough : length text - at_of m.next ≤ turns
  pub goes : joined_by sign operand (drop (at_of m.place) text) ≡ then so_far (λ l rest. more sign operand turns l rest)
  pub reads : Reads text m so_far
  pub since : (m.next ≡ nowhere → ⊥) → least ≤ end_of m.next

-- the same part, its postfix stored over something else
retold : {text : List ℕ} {m : Move} {start left : List ℕ} {f : Formula} {rest : List ℕ} → FoundTo text m f rest
    → left ≡ sets start (end_of m.place) (postfix_of f) → FoundTo text (record { place = m.place; next = m.next; before = start; after = left }) f rest
retold T e = record { rest_is = T.rest_is; end_is = T.end_is; stored_is = e; later = T.later; inside = T.inside; few = T.few }

-- the right operand behind the sign where m ended, and m gone on over it
abbrev right_of : Move → ℕ → List ℕ → Move
right_of m q middle = record { place = m.next + 1; next = q; before = m.after; after = middle }

abbrev on_to : Move → ℕ → List ℕ → Move
on_to m r left = record { place = m.place; next = r; before = m.before; after = left }

-- the place behind the sign
next : {sign : ℕ → Sign} {text : List ℕ} {code : ℕ} (p : ℕ) → length text ≤ most_text → Joining sign text (at_of p) code → (at_of (p + 1) ≡ at_of p + 1)
    × (end_of (p + 1) ≡ end_of p)
next p short J = (next_at p (omega (arith, J.inside)), next_end p (omega (arith, J.inside)))

module _ {sign : ℕ → Sign} {operand : Reader} {text : List ℕ} {place : ℕ} (short : length text ≤ most_text) where
  -- the first operand
  pub going_starts : {before start : List ℕ} {p : ℕ} → ReadsBy operand text (record { place = place; next = p; before = before; after = start })
      → Going sign operand text (record { place = place; next = p; before = start; after = start }) (end_of p)
  going_starts {before} {start} {p} R = go (operand (drop (at_of place) text)) refl R
    where
      go : (x : Read) → operand (drop (at_of place) text) ≡ x → Reads text (record { place = place; next = p; before = before; after = start }) x
          → Going sign operand text (record { place = place; next = p; before = start; after = start }) (end_of p)
      go (Found f rest) e R =
          let T = R.told in
          let n : length rest ≡ length text - at_of p = ap length T.rest_is ∙ length-drop (at_of p) text in
          record {
            so_far = Found f rest;
            turns = length rest;
            enough = omega arith;
            goes = ap (λ (x : Read). then x (λ l u. more sign operand (length u) l u)) e;
            reads = record {
              told = retold T (T.stored_is ∙ sym (ap (λ (l : List ℕ). sets l (end_of place) (postfix_of f)) T.stored_is
                  ∙ sets_over (postfix_of f) (postfix_of f) before (end_of place) (omega arith)));
            };
            since = λ h. omega arith;
          }
      go Outside e R =
          record {
            so_far = Outside;
            turns = length text;
            enough = omega arith;
            goes = ap (λ (x : Read). then x (λ l u. more sign operand (length u) l u)) e;
            reads = record { told = R.told };
            since = λ h. omega arith;
          }

  -- no sign follows
  pub going_ends : {before start after : List ℕ} {q p code : ℕ}
      → ReadsBy operand text (record { place = place; next = q; before = before; after = start })
      → Going sign operand text (record { place = place; next = p; before = start; after = after }) (end_of q)
      → code ≡ sign_code (sign (get_or text (at_of p) 0)) → code ≡ 0
      → ReadsBy (joined_by sign operand) text (record { place = place; next = p; before = before; after = after })
  going_ends {before} {start} {after} {q} {p} {code} Q G s z = go G.so_far G.goes G.reads (operand (drop (at_of place) text)) refl Q
    where
      e : sign (get_or text (at_of p) 0) ≡ Ends
      e = ends_code sign (get_or text (at_of p) 0) code s z

      go : (x : Read) → joined_by sign operand (drop (at_of place) text) ≡ then x (λ l rest. more sign operand G.turns l rest)
          → Reads text (record { place = place; next = p; before = start; after = after }) x → (y : Read) → operand (drop (at_of place) text) ≡ y
          → Reads text (record { place = place; next = q; before = before; after = start }) y
          → ReadsBy (joined_by sign operand) text (record { place = place; next = p; before = before; after = after })
      go Outside g R y f Q = reads_as g (record { told = R.told })
      go (Found l rest) g R Outside f Q =
          let h = ap (λ (r : List ℕ). more sign operand G.turns l r) R.told.rest_is ∙ ended sign operand text G.turns l (at_of p) e in
          never (sym (ap (λ (x : Read). then x (λ l u. more sign operand (length u) l u)) f) ∙ g ∙ h)
      go (Found l rest) g R (Found k left) f Q =
          let T = R.told in
          let S = Q.told in
          let n : length (postfix_of k) ≤ length (postfix_of l) = omega (arith, G.since (somewhere text p short T.inside), T.end_is, S.end_is) in
          reads_as
          (g ∙ ap (λ (r : List ℕ). more sign operand G.turns l r) T.rest_is ∙ ended sign operand text G.turns l (at_of p) e
          ∙ ap (Found l) (sym T.rest_is))
          (record {
            told = retold T (T.stored_is ∙ ap (λ (r : List ℕ). sets r (end_of place) (postfix_of l)) S.stored_is ∙ sets_over (postfix_of k) (postfix_of l)
                before (end_of place) n);
          })

-- ---- a turn of the loop, from its test: the sign that stands there, what its right operand asks, and where that begins: there is room for one more byte of
-- postfix
pub record Turn (sign : ℕ → Sign) (operand : Reader) (text : List ℕ) (m : Move) (least code : ℕ) : Type 0 where
  pub going : Going sign operand text m least
  pub joining : Joining sign text (at_of m.next) code
  pub asks : Asks text (m.next + 1)
  pub later : at_of m.place < at_of (m.next + 1)
  pub room : end_of (m.next + 1) < at_of (m.next + 1)

pub turn : {sign : ℕ → Sign} {operand : Reader} {text : List ℕ} {m : Move} {least code : ℕ} → Asks text m.place
    → Going sign operand text m least → sign 0 ≡ Ends → code ≡ sign_code (sign (get_or text (at_of m.next) 0)) → (code ≡ 0 → ⊥)
    → Turn sign operand text m least code
turn {sign} {operand} {text} {m} {least} {code} A G z e n = go G.so_far G.reads
  where
    J : Joining sign text (at_of m.next) code
    J = joins_code sign text (at_of m.next) code z e n

    go : (x : Read) → Reads text m x → Turn sign operand text m least code
    go Outside R = absurd (let z = ap at_of R.told ∙ nowhere_at in omega (arith, J.inside, A.short))
    go (Found l rest) R =
        let N = next m.next A.short J in
        record {
          going = G;
          joining = J;
          asks = record { short = A.short; inside = omega (arith, N.0, J.inside); few = omega (arith, N.0, N.1, A.few, R.told.few) };
          later = omega (arith, N.0, R.told.later);
          room = omega (arith, N.0, N.1, A.few, R.told.few);
        }

module _ {sign : ℕ → Sign} {operand : Reader} {text : List ℕ} {m : Move} {least code : ℕ} (T : Turn sign operand text m least code) where
  G : Going sign operand text m least
  G = T.going

  J : Joining sign text (at_of m.next) code
  J = T.joining

  -- the place behind the sign is a small number
  pub sign_small : m.next + 1 < 200000
  sign_small = asks_small T.asks

  -- less is left for the right operand, which is of a lower rank
  pub right_asks : (rank depth t : ℕ) → left_over (rank + 1) text (at_of m.place) depth ≡ t
      → (left_over rank text (at_of (m.next + 1)) depth < t) × Asks text (m.next + 1)
  right_asks rank depth t e = (right_place rank text (at_of m.place) (at_of (m.next + 1)) depth t e T.later, T.asks)

  module _ {middle : List ℕ} {q : ℕ} (Q : ReadsBy operand text (right_of m q middle)) where
    pub right_small : q < 131072
    right_small = reads_small _ T.asks.short T.room Q

    -- the text that is left falls
    pub going_less : {left : List ℕ} {r : ℕ} → JoinedBehind (right_of m q middle) (on_to m r left) code → length text - at_of r < length text - at_of m.next
    going_less {left} {r} E = go _ Q
      where
        go : (x : Read) → Reads text (right_of m q middle) x → length text - at_of r < length text - at_of m.next
        go Outside Q = let z = ap at_of (E.0 ∙ longer_none q Q.told) ∙ nowhere_at in omega (arith, J.inside, T.asks.short)
        go (Found f rest) Q =
            let z = ap at_of (E.0 ∙ longer_is q (somewhere text q T.asks.short Q.told.inside)) ∙ longer_at q in
            omega (arith, (next m.next T.asks.short J).0, J.inside, Q.told.later)

    pub going_on : {left : List ℕ} {r : ℕ} → JoinedBehind (right_of m q middle) (on_to m r left) code → Going sign operand text (on_to m r left) least
    unfolding postfix_of
    going_on {left} {r} E = go G.so_far G.goes G.reads (operand (drop (at_of (m.next + 1)) text)) refl Q
      where
        short : length text ≤ most_text
        short = T.asks.short

        is : r ≡ longer_of q
        is = E.0

        w : (q ≡ nowhere → ⊥) → left ≡ set middle (end_of q) code
        w = E.1

        o : Operator
        o = J.operator

        further : (l : Formula) (rest : List ℕ) (y : Read) → joined_by sign operand (drop (at_of m.place) text) ≡ more sign operand G.turns l rest
            → rest ≡ drop (at_of m.next) text → operand (drop (at_of (m.next + 1)) text) ≡ y
            → joined_by sign operand (drop (at_of m.place) text) ≡ then y (λ r rest. more sign operand (G.turns - 1) (Joined o l r) rest)
        further l rest y g e f =
            g ∙ ap (λ (s : List ℕ). more sign operand G.turns l s) e ∙ turned sign operand text G.turns l o (at_of m.next) J.sign_is J.inside
            G.enough ∙ ap (λ (x : Read). then x (λ r rest. more sign operand (G.turns - 1) (Joined o l r) rest))
            (ap (λ (k : ℕ). operand (drop k text)) (sym (next m.next short J).0) ∙ f)

        go : (x : Read) → joined_by sign operand (drop (at_of m.place) text) ≡ then x (λ l rest. more sign operand G.turns l rest)
            → Reads text m x
            → (y : Read) → operand (drop (at_of (m.next + 1)) text) ≡ y → Reads text (right_of m q middle) y
            → Going sign operand text (on_to m r left) least
        go Outside g R y f Q = absurd (let z = ap at_of R.told ∙ nowhere_at in omega (arith, J.inside))
        go (Found l rest) g R Outside f Q =
            record {
              so_far = Outside;
              turns = length text;
              enough = omega arith;
              goes = further l rest Outside g R.told.rest_is f;
              reads = record { told = is ∙ longer_none q Q.told };
              since = λ h. absurd (h (is ∙ longer_none q Q.told));
            }
        go (Found l rest) g R (Found k u) f Q =
            let T = R.told in
            let S = Q.told in
            let a = postfix_of l in
            let b = postfix_of k in
            let c : List ℕ = code_of o ∷ [] in
            let some = somewhere text q short S.inside in
            let is' = is ∙ longer_is q some in
            let ra = ap at_of is' ∙ longer_at q in
            let re = ap end_of is' ∙ longer_end q in
            let pa = (next m.next short J).0 in
            let pe = (next m.next short J).1 in
            record {
              so_far = Found (Joined o l k) u;
              turns = G.turns - 1;
              enough = omega (arith, J.inside, G.enough, S.later);
              goes = further l rest (Found k u) g T.rest_is f;
              reads = record {
                told = record {
                  rest_is = S.rest_is ∙ ap (λ (i : ℕ). drop i text) (sym ra);
                  end_is = omega (arith, T.end_is, S.end_is, length-append a (b ++ c), length-append b c);
                  stored_is = w some ∙ ap (λ (x : ℕ). set middle (end_of q) x) J.code_is
                      ∙ ap (λ (s : List ℕ). sets s (end_of q) c) (S.stored_is ∙ ap (λ (i : ℕ). sets m.after i b) pe)
                      ∙ sets_append b c m.after (end_of m.next) (end_of q) (omega (arith, S.end_is))
                      ∙ ap (λ (s : List ℕ). sets s (end_of m.next) (b ++ c)) T.stored_is
                      ∙ sets_append a (b ++ c) m.before (end_of m.place) (end_of m.next) T.end_is;
                  later = omega (arith, T.later, S.later);
                  inside = omega (arith, S.inside);
                  few = omega (arith, T.few, S.few);
                };
              };
              since = λ h. omega (arith, G.since (somewhere text m.next short T.inside), S.end_is);
            }
