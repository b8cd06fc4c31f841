-- Where the core's run of a file's records stands, kinds 256 to 258 struck out: it has ended with 0, and the card and the room that it left are those of the
-- run with sheets. Assumes nothing.
use mathlib.Core.Path.{◌≡◌, refl, sym, ap, subst, ◌∙◌}
use mathlib.Core.Bool.{Bool, true, false, cond}
use mathlib.Core.List.{List, [], ◌∷◌, ◌++◌, append_assoc, append-nil}
use Prim.Native.Nat.{ℕ, ◌+◌, ◌-◌, ◌≤◌, ◌<◌}
use native.Mathlib.Omega.{arith}
use lib.ListN.{length, take, length-append}
use Rattle.numbers.specs.Little.{word_at}
use Rattle.record_files.specs.Run.{Outcome, after, took}
use Rattle.record_files.proofs.Append.{nothing, alone, appended}
use Rattle.error_memory.specs.Memory.{Card}
use Rattle.record_runs.specs.Record.{turn_of}
use Rattle.record_runs.specs.Run.{run_of as coreRun}
use Rattle.record_runs.proofs.Prefix.{lawful as core-lawful}
use Rattle.sheets.specs.Step.{is_own_kind}
use Rattle.sheet_promises.specs.Records.{joined, struck}

-- ---- one record more, struck out or not

struck_own : (before : List (List ℕ)) (r : List ℕ) → is_own_kind (word_at r 2) ≡ true → struck (before ++ (r ∷ [])) ≡ struck before
struck_own [] r k = rw k
struck_own (b ∷ bs) r k = ap (λ (rs : List (List ℕ)). cond (is_own_kind (word_at b 2)) rs (b ∷ rs)) (struck_own bs r k)

struck_core : (before : List (List ℕ)) (r : List ℕ) → is_own_kind (word_at r 2) ≡ false → joined (struck (before ++ (r ∷ []))) ≡ joined (struck before) ++ r
struck_core [] r k = rw k (append-nil r)
struck_core (b ∷ bs) r k = pick (is_own_kind (word_at b 2)) (struck_core bs r k)
  where
    pick : (x : Bool) → joined (struck (bs ++ (r ∷ []))) ≡ joined (struck bs) ++ r
        → joined (cond x (struck (bs ++ (r ∷ []))) (b ∷ struck (bs ++ (r ∷ [])))) ≡ joined (cond x (struck bs) (b ∷ struck bs)) ++ r
    pick true e = e
    pick false e = ap (λ (v : List ℕ). b ++ v) e ∙ sym (append_assoc b (joined (struck bs)) r)

-- ---- where the core stands

pub record Standing (o : Outcome Card) (room : ℕ) (card : Card) (left : ℕ) : Type 0 where
  pub ended_is : o.refusal ≡ 0
  pub card_is : o.state ≡ card
  pub left_is : left + length o.written ≤ room

abbrev pub Stands : Card → ℕ → List (List ℕ) → Card → ℕ → Type 0
Stands c room before card left = Standing (coreRun c (joined (struck before)) room) room card left

-- before the first record
pub at_start_lem : (c : Card) (room : ℕ) → Stands c room [] c room
at_start_lem c room = rw (nothing core-lawful c room) record { ended_is = refl; card_is = refl; left_is = omega arith }

-- a record of this library: the core does not see it
pub past_own : (c : Card) (room : ℕ) (before : List (List ℕ)) (r : List ℕ) (card : Card) (left less : ℕ) → is_own_kind (word_at r 2) ≡ true → less ≤ left
    → Stands c room before card left → Stands c room (before ++ (r ∷ [])) card less
past_own c room before r card left less k f s =
    let l = s.left_is in
    rw (struck_own before r k) record { ended_is = s.ended_is; card_is = s.card_is; left_is = omega arith }

-- a record that the core takes alone, in the room that is left or more
taken_alone : (card : Card) (l : List ℕ) (room more : ℕ) → (turn_of card l room).refusal ≡ 0 → 0 < length l → room ≤ more
    → coreRun card (take (turn_of card l room).taken l) more ≡ took (turn_of card l room).state (turn_of card l room).taken (turn_of card l room).written
taken_alone card l room more z p f =
    let t = turn_of card l room in
    let g = core-lawful.fits card l room z in
    let e : turn_of card l more ≡ t = core-lawful.alike card l l room more z refl (core-lawful.within card l room z) (omega arith) in
    subst (λ (u : Outcome Card). u.refusal ≡ 0 → coreRun card (take u.taken l) more ≡ took u.state u.taken u.written) e
    (alone core-lawful card l more p) z

-- a record of the core
pub past_core : (c : Card) (room : ℕ) (before : List (List ℕ)) (card : Card) (l : List ℕ) (left : ℕ) → (turn_of card l left).refusal ≡ 0 → 0 < length l
    → is_own_kind (word_at (take (turn_of card l left).taken l) 2) ≡ false
    → Stands c room before card left → Stands c room (before ++ (take (turn_of card l left).taken l ∷ [])) (turn_of card l left).state
    (left - length (turn_of card l left).written)
past_core c room before card l left z p k s =
    let t = turn_of card l left in
    let r : List ℕ = take t.taken l in
    let o = coreRun c (joined (struck before)) room in
    let f = s.left_is in
    let fits = core-lawful.fits card l left z in
    let one : coreRun o.state r (room - length o.written) ≡ took t.state t.taken t.written =
    rw s.card_is (taken_alone card l left (room - length o.written) z p (omega arith)) in
    let all : coreRun c (joined (struck before) ++ r) room ≡ after o.taken o.written (took t.state t.taken t.written) =
    appended core-lawful c (joined (struck before)) r room s.ended_is ∙ ap (after o.taken o.written) one in
    let g = length-append o.written t.written in
    rw (struck_core before r k, all) record { ended_is = refl; card_is = refl; left_is = omega arith }
