-- The book's history of a file, by the core's own call on bytes, is that over cards. Assumes nothing.
use mathlib.Core.Path.{◌≡◌, refl, sym, ap, ap₂, subst, ◌∙◌}
use mathlib.Core.Bool.{Bool, true, false, cond}
use mathlib.Core.List.{List, [], ◌∷◌, ◌++◌, append_assoc, append-nil}
use Prim.Native.Nat.{ℕ, zero, suc, ◌+◌, ◌≤◌, zero-le}
use native.Mathlib.Omega.{arith}
use native.Mathlib.Nat.{le_refl}
use lib.ListN.{length, get_or, take, drop, length-append, length-drop, length-replicate}
use lib.Seq.{length-take-le}
use Rattle.numbers.specs.Little.{word_at}
use Rattle.stack.specs.Stack.{Bytes as StackBytes}
use Rattle.stack.proofs.Words.{bytes_append, bytes_take, bytes_drop}
use Rattle.error_memory.specs.Memory.{Card}
use Rattle.record_files.proofs.Tests.{either_lt}
use Rattle.record_runs.specs.Run.{run_of as coreRun}
use Rattle.record_runs.proofs.Ready.{run_ready}
use Rattle.state_bytes.specs.Bytes.{is_state as storedState, card_in, laid_out}
use Rattle.state_bytes.proofs.Cards.{card_ready}
use Rattle.state_bytes.specs.Calls.{Called as CoreCalled, settings_of}
use Rattle.state_bytes.proofs.Calling.{good as core-good}
use Rattle.sheet_promises.specs.Bytes.{zeros}
use Rattle.sheet_promises.specs.Records.{kind_of, is_own_kind, split, records_of, joined, struck}
use Rattle.sheet_promises.specs.History.{Entry, state_after, entry_at, history_from}
use Rattle.sheet_promises.proofs.Turns.{pending_is, top_is}
use Rattle.sheet_promises.proofs.CardHistory.{card_after, entry_on, card_history}

-- ---- the bytes of some records

-- what follows a list of records, put behind it
joined_snoc : (before : List (List ℕ)) (r : List ℕ) → joined (before ++ (r ∷ [])) ≡ joined before ++ r
joined_snoc [] r = append-nil r
joined_snoc (b ∷ bs) r = ap (λ (k : List ℕ). b ++ k) (joined_snoc bs r) ∙ sym (append_assoc b (joined bs) r)

-- bytes, and so many of them at most
pub record Small (l : List ℕ) (n : ℕ) : Type 0 where
  pub bytes : StackBytes l
  pub few : length l ≤ n

-- the bytes of two parts
part_bytes : (r k : List ℕ) → StackBytes (r ++ k) → StackBytes r × StackBytes k
part_bytes [] k h = (tt, h)
part_bytes (x ∷ r) k h = let p = part_bytes r k h.1 in ((h.0, p.0), p.1)

-- what holds with a record struck out and with it left
either_record : (P : List (List ℕ) → Type 0) (b : Bool) (r : List ℕ) (rs : List (List ℕ)) → P rs → P (r ∷ rs) → P (cond b rs (r ∷ rs))
either_record P true r rs x y = x
either_record P false r rs x y = y

fewer : (rs : List (List ℕ)) → length (joined (struck rs)) ≤ length (joined rs)
fewer [] = le_refl 0
fewer (r ∷ rs) =
    let a = fewer rs in
    let b = length-append r (joined rs) in
    let d = length-append r (joined (struck rs)) in
    either_record (λ (k : List (List ℕ)). length (joined k) ≤ length (r ++ joined rs)) (is_own_kind (kind_of r)) r (struck rs) (omega arith) (omega arith)

still_bytes : (rs : List (List ℕ)) → StackBytes (joined rs) → StackBytes (joined (struck rs))
still_bytes [] h = tt
still_bytes (r ∷ rs) h =
    let p = part_bytes r (joined rs) h in
    let k = still_bytes rs p.1 in
    either_record (λ (k : List (List ℕ)). StackBytes (joined k)) (is_own_kind (kind_of r)) r (struck rs) k (bytes_append r (joined (struck rs)) p.0 k)

-- struck out there are no more
pub struck_small : (rs : List (List ℕ)) (n : ℕ) → Small (joined rs) n → Small (joined (struck rs)) n
struck_small rs n s = record { bytes = still_bytes rs s.bytes; few = let a = fewer rs in let b = s.few in omega arith }

-- the whole records of some bytes are no more than those
pub records_small : (l : List ℕ) → StackBytes l → Small (joined (records_of l)) (length l)
unfolding split records_of
records_small l b = go (length l) l b
  where
    go : (f : ℕ) (l : List ℕ) → StackBytes l → Small (joined (split f l)) (length l)
    go zero l b = record { bytes = tt; few = zero-le }
    go (suc f) l b =
        either_lt (λ (rs : List (List ℕ)). Small (joined rs) (length l)) (length l) 2 _ _ (λ x. record { bytes = tt; few = zero-le }) (λ x.
        either_lt (λ (rs : List (List ℕ)). Small (joined rs) (length l)) (length l) (2 + word_at l 0) _ _ (λ y. record { bytes = tt; few = zero-le }) (λ y.
        let n : ℕ = 2 + word_at l 0 in
        let s = go f (drop n l) (bytes_drop n l b) in
        let a = length-append (take n l) (joined (split f (drop n l))) in
        let d = length-drop n l in
        let e = length-take-le n l y in
        let w = s.few in
        record { bytes = bytes_append (take n l) (joined (split f (drop n l))) (bytes_take n l b) s.bytes; few = omega arith }))

front_small : (a b : List ℕ) {n : ℕ} → Small (a ++ b) n → Small a n
front_small a b s = let d = length-append a b in let f = s.few in record { bytes = (part_bytes a b s.bytes).0; few = omega arith }

-- ---- the history

module _ (mode rule : ℕ) (m : mode ≤ 1) (q : rule ≤ 1) (state : List ℕ) (B : StackBytes state) (g : storedState state ≡ true) (room : ℕ) where
  abbrev card : Card
  card = card_in (settings_of mode rule) state

  state_after_lem : (before : List (List ℕ)) → Small (joined (struck before)) 12288 → state_after mode rule state room before
      ≡ laid_out (length state) (card_after card room before)
  state_after_lem before s =
      ap (λ (a : CoreCalled). a.state) (core-good mode rule state (joined (struck before)) (zeros room) (zeros 9) refl m q g s.few)
      ∙ ap (λ (k : ℕ). laid_out (length state) (coreRun card (joined (struck before)) k).state) (length-replicate {A = ℕ} room 0)

  entry_is : (before : List (List ℕ)) (r : List ℕ) (n : ℕ) → Small (joined before) 12288 → entry_at (state_after mode rule state room before) r n
      ≡ entry_on (card_after card room before) r n
  entry_is before r n s =
      let t = struck_small before 12288 s in
      let c = card_after card room before in
      let ready = run_ready card (joined (struck before)) room (card_ready (settings_of mode rule) state B g) t.bytes in
      ap (λ (k : List ℕ). entry_at k r n) (state_after_lem before t)
      ∙ ap₂ (λ (w : List ℕ) (p : Bool). record { bytes = r; refusal = n; top = w; pending = p }) (top_is c ready (length state))
      (pending_is c ready (length state))

  pub history_is : (before rs qs : List (List ℕ)) (es : List Entry) → Small (joined before ++ joined rs) 12288
      → history_from mode rule state room before rs qs es ≡ card_history card room before rs qs es
  history_is before [] qs es s = refl
  history_is before (r ∷ rs) [] es s = refl
  history_is before (r ∷ rs) (p ∷ ps) es s =
      let moved : joined before ++ (r ++ joined rs) ≡ joined (before ++ (r ∷ [])) ++ joined rs =
      sym (append_assoc (joined before) r (joined rs)) ∙ ap (λ (k : List ℕ). k ++ joined rs) (sym (joined_snoc before r)) in
      let first : Small (joined before) 12288 = front_small (joined before) (r ++ joined rs) s in
      history_is (before ++ (r ∷ [])) rs ps (entry_at (state_after mode rule state room before) r (get_or p 4 0) ∷ es)
      (subst (λ (k : List ℕ). Small k 12288) moved s)
      ∙ ap (λ (e : Entry). card_history card room (before ++ (r ∷ [])) rs ps (e ∷ es)) (entry_is before r (get_or p 4 0) first)

  -- of a file of at most 12,288 bytes
  pub file_history : (file : List ℕ) (qs : List (List ℕ)) (es : List Entry) → StackBytes file → length file ≤ 12288
      → history_from mode rule state room [] (records_of file) qs es ≡ card_history card room [] (records_of file) qs es
  file_history file qs es b n =
      let s = records_small file b in
      let f = s.few in
      history_is [] (records_of file) qs es (record { bytes = s.bytes; few = omega arith })
