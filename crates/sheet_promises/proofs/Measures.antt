-- The book's measures are the crates' own: which bytes are a state and a list of sheets, and what becomes of the slice. Assumes nothing.
use mathlib.Core.Path.{◌≡◌, refl, ap, ◌∙◌}
use mathlib.Core.List.{List, [], ◌∷◌, ◌++◌, append_assoc, append-nil}
use Prim.Native.Nat.{ℕ, zero, suc, ◌+◌, ◌*◌, ◌-◌, ◌/◌, ◌%◌, ◌≤◌, ◌<◌}
use native.Mathlib.Omega.{arith}
use lib.ListN.{length, set, take, drop, replicate, length-append, length-drop, length-set, drop_of_length-le}
use lib.Seq.{take-append-le, take-append-add, drop-append-le, length-take-le, set_split, take-take}
use Rattle.record_files.proofs.Through.{drop_take}
use Rattle.stack.specs.Stack.{tos, Bytes as StackBytes}
use Rattle.numbers.specs.Little.{le4}
use Rattle.state_bytes.specs.Bytes.{is_state as storedState}
use Rattle.sheet_bytes.specs.Ledger as ledger
use Rattle.sheet_bytes.proofs.Laid.{parts}
use Rattle.sheet_bytes.proofs.Ledgers.{length-laid, length-line}
use Rattle.sheet_promises.specs.Bytes.{Bytes, zeros, part}
use Rattle.sheet_promises.specs.Sheets.{is_sheets, places, closed_sheets, number_in, dropped, opened, kept, closed, with_bit, open_serial, open_words, kept_bits}
use Rattle.sheet_promises.specs.Runs.{is_state}

pub bytes_are : (l : List ℕ) → Bytes l → StackBytes l
bytes_are [] h = tt
bytes_are (b ∷ l) h = (h.0, bytes_are l h.1)

pub state_is : (l : List ℕ) → is_state l ≡ storedState l
unfolding storedState
state_is l = refl

pub sheets_is : (l : List ℕ) → is_sheets l ≡ ledger.is_sheets l
unfolding ledger.is_sheets
sheets_is l = refl

pub places_are : (n : ℕ) (l : List ℕ) → ledger.lines n l ≡ places n l
places_are zero l = refl
places_are (suc n) l = ap (λ (ls : List (List ℕ)). take 20 l ∷ ls) (places_are n (drop 20 l))

pub closed_sheets_lem : (l : List ℕ) → ledger.lines_of l ≡ closed_sheets l
closed_sheets_lem l = places_are (number_in l) (drop 1 l)

-- ---- the slice after a record, of 1,303 bytes

-- bytes laid to the end of the slice
to_end : (l : List ℕ) (at : ℕ) (vs : List ℕ) → at + length vs ≡ length l → ledger.laid_at l at vs ≡ take at l ++ vs
to_end l at vs e =
    parts l at vs (omega arith)
    ∙ ap (λ (v : List ℕ). take at l ++ v) (ap (λ (v : List ℕ). vs ++ v) (drop_of_length-le l {i = at + length vs} (omega arith)) ∙ append-nil vs)

module _ (l : List ℕ) (long : length l ≡ 1303) where
  pub dropped_is : ledger.dropped l ≡ dropped l
  dropped_is = to_end l 1281 (replicate 22 0) (omega arith)

  pub opened_is : (serial : List ℕ) → length serial ≡ 4 → ledger.opened l serial ≡ opened l serial
  opened_is serial h =
      let n : length (1 ∷ (serial ++ replicate 17 0)) ≡ 22 = let a = length-append serial (replicate 17 0) in omega arith in
      to_end l 1281 (1 ∷ (serial ++ replicate 17 0)) (omega arith)

  pub kept_is : (slot : ℕ) (word : List ℕ) → slot ≤ 3 → length word ≡ 4 → ledger.kept_in l slot word ≡ kept l slot word
  kept_is slot word small four =
      let at : ℕ = 1287 + 4 * slot in
      let fits : at + length word ≤ length l = omega arith in
      let x : ℕ = with_bit slot (kept_bits l) in
      let w : List ℕ = ledger.laid_at l at word in
      let lw : length w ≡ 1303 = length-laid l at word fits ∙ long in
      let e : at + length word ≡ 1291 + 4 * slot = omega arith in
      let p : w ≡ take at l ++ (word ++ drop (1291 + 4 * slot) l) = parts l at word fits ∙ ap (λ (n : ℕ). take at l ++ (word ++ drop n l)) e in
      let n : length (take at l) ≡ at = length-take-le at l (omega arith) in
      let front : take 1286 w ≡ take 1286 l = ap (take 1286) p ∙ take-append-le 1286 (take at l) (word ++ drop (1291 + 4 * slot) l) (omega arith)
      ∙ take-take 1286 at l (omega arith) in
      let back : drop 1287 w ≡ part l 1287 (4 * slot) ++ (word ++ drop (1291 + 4 * slot) l) =
      ap (drop 1287) p ∙ drop-append-le 1287 (take at l) (word ++ drop (1291 + 4 * slot) l) (omega arith)
      ∙ ap (λ (v : List ℕ). v ++ (word ++ drop (1291 + 4 * slot) l)) (drop_take 1287 (4 * slot) l) in
      set_split w 1286 x (omega arith) ∙ rw (front, back)

  pub closed_is : number_in l < 64 → ledger.closed l ≡ closed l
  closed_is few =
      let n : ℕ = number_in l in
      let line : List ℕ = open_serial l ++ open_words l in
      let ll : length line ≡ 20 = length-line l long in
      let at : ℕ = 1 + 20 * n in
      let fits : at + length line ≤ length l = omega arith in
      let w : List ℕ = ledger.laid_at l at line in
      let lw : length w ≡ 1303 = length-laid l at line fits ∙ long in
      let e : at + length line ≡ 21 + 20 * n = omega arith in
      let rest : List ℕ = drop (21 + 20 * n) l in
      let p : w ≡ take at l ++ (line ++ rest) = parts l at line fits ∙ ap (λ (k : ℕ). take at l ++ (line ++ drop k l)) e in
      let s : List ℕ = set w 0 (n + 1) in
      let is : s ≡ (n + 1) ∷ drop 1 w = set_split w 0 (n + 1) (omega arith) in
      let ls : length s ≡ 1303 = length-set w 0 (n + 1) ∙ lw in
      let front : length (take at l) ≡ at = length-take-le at l (omega arith) in
      let back : drop 1 w ≡ part l 1 (20 * n) ++ (line ++ rest) =
      ap (drop 1) p ∙ drop-append-le 1 (take at l) (line ++ rest) (omega arith) ∙ ap (λ (v : List ℕ). v ++ (line ++ rest)) (drop_take 1 (20 * n) l) in
      to_end s 1281 (replicate 22 0) (omega arith)
      ∙ ap (λ (v : List ℕ). take 1281 v ++ zeros 22) (is ∙ ap (λ (v : List ℕ). (n + 1) ∷ v) back)
      ∙ ap (λ (v : List ℕ). (n + 1) ∷ (v ++ zeros 22)) (cut_list n line rest ll few)
      ∙ ap (λ (v : List ℕ). (n + 1) ∷ v) (spread (part l 1 (20 * n)) (open_serial l) (open_words l) (part l (21 + 20 * n) (1260 - 20 * n)))
    where
      -- the first 1,280 bytes behind the number
      cut_list : (n : ℕ) (line rest : List ℕ) → length line ≡ 20 → n < 64
          → take 1280 (part l 1 (20 * n) ++ (line ++ rest)) ≡ part l 1 (20 * n) ++ (line ++ take (1260 - 20 * n) rest)
      cut_list n line rest h few =
          let d = length-drop 1 l in
          let a : length (part l 1 (20 * n)) ≡ 20 * n = length-take-le (20 * n) (drop 1 l) (omega arith) in
          let x : 1280 ≡ length (part l 1 (20 * n)) + (length line + (1260 - 20 * n)) = omega arith in
          ap (λ (k : ℕ). take k (part l 1 (20 * n) ++ (line ++ rest))) x
          ∙ take-append-add (part l 1 (20 * n)) (line ++ rest) (length line + (1260 - 20 * n))
          ∙ ap (λ (v : List ℕ). part l 1 (20 * n) ++ v) (take-append-add line rest (1260 - 20 * n))

      spread : (a b c d : List ℕ) → (a ++ ((b ++ c) ++ d)) ++ zeros 22 ≡ a ++ (b ++ (c ++ (d ++ zeros 22)))
      spread a b c d =
          append_assoc a ((b ++ c) ++ d) (zeros 22)
          ∙ ap (λ (v : List ℕ). a ++ v) (append_assoc (b ++ c) d (zeros 22) ∙ append_assoc b c (d ++ zeros 22))

-- ---- the word on top, lowest byte first
pub top_bytes : (a b c d : ℕ) (l : List ℕ) → a < 256 → b < 256 → c < 256 → d < 256 → le4 (tos 4 (a ∷ b ∷ c ∷ d ∷ l)) ≡ d ∷ c ∷ b ∷ a ∷ []
top_bytes a b c d l ha hb hc hd =
    let n : ℕ = tos 4 (a ∷ b ∷ c ∷ d ∷ l) in
    let p : n / 256 ≡ (a * 256 + b) * 256 + c = omega arith in
    let q : n / 65536 ≡ a * 256 + b = omega arith in
    let r : n / 16777216 ≡ a = omega arith in
    let w : n % 256 ≡ d = omega arith in
    let x : n / 256 % 256 ≡ c = rw p (omega arith) in
    let y : n / 65536 % 256 ≡ b = rw q (omega arith) in
    let z : n / 16777216 % 256 ≡ a = rw r (omega arith) in
    rw (w, x, y, z)
