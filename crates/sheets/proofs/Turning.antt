-- A turn of the code beside its definition: a record of this library, refused or answered; one of the core, with the sheets beside it. Assumes nothing.
use mathlib.Core.Path.{◌≡◌, refl, sym, ap, subst, ◌∙◌}
use mathlib.Core.Bool.{Bool, true, false, cond}
use mathlib.Core.List.{List, ◌++◌}
use Prim.Native.Nat.{ℕ, ◌+◌, ◌≤◌, ◌<◌}
use lib.Dec.{eqb, ltb}
use lib.ListN.{length, drop}
use borrow.Author.Tests.{lt-ltb, le-ltb, eq-eqb, ne_eqb}
use Rattle.numbers.specs.Little.{word_at}
use Rattle.terms.specs.declared.Refusal.TheVariants.{BadLength, NoRoom}
use Rattle.terms.specs.Refusal.{number_of as coreNumber}
use Rattle.terms.specs.Limits.{most_payload}
use Rattle.terms.specs.declared.Settings.{Settings}
use Rattle.error_memory.specs.Memory.{Card}
use Rattle.error_memory.specs.Held.{card_under}
use Rattle.record_files.specs.Run.{Outcome, ended}
use Rattle.std.specs.Prelude.{Result}
use Rattle.terms.specs.declared.Refusal.{Refusal}
use Rattle.record_runs.specs.declared.step.Pass.{Pass}
use Rattle.record_runs.specs.Record.{frame_under, turn_of}
use Rattle.record_runs.proofs.Ready.{calm_turn}
use Rattle.chip.proofs.Ready.{Ready}
use Rattle.record_runs.specs.Held.{further, unchanged, finished, Work, Passed}
use Rattle.record_runs.proofs.Turning.{stays}
use Rattle.sheet_bytes.specs.declared.Refusal.{Refusal as SheetRefusal}
use Rattle.sheet_bytes.specs.Ledger.{bytes_at, dropped}
use Rattle.sheet_bytes.specs.Entering.{Entered, number_of, payload_for}
use Rattle.sheet_bytes.proofs.Entering.{Enters}
use Rattle.sheets.specs.Step.{Held, holding, is_framed, is_own, answered, entry_of, own_reply, own_turn, sheets_after, core_by, sheet_step}
use Rattle.sheets.specs.Held.{beside}
use Rattle.sheets.proofs.Lines.{own_kind_lem}

-- a record of a kind of this library is its own where the frame holds
pub own_frame : (l : List ℕ) → 256 ≤ word_at l 2 → word_at l 2 ≤ 258 → {f : Result ℕ Refusal} → frame_under most_payload l ≡ f → is_framed f ≡ is_own l
unfolding is_own
own_frame l a b e = rw (own_kind_lem (word_at l 2) a b, e)

-- ---- a record of this library

module _ {on : Settings} {w : Work} (sheets l : List ℕ) (er : w.left ≡ w.room) where
  pub own_bad : w.pass ≡ unchanged BadLength w.card w.place → (word_at l 0 ≡ 2 + payload_for (word_at l 2) → ⊥)
      → Passed (beside on sheets) (own_turn (beside on sheets w.card) l (length w.room)) w
  own_bad e z = rw (ne_eqb _ _ z) (stays BadLength e er)

  pub own_full : w.pass ≡ unchanged NoRoom w.card w.place → word_at l 0 ≡ 2 + payload_for (word_at l 2) → length w.room < 5
      → Passed (beside on sheets) (own_turn (beside on sheets w.card) l (length w.room)) w
  own_full e q z = rw (eq-eqb _ _ q, lt-ltb _ _ z) (stays NoRoom e er)

-- answered
pub own_done : {on : Settings} {w : Work} (before sheets l : List ℕ) (q : SheetRefusal) (end : ℕ)
    → w.pass ≡ finished w.card.chip w.card.memory (further w.place end 5) → word_at l 0 ≡ 2 + payload_for (word_at l 2) → 5 ≤ length w.room
    → Enters (entry_of (beside on before w.card) (word_at l 2) (bytes_at l 4 (payload_for (word_at l 2)))) q sheets
    → w.left ≡ own_reply (word_at l 2) (number_of q) ++ drop 5 w.room → end ≡ 4 + payload_for (word_at l 2)
    → Passed (beside on sheets) (own_turn (beside on before w.card) l (length w.room)) w
own_done {on} {w} before sheets l q end er e z n k f = rw (eq-eqb _ _ e, le-ltb _ _ z) record {
  place_is = ap (λ (x : Pass). x.place) er ∙ ap (λ (m : ℕ). further w.place m 5) f;
  refusal_is = ap (λ (x : Pass). x.refusal) er;
  state_is = ap (λ (x : Pass). beside on sheets x.card) er ∙ ap (holding (card_under on w.card)) n.1;
  left_is = k ∙ ap (λ (x : SheetRefusal). own_reply (word_at l 2) (number_of x) ++ drop 5 w.room) n.0;
  fits = z;
}

-- ---- a record of the core

module _ {on : Settings} {w : Work} (sheets : List ℕ) (kind : ℕ) {t : Outcome Card} (d : Passed (card_under on) t w) where
  core_passed : (after : List ℕ) → after ≡ sheets_after sheets kind w.pass.refusal → Passed (beside on after) (core_by (beside on sheets w.card) kind t) w
  core_passed after e = record {
    place_is = d.place_is;
    refusal_is = d.refusal_is;
    state_is = ap (λ (k : Card). holding k after) d.state_is ∙ ap (holding t.state) (e ∙ ap (sheets_after sheets kind) d.refusal_is);
    left_is = d.left_is;
    fits = d.fits;
  }

  -- the sheets stay where it is refused or no reset, else none is open
  pub core_refused : (w.pass.refusal ≡ 0 → ⊥) → Passed (beside on sheets) (core_by (beside on sheets w.card) kind t) w
  core_refused z = core_passed sheets (rw (ne_eqb w.pass.refusal 0 z))

  pub core_keeps : (kind ≡ 5 → ⊥) → Passed (beside on sheets) (core_by (beside on sheets w.card) kind t) w
  core_keeps z = core_passed sheets (rw (ne_eqb kind 5 z) (same (eqb w.pass.refusal 0)))
    where
      same : (b : Bool) → sheets ≡ cond b sheets sheets
      same true = refl
      same false = refl

  pub core_drops : {after : List ℕ} → w.pass.refusal ≡ 0 → kind ≡ 5 → after ≡ dropped sheets → Passed (beside on after)
      (core_by (beside on sheets w.card) kind t) w
  core_drops {after} z k e = core_passed after (e ∙ rw (eq-eqb w.pass.refusal 0 z, eq-eqb kind 5 k))

-- ---- a card whose state is not busy stays one
own_card : (h : Held) (kind : ℕ) (e : Entered) (x y : Bool) → (cond x (cond y (ended (coreNumber NoRoom) h) (answered h kind e)) (ended (coreNumber BadLength) h)
    ).state.card ≡ h.card
own_card h kind e true true = refl
own_card h kind e true false = refl
own_card h kind e false true = refl
own_card h kind e false false = refl

pub calm_line : (h : Held) (l : List ℕ) (room : ℕ) → Ready h.card.chip → (sheet_step h l room).state.card.chip.status < 128
unfolding sheet_step
calm_line h l room r = by (is_own l)
  where
    stays_calm : (own_turn h l room).state.card.chip.status < 128
    stays_calm = subst (λ (k : Card). k.chip.status < 128) (sym (own_card h (word_at l 2) (entry_of h (word_at l 2) (bytes_at l 4 (payload_for (word_at l 2))))
        (eqb (word_at l 0) (2 + payload_for (word_at l 2))) (ltb room 5))) r.ready

    by : (b : Bool) → (cond b (own_turn h l room) (core_by h (word_at l 2) (turn_of h.card l room))).state.card.chip.status < 128
    by true = stays_calm
    by false = calm_turn h.card l room r
