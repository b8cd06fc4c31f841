-- What a run from reset left has that input's listing, and so has an input that is too long. Assumes nothing.
use mathlib.Core.Path.{◌≡◌, refl, sym, ap, ap₂, subst, ◌∙◌}
use mathlib.Core.List.{List, []}
use Prim.Native.Nat.{ℕ, ◌≤◌, ◌<◌}
use native.Mathlib.Omega.{arith}
use borrow.Author.Tests.{lt-ltb, le-ltb}
use lib.ListN.{length, take, drop}
use lib.Seq.{take-append_seam}
use Rattle.terms.specs.Limits.{most_input}
use Rattle.terms.specs.declared.Settings.{Settings}
use Rattle.error_memory.specs.declared.Card.{Card as Held}
use Rattle.chip.specs.State.{reset_state}
use Rattle.error_memory.specs.Memory.{Card, card_with, empty_memory}
use Rattle.error_memory.specs.Held.{card_under}
use Rattle.record_runs.specs.Run.{Outcome, run_of}
use Rattle.record_runs.specs.Held.{Work, Passed}
use Rattle.record_runs.proofs.Looping.{counts}
use Rattle.record_runs.proofs.Ready.{run_small}
use Rattle.listing.specs.Listing.{reply_room, listing_of}
use Rattle.list_text.specs.Printout.{ResetCard, run_for, listed_of, printout_of, told_of}
use Rattle.listing.specs.Options.{asked_of}

-- the card after a reset is not busy
pub idle : (c : Held) (on : Settings) → ResetCard c → c.chip.status < 128
idle c on reset = let e : c.chip.status ≡ 0 = ap (λ (k : Card). k.chip.status) (reset on) in omega arith

module _ (on : Settings) (input : List ℕ) where
  pub too_long_lem : most_input < length input → listing_of [] 9 0 ≡ listed_of on input
  too_long_lem h = rw (lt-ltb 12288 (length input) h)

  -- the run of the code from reset, in as much room, is the definition's
  pub as_run : (w : Work) → ResetCard w.card → Passed (card_under on) (run_of (card_under on w.card) input (length w.room)) w
      → length w.room ≡ reply_room → Passed (card_under on) (run_for on input) w
  as_run w reset ran n =
      subst (λ (o : Outcome). Passed (card_under on) o w) (ap₂ (λ (k : Card) (m : ℕ). run_of k input m) (reset on) n) ran

  module _ (w : Work) (ran : Passed (card_under on) (run_for on input) w) (first : (w.place.taken ≡ 0) × (w.place.written ≡ 0)) where
    counted : (w.pass.place.taken ≡ (run_for on input).taken) × (w.pass.place.written ≡ length (run_for on input).written)
    counted = counts ran first.0 first.1

    -- what it wrote stands in front
    front : take w.pass.place.written w.left ≡ (run_for on input).written
    front =
        let o = run_for on input in
        ap₂ take counted.1 ran.left_is ∙ take-append_seam o.written (drop (length o.written) w.room)

    pub written_there : w.pass.place.written ≡ length (take w.pass.place.written w.left)
    written_there = counted.1 ∙ ap length (sym front)

    pub in_room : length w.room ≡ reply_room → length (take w.pass.place.written w.left) ≤ reply_room
    in_room n = omega (arith, n, ran.fits, ap length front)

    pub refusal_small : w.pass.refusal < 256
    refusal_small = omega (arith, ran.refusal_is, run_small (card_with on reset_state empty_memory) input reply_room)

    pub of_run : length input ≤ most_input
        → listing_of (take w.pass.place.written w.left) w.pass.refusal w.pass.place.taken ≡ listed_of on input
    of_run h =
        let o = run_for on input in
        rw (le-ltb 12288 (length input) h)
        (ap₂ (λ (l : List ℕ) (n : ℕ). listing_of l n w.pass.place.taken) front ran.refusal_is ∙ ap (listing_of o.written o.refusal) counted.0)

-- 02, ask 9: `buslist` stays at 0 for both
pub stays : (first second input : List ℕ) → told_of 1 first second input ≡ printout_of input
unfolding asked_of
stays first second input = refl
