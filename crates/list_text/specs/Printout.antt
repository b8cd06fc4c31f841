-- Document 01, 'The listing program': what is printed for an input. Definitions only. Assumes nothing.
use Rattle.std.specs.Prelude.{ℕ, ◌≡◌, cond, List, [], ltb, length}
use Rattle.terms.specs.declared.Refusal.TheVariants.{InputTooLong}
use Rattle.terms.specs.Refusal.{number_of}
use Rattle.terms.specs.Limits.{most_input}
use Rattle.terms.specs.declared.Settings.{Settings}
use Rattle.terms.specs.Settings.{mode_of, rule_of}
use Rattle.chip.specs.State.{reset_state}
use Rattle.chip.specs.Step.{given}
use Rattle.error_memory.specs.declared.Card.{Card as Held}
use Rattle.error_memory.specs.Memory.{card_with, empty_memory}
use Rattle.error_memory.specs.Held.{card_under}
use Rattle.record_runs.specs.Run.{Outcome, run_of}
use Rattle.listing.specs.Listing.{reply_room, listing_of}
use Rattle.listing.specs.Options.{asked_of, text_for}

-- a struct that stands for the card after a reset, whatever the settings
abbrev pub ResetCard : Held → Type 0
ResetCard c = (on : Settings) → card_under on c ≡ card_with on reset_state empty_memory

-- the run that it makes: the input on that card, in the room that it lends
abbrev pub run_for : Settings → List ℕ → Outcome
run_for on input = run_of (card_with on reset_state empty_memory) input reply_room

-- what it prints: the listing of what this run wrote; of an input that is too long no record is taken
abbrev pub listed_of : Settings → List ℕ → List ℕ
listed_of on input =
    cond (ltb most_input (length input))
    (listing_of [] (number_of InputTooLong) 0)
    (listing_of (run_for on input).written (run_for on input).refusal (run_for on input).taken)

-- under a mode and a rule by their numbers
abbrev pub printout_under : ℕ → ℕ → List ℕ → List ℕ
printout_under mode rule input = listed_of (given (mode_of mode) (rule_of rule)) input

-- both 0, which are 01's
abbrev pub printout_of : List ℕ → List ℕ
printout_of = printout_under 0 0

-- what the program prints for a call of so many words, its own name among them
abbrev pub told_of : ℕ → List ℕ → List ℕ → List ℕ → List ℕ
told_of words first second input = text_for printout_under (asked_of words first second) input
