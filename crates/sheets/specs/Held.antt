-- What the program's record step and run with sheets say of their definitions. Definitions only. Assumes nothing.
use Rattle.std.specs.Prelude.{ℕ, List, length}
use Rattle.numbers.specs.Little.{word_at}
use Rattle.terms.specs.declared.Settings.{Settings}
use Rattle.error_memory.specs.declared.Card.{Card}
use Rattle.error_memory.specs.Held.{card_under}
use Rattle.record_runs.specs.Record.{turn_of}
use Rattle.record_runs.specs.Held.{Work, Passed}
use Rattle.sheets.specs.Step.{Held, holding, own_turn, core_by}

-- how a card is read: under these settings, beside these sheets
abbrev pub beside : Settings → List ℕ → Card → Held
beside on sheets c = holding (card_under on c) sheets

-- the turn of a record of this library, of the sheets before and after it, whatever the settings; and of one of the core
abbrev pub PassesOwn : List ℕ → List ℕ → List ℕ → Work → Type 0
PassesOwn before after file w = (on : Settings) → Passed (beside on after) (own_turn (beside on before w.card) file (length w.room)) w

abbrev pub PassesCore : Settings → List ℕ → List ℕ → List ℕ → Work → Type 0
PassesCore on before after file w =
    Passed (beside on after) (core_by (beside on before w.card) (word_at file 2) (turn_of (card_under on w.card) file (length w.room))) w
