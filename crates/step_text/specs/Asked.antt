-- What a call of the program asks for: CODE B A in hex, and then `--nearest` or nothing. Definitions only. Assumes nothing.
use Rattle.std.specs.Prelude.{ℕ, ◌*◌, cond, List, [], ◌∷◌, eqb, length}
use Rattle.terms.specs.declared.Rule.{Rule}
use Rattle.terms.specs.declared.Rule.TheVariants.{Cut, Nearest}
use Rattle.terms.specs.declared.Width.TheVariants.{Single, Double}
use Rattle.terms.specs.Width.{size_of}
use Rattle.bit_serial.specs.declared.Operation.{Operation}
use Rattle.bit_serial.specs.declared.Operation.TheVariants.{Mul, Muu, Div, Fmul, Fdiv}
use Rattle.bit_serial.specs.Work.{width_of, Operands}
use Rattle.listing.specs.declared.hex.Hex.{Hex}
use Rattle.listing.specs.declared.hex.Hex.TheVariants.{Number, Nothing as Unread}
use Rattle.step_text.specs.declared.asked.Found.{Found}
use Rattle.step_text.specs.declared.asked.Found.TheVariants.{Operation as Named, Nothing as Unnamed}
use Rattle.step_text.specs.declared.asked.Given.{Given}
use Rattle.step_text.specs.declared.asked.Given.TheVariants.{Under, Nothing as Unruled}
use Rattle.step_text.specs.declared.asked.Asked.{Asked}
use Rattle.step_text.specs.declared.asked.Asked.TheVariants.{Work, Nothing as Unasked}
use Rattle.listing.specs.Listing.{newline}
use Rattle.listing.specs.Hex.{hex_from, hex_of}
use Rattle.listing.specs.Options.{same_text, nearest_text}
use Rattle.step_text.specs.Steps.{workings_of}

-- the number that exactly so many hex digits stand for
unfoldable pub read_hex : ℕ → List ℕ → Hex
unfolding hex_from
read_hex digits text = cond (eqb (length text) digits) (hex_of text) Unread

-- the eight codes
unfoldable pub operation_at : ℕ → Found
operation_at code =
    cond (eqb code 0x6E) (Named (Mul Single))
    (cond (eqb code 0x76) (Named (Muu Single))
    (cond (eqb code 0x6F) (Named (Div Single))
    (cond (eqb code 0x2E) (Named (Mul Double))
    (cond (eqb code 0x36) (Named (Muu Double))
    (cond (eqb code 0x2F) (Named (Div Double))
    (cond (eqb code 0x12) (Named Fmul)
    (cond (eqb code 0x13) (Named Fdiv) Unnamed)))))))

abbrev pub operation_in : Hex → Found
operation_in (Number code) = operation_at code
operation_in Unread = Unnamed

-- a call of four words, the program's name and three more, is under the cut; one of five whose last is `--nearest` is under the other rule
unfoldable pub rule_for : ℕ → List ℕ → Given
unfolding same_text
rule_for words option = cond (eqb words 4) (Under Cut) (cond (eqb words 5) (cond (same_text option nearest_text) (Under Nearest) Unruled) Unruled)

abbrev pub with_numbers : Operation → Rule → Hex → Hex → Asked
with_numbers op rule (Number b) (Number a) = Work op rule b a
with_numbers op rule (Number b) Unread = Unasked
with_numbers op rule Unread a = Unasked

-- B and A have two digits for each byte of the operation's words
abbrev pub asked_with : Found → Given → List ℕ → List ℕ → Asked
asked_with (Named op) (Under rule) b a = with_numbers op rule (read_hex (2 * size_of (width_of op)) b) (read_hex (2 * size_of (width_of op)) a)
asked_with (Named op) Unruled b a = Unasked
asked_with Unnamed given b a = Unasked

abbrev pub asked_of : ℕ → List ℕ → List ℕ → List ℕ → List ℕ → Asked
asked_of words code b a option = asked_with (operation_in (read_hex 2 code)) (rule_for words option) b a

-- what is asked is of words of the operation's width
abbrev pub Sound : Asked → Type 0
Sound (Work op rule b a) = Operands op b a
Sound Unasked = Unit

-- the line `usage`
abbrev pub usage_text : List ℕ
usage_text = 117 ∷ 115 ∷ 97 ∷ 103 ∷ 101 ∷ newline ∷ []

-- what is told; that line where nothing is asked that the program does
abbrev pub text_of : Asked → List ℕ
text_of (Work op rule b a) = workings_of op rule b a
text_of Unasked = usage_text

abbrev pub told_of : ℕ → List ℕ → List ℕ → List ℕ → List ℕ → List ℕ
told_of words code b a option = text_of (asked_of words code b a option)
