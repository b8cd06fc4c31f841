-- What a call of ./steps asks for, read by the crate, is what the book says: digit by digit, and the option character by character. Assumes nothing.
use mathlib.Core.Path.{◌≡◌, refl, ap, ap₂, ◌∙◌}
use mathlib.Core.Logic.{◌⊎◌, inl, inr}
use mathlib.Core.Bool.{Bool, true, false, cond}
use mathlib.Core.List.{List, [], ◌∷◌}
use Prim.Native.Nat.{ℕ, ◌+◌, ◌*◌}
use borrow.Author.Tests.{eqb-true, eq-eqb, ltb-true, lt-ltb}
use lib.Dec.{eqb, ltb}
use lib.ListN.{length}
use Rattle.terms.specs.declared.Rule.{Rule}
use Rattle.terms.specs.declared.Rule.TheVariants.{Cut, Nearest}
use Rattle.terms.specs.Width.{size_of}
use Rattle.bit_serial.specs.declared.Operation.{Operation}
use Rattle.bit_serial.specs.Work.{width_of}
use Rattle.listing.specs.declared.hex.Hex.{Hex}
use Rattle.listing.specs.declared.hex.Hex.TheVariants.{Number, Nothing as Unread}
use Rattle.step_text.specs.declared.asked.Found.{Found}
use Rattle.step_text.specs.declared.asked.Found.TheVariants.{Operation as Named, Nothing as Unnamed}
use Rattle.step_text.specs.declared.asked.Given.{Given}
use Rattle.step_text.specs.declared.asked.Given.TheVariants.{Under, Nothing as Unruled}
use Rattle.step_text.specs.Steps.{workings_of}
use Rattle.listing.specs.Hex.{digit_value, hex_from}
use Rattle.listing.specs.Options.{same_text, nearest_text}
use Rattle.listing.proofs.Texts.{same_is}
use Rattle.step_text.specs.Asked.{read_hex, operation_at, operation_in, rule_for, with_numbers, asked_with, text_of, told_of, usage_text}
use Rattle.promises.specs.SerialWork.{hex_digit, AllHex, hex_number, IsHex, Ruled, cut, nearest, Asks}

-- ---- numbers
digit_is : (c : ℕ) → digit_value c ≡ hex_digit c
unfolding digit_value
digit_is c = refl

read_on : (text : List ℕ) (a : ℕ) → AllHex text → hex_from a text ≡ Number (hex_number a text)
unfolding hex_from
read_on [] a h = refl
read_on (c ∷ cs) a h = rw (lt-ltb (hex_digit c) 16 h.0) (read_on cs (a * 16 + hex_digit c) h.1)

-- which number was read
abbrev Gives : Hex → List ℕ → ℕ → Type 0
Gives (Number n) text a = AllHex text × (hex_number a text ≡ n)
Gives Unread text a = Unit

gives : (text : List ℕ) (a : ℕ) → Gives (hex_from a text) text a
unfolding hex_from
gives [] a = (tt, refl)
gives (c ∷ cs) a = by (ltb (hex_digit c) 16) refl (hex_from (a * 16 + hex_digit c) cs) (gives cs (a * 16 + hex_digit c))
  where
    by : (b : Bool) → ltb (hex_digit c) 16 ≡ b → (r : Hex) → Gives r cs (a * 16 + hex_digit c) → Gives (cond b r Unread) (c ∷ cs) a
    by true e (Number n) g = ((ltb-true (hex_digit c) 16 e, g.0), g.1)
    by true e Unread g = tt
    by false e r g = tt

-- so many digits, read
hex_read : (digits : ℕ) (text : List ℕ) (n : ℕ) → IsHex digits text n → read_hex digits text ≡ Number n
unfolding read_hex
hex_read digits text n H = rw (eq-eqb (length text) digits H.size) (read_on text 0 H.each ∙ ap Number H.stands)

abbrev Hexes : ℕ → List ℕ → Hex → Type 0
Hexes digits text (Number n) = IsHex digits text n
Hexes digits text Unread = Unit

read_hex_lem : (digits : ℕ) (text : List ℕ) → Hexes digits text (read_hex digits text)
unfolding read_hex
read_hex_lem digits text = by (eqb (length text) digits) refl (hex_from 0 text) (gives text 0)
  where
    by : (b : Bool) → eqb (length text) digits ≡ b → (r : Hex) → Gives r text 0 → Hexes digits text (cond b r Unread)
    by true e (Number n) g = record { size = eqb-true (length text) digits e; each = g.0; stands = g.1 }
    by true e Unread g = tt
    by false e r g = tt

-- ---- the rule
rule_read : (words : ℕ) (option : List ℕ) (rule : Rule) → Ruled words option rule → rule_for words option ≡ Under rule
unfolding rule_for
rule_read words option rule (cut e) = rw e
rule_read words option rule (nearest e o) = rw (e, o)

abbrev Rules : ℕ → List ℕ → Given → Type 0
Rules words option (Under rule) = Ruled words option rule
Rules words option Unruled = Unit

read_rule : (words : ℕ) (option : List ℕ) → Rules words option (rule_for words option)
unfolding rule_for
read_rule words option = by (eqb words 4) refl (eqb words 5) refl (same_text option nearest_text) refl
  where
    by : (p : Bool) → eqb words 4 ≡ p → (q : Bool) → eqb words 5 ≡ q → (r : Bool) → same_text option nearest_text ≡ r
        → Rules words option (cond p (Under Cut) (cond q (cond r (Under Nearest) Unruled) Unruled))
    by true e q f r g = cut (eqb-true words 4 e)
    by false e true f true g = nearest (eqb-true words 5 f) (same_is option nearest_text g)
    by false e true f false g = tt
    by false e false f r g = tt

-- ---- the call
pub told : (words : ℕ) (code b a option : List ℕ) (op : Operation) (rule : Rule) (x y : ℕ) → Asks words code b a option op rule x y
    → told_of words code b a option ≡ workings_of op rule x y
told words code b a option op rule x y A =
    let n = 2 * size_of (width_of op) in
    ap (λ (r : Hex). text_of (asked_with (operation_in r) (rule_for words option) b a)) (hex_read 2 code A.number A.code_is)
    ∙ ap₂ (λ (f : Found) (g : Given). text_of (asked_with f g b a)) A.names (rule_read words option rule A.ruled)
    ∙ ap₂ (λ (p q : Hex). text_of (with_numbers op rule p q)) (hex_read n b x A.b_is) (hex_read n a y A.a_is)

-- what is asked for, or nothing
module _ (words : ℕ) (code b a option : List ℕ) where
  abbrev Result : Type 0
  Result = (told_of words code b a option ≡ usage_text) ⊎ ((op : Operation) × (rule : Rule) × (x : ℕ) × (y : ℕ) × Asks words code b a option op rule x y)

  abbrev from : Hex → List ℕ
  from r = text_of (asked_with (operation_in r) (rule_for words option) b a)

  numbers : (c : ℕ) (op : Operation) (rule : Rule) → read_hex 2 code ≡ Number c → IsHex 2 code c → operation_at c ≡ Named op → rule_for words option ≡ Under rule
      → Ruled words option rule
      → (p q : Hex) → read_hex (2 * size_of (width_of op)) b ≡ p → Hexes (2 * size_of (width_of op)) b p → read_hex (2 * size_of (width_of op)) a ≡ q
      → Hexes (2 * size_of (width_of op)) a q → Result
  numbers c op rule e H f g R (Number x) (Number y) i B j A = inr (op, rule, x, y, record { number = c; code_is = H; names = f; ruled = R; b_is = B; a_is = A })
  numbers c op rule e H f g R (Number x) Unread i B j A =
      inl (ap from e ∙ ap₂ (λ (u : Found) (v : Given). text_of (asked_with u v b a)) f g ∙ ap₂ (λ (u v : Hex). text_of (with_numbers op rule u v)) i j)
  numbers c op rule e H f g R Unread q i B j A =
      inl (ap from e ∙ ap₂ (λ (u : Found) (v : Given). text_of (asked_with u v b a)) f g ∙ ap₂ (λ (u v : Hex). text_of (with_numbers op rule u v)) i j)

  by_rule : (c : ℕ) (op : Operation) → read_hex 2 code ≡ Number c → IsHex 2 code c → operation_at c ≡ Named op → (v : Given) → rule_for words option ≡ v
      → Rules words option v → Result
  by_rule c op e H f (Under rule) g R =
      let n = 2 * size_of (width_of op) in
      numbers c op rule e H f g R (read_hex n b) (read_hex n a) refl (read_hex_lem n b) refl (read_hex_lem n a)
  by_rule c op e H f Unruled g R = inl (ap from e ∙ ap₂ (λ (u : Found) (v : Given). text_of (asked_with u v b a)) f g)

  by_name : (c : ℕ) → read_hex 2 code ≡ Number c → IsHex 2 code c → (u : Found) → operation_at c ≡ u → Result
  by_name c e H (Named op) f = by_rule c op e H f (rule_for words option) refl (read_rule words option)
  by_name c e H Unnamed f = inl (ap from e ∙ ap (λ (u : Found). text_of (asked_with u (rule_for words option) b a)) f)

  by_code : (r : Hex) → read_hex 2 code ≡ r → Hexes 2 code r → Result
  by_code (Number c) e H = by_name c e H (operation_at c) refl
  by_code Unread e H = inl (ap from e)

  asked : Result
  asked = by_code (read_hex 2 code) refl (read_hex_lem 2 code)

pub not_told : (words : ℕ) (code b a option : List ℕ) → ((op : Operation) (rule : Rule) (x y : ℕ) → Asks words code b a option op rule x y → ⊥) → told_of words
    code b a option ≡ usage_text
not_told words code b a option h = by (asked words code b a option)
  where
    by : (told_of words code b a option ≡ usage_text) ⊎ ((op : Operation) × (rule : Rule) × (x : ℕ) × (y : ℕ) × Asks words code b a option op rule x y)
        → told_of words code b a option ≡ usage_text
    by (inl e) = e
    by (inr t) = absurd (h t.0 t.1 t.2 t.3 t.4)
