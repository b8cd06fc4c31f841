-- What a call asks for, from what was read of its words. Assumes nothing.
use mathlib.Core.Path.{◌≡◌, refl, sym, ap, ap₂, ◌∙◌, subst}
use mathlib.Core.List.{List}
use Prim.Native.Nat.{ℕ, ◌*◌, ◌^◌}
use Rattle.terms.specs.declared.Rule.{Rule}
use Rattle.terms.specs.declared.Width.{Width}
use Rattle.terms.specs.declared.Width.TheVariants.{Single, Double}
use Rattle.terms.specs.Width.{size_of, bits_of}
use Rattle.bit_serial.specs.declared.Operation.{Operation}
use Rattle.bit_serial.specs.Work.{width_of}
use Rattle.listing.specs.declared.hex.Hex.{Hex}
use Rattle.listing.specs.Hex.{Below}
use Rattle.step_text.specs.declared.asked.Found.{Found}
use Rattle.step_text.specs.declared.asked.Found.TheVariants.{Operation as Named}
use Rattle.step_text.specs.declared.asked.Given.{Given}
use Rattle.step_text.specs.declared.asked.Given.TheVariants.{Under}
use Rattle.step_text.specs.declared.asked.Asked.{Asked}
use Rattle.step_text.specs.Asked.{read_hex, with_numbers, asked_with}

-- two hex digits for each byte hold the words of a width
pub fits : (w v : Width) (m : ℕ) (r : Hex) → m ≡ size_of w → w ≡ v → Below (16 ^ (2 * m)) r → Below (2 ^ bits_of v) r
fits w v m r e f h = subst (λ (n : ℕ). Below n r) (ap (λ (k : ℕ). 16 ^ (2 * k)) (e ∙ ap size_of f) ∙ same v) h
  where
    same : (v : Width) → 16 ^ (2 * size_of v) ≡ 2 ^ bits_of v
    same Single = refl
    same Double = refl

pub work : {found : Found} {given : Given} {op : Operation} {rule : Rule} (b a : List ℕ) (r : Asked) (x y : Hex) (w : Width) (m : ℕ) → found ≡ Named op
    → given ≡ Under rule → w ≡ width_of op → m ≡ size_of w
    → x ≡ read_hex (2 * m) b → y ≡ read_hex (2 * m) a → r ≡ with_numbers op rule x y → r ≡ asked_with found given b a
work {op = op} {rule = rule} b a r x y w m f g v e X Y R =
    let k : m ≡ size_of (width_of op) = e ∙ ap size_of v in
    R ∙ ap₂ (with_numbers op rule) (X ∙ ap (λ (n : ℕ). read_hex (2 * n) b) k) (Y ∙ ap (λ (n : ℕ). read_hex (2 * n) a) k)
    ∙ sym (ap₂ (λ (s : Found) (t : Given). asked_with s t b a) f g)
