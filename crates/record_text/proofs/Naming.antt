-- A name is looked for place by place, and looking on from one leads to the same. Assumes nothing.
use mathlib.Core.Path.{◌≡◌, refl, sym, ap, ◌∙◌}
use mathlib.Core.Bool.{Bool, true, false, cond}
use mathlib.Core.List.{List}
use Prim.Native.Nat.{ℕ, suc, ◌+◌, ◌-◌, ◌%◌, ◌≤◌, ◌<◌}
use native.Mathlib.Numerals.{add-one}
use native.Mathlib.Omega.{arith}
use borrow.Author.Tests.{lt-ltb, le-ltb}
use Rattle.record_text.specs.Letters.{same}
use Rattle.record_text.specs.Names.{name_of}
use Rattle.record_text.specs.Kinds.{kind_at, kind_name}
use Rattle.record_text.specs.Named.{name_at, place_from, place_named}

-- ---- the name at a place
module _ (place : ℕ) where
  pub code_name : place < 128 → name_of (place % 128) ≡ name_at place
  code_name h = rw (lt-ltb place 128 h)

  pub kind_name_lem : 128 ≤ place → kind_name (kind_at place) ≡ name_at place
  kind_name_lem h = rw (le-ltb place 128 h)

-- ---- the search
pub record Sought (text : List ℕ) (place : ℕ) : Type 0 where
  pub leads : place_from (139 - place) place text ≡ place_named text
  pub within : place ≤ 139

pub starts : (text : List ℕ) → Sought text 0
starts text = record { leads = refl; within = omega arith }

module _ (text : List ℕ) (n : ℕ) (k : Sought text n) where
  first : n < 139 → place_from (139 - n) n text ≡ cond (same (name_at n) text) n (place_from (138 - n) (suc n) text)
  unfolding place_from
  first h = let z : 139 - n ≡ suc (138 - n) = omega arith in ap (λ (m : ℕ). place_from m n text) z

  pub found : n < 139 → same (name_at n) text ≡ true → n ≡ place_named text
  found h e = sym (first h ∙ ap (λ (t : Bool). cond t n (place_from (138 - n) (suc n) text)) e) ∙ k.leads

  pub next : n < 139 → same (name_at n) text ≡ false → Sought text (n + 1)
  next h e =
      let z : 138 - n ≡ 139 - (n + 1) = omega arith in
      let on = first h ∙ ap (λ (t : Bool). cond t n (place_from (138 - n) (suc n) text)) e in
      record {
        leads = ap (λ (m : ℕ). place_from m (n + 1) text) (sym z) ∙ ap (λ (m : ℕ). place_from (138 - n) m text) (add-one n) ∙ sym on ∙ k.leads;
        within = omega arith;
      }

  pub none : 139 ≤ n → 139 ≡ place_named text
  unfolding place_from
  none h =
      let within = k.within in
      let z : 139 - n ≡ 0 = omega arith in
      let y : 139 ≡ n = omega arith in
      y ∙ sym (ap (λ (m : ℕ). place_from m n text) z) ∙ k.leads
