-- Text added at a place and then more text at the new place is both texts added at the first. Assumes nothing.
use mathlib.Core.Path.{◌≡◌, refl, sym, ap, subst, ◌∙◌}
use mathlib.Core.List.{List, [], ◌∷◌, ◌++◌, append_assoc, append-nil}
use Prim.Native.Nat.{ℕ, ◌+◌, ◌/◌, ◌%◌, ◌≤◌, ◌<◌}
use native.Mathlib.Omega.{arith}
use native.Mathlib.Nat.{add-zero, zero-add}
use native.Mathlib.Numerals.{add-one}
use lib.ListN.{length, take, set, length-append, length-take}
use lib.Seq.{paste, take-paste, take-suc-set, take-length, length-take-le}
use Rattle.io.specs.Counts.{IsPrefixLen}
use Rattle.listing.specs.Text.{digit, hex, Adds}

-- no text leaves the place
pub nothing : (l : List ℕ) (place : ℕ) → Adds [] l l place place
nothing l place = record { moved = sym (add-zero place); reads = sym (append-nil (take place l)) }

-- one text after the other
pub both : {x y a b c : List ℕ} {p q r : ℕ} → Adds x a b p q → Adds y b c q r → Adds (x ++ y) a c p r
both {x} {y} {a} {b} {c} {p} {q} {r} h k = record {
  moved = omega (arith, h.moved, k.moved, length-append x y);
  reads = k.reads ∙ ap (λ (l : List ℕ). l ++ y) h.reads ∙ append_assoc (take p a) x y;
}

-- text added by another name
pub told_as : {x y before after : List ℕ} {place new : ℕ} → x ≡ y → Adds x before after place new → Adds y before after place new
told_as {before = before} {after = after} {place = place} {new = new} e h = subst (λ (t : List ℕ). Adds t before after place new) e h

-- where all of a text is what stands before a place and a rest: with no rest it is added, and what the rest begins with comes next
module _ {all rest after : List ℕ} {place : ℕ} (so_far : all ≡ take place after ++ rest) where
  pub all_added : {before : List ℕ} → place ≤ length after → rest ≡ [] → Adds all before after 0 place
  all_added h e =
      let is : all ≡ take place after = so_far ∙ ap (λ (l : List ℕ). take place after ++ l) e ∙ append-nil (take place after) in
      record { moved = rw is (omega (arith, length-take-le place after h)); reads = sym is }

  pub next_added : (line tail : List ℕ) {out : List ℕ} {new : ℕ} → rest ≡ line ++ tail → Adds line after out place new → all ≡ take new out ++ tail
  next_added line tail e a =
      so_far
      ∙ ap (λ (l : List ℕ). take place after ++ l) e
      ∙ sym (append_assoc (take place after) line tail)
      ∙ ap (λ (l : List ℕ). l ++ tail) (sym a.reads)

-- a copy adds what is copied
pub copied : (t l : List ℕ) (place : ℕ) → place + length t ≤ length l → Adds t l (paste l place t (length t)) place (place + length t)
copied t l place h = record {
  moved = refl;
  reads = take-paste l place t (length t) (omega arith) (omega arith) ∙ ap (λ (s : List ℕ). take place l ++ s) (take-length t);
}

-- a character stored at the place adds it
pub stored : (c : ℕ) (l : List ℕ) (place : ℕ) → place < length l → Adds (c ∷ []) l (set l place c) place (place + 1)
stored c l place h = record { moved = refl; reads = ap (λ (n : ℕ). take n (set l place c)) (add-one place) ∙ take-suc-set l place c h }

-- a blank and two digits are a blank and a byte in hex
pub hexed : (b x y : ℕ) {before after : List ℕ} {place new : ℕ} → x ≡ digit (b / 16) → y ≡ digit (b % 16)
    → Adds (32 ∷ x ∷ y ∷ []) before after place new → Adds (32 ∷ hex b) before after place new
hexed b x y {before} {after} {place} {new} e f h =
    subst (λ (u : ℕ). Adds (32 ∷ u ∷ digit (b % 16) ∷ []) before after place new) e
    (subst (λ (v : ℕ). Adds (32 ∷ x ∷ v ∷ []) before after place new) f h)

-- text added at the front counts bytes there
pub counted : {text before after : List ℕ} {new : ℕ} → Adds text before after 0 new → IsPrefixLen new after
counted {text} {before} {after} {new} h =
    let e : length (take new after) ≡ new = ap length h.reads ∙ sym (h.moved ∙ zero-add (length text)) in
    (omega (arith, e, length-take new after), sym e)

-- and is what they hold, by another name
pub at_front : {x y before after : List ℕ} {new : ℕ} → x ≡ y → Adds x before after 0 new → IsPrefixLen new after × (take new after ≡ y)
at_front e h = (counted h, h.reads ∙ e)
