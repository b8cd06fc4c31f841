-- Lines told one after another: what is written and what is still to be told make the whole text. Assumes nothing.
use mathlib.Core.Path.{◌≡◌, refl, sym, ap, ◌∙◌}
use mathlib.Core.Bool.{Bool, cond}
use mathlib.Core.List.{List, [], ◌++◌, append_assoc, append-nil}
use Prim.Native.Nat.{ℕ, zero, suc, ◌+◌, ◌*◌, ◌≤◌}
use native.Mathlib.Nat.{zero-add}
use native.Mathlib.Omega.{arith}
use borrow.Author.Tests.{eq-eqb, ne_eqb}
use lib.ListN.{length, take}
use lib.Seq.{length-take-le}
use Rattle.listing.specs.Text.{Adds}
use Rattle.step_text.specs.Lines.{line_room}
use Rattle.step_text.specs.Steps.{lines_up_to}

-- after k lines: what is written, and the rest that is not yet, make the whole text
pub record Telling (all rest : List ℕ) (k : ℕ) (before out : List ℕ) (place : ℕ) : Type 0 where
  pub same : length out ≡ length before
  pub told : take place out ++ rest ≡ all
  pub within : place ≤ length out
  pub few : place ≤ line_room * k

pub starts : (all : List ℕ) {rest before : List ℕ} {k : ℕ} → rest ≡ all → k ≡ 0 → Telling all rest k before before 0
starts all e z = record { same = refl; told = e; within = omega arith; few = omega arith }

-- none is left
ends : {all rest before out : List ℕ} {k place : ℕ} → rest ≡ [] → k ≤ 32 → Telling all rest k before out place → Adds all before out 0 place
    × (place ≤ line_room * 32)
ends {all = all} {rest = rest} {out = out} {place = place} e l t =
    let w : take place out ≡ all = sym (append-nil (take place out)) ∙ ap (λ (s : List ℕ). take place out ++ s) (sym e) ∙ t.told in
    let n : length (take place out) ≡ place = length-take-le place out t.within in
    (record { moved = sym n ∙ ap length w ∙ sym (zero-add (length all)); reads = w }, (let f = t.few in omega arith))

-- ---- the lines of the steps that are left to make
module _ {A : Type 0} (bits : A → ℕ) (step : A → A) (line : A → List ℕ) where
  pub none_left : {all before out : List ℕ} {k place : ℕ} (n : ℕ) (s : A) → Telling all (lines_up_to bits step line n s) k before out place → bits s ≡ 0 → k ≤ 32
      → Adds all before out 0 place × (place ≤ line_room * 32)
  none_left n s t e l = ends (none n) l t
    where
      none : (n : ℕ) → lines_up_to bits step line n s ≡ []
      none zero = unfold lines_up_to in refl
      none (suc n) = unfold lines_up_to in ap (λ (t : Bool). cond t [] (line (step s) ++ lines_up_to bits step line n (step s))) (eq-eqb (bits s) 0 e)

  pub all_told : {all before out : List ℕ} {k place : ℕ} (n : ℕ) (s : A) → Telling all (lines_up_to bits step line n s) k before out place → n ≡ 0 → k ≤ 32
      → Adds all before out 0 place × (place ≤ line_room * 32)
  all_told n s t e l = ends none l t
    where
      none : lines_up_to bits step line n s ≡ []
      none = unfold lines_up_to in ap (λ (m : ℕ). lines_up_to bits step line m s) e

  first : (n m : ℕ) (s q : A) → n ≡ suc m → (bits s ≡ 0 → ⊥) → q ≡ step s → lines_up_to bits step line n s ≡ line q ++ lines_up_to bits step line m q
  unfolding lines_up_to
  first n m s q e b f =
      ap (λ (m : ℕ). lines_up_to bits step line m s) e ∙ ap (λ (t : Bool). cond t [] (line (step s) ++ lines_up_to bits step line m (step s)))
      (ne_eqb (bits s) 0 b) ∙ ap (λ (q : A). line q ++ lines_up_to bits step line m q) (sym f)

  -- one line more
  pub next : {all before out after : List ℕ} {n m k j place new : ℕ} {s q : A} → Telling all (lines_up_to bits step line n s) k before out place → n ≡ suc m
      → j ≡ k + 1 → (bits s ≡ 0 → ⊥) → q ≡ step s → Adds (line q) out after place new → new ≤ place + line_room → length after ≡ length out
      → new ≤ length after
      → Telling all (lines_up_to bits step line m q) j before after new
  next {all} {out = out} {n = n} {m = m} {place = place} {s = s} {q = q} t e f b g a l h w = record {
    same = h ∙ t.same;
    told = ap (λ (r : List ℕ). r ++ lines_up_to bits step line m q) a.reads ∙ append_assoc (take place out) (line q) (lines_up_to bits step line m q)
        ∙ ap (λ (r : List ℕ). take place out ++ r) (sym (first n m s q e b g)) ∙ t.told;
    within = w;
    few = let u = t.few in omega arith;
  }
