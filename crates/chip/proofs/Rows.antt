-- What a command leaves, put together from what the words and the layout were found to be: each row as its definition has it. Assumes nothing.
use mathlib.Core.Path.{◌≡◌, refl, sym, ap, subst, ◌∙◌}
use mathlib.Core.Bool.{Bool, true, false, cond, ◌&&◌}
use mathlib.Core.List.{List, ◌++◌}
use Prim.Native.Nat.{ℕ, ◌+◌, ◌*◌, ◌/◌, ◌^◌, ◌≤◌, ◌<◌}
use native.Mathlib.Omega.{arith}
use borrow.Author.Tests.{leb-true, leb-false, le-leb, lt-leb}
use lib.Dec.{lit<, lit≤, eqb, leb}
use mir.Val.{bool_byte}
use Rattle.terms.specs.declared.Width.{Width}
use Rattle.terms.specs.declared.Width.TheVariants.{Single, Double}
use Rattle.terms.specs.Width.{size_of}
use Rattle.terms.specs.declared.Rule.{Rule}
use Rattle.fixed.specs.declared.Fixed.{Fixed}
use Rattle.fixed.specs.Parts.{Words, Wraps}
use Rattle.fixed.proofs.Exact.{add_few, sub_few, mul_few, muu_few, div_few, chs_few}
use Rattle.float.specs.declared.Flagged.{Flagged}
use Rattle.float.specs.Word.{proper}
use Rattle.stack.specs.Stack.{tos, over_zero}
use Rattle.stack.specs.declared.Stack.{Stack}
use Rattle.stack.specs.Words.{eight, bytes_in}
use Rattle.stack.proofs.TwoWords.{word_law}
use Rattle.codes.specs.declared.FixedOp.{FixedOp}
use Rattle.codes.specs.declared.FixedOp.TheVariants.{Add as AddOp, Sub as SubOp, Mul as MulOp, Muu as MuuOp, Div as DivOp, Chs as ChsOp}
use Rattle.codes.specs.declared.FloatOp.{FloatOp}
use Rattle.chip.specs.Status.{sign, status_of}
use Rattle.std.specs.Prelude.{Ok}
use Rattle.codes.specs.Command.{fixed_in}
use Rattle.chip.specs.State.{CommandOutcome, left}
use Rattle.chip.specs.declared.commands.Outcome.{Outcome}
use Rattle.chip.specs.Commands.{half_of, word_a, word_b, keeps_a, loses_a, changes_a}
use Rattle.chip.specs.Commands.{floats, float_of}
use Rattle.chip.specs.Held.{result_of, outcome_in, obeyed_of, LeavesEither}
use Rattle.chip.proofs.Errors.{float_result}

-- ---- the status from its parts
-- two bounds that go together
same_test : (m n t u : ℕ) → (m ≤ t → n ≤ u) → (t < m → u < n) → leb m t ≡ leb n u
same_test m n t u p q = go (leb m t) refl
  where
    go : (x : Bool) → leb m t ≡ x → x ≡ leb n u
    go true e = sym (le-leb n u (p (leb-true m t e)))
    go false e = sym (lt-leb n u (q (leb-false m t e)))

-- the top bit of the stack is that of the word on top, whatever its width
top_bit : (w : Width) (t u : ℕ) → t < 2 ^ 64 → leb (2 ^ 63) t ≡ sign w (eight t ++ eight u)
top_bit Single t u h =
    same_test (2 ^ 63) (2 ^ 15) t (t / 256 ^ 6) (λ a. omega arith) (λ a. omega arith)
    ∙ ap (leb (2 ^ 15)) (word_law t u 2 6 refl (omega arith))
top_bit Double t u h =
    same_test (2 ^ 63) (2 ^ 31) t (t / 256 ^ 4) (λ a. omega arith) (λ a. omega arith)
    ∙ ap (leb (2 ^ 31)) (word_law t u 4 4 refl (omega arith))

-- a bit by its weight
weighed : (b : Bool) (n : ℕ) → bool_byte b * n ≡ cond b n 0
weighed true n = omega arith
weighed false n = omega arith

pub status_parts : (w : Width) (t u e : ℕ) (c : Bool) {v : ℕ} → t < 2 ^ 64 → v ≡ tos (size_of w) (eight t ++ eight u)
    → bool_byte (leb (2 ^ 63) t) * 64 + bool_byte (eqb v 0) * 32 + e * 2 + bool_byte c ≡ status_of w (eight t ++ eight u) e c
unfolding status_of
status_parts w t u e c h ev =
    let one : bool_byte c ≡ bool_byte c * 1 = omega arith in
    rw (top_bit w t u h, ev, one, weighed (sign w (eight t ++ eight u)) 64, weighed (eqb (tos (size_of w) (eight t ++ eight u)) 0) 32, weighed c 1)

pub byte_small : (b : Bool) → bool_byte b ≤ 1
byte_small true = lit≤ tt
byte_small false = lit≤ tt

-- ---- the fixed-point operations
-- the words of a width, and what wraps
pub words_of : (w : Width) {h b a : ℕ} → h ≡ half_of w → b < 256 ^ size_of w → a < 256 ^ size_of w → Words h b a
words_of Single e p q = rw e (record { some = lit< tt; narrow = lit≤ tt; left = p; right = q })
words_of Double e p q = rw e (record { some = lit< tt; narrow = lit≤ tt; left = p; right = q })

pub wraps_of : (w : Width) {h : ℕ} → h ≡ half_of w → Wraps h
wraps_of Single e = rw e refl
wraps_of Double e = rw e refl

-- the error of each has four bits
pub few : (op : FixedOp) (h b a : ℕ) {r : Fixed} → r ≡ result_of op h b a → r.error < 16
few op h b a e = subst (λ (r : Fixed). r.error < 16) (sym e) (go op)
  where
    go : (k : FixedOp) → (result_of k h b a).error < 16
    go AddOp = add_few h b a
    go SubOp = sub_few h b a
    go MulOp = mul_few h b a
    go MuuOp = muu_few h b a
    go DivOp = div_few h b a
    go ChsOp = chs_few h a

-- where the row of an operation has its result
abbrev pub laid_of : FixedOp → Width → List ℕ → Fixed → CommandOutcome
laid_of AddOp w s r = keeps_a w s r
laid_of SubOp w s r = keeps_a w s r
laid_of MulOp w s r = loses_a w s r
laid_of MuuOp w s r = loses_a w s r
laid_of DivOp w s r = loses_a w s r
laid_of ChsOp w s r = changes_a w s r

-- one law over the width: what has the result of an operation where its row has it leaves what the command leaves
pub worked : (op : FixedOp) (w : Width) (s : Stack) (r : Fixed) (o : Outcome)
    → r ≡ result_of op (half_of w) (word_b w (bytes_in s)) (word_a w (bytes_in s)) → outcome_in o ≡ laid_of op w (bytes_in s) r
    → LeavesEither (fixed_in op w) s o
worked op w s r o e h rule = ap (λ (x : CommandOutcome). Ok x) (h ∙ ap (laid_of op w (bytes_in s)) e) ∙ row op
  where
    row : (k : FixedOp) → Ok (laid_of k w (bytes_in s) (result_of k (half_of w) (word_b w (bytes_in s)) (word_a w (bytes_in s))))
        ≡ obeyed_of rule (fixed_in k w) (bytes_in s)
    row AddOp = refl
    row SubOp = refl
    row MulOp = refl
    row MuuOp = refl
    row DivOp = refl
    row ChsOp = refl

-- ---- the float operations
-- what stands over zero with the status of its result is the row of a float operation
pub float_row : (rule : Rule) (op : FloatOp) (s : List ℕ) {t : List ℕ} {b a : ℕ} {r : Flagged} {x : ℕ} → b ≡ word_b Double s → a ≡ word_a Double s
    → r ≡ float_of rule op b a → t ≡ over_zero 4 s r.word → x ≡ status_of Double t r.error false
    → left t x ≡ floats s (float_of rule op (word_b Double s) (word_a Double s))
unfolding floats
float_row rule op s eb ea er et ex = rw (ex, et, er, eb, ea)

-- ---- the operands
-- both of two tests that together are true
pub both_of_lem : (p q : Bool) → (p && q) ≡ true → (p ≡ true) × (q ≡ true)
both_of_lem true q e = (refl, e)
both_of_lem false true e = (e, refl)
both_of_lem false false e = (e, e)

-- an operation that was found to be its own, on B and A
pub float_of_lem : (rule : Rule) (b a : ℕ) {op of : FloatOp} {r : Flagged} → b < 4294967296 → proper b ≡ true → op ≡ of → r ≡ float_of rule of b a
    → (r ≡ float_of rule op b a) × (r.error < 16)
float_of_lem rule b a {op} l p e f =
    let g = f ∙ sym (ap (λ (x : FloatOp). float_of rule x b a) e) in
    (g, subst (λ (x : Flagged). x.error < 16) (sym g) (float_result rule op b a (record { fits = l; is_proper = p })).small)
