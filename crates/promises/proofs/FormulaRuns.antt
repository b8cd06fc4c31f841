-- The file of a formula run from any state at rest: with at most four words on top none falls off the bottom before it is used, by induction over the formula.
-- Assumes nothing.
use mathlib.Core.Path.{◌≡◌, refl, ap, ◌∙◌}
use mathlib.Core.List.{List, [], ◌∷◌, ◌++◌, append_assoc}
use Prim.Native.Nat.{ℕ, ◌+◌, ◌≤◌}
use native.Mathlib.Omega.{arith}
use lib.ListN.{length, take, length-append}
use lib.Seq.{take_at}
use Rattle.terms.specs.declared.Rule.{Rule}
use Rattle.terms.specs.declared.Settings.{Settings}
use Rattle.float.specs.Word.{FloatWord}
use Rattle.float.proofs.Results.{add_result, sub_result, mul_result, div_result}
use Rattle.promises.proofs.float.SignChange.{chsf_word}
use Rattle.stack.specs.Stack.{bytes_of}
use Rattle.stack.proofs.Words.{length-bytes}
use Rattle.codes.specs.declared.FloatOp.TheVariants.{Add, Sub, Mul, Div}
use Rattle.codes.specs.Codes.{decoded}
use Rattle.chip.specs.State.{State}
use Rattle.promises.specs.BusEvents.{AtRest}
use Rattle.error_memory.specs.declared.Memory.{Memory}
use Rattle.formula.specs.Formula.{need_of}
use Rattle.formula.specs.File.{letter_word, constant_word, code_of, command_record, minus_code, file_of}
use Rattle.promises.specs.FormulaText.{Operator, Plus, Less, Times, Over, Formula, Letter, Constant, Minus, Brackets, Joined, replies_to}
use Rattle.promises.specs.FormulaText.{worked, evaluated}
use Rattle.promises.proofs.FormulaText.{sign, tree}
use Rattle.promises.proofs.FormulaWords.{On, Ran, Step, then_step, pushed, operated, negated}
use Rattle.promises.proofs.FormulaLeaves.{Leaves}

-- the four operations
operation : (on : Settings) (o : Operator) (b a : ℕ) (ws : List ℕ) (s : State) (m : Memory) → FloatWord b → FloatWord a → On (a ∷ b ∷ ws) s
    → Step on s m (command_record (code_of (sign o))) (3 ∷ 0 ∷ 131 ∷ 0 ∷ 0 ∷ []) (worked on.rule o b a ∷ ws)
unfolding decoded
operation on Plus b a ws s m B A O = operated on Add 0x10 b a ws s m refl B A (add_result on.rule b a) O
operation on Less b a ws s m B A O = operated on Sub 0x11 b a ws s m refl B A (sub_result on.rule b a) O
operation on Times b a ws s m B A O = operated on Mul 0x12 b a ws s m refl B A (mul_result on.rule b a) O
operation on Over b a ws s m B A O = operated on Div 0x13 b a ws s m refl B A (div_result on.rule b a B) O

worked_word : (rule : Rule) (o : Operator) (b a : ℕ) → FloatWord b → FloatWord (worked rule o b a)
worked_word rule Plus b a B = (add_result rule b a).word
worked_word rule Less b a B = (sub_result rule b a).word
worked_word rule Times b a B = (mul_result rule b a).word
worked_word rule Over b a B = (div_result rule b a B).word

-- a formula's word, on top of the words that stood
record Did (on : Settings) (letters : List ℕ) (f : Formula) (ws : List ℕ) (s : State) (m : Memory) : Type 0 where
  step : Step on s m (file_of letters (tree f)) (replies_to f) (evaluated on.rule letters f ∷ ws)
  word : FloatWord (evaluated on.rule letters f)

did : (on : Settings) (letters : List ℕ) (f : Formula) (ws : List ℕ) (s : State) (m : Memory) → Leaves letters (tree f) → On ws s
    → length ws + need_of (tree f) ≤ 4 → Did on letters f ws s m
unfolding need_of file_of letter_word
did on letters (Letter k) ws s m W O h = record { step = pushed on (letter_word letters k) ws s m O (omega arith); word = W }
did on letters (Constant d) ws s m W O h = record { step = pushed on (constant_word d) ws s m O (omega arith); word = W }
did on letters (Minus f) ws s m W O h =
    let d = did on letters f ws s m W O h in
    let x = evaluated on.rule letters f in
    record { step = then_step d.step (negated on x ws d.step.end d.step.left d.word d.step.stands); word = chsf_word x d.word }
did on letters (Brackets f) ws s m W O h = let d = did on letters f ws s m W O h in record { step = d.step; word = d.word }
did on letters (Joined o l r) ws s m W O h =
    let x = evaluated on.rule letters l in
    let y = evaluated on.rule letters r in
    let d = did on letters l ws s m W.0 O (omega arith) in
    let e = did on letters r (x ∷ ws) d.step.end d.step.left W.1 d.step.stands (omega arith) in
    record {
      step = then_step d.step (then_step e.step (operation on o x y ws e.step.end e.step.left d.word e.word e.step.stands));
      word = worked_word on.rule o x y d.word;
    }

-- what the file leaves
pub record AfterFile (on : Settings) (s : State) (m : Memory) (file replies : List ℕ) (word : ℕ) : Type 0 where
  pub end : State
  pub memory : Memory
  pub ran : Ran on s m file replies end memory
  pub on_top : take 4 end.stack ≡ bytes_of 4 word
  pub sixteen : length end.stack ≡ 16
  pub at_rest : AtRest end
  pub proper : FloatWord word

pub evaluates : (on : Settings) (letters : List ℕ) (f : Formula) (s : State) (m : Memory) → Leaves letters (tree f) → need_of (tree f) ≤ 4
    → length s.stack ≡ 16 → AtRest s
    → AfterFile on s m (file_of letters (tree f)) (replies_to f) (evaluated on.rule letters f)
evaluates on letters f s m W need six R =
    let d = did on letters f [] s m W (record { rest = s.stack; stack_is = refl; sixteen = six; at_rest = R }) (omega arith) in
    let o = d.step.stands in
    let w = evaluated on.rule letters f in
    record {
      end = d.step.end;
      memory = d.step.left;
      ran = d.step.ran;
      on_top = ap (take 4) (o.stack_is ∙ append_assoc (bytes_of 4 w) [] o.rest) ∙ take_at (bytes_of 4 w) o.rest 4 (length-bytes 4 w);
      sixteen = o.sixteen;
      at_rest = o.at_rest;
      proper = d.word;
    }

-- the replies have no more bytes than the file: five for a record, which has at least as many
pub replies_few : (letters : List ℕ) (f : Formula) → length (replies_to f) ≤ length (file_of letters (tree f))
unfolding file_of
replies_few letters (Letter k) = omega arith
replies_few letters (Constant s) = omega arith
replies_few letters (Minus f) = let r : List ℕ = 3 ∷ 0 ∷ 131 ∷ 0 ∷ 0 ∷ [] in omega (
  arith,
  replies_few letters f,
  length-append (replies_to f) r,
  length-append (file_of letters (tree f)) (command_record minus_code),
)
replies_few letters (Brackets f) = replies_few letters f
replies_few letters (Joined o f g) =
    let r : List ℕ = 3 ∷ 0 ∷ 131 ∷ 0 ∷ 0 ∷ [] in
    let c = command_record (code_of (sign o)) in
    let a = file_of letters (tree f) in
    let b = file_of letters (tree g) in
    omega (
      arith,
      replies_few letters f,
      replies_few letters g,
      length-append (replies_to f) (replies_to g ++ r),
      length-append (replies_to g) r,
      length-append a (b ++ c),
      length-append b c,
    )
