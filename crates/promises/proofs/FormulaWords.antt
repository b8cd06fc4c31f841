-- Words on top of a stack: one more is pushed, two give way to one, one to another; what lies below stays. Assumes nothing.
use mathlib.Core.Path.{◌≡◌, refl, sym, ap, ap₂, ◌∙◌}
use mathlib.Core.Bool.{Bool, false}
use mathlib.Core.List.{List, [], ◌∷◌, ◌++◌, append_assoc}
use Prim.Native.Nat.{ℕ, ◌+◌, ◌*◌, ◌-◌, ◌/◌, ◌%◌, ◌≤◌, ◌<◌}
use native.Mathlib.Omega.{arith}
use borrow.Author.Tests.{lt-leb}
use lib.ListN.{length, take, length-append}
use lib.Seq.{take-append-add, length-take-le}
use Rattle.numbers.specs.Little.{le4}
use Rattle.terms.specs.declared.Width.TheVariants.{Double}
use Rattle.terms.specs.Refusal.{number_of}
use Rattle.terms.specs.declared.Settings.{Settings}
use Rattle.float.specs.Word.{FloatWord}
use Rattle.float.specs.Float.{Result}
use Rattle.float.specs.Convert.{chsf}
use Rattle.stack.specs.Stack.{bytes_of, zeros, low_first}
use Rattle.codes.specs.declared.FloatOp.{FloatOp}
use Rattle.codes.specs.Command.{Float}
use Rattle.codes.specs.Command.{Known}
use Rattle.codes.specs.Codes.{sr, decoded}
use Rattle.chip.specs.State.{State}
use Rattle.chip.specs.State.{Answer}
use Rattle.chip.specs.Event.{Command}
use Rattle.chip.specs.Status.{status_of}
use Rattle.chip.specs.Commands.{float_of}
use Rattle.chip.specs.Step.{done, command_under}
use Rattle.promises.specs.BusEvents.{AtRest}
use Rattle.chip.proofs.Outcomes.{status_lt}
use Rattle.promises.proofs.OnTop.{idle, floated, sign_changed}
use Rattle.promises.proofs.Events.{at_rest_lt}
use Rattle.error_memory.specs.declared.Memory.{Memory}
use Rattle.error_memory.specs.Memory.{card_with, kept_after}
use Rattle.record_files.proofs.Append.{onward, appended}
use Rattle.record_runs.specs.Record.{turn_of}
use Rattle.record_runs.specs.Run.{Outcome, took, after, run_of}
use Rattle.record_runs.proofs.Prefix.{lawful}
use Rattle.promises.proofs.Single.{command_alone}
use Rattle.promises.proofs.InTurn.{word_pushed, push_alone}
use Rattle.formula.specs.File.{push_record, command_record, minus_code}

-- ---- words on top of a stack
abbrev words : List ℕ → List ℕ
words [] = []
words (w ∷ ws) = bytes_of 4 w ++ words ws

words_length : (ws : List ℕ) → length (words ws) ≡ 4 * length ws
words_length [] = refl
words_length (w ∷ ws) = length-append (bytes_of 4 w) (words ws) ∙ omega (arith, words_length ws)

pub record On (ws : List ℕ) (s : State) : Type 0 where
  pub rest : List ℕ
  pub stack_is : s.stack ≡ words ws ++ rest
  pub sixteen : length s.stack ≡ 16
  pub at_rest : AtRest s

-- ---- runs, one after the other
-- with room for the replies a file is taken to its end and answered so
pub record Ran (on : Settings) (s : State) (m : Memory) (file replies : List ℕ) (end : State) (left : Memory) : Type 0 where
  pub ran : (room : ℕ) → length replies ≤ room → run_of (card_with on s m) file room ≡ took (card_with on end left) (length file) replies

both_ran : {on : Settings} {s t u : State} {m n k : Memory} {a b p q : List ℕ} → Ran on s m a p t n → Ran on t n b q u k → Ran on s m (a ++ b) (p ++ q) u k
both_ran {on} {s} {t} {u} {m} {n} {k} {a} {b} {p} {q} A B = record {
  ran = λ room h.
      let e = A.ran room (omega (arith, length-append p q)) in
      let f = B.ran (room - length p) (omega (arith, length-append p q)) in
      appended lawful (card_with on s m) a b room (ap (λ (o : Outcome). o.refusal) e)
      ∙ ap (λ (o : Outcome). onward turn_of o b room) e
      ∙ ap (λ (o : Outcome). after (length a) p o) f
      ∙ ap (λ (i : ℕ). took (card_with on u k) i (p ++ q)) (sym (length-append a b));
}

-- a file that leaves these words on top
pub record Step (on : Settings) (s : State) (m : Memory) (file replies : List ℕ) (ws : List ℕ) : Type 0 where
  pub end : State
  pub left : Memory
  pub ran : Ran on s m file replies end left
  pub stands : On ws end

pub then_step : {on : Settings} {s : State} {m : Memory} {a b p q ws vs : List ℕ} (A : Step on s m a p ws) → Step on A.end A.left b q vs
    → Step on s m (a ++ b) (p ++ q) vs
then_step A B = record { end = B.end; left = B.left; ran = both_ran A.ran B.ran; stands = B.stands }

-- ---- one push record
pushed_bytes : (w : ℕ) → le4 w ≡ low_first 4 w
pushed_bytes w =
    let a : w / 65536 ≡ w / 256 / 256 = omega arith in
    let b : w / 16777216 ≡ w / 256 / 256 / 256 = omega arith in
    rw (a, b)

pub pushed : (on : Settings) (w : ℕ) (ws : List ℕ) (s : State) (m : Memory) → On ws s → length ws ≤ 3 → Step on s m (push_record w) (3 ∷ 0 ∷ 129 ∷ 0 ∷ 0 ∷ [])
    (w ∷ ws)
pushed on w ws s m O h =
    let n = 12 - length (words ws) in
    let k : 12 ≡ length (words ws) + n = omega (arith, words_length ws) in
    let e = word_pushed Double w s (at_rest_lt O.at_rest) in
    record {
      end = record { stack = bytes_of 4 w ++ take 12 s.stack; pending = s.pending; status = s.status; service = s.service };
      left = m;
      ran = record {
        ran = λ room r.
            ap (λ (l : List ℕ). run_of (card_with on s m) (6 ∷ 0 ∷ 1 ∷ 0 ∷ l) room) (pushed_bytes w)
            ∙ push_alone on s m (low_first 4 w) room O.at_rest.taken (omega arith) (omega arith) r
            ∙ ap (λ (t : State). took (card_with on t m) 8 (3 ∷ 0 ∷ 129 ∷ 0 ∷ 0 ∷ [])) e;
      };
      stands = record {
        rest = take n O.rest;
        stack_is =
            ap (λ (l : List ℕ). bytes_of 4 w ++ l) (ap (take 12) O.stack_is ∙ ap (λ (i : ℕ). take i (words ws ++ O.rest)) k ∙ take-append-add (words ws)
            O.rest n)
            ∙ sym (append_assoc (bytes_of 4 w) (words ws) (take n O.rest));
        sixteen = length-append (bytes_of 4 w) (take 12 s.stack) ∙ ap (λ (i : ℕ). 4 + i) (length-take-le 12 s.stack (omega (arith, O.sixteen)));
        at_rest = record { taken = O.at_rest.taken; whole = O.at_rest.whole };
      };
    }

-- ---- one command record that is answered 0
spelled : (s : State) (l : List ℕ) → s.stack ≡ l → AtRest s → s ≡ idle l s.status s.service
spelled s l e R = ap₂ (λ (l : List ℕ) (p : Bool). record { stack = l; pending = p; status = s.status; service = s.service }) e R.whole

-- the word w on top of t, which begins with some words
commanded : (on : Settings) (s : State) (m : Memory) (code w : ℕ) (ws t rest : List ℕ) (error : ℕ) → error < 16 → t ≡ words ws ++ rest → length t ≡ 12
    → command_under on.rule s code ≡ done 0 (idle (bytes_of 4 w ++ t) (status_of Double (bytes_of 4 w ++ t) error false) (sr code))
    → Step on s m (command_record code) (3 ∷ 0 ∷ 131 ∷ 0 ∷ 0 ∷ []) (w ∷ ws)
commanded on s m code w ws t rest error h e n a =
    let l = bytes_of 4 w ++ t in
    record {
      end = idle l (status_of Double l error false) (sr code);
      left = kept_after m (Command code) (done 0 (idle l (status_of Double l error false) (sr code)));
      ran = record {
        ran = λ room r. command_alone on s m code room r
            ∙ ap (λ (x : Answer). took (card_with on x.state (kept_after m (Command code) x)) 5 (3 ∷ 0 ∷ 131 ∷ 0 ∷ number_of x.refusal ∷ [])) a;
      };
      stands = record {
        rest = rest;
        stack_is = ap (λ (k : List ℕ). bytes_of 4 w ++ k) e ∙ sym (append_assoc (bytes_of 4 w) (words ws) rest);
        sixteen = length-append (bytes_of 4 w) t ∙ omega arith;
        at_rest = record { taken = lt-leb 128 _ (status_lt Double l error false h); whole = refl };
      };
    }

pub operated : (on : Settings) (op : FloatOp) (code b a : ℕ) (ws : List ℕ) (s : State) (m : Memory) → decoded (code % 128) ≡ Known (Float op) → FloatWord b
    → FloatWord a
    → Result (float_of on.rule op b a) → On (a ∷ b ∷ ws) s → Step on s m (command_record code) (3 ∷ 0 ∷ 131 ∷ 0 ∷ 0 ∷ []) ((float_of on.rule op b a).word
    ∷ ws)
operated on op code b a ws s m k B A R O =
    let t = words ws ++ O.rest in
    let r = float_of on.rule op b a in
    let e : s.stack ≡ bytes_of 4 a ++ (bytes_of 4 b ++ t) =
    O.stack_is ∙ append_assoc (bytes_of 4 a) (bytes_of 4 b ++ words ws) O.rest ∙ ap (λ (l : List ℕ). bytes_of 4 a ++ l) (append_assoc (bytes_of 4 b) (words ws)
    O.rest) in
    let n : length (t ++ zeros 4) ≡ 12 = omega (
      arith,
      O.sixteen,
      ap length e,
      length-append (bytes_of 4 a) (bytes_of 4 b ++ t),
      length-append (bytes_of 4 b) t,
      length-append t (zeros 4),
    ) in
    commanded on s m code r.word ws (t ++ zeros 4) (O.rest ++ zeros 4) r.error R.small (append_assoc (words ws) O.rest (zeros 4)) n
    (ap (λ (x : State). command_under on.rule x code) (spelled s (bytes_of 4 a ++ (bytes_of 4 b ++ t)) e O.at_rest) ∙ floated on.rule op code b a t
    s.status s.service k (at_rest_lt O.at_rest) B A)

pub negated : (on : Settings) (a : ℕ) (ws : List ℕ) (s : State) (m : Memory) → FloatWord a → On (a ∷ ws) s → Step on s m (command_record minus_code)
    (3 ∷ 0 ∷ 131 ∷ 0 ∷ 0 ∷ []) (chsf a ∷ ws)
unfolding decoded
negated on a ws s m A O =
    let t = words ws ++ O.rest in
    let e : s.stack ≡ bytes_of 4 a ++ t = O.stack_is ∙ append_assoc (bytes_of 4 a) (words ws) O.rest in
    let n : length t ≡ 12 = omega (arith, O.sixteen, ap length e, length-append (bytes_of 4 a) t) in
    commanded on s m minus_code (chsf a) ws t O.rest 0 (omega arith) refl n
    (ap (λ (x : State). command_under on.rule x minus_code) (spelled s (bytes_of 4 a ++ t) e O.at_rest) ∙ sign_changed on.rule minus_code a t s.status
    s.service refl (at_rest_lt O.at_rest) A)
