-- Events in turn: those of two runs joined are the one run and then the other; a push, or a command that ends with a word on top, hands that word on.
-- Assumes nothing.
use mathlib.Core.Path.{◌≡◌, refl, sym, ap, ap₂, ◌∙◌, subst}
use mathlib.Core.Bool.{Bool, true, false, ◌&&◌}
use mathlib.Core.List.{List, [], ◌∷◌, ◌++◌}
use Prim.Native.Nat.{ℕ, ◌%◌, ◌<◌}
use borrow.Author.Tests.{lt-leb, leb-false, eqb-true}
use lib.Dec.{eqb}
use lib.ListN.{take}
use Rattle.terms.specs.declared.Width.TheVariants.{Double}
use Rattle.terms.specs.declared.Settings.{Settings}
use Rattle.terms.specs.Refusal.{number_of}
use Rattle.float.specs.declared.Flagged.{Flagged}
use Rattle.float.specs.Word.{FloatWord}
use Rattle.float.specs.Float.{Result}
use Rattle.stack.specs.Stack.{bytes_of}
use Rattle.codes.specs.declared.FloatOp.{FloatOp}
use Rattle.codes.specs.Command.{Float}
use Rattle.codes.specs.Command.{Known}
use Rattle.codes.specs.Codes.{decoded}
use Rattle.chip.specs.State.{State}
use Rattle.chip.specs.State.{Answer}
use Rattle.chip.specs.Event.{Event}
use Rattle.chip.specs.Event.{Command}
use Rattle.chip.specs.Status.{status_of, error_of}
use Rattle.chip.specs.Commands.{float_of}
use Rattle.chip.specs.Step.{done, command_under, answer_to}
use Rattle.promises.specs.BusEvents.{after_events, answered, leaves_clear, quiet, pushes_of, AtRest}
use Rattle.chip.proofs.Rows.{both_of_lem}
use Rattle.chip.proofs.Outcomes.{status_lt, status_error}
use Rattle.chip.proofs.InTurn.{push_done}
use Rattle.promises.proofs.OnTop.{idle, floated}

-- ---- a word on top
-- a state at rest whose top is the word w
pub record Tops (w : ℕ) (s : State) : Type 0 where
  pub rest : List ℕ
  pub stack_is : s.stack ≡ bytes_of 4 w ++ rest
  pub at_rest : AtRest s

-- what events do to a state: each is answered 0, the word of r stands on top afterwards, and where they are quiet r has no error
pub record Does (on : Settings) (s : State) (es : List Event) (r : Flagged) : Type 0 where
  pub all_answered_lem : answered on s es ≡ true
  pub tops : Tops r.word (after_events on s es)
  pub no_error : quiet on s es ≡ true → r.error ≡ 0

-- ---- events joined
module _ (on : Settings) where
  pub after_append : (s : State) (xs ys : List Event) → after_events on s (xs ++ ys) ≡ after_events on (after_events on s xs) ys
  after_append s [] ys = refl
  after_append s (x ∷ xs) ys = after_append (answer_to on s x).state xs ys

  pub answered_append : (s : State) (xs ys : List Event) → answered on s xs ≡ true → answered on (after_events on s xs) ys ≡ true
      → answered on s (xs ++ ys) ≡ true
  answered_append s [] ys a b = b
  answered_append s (x ∷ xs) ys a b =
      let h = both_of_lem (eqb (number_of (answer_to on s x).refusal) 0) (answered on (answer_to on s x).state xs) a in
      rw h.0 (answered_append (answer_to on s x).state xs ys h.1 b)

  pub quiet_append : (s : State) (xs ys : List Event) → quiet on s (xs ++ ys) ≡ true → (quiet on s xs ≡ true) × (quiet on (after_events on s xs) ys ≡ true)
  quiet_append s [] ys q = (refl, q)
  quiet_append s (x ∷ xs) ys q =
      let h = both_of_lem (leaves_clear on s x) (quiet on (answer_to on s x).state (xs ++ ys)) q in
      let r = quiet_append (answer_to on s x).state xs ys h.1 in
      (rw h.0 r.0, r.1)

-- ---- a state at rest, and one with a word on top, written out
pub at_rest_lt : {s : State} → AtRest s → s.status < 128
at_rest_lt {s} R = leb-false 128 s.status R.taken

pub at_rest : (l : List ℕ) (u : ℕ) (v : Bool) → u < 128 → AtRest (idle l u v)
at_rest l u v h = record { taken = lt-leb 128 u h; whole = refl }

pub tops_idle : {w : ℕ} {s : State} (T : Tops w s) → s ≡ idle (bytes_of 4 w ++ T.rest) s.status s.service
tops_idle {w} {s} T =
    ap₂ (λ (l : List ℕ) (p : Bool). record { stack = l; pending = p; status = s.status; service = s.service }) T.stack_is T.at_rest.whole

-- what is left of a stack below four bytes pushed, and of what lies below its top word
abbrev pub under : List ℕ → List ℕ
under l = take 12 (take 13 (take 14 (take 15 l)))

abbrev pub under_word : List ℕ → List ℕ
under_word t = take 8 (take 9 (take 10 (take 11 t)))

-- ---- what events do
module _ (on : Settings) where
  -- nothing more happens
  does_none : (s : State) (w : ℕ) → Tops w s → Does on s [] (record { word = w; error = 0 })
  does_none s w T = record { all_answered_lem = refl; tops = T; no_error = λ q. refl }

  -- an event that is answered 0 comes first
  pub does_then : {s s' : State} {e : Event} {es : List Event} {r : Flagged} → answer_to on s e ≡ done 0 s' → Does on s' es r → Does on s (e ∷ es) r
  does_then {s} {s'} {e} {es} {r} h d = record {
    all_answered_lem = subst (λ (x : Answer). (eqb (number_of x.refusal) 0 && answered on x.state es) ≡ true) (sym h) d.all_answered_lem;
    tops = subst (λ (x : Answer). Tops r.word (after_events on x.state es)) (sym h) d.tops;
    no_error = λ q. d.no_error (subst (λ (x : Answer). quiet on x.state es ≡ true) h
        (both_of_lem (leaves_clear on s e) (quiet on (answer_to on s e).state es) q).1);
  }

  -- four bytes pushed come first
  pub does_pushes : (c : ℕ) {l : List ℕ} {u : ℕ} {v : Bool} {es : List Event} {r : Flagged} → u < 128 → Does on (idle (bytes_of 4 c ++ under l) u v) es r
      → Does on (idle l u v) (pushes_of 4 c ++ es) r
  does_pushes c h d = does_then (push_done _ _ h) (does_then (push_done _ _ h) (does_then (push_done _ _ h) (does_then (push_done _ _ h) d)))

  -- one command that ends with a word on top and an error
  pub does_command : {s : State} {code : ℕ} {r : Flagged} {t : List ℕ} {v : Bool} → Result r
      → command_under on.rule s code ≡ done 0 (idle (bytes_of 4 r.word ++ t) (status_of Double (bytes_of 4 r.word ++ t) r.error false) v)
      → Does on s (Command code ∷ []) r
  does_command {s} {code} {r} {t} {v} F e =
      let l = bytes_of 4 r.word ++ t in
      record {
        all_answered_lem = subst (λ (x : Answer). (eqb (number_of x.refusal) 0 && true) ≡ true) (sym e) refl;
        tops =
            subst (λ (x : Answer). Tops r.word x.state) (sym e)
            (record { rest = t; stack_is = refl; at_rest = at_rest l (status_of Double l r.error false) v (status_lt Double l r.error false F.small) });
        no_error =
            λ q. sym (status_error Double l r.error false F.small) ∙ sym (ap (λ (x : Answer). error_of x.state.status) e)
            ∙ eqb-true (error_of (command_under on.rule s code).state.status) 0
            (both_of_lem (eqb (error_of (command_under on.rule s code).state.status) 0) (true) q).0;
      }

  -- a constant pushed, and a float command on the word below it
  pub does_float : (op : FloatOp) (code c w : ℕ) (t : List ℕ) (u : ℕ) (v : Bool) → decoded (code % 128) ≡ Known (Float op) → u < 128 → FloatWord c
      → FloatWord w → Result (float_of on.rule op w c)
      → Does on (idle (bytes_of 4 w ++ t) u v) (pushes_of 4 c ++ (Command code ∷ [])) (float_of on.rule op w c)
  does_float op code c w t u v k h C W F = does_pushes c h (does_command F (floated on.rule op code w c (under_word t) u v k h W C))

-- four pushes put a word on top of any state at rest
pub pushes_do : (on : Settings) (s : State) (w : ℕ) → AtRest s → Does on s (pushes_of 4 w) (record { word = w; error = 0 })
pushes_do on s w R =
    let h = at_rest_lt R in
    let l = bytes_of 4 w ++ under s.stack in
    subst (λ (x : State). Does on x (pushes_of 4 w) (record { word = w; error = 0 }))
    (sym (ap (λ (p : Bool). record { stack = s.stack; pending = p; status = s.status; service = s.service }) R.whole))
    (does_pushes on w h
    (does_none on (idle l s.status s.service) w (record { rest = under s.stack; stack_is = refl; at_rest = at_rest l s.status s.service h })))
