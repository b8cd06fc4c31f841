-- 02, ask 9: the rule turned away, and which commands look at it. Definitions and the statements only:
-- proofs/Rules.antt proves them. Assumes nothing.
use Rattle.std.specs.Prelude.{ℕ, ◌%◌, ◌≤◌, ◌<◌, ◌≡◌, Bool, true, false, List, [], ◌∷◌, ◌++◌, map, length, replicate}
use Rattle.terms.specs.declared.Rule.{Rule}
use Rattle.terms.specs.declared.Width.TheVariants.{Single, Double}
use Rattle.codes.specs.Command.{Kind}
use Rattle.codes.specs.Command.{Known, Derived, Unknown}
use Rattle.codes.specs.Command.{Nop, Add, Sub, Mul, Muu, Div, Chs, Float, Chsf, Flt, Fix, Pto}
use Rattle.codes.specs.Command.{Pop, Xch, Pupi, Sqrt}
use Rattle.codes.specs.Codes.{decoded}
use Rattle.promises.specs.Subjects.{State, command_under}
use Rattle.promises.specs.Given.{Given, run_call, event_call}
use Rattle.promises.specs.Figures.{from}

-- ---- "Refusals: 17 for a rule number neither 0 nor 1, right after 16"
pub record NoRule : Type 0 where
  -- a run: whatever the state and the input, the report alone is written, both counts 0
  pub run : (g : Given) (state input replies report : List ℕ) → g.mode ≤ 1 → 1 < g.rule → length report ≡ 9
      → run_call g state input replies report
      ≡ record { result = 17; state = state; replies = replies; report = 17 ∷ 0 ∷ 0 ∷ 0 ∷ 0 ∷ 0 ∷ 0 ∷ 0 ∷ 0 ∷ [] }
  -- an event: 256 times 17, whatever the state and the kind; nothing is written
  pub event : (g : Given) (state : List ℕ) (kind byte : ℕ) → g.mode ≤ 1 → 1 < g.rule
      → event_call g state kind byte ≡ record { result = 4352; state = state }

-- ---- "It holds for FADD, FSUB, FMUL, FDIV, FLTD and the root; FIXS and FIXD still cut; PUPI gives 02C90FDB under
-- nearest"
-- whether a command looks at the rule
abbrev pub reads : Kind → Bool
reads (Known (Float op)) = true
reads (Known (Flt Double)) = true
reads (Known Pupi) = true
reads (Known Sqrt) = true
reads (Known (Flt Single)) = false
reads (Known (Fix w)) = false
reads (Known Chsf) = false
reads (Known Nop) = false
reads (Known (Add w)) = false
reads (Known (Sub w)) = false
reads (Known (Mul w)) = false
reads (Known (Muu w)) = false
reads (Known (Div w)) = false
reads (Known (Chs w)) = false
reads (Known (Pto w)) = false
reads (Known (Pop w)) = false
reads (Known (Xch w)) = false
reads Derived = false
reads Unknown = false

pub record RuleReaders : Type 0 where
  -- the codes that do, sixteen to a row: 01; 10 to 13, 1A and 1C; and none from 20 on
  pub codes : map (λ (code : ℕ). reads (decoded code)) (from 128 0)
      ≡ (false ∷ true ∷ replicate 14 false)
      ++ ((true ∷ true ∷ true ∷ true ∷ replicate 6 false) ++ (true ∷ false ∷ true ∷ false ∷ false ∷ false ∷ []))
      ++ replicate 96 false
  -- any other is answered alike under both rules, with the same state
  pub alike : (rule by : Rule) (s : State) (code : ℕ) → reads (decoded (code % 128)) ≡ false
      → command_under rule s code ≡ command_under by s code
