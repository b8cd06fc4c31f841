-- What is given with a call beside the state: whose reset, and the rule of a float result. Definitions only. Assumes nothing.
use Rattle.std.specs.Prelude.{ℕ, Bool, cond, eqb, leb, Result, Ok, Err}
use Rattle.terms.specs.declared.Settings.{Settings}
use Rattle.terms.specs.declared.Refusal.{Refusal}
use Rattle.terms.specs.declared.Refusal.TheVariants.{BadMode, BadRule}
use Rattle.terms.specs.declared.Mode.{Mode}
use Rattle.terms.specs.declared.Mode.TheVariants.{Am9511A, Am9511}
use Rattle.terms.specs.declared.Rule.{Rule}
use Rattle.terms.specs.declared.Rule.TheVariants.{Cut, Nearest}

-- 02, ask 6: "The mode is a number .. 0 for the Am9511A and 1 for the older part"; any other is no mode
abbrev pub is_mode : ℕ → Bool
is_mode n = leb n 1

abbrev pub mode_of : ℕ → Mode
mode_of n = cond (eqb n 0) Am9511A Am9511

-- the mode of a number, or refusal 16
abbrev pub mode_named : ℕ → Result Mode Refusal
mode_named n = cond (is_mode n) (Ok (mode_of n)) (Err BadMode)

-- 02, ask 9: "a rule, 0 for cut or 1 for nearest, a number given with each call as the mode is"; any other is no rule
abbrev pub is_rule : ℕ → Bool
is_rule n = leb n 1

abbrev pub rule_of : ℕ → Rule
rule_of n = cond (eqb n 0) Cut Nearest

-- the rule of a number, or refusal 17
abbrev pub rule_named : ℕ → Result Rule Refusal
rule_named n = cond (is_rule n) (Ok (rule_of n)) (Err BadRule)

-- both of a call, by their numbers: 16, then 17
abbrev pub settings_named : ℕ → ℕ → Result Settings Refusal
settings_named m r =
    cond (is_mode m) (cond (is_rule r) (Ok (record { mode = mode_of m; rule = rule_of r })) (Err BadRule)) (Err BadMode)
