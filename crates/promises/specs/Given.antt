-- The numbers that are given with a run and with an event beside their slices, and the two calls under them.
-- Definitions only. Assumes nothing.
use Rattle.std.specs.Prelude.{ℕ, ◌≤◌, List}
use Rattle.promises.specs.StateBytes.{settings_of}
use Rattle.promises.specs.Subjects.{Settings, Called, Signal, call_of, signal_of}

-- 02, ask 6: "The mode is a number given with every run and every single event, 0 for the Am9511A and 1 for the older
-- part"
-- and ask 9: the rule, "0 for cut or 1 for nearest, a number given with each call as the mode is"
pub record Given : Type 0 where
  pub mode : ℕ
  pub rule : ℕ

-- numbers that are not turned away
pub record Chosen (g : Given) : Type 0 where
  pub mode : g.mode ≤ 1
  pub rule : g.rule ≤ 1

-- what they set
abbrev pub settings_in : Given → Settings
settings_in g = settings_of g.mode g.rule

-- the run and the event, by what they are lent
abbrev pub run_call : Given → List ℕ → List ℕ → List ℕ → List ℕ → Called
run_call g = call_of g.mode g.rule

abbrev pub event_call : Given → List ℕ → ℕ → ℕ → Signal
event_call g = signal_of g.mode g.rule
