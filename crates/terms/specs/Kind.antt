-- The kinds of events by document 01's numbers and 02's. Definitions only. Assumes nothing.
use Rattle.std.specs.Prelude.{ℕ, cond, eqb}
use Rattle.terms.specs.declared.EventKind.{EventKind}
use Rattle.terms.specs.declared.EventKind.TheVariants.{Push, Pop, Command, Status, Reset, Acknowledge, Recall, Forget, Unknown}

-- the kind of a number
abbrev pub kind_named : ℕ → EventKind
kind_named n =
    cond (eqb n 1) Push
    (cond (eqb n 2) Pop
    (cond (eqb n 3) Command
    (cond (eqb n 4) Status
    (cond (eqb n 5) Reset
    (cond (eqb n 6) Acknowledge
    (cond (eqb n 7) Recall
    (cond (eqb n 8) Forget
    Unknown)))))))
