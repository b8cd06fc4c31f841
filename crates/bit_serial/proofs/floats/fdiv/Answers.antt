-- `bit_serial::floats::fdiv` meets its contract: refused, B by zero, or the steps' quotient, marked, cut at its place. Assumes nothing.
use Rattle.std.proofs.Common.{◌≡◌, ◌∙◌, ap, ap₂, ℕ, ◌*◌, ◌%◌, ◌^◌, ◌<◌, arith}
use lib.Ieee.{unlike}
use lib.Pow.{shl_exact}
use Rattle.bit_serial.specs.declared.divide.Division.{Division}
use Rattle.bit_serial.specs.Quotient.{division}
use Rattle.bit_serial.proofs.Answers.{fdiv_rest}
use Rattle.bit_serial.proofs.floats.fdiv.Goals as goal

-- the dividend, which has room for the shift
raised : (s : Division) (m d : ℕ) → m < 16777216 → s ≡ division 26 (m * 2 ^ 25 % 2 ^ 64) d → s ≡ division 26 (m * 2 ^ 25) d
raised s m d h e = e ∙ ap (λ (v : ℕ). division 26 v d) (shl_exact 24 25 64 h (omega arith))

pub returns : goal.returns
returns c =
    let m = c.in_ok-x in
    fdiv_rest _ _ _ _ _ _ _ _ m.ensures.mantissas (ap₂ unlike c.is_negative.ensures c.is_negative-2.ensures) c.biased_of.ensures.0 c.biased_of-2.ensures.0
    c.divided-s.result c.mark-t.result c.cut_word-r.result c.if-y-eq0.false c.biased_of-2.ensures.1
    (raised _ m.x m.y m.ensures.small.0 c.divided-s.ensures.division) c.mark-t.ensures c.cut_word-r.ensures
