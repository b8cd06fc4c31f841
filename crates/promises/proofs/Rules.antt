-- The rule: turned away at its place in the order; a row that does not name it is the same under both. Assumes nothing.
use mathlib.Core.Path.{◌≡◌, refl, sym, ap}
use mathlib.Core.Bool.{Bool, false, false≢true}
use Prim.Native.Nat.{ℕ, ◌%◌}
use Rattle.terms.specs.declared.Rule.{Rule}
use Rattle.terms.specs.declared.Width.TheVariants.{Single, Double}
use Rattle.codes.specs.Command.{Kind}
use Rattle.codes.specs.Command.{Known, Derived, Unknown}
use Rattle.codes.specs.Command.{Nop, Add, Sub, Mul, Muu, Div, Chs, Float, Chsf, Flt, Fix, Pto, Pop, Xch, Pupi, Sqrt}
use Rattle.codes.specs.Codes.{sr, decoded}
use Rattle.chip.specs.State.{State}
use Rattle.chip.specs.Step.{unless_busy, carried, answer_by_kind, command_under}
use Rattle.state_bytes.proofs.Calling.{bad_rule, no_rule}
use Rattle.promises.specs.Rules.{NoRule, reads, RuleReaders}

pub no_such_rule : NoRule
no_such_rule = record {
  run = λ g state input replies report k q n. bad_rule g.mode g.rule state input replies report n k q;
  event = λ g state kind byte k q.
      let s = no_rule g.mode g.rule state kind byte k q 17 4352 refl refl in
      λ i. record { result = sym s.result_is i; state = sym s.state_is i };
}

by_kind : (rule by : Rule) (s : State) (service : Bool) (k : Kind) → reads k ≡ false → answer_by_kind rule s service k ≡ answer_by_kind by s service k
unfolding carried
by_kind rule by s service (Known (Float op)) h = absurd (false≢true (sym h))
by_kind rule by s service (Known (Flt Double)) h = absurd (false≢true (sym h))
by_kind rule by s service (Known Pupi) h = absurd (false≢true (sym h))
by_kind rule by s service (Known Sqrt) h = absurd (false≢true (sym h))
by_kind rule by s service (Known (Flt Single)) h = refl
by_kind rule by s service (Known (Fix Single)) h = refl
by_kind rule by s service (Known (Fix Double)) h = refl
by_kind rule by s service (Known Chsf) h = refl
by_kind rule by s service (Known Nop) h = refl
by_kind rule by s service (Known (Add w)) h = refl
by_kind rule by s service (Known (Sub w)) h = refl
by_kind rule by s service (Known (Mul w)) h = refl
by_kind rule by s service (Known (Muu w)) h = refl
by_kind rule by s service (Known (Div w)) h = refl
by_kind rule by s service (Known (Chs w)) h = refl
by_kind rule by s service (Known (Pto w)) h = refl
by_kind rule by s service (Known (Pop w)) h = refl
by_kind rule by s service (Known (Xch w)) h = refl
by_kind rule by s service Derived h = refl
by_kind rule by s service Unknown h = refl

alike : (rule by : Rule) (s : State) (code : ℕ) → reads (decoded (code % 128)) ≡ false → command_under rule s code ≡ command_under by s code
unfolding command_under
alike rule by s code h = ap (unless_busy s) (by_kind rule by s (sr code) (decoded (code % 128)) h)

pub rule_readers : RuleReaders
unfolding decoded
rule_readers = record { codes = refl; alike = λ rule by s code h. alike rule by s code h }
