-- What is nearest, and what each operation and the root give under either rule: each sentence is a law of `float`, over the rule. Assumes nothing.
use mathlib.Core.Path.{◌≡◌, refl}
use mathlib.Core.List.{◌++◌}
use Rattle.terms.specs.declared.Rule.{Rule}
use Rattle.terms.specs.declared.Rule.TheVariants.{Cut, Nearest}
use Rattle.promises.proofs.float.RulePair.{a_pair_by, one_pair_by}
use Rattle.promises.proofs.float.NoNearer.{no_nearer}
use Rattle.float.proofs.Results.{fltd_result}
use Rattle.promises.proofs.float.Conversions.{fltd_no_error}
use Rattle.promises.proofs.float.RootExact.{one_root_by, root_exactly}
use Rattle.codes.specs.Codes.{decoded}
use Rattle.chip.specs.Step.{carried, command_under}
use Rattle.promises.specs.Stack.{bytes_of, zeros}
use Rattle.promises.specs.BusEvents.{reset_state, pi_word}
use Rattle.promises.specs.Nearest.{ByRule, NearestResults}
use Rattle.promises.proofs.Measures.{ours_word}
use Rattle.promises.proofs.Exact.{fltd_exact, flts_brought, operations_by, results_by}

by_rule : (rule : Rule) → ByRule rule
by_rule rule = record {
  pair = record {
    exists = a_pair_by rule;
    only = one_pair_by rule;
  };
  operations = operations_by rule;
  words = results_by rule;
  conversions = record {
    fltd_brought = fltd_exact rule;
    no_error = fltd_no_error rule;
    proper_float = λ a. ours_word (fltd_result rule a).word;
    flts_either = flts_brought rule;
  };
  root = record {
    only = one_root_by rule;
    found = λ a A. root_exactly rule a A.is_proper;
  };
}

-- PUPI on an empty stack
pi : (rule : Rule) → (command_under rule reset_state 0x1a).state.stack ≡ bytes_of 4 (pi_word rule) ++ zeros 12
unfolding command_under carried decoded
pi Cut = refl
pi Nearest = refl

-- ---- the statement
pub nearest : NearestResults
nearest = record { either = by_rule; no_nearer = no_nearer; pi = pi }
