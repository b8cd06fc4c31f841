-- Request 9 of document 02, results brought to the nearest word: what nearest is in whole numbers, and what each
-- operation and the root give under either rule. Definitions and the statement only: proofs/Nearest.antt proves it.
-- Assumes nothing.
use Rattle.std.specs.Prelude.{ℕ, ◌^◌, ◌<◌, ◌≡◌, ◌++◌, ℤ, pos}
use Rattle.terms.specs.declared.Rule.{Rule}
use Rattle.float.specs.Convert.{fltd, flts}
use Rattle.float.specs.Root.{sqrt}
use Rattle.promises.specs.FloatWords.{FloatWord}
use Rattle.promises.specs.FloatResults.{NearPair, PairBy, NoNearer, integer, ExactlyBy, RootBy, ExactlyRootBy}
use Rattle.promises.specs.Exact.{Operations, ResultWords}
use Rattle.promises.specs.Subjects.{command_under}
use Rattle.promises.specs.Stack.{bytes_of, zeros}
use Rattle.promises.specs.BusEvents.{reset_state, pi_word}

-- ---- the pair m, e of a magnitude n / d under a rule, e unbounded, by comparing products
pub record RulePair (rule : Rule) : Type 0 where
  -- there is one
  pub exists : (n d : ℕ) → 0 < n → 0 < d → (m : ℕ) × (e : ℤ) × PairBy rule n d m e
  -- and no other
  pub only : (n d m m' : ℕ) (e e' : ℤ) → 0 < d → PairBy rule n d m e → PairBy rule n d m' e' → (m ≡ m') × (e ≡ e')

-- ---- FLTD, which sets no error; FLTS, on which both rules agree
pub record RuleConversions (rule : Rule) : Type 0 where
  pub fltd_brought : (a : ℕ) → a < 2 ^ 32 → ExactlyBy rule (integer (2 ^ 31) a) 1 (pos 1) (pos 32) (fltd rule a)
  pub no_error : (a : ℕ) → a < 2 ^ 32 → (fltd rule a).error ≡ 0
  pub proper_float : (a : ℕ) → FloatWord (fltd rule a).word
  pub flts_either : (a : ℕ) → a < 2 ^ 16 → ExactlyBy rule (integer (2 ^ 15) a) 1 (pos 1) (pos 32) (flts a)

-- ---- the root, by comparing squares
pub record RuleRoot (rule : Rule) : Type 0 where
  pub only : (n m m' : ℕ) (e e' : ℤ) → RootBy rule n m e → RootBy rule n m' e' → (m ≡ m') × (e ≡ e')
  pub found : (a : ℕ) → FloatWord a → ExactlyRootBy rule a (sqrt rule a)

-- ---- the statement
pub record ByRule (rule : Rule) : Type 0 where
  pub pair : RulePair rule
  pub operations : Operations rule
  pub words : ResultWords rule
  pub conversions : RuleConversions rule
  pub root : RuleRoot rule

pub record NearestResults : Type 0 where
  pub either : (rule : Rule) → ByRule rule
  -- no other number of 24 digits lies nearer to a magnitude than the pair of the nearest rule
  pub no_nearer : (n d m : ℕ) (e : ℤ) → NearPair n d m e → NoNearer n d m e
  -- PUPI's word
  pub pi : (rule : Rule) → (command_under rule reset_state 0x1a).state.stack ≡ bytes_of 4 (pi_word rule) ++ zeros 12
