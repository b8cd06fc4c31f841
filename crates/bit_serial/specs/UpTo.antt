-- Steps made one after another as long as bits remain, of a product as of a quotient. Definitions only. Assumes nothing.
use Rattle.std.specs.Prelude.{ℕ, zero, suc, cond, eqb}

-- at most n steps more, fewer where no bits remain
unfoldable pub up_to : {A : Type 0} → (A → ℕ) → (A → A) → ℕ → A → A
up_to bits step zero s = s
up_to bits step (suc n) s = cond (eqb (bits s) 0) s (up_to bits step n (step s))
