-- `records::write_next` goes on behind a record whose bytes are all there. Assumes nothing.
use mathlib.Core.Path.{◌≡◌, sym}
use mathlib.Core.List.{List}
use mathlib.Core.Logic.{inl, inr, ⊎_elim}
use Prim.Native.Nat.{ℕ, ◌-◌}
use native.Mathlib.Omega.{arith}
use lib.ListN.{length, take, drop, length-drop}
use lib.Seq.{take_all}
use Rattle.std.proofs.lemmas.Result.{IfOk-weaker}
use Rattle.terms.specs.Limits.{most_payload}
use Rattle.record_runs.specs.Record.{frame_under}
use Rattle.std.specs.Prelude.{Ok}
use Rattle.record_runs.proofs.Heads.{fits, Fits}
use Rattle.records.proofs.write_next.Goals as goal

-- the payload's bytes are there
framed : (input : List ℕ) (at n : ℕ) → Ok n ≡ frame_under most_payload (take (length input - at) (drop at input))
    → Fits most_payload (drop at input) n
framed input at n e =
    let rest = take_all (length input - at) (drop at input) (omega (arith, length-drop at input)) in
    fits most_payload (drop at input) n (sym (rw rest at e))

pub write_framed-requires : goal.write_framed-requires
write_framed-requires g c =
    let a = c.args in
    let f = framed a.input.now a.at c.in-Ok.n c.in-Ok.ensures in
    (omega arith, omega (arith, f.small), omega (arith, f.there, c.requires.0, length-drop a.at a.input.now))

pub returns-in-Ok : goal.returns-in-Ok
returns-in-Ok g c =
    let a = c.args in
    let f = framed a.input.now a.at c.in-Ok.n c.in-Ok.ensures in
    IfOk-weaker c.write_framed.result _ _
    (λ n. ⊎_elim (λ e. inl e) (λ e. inr (omega (arith, e), omega (arith, e, f.there, c.requires.0, length-drop a.at a.input.now))))
    c.write_framed.ensures
