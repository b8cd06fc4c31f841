-- What the calls that convert a word return and leave in the slice that they were lent. Definitions only. Assumes nothing.
use Rattle.std.specs.Prelude.{ℕ, ◌≡◌, cond, List, eqb, length}
use Rattle.numbers.specs.Little.{word_bytes, le4}
use Rattle.terms.specs.declared.Refusal.TheVariants.{NoRoom}
use Rattle.terms.specs.Refusal.{number_of}
use Rattle.host_floats.specs.declared.Reply.{Reply}

-- what the call returns, and what the slice holds after
pub record Sent : Type 0 where
  pub result : ℕ
  pub out : List ℕ

-- the slice is written on 0 alone
abbrev pub sent_by : Reply → List ℕ → Sent
sent_by reply out = record {
  result = number_of reply.refusal;
  out = cond (eqb (number_of reply.refusal) 0) (le4 reply.bits) out;
}

-- 8 comes first
unfoldable pub sent_of : Reply → List ℕ → Sent
sent_of reply out = cond (eqb (length out) word_bytes) (sent_by reply out) (record { result = number_of NoRoom; out = out })

pub record Sends (t : Sent) (result : ℕ) (out : List ℕ) : Type 0 where
  pub result_is : result ≡ t.result
  pub out_is : out ≡ t.out
