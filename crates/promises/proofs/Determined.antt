-- Each contract gives its call's result and exits as one function of what was lent, so two that meet it are equal. Assumes nothing.
use mathlib.Core.Path.{◌≡◌, sym, ◌∙◌}
use mathlib.Core.List.{List}
use Prim.Native.Nat.{ℕ}
use Rattle.pundaliket.specs.Calls.{Sent, Sends}
use Rattle.promises.specs.Determined.{RunDetermined, EventDetermined, WordToF32Determined, F32ToWordDetermined, ContractsSay}

pub run_determined : RunDetermined
run_determined g state input replies report r q s t w v p o a b =
    (a.result_is ∙ sym b.result_is, a.state_is ∙ sym b.state_is, a.replies_is ∙ sym b.replies_is, a.report_is ∙ sym b.report_is)

pub event_determined : EventDetermined
event_determined g state kind byte r q s t a b = (a.result_is ∙ sym b.result_is, a.state_is ∙ sym b.state_is)

-- both conversions
sent_alike : (x : Sent) (r q : ℕ) (s t : List ℕ) → Sends x r s → Sends x q t → (r ≡ q) × (s ≡ t)
sent_alike x r q s t a b = (a.result_is ∙ sym b.result_is, a.out_is ∙ sym b.out_is)

pub word_to_f32_determined : WordToF32Determined
word_to_f32_determined word out r q s t a b = sent_alike _ r q s t a b

pub f32_to_word_determined : F32ToWordDetermined
f32_to_word_determined bits out r q s t a b = sent_alike _ r q s t a b

pub contracts_say : ContractsSay
contracts_say = record {
  run = λ c result state replies report K. (K.result_is, K.state_is, K.replies_is, K.report_is);
  event = λ c result state K. (K.result_is, K.state_is);
  conversion = λ c result out K. (K.result_is, K.out_is);
  formula = λ c result file K. (K.result_is, K.file_is);
  buffer = λ c result number out K. (K.result_is, K.number_is, K.out_is);
}
