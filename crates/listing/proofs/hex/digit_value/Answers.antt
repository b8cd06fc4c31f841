-- `listing::hex::digit_value` is its definition, by the ranges of the digits. Assumes nothing.
use native.Mathlib.Omega.{arith}
use Rattle.listing.proofs.Digits.{decimal_digit, upper_digit, lower_digit, no_digit}
use Rattle.listing.proofs.hex.digit_value.Goals as goal

pub returns-in-48-to-57 : goal.returns-in-48-to-57
returns-in-48-to-57 c = (decimal_digit _ (omega arith) (omega arith), omega arith)

pub returns-in-65-to-70 : goal.returns-in-65-to-70
returns-in-65-to-70 c = (upper_digit _ (omega arith) (omega arith), omega arith)

pub returns-in-97-to-102 : goal.returns-in-97-to-102
returns-in-97-to-102 c = (lower_digit _ (omega arith) (omega arith), omega arith)

pub returns-in_default : goal.returns-in_default
returns-in_default c = ((no_digit _).0 (omega arith), omega arith)

pub returns-in_default-2 : goal.returns-in_default-2
returns-in_default-2 c = ((no_digit _).1 (omega arith) (omega arith), omega arith)

pub returns-in_default-3 : goal.returns-in_default-3
returns-in_default-3 c = ((no_digit _).2 (omega arith) (omega arith), omega arith)

pub returns-in_default-4 : goal.returns-in_default-4
returns-in_default-4 c = ((no_digit _).3 (omega arith), omega arith)
