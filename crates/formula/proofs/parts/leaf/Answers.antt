-- `formula::parts::leaf` meets its contract: a letter, a hash, or another byte or none. Assumes nothing.
use mathlib.Core.Path.{◌≡◌, refl, sym, ◌∙◌, ap}
use Prim.Native.Nat.{ℕ}
use native.Mathlib.Omega.{arith}
use lib.ListN.{get_or}
use Rattle.formula.specs.Told.{at_of}
use Rattle.formula.proofs.Places.{place_is}
use Rattle.formula.proofs.Reading.{letter_stands, reads_as, none_reads, letter_reads, hash_leaf, no_leaf}
use Rattle.formula.proofs.parts.leaf.Goals as goal

pub letter-requires : goal.letter-requires
letter-requires c =
    let byte_is : (c.byte_at-b.result ≡ get_or c.args.text.now
    (at_of c.args.place) 0) = c.byte_at-b.ensures ∙ ap (λ (i : ℕ). get_or c.args.text.now i 0) c.at_of.ensures in
    let A = c.requires in
    let i = letter_stands c.args.text.now (at_of c.args.place) _ byte_is (sym c.is_letter.ensures
    ∙ c.if-is_letter.true) in
    omega (arith, place_is c.args.place, A.few, A.short)

pub returns-then-is_letter : goal.returns-then-is_letter
returns-then-is_letter c =
    let byte_is : (c.byte_at-b.result ≡ get_or c.args.text.now
    (at_of c.args.place) 0) = c.byte_at-b.ensures ∙ ap (λ (i : ℕ). get_or c.args.text.now i 0) c.at_of.ensures in
    let t = c.args.text.now in
    let x = c.byte_at-b.result in
    let b = byte_is in
    let l = sym c.is_letter.ensures ∙ c.if-is_letter.true in
    letter_reads x c.requires.short (letter_stands t (at_of c.args.place) x b l) b l
    c.letter.ensures.0 c.letter.ensures.1

pub returns-then-b-eq35 : goal.returns-then-b-eq35
returns-then-b-eq35 c =
    let byte_is : (c.byte_at-b.result ≡ get_or c.args.text.now
    (at_of c.args.place) 0) = c.byte_at-b.ensures ∙ ap (λ (i : ℕ). get_or c.args.text.now i 0) c.at_of.ensures in
    reads_as (hash_leaf c.args.text.now (at_of c.args.place) _ byte_is
    (sym c.is_letter.ensures ∙ c.if-is_letter.false) c.if-b-eq35.true)
    c.constant.ensures

pub returns : goal.returns
returns c =
    let byte_is : (c.byte_at-b.result ≡ get_or c.args.text.now
    (at_of c.args.place) 0) = c.byte_at-b.ensures ∙ ap (λ (i : ℕ). get_or c.args.text.now i 0) c.at_of.ensures in
    none_reads refl (no_leaf c.args.text.now (at_of c.args.place) _ byte_is (sym c.is_letter.ensures
    ∙ c.if-is_letter.false) c.if-b-eq35.false)
