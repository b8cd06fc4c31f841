-- What a word names: a command of document 001, or a kind of record. Definitions only. Assumes nothing.
use Rattle.std.specs.Prelude.{ℕ, zero, suc, ◌%◌, cond, List, ltb}
use Rattle.record_text.specs.Letters.{same}
use Rattle.record_text.specs.Names.{name_of}
use Rattle.record_text.specs.Kinds.{kind_at, kind_name, no_place}

-- the name at a place: of a code, else of a kind
abbrev pub name_at : ℕ → List ℕ
name_at place = cond (ltb place 128) (name_of (place % 128)) (kind_name (kind_at place))

-- the first of so many places from one on with this name, the one behind them where there is none
unfoldable pub place_from : ℕ → ℕ → List ℕ → ℕ
place_from zero place text = place
place_from (suc n) place text = cond (same (name_at place) text) place (place_from n (suc place) text)

-- the names of the codes stand at 0 to 127, those of the kinds at 128 to 138
abbrev pub place_named : List ℕ → ℕ
place_named text = place_from no_place 0 text
