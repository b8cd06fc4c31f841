-- The two widths of a stack word. Definitions only. Assumes nothing.
use Rattle.std.specs.Prelude.{ℕ}
use Rattle.terms.specs.declared.Width.{Width}
use Rattle.terms.specs.declared.Width.TheVariants.{Single, Double}

-- the bytes of a word
abbrev pub size_of : Width → ℕ
size_of = elim [ Single ↦ 2 | Double ↦ 4 ]

-- the bits of a word
abbrev pub bits_of : Width → ℕ
bits_of = elim [ Single ↦ 16 | Double ↦ 32 ]
