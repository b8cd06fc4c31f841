-- The commands that are carried, by the names of the sheets, and what a code stands for; and which of these the code's groups are. Definitions only.
-- Assumes nothing.
use Rattle.terms.specs.declared.Width.{Width}
use Rattle.codes.specs.declared.FixedOp.{FixedOp}
use Rattle.codes.specs.declared.FixedOp.TheVariants.{Add as AddOp, Sub as SubOp, Mul as MulOp, Muu as MuuOp, Div as DivOp, Chs as ChsOp}
use Rattle.codes.specs.declared.FloatOp.{FloatOp}
use Rattle.codes.specs.declared.MoveOp.{MoveOp}
use Rattle.codes.specs.declared.MoveOp.TheVariants.{Pto as PtoOp, Pop as PopOp, Xch as XchOp}
use Rattle.codes.specs.declared.Kind.{Kind as Coded}
use Rattle.codes.specs.declared.Kind.TheVariants.{Nop as NopCode, Fixed as FixedCode, Float as FloatCode, Chsf as ChsfCode, Flt as FltCode}
use Rattle.codes.specs.declared.Kind.TheVariants.{Fix as FixCode, Move as MoveCode, Pupi as PupiCode, Sqrt as SqrtCode, Derived as DerivedCode}
use Rattle.codes.specs.declared.Kind.TheVariants.{Unknown as UnknownCode}

-- the carried commands; the D and F forms of PTO, POP and XCH do the same and are one
pub data Command : Type 0 where
  Nop : Command
  Add : Width → Command
  Sub : Width → Command
  Mul : Width → Command
  Muu : Width → Command
  Div : Width → Command
  Chs : Width → Command
  Float : FloatOp → Command
  Chsf : Command
  Flt : Width → Command
  Fix : Width → Command
  Pto : Width → Command
  Pop : Width → Command
  Xch : Width → Command
  Pupi : Command
  Sqrt : Command

-- what a code stands for
pub data Kind : Type 0 where
  Known : Command → Kind
  Derived : Kind
  Unknown : Kind

-- the command of a fixed-point operation, and of a move
abbrev pub fixed_in : FixedOp → Width → Command
fixed_in AddOp w = Add w
fixed_in SubOp w = Sub w
fixed_in MulOp w = Mul w
fixed_in MuuOp w = Muu w
fixed_in DivOp w = Div w
fixed_in ChsOp w = Chs w

abbrev pub move_in : MoveOp → Width → Command
move_in PtoOp w = Pto w
move_in PopOp w = Pop w
move_in XchOp w = Xch w

-- what the code's kind stands for
abbrev pub kind_in : Coded → Kind
kind_in NopCode = Known Nop
kind_in (FixedCode op w) = Known (fixed_in op w)
kind_in (FloatCode op) = Known (Float op)
kind_in ChsfCode = Known Chsf
kind_in (FltCode w) = Known (Flt w)
kind_in (FixCode w) = Known (Fix w)
kind_in (MoveCode op w) = Known (move_in op w)
kind_in PupiCode = Known Pupi
kind_in SqrtCode = Known Sqrt
kind_in DerivedCode = Derived
kind_in UnknownCode = Unknown
