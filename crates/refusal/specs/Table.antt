-- The closed list of refusals, a row for each: its number, its layer and its two places, 0 where it names none.
use Rattle.std.specs.Prelude.{ℕ}
use Rattle.refusal.specs.declared.layer.Layer.{Layer}
use Rattle.refusal.specs.declared.layer.Layer.TheVariants.{Field, Line, Sheet, List, Choice, Stand, Report}
use Rattle.refusal.specs.declared.reason.Refusal.{Refusal}
use Rattle.refusal.specs.declared.reason.Refusal.TheVariants.{
  SheetTooLong,
  LineTooLong,
  UnknownKind,
  WrongFields,
  NotANumber,
  OutOfPlace,
  OutOfRange,
  ClockOutOfOrder,
  NoRoom,
  WrongCount,
  UnlawfulList,
  RunOpen,
  DegreesOutOfRange,
  TooFewWords,
  EqualErrors,
  NoneKeepsApart,
  NotAFeedback,
  NoFeedback,
  NoRun,
  NotABit,
  RunFull,
  NotebookFull,
  NothingFiled,
  OutputTooShort,
}

pub record Row : Type 0 where
  pub number : ℕ
  pub layer : Layer
  pub places : ℕ × ℕ

abbrev row : ℕ → Layer → ℕ → ℕ → Row
row n l a b = record { number = n; layer = l; places = (a, b) }

abbrev pub table : Refusal → Row
table SheetTooLong = row 1 Sheet 0 0
table (LineTooLong line) = row 2 Line line 1
table (UnknownKind line) = row 3 Line line 1
table (WrongFields line) = row 4 Line line 1
table (NotANumber line column) = row 5 Field line column
table (OutOfPlace line) = row 6 Sheet line 1
table (OutOfRange line column) = row 7 Sheet line column
table (ClockOutOfOrder line column) = row 8 Sheet line column
table (NoRoom line column) = row 9 Sheet line column
table (WrongCount line column) = row 10 Sheet line column
table (UnlawfulList fault) = row 11 List fault 0
table RunOpen = row 12 Stand 0 0
table DegreesOutOfRange = row 13 Choice 0 0
table TooFewWords = row 14 Choice 0 0
table (EqualErrors first second) = row 15 Choice first second
table NoneKeepsApart = row 16 Choice 0 0
table NotAFeedback = row 17 Choice 0 0
table NoFeedback = row 18 Stand 0 0
table NoRun = row 19 Stand 0 0
table NotABit = row 20 Stand 0 0
table RunFull = row 21 Stand 0 0
table NotebookFull = row 22 Stand 0 0
table (NothingFiled place) = row 23 Stand place 0
table OutputTooShort = row 24 Report 0 0

-- the number of a layer
abbrev pub layer_number : Layer → ℕ
layer_number Field = 1
layer_number Line = 2
layer_number Sheet = 3
layer_number List = 4
layer_number Choice = 5
layer_number Stand = 6
layer_number Report = 7
