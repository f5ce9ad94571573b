-- 01, "Numbered refusals", and those of 02: the causes by name, their numbers, and a refusal of each.
use Rattle.std.specs.Prelude.{ℕ, List, Option, Some, None, codes}
use Rattle.refusal.specs.declared.Cause.{Cause}
use Rattle.refusal.specs.declared.Cause.TheVariants.{Vars, Table, Pad, Short, Mark, Version, Wires, Count, Length, Gate, State, Unlike, Room, Loose, Allow}
use Rattle.refusal.specs.declared.Reason.{Reason}
use Rattle.refusal.specs.declared.Reason.TheVariants.{Kind, Wire, Equal, Spare}
use Rattle.refusal.specs.declared.Refusal.{Refusal}
use Rattle.refusal.specs.declared.Numbered.{Numbered}

abbrev pub VARS : Cause
VARS = Vars

abbrev pub TABLE : Cause
TABLE = Table

abbrev pub PAD : Cause
PAD = Pad

abbrev pub SHORT : Cause
SHORT = Short

abbrev pub MARK : Cause
MARK = Mark

abbrev pub VERSION : Cause
VERSION = Version

abbrev pub WIRES : Cause
WIRES = Wires

abbrev pub COUNT : Cause
COUNT = Count

abbrev pub LENGTH : Cause
LENGTH = Length

abbrev pub GATE : Cause
GATE = Gate

abbrev pub STATE : Cause
STATE = State

abbrev pub UNLIKE : Cause
UNLIKE = Unlike

abbrev pub ROOM : Cause
ROOM = Room

-- 02 §8, "17 LOOSE"
abbrev pub LOOSE : Cause
LOOSE = Loose

-- 02 §9, "18 ALLOW"
abbrev pub ALLOW : Cause
ALLOW = Allow

-- the number of each
abbrev pub number_of : Cause → ℕ
number_of Vars = 1
number_of Table = 2
number_of Pad = 3
number_of Short = 4
number_of Mark = 5
number_of Version = 6
number_of Wires = 7
number_of Count = 8
number_of Length = 9
number_of Gate = 10
number_of State = 11
number_of Unlike = 12
number_of Room = 13
number_of Loose = 17
number_of Allow = 18

-- .. and its name, as it is printed
abbrev pub cause_name : Cause → List ℕ
cause_name Vars = codes "VARS"
cause_name Table = codes "TABLE"
cause_name Pad = codes "PAD"
cause_name Short = codes "SHORT"
cause_name Mark = codes "MARK"
cause_name Version = codes "VERSION"
cause_name Wires = codes "WIRES"
cause_name Count = codes "COUNT"
cause_name Length = codes "LENGTH"
cause_name Gate = codes "GATE"
cause_name State = codes "STATE"
cause_name Unlike = codes "UNLIKE"
cause_name Room = codes "ROOM"
cause_name Loose = codes "LOOSE"
cause_name Allow = codes "ALLOW"

-- 02 §4: the reasons by number, in its order
abbrev pub reason_number : Reason → ℕ
reason_number Kind = 1
reason_number Wire = 2
reason_number Equal = 3
reason_number Spare = 4

-- .. and by name, as they are printed
abbrev pub reason_name : Reason → List ℕ
reason_name Kind = codes "kind"
reason_name Wire = codes "wire"
reason_name Equal = codes "equal"
reason_name Spare = codes "spare"

-- a reason that is handed on, or 0
abbrev pub reason_said : Option Reason → ℕ
reason_said None = 0
reason_said (Some x) = reason_number x

-- "A refusal returns its number, the side .., and the position": of any cause but 10
abbrev pub refusal_at : Cause → ℕ → ℕ → Refusal
refusal_at c s p = record { cause = c; side = s; position = p; reason = None }

-- "the position of the first bad gate (10 only, else 0)"; 02 §4, "Refusal 10 hands the reason on"
abbrev pub bad_gate : ℕ → ℕ → Option Reason → Refusal
bad_gate s p x = record { cause = GATE; side = s; position = p; reason = x }

-- a refusal of the first or only input, with no gate to name
abbrev pub refusal : Cause → Refusal
refusal c = refusal_at c 0 0

-- a refusal's number, side, position and reason
abbrev pub numbered : Refusal → Numbered
numbered r = record { number = number_of r.cause; side = r.side; position = r.position; reason = reason_said r.reason }

-- the same of any number, of the first or only input, with no gate to name
abbrev pub numbered_by : ℕ → Numbered
numbered_by n = record { number = n; side = 0; position = 0; reason = 0 }
