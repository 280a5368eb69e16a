-- The numbers and the notes of the statuses.
use Rattle.std.specs.Prelude.{ℕ, List, [], ◌++◌, codes, decimal, Result, Ok, Err}
use Rattle.lk_forms.specs.declared.answers.Fault.{Fault}
use Rattle.lk_forms.specs.declared.answers.Fault.TheVariants.{NoFormat, NotText, UnknownWord, WordCount, BadNumber, OutOfRange, Misplaced, Repeated, WrongLock, Reheld, NotHeld, StillHeld, Crossed, NoEnd}
use Rattle.lk_forms.specs.declared.answers.Which.{Which}
use Rattle.lk_forms.specs.declared.answers.Which.TheVariants.{Line, Input, Words, Handlers, Acts, Jobs, Total}
use Rattle.lk_text.specs.declared.sink.WriteFault.{WriteFault}
use Rattle.lk_replay.specs.declared.answers.Summary.{Summary}
use Rattle.lk_stream.specs.declared.answers.ReplayFault.{ReplayFault}
use Rattle.lk_stream.specs.declared.answers.ReplayFault.TheVariants as answer
use Rattle.lk_command.specs.declared.status.Status.{Status}
use Rattle.lk_command.specs.declared.status.Status.TheVariants as status

-- the exit status
abbrev pub number_of : Status → ℕ
number_of status.Done = 0
number_of status.Usage = 2
number_of (status.BadInput line why) = 3
number_of status.ReadFault = 4
number_of status.WriteFault = 5
number_of status.Memory = 6
number_of (status.Limit line which) = 7
number_of (status.Unlawful line) = 8

-- the status of a fault
abbrev pub status_at : ReplayFault → Status
status_at (answer.BadInput line why) = status.BadInput line why
status_at (answer.Limit line which) = status.Limit line which
status_at answer.ReadFault = status.ReadFault
status_at answer.WriteFault = status.WriteFault
status_at answer.Memory = status.Memory

-- what a command came to
abbrev pub came_to : {T : Type 0} → Result T ReplayFault → Status
came_to (Ok answer) = status.Done
came_to (Err why) = status_at why

-- what a replay came to
abbrev pub status_of : Result Summary ReplayFault → Status
status_of answer = came_to answer

-- what a text that is put came to
abbrev pub status_of_put : {T : Type 0} → Result T WriteFault → Status
status_of_put (Ok put) = status.Done
status_of_put (Err fault) = status.WriteFault

-- the name of a fault
abbrev pub fault_name : Fault → List ℕ
fault_name NoFormat = codes "NoFormat"
fault_name NotText = codes "NotText"
fault_name UnknownWord = codes "UnknownWord"
fault_name WordCount = codes "WordCount"
fault_name BadNumber = codes "BadNumber"
fault_name OutOfRange = codes "OutOfRange"
fault_name Misplaced = codes "Misplaced"
fault_name Repeated = codes "Repeated"
fault_name WrongLock = codes "WrongLock"
fault_name Reheld = codes "Reheld"
fault_name NotHeld = codes "NotHeld"
fault_name StillHeld = codes "StillHeld"
fault_name Crossed = codes "Crossed"
fault_name NoEnd = codes "NoEnd"

-- the name of a limit
abbrev pub which_name : Which → List ℕ
which_name Line = codes "Line"
which_name Input = codes "Input"
which_name Words = codes "Words"
which_name Handlers = codes "Handlers"
which_name Acts = codes "Acts"
which_name Jobs = codes "Jobs"
which_name Total = codes "Total"

-- the line written for a status
abbrev pub note_of : Status → List ℕ
note_of status.Done = []
note_of status.Usage = codes "usage: qlock replay | ledger | gen <n> | load <n> | audit | osq\n"
note_of (status.BadInput line why) = codes "bad input line " ++ (decimal line ++ (codes ": " ++ (fault_name why ++ codes "\n")))
note_of status.ReadFault = codes "read fault\n"
note_of status.WriteFault = codes "write fault\n"
note_of status.Memory = codes "out of memory\n"
note_of (status.Unlawful line) = codes "unlawful line " ++ (decimal line ++ codes "\n")
note_of (status.Limit line which) = codes "limit line " ++ (decimal line ++ (codes ": " ++ (which_name which ++ codes "\n")))
