-- The code and the line of each end of a run. All of it is this project's own.
use Rattle.std.specs.Prelude.{ℕ, ◌^◌, List, [], ◌∷◌, ◌++◌, codes, decimal, Result, Ok, Err}
use Rattle.etf_model.specs.declared.fault.EtfFault.{EtfFault}
use Rattle.etf_model.specs.declared.fault.EtfFault.TheVariants.{Short, NotVersion, Unsupported, Compressed, IntegerRange, BadAtom, BadBits}
use Rattle.etf_model.specs.declared.fault.EtfFault.TheVariants.{RepeatedKey, Depth, LongTerm, Memory as EtfMemory}
use Rattle.text_model.specs.declared.fault.TextFault.{TextFault}
use Rattle.text_model.specs.declared.fault.TextFault.TheVariants.{Syntax, Memory as TextMemory}
use Rattle.dets_tool.specs.declared.input_feed.PullFault.{PullFault}
use Rattle.dets_tool.specs.declared.input_feed.PullFault.TheVariants.{SourceFault as SourceFailed, TooMuch as PastBudget}
use Rattle.dets_tool.specs.declared.status.FileWhy.{FileWhy}
use Rattle.dets_tool.specs.declared.status.FileWhy.TheVariants.{Empty, NotDets, Version}
use Rattle.dets_tool.specs.declared.status.InputWhy.TheVariants.{TooMuch, Text, Etf}
use Rattle.dets_tool.specs.declared.status.Status.{Status}
use Rattle.dets_tool.specs.declared.status.Status.TheVariants.{Done, Input, WordsRefused, Disk, SourceFault, Output, Memory, File, NotYet}

-- the exit status
abbrev pub code_of : Status → ℕ
code_of Done = 0
code_of (Input offset why) = 1
code_of WordsRefused = 2
code_of Disk = 3
code_of SourceFault = 4
code_of Output = 5
code_of Memory = 6
code_of (File why) = 7
code_of (NotYet command) = 9

-- the program's name, and the line end behind the text
abbrev pub message : List ℕ → List ℕ
message text = codes "dets_tool: " ++ text ++ 10 ∷ []

-- why a file was refused
abbrev pub words_of_file : FileWhy → List ℕ
words_of_file Empty = codes "empty"
words_of_file NotDets = codes "not a dets file"
words_of_file (Version version) = codes "version " ++ decimal version

-- the line for standard error
abbrev pub line_of : Status → List ℕ
line_of Done = []
line_of (Input offset why) = message (codes "input refused at " ++ decimal offset)
line_of WordsRefused = message (codes "words refused")
line_of Disk = message (codes "disk fault")
line_of SourceFault = message (codes "source fault")
line_of Output = message (codes "output fault")
line_of Memory = message (codes "out of memory")
line_of (File why) = message (codes "file refused: " ++ words_of_file why)
line_of (NotYet command) = message (codes "not yet at command " ++ decimal command)

-- the end of a run where a pull gave no piece
abbrev pub status_of_pull : PullFault → Status
status_of_pull SourceFailed = SourceFault
status_of_pull PastBudget = Input (2 ^ 32) TooMuch

-- the end of a run that went on to its last command, or ended before
abbrev pub status_of_run : Result Unit Status → Status
status_of_run (Ok done) = Done
status_of_run (Err status) = status

-- the end of a run at a fault of its text
abbrev pub status_of_text : TextFault → ℕ → Status
status_of_text (Syntax at why) fed = Input at (Text why)
status_of_text TextMemory fed = Memory

-- the offset that a fault of a spelling has, where so many bytes were fed: that of its own, or the length of a stream that is too short
abbrev pub offset_of : EtfFault → ℕ → ℕ
offset_of Short fed = fed
offset_of (NotVersion at) fed = at
offset_of (Unsupported at tag) fed = at
offset_of (Compressed at) fed = at
offset_of (IntegerRange at) fed = at
offset_of (BadAtom at) fed = at
offset_of (BadBits at) fed = at
offset_of (RepeatedKey at) fed = at
offset_of (Depth at) fed = at
offset_of (LongTerm at) fed = at
offset_of EtfMemory fed = fed

-- the end of a run at a fault of a spelling
abbrev pub status_of_spelling : EtfFault → ℕ → Status
status_of_spelling EtfMemory fed = Memory
status_of_spelling fault fed = Input (offset_of fault fed) (Etf fault)

-- the input was refused for a rule that it breaks, or there was no memory
abbrev pub IsRefusal : Status → Type 0
IsRefusal (Input offset TooMuch) = ⊥
IsRefusal (Input offset why) = Unit {0}
IsRefusal Memory = Unit {0}
IsRefusal other = ⊥
