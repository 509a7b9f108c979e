-- The words that are accepted, the job that they ask for, and what a run of each job comes to. All of it is this project's own.
use Rattle.std.specs.Prelude.{◌≡◌, ℕ, Bool, true, false, not, ◌&&◌, ◌==◌, cond, List, [], ◌∷◌, Option, Some, None, codes}
use Rattle.std.specs.Str.{bytes_eq, chars}
use Rattle.host_model.specs.Source.{Stream}
use Rattle.etf_model.specs.SpellingFeed.{spellings}
use Rattle.text_model.specs.TextFeed.{texts}
use Rattle.dets_tool.specs.declared.job.Job.{Job}
use Rattle.dets_tool.specs.declared.job.Job.TheVariants.{Run, Check, Show, Encode, Decode}
use Rattle.dets_tool.specs.declared.status.Status.{Status}
use Rattle.dets_tool.specs.Status.{status_of_text, status_of_spelling}
use Rattle.dets_tool.specs.Service.{serving, printing, encoding}
use Rattle.dets_tool.specs.Run.{Ran, IsWhole}

-- a word that may stand for a file: it is not empty and does not begin with `-`
abbrev pub is_file : List ℕ → Bool
is_file [] = false
is_file (first ∷ rest) = not (first == 45)

-- of one word
abbrev pub job_of_one : List ℕ → Option Job
job_of_one word = cond (bytes_eq word (codes "text")) (Some Show) None

-- of a name with a file behind it
abbrev pub job_on_file : (name file : List ℕ) → Option Job
job_on_file name file = cond (bytes_eq name (codes "run")) (Some (Run file)) (cond (bytes_eq name (codes "check")) (Some (Check file)) None)

-- of two words
abbrev pub job_of_two : (first second : List ℕ) → Option Job
job_of_two first second =
    cond (bytes_eq first (codes "text") && bytes_eq second (codes "encode")) (Some Encode)
    (cond (bytes_eq first (codes "text") && bytes_eq second (codes "decode")) (Some Decode)
    (cond (is_file second) (job_on_file first (chars second)) None))

-- the job that the words ask for; none where they have none of the stated forms
abbrev pub stated_job : List (List ℕ) → Option Job
stated_job [] = None
stated_job (word ∷ []) = job_of_one word
stated_job (first ∷ second ∷ []) = job_of_two first second
stated_job (first ∷ second ∷ third ∷ rest) = None

-- the characters of the file that a job works on
abbrev pub path_of : Job → Option (List ℕ)
path_of (Run file) = Some file
path_of (Check file) = Some file
path_of Show = None
path_of Encode = None
path_of Decode = None

-- whether a job works on its file
abbrev pub asks_disk : Option Job → Bool
asks_disk (Some (Check file)) = true
asks_disk other = false

-- What a run of a job comes to: `run` replies to the commands of printed terms, `text` prints and `text encode` spells printed terms,
-- and `text decode` prints terms that are spelled. `check` takes nothing of its input.
abbrev pub RanJob : Job → Status → List ℕ → Option Stream → (said now : Option (List ℕ)) → Type 0
RanJob (Run file) = Ran texts status_of_text serving
RanJob (Check file) = λ status input after said now. after ≡ Some (record { left = input; ended = false })
RanJob Show = Ran texts status_of_text printing
RanJob Encode = Ran texts status_of_text encoding
RanJob Decode = Ran spellings status_of_spelling printing

-- an input that a run of a job serves to its end, where no device and no memory fails
abbrev pub IsWholeInput : Job → List ℕ → Type 0
IsWholeInput (Run file) = IsWhole texts serving
IsWholeInput (Check file) = λ input. ⊥
IsWholeInput Show = IsWhole texts printing
IsWholeInput Encode = IsWhole texts encoding
IsWholeInput Decode = IsWhole spellings printing
