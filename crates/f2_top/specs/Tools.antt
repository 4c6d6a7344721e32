-- The tools, and the jobs that their words name.
use Rattle.std.specs.Prelude.{ℕ, Bool, false, ◌&&◌, if◌then◌else◌, List, [], ◌∷◌, codes, bytes_eq, Option, Some, None, option_map, unwrap_or}
use Rattle.std.specs.Option.{option_and_then}
use Rattle.f2_dump.specs.declared.dumping.What.{What}
use Rattle.f2_dump.specs.declared.dumping.What.TheVariants.{Cp, Nat, Sit, Raw, Ssa, Inode, Cat}
use Rattle.f2_mkfs.specs.Labels.{label_of}
use Rattle.f2_top.specs.Features.{features_of}
use Rattle.f2_top.specs.Numbers.{number_of, ino_of, range_of, uuid_of}
use Rattle.f2_top.specs.Words.{Text, Grammar, Use, flag, is_used, uses_of, value_in, valued}
use Rattle.f2_top.specs.declared.jobs.Job.{Job}
use Rattle.f2_top.specs.declared.jobs.Job.TheVariants.{Check, Tree, Super, Dump, Defrag, Mkfs}

-- a tool with no option
abbrev pub no_grammar : Grammar
no_grammar = record { options = []; positional = None }

-- ---- fsck, with at most one of -t and --super

abbrev pub fsck_grammar : Grammar
fsck_grammar = record { options = flag (codes "--super") ∷ flag (codes "-t") ∷ []; positional = None }

abbrev pub fsck_job : List Use → Option Job
fsck_job uses =
    if is_used (codes "--super") uses then (if is_used (codes "-t") uses then None else Some Super)
    else (if is_used (codes "-t") uses then Some Tree else Some Check)

-- ---- dump, with one of --cp, -n RANGE, -s RANGE, -a RANGE, -i INO, --block ADDRESS and --cat INO

abbrev pub dump_grammar : Grammar
dump_grammar = record {
  options = flag (codes "--cp") ∷ valued (codes "-n") ∷ valued (codes "-s") ∷ valued (codes "-a") ∷ valued (codes "-i")
      ∷ valued (codes "--block") ∷ valued (codes "--cat") ∷ [];
  positional = None;
}

-- what an option dumps, if its value is of its kind
abbrev pub what_of : Text → Text → Option What
what_of name value =
    if bytes_eq name (codes "-n") then option_map (λ range. Nat range.0 range.1) (range_of value)
    else (if bytes_eq name (codes "-s") then option_map (λ range. Sit range.0 range.1) (range_of value)
    else (if bytes_eq name (codes "-a") then option_map (λ range. Ssa range.0 range.1) (range_of value)
    else (if bytes_eq name (codes "-i") then option_map (λ ino. Inode ino) (ino_of value)
    else (if bytes_eq name (codes "--block") then option_map (λ address. Raw address) (number_of value)
    else (if bytes_eq name (codes "--cat") then option_map (λ ino. Cat ino) (ino_of value) else None)))))

-- an option that is given, and what it dumps
abbrev pub choice : Text → List Use → Option (Option What)
choice name uses = option_map (what_of name) (value_in name uses)

-- what is given of two choices: both together are none
abbrev pub either : Option (Option What) → Option (Option What) → Option (Option What)
either None b = b
either (Some a) None = Some a
either (Some a) (Some b) = Some None

abbrev pub dump_choice : List Use → Option (Option What)
dump_choice uses =
    either (if is_used (codes "--cp") uses then Some (Some Cp) else None)
    (either (choice (codes "-n") uses) (either (choice (codes "-s") uses) (either (choice (codes "-a") uses)
    (either (choice (codes "-i") uses) (either (choice (codes "--block") uses) (choice (codes "--cat") uses))))))

abbrev pub dump_job : List Use → Option Job
dump_job uses = option_and_then (λ what. option_map (λ w. Dump w) what) (dump_choice uses)

-- ---- mkfs [-l LABEL] [-U UUID] [-T SECOND] [-O LIST] [-f] [SECTORS]

abbrev pub mkfs_grammar : Grammar
mkfs_grammar = record {
  options = valued (codes "-l") ∷ valued (codes "-U") ∷ valued (codes "-T") ∷ valued (codes "-O")
      ∷ flag (codes "-f") ∷ [];
  positional = Some (valued (codes "SECTORS"));
}

-- the value of an option that may be left out: none where it is
abbrev pub if_given : {X : Type 0} → (Text → Option X) → Option Text → Option (Option X)
if_given read None = Some None
if_given read (Some value) = option_map (λ x. Some x) (read value)

-- no feature where there is no list
abbrev pub features_or_none : Option Text → Option ℕ
features_or_none None = Some 0
features_or_none (Some list) = features_of list

-- the image that these texts ask for, if each is of its kind; the label is empty where none is given
abbrev pub mkfs_by : Option Text → Option Text → Option Text → Option Text → Option Text → Bool → Option Job
mkfs_by sectors label uuid second features force =
    option_and_then (λ n. option_and_then (λ units. option_and_then (λ id. option_and_then (λ time. option_map (λ bits.
    Mkfs n units id time bits force)
    (features_or_none features)) (if_given number_of second)) (if_given uuid_of uuid))
    (label_of (unwrap_or label []))) (if_given number_of sectors)

abbrev pub mkfs_job : List Use → Option Job
mkfs_job uses =
    mkfs_by (value_in (codes "SECTORS") uses) (value_in (codes "-l") uses) (value_in (codes "-U") uses)
    (value_in (codes "-T") uses)
    (value_in (codes "-O") uses) (is_used (codes "-f") uses)

-- ---- defrag [-s START] [-l BLOCKS] [-t TARGET] [-i]

abbrev pub defrag_grammar : Grammar
defrag_grammar = record {
  options = valued (codes "-s") ∷ valued (codes "-l") ∷ valued (codes "-t") ∷ flag (codes "-i") ∷ [];
  positional = None;
}

-- the range that these texts ask for, if each is a number
abbrev pub defrag_by : Option Text → Option Text → Option Text → Bool → Option Job
defrag_by start blocks target down =
    option_and_then (λ from. option_and_then (λ n. option_map (λ to. Defrag from n to down)
    (if_given number_of target)) (if_given number_of blocks)) (if_given number_of start)

abbrev pub defrag_job : List Use → Option Job
defrag_job uses =
    defrag_by (value_in (codes "-s") uses) (value_in (codes "-l") uses) (value_in (codes "-t") uses)
    (is_used (codes "-i") uses)

-- ---- all words

-- the job that the words of a tool name, if any
abbrev pub tool_job : Text → List Text → Option Job
tool_job tool words =
    if bytes_eq tool (codes "fsck") then option_and_then fsck_job (uses_of fsck_grammar words)
    else (if bytes_eq tool (codes "dump") then option_and_then dump_job (uses_of dump_grammar words)
    else (if bytes_eq tool (codes "mkfs") then option_and_then mkfs_job (uses_of mkfs_grammar words)
    else (if bytes_eq tool (codes "defrag") then option_and_then defrag_job (uses_of defrag_grammar words) else None)))

-- and all words: the first of them names the tool
abbrev pub job_of : List Text → Option Job
job_of [] = None
job_of (tool ∷ words) = tool_job tool words

-- the words whose job takes no memory
abbrev pub is_super : List Text → Bool
is_super (tool ∷ option ∷ []) = bytes_eq tool (codes "fsck") && bytes_eq option (codes "--super")
is_super _ = false
