-- What a run answers, what it prints, and what it leaves on the disk.
use Rattle.std.specs.Prelude.{◌≡◌, ◌≢◌, ◌⊎◌, ℕ, Bool, ◌&&◌, not, true, false, if◌then◌else◌, List, [], ◌++◌, length, map, flat_map, take, Option, Some, None, Result, Ok, Err}
use Rattle.f2_bytes.specs.Bytes.{Image}
use Rattle.f2_bytes.specs.Superblock.{has_twins, is_loadable, layout}
use Rattle.f2_disk.specs.Disk.{State, Rose}
use Rattle.f2_super.specs.Load.{loaded, repaired}
use Rattle.f2_super.specs.declared.sizes.Geometry.{Geometry}
use Rattle.f2_super.specs.declared.loading.Found.{Found}
use Rattle.f2_super.specs.declared.loading.SuperRefusal.{SuperRefusal}
use Rattle.f2_super.specs.declared.loading.SuperRefusal.TheVariants as load
use Rattle.f2_view.specs.Mounted.{Mounted, layout_in}
use Rattle.f2_view.specs.Mounting.{mounted}
use Rattle.f2_view.specs.declared.mounting.MountRefusal.{MountRefusal}
use Rattle.f2_view.specs.declared.mounting.MountRefusal.TheVariants as mount
use Rattle.f2_dump.specs.declared.dumping.What.{What}
use Rattle.f2_bytes.specs.Check.{defects, failing_rule}
use Rattle.f2_defects.specs.Collected.{defect_in}
use Rattle.f2_defects.specs.declared.verdict.Verdict.{Verdict}
use Rattle.f2_defects.specs.declared.verdict.Verdict.TheVariants as verdict
use Rattle.f2_dump.specs.Text.{dump_lines, missing, outside}
use Rattle.f2_dump.specs.Trees.{tree_lines}
use Rattle.f2_mkfs.specs.Formatting.{has_magic, size_answer, unless_there, format_answer}
use Rattle.f2_mkfs.specs.NewImage.{IsNew}
use Rattle.f2_mkfs.specs.declared.formatting.FormatRefusal.{FormatRefusal}
use Rattle.f2_mkfs.specs.declared.formatting.FormatRefusal.TheVariants as new
use Rattle.f2_mkfs.specs.declared.formatting.Options.{Options}
use Rattle.f2_top.specs.Disks.{OnImage, TellsOne}
use Rattle.f2_top.specs.Jobs.{options_of}
use Rattle.f2_top.specs.Ranges.{Aim, aim_of, outside_aim, space_answer, unless_failing, unless_outside, lines_unless_failing, moves_line, LeavesEmptied, HasNone}
use Rattle.f2_top.specs.Text.{IsText, defect_line, defect_lines, lines_if_done, size_line}
use Rattle.f2_top.specs.declared.answer.Answer.{Answer}
use Rattle.f2_top.specs.declared.answer.Answer.TheVariants.{Done, Corrected, Defects, DiskFault, SinkFault, Usage, Refused, NoMemory}
use Rattle.f2_top.specs.declared.answer.Refusal.TheVariants.{NoSuper, Unsupported, TooLarge, Truncated, NoPack, VersionLimit, BadSummary, DeviceTooSmall, TooSmall, OutOfRange, NoSuchNode, Exists}
use Rattle.f2_top.specs.declared.jobs.Job.{Job}
use Rattle.f2_top.specs.declared.moves.DefragRequest.{DefragRequest}
use Rattle.f2_top.specs.declared.jobs.Job.TheVariants.{Check, Tree, Super, Dump, Defrag, Mkfs}

-- what repairing the superblock copies answers to what was loaded, without a fault
abbrev pub super_answer : Result Found SuperRefusal → Answer
super_answer (Ok found) = if found.twin then Done else Corrected
super_answer (Err load.NoSuper) = Refused NoSuper
super_answer (Err (load.Unsupported bits)) = Refused (Unsupported bits)
super_answer (Err (load.TooLarge blocks)) = Refused (TooLarge blocks)
super_answer (Err (load.Truncated blocks held)) = Refused (Truncated blocks held)
super_answer (Err load.DiskFault) = DiskFault

-- and the image that it leaves
abbrev pub super_image : Result Found SuperRefusal → Image → Image
super_image (Ok found) image = if found.twin then image else repaired found image
super_image (Err refusal) image = image

-- the answer for an image that can't be mounted
abbrev pub mount_answer : MountRefusal → Answer
mount_answer mount.NoSuper = Refused NoSuper
mount_answer (mount.Unsupported bits) = Refused (Unsupported bits)
mount_answer (mount.TooLarge blocks) = Refused (TooLarge blocks)
mount_answer (mount.Truncated blocks held) = Refused (Truncated blocks held)
mount_answer mount.NoPack = Refused NoPack
mount_answer (mount.VersionLimit version) = Refused (VersionLimit version)
mount_answer (mount.BadSummary count) = Refused (BadSummary count)
mount_answer mount.DiskFault = DiskFault
mount_answer mount.NoMemory = NoMemory

-- the answer of a dump, where this number of it lies outside, and where the image lacks this inode or its bytes, if any
abbrev pub number_answer : Option ℕ → Option ℕ → Answer
number_answer None None = Done
number_answer None (Some ino) = Refused (NoSuchNode ino)
number_answer (Some number) lacking = Refused (OutOfRange number)

-- what a dump of an image answers to what was mounted of it, without a fault
abbrev pub dump_answer : What → Image → Result Mounted MountRefusal → Answer
dump_answer what image (Ok m) = number_answer (outside (layout_in m) what) (missing image what)
dump_answer what image (Err refusal) = mount_answer refusal

-- and its lines, which are those of the image
abbrev pub mounted_lines : What → Image → Result Mounted MountRefusal → List ℕ
mounted_lines what image (Ok m) = dump_lines image what
mounted_lines what image (Err refusal) = []

-- the least rule that an image fails
unfoldable pub least_failing : Image → Option ℕ
least_failing image = failing_rule image 1

-- what the check of an image answers, where this is the least rule that it fails, if it fails one
abbrev pub verdict_answer : Image → Option ℕ → Answer
verdict_answer image None = Done
verdict_answer image (Some rule) = Defects rule (length (defects image rule))

-- and its lines: those of an image without defects, which are those of the tree where that is asked for, or of its
-- defects
abbrev pub clean_lines : Bool → Image → List ℕ
clean_lines with_tree image = if with_tree then tree_lines image else []

abbrev pub verdict_lines : Bool → Image → Option ℕ → List ℕ
verdict_lines with_tree image None = clean_lines with_tree image
verdict_lines with_tree image (Some rule) = defect_lines image rule

-- the same for a verdict
abbrev pub said_answer : Verdict → Answer
said_answer verdict.Clean = Done
said_answer (verdict.Defects rule list count) = Defects rule count

abbrev pub said_lines : Bool → Image → Verdict → List ℕ
said_lines with_tree image verdict.Clean = clean_lines with_tree image
said_lines with_tree image (verdict.Defects rule list count) = flat_map (defect_line rule) (map defect_in list.items)

-- what the check answers to what was mounted of an image, without a fault, and its lines
abbrev pub check_answer : Image → Result Mounted MountRefusal → Answer
check_answer image (Ok m) = verdict_answer image (least_failing image)
check_answer image (Err refusal) = mount_answer refusal

abbrev pub checked_lines : Bool → Image → Result Mounted MountRefusal → List ℕ
checked_lines with_tree image (Ok m) = verdict_lines with_tree image (least_failing image)
checked_lines with_tree image (Err refusal) = []

-- what emptying a range of an image answers, without a fault, and its lines
abbrev pub emptying_answer : Image → Aim → Answer
emptying_answer image a = unless_failing image (least_failing image) (space_answer image a)

abbrev pub emptying_lines : Image → Aim → List ℕ
emptying_lines image a = lines_unless_failing image (least_failing image) (moves_line image a)

-- what words for it answer to what was mounted of an image, without a fault
abbrev pub move_answer : DefragRequest → Image → Result Mounted MountRefusal → Answer
move_answer w image (Ok m) =
    unless_outside (outside_aim (layout_in m) w) (emptying_answer image (aim_of (layout_in m) w))
move_answer w image (Err refusal) = mount_answer refusal

-- its lines
abbrev pub move_lines : DefragRequest → Image → Result Mounted MountRefusal → List ℕ
move_lines w image (Ok m) = emptying_lines image (aim_of (layout_in m) w)
move_lines w image (Err refusal) = []

-- and what it leaves of the image
abbrev pub LeavesMoved : DefragRequest → Image → Result Mounted MountRefusal → Image → Type 0
LeavesMoved w image (Ok m) left = LeavesEmptied image (aim_of (layout_in m) w) (move_answer w image (Ok m)) left
LeavesMoved w image (Err refusal) left = left ≡ image

-- what words ask for
abbrev pub request_of : Option ℕ → Option ℕ → Option ℕ → Bool → DefragRequest
request_of start blocks target down = record { start = start; blocks = blocks; target = target; down = down }

-- what making an image answers, without a fault
abbrev pub new_answer : Result Geometry FormatRefusal → Answer
new_answer (Ok g) = Done
new_answer (Err (new.DeviceTooSmall blocks held)) = Refused (DeviceTooSmall blocks held)
new_answer (Err (new.TooLarge blocks)) = Refused (TooLarge blocks)
new_answer (Err (new.TooSmall main least)) = Refused (TooSmall main least)
new_answer (Err new.Exists) = Refused Exists
new_answer (Err new.DiskFault) = DiskFault
new_answer (Err new.NoMemory) = NoMemory

-- its lines, for its sizes
abbrev pub new_lines : Result Geometry FormatRefusal → List ℕ
new_lines (Ok g) = size_line g
new_lines (Err refusal) = []

-- and what it leaves of an image: a new one, or this one where it is refused
abbrev pub LeavesNew : Options → Result Geometry FormatRefusal → Image → Image → Type 0
LeavesNew o (Ok g) image left = IsNew o g left
LeavesNew o (Err refusal) image left = left ≡ image

-- What it answers on every disk: by its sizes, unless it is refused for what the disk holds, or ended early. A fault of
-- the sink comes where it would have been done.
abbrev pub FitsSizes : Result Geometry FormatRefusal → Answer → Type 0
FitsSizes sizes (Refused Exists) = Unit {0}
FitsSizes sizes DiskFault = Unit {0}
FitsSizes sizes NoMemory = Unit {0}
FitsSizes sizes SinkFault = Done ≡ new_answer sizes
FitsSizes sizes answer = answer ≡ new_answer sizes

-- what a job answers on a disk of this many blocks, without a fault and with memory
abbrev pub answer_of : Option Job → ℕ → Image → Answer
answer_of None size image = Usage
answer_of (Some Check) size image = check_answer image (mounted size image)
answer_of (Some Tree) size image = check_answer image (mounted size image)
answer_of (Some Super) size image = super_answer (loaded size image)
answer_of (Some (Dump what)) size image = dump_answer what image (mounted size image)
answer_of (Some (Defrag start blocks target down)) size image =
    move_answer (request_of start blocks target down) image (mounted size image)
answer_of (Some (Mkfs sectors label uuid second features force)) size image =
    new_answer (unless_there (not force && has_magic image) (size_answer size sectors))

-- what it leaves of an image; a new one has this moment and this uuid where the job gives none
abbrev pub Leaves : Option Job → ℕ → List ℕ → ℕ → Image → Image → Type 0
Leaves (Some Super) moment id size image left = left ≡ super_image (loaded size image) image
Leaves (Some (Defrag start blocks target down)) moment id size image left =
    LeavesMoved (request_of start blocks target down) image (mounted size image) left
Leaves (Some (Mkfs sectors label uuid second features force)) moment id size image left =
    let o = options_of sectors label uuid second features force moment id in
    LeavesNew o (format_answer size image o) image left
Leaves job moment id size image left = left ≡ image

-- a disk that told this image tells what the job leaves of it
abbrev pub IsLeft : Option Job → ℕ → List ℕ → ℕ → Image → Option Image → Type 0
IsLeft job moment id size image told = (left : Image) × (told ≡ Some left) × Leaves job moment id size image left

-- A job's lines, and before them those that it may have put where it ended early: of a check and of a dump none but
-- where it would have been done, and none of a job that writes. A check's and a dump's are those of an image, which the
-- disk then has to tell, and so is what moved; a new image's say its sizes.
abbrev pub AreLines : Option Job → State → List ℕ → List ℕ → Type 0
AreLines (Some Check) old early lines = TellsOne old (λ image. let mount = mounted old.size image in
    (lines ≡ checked_lines false image mount) × (early ≡ lines_if_done (check_answer image mount) lines))
AreLines (Some Tree) old early lines = TellsOne old (λ image. let mount = mounted old.size image in
    (lines ≡ checked_lines true image mount) × (early ≡ lines_if_done (check_answer image mount) lines))
AreLines (Some (Dump what)) old early lines = TellsOne old (λ image. let mount = mounted old.size image in
    (lines ≡ mounted_lines what image mount) × (early ≡ lines_if_done (dump_answer what image mount) lines))
AreLines (Some (Defrag start blocks target down)) old early lines = TellsOne old (λ image.
    (lines ≡ move_lines (request_of start blocks target down) image (mounted old.size image)) × (early ≡ []))
AreLines (Some (Mkfs sectors label uuid second features force)) old early lines =
    (lines ≡ new_lines (size_answer old.size sectors)) × (early ≡ [])
AreLines job old early lines = (lines ≡ []) × (early ≡ [])

-- a job that makes an image answers by its sizes, also on a disk that tells nothing
abbrev pub AreSizes : Option Job → ℕ → Answer → Type 0
AreSizes (Some (Mkfs sectors label uuid second features force)) size answer =
    FitsSizes (size_answer size sectors) answer
AreSizes job size answer = Unit {0}

-- a job that moves blocks finds none that it may move
abbrev pub MovesNone : Option Job → Image → Type 0
MovesNone (Some (Defrag start blocks target down)) image =
    HasNone image (aim_of (layout image) (request_of start blocks target down))
MovesNone job image = ⊥

-- What a job may answer, but for a fault of the sink.
pub record Allowed (job : Option Job) (old new : State) (answer : Answer) : Type 0 where
  -- exactly which answer, where the disk tells its blocks
  pub exact : OnImage old (λ image.
      (answer ≡ answer_of job old.size image) ⊎ ((answer ≡ DiskFault) ⊎ (answer ≡ NoMemory)))
  -- a fault only where the disk had one
  pub fault : answer ≡ DiskFault → Rose old.faults new.faults
  -- Usage where the words name no job, unless memory was short, and only there, on every disk
  pub usage : job ≡ None → (answer ≡ Usage) ⊎ (answer ≡ NoMemory)
  pub used : answer ≡ Usage → job ≡ None
  -- Corrected of the job that repairs the superblock copies alone
  pub corrected : answer ≡ Corrected → job ≡ Some Super
  -- the sizes of a new image, on every disk
  pub sizes : AreSizes job old.size answer
  pub sink : answer ≢ SinkFault

-- what a job answers where neither the disk nor the sink has a fault
abbrev pub IsAnswered : Option Job → ℕ → Image → Answer → Type 0
IsAnswered job size image answer =
    (answer ≡ NoMemory) ⊎ ((answer ≡ answer_of job size image)
    × (job ≡ Some Super → is_loadable image ≡ true → answer ≡ (if has_twins image then Done else Corrected)))

-- What a sink tells that held these bytes before: the text of the answer, or, where the sink failed, a prefix of the
-- text of an answer that was allowed.
abbrev pub Printed : Option Job → List ℕ → List ℕ → State → State → Answer → List ℕ → Option (List ℕ) → Type 0
Printed job early lines old new SinkFault had told =
    (answer : Answer) × Allowed job old new answer
    × (text : List ℕ) × IsText job early lines answer text × (n : ℕ) × (told ≡ Some (had ++ take n text))
Printed job early lines old new answer had told =
    (text : List ℕ) × IsText job early lines answer text × (told ≡ Some (had ++ text))
