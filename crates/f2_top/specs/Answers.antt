-- The answers of a run.
use Rattle.std.specs.Prelude.{◌≡◌, ◌⊎◌, ℕ, Bool, ◌||◌, true, false}
use Rattle.f2_top.specs.declared.answer.Answer.{Answer}
use Rattle.f2_top.specs.declared.answer.Answer.TheVariants.{Done, Corrected, Defects, NoSpace, DiskFault, SinkFault, Usage, Refused, NoMemory}

-- the status with which the program ends
abbrev pub status_of : Answer → ℕ
status_of Done = 0
status_of Corrected = 1
status_of (Defects rule count) = 4
status_of DiskFault = 8
status_of SinkFault = 9
status_of (NoSpace need have) = 10
status_of Usage = 16
status_of (Refused refusal) = 20
status_of NoMemory = 32

-- the answer is this one, unless a fault or want of memory ended the job early
abbrev pub AnswersOrEnds : Answer → Answer → Type 0
AnswersOrEnds is answer = (answer ≡ is) ⊎ ((answer ≡ DiskFault) ⊎ ((answer ≡ NoMemory) ⊎ (answer ≡ SinkFault)))

-- the job was done
abbrev pub IsSuccess : Answer → Type 0
IsSuccess Done = Unit {0}
IsSuccess Corrected = Unit {0}
IsSuccess _ = ⊥

-- With these answers nothing was written to the disk. A job that makes an image, or moves blocks of one, writes where
-- it is done, and one that moves blocks may be short of memory between two batches of them.
abbrev pub IsIdle : Bool → Bool → Answer → Type 0
IsIdle makes moves Done = (makes || moves) ≡ false
IsIdle makes moves (Defects rule count) = Unit {0}
IsIdle makes moves (NoSpace need have) = Unit {0}
IsIdle makes moves Usage = Unit {0}
IsIdle makes moves (Refused refusal) = Unit {0}
IsIdle makes moves NoMemory = moves ≡ false
IsIdle makes moves _ = ⊥

-- With these answers nothing is put but the last line; with Done only of a job that has no line of its own.
abbrev pub IsLastAlone : Bool → Answer → Type 0
IsLastAlone has_none Done = has_none ≡ true
IsLastAlone has_none Corrected = Unit {0}
IsLastAlone has_none (NoSpace need have) = Unit {0}
IsLastAlone has_none Usage = Unit {0}
IsLastAlone has_none (Refused refusal) = Unit {0}
IsLastAlone has_none _ = ⊥

-- with these answers a job has put all its lines
abbrev pub IsWhole : Answer → Type 0
IsWhole Done = Unit {0}
IsWhole (Defects rule count) = Unit {0}
IsWhole _ = ⊥
