-- What a dump puts.
use Rattle.std.specs.Prelude.{◌≡◌, ◌↔◌, ◌⊎◌, ℕ, ◌≤◌, List, ◌++◌, take, Option, Some, None, Result, Err, OnOk, IsErrOf}
use Rattle.f2_disk.specs.Disk.{Rose}
use Rattle.f2_dump.specs.declared.dumping.DumpRefusal.{DumpRefusal}
use Rattle.f2_dump.specs.declared.dumping.DumpRefusal.TheVariants.{DiskFault, SinkFault, NoMemory, OutOfRange, NoSuchNode}
use Rattle.f2_view.specs.declared.readings.ViewRefusal.{ViewRefusal}
use Rattle.f2_view.specs.declared.readings.ViewRefusal.TheVariants as view

-- All lines were put where the dump was done, else a prefix of them. The sink told `old` before and tells `new`.
pub record Dumps {T : Type 0} (lines : List ℕ) (old new : Option (List ℕ)) (result : Result T DumpRefusal) : Type 0 where
  pub done : OnOk result ((had : List ℕ) → old ≡ Some had → new ≡ Some (had ++ lines))
  pub part : (had : List ℕ) → old ≡ Some had → (n : ℕ) × (new ≡ Some (had ++ take n lines))

-- how often the sink failed before and now: a fault is answered only where it did
pub record Sinks {T : Type 0} (before now : ℕ) (result : Result T DumpRefusal) : Type 0 where
  pub later : before ≤ now
  pub failed : IsErrOf result SinkFault → Rose before now

-- A number outside the range is refused, exactly where there is one, and then nothing was put.
pub record Refuses {T : Type 0} (outside : Option ℕ) (old new : Option (List ℕ)) (result : Result T DumpRefusal) : Type 0 where
  pub exact : (n : ℕ) → (result ≡ Err (OutOfRange n)) ↔ (outside ≡ Some n)
  pub nothing : (n : ℕ) → result ≡ Err (OutOfRange n) → new ≡ old
  -- nor was anything where there is no such node
  pub absent : (n : ℕ) → result ≡ Err (NoSuchNode n) → new ≡ old

-- A number that the image has no node for is refused, and no other; where there is one, nothing is done and nothing put.
pub record Lacks {T : Type 0} (missing : Option ℕ) (result : Result T DumpRefusal) : Type 0 where
  pub named : (n : ℕ) → result ≡ Err (NoSuchNode n) → missing ≡ Some n
  pub done : OnOk result (missing ≡ None)
  pub sink : IsErrOf result SinkFault → missing ≡ None

-- no refusal but a fault of the sink and want of memory
abbrev pub OnlySink : {T : Type 0} → Result T DumpRefusal → Type 0
OnlySink (Err DiskFault) = ⊥
OnlySink (Err (OutOfRange n)) = ⊥
OnlySink (Err (NoSuchNode n)) = ⊥
OnlySink _ = Unit {0}

-- what a failed reading is answered with
abbrev pub reading_refusal : ViewRefusal → DumpRefusal
reading_refusal view.DiskFault = DiskFault
reading_refusal view.NoMemory = NoMemory

-- no refusal but those of a reading: a fault of the disk and want of memory
abbrev pub OnlyReads : {T : Type 0} → Result T DumpRefusal → Type 0
OnlyReads (Err SinkFault) = ⊥
OnlyReads (Err (OutOfRange n)) = ⊥
OnlyReads (Err (NoSuchNode n)) = ⊥
OnlyReads _ = Unit {0}

-- no number was refused
abbrev pub IsInside : {T : Type 0} → Result T DumpRefusal → Type 0
IsInside (Err (OutOfRange n)) = ⊥
IsInside (Err (NoSuchNode n)) = ⊥
IsInside _ = Unit {0}

-- What a sink was sent that had `had` before, and a text that is still to be put, are together all of this.
pub record IsSent (had : List ℕ) (now : Option (List ℕ)) (text all : List ℕ) : Type 0 where
  pub sent : List ℕ
  pub told : now ≡ Some (had ++ sent)
  pub rest : sent ++ text ≡ all

-- Lines were appended to a text that goes to a sink piece by piece, or a prefix of both: `before` was the text, and
-- `after` is what is still to be put.
pub record Gathers {T : Type 0} (lines before after : List ℕ) (old new : Option (List ℕ)) (result : Result T DumpRefusal) : Type 0 where
  pub done : OnOk result ((had : List ℕ) → old ≡ Some had → IsSent had new after (before ++ lines))
  pub part : (had : List ℕ) → old ≡ Some had → (n : ℕ) × IsSent had new after (take n (before ++ lines))

-- it ends with this answer, or the sink failed
abbrev pub Ends : {T : Type 0} → Result T DumpRefusal → ℕ → ℕ → Result T DumpRefusal → Type 0
Ends answer before now result = (before ≤ now) × ((result ≡ answer) ⊎ ((result ≡ Err SinkFault) × Rose before now))
