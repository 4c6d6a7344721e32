-- The jobs.
use Rattle.std.specs.Prelude.{◌≡◌, ◌≢◌, ℕ, Bool, true, false, List, Option, Some, unwrap_or}
use Rattle.f2_super.specs.NewCopy.{HasProfile}
use Rattle.f2_mkfs.specs.declared.formatting.Options.{Options}
use Rattle.f2_top.specs.declared.jobs.Job.{Job}
use Rattle.f2_top.specs.declared.jobs.Job.TheVariants.{Check, Tree, Super, Dump, Defrag, Mkfs}

-- the job takes memory, so it may be refused for want of it
abbrev pub takes_memory : Option Job → Bool
takes_memory (Some Check) = true
takes_memory (Some Tree) = true
takes_memory (Some (Dump what)) = true
takes_memory (Some (Defrag start blocks target down)) = true
takes_memory (Some (Mkfs sectors label uuid second features force)) = true
takes_memory _ = false

-- the job has no line of its own where it is done
abbrev pub has_no_lines : Option Job → Bool
has_no_lines (Some Check) = true
has_no_lines (Some Super) = true
has_no_lines _ = false

-- the job makes an image
abbrev pub makes_image : Option Job → Bool
makes_image (Some (Mkfs sectors label uuid second features force)) = true
makes_image _ = false

-- the job moves blocks of an image
abbrev pub moves_blocks : Option Job → Bool
moves_blocks (Some (Defrag start blocks target down)) = true
moves_blocks _ = false

-- the job repairs nothing, makes nothing and moves nothing
abbrev pub IsReading : Option Job → Type 0
IsReading job = (job ≢ Some Super) × (makes_image job ≡ false) × (moves_blocks job ≡ false)

-- no feature of the image that the job makes is one that the tools don't read
abbrev pub HasKnownFeatures : Option Job → Type 0
HasKnownFeatures (Some (Mkfs sectors label uuid second features force)) = HasProfile features
HasKnownFeatures _ = Unit {0}

-- what an image is to be that is made at this moment, with this uuid where none is given
abbrev pub options_of : Option ℕ → List ℕ → Option (List ℕ) → Option ℕ → ℕ → Bool → ℕ → List ℕ → Options
options_of sectors label uuid second features force moment id =
    record {
      sectors = sectors;
      label = label;
      uuid = unwrap_or uuid id;
      second = unwrap_or second moment;
      features = features;
      force = force;
    }
