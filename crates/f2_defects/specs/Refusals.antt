-- Why an image can't be checked.
use Rattle.f2_roll.specs.declared.refusal.RollRefusal.{RollRefusal}
use Rattle.f2_roll.specs.declared.refusal.RollRefusal.TheVariants as roll
use Rattle.f2_view.specs.declared.readings.ViewRefusal.{ViewRefusal}
use Rattle.f2_view.specs.declared.readings.ViewRefusal.TheVariants as view
use Rattle.f2_defects.specs.declared.refusal.CheckRefusal.{CheckRefusal}
use Rattle.f2_defects.specs.declared.refusal.CheckRefusal.TheVariants.{DiskFault, NoMemory}

-- the refusals of a reading, and those of the chain
abbrev pub view_refusal : ViewRefusal → CheckRefusal
view_refusal view.DiskFault = DiskFault
view_refusal view.NoMemory = NoMemory

abbrev pub roll_refusal : RollRefusal → CheckRefusal
roll_refusal roll.DiskFault = DiskFault
roll_refusal roll.NoMemory = NoMemory
