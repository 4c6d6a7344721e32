-- The refusals of what stands below, as those of moves.
use Rattle.f2_commit.specs.declared.shift_refusal.ShiftRefusal.{ShiftRefusal}
use Rattle.f2_commit.specs.declared.shift_refusal.ShiftRefusal.TheVariants as shift
use Rattle.f2_roll.specs.declared.refusal.RollRefusal.{RollRefusal}
use Rattle.f2_roll.specs.declared.refusal.RollRefusal.TheVariants as roll
use Rattle.f2_view.specs.declared.readings.ViewRefusal.{ViewRefusal}
use Rattle.f2_view.specs.declared.readings.ViewRefusal.TheVariants as view
use Rattle.f2_commit.specs.declared.relocating.RelocRefusal.{RelocRefusal}
use Rattle.f2_commit.specs.declared.relocating.RelocRefusal.TheVariants.{DiskFault, NoMemory}

abbrev pub of_shift : ShiftRefusal → RelocRefusal
of_shift shift.DiskFault = DiskFault
of_shift shift.NoMemory = NoMemory

abbrev pub of_view : ViewRefusal → RelocRefusal
of_view view.DiskFault = DiskFault
of_view view.NoMemory = NoMemory

abbrev pub of_roll : RollRefusal → RelocRefusal
of_roll roll.DiskFault = DiskFault
of_roll roll.NoMemory = NoMemory
