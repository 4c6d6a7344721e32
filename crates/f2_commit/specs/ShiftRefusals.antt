-- The refusals of what stands below, as those of a batch that moves.
use Rattle.f2_tables.specs.declared.refusal.TableRefusal.{TableRefusal}
use Rattle.f2_tables.specs.declared.refusal.TableRefusal.TheVariants as table
use Rattle.f2_view.specs.declared.readings.ViewRefusal.{ViewRefusal}
use Rattle.f2_view.specs.declared.readings.ViewRefusal.TheVariants as view
use Rattle.f2_change.specs.declared.change.PrepareRefusal.{PrepareRefusal}
use Rattle.f2_change.specs.declared.change.PrepareRefusal.TheVariants as prepare
use Rattle.f2_commit.specs.declared.shift_refusal.ShiftRefusal.{ShiftRefusal}
use Rattle.f2_commit.specs.declared.shift_refusal.ShiftRefusal.TheVariants.{DiskFault, NoMemory}

abbrev pub of_table : TableRefusal → ShiftRefusal
of_table table.DiskFault = DiskFault
of_table table.NoMemory = NoMemory

abbrev pub of_view : ViewRefusal → ShiftRefusal
of_view view.DiskFault = DiskFault
of_view view.NoMemory = NoMemory

abbrev pub of_prepare : PrepareRefusal → ShiftRefusal
of_prepare prepare.DiskFault = DiskFault
of_prepare prepare.NoMemory = NoMemory
