-- The refusals of the tables and of the mount, as those of a checkpoint that is prepared.
use Rattle.f2_tables.specs.declared.refusal.TableRefusal.{TableRefusal}
use Rattle.f2_tables.specs.declared.refusal.TableRefusal.TheVariants as table
use Rattle.f2_view.specs.declared.readings.ViewRefusal.{ViewRefusal}
use Rattle.f2_view.specs.declared.readings.ViewRefusal.TheVariants as view
use Rattle.f2_change.specs.declared.change.PrepareRefusal.{PrepareRefusal}
use Rattle.f2_change.specs.declared.change.PrepareRefusal.TheVariants.{DiskFault, NoMemory}

abbrev pub of_table : TableRefusal → PrepareRefusal
of_table table.DiskFault = DiskFault
of_table table.NoMemory = NoMemory

abbrev pub of_view : ViewRefusal → PrepareRefusal
of_view view.DiskFault = DiskFault
of_view view.NoMemory = NoMemory
