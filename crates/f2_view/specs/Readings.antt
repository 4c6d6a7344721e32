-- Why a reading of a mounted image failed.
use Rattle.f2_tables.specs.declared.refusal.TableRefusal.{TableRefusal}
use Rattle.f2_tables.specs.declared.refusal.TableRefusal.TheVariants as table
use Rattle.f2_view.specs.declared.readings.ViewRefusal.{ViewRefusal}
use Rattle.f2_view.specs.declared.readings.ViewRefusal.TheVariants.{DiskFault, NoMemory}

-- the refusals of the tables
abbrev pub view_refusal : TableRefusal → ViewRefusal
view_refusal table.DiskFault = DiskFault
view_refusal table.NoMemory = NoMemory
