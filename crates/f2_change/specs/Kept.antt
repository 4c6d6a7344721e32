-- What is kept of a pack that is to be written.
use Rattle.std.specs.Prelude.{◌≡◌}
use Rattle.f2_bytes.specs.declared.layout.Layout.{Layout}
use Rattle.f2_bytes.specs.Checkpoint.{nat_bits, sit_bits}
use Rattle.f2_pack.specs.declared.writing.NewPack.{NewPack}
use Rattle.f2_pack.specs.Choice.{IsChosen}
use Rattle.f2_pack.specs.Held.{Held, chosen_of}
use Rattle.f2_pack.specs.Written.{written}
use Rattle.f2_tables.specs.Tables.{NatTable, SitTable, OpensNat, OpensSit}

-- what is kept of it once it counts, and both tables, which were opened with it
pub record Keeps (l : Layout) (p : NewPack) (chosen : Held) (nat : NatTable) (sit : SitTable) : Type 0 where
  pub value : chosen ≡ chosen_of (written p) p.pack
  pub sound : IsChosen l chosen
  pub nat_opened : OpensNat l (nat_bits chosen.head) chosen.nat_journal nat
  pub sit_opened : OpensSit l (sit_bits chosen.head) chosen.sit_journal sit
