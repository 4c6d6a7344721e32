-- Tables that a change is put into, and blocks of tables with all their entries.
use Rattle.std.specs.Prelude.{◌≡◌, ℕ, ◌+◌, ◌*◌, ◌<◌, List, ◌∷◌}
use Rattle.std.specs.Option.{option_or}
use Rattle.f2_bytes.specs.Bytes.{Block}
use Rattle.f2_bytes.specs.Journal.{NatEntry, SitEntry, nat_entry_at, sit_entry_at}
use Rattle.f2_sum.specs.declared.records.NatEntry.{NatEntry as HeldNatEntry}
use Rattle.f2_sum.specs.declared.records.SitEntry.{SitEntry as HeldSitEntry}
use Rattle.f2_tables.specs.Tables.{NatTable, SitTable, nat_newer, sit_newer}
use Rattle.f2_change.specs.Change.{nat_given, sit_given}

-- numbers were given these entries, and each other one kept its own
pub record ChangesNat (entries : List (ℕ × HeldNatEntry)) (old new : NatTable) : Type 0 where
  pub layout : new.layout ≡ old.layout
  pub bits : new.bits ≡ old.bits
  pub newer : (n : ℕ) → nat_newer new n ≡ option_or (nat_given entries n) (nat_newer old n)

pub record ChangesSit (entries : List (ℕ × HeldSitEntry)) (old new : SitTable) : Type 0 where
  pub layout : new.layout ≡ old.layout
  pub bits : new.bits ≡ old.bits
  pub newer : (n : ℕ) → sit_newer new n ≡ option_or (sit_given entries n) (sit_newer old n)

-- block k of a table in which the numbers have these entries
pub record IsNatBlock (entry : ℕ → NatEntry) (k : ℕ) (b : Block) : Type 0 where
  pub entries : (j : ℕ) → j < 455 → nat_entry_at b (9 * j) ≡ entry (455 * k + j)

-- the segment table has entries for so many segments
pub record IsSitBlock (segments : ℕ) (entry : ℕ → SitEntry) (k : ℕ) (b : Block) : Type 0 where
  pub entries : (j : ℕ) → j < 55 → 55 * k + j < segments → sit_entry_at b (74 * j) ≡ entry (55 * k + j)

-- each block is that of its number
abbrev pub AreEach : (ℕ → Block → Type 0) → List ℕ → List (ℕ × Block) → Type 0
AreEach is (k ∷ blocks) (w ∷ written) = is k w.1 × AreEach is blocks written
AreEach is _ _ = Unit {0}
