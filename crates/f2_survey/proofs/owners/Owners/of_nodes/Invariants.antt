use Rattle.std.proofs.Common.{◌≡◌, ℕ, true, false}
use Rattle.std.specs.Prelude.{find}
use Rattle.f2_bytes.specs.Bytes.{Image, numbers_below}
use Rattle.f2_bytes.specs.NodeAddressTable.{nat}
use Rattle.f2_bytes.specs.Superblock.{layout, is_main}
use Rattle.f2_survey.specs.Known.{IsKnown}
use Rattle.f2_survey.specs.Owners.{node_owner}
use Rattle.f2_survey.specs.OwnerTables.{LiesIn, owner_kept, stands_at}
use Rattle.f2_survey.proofs.owners.Owners.of_nodes.Given as goal

-- the first of the nodes so far has its block
abbrev pub invariant-loop-nid : goal.invariant-loop-nid
invariant-loop-nid l = record {
  lies : LiesIn l.layout l.owners;
  sound : l.owners.spoiled ≡ false;
  kept : (image : Image) → IsKnown image l.nodes → layout image ≡ l.layout → (a : ℕ) → is_main l.layout a ≡ true
      → owner_kept l.owners a ≡ node_owner (find (λ nid. stands_at (nat image nid) a) (numbers_below l.nid));
}
