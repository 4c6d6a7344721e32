-- A main segment whose table has no places: nobody has a block of it.
use Rattle.std.proofs.Common.{◌≡◌, ℕ, ◌+◌, ◌-◌, ◌/◌, ◌%◌, ◌<◌, List, [], get_or, ap, sym, ◌∙◌, arith}
use Rattle.f2_bytes.specs.Bytes.{Image}
use Rattle.f2_bytes.specs.Superblock.{layout, segment_start}
use Rattle.f2_survey.specs.OwnerTables.{OwnerTable, owner_claimed, IsOwners}
use Rattle.f2_survey.specs.Owners.{owner_of}
use Rattle.f2_survey.specs.declared.owners.Claim.{Claim}
use Rattle.f2_survey.specs.declared.owners.Claim.TheVariants.{Nobody}
use Rattle.f2_survey.specs.declared.owners.Owner.TheVariants as owner
use Rattle.f2_survey.proofs.OwnerFacts.{block-main}

pub idle-segment : (image : Image) (o : OwnerTable) (segno k : ℕ) → IsOwners image o → segno < (layout image).segments → get_or o.tables segno [] ≡ [] → k < 512
    → owner_of image (segment_start (layout image) segno + k) ≡ owner.Nobody
idle-segment image o segno k owners inside none low =
    sym (owners.right block (block-main image segno k low inside))
    ∙ (λ i. owner_claimed (get_or (get_or o.tables (segment i) []) (place i) Nobody))
    ∙ ap (λ (t : List Claim). owner_claimed (get_or t k Nobody)) none
  where
    block : ℕ
    block = segment_start (layout image) segno + k

    segment : (block - o.main) / 512 ≡ segno
    segment = let main = owners.lies.main in omega (arith, main, low)

    place : (block - o.main) % 512 ≡ k
    place = let main = owners.lies.main in omega (arith, main, low)
