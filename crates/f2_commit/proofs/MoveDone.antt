-- What stands after a batch, for the job and for the next batch.
use Rattle.std.proofs.Common.{◌≡◌, ℕ, ◌<◌, List, true, length, All, ◌∙◌, arith}
use Rattle.std.specs.List.Sorted.{IsStrictlyIncreasing}
use Rattle.std.proofs.lemmas.List.Elements.{All-weaker}
use Rattle.f2_bytes.specs.Bytes.{Image, IsBlock, block_at}
use Rattle.f2_bytes.specs.Superblock.{layout, is_main}
use Rattle.f2_bytes.specs.NodeAddressTable.{nid_limit}
use Rattle.f2_bytes.specs.Check.{is_checked}
use Rattle.f2_bytes.specs.Defragment.{Placement, placement, moved_batch}
use Rattle.f2_bytes.proofs.CheckedUsed.{main_range}
use Rattle.f2_pack.specs.declared.writing.NewPack.{NewPack}
use Rattle.f2_change.specs.declared.change.Change.{Change}
use Rattle.f2_change.specs.Carried.{Carries}
use Rattle.f2_commit.specs.Moves.{MovesBatch, AreTargets, AreSamePlaces, HasMoved}
use Rattle.f2_commit.proofs.FollowBatch.{batch_followed, batch_next}
use Rattle.f2_commit.proofs.MoveBatch.{moves_batch, batch_keeps_tree}
use Rattle.f2_commit.proofs.MoveFree.{rest_free}
use Rattle.f2_commit.proofs.MovePlacement.{placed}
use Rattle.f2_commit.proofs.MoveSame.{batch_same, same_places-then}

-- addresses of main are not 0
pub away_from_hole : (image : Image) → is_checked image ≡ true → (addresses : List ℕ) → All (λ a. is_main (layout image) a ≡ true) addresses → All (λ a. a ≡ 0 → ⊥) addresses
away_from_hole image h addresses mains =
    All-weaker (λ a. is_main (layout image) a ≡ true) (λ a. a ≡ 0 → ⊥) (λ a main hole. let low = (main_range image h a main).0 in omega (arith, low, hole)) addresses mains

-- The law of one batch. The addresses ascend and lie in main, and each block of the image is 4096 bytes.
pub batch_moves : (image new : Image) (addresses targets : List ℕ) (c : Change) (p : NewPack) → is_checked image ≡ true → ((n : ℕ) → n < length image → IsBlock (block_at image n))
    → IsStrictlyIncreasing addresses → All (λ a. is_main (layout image) a ≡ true) addresses → AreTargets image addresses targets → MovesBatch image addresses targets c → Carries image c p new
    → HasMoved image new addresses targets
batch_moves image new addresses targets c p h bytes rises mains free m s =
    let blocks = moves_batch image new addresses targets c p h bytes rises mains free m s in
    let kept = batch_keeps_tree image new addresses targets c p h bytes rises mains free m s in
    record {
      blocks = blocks;
      checked = kept.0;
      same_tree = kept.1;
      placed = placed image h addresses mains targets free new blocks;
      left_free = rest_free image new addresses targets c p h bytes rises mains free m s;
      user = s.user ∙ m.same_user;
      reserved = s.reserved;
      overprovision = s.overprovision;
      no_nat_journal = s.no_nat_journal;
      no_sit_journal = s.no_sit_journal;
      followed = batch_followed image new addresses targets c p h mains free m s blocks;
      next_free = batch_next image new addresses targets c p h mains free m s blocks;
    }

-- from places that are the image's, the batch leads to the places of the new image
pub batch_placed : (image new : Image) (addresses targets : List ℕ) (p : Placement) → is_checked image ≡ true → All (λ a. is_main (layout image) a ≡ true) addresses → HasMoved image new addresses targets → AreSamePlaces p (placement image)
    → AreSamePlaces (moved_batch (layout image) (nid_limit (layout image)) addresses targets p) (placement new)
batch_placed image new addresses targets p h mains done same =
    same_places-then (moved_batch (layout image) (nid_limit (layout image)) addresses targets p) (moved_batch (layout image) (nid_limit (layout image)) addresses targets (placement image)) (placement new)
    (batch_same (nid_limit (layout image)) p (placement image) same addresses (away_from_hole image h addresses mains) (layout image) targets) done.placed
