-- What the owner of a block says of the slots and nodes that have it.
use Rattle.std.proofs.Common.{◌≡◌, ℕ, ◌+◌, ◌*◌, ◌<◌, List, [], ◌∷◌, Bool, true, false, ◌||◌, ◌&&◌, ◌==◌, cond, filter, map, sum_by, Option, Some, None, refl, sym, ap, ◌∙◌, arith}
use Rattle.std.specs.Prelude.{flat_map, count_by, is_some, nat_lt, unwrap_or}
use Rattle.std.specs.Option.{option_map_or}
use Rattle.std.proofs.lemmas.Bool.{lt-ltb, le-leb}
use Rattle.std.proofs.lemmas.List.Sums.{sum_by-cons, sum_by-append}
use Rattle.f2_bytes.specs.Bits.{bit_msb}
use Rattle.f2_bytes.specs.Bytes.{Image, numbers_below}
use Rattle.f2_bytes.specs.Journal.{SitEntry}
use Rattle.f2_bytes.specs.NodeAddressTable.{nat}
use Rattle.f2_bytes.specs.SegmentTable.{sit}
use Rattle.f2_bytes.specs.Superblock.{layout, is_main, segment_start, segment_of, place_of}
use Rattle.f2_bytes.specs.Tree.{tree_slot, is_inode}
use Rattle.f2_bytes.specs.Check.{Comparison, nids, slots_with, nodes_with, is_data, is_node, is_marked, nid_with, slot_with, spot_of, nid_wanted, nid_of_spot, none_value, of_value, same, fails_where, kind_at, type_comparison}
use Rattle.f2_survey.specs.OwnedBlocks.{is_somebody, kind_comparison, nid_of_owner, place_comparison}
use Rattle.f2_survey.specs.OwnerTables.{OwnerTable}
use Rattle.f2_survey.specs.Owners.{slot_owner, owner_of}
use Rattle.f2_survey.specs.Segments.{IsSegment}
use Rattle.f2_survey.specs.declared.owners.Owner.{Owner}
use Rattle.f2_bytes.specs.SegmentTable.{is_block_valid}
use Rattle.f2_bytes.specs.Node.{most_blocks}
use Rattle.f2_survey.proofs.Counted.{found_counted}

-- what is counted of pairs, one first part after the other
sum-map : {X Y : Type 0} (f : Y → ℕ) (g : X → Y) (xs : List X) → sum_by f (map g xs) ≡ sum_by (λ x. f (g x)) xs
sum-map f g [] = refl
sum-map f g (x ∷ xs) = sum_by-cons f (g x) (map g xs) ∙ ap (λ n. f (g x) + n) (sum-map f g xs) ∙ sym (sum_by-cons (λ y. f (g y)) x xs)

pairs-counted : {X Y : Type 0} (p : X × Y → Bool) (ys : List Y) (xs : List X)
    → count_by p (flat_map (λ x. map (λ y. (x, y)) ys) xs) ≡ sum_by (λ x. count_by (λ y. p (x, y)) ys) xs
pairs-counted p ys [] = refl
pairs-counted {X = X} {Y = Y} p ys (x ∷ xs) =
    sum_by-append f (map (λ y. (x, y)) ys) (flat_map (λ z. map (λ y. (z, y)) ys) xs)
    ∙ (λ i. sum-map f (λ y. (x, y)) ys i + pairs-counted p ys xs i)
    ∙ sym (sum_by-cons (λ z. count_by (λ y. p (z, y)) ys) x xs)
  where
    f : X × Y → ℕ
    f = λ t. cond (p t) 1 0

module _ (image : Image) (address : ℕ) where
  data_found : is_data image address ≡ is_some (slot_with image address)
  unfolding slots_with slot_with
  data_found =
      ap (nat_lt 0) (sym (pairs-counted (λ place. tree_slot image place.0 place.1 == address) (numbers_below most_blocks) (filter (is_inode image) (numbers_below (nids image)))))
      ∙ found_counted (λ place. tree_slot image place.0 place.1 == address) (flat_map (λ ino. map (λ k. (ino, k)) (numbers_below most_blocks)) (filter (is_inode image) (numbers_below (nids image))))

  node_found : is_node image address ≡ is_some (nid_with image address)
  unfolding nodes_with nid_with
  node_found = found_counted (λ nid. option_map_or (λ e. e.address == address) (nat image nid) false) (numbers_below (nids image))

  pub owned : is_somebody (owner_of image address) ≡ (is_data image address || is_node image address)
  unfolding owner_of
  owned = go (slot_with image address) (nid_with image address) ∙ (λ i. sym data_found i || sym node_found i)
    where
      go : (s : Option (ℕ × ℕ)) (n : Option ℕ) → is_somebody (slot_owner image n s) ≡ (is_some s || is_some n)
      go None None = refl
      go None (Some nid) = refl
      go (Some place) n = refl

  pub kinds_agree : kind_comparison (kind_at image address) (owner_of image address) ≡ type_comparison image address
  unfolding owner_of
  kinds_agree =
      go (slot_with image address) (nid_with image address)
      ∙ (λ i. by_found (sym data_found i) (sym node_found i))
    where
      by_found : Bool → Bool → Option Comparison
      by_found slot node =
          let kind = kind_at image address in
          cond slot (fails_where (nat_lt 2 kind) kind 0) (cond node (fails_where (nat_lt kind 3 || nat_lt 5 kind) kind 3) None)

      go : (s : Option (ℕ × ℕ)) (n : Option ℕ) → kind_comparison (kind_at image address) (slot_owner image n s) ≡ by_found (is_some s) (is_some n)
      go None None = refl
      go None (Some nid) = refl
      go (Some place) n = refl

  pub nid_of : nid_of_owner (owner_of image address) ≡ nid_wanted image address
  unfolding owner_of
  nid_of = go (slot_with image address) (nid_with image address)
    where
      go : (s : Option (ℕ × ℕ)) (n : Option ℕ) → nid_of_owner (slot_owner image n s) ≡ option_map_or (nid_of_spot image) s (unwrap_or n none_value)
      go None None = refl
      go None (Some nid) = refl
      go (Some place) n = refl

  pub place_in : (found : ℕ) → place_comparison found (owner_of image address) ≡ of_value (slot_with image address) (λ place. same found (spot_of image place).1)
  unfolding owner_of
  place_in found = go (slot_with image address) (nid_with image address)
    where
      go : (s : Option (ℕ × ℕ)) (n : Option ℕ) → place_comparison found (slot_owner image n s) ≡ of_value s (λ place. same found (spot_of image place).1)
      go None None = refl
      go None (Some nid) = refl
      go (Some place) n = refl

-- the block at a place of a segment
module _ (image : Image) (segno k : ℕ) (low : k < 512) where
  abbrev block : ℕ
  block = segment_start (layout image) segno + k

  pub block-segment : segment_of (layout image) block ≡ segno
  block-segment = omega (arith, low)

  pub block-place : place_of (layout image) block ≡ k
  block-place = omega (arith, low)

  pub block-main : segno < (layout image).segments → is_main (layout image) block ≡ true
  block-main inside =
      let l = layout image in
      λ i. le-leb l.main block (omega arith) i && lt-ltb block (l.main + 512 * l.segments) (omega (arith, low, inside)) i

-- whether the table marks it
pub block-marked : (image : Image) (segno k : ℕ) → k < 512 → (e : SitEntry) → e ≡ sit image segno → bit_msb e.map k ≡ is_marked image (segment_start (layout image) segno + k)
block-marked image segno k low e is =
    ap (λ (x : SitEntry). bit_msb x.map k) is
    ∙ λ i. is_block_valid image (sym (block-segment image segno k low) i) (sym (block-place image segno k low) i)

-- the owner of a block of a segment, as it is known
pub segment-owner : (image : Image) (o : OwnerTable) (segno at k : ℕ) (e : SitEntry) (owner : Owner) → k < 512 → IsSegment image o segno at e
    → (is_main (layout image) (at + k) ≡ true → owner ≡ owner_of image (at + k)) → owner ≡ owner_of image (segment_start (layout image) segno + k)
segment-owner image o segno at k e owner low s known =
    let same : at + k ≡ segment_start (layout image) segno + k = ap (λ n. n + k) s.first in
    known (ap (is_main (layout image)) same ∙ block-main image segno k low s.inside) ∙ ap (owner_of image) same
