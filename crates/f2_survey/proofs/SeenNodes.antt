-- What a survey has seen, number by number, is what the image says.
use Rattle.std.proofs.Common.{◌≡◌, ℕ, ◌+◌, ◌^◌, ◌<◌, Bool, true, false, cond, List, [], ◌∷◌, ◌++◌, map, Option, Some, None, IfSome, refl, sym, ap, ◌∙◌, inl, inr, arith, zero-add}
use Rattle.std.specs.Prelude.{option_and_then, slice_index}
use Rattle.std.proofs.lemmas.Bool.{cases_lt}
use Rattle.std.proofs.lemmas.List.{get_or_past}
use Rattle.std.proofs.lemmas.List.FromFn.{map-range_with_len_more}
use Rattle.f2_bytes.proofs.Numbers.{number_at-lt}
use Rattle.f2_bytes.specs.Bytes.{Block, Image, block_at, number_at, numbers_below}
use Rattle.f2_bytes.specs.Journal.{NatEntry}
use Rattle.f2_bytes.specs.Node.{node_offset}
use Rattle.f2_bytes.specs.NodeAddressTable.{nat, image_nat_entry}
use Rattle.f2_bytes.specs.Superblock.{layout, is_main}
use Rattle.f2_bytes.specs.Tree.{main_block, read_node}
use Rattle.f2_disk.specs.Disk.{IsImage}
use Rattle.f2_bytes.specs.Check.{nids, node_parts}
use Rattle.f2_survey.specs.Known.{IsKnown}
use Rattle.f2_survey.specs.Parts.{part_in}
use Rattle.f2_survey.specs.Seen.{HasSeen}
use Rattle.f2_survey.specs.Survey.{ComparesNode, HasCompared, HasNodeDefects}
use Rattle.f2_survey.specs.declared.survey_so_far.Seen.{Seen}
use Rattle.f2_survey.specs.declared.rule_3_nodes.NodeDefects.{NodeDefects}
use Rattle.f2_survey.proofs.NodeComparisons.{one_compared, all_compared}

-- no number yet
pub none_yet : {X : Type 0} (f : ℕ → X) (xs : List X) → xs ≡ [] → xs ≡ map f (numbers_below 0)
unfolding numbers_below
none_yet f xs none = none

-- one number more
pub one_more : {X : Type 0} (f : ℕ → X) (n : ℕ) (xs ys : List X) (x : X) → xs ≡ map f (numbers_below n) → ys ≡ xs ++ x ∷ [] → x ≡ f n → ys ≡ map f (numbers_below (n + 1))
unfolding numbers_below
one_more f n xs ys x so_far pushed is =
    pushed ∙ (λ i. so_far i ++ (is i ∷ [])) ∙ sym (map-range_with_len_more f 0 n n (zero-add n))

pub compared_more : (image : Image) (n : ℕ) (old new : NodeDefects) → HasCompared image n old → ComparesNode image n old new → HasCompared image (n + 1) new
compared_more image n old new before one = record {
  address = one_compared (part_in image 3 1) n old.address new.address before.address one.address;
  number = one_compared (part_in image 3 2) n old.number new.number before.number one.number;
  file = one_compared (part_in image 3 3) n old.file new.file before.file one.file;
  offset = one_compared (part_in image 3 4) n old.offset new.offset before.offset one.offset;
  mode = one_compared (part_in image 3 5) n old.mode new.mode before.mode one.mode;
}

-- all numbers
pub compared_all : (image : Image) (d : NodeDefects) → HasCompared image (nids image) d → HasNodeDefects image d
unfolding node_parts
compared_all image d all = record {
  address = all_compared (part_in image 3 1) (nids image) d.address refl all.address;
  number = all_compared (part_in image 3 2) (nids image) d.number refl all.number;
  file = all_compared (part_in image 3 3) (nids image) d.file refl all.file;
  offset = all_compared (part_in image 3 4) (nids image) d.offset refl all.offset;
  mode = all_compared (part_in image 3 5) (nids image) d.mode refl all.mode;
}

-- the offset that a block of bytes says has 29 bits
small_block : (size : ℕ) (image : Image) → IsImage size image → (address : ℕ) → node_offset (block_at image address) < 2 ^ 29
small_block size image whole address =
    let flags : number_at (block_at image address) 4080 4 < 256 ^ 4 = number_at-lt (block_at image address) 4080 4 bytes in
    omega (arith, flags)
  where
    bytes : (k : ℕ) → slice_index (block_at image address) k < 256
    bytes k = elim (cases_lt address size) [
      | inl inside ↦ (whole.each address inside).bytes k
      | inr past ↦
          let none : block_at image address ≡ [] = get_or_past image address [] (omega (arith, whole.size, past)) in
          omega (arith, ap (λ b. slice_index b k) none)
    ]

pub small_offsets : (size : ℕ) (image : Image) → IsImage size image → (nid : ℕ) → IfSome (read_node image nid) (λ b. node_offset b < 2 ^ 29)
unfolding read_node
small_offsets size image whole nid = go (nat image nid)
  where
    go : (o : Option NatEntry) → IfSome (option_and_then (λ (e : NatEntry). main_block image e.address) o) (λ b. node_offset b < 2 ^ 29)
    go None = tt
    go (Some e) = at (is_main (layout image) e.address) (block_at image e.address) (small_block size image whole e.address)
      where
        at : (main : Bool) (b : Block) → node_offset b < 2 ^ 29 → IfSome (cond main (Some b) None) (λ x. node_offset x < 2 ^ 29)
        at true b small = small
        at false b small = tt

-- what is kept of the nodes, all of which were seen
pub known_of : (size : ℕ) (image : Image) → IsImage size image → (entries : List NatEntry) (s : Seen) → entries ≡ map (image_nat_entry image) (numbers_below (nids image)) → HasSeen image (nids image) s
    → IsKnown image (record { entries = entries; offsets = s.offsets.items; kinds = s.kinds.items })
known_of size image whole entries s are seen = record { entries = are; offsets = seen.offsets; kinds = seen.kinds; small = small_offsets size image whole }
