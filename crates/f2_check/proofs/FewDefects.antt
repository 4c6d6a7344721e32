-- The defects of each rule are fewer than 2^64, where the areas of the image lie in order.
use Rattle.std.proofs.Common.{◌≡◌, ℕ, zero, suc, ◌-◌, ◌*◌, ◌^◌, ◌<◌, ◌≤◌, List, [], ◌∷◌, length, get_or, refl, arith, lit<}
use Rattle.std.specs.Prelude.{flat_map}
use Rattle.f2_bytes.specs.Bytes.{Image}
use Rattle.f2_bytes.specs.Node.{offset_limit}
use Rattle.f2_bytes.specs.Superblock.{layout, IsInOrder}
use Rattle.f2_bytes.specs.Check.{Part, rules, defects, part_defects, nids, tree_reading, item_parts}
use Rattle.f2_bytes.specs.Check.{superblock_parts, checkpoint_parts, node_parts, address_parts, validity_parts, summary_parts, count_parts, log_parts, inode_parts, link_parts, attribute_parts}
use Rattle.f2_bytes.specs.Node.{most_blocks}
use Rattle.f2_check.proofs.Bounds.{Within, total, few_in_part, few_in_parts, ends_low}
use Rattle.f2_disk.specs.Disk.{IsImage}

-- a limit on numbers of nodes, and on main segments
abbrev most_nids : ℕ
most_nids = 13977600

abbrev most_segments : ℕ
most_segments = 524288

most_blocks-is : most_blocks ≡ 1057053439
unfolding most_blocks
most_blocks-is = refl

offset_limit-is : offset_limit ≡ 1039384
unfolding offset_limit
offset_limit-is = refl

-- the parts have at most so many defects together
low : (ps : List Part) (bounds : List ℕ) → total bounds < 2 ^ 64 → Within ps bounds → length (flat_map part_defects ps) < 2 ^ 64
low ps bounds few each = let all = few_in_parts ps bounds each in omega (arith, all, few)

module _ (size : ℕ) (image : Image) (whole : IsImage size image) (order : IsInOrder (layout image)) where
  nids_low : nids image ≤ most_nids
  nids_low = let h = order.halves in omega (arith, h)

  segments_low : (layout image).segments ≤ most_segments
  segments_low = let i = order.inside in let f = order.few in omega (arith, i, f)

  one_each : (a : ℕ) → 1 ≤ 1
  one_each a = omega arith

  superblock_few : length (flat_map part_defects (superblock_parts image)) < 2 ^ 64
  unfolding superblock_parts
  superblock_few = low (superblock_parts image) (2 ∷ 33 ∷ []) (lit< tt)
      (few_in_part _ 2 1 (omega arith) one_each, (few_in_part _ 33 1 (omega arith) one_each, tt))

  checkpoint_few : length (flat_map part_defects (checkpoint_parts image)) < 2 ^ 64
  unfolding checkpoint_parts
  checkpoint_few = low (checkpoint_parts image) (1 ∷ 1 ∷ 1 ∷ []) (lit< tt)
      (few_in_part _ 1 1 (omega arith) one_each, (few_in_part _ 1 1 (omega arith) one_each, (few_in_part _ 1 1 (omega arith) one_each, tt)))

  node_few : length (flat_map part_defects (node_parts image)) < 2 ^ 64
  unfolding node_parts
  node_few =
      let n = most_nids in
      low (node_parts image) (n ∷ n ∷ n ∷ n ∷ n ∷ n * 1039384 ∷ n ∷ []) (lit< tt) (
        few_in_part _ n 1 nids_low one_each,
        (
          few_in_part _ n 1 nids_low one_each,
          (
            few_in_part _ n 1 nids_low one_each,
            (
              few_in_part _ n 1 nids_low one_each,
              (
                few_in_part _ n 1 nids_low one_each,
                (few_in_part _ n 1039384 nids_low (λ a. omega (arith, offset_limit-is)), (few_in_part _ n 1 nids_low one_each, tt)),
              ),
            ),
          ),
        ),
      )

  address_few : length (flat_map part_defects (address_parts image)) < 2 ^ 64
  unfolding address_parts
  address_few =
      let n = most_nids in
      let each : (a : ℕ) → most_blocks ≤ 1057053439 = λ a. omega (arith, most_blocks-is) in
      low (address_parts image) (n * 1057053439 ∷ n * 1057053439 ∷ []) (lit< tt)
      (few_in_part _ n 1057053439 nids_low each, (few_in_part _ n 1057053439 nids_low each, tt))

  validity_few : length (flat_map part_defects (validity_parts image)) < 2 ^ 64
  unfolding validity_parts
  validity_few =
      let n = most_segments in
      low (validity_parts image) (n * 512 ∷ n ∷ n * 512 ∷ []) (lit< tt)
      (few_in_part _ n 512 segments_low (λ a. omega arith), (few_in_part _ n 1 segments_low one_each, (few_in_part _ n 512 segments_low (λ a. omega arith), tt)))

  summary_few : length (flat_map part_defects (summary_parts image)) < 2 ^ 64
  unfolding summary_parts
  summary_few =
      let n = most_segments in
      low (summary_parts image) (n * 512 ∷ n * 512 ∷ n ∷ []) (lit< tt)
      (few_in_part _ n 512 segments_low (λ a. omega arith), (few_in_part _ n 512 segments_low (λ a. omega arith), (few_in_part _ n 1 segments_low one_each, tt)))

  count_few : length (flat_map part_defects (count_parts image)) < 2 ^ 64
  unfolding count_parts
  count_few = low (count_parts image) (1 ∷ 1 ∷ 1 ∷ 1 ∷ []) (lit< tt) (
    few_in_part _ 1 1 (omega arith) one_each,
    (
      few_in_part _ 1 1 (omega arith) one_each,
      (few_in_part _ 1 1 (omega arith) one_each, (few_in_part _ 1 1 (omega arith) one_each, tt)),
    ),
  )

  log_few : length (flat_map part_defects (log_parts image)) < 2 ^ 64
  unfolding log_parts
  log_few = low (log_parts image) (6 ∷ 6 ∷ 3072 ∷ 3072 ∷ []) (lit< tt) (
    few_in_part _ 6 1 (omega arith) one_each,
    (
      few_in_part _ 6 1 (omega arith) one_each,
      (few_in_part _ 6 512 (omega arith) (λ a. omega arith), (few_in_part _ 6 512 (omega arith) (λ a. omega arith), tt)),
    ),
  )

  inode_few : length (flat_map part_defects (inode_parts image)) < 2 ^ 64
  unfolding inode_parts
  inode_few =
      let n = most_nids in
      low (inode_parts image) (n ∷ n ∷ n * 2 ^ 33 ∷ []) (lit< tt)
      (few_in_part _ n 1 nids_low one_each, (few_in_part _ n 1 nids_low one_each, (few_in_part _ n (2 ^ 33) nids_low (ends_low size image whole), tt)))

  directory_few : length (flat_map part_defects (item_parts (nids image) (tree_reading image))) < 2 ^ 64
  unfolding item_parts
  directory_few =
      let n = most_nids in
      let each : (a : ℕ) → 214 * most_blocks ≤ 226209435946 = λ a. omega (arith, most_blocks-is) in
      let many = n * 226209435946 in
      low (item_parts (nids image) (tree_reading image)) (many ∷ many ∷ many ∷ many ∷ many ∷ n ∷ n ∷ n ∷ n ∷ []) (lit< tt) (
        few_in_part _ n 226209435946 nids_low each,
        (
          few_in_part _ n 226209435946 nids_low each,
          (
            few_in_part _ n 226209435946 nids_low each,
            (
              few_in_part _ n 226209435946 nids_low each,
              (
                few_in_part _ n 226209435946 nids_low each,
                (few_in_part _ n 1 nids_low one_each, (few_in_part _ n 1 nids_low one_each, (few_in_part _ n 1 nids_low one_each, (few_in_part _ n 1 nids_low one_each, tt)))),
              ),
            ),
          ),
        ),
      )

  link_few : length (flat_map part_defects (link_parts image)) < 2 ^ 64
  unfolding link_parts
  link_few =
      let n = most_nids in
      low (link_parts image) (n ∷ n ∷ 4 ∷ []) (lit< tt)
      (few_in_part _ n 1 nids_low one_each, (few_in_part _ n 1 nids_low one_each, (few_in_part _ 4 1 (omega arith) one_each, tt)))

  attribute_few : length (flat_map part_defects (attribute_parts image)) < 2 ^ 64
  unfolding attribute_parts
  attribute_few = low (attribute_parts image) (most_nids ∷ []) (lit< tt) (few_in_part _ most_nids 1 nids_low one_each, tt)

-- each of these lists of parts has few defects
Each : List (List Part) → Type 0
Each [] = Unit {0}
Each (ps ∷ rest) = (length (flat_map part_defects ps) < 2 ^ 64) × Each rest

at_each : (rs : List (List Part)) → Each rs → (k : ℕ) → length (flat_map part_defects (get_or rs k [])) < 2 ^ 64
unfolding Each
at_each [] each k = lit< tt
at_each (ps ∷ rest) each zero = each.0
at_each (ps ∷ rest) each (suc k) = at_each rest each.1 k

-- the defects of a rule can be counted
pub few_defects : (size : ℕ) (image : Image) → IsImage size image → IsInOrder (layout image) → (rule : ℕ) → length (defects image rule) < 2 ^ 64
unfolding defects Each
few_defects size image whole order rule =
    at_each (rules image) (
      superblock_few size image whole order,
      (
        checkpoint_few size image whole order,
        (
          node_few size image whole order,
          (
            address_few size image whole order,
            (
              validity_few size image whole order,
              (
                summary_few size image whole order,
                (
                  count_few size image whole order,
                  (
                    log_few size image whole order,
                    (inode_few size image whole order, (directory_few size image whole order, (link_few size image whole order, (attribute_few size image whole order, tt)))),
                  ),
                ),
              ),
            ),
          ),
        ),
      ),
    )
    (rule - 1)
