-- How many defects a rule can have at most.
use Rattle.std.proofs.Common.{◌≡◌, ℕ, zero, suc, ◌+◌, ◌*◌, ◌^◌, ◌<◌, ◌≤◌, List, [], ◌∷◌, length, Bool, true, false, cond, Option, Some, None, refl, sym, ap, ◌∙◌, subst, ⊎_elim, arith, length-append, zero-le, lit<}
use Rattle.std.specs.Prelude.{flat_map, filter_map, slice_index, option_and_then}
use Rattle.std.specs.List.{cons_option}
use Rattle.std.specs.Option.{option_map_or}
use Rattle.std.proofs.lemmas.Bool.{cases_lt}
use Rattle.std.proofs.lemmas.List.{get_or_past}
use Rattle.std.proofs.Math.Nat.{mul-le-mul_right}
use Rattle.f2_bytes.proofs.Below.{length-numbers_below}
use Rattle.f2_bytes.proofs.Numbers.{number_at-lt}
use Rattle.f2_bytes.specs.Bytes.{Block, Image, block_at, numbers_below}
use Rattle.f2_bytes.specs.NodeAddressTable.{nat}
use Rattle.f2_bytes.specs.Journal.{NatEntry}
use Rattle.f2_bytes.specs.Superblock.{layout, is_main}
use Rattle.f2_bytes.specs.Tree.{main_block, read_node, is_inode}
use Rattle.f2_bytes.specs.Check.{Part, defect_of, defects_at, part_defects, inode_of}
use Rattle.f2_bytes.specs.Node.{ext_fofs, ext_len}
use Rattle.f2_survey.proofs.PartDefects.{flat_map-more}
use Rattle.f2_disk.specs.Disk.{IsImage}

-- ---- parts

length-cons_option : {A : Type 0} (o : Option A) (xs : List A) → length (cons_option o xs) ≤ suc (length xs)
length-cons_option None xs = omega arith
length-cons_option (Some x) xs = omega arith

length-filter_map : {X A : Type 0} (f : X → Option A) (xs : List X) → length (filter_map f xs) ≤ length xs
length-filter_map f [] = omega arith
length-filter_map f (x ∷ xs) = let one = length-cons_option (f x) (filter_map f xs) in let rest = length-filter_map f xs in omega (arith, one, rest)

length-flat_map : {A : Type 0} (f : ℕ → List A) (n most : ℕ) → ((k : ℕ) → k < n → length (f k) ≤ most) → length (flat_map f (numbers_below n)) ≤ n * most
unfolding numbers_below
length-flat_map f zero most each = omega arith
length-flat_map f (suc n) most each =
    let more = ap (λ k. length (flat_map f (numbers_below k))) (let e : suc n ≡ n + 1 = omega arith in e) ∙ ap length (flat_map-more f n) ∙ length-append (flat_map f (numbers_below n)) (f n) in
    let last = each n (omega arith) in
    let before = length-flat_map f n most (λ k h. each k (omega (arith, h))) in
    omega (arith, more, last, before)

length-defects_at : (p : Part) (a : ℕ) → length (defects_at p a) ≤ p.second_limit a
unfolding defects_at
length-defects_at p a =
    let few = length-filter_map (λ b. defect_of p.number a b (p.comparison a b)) (numbers_below (p.second_limit a)) in
    let all = length-numbers_below (p.second_limit a) in
    omega (arith, few, all)

-- a part whose limits are at most these
pub few_in_part : (p : Part) (n most : ℕ) → p.first_limit ≤ n → ((a : ℕ) → p.second_limit a ≤ most) → length (part_defects p) ≤ n * most
unfolding part_defects
few_in_part p n most first second =
    let few = length-flat_map (defects_at p) p.first_limit most (λ a h. let at = length-defects_at p a in let low = second a in omega (arith, at, low)) in
    let more = mul-le-mul_right most first in
    omega (arith, few, more)

-- ---- rules

-- so many defects for each part
abbrev pub Within : List Part → List ℕ → Type 0
Within [] bounds = Unit {0}
Within (p ∷ ps) [] = ⊥
Within (p ∷ ps) (bound ∷ bounds) = (length (part_defects p) ≤ bound) × Within ps bounds

abbrev pub total : List ℕ → ℕ
total [] = 0
total (x ∷ xs) = x + total xs

pub few_in_parts : (ps : List Part) (bounds : List ℕ) → Within ps bounds → length (flat_map part_defects ps) ≤ total bounds
few_in_parts [] bounds each = zero-le
few_in_parts (p ∷ ps) [] each = absurd each
few_in_parts (p ∷ ps) (bound ∷ bounds) each =
    let both = length-append (part_defects p) (flat_map part_defects ps) in
    let one = each.0 in
    let rest = few_in_parts ps bounds each.1 in
    omega (arith, both, one, rest)

-- ---- numbers in the blocks of an image

-- the blocks of an image have bytes, and so have those past its end
bytes_in : (size : ℕ) (image : Image) → IsImage size image → (n i : ℕ) → slice_index (block_at image n) i < 256
bytes_in size image whole n i =
    ⊎_elim (λ below. (whole.each n below).bytes i)
    (λ past. subst (λ (b : Block). slice_index b i < 256) (sym (get_or_past image n [] (omega (arith, past, whole.size)))) (lit< tt))
    (cases_lt n size)

-- a node that is read is a block of the image
in_main : (image : Image) (address : ℕ) (b : Block) → main_block image address ≡ Some b → block_at image address ≡ b
in_main image address b is = go (is_main (layout image) address) is
  where
    go : (t : Bool) → cond t (Some (block_at image address)) None ≡ Some b → block_at image address ≡ b
    go true is = cc
    go false is = absurd (cc is)

read_from : (image : Image) (nid : ℕ) (b : Block) → read_node image nid ≡ Some b → (n : ℕ) × (block_at image n ≡ b)
unfolding read_node
read_from image nid b is = go (nat image nid) is
  where
    go : (entry : Option NatEntry) → option_and_then (λ e. main_block image e.address) entry ≡ Some b → (n : ℕ) × (block_at image n ≡ b)
    go None is = absurd (cc is)
    go (Some e) is = (e.address, in_main image e.address b is)

-- where an extent ends, at most
pub ends_low : (size : ℕ) (image : Image) → IsImage size image → (ino : ℕ) → option_map_or (λ b. ext_fofs b + ext_len b) (inode_of image ino) 0 ≤ 2 ^ 33
ends_low size image whole ino = go (is_inode image ino) (read_node image ino) refl
  where
    go : (t : Bool) (o : Option Block) → read_node image ino ≡ o → option_map_or (λ b. ext_fofs b + ext_len b) (cond t o None) 0 ≤ 2 ^ 33
    go false o is = zero-le
    go true None is = zero-le
    go true (Some b) is =
        let from = read_from image ino b is in
        let bytes : (k : ℕ) → slice_index b k < 256 = λ k. subst (λ (x : Block). slice_index x k < 256) from.1 (bytes_in size image whole from.0 k) in
        let start : ext_fofs b < 256 ^ 4 = number_at-lt b 348 4 bytes in
        let len : ext_len b < 256 ^ 4 = number_at-lt b 356 4 bytes in
        omega (arith, start, len)
