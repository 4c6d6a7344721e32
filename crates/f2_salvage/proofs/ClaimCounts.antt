-- How many claims there can be, where a superblock copy passes.
use Rattle.std.proofs.Common.{◌≡◌, ℕ, zero, suc, ◌+◌, ◌*◌, ◌^◌, ◌<◌, ◌≤◌, List, [], ◌∷◌, Bool, true, false, nat_lt, cond, length, filter, Option, Some, None, refl, arith}
use Rattle.std.specs.Prelude.{is_some, flat_map, filter_map}
use Rattle.std.specs.Option.{option_map_or}
use Rattle.std.proofs.lemmas.List.{length-append, length-map}
use Rattle.f2_bytes.specs.Bits.{bit_lsb}
use Rattle.f2_bytes.specs.Bytes.{Block, Image, numbers_below}
use Rattle.f2_bytes.specs.Superblock.{super_copy, layout}
use Rattle.f2_bytes.specs.Node.{is_inline, inline_area, inline_length, address_count, block_limit}
use Rattle.f2_bytes.specs.NodeAddressTable.{nid_limit}
use Rattle.f2_bytes.specs.Directory.{Item, item_in, next_slot, items_from, block_slots, in_block, optional_block_items, directory_items, inline_slots}
use Rattle.f2_bytes.specs.RollForward.{node_block, chain_length}
use Rattle.f2_bytes.proofs.Below.{length-numbers_below}
use Rattle.f2_bytes.proofs.MovedWords.{address_count-most}
use Rattle.f2_bytes.specs.SalvagedFiles.{is_directory_file, directories, owned_block, file_items}
use Rattle.f2_bytes.specs.Claims.{Claim, chain_claim, item_claim, claims, is_good, good_claims, is_kept, kept_claims}
use Rattle.f2_salvage.proofs.FilterAfter.{length-filter_after}
use Rattle.f2_salvage.proofs.FrameRoll.{chain_says}
use Rattle.f2_salvage.proofs.Sizes.{nids-range, segments-few}

-- ---- lengths of lists

length-filter_map-le : {X A : Type 0} (g : X → Option A) (xs : List X) → length (filter_map g xs) ≤ length xs
length-filter_map-le g [] = omega arith
length-filter_map-le {A = A} g (x ∷ xs) = go (g x) refl (length-filter_map-le g xs)
  where
    go : (o : Option A) → g x ≡ o → length (filter_map g xs) ≤ length xs → length (filter_map g (x ∷ xs)) ≤ suc (length xs)
    go None e more = let same : length (filter_map g (x ∷ xs)) ≡ length (filter_map g xs) = rw e refl in omega (arith, same, more)
    go (Some a) e more = let same : length (filter_map g (x ∷ xs)) ≡ suc (length (filter_map g xs)) = rw e refl in omega (arith, same, more)

length-filter-le : {X : Type 0} (p : X → Bool) (xs : List X) → length (filter p xs) ≤ length xs
length-filter-le p [] = omega arith
length-filter-le p (x ∷ xs) = go (p x) refl (length-filter-le p xs)
  where
    go : (b : Bool) → p x ≡ b → length (filter p xs) ≤ length xs → length (filter p (x ∷ xs)) ≤ suc (length xs)
    go true e more = let same : length (filter p (x ∷ xs)) ≡ suc (length (filter p xs)) = rw e refl in omega (arith, same, more)
    go false e more = let same : length (filter p (x ∷ xs)) ≡ length (filter p xs) = rw e refl in omega (arith, same, more)

times_suc : (n m : ℕ) → suc n * m ≡ m + n * m
times_suc n m = grind arith

length-flat_map-le : {X A : Type 0} (f : X → List A) (most : ℕ) (xs : List X) → ((x : X) → length (f x) ≤ most) → length (flat_map f xs) ≤ length xs * most
length-flat_map-le f most [] each = omega arith
length-flat_map-le f most (x ∷ xs) each =
    let more = length-flat_map-le f most xs each in
    let here = each x in
    let whole = length-append (f x) (flat_map f xs) in
    let product = times_suc (length xs) most in
    omega (arith, more, here, whole, product)

-- ---- items

items-few : (area : List ℕ) (slots n slot : ℕ) → length (items_from area slots n slot) ≤ n
unfolding items_from
items-few area slots zero slot = omega arith
items-few area slots (suc n) slot = go (nat_lt slot slots) (bit_lsb area slot) (items-few area slots n (next_slot area slots slot))
  where
    rest : List Item
    rest = items_from area slots n (next_slot area slots slot)

    go : (inside set : Bool) → length rest ≤ n → length (cond inside (cond set (item_in area slots slot ∷ rest) rest) []) ≤ suc n
    go true true more = omega (arith, more)
    go true false more = omega (arith, more)
    go false set more = omega arith

optional-few : (k : ℕ) (o : Option Block) → length (optional_block_items k o) ≤ 214
optional-few k None = omega arith
optional-few k (Some b) =
    let items = items-few b block_slots block_slots 0 in
    let same = length-map (items_from b block_slots block_slots 0) (in_block k) in
    omega (arith, items, same)

few_blocks : (n : ℕ) → n ≤ 923 → block_limit n ≤ 1057053439
few_blocks n small = omega (arith, small)

directory-few : (inode : Block) (block : ℕ → Option Block) → length (directory_items inode block) ≤ 226209435946
unfolding directory_items
directory-few inode block = go (is_inline inode)
  where
    go : (i : Bool) → length (cond i (items_from (inline_area inode) (inline_slots (inline_length inode)) (inline_slots (inline_length inode)) 0) (flat_map (λ k. optional_block_items k (block k)) (numbers_below (block_limit (address_count inode))))) ≤ 226209435946
    go true =
        let items = items-few (inline_area inode) (inline_slots (inline_length inode)) (inline_slots (inline_length inode)) 0 in
        let words = address_count-most inode in
        omega (arith, items, words)
    go false =
        let items = length-flat_map-le (λ k. optional_block_items k (block k)) 214 (numbers_below (block_limit (address_count inode))) (λ k. optional-few k (block k)) in
        let len = length-numbers_below (block_limit (address_count inode)) in
        let words = few_blocks (address_count inode) (address_count-most inode) in
        omega (arith, items, len, words)

file-few : (image : Image) (ino : ℕ) → length (file_items image ino) ≤ 226209435946
unfolding file_items
file-few image ino = go (node_block image ino)
  where
    go : (o : Option Block) → length (option_map_or (λ inode. directory_items inode (owned_block image ino)) o []) ≤ 226209435946
    go None = omega arith
    go (Some inode) = directory-few inode (owned_block image ino)

-- ---- claims

module _ (image : Image) (copied : is_some (super_copy image) ≡ true) where
  chain_part : List Claim
  chain_part = filter_map (chain_claim image) (numbers_below (chain_length image))

  claims-few : length (claims image) < 2 ^ 63
  unfolding claims
  claims-few =
      let chain = length-filter_map-le (chain_claim image) (numbers_below (chain_length image)) in
      let chained = length-numbers_below (chain_length image) in
      let ends = (chain_says image).0 in
      let main = segments-few image copied in
      let nids = (nids-range image copied).1 in
      let items = length-flat_map-le (λ ino. filter_map (item_claim ino) (file_items image ino)) 226209435946 (directories image)
      (λ ino. let kept = length-filter_map-le (item_claim ino) (file_items image ino) in let few = file-few image ino in omega (arith, kept, few)) in
      let dirs = length-filter-le (is_directory_file image) (numbers_below (nid_limit (layout image))) in
      let all = length-numbers_below (nid_limit (layout image)) in
      let whole = length-append (filter_map (chain_claim image) (numbers_below (chain_length image))) (flat_map (λ ino. filter_map (item_claim ino) (file_items image ino)) (directories image)) in
      omega (arith, chain, chained, ends, main, nids, items, dirs, all, whole)

  pub kept-few : length (kept_claims image) < 2 ^ 63
  unfolding kept_claims good_claims
  kept-few =
      let kept = length-filter_after (is_kept image) [] (good_claims image) in
      let good = length-filter_after (is_good image) [] (claims image) in
      let few = claims-few in
      omega (arith, kept, good, few)
