-- The items of a directory stand in ascending places.
use Rattle.std.proofs.Common.{◌≡◌, ℕ, zero, suc, ◌+◌, ◌*◌, ◌<◌, ◌≤◌, inl, inr, Bool, true, false, ◌==◌, cond, List, [], ◌∷◌, ◌++◌, map, Option, Some, None, refl, sym, ap, subst, ◌∙◌, arith}
use Rattle.std.specs.Prelude.{flat_map, find}
use Rattle.std.specs.List.{range_with_len}
use Rattle.std.specs.Option.{option_map_or}
use Rattle.std.proofs.lemmas.Bool.{cases_lt, lt-ltb, le-ltb, ne_eqb}
use Rattle.f2_bytes.specs.Bits.{bit_lsb}
use Rattle.f2_bytes.specs.Bytes.{Block, Image, numbers_below}
use Rattle.f2_bytes.specs.Directory.{Item, item_in, next_slot, items_from, scan, in_block, block_items, block_slots, inline_slots, optional_block_items, directory_items}
use Rattle.f2_bytes.specs.Node.{address_count, block_limit, inline_area, inline_length, is_inline, most_blocks}
use Rattle.f2_bytes.specs.Tree.{main_block, read_node, tree_items, tree_slot}
use Rattle.f2_items.proofs.AddressCounts.{address_count-few}

-- the places of the items ascend, from one number on and below another
abbrev pub Ascends : ℕ → ℕ → List Item → Type 0
Ascends low high [] = low ≤ high
Ascends low high (x ∷ xs) = (low ≤ x.place) × Ascends (suc x.place) high xs

pub ascends-bounds : (low high : ℕ) (items : List Item) → Ascends low high items → low ≤ high
ascends-bounds low high [] h = h
ascends-bounds low high (x ∷ xs) h = let first : low ≤ x.place = h.0 in let rest : suc x.place ≤ high = ascends-bounds (suc x.place) high xs h.1 in omega (arith, first, rest)

pub ascends-lower : (low next high : ℕ) (items : List Item) → low ≤ next → Ascends next high items → Ascends low high items
ascends-lower low next high [] less h = omega (arith, less, h)
ascends-lower low next high (x ∷ xs) less h = (let first : next ≤ x.place = h.0 in omega (arith, less, first), h.1)

pub ascends-higher : (low next high : ℕ) (items : List Item) → next ≤ high → Ascends low next items → Ascends low high items
ascends-higher low next high [] more h = omega (arith, more, h)
ascends-higher low next high (x ∷ xs) more h = (h.0, ascends-higher (suc x.place) next high xs more h.1)

pub ascends-join : (low middle high : ℕ) (xs ys : List Item) → Ascends low middle xs → Ascends middle high ys → Ascends low high (xs ++ ys)
ascends-join low middle high [] ys first second = ascends-lower low middle high ys first second
ascends-join low middle high (x ∷ xs) ys first second = (first.0, ascends-join (suc x.place) middle high xs ys first.1 second)

-- no item stands before the first
pub none-before : (b low high : ℕ) (items : List Item) → b < low → Ascends low high items → find (λ item. item.place == b) items ≡ None
none-before b low high [] before h = refl
none-before b low high (x ∷ xs) before h =
    let first : low ≤ x.place = h.0 in
    ap (λ t. cond t (Some x) (find (λ (item : Item). item.place == b) xs)) (ne_eqb x.place b (λ e. omega (arith, e, before, first)))
    ∙ none-before b (suc x.place) high xs (omega (arith, before, first)) h.1

-- ---- one area

module _ (area : List ℕ) (slots : ℕ) where
  next-forward : (slot : ℕ) → slot < slots → slot < next_slot area slots slot
  next-forward slot within = grind arith

  next-within : (slot : ℕ) → slot < slots → next_slot area slots slot ≤ slots
  next-within slot within = grind arith

  from_slot : (n slot : ℕ) → slot ≤ slots → Ascends slot slots (items_from area slots n slot)
  unfolding items_from
  from_slot zero slot low = low
  from_slot (suc n) slot low = elim (cases_lt slot slots) [
    | inl within ↦
        let next = next_slot area slots slot in
        let rest = items_from area slots n next in
        let forward : slot < next = next-forward slot within in
        let after : Ascends (suc slot) slots rest = ascends-lower (suc slot) next slots rest forward (from_slot n next (next-within slot within)) in
        subst (λ b. Ascends slot slots (cond b (cond (bit_lsb area slot) (item_in area slots slot ∷ rest) rest) [])) (sym (lt-ltb slot slots within)) (taken slot rest (bit_lsb area slot) after)
    | inr past ↦
        subst (λ b. Ascends slot slots (cond b (cond (bit_lsb area slot) (item_in area slots slot ∷ items_from area slots n (next_slot area slots slot)) (items_from area slots n (next_slot area slots slot))) [])) (sym (le-ltb slot slots past)) low
  ]
    where
      taken : (slot : ℕ) (rest : List Item) (b : Bool) → Ascends (suc slot) slots rest → Ascends slot slots (cond b (item_in area slots slot ∷ rest) rest)
      taken slot rest true after = (omega arith, after)
      taken slot rest false after = ascends-lower slot (suc slot) slots rest (omega arith) after

  pub ascends-scan : Ascends 0 slots (scan area slots)
  ascends-scan = from_slot slots 0 (omega arith)

-- ---- blocks

ascends-in : (k low high : ℕ) (items : List Item) → Ascends low high items → Ascends (block_slots * k + low) (block_slots * k + high) (map (in_block k) items)
ascends-in k low high [] h = omega (arith, h)
ascends-in k low high (x ∷ xs) h = (
  let first : low ≤ x.place = h.0 in omega (arith, first),
  ascends-lower (suc (block_slots * k + x.place)) (block_slots * k + suc x.place) (block_slots * k + high) (map (in_block k) xs) (omega arith) (ascends-in k (suc x.place) high xs h.1),
)

ascends-block : (k : ℕ) (o : Option Block) → Ascends (block_slots * k) (block_slots * (k + 1)) (optional_block_items k o)
ascends-block k None = omega arith
ascends-block k (Some b) =
    ascends-lower (block_slots * k) (block_slots * k + 0) (block_slots * (k + 1)) (block_items k b) (omega arith)
    (ascends-higher (block_slots * k + 0) (block_slots * k + block_slots) (block_slots * (k + 1)) (block_items k b) (omega arith) (ascends-in k 0 block_slots (scan b block_slots) (ascends-scan b block_slots)))

ascends-blocks : (block : ℕ → Option Block) (a n : ℕ) → Ascends (block_slots * a) (block_slots * (a + n)) (flat_map (λ k. optional_block_items k (block k)) (range_with_len a n))
ascends-blocks block a zero = omega arith
ascends-blocks block a (suc n) =
    ascends-join (block_slots * a) (block_slots * (a + 1)) (block_slots * (a + suc n)) (optional_block_items a (block a)) (flat_map (λ k. optional_block_items k (block k)) (range_with_len (a + 1) n))
    (ascends-block a (block a))
    (ascends-higher (block_slots * (a + 1)) (block_slots * (a + 1 + n)) (block_slots * (a + suc n)) (flat_map (λ k. optional_block_items k (block k)) (range_with_len (a + 1) n)) (omega arith) (ascends-blocks block (a + 1) n))

-- ---- directories

pub few_blocks : (b : Block) → block_limit (address_count b) ≤ most_blocks
unfolding most_blocks
few_blocks b = let few = address_count-few b in omega (arith, few)

few_slots : (b : Block) → inline_slots (inline_length b) ≤ block_slots * most_blocks
unfolding most_blocks
few_slots b = let few = address_count-few b in omega (arith, few)

pub ascends-directory : (inode : Block) (block : ℕ → Option Block) → Ascends 0 (block_slots * most_blocks) (directory_items inode block)
unfolding directory_items numbers_below
ascends-directory inode block = go (is_inline inode)
  where
    go : (b : Bool) → Ascends 0 (block_slots * most_blocks) (cond b (scan (inline_area inode) (inline_slots (inline_length inode))) (flat_map (λ k. optional_block_items k (block k)) (range_with_len 0 (block_limit (address_count inode)))))
    go true =
        ascends-higher 0 (inline_slots (inline_length inode)) (block_slots * most_blocks) (scan (inline_area inode) (inline_slots (inline_length inode))) (few_slots inode)
        (ascends-scan (inline_area inode) (inline_slots (inline_length inode)))
    go false =
        let few = few_blocks inode in
        ascends-higher 0 (block_slots * (0 + block_limit (address_count inode))) (block_slots * most_blocks) (flat_map (λ k. optional_block_items k (block k)) (range_with_len 0 (block_limit (address_count inode)))) (omega (arith, few))
        (ascends-lower 0 (block_slots * 0) (block_slots * (0 + block_limit (address_count inode))) (flat_map (λ k. optional_block_items k (block k)) (range_with_len 0 (block_limit (address_count inode)))) (omega arith)
        (ascends-blocks block 0 (block_limit (address_count inode))))

pub ascends-tree : (image : Image) (ino : ℕ) → Ascends 0 (block_slots * most_blocks) (tree_items image ino)
unfolding tree_items
ascends-tree image ino = go (read_node image ino)
  where
    go : (o : Option Block) → Ascends 0 (block_slots * most_blocks) (option_map_or (λ inode. directory_items inode (λ k. main_block image (tree_slot image ino k))) o [])
    go None = omega arith
    go (Some inode) = ascends-directory inode (λ k. main_block image (tree_slot image ino k))
