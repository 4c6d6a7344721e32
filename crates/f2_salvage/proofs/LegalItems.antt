-- The legal items of a directory have legal names, and how many items it has.
use Rattle.std.proofs.Common.{◌≡◌, ℕ, zero, suc, List, [], ◌∷◌, Bool, true, false, nat_lt, cond, All, Option, Some, None}
use Rattle.std.specs.Prelude.{flat_map}
use Rattle.std.specs.Option.{option_map_or}
use Rattle.std.proofs.lemmas.Bool.{and_parts}
use Rattle.std.proofs.lemmas.List.Elements.{All-nil, All-cons, All-map}
use Rattle.f2_bytes.specs.Bits.{bit_lsb}
use Rattle.f2_bytes.specs.Bytes.{Block, Image, numbers_below}
use Rattle.f2_bytes.specs.Names.{is_legal_name}
use Rattle.f2_bytes.specs.Node.{is_inline, inline_area, inline_length, address_count, block_limit}
use Rattle.f2_bytes.specs.Directory.{Item, item_in, next_slot, items_from, block_slots, in_block, optional_block_items, directory_items, inline_slots}
use Rattle.f2_bytes.specs.RollForward.{node_block}
use Rattle.f2_bytes.specs.SalvagedFiles.{owned_block, file_items}
use Rattle.f2_salvage.proofs.SlotPlaces.{All-flat_map, All-below}

-- a legal item has a legal name
abbrev pub HasLegalName : Item → Type 0
HasLegalName item = item.is_legal ≡ true → is_legal_name item.name ≡ true

legal-from : (area : List ℕ) (slots n slot : ℕ) → All HasLegalName (items_from area slots n slot)
unfolding items_from
legal-from area slots zero slot = All-nil HasLegalName
legal-from area slots (suc n) slot = go (nat_lt slot slots) (bit_lsb area slot) (legal-from area slots n (next_slot area slots slot))
  where
    rest : List Item
    rest = items_from area slots n (next_slot area slots slot)

    go : (inside set : Bool) → All HasLegalName rest → All HasLegalName (cond inside (cond set (item_in area slots slot ∷ rest) rest) [])
    go true true more = All-cons HasLegalName (item_in area slots slot) rest (λ legal. (and_parts _ _ legal).1) more
    go true false more = more
    go false set more = All-nil HasLegalName

legal-optional : (k : ℕ) (o : Option Block) → All HasLegalName (optional_block_items k o)
legal-optional k None = All-nil HasLegalName
legal-optional k (Some b) = All-map HasLegalName (in_block k) (items_from b block_slots block_slots 0) (legal-from b block_slots block_slots 0)

pub legal-directory : (inode : Block) (block : ℕ → Option Block) → All HasLegalName (directory_items inode block)
unfolding directory_items
legal-directory inode block = go (is_inline inode)
  where
    go : (i : Bool) → All HasLegalName (cond i (items_from (inline_area inode) (inline_slots (inline_length inode)) (inline_slots (inline_length inode)) 0) (flat_map (λ k. optional_block_items k (block k)) (numbers_below (block_limit (address_count inode)))))
    go true = legal-from (inline_area inode) (inline_slots (inline_length inode)) (inline_slots (inline_length inode)) 0
    go false =
        All-flat_map HasLegalName (λ k. optional_block_items k (block k)) (numbers_below (block_limit (address_count inode)))
        (All-below (λ k. All HasLegalName (optional_block_items k (block k))) (block_limit (address_count inode)) (λ k below. legal-optional k (block k)))

pub legal-items : (image : Image) (ino : ℕ) → All HasLegalName (file_items image ino)
unfolding file_items
legal-items image ino = go (node_block image ino)
  where
    go : (o : Option Block) → All HasLegalName (option_map_or (λ inode. directory_items inode (owned_block image ino)) o [])
    go None = All-nil HasLegalName
    go (Some inode) = legal-directory inode (owned_block image ino)
