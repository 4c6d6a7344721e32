-- The blocks of directories, slot by slot.
use Rattle.std.proofs.Common.{◌≡◌, ℕ, List, [], ◌∷◌, ◌++◌, Bool, true, false, ◌==◌, ◌&&◌, cond, Option, Some, None, refl, sym, ap, ◌∙◌}
use Rattle.std.specs.Prelude.{filter_map, option_map, option_and_then}
use Rattle.std.specs.List.{cons_option}
use Rattle.std.proofs.lemmas.Bool.{false≢true, false_from_ne_true, eqb-true}
use Rattle.f2_bytes.specs.Bytes.{Block, Image, block_at, numbers_below}
use Rattle.f2_bytes.specs.Node.{is_directory, has_slots}
use Rattle.f2_bytes.specs.Superblock.{layout, is_main, IsInOrder}
use Rattle.f2_bytes.specs.Tree.{main_block, tree_slot}
use Rattle.f2_bytes.specs.Check.{is_address, inode_of, spot_of, nid_of_spot}
use Rattle.f2_items.specs.DirectoryBlocks.{blocks_in, directory_blocks}
use Rattle.f2_files.specs.Kept.{slot_block, blocks_among}
use Rattle.f2_survey.specs.Slots.{Slot, slot_at, file_slots}
use Rattle.f2_bytes.specs.Node.{most_blocks}
use Rattle.f2_items.proofs.GrownLists.{optional, filter_map_push}
use Rattle.f2_survey.proofs.OwnerClaims.{main-address}

-- what is no address of a block is not that of a main block
pub no_main_block : (image : Image) (a : ℕ) → IsInOrder (layout image) → is_address a ≡ false → main_block image a ≡ None
no_main_block image a order none =
    ap (λ b. cond b (Some (block_at image a)) None) (false_from_ne_true (is_main (layout image) a) (λ main. false≢true (sym none ∙ main-address image a order main)))

-- one slot more
pub blocks_among-take : (image : Image) (in_blocks first : Bool) (slots : List Slot) (s : Slot) → IsInOrder (layout image) → first ≡ is_address s.address
    → blocks_among image in_blocks slots ++ cond (first && in_blocks) (optional (slot_block image s)) [] ≡ blocks_among image in_blocks (slots ++ s ∷ [])
blocks_among-take image false true slots s order is = refl
blocks_among-take image false false slots s order is = refl
blocks_among-take image true true slots s order is = sym (filter_map_push (slot_block image) slots s)
blocks_among-take image true false slots s order is =
    ap (λ o. filter_map (slot_block image) slots ++ optional (option_map (λ (b : Block). (s.k, b)) o)) (sym (no_main_block image s.address order (sym is)))
    ∙ sym (filter_map_push (slot_block image) slots s)

-- what one function gives of what another gave
pub filter_map-filter_map : {X Y Z : Type 0} (g : Y → Option Z) (f : X → Option Y) (h : X → Option Z) → ((x : X) → option_and_then g (f x) ≡ h x)
    → (xs : List X) → filter_map g (filter_map f xs) ≡ filter_map h xs
filter_map-filter_map g f h same [] = refl
filter_map-filter_map {Y = Y} g f h same (x ∷ xs) = go (f x) (filter_map f xs) ∙ (λ i. cons_option (same x i) (filter_map-filter_map g f h same xs i))
  where
    go : (o : Option Y) (ys : List Y) → filter_map g (cons_option o ys) ≡ cons_option (option_and_then g o) (filter_map g ys)
    go None ys = refl
    go (Some y) ys = refl

-- those of a whole file
pub blocks_among-file : (image : Image) (ino : ℕ) (inode : Block) → IsInOrder (layout image) → inode_of image ino ≡ Some inode
    → blocks_among image (is_directory inode && has_slots inode) (file_slots image ino) ≡ directory_blocks image ino
unfolding file_slots directory_blocks
blocks_among-file image ino inode order is =
    ap (λ (l : List (ℕ × Block)). cond (is_directory inode && has_slots inode) l [])
    (filter_map-filter_map (slot_block image) (slot_at image ino) (λ k. option_map (λ (b : Block). (k, b)) (main_block image (tree_slot image ino k))) (λ k. go k (tree_slot image ino k == 0) refl) (numbers_below most_blocks))
    ∙ ap (blocks_in image ino) (sym is)
  where
    go : (k : ℕ) (b : Bool) → (tree_slot image ino k == 0) ≡ b
        → option_and_then (slot_block image) (cond b None (Some (record { ino = ino; k = k; address = tree_slot image ino k; nid = nid_of_spot image (ino, k); place = (spot_of image (ino, k)).1 })))
        ≡ option_map (λ (b : Block). (k, b)) (main_block image (tree_slot image ino k))
    go k true e = ap (option_map (λ (b : Block). (k, b))) (sym (no_main_block image (tree_slot image ino k) order (ap is_address (eqb-true (tree_slot image ino k) 0 e))))
    go k false e = refl
