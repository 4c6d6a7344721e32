-- A directory that is kept: its items are those of the old image, and each comparison of the rule on directories is that
-- of the salvage.
use Rattle.std.proofs.Common.{◌≡◌, ℕ, ◌+◌, ◌-◌, ◌*◌, ◌/◌, List, [], Bool, true, false, ◌==◌, ◌&&◌, ◌||◌, not, cond, max, filter, Option, Some, None, refl, sym, ap, ◌∙◌}
use Rattle.std.specs.Prelude.{find, flat_map, fold, option_and_then, is_some}
use Rattle.std.specs.Option.{option_map_or}
use Rattle.std.specs.Str.{bytes_eq}
use Rattle.std.proofs.lemmas.Bool.{and_parts, false≢true}
use Rattle.f2_bytes.specs.Bytes.{Block, Image, block_at, numbers_below, has_bit}
use Rattle.f2_bytes.specs.Superblock.{layout, is_main}
use Rattle.f2_bytes.specs.Journal.{is_mountable}
use Rattle.f2_bytes.specs.Buckets.{bucket_of, bucket_of_block, level_of_block}
use Rattle.f2_bytes.specs.Directory.{Item, block_slots, scan, inline_slots, optional_block_items, directory_items}
use Rattle.f2_bytes.specs.Names.{name_hash}
use Rattle.f2_bytes.specs.Node.{dir_level, current_depth, size, is_inline, address_count, block_limit, inline_area, inline_length}
use Rattle.f2_bytes.specs.Tree.{main_block, tree_slot, tree_items}
use Rattle.f2_bytes.specs.Check.{Reading, Comparison, same, at_least, fails_where, where_true, of_value, is_address, directory_in, block_directory_in, item_at, legal_item_at, first_named, one_past, dots_comparison}
use Rattle.f2_bytes.proofs.PackReads.{cond_same}
use Rattle.f2_bytes.specs.SalvagedFiles.{is_file, file_slot, is_owned, owned_block, file_items}
use Rattle.f2_bytes.specs.RebuiltDirectories.{is_rebuilt}
use Rattle.f2_bytes.specs.Mending.{mended_address}
use Rattle.f2_bytes.specs.FilePlaces.{inode_at}
use Rattle.f2_bytes.specs.Mended.{KeepsInode, IsMended}
use Rattle.f2_mend.proofs.MainRange.{main_address}
use Rattle.f2_mend.proofs.MendedReads.{file_block, same_layout, loads, has_old}
use Rattle.f2_mend.proofs.PlacedReads.{read_file}
use Rattle.f2_mend.proofs.PlacedSlots.{tree_slot_placed}

inline_by : ℕ → ℕ → Bool
inline_by m f = (((m / 4096 == 8) || (m / 4096 == 10)) && has_bit f 1) || ((m / 4096 == 4) && has_bit f 2)

count_by_flags : ℕ → ℕ
count_by_flags f = cond (has_bit f 0 || has_bit f 2) 873 923

module _ (b c : Block) (k : KeepsInode b c) where
  pub same_inline : is_inline c ≡ is_inline b
  unfolding inline_by
  same_inline = λ i. inline_by (k.mode i) (k.flags i)

  same_words : address_count c ≡ address_count b
  unfolding address_count count_by_flags
  same_words = ap count_by_flags k.flags

  pub items_of_kept : (block new : ℕ → Option Block) → ((j : ℕ) → new j ≡ block j) → directory_items c new ≡ directory_items b block
  unfolding directory_items
  items_of_kept block new same_block =
      let fields : directory_items c new ≡ cond (is_inline b) (scan (inline_area c) (inline_slots (inline_length b))) (flat_map (λ j. optional_block_items j (block j)) (numbers_below (block_limit (address_count b))))
      = λ i. cond (same_inline i) (scan (inline_area c) (inline_slots (4 * (same_words i - 1)))) (flat_map (λ j. optional_block_items j (same_block j i)) (numbers_below (block_limit (same_words i)))) in
      fields ∙ cond_same (is_inline b) (λ inside. ap (λ area. scan area (inline_slots (inline_length b))) (k.content inside)) (λ outside. refl)

-- ---- the items

module _ (image other : Image) (h : is_mountable image ≡ true) (m : IsMended image other) (d : ℕ) (file : is_file image d ≡ true) (kept : is_rebuilt image d ≡ false) where
  owned_main : (k : ℕ) → is_owned image d k ≡ true → is_main (layout image) (file_slot image d k) ≡ true
  unfolding is_owned
  owned_main k owned = (and_parts _ _ (and_parts _ _ owned).0).0

  no_block : (a : ℕ) → is_address a ≡ false → main_block other a ≡ None
  no_block a none = go (is_main (layout other) a) refl
    where
      go : (b : Bool) → is_main (layout other) a ≡ b → main_block other a ≡ None
      go false out = rw out refl
      go true main = absurd (false≢true (sym none ∙ main_address other (loads image other h m) a main))

  block_kept : (k : ℕ) → main_block other (m.places.slot d k) ≡ owned_block image d k
  block_kept k = ap (main_block other) (m.kept_slots d k file kept) ∙ by_owner (is_owned image d k) refl
    where
      a : ℕ
      a = file_slot image d k

      by_owner : (o : Bool) → is_owned image d k ≡ o → main_block other (mended_address image d k) ≡ owned_block image d k
      by_owner true owned =
          let main : is_main (layout other) a ≡ true = ap (λ l. is_main l a) (same_layout image other h m) ∙ owned_main k owned in
          let here : is_address a ≡ true = main_address other (loads image other h m) a main in
          let first : mended_address image d k ≡ a = rw (owned, here) refl in
          let second : main_block other a ≡ Some (block_at image a) = rw main (ap Some (m.kept_blocks d k file kept owned)) in
          let third : owned_block image d k ≡ Some (block_at image a) = rw owned refl in
          ap (main_block other) first ∙ second ∙ sym third
      by_owner false owned = by_address (is_address a) refl
        where
          third : owned_block image d k ≡ None
          third = rw owned refl

          by_address : (b : Bool) → is_address a ≡ b → main_block other (mended_address image d k) ≡ owned_block image d k
          by_address true here =
              let first : mended_address image d k ≡ 0 = rw (here, owned) refl in
              ap (main_block other) first ∙ no_block 0 refl ∙ sym third
          by_address false none =
              let first : mended_address image d k ≡ a = rw none refl in
              ap (main_block other) first ∙ no_block a none ∙ sym third

  pub items_kept : tree_items other d ≡ file_items image d
  unfolding tree_items file_items
  items_kept =
      let t = file_block image d file in
      let has = has_old image other h m d file in
      let block : (k : ℕ) → main_block other (tree_slot other d k) ≡ owned_block image d k = λ k. ap (main_block other) (tree_slot_placed m.places other m.placed d has k) ∙ block_kept k in
      ap (λ o. option_map_or (λ inode. directory_items inode (λ k. main_block other (tree_slot other d k))) o []) (read_file m.places other m.placed d has)
      ∙ items_of_kept t.0 (inode_at m.places other d) (m.kept_inodes d t.0 file kept t.1) (owned_block image d) (λ k. main_block other (tree_slot other d k)) block
      ∙ sym (ap (λ o. option_map_or (λ inode. directory_items inode (owned_block image d)) o []) t.1)

-- ---- the comparisons of two readings

module _ (low high : ℕ) (r s : Reading) (d : ℕ) (b c : Block) (is_old : directory_in low s d ≡ Some b) (is_new : directory_in high r d ≡ Some c) (k : KeepsInode b c) (items : r.items d ≡ s.items d) (kinds : (t : ℕ) → r.kind t ≡ s.kind t) where
  same_item : (place : ℕ) → item_at high r d place ≡ item_at low s d place
  unfolding item_at
  same_item place =
      let there : is_some (directory_in high r d) ≡ is_some (directory_in low s d) = ap is_some is_new ∙ sym (ap is_some is_old) in
      λ i. find (λ item. item.place == place) (cond (there i) (items i) [])

  same_named : (name : List ℕ) → first_named high r d name ≡ first_named low s d name
  unfolding first_named
  same_named name = λ i. find (λ item. bytes_eq item.name name) (filter (λ item. item.is_legal) (items i))

  abbrev legal_of : Option Item → Option Item
  legal_of o = option_and_then (λ item. cond item.is_legal (Some item) None) o

  -- a comparison of the inode of a directory with blocks
  by_block : (f g : Block → Option Comparison) → f c ≡ g b → of_value (block_directory_in high r d) f ≡ of_value (block_directory_in low s d) g
  by_block f g agree =
      ap (λ o. of_value (option_and_then (λ x. cond (is_inline x) None (Some x)) o) f) is_new
      ∙ ap (λ i. of_value (cond i None (Some c)) f) (same_inline b c k)
      ∙ go (is_inline b)
      ∙ sym (ap (λ o. of_value (option_and_then (λ x. cond (is_inline x) None (Some x)) o) g) is_old)
    where
      go : (i : Bool) → of_value (cond i None (Some c)) f ≡ of_value (cond i None (Some b)) g
      go true = refl
      go false = agree

  pub same_legal : (place : ℕ) → of_value (item_at high r d place) (λ item. where_true (not item.is_legal) (fails_where true item.len 0)) ≡ of_value (item_at low s d place) (λ item. where_true (not item.is_legal) (fails_where true item.len 0))
  same_legal place = ap (λ o. of_value o (λ item. where_true (not item.is_legal) (fails_where true item.len 0))) (same_item place)

  pub same_first : (place : ℕ) → of_value (legal_item_at high r d place) (λ item. same (option_map_or (λ first. first.place) (first_named high r d item.name) 0) place)
      ≡ of_value (legal_item_at low s d place) (λ item. same (option_map_or (λ first. first.place) (first_named low s d item.name) 0) place)
  same_first place = λ i. of_value (legal_of (same_item place i)) (λ item. same (option_map_or (λ first. first.place) (same_named item.name i) 0) place)

  pub same_hash : (place : ℕ) → of_value (legal_item_at high r d place) (λ item. same item.hash (name_hash item.name)) ≡ of_value (legal_item_at low s d place) (λ item. same item.hash (name_hash item.name))
  same_hash place = λ i. of_value (legal_of (same_item place i)) (λ item. same item.hash (name_hash item.name))

  abbrev bucket_test : ℕ → ℕ → Item → Option Comparison
  bucket_test place level item = same (bucket_of_block level (place / block_slots)) (bucket_of (level_of_block level (place / block_slots)) level (name_hash item.name))

  pub same_bucket : (place : ℕ) → of_value (block_directory_in high r d) (λ x. of_value (legal_item_at high r d place) (bucket_test place (dir_level x)))
      ≡ of_value (block_directory_in low s d) (λ x. of_value (legal_item_at low s d place) (bucket_test place (dir_level x)))
  same_bucket place =
      by_block (λ x. of_value (legal_item_at high r d place) (bucket_test place (dir_level x))) (λ x. of_value (legal_item_at low s d place) (bucket_test place (dir_level x)))
      (λ i. of_value (legal_of (same_item place i)) (bucket_test place (k.level i)))

  pub same_kinds : (place : ℕ) → of_value (legal_item_at high r d place) (λ item. same item.kind (r.kind item.ino)) ≡ of_value (legal_item_at low s d place) (λ item. same item.kind (s.kind item.ino))
  same_kinds place = λ i. of_value (legal_of (same_item place i)) (λ item. same item.kind (kinds item.ino i))

  pub same_depth : of_value (block_directory_in high r d) (λ x. at_least (current_depth x) (one_past high r (λ item. level_of_block (dir_level x) (item.place / block_slots)) d))
      ≡ of_value (block_directory_in low s d) (λ x. at_least (current_depth x) (one_past low s (λ item. level_of_block (dir_level x) (item.place / block_slots)) d))
  same_depth =
      by_block (λ x. at_least (current_depth x) (one_past high r (λ item. level_of_block (dir_level x) (item.place / block_slots)) d)) (λ x. at_least (current_depth x) (one_past low s (λ item. level_of_block (dir_level x) (item.place / block_slots)) d))
      (λ i. at_least (k.depth i) (fold (λ top item. max top (1 + level_of_block (k.level i) (item.place / block_slots))) 0 (filter (λ item. item.is_legal) (items i))))

  pub same_size : of_value (block_directory_in high r d) (λ x. at_least (size x) (4096 * one_past high r (λ item. item.place / block_slots) d)) ≡ of_value (block_directory_in low s d) (λ x. at_least (size x) (4096 * one_past low s (λ item. item.place / block_slots) d))
  same_size =
      by_block (λ x. at_least (size x) (4096 * one_past high r (λ item. item.place / block_slots) d)) (λ x. at_least (size x) (4096 * one_past low s (λ item. item.place / block_slots) d))
      (λ i. at_least (k.size i) (4096 * fold (λ top item. max top (1 + item.place / block_slots)) 0 (filter (λ item. item.is_legal) (items i))))

  pub same_dots : (name : List ℕ) (wanted old : ℕ) → wanted ≡ old → of_value (directory_in high r d) (λ x. dots_comparison high r d x name wanted) ≡ of_value (directory_in low s d) (λ x. dots_comparison low s d x name old)
  same_dots name wanted old agree =
      ap (λ o. of_value o (λ x. dots_comparison high r d x name wanted)) is_new
      ∙ (λ i. option_map_or (λ item. same item.ino (agree i)) (same_named name i) (fails_where (not (has_bit (k.flags i) 4)) 0 (agree i)))
      ∙ sym (ap (λ o. of_value o (λ x. dots_comparison low s d x name old)) is_old)
