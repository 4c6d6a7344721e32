-- The names in the nid slots of a file are those that the five nids of its inode lead to.
use Rattle.std.proofs.Common.{◌≡◌, ℕ, ◌+◌, ◌*◌, ◌<◌, List, [], ◌++◌, true, false, Option, Some, None, refl, sym, ap, ◌∙◌, arith, append_assoc}
use Rattle.std.specs.Prelude.{flat_map}
use Rattle.std.specs.Option.{option_and_then, option_map_or}
use Rattle.f2_bytes.specs.Bytes.{Block, Image, word, numbers_below}
use Rattle.f2_bytes.specs.Node.{has_slots, inode_nid, offset_limit}
use Rattle.f2_bytes.specs.Tree.{read_node}
use Rattle.f2_survey.specs.Named.{name_in, each_number, names_under, inode_names, file_names}
use Rattle.f2_bytes.specs.Tree.{has_nid_slots, nid_slot}
use Rattle.f2_survey.specs.declared.nid_slot_names.Name.{Name}
use Rattle.f2_survey.proofs.NameWalks.{in_none}
use Rattle.f2_survey.proofs.NidSlots.{no_slots, parent-inode, parent-1022, parent-2041, slot_zero, slot_inode, slot_first, slot_second, slot_third, slot_deep}
use Rattle.f2_survey.proofs.OffsetBands.{limit-value, bands}
use Rattle.f2_view.proofs.Rows.{flat_map-same, flat_map-nothing}

-- ---- a file without nid slots

pub no_names : (image : Image) (ino : ℕ) → has_nid_slots image ino ≡ false → file_names image ino ≡ []
unfolding file_names
no_names image ino none =
    flat_map-nothing (λ o. name_in o (nid_slot image ino o)) (numbers_below offset_limit) (λ o. in_none o (nid_slot image ino o) (no_slots image ino o none))

pub no_inode : (image : Image) (ino : ℕ) → read_node image ino ≡ None → file_names image ino ≡ []
no_inode image ino none = no_names image ino (ap (λ o. option_map_or has_slots o false) none)

pub slotless : (image : Image) (ino : ℕ) (inode : Block) → read_node image ino ≡ Some inode → has_slots inode ≡ false → file_names image ino ≡ []
slotless image ino inode is none = no_names image ino (ap (λ o. option_map_or has_slots o false) is ∙ none)

-- ---- a file with nid slots

joined : {A : Type 0} (z a b c w d x e y p q r s t : List A) → z ≡ [] → a ≡ p → b ≡ q → c ++ w ≡ r → d ++ x ≡ s → e ++ y ≡ t
    → z ++ a ++ b ++ c ++ w ++ d ++ x ++ e ++ y ≡ p ++ q ++ r ++ s ++ t
joined z a b c w d x e y p q r s t none one two three four five =
    append_assoc (z ++ a ++ b ++ c ++ w ++ d ++ x) e y
    ∙ ap (λ l. l ++ (e ++ y)) (append_assoc (z ++ a ++ b ++ c ++ w) d x ∙ ap (λ l. l ++ (d ++ x)) (append_assoc (z ++ a ++ b) c w))
    ∙ λ i. none i ++ one i ++ two i ++ three i ++ four i ++ five i

module _ (image : Image) (ino : ℕ) (inode : Block) (is : read_node image ino ≡ Some inode) (slots : has_slots inode ≡ true) where
  at : ℕ → List Name
  at o = name_in o (nid_slot image ino o)

  -- the words of a node of nids, for the nodes at these offsets
  of_words : (v : ℕ → ℕ) (above : Option Block) → ((j : ℕ) → j < 1018 → nid_slot image ino (v j) ≡ option_map_or (λ b. word b j) above 0)
      → flat_map (λ j. at (v j)) (numbers_below 1018) ≡ each_number (λ j n. name_in (v j) n) above
  unfolding at
  of_words v None same =
      flat_map-same (λ j. name_in (v j) (nid_slot image ino (v j))) (λ j. []) 1018 (λ j low. in_none (v j) (nid_slot image ino (v j)) (same j low))
      ∙ flat_map-nothing (λ j. []) (numbers_below 1018) (λ j. refl)
  of_words v (Some b) same =
      flat_map-same (λ j. name_in (v j) (nid_slot image ino (v j))) (λ j. name_in (v j) (word b j)) 1018 (λ j low. ap (name_in (v j)) (same j low))

  direct : (o nid : ℕ) → nid_slot image ino o ≡ nid → at o ≡ names_under image 0 o nid
  unfolding at names_under
  direct o nid slot = ap (name_in o) slot

  -- a node of nids of direct nodes, and those
  indirect : (o nid : ℕ) (v : ℕ → ℕ) → ((j : ℕ) → o + 1 + j * 1 ≡ v j) → nid_slot image ino o ≡ nid
      → ((j : ℕ) → j < 1018 → nid_slot image ino (v j) ≡ option_map_or (λ b. word b j) (read_node image nid) 0)
      → at o ++ flat_map (λ j. at (v j)) (numbers_below 1018) ≡ names_under image 1 o nid
  unfolding at names_under
  indirect o nid v offsets slot same =
      (λ t. name_in o (slot t) ++ of_words v (read_node image nid) same t)
      ∙ λ t. name_in o nid ++ each_number (λ j n. name_in (sym (offsets j) t) n) (read_node image nid)

  first : at 3 ++ flat_map (λ j. at (4 + j)) (numbers_below 1018) ≡ names_under image 1 3 (inode_nid inode 2)
  first =
      indirect 3 (inode_nid inode 2) (λ j. 4 + j) (λ j. omega arith) (slot_inode image ino inode is slots 3 2 (parent-inode 3 2 refl (omega arith)))
      (slot_first image ino inode is slots)

  second : at 1022 ++ flat_map (λ j. at (1023 + j)) (numbers_below 1018) ≡ names_under image 1 1022 (inode_nid inode 3)
  second = indirect 1022 (inode_nid inode 3) (λ j. 1023 + j) (λ j. omega arith) (slot_inode image ino inode is slots 1022 3 parent-1022) (slot_second image ino inode is slots)

  -- the node of nids of such nodes, and all under it
  deep_at : ℕ → List Name
  deep_at i = at (2042 + i * 1019) ++ flat_map (λ j. at (2042 + i * 1019 + 1 + j)) (numbers_below 1018)

  of_deep : (above : Option Block) → read_node image (inode_nid inode 4) ≡ above → flat_map deep_at (numbers_below 1018) ≡ each_number (λ i n. names_under image 1 (2042 + i * 1019) n) above
  unfolding deep_at at
  of_deep None none =
      flat_map-same deep_at (λ i. []) 1018 (λ i few.
      let empty : at (2042 + i * 1019) ≡ []
      = in_none (2042 + i * 1019) (nid_slot image ino (2042 + i * 1019)) (slot_third image ino inode is slots i few ∙ ap (λ o. option_map_or (λ b. word b i) o 0) none) in
      let rest : flat_map (λ j. at (2042 + i * 1019 + 1 + j)) (numbers_below 1018) ≡ []
      = of_words (λ j. 2042 + i * 1019 + 1 + j) None
      (λ j low. slot_deep image ino inode is slots i j few low ∙ ap (λ o. option_map_or (λ b. word b j) (option_and_then (λ b. read_node image (word b i)) o) 0) none) in
      λ t. empty t ++ rest t)
      ∙ flat_map-nothing (λ i. []) (numbers_below 1018) (λ i. refl)
  of_deep (Some a) there =
      flat_map-same deep_at (λ i. names_under image 1 (2042 + i * 1019) (word a i)) 1018 (λ i few.
      indirect (2042 + i * 1019) (word a i) (λ j. 2042 + i * 1019 + 1 + j) (λ j. omega arith)
      (slot_third image ino inode is slots i few ∙ ap (λ o. option_map_or (λ b. word b i) o 0) there)
      (λ j low. slot_deep image ino inode is slots i j few low ∙ ap (λ o. option_map_or (λ b. word b j) (option_and_then (λ b. read_node image (word b i)) o) 0) there))

  third : at 2041 ++ flat_map deep_at (numbers_below 1018) ≡ names_under image 2 2041 (inode_nid inode 4)
  unfolding at names_under
  third = λ t. name_in 2041 (slot_inode image ino inode is slots 2041 4 parent-2041 t) ++ of_deep (read_node image (inode_nid inode 4)) refl t

  none_at_top : at 0 ≡ []
  unfolding at
  none_at_top = in_none 0 (nid_slot image ino 0) (slot_zero image ino inode is slots)

  pub all_names : file_names image ino ≡ inode_names image inode
  unfolding file_names at deep_at
  all_names =
      ap (λ n. flat_map (λ o. name_in o (nid_slot image ino o)) (numbers_below n)) limit-value
      ∙ bands (λ o. name_in o (nid_slot image ino o)) 1018
      ∙ joined _ _ _ _ _ _ _ _ _ _ _ _ _ _ none_at_top (direct 1 (inode_nid inode 0) (slot_inode image ino inode is slots 1 0 (parent-inode 1 0 refl (omega arith))))
      (direct 2 (inode_nid inode 1) (slot_inode image ino inode is slots 2 1 (parent-inode 2 1 refl (omega arith)))) first second third
