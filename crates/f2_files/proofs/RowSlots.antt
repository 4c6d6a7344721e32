-- The slots of a file in the order of its blocks are those of its rows.
use Rattle.std.proofs.Common.{◌≡◌, ℕ, ◌+◌, ◌-◌, ◌*◌, ◌<◌, ◌≤◌, List, [], ◌∷◌, ◌++◌, Bool, true, false, ◌||◌, ◌==◌, cond, map, length, get_or, Option, Some, None, refl, sym, ap, ◌∙◌, arith, lit≤}
use Rattle.std.specs.Prelude.{flat_map, filter_map, option_map, option_and_then, unwrap_or}
use Rattle.std.specs.List.{cons_option}
use Rattle.std.proofs.lemmas.List.{length-map, get_or-map, append-nil}
use Rattle.std.proofs.lemmas.List.Folds.{flat_map-map}
use Rattle.f2_bytes.specs.Bytes.{Block, Image, word, numbers_below}
use Rattle.f2_bytes.specs.Node.{address_count, address_word, has_inline_xattr, has_inline_dentry, has_slots, locate, word_in, word_at_spot}
use Rattle.f2_bytes.specs.Tree.{read_node, tree_node, tree_slot}
use Rattle.f2_bytes.proofs.Below.{length-numbers_below, get_or-numbers_below}
use Rattle.f2_bytes.specs.Check.{spot_of}
use Rattle.f2_survey.specs.Slots.{Slot, Row, slot_at, slot_in_row, file_slots, row_slots, inode_row_of, node_row_of, direct_before, direct_offsets, rows_in, optional_rows, file_rows}
use Rattle.f2_bytes.specs.Node.{is_direct, most_blocks}
use Rattle.f2_bytes.specs.Tree.{nid_slot}
use Rattle.f2_survey.proofs.DirectOffsets.{rows-all, direct_before-row}
use Rattle.f2_survey.proofs.Spots.{offset_of_row, row_limit, row_limit-value, row_of-offset, offset_of_row-direct, direct-parts, direct-not-zero, locate-inode, locate-row, locate-past}
use Rattle.f2_view.proofs.Rows.{flat_map-parts, flat_map-rows, flat_map-same, flat_map-nothing}
use Rattle.f2_view.proofs.TreeReads.{at_inode, no_inode, no_slots, slot_at as slot_of_spot}

-- ---- lists with what is there alone

abbrev pub optional : {A : Type 0} → Option A → List A
optional o = cons_option o []

pub filter_map-flat : {X A : Type 0} (f : X → Option A) (xs : List X) → filter_map f xs ≡ flat_map (λ x. optional (f x)) xs
filter_map-flat f [] = refl
filter_map-flat {A = A} f (x ∷ xs) = go (f x) ∙ ap (λ l. optional (f x) ++ l) (filter_map-flat f xs)
  where
    go : (o : Option A) → cons_option o (filter_map f xs) ≡ optional o ++ filter_map f xs
    go None = refl
    go (Some a) = refl

-- the lists of those that are there
abbrev pub list_in : {A B : Type 0} → (A → List B) → Option A → List B
list_in g None = []
list_in g (Some a) = g a

pub flat_map-filter_map : {X A B : Type 0} (g : A → List B) (f : X → Option A) (xs : List X) → flat_map g (filter_map f xs) ≡ flat_map (λ x. list_in g (f x)) xs
flat_map-filter_map g f [] = refl
flat_map-filter_map {A = A} {B = B} g f (x ∷ xs) = go (f x) ∙ ap (λ l. list_in g (f x) ++ l) (flat_map-filter_map g f xs)
  where
    go : (o : Option A) → flat_map g (cons_option o (filter_map f xs)) ≡ list_in g o ++ flat_map g (filter_map f xs)
    go None = refl
    go (Some a) = refl

-- ---- the slots in a row

-- the slot of a word
abbrev pub slot_of_word : ℕ → ℕ → ℕ → ℕ → ℕ → Option Slot
slot_of_word ino nid k j address =
    cond (address == 0) None (Some (record { ino = ino; k = k; address = address; nid = nid; place = j }))

pub row_slots-words : (ino nid first n : ℕ) (words : ℕ → ℕ) (row : Row) → row ≡ record { ino = ino; nid = nid; first = first; words = map words (numbers_below n) }
    → row_slots row ≡ flat_map (λ j. optional (slot_of_word ino nid (first + j) j (words j))) (numbers_below n)
unfolding row_slots
row_slots-words ino nid first n words row is =
    ap row_slots is
    ∙ filter_map-flat (slot_in_row whole) (numbers_below (length whole.words))
    ∙ ap (λ k. flat_map (λ j. optional (slot_in_row whole j)) (numbers_below k)) (length-map (numbers_below n) words ∙ length-numbers_below n)
    ∙ flat_map-same (λ j. optional (slot_in_row whole j)) (λ j. optional (slot_of_word ino nid (first + j) j (words j))) n
    (λ j low. ap (λ a. optional (slot_of_word ino nid (first + j) j a)) (at j low))
  where
    whole : Row
    whole = record { ino = ino; nid = nid; first = first; words = map words (numbers_below n) }

    at : (j : ℕ) → j < n → get_or (map words (numbers_below n)) j 0 ≡ words j
    at j low =
        get_or-map words (numbers_below n) j 0 0 (let l = length-numbers_below n in omega (arith, l, low))
        ∙ ap words (get_or-numbers_below n j 0 low)

-- ---- the slots of a file's blocks

address_count-most : (b : Block) → address_count b ≤ 923
unfolding address_count
address_count-most b = go (has_inline_xattr b || has_inline_dentry b)
  where
    go : (c : Bool) → cond c 873 923 ≤ 923
    go true = lit≤ tt
    go false = lit≤ tt

most-value : most_blocks ≡ 923 + 1038362 * 1018
unfolding most_blocks
most-value = refl

module _ (image : Image) (ino : ℕ) where
  -- the slot of block k, whose address stands in this spot
  abbrev slot_from : ℕ → ℕ → ℕ × ℕ → Option Slot
  slot_from k address spot = slot_of_word ino (cond (spot.0 == 0) ino (nid_slot image ino spot.0)) k spot.1 address

  no_file_slots : ((k : ℕ) → 0 ≡ tree_slot image ino k) → file_slots image ino ≡ []
  unfolding file_slots
  no_file_slots none =
      filter_map-flat (slot_at image ino) (numbers_below most_blocks)
      ∙ flat_map-nothing (λ k. optional (slot_at image ino k)) (numbers_below most_blocks)
      (λ k. ap (λ a. optional (slot_from k a (spot_of image (ino, k)))) (sym (none k)))

  module _ (inode : Block) (is : read_node image ino ≡ Some inode) (slots : has_slots inode ≡ true) where
    abbrev n : ℕ
    n = address_count inode

    abbrev nodes : ℕ → Option Block
    nodes = tree_node image ino

    abbrev at_spot : ℕ → Option (ℕ × ℕ) → List Slot
    at_spot k spot = optional (slot_from k (word_at_spot nodes spot) (unwrap_or spot (0, 0)))

    abbrev slots_of : ℕ → List Slot
    slots_of k = optional (slot_at image ino k)

    by_spot : (k : ℕ) (spot : Option (ℕ × ℕ)) → locate k n ≡ spot → slots_of k ≡ at_spot k spot
    by_spot k spot located =
        λ i. optional (slot_from k (slot_of_spot image ino k inode spot is slots (sym located) i) (place i))
      where
        place : spot_of image (ino, k) ≡ unwrap_or spot (0, 0)
        place = ap (λ o. unwrap_or (option_and_then (λ b. locate k (address_count b)) o) (0, 0)) is ∙ ap (λ o. unwrap_or o (0, 0)) located

    in_inode : flat_map slots_of (numbers_below n) ≡ row_slots (inode_row_of ino inode)
    in_inode =
        flat_map-same slots_of (λ j. optional (slot_of_word ino ino (0 + j) j (address_word inode j))) n at
        ∙ sym (row_slots-words ino ino 0 n (address_word inode) (inode_row_of ino inode) refl)
      where
        at : (j : ℕ) → j < n → slots_of j ≡ optional (slot_of_word ino ino (0 + j) j (address_word inode j))
        at j low =
            by_spot j (Some (0, j)) (locate-inode j n low)
            ∙ (λ i. optional (slot_from j (word_in (0, j) ((at_inode image ino 3 0 refl ∙ is) i)) (0, j)))
            ∙ ap (λ k. optional (slot_of_word ino ino k j (address_word inode j))) (let e : j ≡ 0 + j = omega arith in e)

    abbrev node_slots : ℕ → Option Block → List Slot
    node_slots o b = list_in row_slots (option_map (node_row_of ino inode (nid_slot image ino o) o) b)

    in_node : (r : ℕ) → r < row_limit → flat_map (λ j. slots_of (n + (r * 1018 + j))) (numbers_below 1018) ≡ node_slots (offset_of_row r) (nodes (offset_of_row r))
    in_node r low = go (nodes (offset_of_row r)) refl
      where
        o : ℕ
        o = offset_of_row r

        below : r < 1038362
        below = let v = row_limit-value in omega (arith, low, v)

        direct : is_direct o ≡ true
        direct = offset_of_row-direct r below

        place : ℕ → ℕ
        place j = n + (r * 1018 + j)

        at : (j : ℕ) → j < 1018 → slots_of (place j) ≡ at_spot (place j) (Some (o, j))
        at j small =
            by_spot (place j) (Some (o, j))
            (ap (λ k. locate k n) (let e : n + (r * 1018 + j) ≡ n + 1018 * r + j = omega arith in e) ∙ locate-row n r j below small)

        go : (b : Option Block) → nodes o ≡ b → flat_map (λ j. slots_of (place j)) (numbers_below 1018) ≡ node_slots o b
        go None there =
            flat_map-same (λ j. slots_of (place j)) (λ j. []) 1018
            (λ j small. at j small ∙ ap (λ b. optional (slot_from (place j) (word_in (o, j) b) (o, j))) there)
            ∙ flat_map-nothing (λ j. []) (numbers_below 1018) (λ j. refl)
        go (Some b) there =
            flat_map-same (λ j. slots_of (place j)) (λ j. optional (slot_of_word ino (nid_slot image ino o) (first + j) j (word b j))) 1018
            (λ j small.
            at j small
            ∙ ap (λ c. optional (slot_from (place j) (word_in (o, j) c) (o, j))) there
            ∙ (λ i. optional (slot_of_word ino (cond (direct-not-zero o direct i) ino (nid_slot image ino o)) (same j i) j (cond (direct-not-zero o direct i) (address_word b j) (word b j)))))
            ∙ sym (row_slots-words ino (nid_slot image ino o) first 1018 (word b) (node_row_of ino inode (nid_slot image ino o) o b) refl)
          where
            first : ℕ
            first = n + 1018 * direct_before o

            before : direct_before o ≡ r
            before = direct_before-row o (let p = (direct-parts o direct).1 in omega (arith, p)) ∙ row_of-offset r

            same : (j : ℕ) → place j ≡ first + j
            same j = omega (arith, before)

    rows : file_slots image ino ≡ row_slots (inode_row_of ino inode) ++ flat_map row_slots (filter_map (λ o. option_map (node_row_of ino inode (nid_slot image ino o) o) (nodes o)) direct_offsets)
    unfolding file_slots
    rows =
        filter_map-flat (slot_at image ino) (numbers_below most_blocks)
        ∙ ap (λ k. flat_map slots_of (numbers_below k)) most
        ∙ flat_map-parts slots_of (n + row_limit * 1018) (923 - n)
        ∙ (λ i. flat_map-parts slots_of n (row_limit * 1018) i ++ past i)
        ∙ append-nil (flat_map slots_of (numbers_below n) ++ flat_map (λ j. slots_of (n + j)) (numbers_below (row_limit * 1018)))
        ∙ (λ i. in_inode i ++ in_nodes i)
      where
        most : most_blocks ≡ n + row_limit * 1018 + (923 - n)
        most = let v = most-value in let w = row_limit-value in let few = address_count-most inode in omega (arith, v, w, few)

        past : flat_map (λ j. slots_of (n + row_limit * 1018 + j)) (numbers_below (923 - n)) ≡ []
        past =
            flat_map-nothing (λ j. slots_of (n + row_limit * 1018 + j)) (numbers_below (923 - n))
            (λ j. by_spot (n + row_limit * 1018 + j) None (locate-past (n + row_limit * 1018 + j) n (let w = row_limit-value in omega (arith, w))))

        in_nodes : flat_map (λ j. slots_of (n + j)) (numbers_below (row_limit * 1018))
            ≡ flat_map row_slots (filter_map (λ o. option_map (node_row_of ino inode (nid_slot image ino o) o) (nodes o)) direct_offsets)
        in_nodes =
            flat_map-rows (λ j. slots_of (n + j)) row_limit 1018
            ∙ flat_map-same (λ r. flat_map (λ j. slots_of (n + (r * 1018 + j))) (numbers_below 1018)) (λ r. node_slots (offset_of_row r) (nodes (offset_of_row r))) row_limit in_node
            ∙ sym (flat_map-map (λ o. node_slots o (nodes o)) offset_of_row (numbers_below row_limit))
            ∙ ap (flat_map (λ o. node_slots o (nodes o))) rows-all
            ∙ sym (flat_map-filter_map row_slots (λ o. option_map (node_row_of ino inode (nid_slot image ino o) o) (nodes o)) direct_offsets)

  by_inode : (o : Option Block) → read_node image ino ≡ o → file_slots image ino ≡ flat_map row_slots (optional_rows image ino o)
  by_inode None is = no_file_slots (λ k. no_inode image ino k is)
  by_inode (Some inode) is = go (has_slots inode) refl
    where
      go : (b : Bool) → has_slots inode ≡ b → file_slots image ino ≡ flat_map row_slots (rows_in image ino inode)
      go true has = rows inode is has ∙ sym (ap (λ (b : Bool). flat_map row_slots (cond b (inode_row_of ino inode ∷ filter_map (λ o. option_map (node_row_of ino inode (nid_slot image ino o) o) (tree_node image ino o)) direct_offsets) [])) has)
      go false has = no_file_slots (λ k. no_slots image ino k inode is has) ∙ sym (ap (λ (b : Bool). flat_map row_slots (cond b (inode_row_of ino inode ∷ filter_map (λ o. option_map (node_row_of ino inode (nid_slot image ino o) o) (tree_node image ino o)) direct_offsets) [])) has)

pub slots_of_rows : (image : Image) (ino : ℕ) → file_slots image ino ≡ flat_map row_slots (file_rows image ino)
unfolding file_rows
slots_of_rows image ino = by_inode image ino (read_node image ino) refl
