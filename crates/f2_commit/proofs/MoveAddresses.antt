-- Where the blocks of a checked image go in a batch: each to a place of its own, and what does not move stays.
use Rattle.std.proofs.Common.{◌≡◌, ℕ, zero, ◌+◌, ◌<◌, List, [], ◌∷◌, Bool, true, false, ◌==◌, ◌||◌, cond, map, length, get_or, All, Option, Some, None, refl, ap, ◌∙◌, subst, ⊎_elim, arith}
use Rattle.std.specs.Prelude.{flat_map}
use Rattle.std.specs.Option.{option_map_or}
use Rattle.std.specs.List.{list_any}
use Rattle.std.proofs.lemmas.Bool.{and_parts, and_from, or_cases, or_right, eqb-true, ne_eqb, ltb-true, false≢true}
use Rattle.std.proofs.lemmas.List.Elements.{All-append, All-nil, All-tail, All-map, All-filter, filter_passes}
use Rattle.std.proofs.lemmas.List.Folds.{Any-from_list_any}
use Rattle.f2_bytes.specs.Bytes.{Image, numbers_below}
use Rattle.f2_bytes.specs.Superblock.{layout, is_main}
use Rattle.f2_bytes.specs.Journal.{NatEntry}
use Rattle.f2_bytes.specs.NodeAddressTable.{nid_limit, nat}
use Rattle.f2_bytes.specs.Node.{most_blocks}
use Rattle.f2_bytes.specs.Tree.{tree_slot, is_inode}
use Rattle.f2_bytes.specs.Check.{is_checked, is_data, is_node, is_address, slots_with, nodes_with, nid_with}
use Rattle.f2_bytes.specs.Support.{is_support}
use Rattle.f2_bytes.specs.Moved.{is_used}
use Rattle.f2_bytes.specs.Defragment.{placement, all_places, data_among}
use Rattle.f2_bytes.proofs.AllPlaces.{All-below}
use Rattle.f2_bytes.proofs.CheckedUsed.{main_range, data_slot, node_entry, slot_once, slot_data, entry_node, entry_in_main}
use Rattle.f2_bytes.proofs.Finds.{found_first}
use Rattle.f2_bytes.proofs.InSupport.{node_in}
use Rattle.f2_bytes.proofs.SlotSupport.{tree_slot_support}
use Rattle.f2_commit.specs.Moves.{moved_data}

all_flat : {X A : Type 0} (P : A → Type 0) (f : X → List A) (xs : List X) → All (λ x. All P (f x)) xs → All P (flat_map f xs)
all_flat P f [] all = All-nil P
all_flat P f (x ∷ xs) all = All-append P (f x) (flat_map f xs) (all zero x (omega arith)) (all_flat P f xs (All-tail (λ y. All P (f y)) x xs all))

-- the number of a block of a place is below the limit
abbrev pub InFile : ℕ × ℕ → Type 0
InFile place = place.1 < most_blocks

pub all_placed : (nids : ℕ) → All InFile (all_places nids)
unfolding all_places
all_placed nids =
    all_flat InFile (λ ino. map (λ k. (ino, k)) (numbers_below most_blocks)) (numbers_below nids)
    (All-below (λ ino. All InFile (map (λ k. (ino, k)) (numbers_below most_blocks))) nids
    (λ ino low. All-map InFile (λ k. (ino, k)) (numbers_below most_blocks) (All-below (λ k. k < most_blocks) most_blocks (λ k within. within))))

-- one that passes among a list, of which all hold something
pub found_in : {A : Type 0} (P : A → Type 0) (test : A → Bool) (xs : List A) → All P xs → list_any test xs ≡ true → (x : A) × P x × (test x ≡ true)
found_in P test xs all any =
    let found = Any-from_list_any test xs any in
    (found.1, subst P found.3 (all found.0 found.1 found.2), found.4)

-- the node that is found at an address stands there
pub nid_with-entry : (image : Image) (a nid : ℕ) → nid_with image a ≡ Some nid → (e : NatEntry) × (nat image nid ≡ Some e) × (e.address ≡ a)
unfolding nid_with numbers_below
nid_with-entry image a nid found = go (nat image nid) refl (found_first (λ n. option_map_or (λ e. e.address == a) (nat image n) false) 0 (nid_limit (layout image)) nid found).passes
  where
    go : (o : Option NatEntry) → nat image nid ≡ o → option_map_or (λ e. e.address == a) (nat image nid) false ≡ true → (e : NatEntry) × (nat image nid ≡ Some e) × (e.address ≡ a)
    go None is here =
        let no : false ≡ true = rw is at here in
        absurd (false≢true no)
    go (Some e) is here =
        let test : (e.address == a) ≡ true = rw is at here in
        (e, is, eqb-true e.address a test)

module _ (image : Image) (h : is_checked image ≡ true) where
  -- what is used is in the support
  pub used_support : (a : ℕ) → is_used image a ≡ true → is_support image a ≡ true
  used_support a used =
      let parts = and_parts (is_main (layout image) a) (is_data image a || is_node image a) used in
      ⊎_elim
      (λ d. let s = data_slot image a d in subst (λ x. is_support image x ≡ true) s.4 (tree_slot_support image h s.0 s.1 s.2 (ap (is_main (layout image)) s.4 ∙ parts.0)))
      (λ n. let e = node_entry image a n in subst (λ x. is_support image x ≡ true) e.3 (node_in image e.0 e.1 e.2 (ap (is_main (layout image)) e.3 ∙ parts.0)))
      (or_cases (is_data image a) (is_node image a) parts.1)

  pub main_address : (a : ℕ) → is_main (layout image) a ≡ true → is_address a ≡ true
  main_address a main =
      let range = main_range image h a main in
      let low = range.0 in
      let high = range.1 in
      rw (ne_eqb a 0 (λ e. omega (arith, e, low)), ne_eqb a 4294967295 (λ e. omega (arith, e, high))) refl

  -- no node stands where a block of a file does
  pub data_no_node : (a : ℕ) → is_main (layout image) a ≡ true → is_data image a ≡ true → is_node image a ≡ true → ⊥
  data_no_node a main data_there node_there =
      let s = data_slot image a data_there in
      let once : slots_with image a + nodes_with image a ≡ 1 = subst (λ x. slots_with image x + nodes_with image x ≡ 1) s.4 (slot_once image h s.0 s.1 s.2 s.3 (ap is_address s.4 ∙ main_address a main)) in
      let one = ltb-true 0 (slots_with image a) data_there in
      let two = ltb-true 0 (nodes_with image a) node_there in
      omega (arith, once, one, two)

  pub entry_used : (nid : ℕ) (e : NatEntry) → nat image nid ≡ Some e → is_used image e.address ≡ true
  entry_used nid e is = and_from _ _ (entry_in_main image h nid e is) (or_right (is_data image e.address) _ (entry_node image h nid e is))

  module _ (addresses : List ℕ) (mains : All (λ a. is_main (layout image) a ≡ true) addresses) where
    is_slot : ℕ → Bool
    is_slot a = list_any (λ place. cond (is_inode image place.0) (tree_slot image place.0 place.1) 0 == a) (all_places (nid_limit (layout image)))

    slot_there : (a : ℕ) → is_main (layout image) a ≡ true → is_slot a ≡ true → is_data image a ≡ true
    unfolding is_slot
    slot_there a main slot = go found.0 found.1 (is_inode image found.0.0) refl (eqb-true _ a found.2)
      where
        found : (place : ℕ × ℕ) × InFile place × ((cond (is_inode image place.0) (tree_slot image place.0 place.1) 0 == a) ≡ true)
        found = found_in InFile (λ place. cond (is_inode image place.0) (tree_slot image place.0 place.1) 0 == a) (all_places (nid_limit (layout image))) (all_placed (nid_limit (layout image))) slot

        go : (place : ℕ × ℕ) → place.1 < most_blocks → (i : Bool) → is_inode image place.0 ≡ i → cond (is_inode image place.0) (tree_slot image place.0 place.1) 0 ≡ a → is_data image a ≡ true
        go place within false inode at =
            let none : 0 ≡ a = rw inode at at in
            let low = (main_range image h a main).0 in
            absurd (omega (arith, none, low))
        go place within true inode at =
            let here : tree_slot image place.0 place.1 ≡ a = rw inode at at in
            subst (λ x. is_data image x ≡ true) here (slot_data image h place.0 place.1 inode within)

    -- each moved data block stands in main and is a file's
    pub data_used : (n : ℕ) → n < length (moved_data image addresses) → (is_main (layout image) (get_or (moved_data image addresses) n 0) ≡ true) × (is_data image (get_or (moved_data image addresses) n 0) ≡ true)
    unfolding data_among placement is_slot
    data_used n low =
        let a = get_or (moved_data image addresses) n 0 in
        let main : is_main (layout image) a ≡ true = All-filter is_slot (λ x. is_main (layout image) x ≡ true) addresses mains n 0 low in
        (main, slot_there a main (filter_passes is_slot addresses n 0 low))
