-- What is gathered of a checked image is what moves: the data among some addresses, and the nodes.
use Rattle.std.proofs.Common.{◌≡◌, ℕ, List, [], ◌∷◌, Bool, true, false, ◌||◌, ◌&&◌, ◌==◌, nat_le, nat_lt, cond, filter, map, get_or, All, refl, sym, ap, subst, ◌∙◌, arith}
use Rattle.std.specs.Prelude.{flat_map}
use Rattle.std.specs.List.{list_any}
use Rattle.std.proofs.lemmas.Bool.{and_parts, and_from, or_left, eqb-true, eq-eqb, ltb-true, false≢true}
use Rattle.std.proofs.lemmas.List.Elements.{All-nil, All-cons}
use Rattle.f2_bytes.specs.Bytes.{Image}
use Rattle.f2_bytes.specs.Superblock.{layout, is_main, IsInOrder}
use Rattle.f2_bytes.specs.NodeAddressTable.{nid_limit}
use Rattle.f2_bytes.specs.Summary.{summary}
use Rattle.f2_bytes.specs.Tree.{tree_slot, is_inode}
use Rattle.f2_bytes.specs.Check.{is_checked_body, is_data, is_marked}
use Rattle.f2_bytes.specs.Defragment.{placement, is_covered, is_among, all_places, data_among}
use Rattle.f2_gather.specs.declared.gathering.MovedBlock.{MovedBlock}
use Rattle.f2_gather.specs.Gathering.{holds_data, moved_block, data_at, addresses_of, holders_of}
use Rattle.f2_gather.proofs.Ascending.{bools_same, any-filter, any_member, member_passes, All-among}
use Rattle.f2_gather.proofs.BlockPlaces.{All-flat_map, filter_same, place_there, place_found, all_places-are}
use Rattle.f2_gather.proofs.MovedRules.{InMain, in_main, kind_is}
use Rattle.f2_gather.proofs.MovedOwners.{data_by_slot}
use Rattle.f2_gather.proofs.MovedOwners.{data_at as data_there}

-- ---- the lists that are gathered

module _ (image : Image) where
  -- the addresses of the data
  pub addresses-data : (xs : List ℕ) → addresses_of (flat_map (data_at image) xs) ≡ filter (holds_data image) xs
  unfolding data_at
  addresses-data [] = refl
  addresses-data (x ∷ xs) = go (holds_data image x) refl (addresses-data xs)
    where
      go : (b : Bool) → holds_data image x ≡ b → addresses_of (flat_map (data_at image) xs) ≡ filter (holds_data image) xs → addresses_of (flat_map (data_at image) (x ∷ xs)) ≡ filter (holds_data image) (x ∷ xs)
      go true e rest = rw e (ap (λ l. x ∷ l) rest)
      go false e rest = rw e rest

  -- and the nodes that hold them
  pub holders-data : (xs : List ℕ) → holders_of (flat_map (data_at image) xs) ≡ map (λ a. (summary image a).nid) (filter (holds_data image) xs)
  unfolding data_at
  holders-data [] = refl
  holders-data (x ∷ xs) = go (holds_data image x) refl (holders-data xs)
    where
      go : (b : Bool) → holds_data image x ≡ b → holders_of (flat_map (data_at image) xs) ≡ map (λ a. (summary image a).nid) (filter (holds_data image) xs)
          → holders_of (flat_map (data_at image) (x ∷ xs)) ≡ map (λ a. (summary image a).nid) (filter (holds_data image) (x ∷ xs))
      go true e rest = rw e (ap (λ l. (summary image x).nid ∷ l) rest)
      go false e rest = rw e rest

  pub blocks-data : (xs : List ℕ) → All (λ b. b ≡ moved_block image b.address) (flat_map (data_at image) xs)
  unfolding data_at
  blocks-data xs = All-flat_map (λ (b : MovedBlock). b ≡ moved_block image b.address) (data_at image) xs (λ k d low. go (get_or xs k d) (holds_data image (get_or xs k d)))
    where
      go : (x : ℕ) (b : Bool) → All (λ (m : MovedBlock). m ≡ moved_block image m.address) (cond b (moved_block image x ∷ []) [])
      go x true = All-cons (λ (m : MovedBlock). m ≡ moved_block image m.address) (moved_block image x) [] refl (All-nil (λ (m : MovedBlock). m ≡ moved_block image m.address))
      go x false = All-nil (λ (m : MovedBlock). m ≡ moved_block image m.address)

-- a number stands in a list of at most one
pub one_within : (b : Bool) (n x : ℕ) → is_among (cond b (n ∷ []) []) x ≡ true → (b ≡ true) × (n ≡ x)
one_within true n x among = (refl, eqb-true n x (or_first (n == x) among))
  where
    or_first : (c : Bool) → (c || false) ≡ true → c ≡ true
    or_first true h = refl
    or_first false h = h
one_within false n x among = absurd (false≢true among)

pub within_one : (b : Bool) (n x : ℕ) → b ≡ true → n ≡ x → is_among (cond b (n ∷ []) []) x ≡ true
within_one true n x yes_b is = or_left (n == x) false (eq-eqb n x is)
within_one false n x yes_b is = yes_b

-- no extent of length 0 covers anything
pub none_covered : (a : ℕ) → is_covered (0, 0) a ≡ true → ⊥
none_covered a covered = let low = ltb-true a 0 (and_parts (nat_le 0 a) (nat_lt a 0) covered).1 in omega (arith, low)

pub none_covers : (xs : List ℕ) → list_any (is_covered (0, 0)) xs ≡ true → ⊥
none_covers xs some = let found = any_member (is_covered (0, 0)) xs some in none_covered found.0 found.2

-- a valid block in main
pub record Valid (image : Image) (a : ℕ) : Type 0 where
  pub main : is_main (layout image) a ≡ true
  pub marked : is_marked image a ≡ true

-- an address of data that moves
pub record MovedData (image : Image) (addresses : List ℕ) (a : ℕ) : Type 0 where
  pub among : is_among addresses a ≡ true
  pub is : is_data image a ≡ true
  pub valid : Valid image a

-- the data that moves
abbrev pub moved_data : Image → List ℕ → List ℕ
moved_data image addresses = data_among (nid_limit (layout image)) (placement image) addresses

-- the slots as a placement has them
abbrev slot_test : Image → ℕ → ℕ × ℕ → Bool
slot_test image a place = (placement image).slot place.0 place.1 == a

-- a file that has an address at a place of a placement
pub slot_is : (image : Image) (ino k a : ℕ) → (a ≡ 0 → ⊥) → (placement image).slot ino k ≡ a → (is_inode image ino ≡ true) × (tree_slot image ino k ≡ a)
unfolding placement
slot_is image ino k a some at = go (is_inode image ino) refl at
  where
    go : (b : Bool) → is_inode image ino ≡ b → cond b (tree_slot image ino k) 0 ≡ a → (is_inode image ino ≡ true) × (tree_slot image ino k ≡ a)
    go true e is = (e, is)
    go false e is = absurd (some (sym is))

pub slot_of : (image : Image) (ino k : ℕ) → is_inode image ino ≡ true → (placement image).slot ino k ≡ tree_slot image ino k
unfolding placement
slot_of image ino k inode = rw inode refl

-- ---- on a checked image

module _ (image : Image) (h : is_checked_body image ≡ true) (order : IsInOrder (layout image)) where
  abbrev limit : ℕ
  limit = nid_limit (layout image)

  pub somewhere : (a : ℕ) → Valid image a → InMain image a
  somewhere a v = in_main image a order v.main

  -- a block is data where a slot has its address
  data_tests : (a : ℕ) → Valid image a → holds_data image a ≡ list_any (slot_test image a) (all_places limit)
  data_tests a v =
      kind_is image h order a v.main v.marked
      ∙ bools_same (is_data image a) (list_any (slot_test image a) (all_places limit))
      (λ is.
      let d = data_there image h order a v.main v.marked is in
      ap (list_any (slot_test image a)) (sym (all_places-are limit))
      ∙ place_there limit (λ _. true) (slot_test image a) d.ino d.k d.low refl d.within (eq-eqb ((placement image).slot d.ino d.k) a (slot_of image d.ino d.k d.inode ∙ d.at)))
      (λ some.
      let found = place_found limit (λ _. true) (slot_test image a) (ap (list_any (slot_test image a)) (all_places-are limit) ∙ some) in
      let slot = slot_is image found.0 found.1 a (somewhere a v).some (eqb-true ((placement image).slot found.0 found.1) a found.5) in
      data_by_slot image h a found.0 found.1 found.2 slot.0 found.4 slot.1)

  module _ (addresses : List ℕ) (valid : All (Valid image) addresses) where
    pub moved_is : filter (holds_data image) addresses ≡ moved_data image addresses
    unfolding data_among
    moved_is = filter_same (holds_data image) (λ a. list_any (slot_test image a) (all_places limit)) addresses (λ k d low. data_tests (get_or addresses k d) (valid k d low))

    pub of_moved : (a : ℕ) → is_among (moved_data image addresses) a ≡ true → MovedData image addresses a
    of_moved a among =
        let found = any_member (λ y. holds_data image y && (y == a)) addresses (sym (any-filter (λ y. y == a) (holds_data image) addresses) ∙ ap (λ l. is_among l a) moved_is ∙ among) in
        let parts = and_parts (holds_data image found.0) (found.0 == a) found.2 in
        let same : found.0 ≡ a = eqb-true found.0 a parts.1 in
        let v : Valid image a = subst (Valid image) same (All-among (Valid image) addresses found.0 valid found.1) in
        record {
          among = ap (is_among addresses) (sym same) ∙ found.1;
          is = sym (kind_is image h order a v.main v.marked) ∙ ap (holds_data image) (sym same) ∙ parts.0;
          valid = v;
        }

    pub to_moved : (a : ℕ) → is_among addresses a ≡ true → is_data image a ≡ true → is_among (moved_data image addresses) a ≡ true
    to_moved a among is =
        let v : Valid image a = All-among (Valid image) addresses a valid among in
        ap (λ l. is_among l a) (sym moved_is)
        ∙ any-filter (λ y. y == a) (holds_data image) addresses
        ∙ member_passes (λ y. holds_data image y && (y == a)) addresses a among (and_from (holds_data image a) (a == a) (kind_is image h order a v.main v.marked ∙ is) (eq-eqb a a refl))
