-- The nodes that are gathered of a checked image are those that move.
use Rattle.std.proofs.Common.{◌≡◌, ℕ, ◌<◌, List, [], ◌∷◌, Bool, true, false, ◌||◌, ◌&&◌, ◌==◌, nat_lt, cond, filter, All, Option, Some, None, refl, sym, ap, subst, ◌∙◌, ⊎_elim, arith}
use Rattle.std.specs.Prelude.{flat_map, option_map}
use Rattle.std.specs.Option.{option_map_or}
use Rattle.std.specs.List.{list_any}
use Rattle.std.specs.List.Sorted.{IsStrictlyIncreasing}
use Rattle.std.proofs.lemmas.Bool.{and_parts, and_from, or_cases, or_left, or_right, eqb-true, eq-eqb, ltb-true, lt-ltb, false≢true, cond-true}
use Rattle.std.proofs.lemmas.List.Kept.{IsStrictlyIncreasing-filter}
use Rattle.f2_bytes.specs.Bytes.{Block, Image}
use Rattle.f2_bytes.specs.Superblock.{layout, IsInOrder}
use Rattle.f2_bytes.specs.Journal.{NatEntry}
use Rattle.f2_bytes.specs.Node.{is_regular, ext_addr, ext_len}
use Rattle.f2_bytes.specs.NodeAddressTable.{nid_limit, nat, image_nat_entry}
use Rattle.f2_bytes.specs.Summary.{summary}
use Rattle.f2_bytes.specs.Tree.{read_node, is_inode}
use Rattle.f2_bytes.specs.Check.{is_checked_body, is_data, nid_of_spot}
use Rattle.f2_bytes.specs.Defragment.{placement, regular_extent, is_covered, is_among, all_places, nodes_among, is_moved_node}
use Rattle.f2_bytes.proofs.CheckedNodes.{nat-below}
use Rattle.f2_gather.specs.Gathering.{holds_data, data_at, number_within, node_at, file_at, covering_at, addresses_of, holders_of}
use Rattle.f2_gather.proofs.Ascending.{bools_same, any_member, member_passes, All-among, any-flat_map, any-map, rising_filter}
use Rattle.f2_gather.proofs.BlockPlaces.{place_there, place_found, all_places-are}
use Rattle.f2_gather.proofs.MovedRules.{one_node, covered_block}
use Rattle.f2_gather.proofs.MovedOwners.{DataAt, holder_of, entry_is, node_counted, data_at as data_there, node_at as node_there}
use Rattle.f2_gather.proofs.MovedNodes.{Valid, MovedData, moved_data, addresses-data, holders-data, one_within, within_one, none_covered, slot_is, slot_of, somewhere, moved_is, of_moved, to_moved}

-- the extent of a file covers some of these
abbrev covers : Image → List ℕ → ℕ → Bool
covers image moved file = list_any (is_covered (option_map_or regular_extent (read_node image file) (0, 0))) moved

-- ---- members of what is gathered

module _ (image : Image) (addresses : List ℕ) where
  node_member : (a x : ℕ) → is_among addresses a ≡ true → (summary image a).nid ≡ x → x < nid_limit (layout image) → is_among (flat_map (node_at image) addresses) x ≡ true
  unfolding node_at number_within
  node_member a x among is low =
      let n = (summary image a).nid in
      any-flat_map (λ y. y == x) (node_at image) addresses
      ∙ member_passes (λ b. is_among (node_at image b) x) addresses a among
      (within_one (nat_lt n (nid_limit (layout image))) n x (ap (λ m. nat_lt m (nid_limit (layout image))) is ∙ lt-ltb x (nid_limit (layout image)) low) is)

  member_node : (x : ℕ) → is_among (flat_map (node_at image) addresses) x ≡ true → (a : ℕ) × (is_among addresses a ≡ true) × ((summary image a).nid ≡ x) × (x < nid_limit (layout image))
  unfolding node_at number_within
  member_node x among =
      let found = any_member (λ b. is_among (node_at image b) x) addresses (sym (any-flat_map (λ y. y == x) (node_at image) addresses) ∙ among) in
      let n = (summary image found.0).nid in
      let one = one_within (nat_lt n (nid_limit (layout image))) n x found.2 in
      let low = ltb-true n (nid_limit (layout image)) one.0 in
      let is = one.1 in
      (found.0, found.1, is, omega (arith, low, is))

module _ (image : Image) (moved files : List ℕ) where
  covering_member : (x : ℕ) → is_among files x ≡ true → covers image moved x ≡ true → is_among (flat_map (covering_at image moved) files) x ≡ true
  unfolding covering_at
  covering_member x among covered =
      any-flat_map (λ y. y == x) (covering_at image moved) files
      ∙ member_passes (λ f. is_among (covering_at image moved f) x) files x among (within_one (covers image moved x) x x covered refl)

  member_covering : (x : ℕ) → is_among (flat_map (covering_at image moved) files) x ≡ true → (is_among files x ≡ true) × (covers image moved x ≡ true)
  unfolding covering_at
  member_covering x among =
      let found = any_member (λ f. is_among (covering_at image moved f) x) files (sym (any-flat_map (λ y. y == x) (covering_at image moved) files) ∙ among) in
      let one = one_within (covers image moved found.0) found.0 x found.2 in
      (ap (is_among files) (sym one.1) ∙ found.1, ap (covers image moved) (sym one.1) ∙ one.0)

-- ---- the three kinds of nodes that move

standing : (image : Image) (addresses : List ℕ) (x : ℕ) → option_map_or (is_among addresses) ((placement image).node x) false ≡ true → (e : NatEntry) × (nat image x ≡ Some e) × (is_among addresses e.address ≡ true)
unfolding placement
standing image addresses x is = go (nat image x) refl is
  where
    go : (o : Option NatEntry) → nat image x ≡ o → option_map_or (is_among addresses) (option_map (λ (e : NatEntry). e.address) o) false ≡ true → (e : NatEntry) × (nat image x ≡ Some e) × (is_among addresses e.address ≡ true)
    go None e is = absurd (false≢true is)
    go (Some entry) e is = (entry, e, is)

stands_at : (image : Image) (addresses : List ℕ) (x : ℕ) (e : NatEntry) → nat image x ≡ Some e → is_among addresses e.address ≡ true → option_map_or (is_among addresses) ((placement image).node x) false ≡ true
unfolding placement
stands_at image addresses x e is among = ap (λ (o : Option NatEntry). option_map_or (is_among addresses) (option_map (λ (f : NatEntry). f.address) o) false) is ∙ among

holder_is : (image : Image) (ino k : ℕ) → (placement image).holder ino k ≡ nid_of_spot image (ino, k)
unfolding placement
holder_is image ino k = refl

extent_of : (image : Image) (x : ℕ) → is_inode image x ≡ true → (placement image).extent x ≡ option_map_or regular_extent (read_node image x) (0, 0)
unfolding placement
extent_of image x inode = cond-true (is_inode image x) (option_map_or regular_extent (read_node image x) (0, 0)) (0, 0) inode

-- only the extent of a regular file covers an address
covered_by : (image : Image) (x a : ℕ) → is_covered ((placement image).extent x) a ≡ true → (b : Block) × (is_inode image x ≡ true) × (read_node image x ≡ Some b) × (is_regular b ≡ true) × (is_covered (ext_addr b, ext_len b) a ≡ true)
unfolding placement
covered_by image x a covered = by_inode (is_inode image x) refl covered
  where
    Answer : Type 0
    Answer = (b : Block) × (is_inode image x ≡ true) × (read_node image x ≡ Some b) × (is_regular b ≡ true) × (is_covered (ext_addr b, ext_len b) a ≡ true)

    by_kind : (b : Block) (r : Bool) → is_inode image x ≡ true → read_node image x ≡ Some b → is_regular b ≡ r → is_covered (cond r (ext_addr b, ext_len b) (0, 0)) a ≡ true → Answer
    by_kind b true inode read e is = (b, inode, read, e, is)
    by_kind b false inode read e is = absurd (none_covered a is)

    by_node : (o : Option Block) → is_inode image x ≡ true → read_node image x ≡ o → is_covered (option_map_or regular_extent o (0, 0)) a ≡ true → Answer
    by_node None inode read is = absurd (none_covered a is)
    by_node (Some b) inode read is = by_kind b (is_regular b) inode read refl is

    by_inode : (f : Bool) → is_inode image x ≡ f → is_covered (cond f (option_map_or regular_extent (read_node image x) (0, 0)) (0, 0)) a ≡ true → Answer
    by_inode true e is = by_node (read_node image x) e refl is
    by_inode false e is = absurd (none_covered a is)

-- ---- on a checked image

module _ (image : Image) (h : is_checked_body image ≡ true) (order : IsInOrder (layout image)) where
  abbrev limit : ℕ
  limit = nid_limit (layout image)

  -- the block of a file has its file by way of its summary
  file_there : (a : ℕ) (d : DataAt image a) → (a ≡ 0 → ⊥) → file_at image (summary image a).nid ≡ d.ino ∷ []
  unfolding file_at number_within
  file_there a d some =
      let holder = holder_of image h d.ino d.k d.low d.inode (λ e. some (sym d.at ∙ e)) in
      let n = nid_of_spot image (d.ino, d.k) in
      let file : (image_nat_entry image n).ino ≡ d.ino = ap (λ (e : NatEntry). e.ino) (entry_is image n holder.entry holder.is) ∙ holder.file in
      ap (file_at image) d.nid
      ∙ cond-true (nat_lt n limit) (number_within limit (image_nat_entry image n).ino) [] (lt-ltb n limit (nat-below image n holder.entry holder.is))
      ∙ ap (number_within limit) file
      ∙ cond-true (nat_lt d.ino limit) (d.ino ∷ []) [] (lt-ltb d.ino limit d.low)

  module _ (addresses : List ℕ) (valid : All (Valid image) addresses) where
    abbrev moved : List ℕ
    moved = moved_data image addresses

    -- what is found at the addresses, and the files of the holders of the data
    abbrev found : List ℕ
    found = flat_map (node_at image) addresses

    abbrev files : List ℕ
    files = flat_map (file_at image) (holders_of (flat_map (data_at image) addresses))

    files-are : (x : ℕ) → is_among files x ≡ list_any (λ a. is_among (file_at image (summary image a).nid) x) moved
    files-are x =
        any-flat_map (λ y. y == x) (file_at image) (holders_of (flat_map (data_at image) addresses))
        ∙ ap (list_any (λ n. is_among (file_at image n) x)) (holders-data image addresses)
        ∙ any-map (λ n. is_among (file_at image n) x) (λ a. (summary image a).nid) (filter (holds_data image) addresses)
        ∙ ap (list_any (λ a. is_among (file_at image (summary image a).nid) x)) (moved_is image h order addresses valid)

    there : (a : ℕ) → is_among moved a ≡ true → MovedData image addresses a
    there a among = of_moved image h order addresses valid a among

    data_of : (a : ℕ) → MovedData image addresses a → DataAt image a
    data_of a m = data_there image h order a m.valid.main m.valid.marked m.is

    some_of : (a : ℕ) → Valid image a → a ≡ 0 → ⊥
    some_of a v = (somewhere image h order a v).some

    -- ---- each node that moves is gathered

    from_standing : (x : ℕ) → option_map_or (is_among addresses) ((placement image).node x) false ≡ true → is_among found x ≡ true
    from_standing x is = go (is_data image a) refl
      where
        at : (e : NatEntry) × (nat image x ≡ Some e) × (is_among addresses e.address ≡ true)
        at = standing image addresses x is

        a : ℕ
        a = at.0.address

        v : Valid image a
        v = All-among (Valid image) addresses a valid at.2

        go : (b : Bool) → is_data image a ≡ b → is_among found x ≡ true
        go true e =
            let none = (data_there image h order a v.main v.marked e).no_node in
            let some = node_counted image h x at.0 at.1 in
            absurd (omega (arith, none, some))
        go false e =
            let n = node_there image h order a v.main v.marked e in
            let same : n.nid ≡ x = one_node image h n.nid x n.entry at.0 n.is at.1 n.at in
            node_member image addresses a x at.2 (n.says ∙ same) (nat-below image x at.0 at.1)

    from_holding : (x : ℕ) → list_any (λ place. is_among moved ((placement image).slot place.0 place.1) && ((placement image).holder place.0 place.1 == x)) (all_places limit) ≡ true → is_among found x ≡ true
    from_holding x is =
        let test = λ (place : ℕ × ℕ). is_among moved ((placement image).slot place.0 place.1) && ((placement image).holder place.0 place.1 == x) in
        let at = place_found limit (λ _. true) test (ap (list_any test) (all_places-are limit) ∙ is) in
        let a = (placement image).slot at.0 at.1 in
        let parts = and_parts (is_among moved a) ((placement image).holder at.0 at.1 == x) at.5 in
        let m = there a parts.0 in
        let some = some_of a m.valid in
        let slot = slot_is image at.0 at.1 a some refl in
        let d = data_of a m in
        let one = d.only at.0 at.1 slot.0 at.2 at.4 slot.1 in
        let holder : nid_of_spot image (d.ino, d.k) ≡ x = (λ i. nid_of_spot image (sym one.0 i, sym one.1 i)) ∙ sym (holder_is image at.0 at.1) ∙ eqb-true ((placement image).holder at.0 at.1) x parts.1 in
        let own = holder_of image h d.ino d.k d.low d.inode (λ e. some (sym d.at ∙ e)) in
        let low : nid_of_spot image (d.ino, d.k) < limit = nat-below image (nid_of_spot image (d.ino, d.k)) own.entry own.is in
        node_member image addresses a x m.among (d.nid ∙ holder) (omega (arith, low, holder))

    from_covering : (x : ℕ) → x < limit → list_any (is_covered ((placement image).extent x)) moved ≡ true → is_among (flat_map (covering_at image moved) files) x ≡ true
    from_covering x low is =
        let at = any_member (is_covered ((placement image).extent x)) moved is in
        let a = at.0 in
        let m = there a at.1 in
        let by = covered_by image x a at.2 in
        let place = somewhere image h order a m.valid in
        let block = covered_block image h x a by.0 low by.1 by.2 by.3 by.4 place.some place.low in
        let d = data_of a m in
        let own = (d.only x block.0 by.1 low block.1 block.2).0 in
        let file : is_among (file_at image (summary image a).nid) x ≡ true = ap (λ l. is_among l x) (file_there a d place.some) ∙ within_one true d.ino x refl (sym own) in
        covering_member image moved files x
        (files-are x ∙ member_passes (λ b. is_among (file_at image (summary image b).nid) x) moved a at.1 file)
        (ap (λ e. list_any (is_covered e) moved) (sym (extent_of image x by.1)) ∙ is)

    -- ---- each that is gathered moves

    to_node : (x : ℕ) → is_among found x ≡ true → is_moved_node limit (placement image) addresses moved x ≡ true
    to_node x among = go (is_data image a) refl
      where
        at : (a : ℕ) × (is_among addresses a ≡ true) × ((summary image a).nid ≡ x) × (x < limit)
        at = member_node image addresses x among

        a : ℕ
        a = at.0

        v : Valid image a
        v = All-among (Valid image) addresses a valid at.1

        test : ℕ × ℕ → Bool
        test place = is_among moved ((placement image).slot place.0 place.1) && ((placement image).holder place.0 place.1 == x)

        go : (b : Bool) → is_data image a ≡ b → is_moved_node limit (placement image) addresses moved x ≡ true
        go true e =
            let d = data_there image h order a v.main v.marked e in
            let slot : (placement image).slot d.ino d.k ≡ a = slot_of image d.ino d.k d.inode ∙ d.at in
            let here : is_among moved ((placement image).slot d.ino d.k) ≡ true = ap (is_among moved) slot ∙ to_moved image h order addresses valid a at.1 e in
            let own : (placement image).holder d.ino d.k ≡ x = holder_is image d.ino d.k ∙ sym d.nid ∙ at.2 in
            let holds : list_any test (all_places limit) ≡ true
            = ap (list_any test) (sym (all_places-are limit)) ∙ place_there limit (λ _. true) test d.ino d.k d.low refl d.within (and_from (is_among moved ((placement image).slot d.ino d.k)) ((placement image).holder d.ino d.k == x) here (eq-eqb ((placement image).holder d.ino d.k) x own)) in
            or_left (option_map_or (is_among addresses) ((placement image).node x) false || list_any test (all_places limit)) (list_any (is_covered ((placement image).extent x)) moved)
            (or_right (option_map_or (is_among addresses) ((placement image).node x) false) (list_any test (all_places limit)) holds)
        go false e =
            let n = node_there image h order a v.main v.marked e in
            let same : n.nid ≡ x = sym n.says ∙ at.2 in
            let standing = stands_at image addresses x n.entry (ap (nat image) (sym same) ∙ n.is) (ap (is_among addresses) n.at ∙ at.1) in
            or_left (option_map_or (is_among addresses) ((placement image).node x) false || list_any test (all_places limit)) (list_any (is_covered ((placement image).extent x)) moved)
            (or_left (option_map_or (is_among addresses) ((placement image).node x) false) (list_any test (all_places limit)) standing)

    -- a file that is gathered is one, below the limit
    file_is : (x : ℕ) → is_among files x ≡ true → (is_inode image x ≡ true) × (x < limit)
    file_is x among =
        let at = any_member (λ b. is_among (file_at image (summary image b).nid) x) moved (sym (files-are x) ∙ among) in
        let m = there at.0 at.1 in
        let d = data_of at.0 m in
        let own : d.ino ≡ x = (one_within true d.ino x (ap (λ l. is_among l x) (sym (file_there at.0 d (some_of at.0 m.valid))) ∙ at.2)).1 in
        let low = d.low in
        (ap (is_inode image) (sym own) ∙ d.inode, omega (arith, own, low))

    to_covering : (x : ℕ) → is_among (flat_map (covering_at image moved) files) x ≡ true → (x < limit) × (is_moved_node limit (placement image) addresses moved x ≡ true)
    to_covering x among =
        let by = member_covering image moved files x among in
        let file = file_is x by.0 in
        let covers_some : list_any (is_covered ((placement image).extent x)) moved ≡ true = ap (λ e. list_any (is_covered e) moved) (extent_of image x file.0) ∙ by.1 in
        (file.1, or_right (option_map_or (is_among addresses) ((placement image).node x) false || list_any (λ place. is_among moved ((placement image).slot place.0 place.1) && ((placement image).holder place.0 place.1 == x)) (all_places limit)) (list_any (is_covered ((placement image).extent x)) moved) covers_some)

    -- ---- all together

    members_move : (x : ℕ) → (is_among found x || is_among (flat_map (covering_at image moved) files) x) ≡ (nat_lt x limit && is_moved_node limit (placement image) addresses moved x)
    members_move x =
        let a = option_map_or (is_among addresses) ((placement image).node x) false in
        let b = list_any (λ place. is_among moved ((placement image).slot place.0 place.1) && ((placement image).holder place.0 place.1 == x)) (all_places limit) in
        let c = list_any (is_covered ((placement image).extent x)) moved in
        let covering = is_among (flat_map (covering_at image moved) files) x in
        bools_same (is_among found x || covering) (nat_lt x limit && is_moved_node limit (placement image) addresses moved x)
        (λ here. ⊎_elim
        (λ one. and_from (nat_lt x limit) (a || b || c) (lt-ltb x limit (member_node image addresses x one).3) (to_node x one))
        (λ two. let t = to_covering x two in and_from (nat_lt x limit) (a || b || c) (lt-ltb x limit t.0) t.1)
        (or_cases (is_among found x) covering here))
        (λ here.
        let parts = and_parts (nat_lt x limit) (a || b || c) here in
        ⊎_elim
        (λ early. or_left (is_among found x) covering (⊎_elim (from_standing x) (from_holding x) (or_cases a b early)))
        (λ late. or_right (is_among found x) covering (from_covering x (ltb-true x limit parts.0) late))
        (or_cases (a || b) c parts.1))

    pub addresses-moved : addresses_of (flat_map (data_at image) addresses) ≡ moved
    addresses-moved = addresses-data image addresses ∙ moved_is image h order addresses valid

    pub nodes_move : (nodes : List ℕ) → IsStrictlyIncreasing nodes
        → ((x : ℕ) → is_among nodes x ≡ (is_among found x || is_among (flat_map (covering_at image (addresses_of (flat_map (data_at image) addresses))) files) x))
        → nodes ≡ nodes_among limit (placement image) addresses
    unfolding nodes_among
    nodes_move nodes rises members =
        rising_filter (is_moved_node limit (placement image) addresses moved) limit nodes rises
        (λ x. members x ∙ ap (λ l. is_among found x || is_among (flat_map (covering_at image l) files) x) addresses-moved ∙ members_move x)

-- the addresses of data rise as all do
pub data_rises : (image : Image) (addresses : List ℕ) → IsStrictlyIncreasing addresses → IsStrictlyIncreasing (addresses_of (flat_map (data_at image) addresses))
data_rises image addresses rises = subst (λ (l : List ℕ). IsStrictlyIncreasing l) (sym (addresses-data image addresses)) (IsStrictlyIncreasing-filter (holds_data image) addresses rises)
