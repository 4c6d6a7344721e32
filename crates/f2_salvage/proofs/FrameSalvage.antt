-- Another image with the support of this one has the same salvage, where a superblock copy passes and a pack counts.
use Rattle.std.proofs.Common.{◌≡◌, ℕ, zero, suc, ◌+◌, ◌-◌, ◌^◌, ◌≤◌, List, [], ◌∷◌, ◌++◌, Bool, true, false, ◌==◌, ◌&&◌, not, nat_lt, cond, length, Option, Some, None, refl, sym, ap, ◌∙◌, arith}
use Rattle.std.specs.Prelude.{reverse, find, filter, flat_map, filter_map, map, count_by, is_some, is_none, option_map, option_and_then, unwrap_or, codes, decimal, if◌then◌else◌}
use Rattle.std.specs.Option.{option_map_or, option_or}
use Rattle.std.specs.List.{list_any}
use Rattle.std.specs.Str.{bytes_eq}
use Rattle.std.proofs.lemmas.Bool.{and_parts}
use Rattle.f2_bytes.specs.Bytes.{Block, Image, block_at, numbers_below}
use Rattle.f2_bytes.specs.Superblock.{super_copy, layout, is_main}
use Rattle.f2_bytes.specs.NodeAddressTable.{nid_limit}
use Rattle.f2_bytes.specs.Checkpoint.{has_checkpoint}
use Rattle.f2_bytes.specs.SalvagedFiles.{is_orphan, root, is_file, is_directory_file, files, is_node_at, is_chain_node_at, nid_at, file_node, file_slot, is_node_address, slot_places, owner, is_owned, owned_block, file_piece, file_items}
use Rattle.f2_bytes.specs.Node.{footer_nid, footer_ino, node_offset, has_dentry_mark, has_type, is_directory, slot_of, most_blocks, attribute_offset}
use Rattle.f2_bytes.specs.Claims.{pino, Claim, inode_name, chain_claim, item_claim, claims, same_name, is_on, filter_after, good_claims, parent, ancestor, is_own_ancestor, kept_claims, kept_target}
use Rattle.f2_bytes.specs.Directory.{directory_items}
use Rattle.f2_bytes.specs.Names.{is_legal_name, is_dots}
use Rattle.f2_bytes.specs.RollForward.{last_in_chain, chain_length, chain_node, chain_address, is_counting, found_place, node_block}
use Rattle.f2_bytes.specs.Object.{Piece, hole, reserved, stored, object_of}
use Rattle.f2_bytes.specs.LostFiles.{is_lost, has_lost, first_numbered, tries, lost_directory_name, least_free_nid, makes_lost_directory, lost_directory, lost_name, lost_claim, made_claim}
use Rattle.f2_bytes.specs.Salvage.{names, file_names, file_object, salvaged_tree, salvage}
use Rattle.f2_bytes.specs.Format.{new_directory}
use Rattle.f2_bytes.specs.Laws.{AgreesOnSupport}
use Rattle.f2_salvage.specs.Laws.{SupportKeepsSalvage}
use Rattle.f2_bytes.proofs.PackReads.{cond_same}
use Rattle.f2_bytes.proofs.FrameTables.{layout-frame, orphans_same}
use Rattle.f2_bytes.proofs.FrameChain.{find_some}
use Rattle.f2_salvage.proofs.FrameRoll.{and_same, mapped_same, chain_length_same, chain_address-frame, chain_node-frame, counting_low, is_counting-frame, last-frame, found_place-frame, node_block-frame}
use Rattle.f2_salvage.proofs.FileSupport.{file_slot_support}

flat_map_filter_same : {X A : Type 0} (test : X → Bool) (f g : X → List A) (xs : List X) → ((x : X) → test x ≡ true → f x ≡ g x) → flat_map f (filter test xs) ≡ flat_map g (filter test xs)
flat_map_filter_same test f g [] same = refl
flat_map_filter_same test f g (x ∷ xs) same = go (test x) refl (flat_map_filter_same test f g xs same)
  where
    go : (b : Bool) → test x ≡ b → flat_map f (filter test xs) ≡ flat_map g (filter test xs) → flat_map f (filter test (x ∷ xs)) ≡ flat_map g (filter test (x ∷ xs))
    go true e rest = rw e (λ i. same x e i ++ rest i)
    go false e rest = rw e rest

module _ (image other : Image) (s : AgreesOnSupport image other) (copied : is_some (super_copy image) ≡ true) (checkpoint : has_checkpoint image ≡ true) where
  lay : layout other ≡ layout image
  lay = layout-frame image other s copied checkpoint

  len : chain_length other ≡ chain_length image
  len = chain_length_same image other s copied checkpoint

  counting : (n : ℕ) → is_counting other n ≡ is_counting image n
  counting n = is_counting-frame image other s copied checkpoint n

  found : (nid : ℕ) → found_place other nid ≡ found_place image nid
  found nid = found_place-frame image other s copied checkpoint nid

  node : (nid : ℕ) → node_block other nid ≡ node_block image nid
  node nid = node_block-frame image other s copied checkpoint nid

  counted_node : (n : ℕ) → is_counting image n ≡ true → chain_node other n ≡ chain_node image n
  counted_node n h = chain_node-frame image other s copied checkpoint n (counting_low image other s copied checkpoint n h)

  -- ---- files and their nodes

  orphan : (ino : ℕ) → is_orphan other ino ≡ is_orphan image ino
  orphan ino = λ i. list_any (λ x. x == ino) (orphans_same image other s copied checkpoint i)

  pub is_file-frame : (ino : ℕ) → is_file other ino ≡ is_file image ino
  unfolding is_file
  is_file-frame ino = λ i. option_map_or (λ b. (footer_ino b == ino) && (node_offset b == 0) && has_type b) (node ino i) false && not (orphan ino i)

  pub is_directory_file-frame : (ino : ℕ) → is_directory_file other ino ≡ is_directory_file image ino
  is_directory_file-frame ino = λ i. is_file-frame ino i && option_map_or is_directory (node ino i) false

  files-frame : files other ≡ files image
  files-frame = λ i. filter (λ ino. is_file-frame ino i) (numbers_below (nid_limit (lay i)))

  node_at : (ino offset nid : ℕ) → is_node_at other ino offset nid ≡ is_node_at image ino offset nid
  node_at ino offset nid = λ i. option_map_or (λ b. (footer_ino b == ino) && (node_offset b == offset)) (node nid i) false

  abbrev chain_test : Image → ℕ → ℕ → Block → ℕ → Bool
  chain_test x ino offset b address = option_map_or (λ at. at.address == address) (found_place x (footer_nid b)) false && is_node_at x ino offset (footer_nid b)

  chain_node_at : (ino offset n : ℕ) → is_chain_node_at other ino offset n ≡ is_chain_node_at image ino offset n
  chain_node_at ino offset n =
      let regrouped : (x : Image) → is_chain_node_at x ino offset n ≡ (is_counting x n && chain_test x ino offset (chain_node x n) (chain_address x n))
      = λ x. regroup (is_counting x n) (option_map_or (λ at. at.address == chain_address x n) (found_place x (footer_nid (chain_node x n))) false) (is_node_at x ino offset (footer_nid (chain_node x n))) in
      regrouped other
      ∙ ap (λ b. b && chain_test other ino offset (chain_node other n) (chain_address other n)) (counting n)
      ∙ and_same (is_counting image n) (λ counts.
      (λ i. chain_test other ino offset (counted_node n counts i) (chain_address-frame image other s copied checkpoint n (low n counts) i))
      ∙ (λ i. option_map_or (λ at. at.address == chain_address image n) (found (footer_nid (chain_node image n)) i) false && node_at ino offset (footer_nid (chain_node image n)) i))
      ∙ sym (regrouped image)
    where
      regroup : (a b c : Bool) → (a && b && c) ≡ (a && (b && c))
      regroup true b c = refl
      regroup false b c = refl

      low : (m : ℕ) → is_counting image m ≡ true → m ≤ chain_length image
      low m h = let below = counting_low image other s copied checkpoint m h in omega (arith, below)

  nid_at-frame : (ino offset : ℕ) → nid_at other ino offset ≡ nid_at image ino offset
  unfolding nid_at
  nid_at-frame ino offset =
      let last = last-frame image other s copied checkpoint (is_chain_node_at other ino offset) (is_chain_node_at image ino offset) (chain_node_at ino offset) in
      let by_chain : option_map (λ n. footer_nid (chain_node other n)) (last_in_chain other (is_chain_node_at other ino offset)) ≡ option_map (λ n. footer_nid (chain_node image n)) (last_in_chain image (is_chain_node_at image ino offset))
      = ap (option_map (λ n. footer_nid (chain_node other n))) last
      ∙ mapped_same (last_in_chain image (is_chain_node_at image ino offset)) (λ n e. ap footer_nid (counted_node n (last_counts n e))) in
      λ i. if offset == 0 then Some ino else option_or (by_chain i) (find (λ nid. node_at ino offset nid i) (numbers_below (nid_limit (lay i))))
    where
      last_counts : (n : ℕ) → last_in_chain image (is_chain_node_at image ino offset) ≡ Some n → is_counting image n ≡ true
      last_counts n e =
          let test = find_some (is_chain_node_at image ino offset) (reverse (numbers_below (chain_length image))) n e in
          (and_parts _ _ (and_parts _ _ test).0).0

  file_node-frame : (ino offset : ℕ) → file_node other ino offset ≡ file_node image ino offset
  file_node-frame ino offset = λ i. option_and_then (λ nid. node nid i) (nid_at-frame ino offset i)

  -- ---- blocks

  pub file_slot-frame : (ino k : ℕ) → file_slot other ino k ≡ file_slot image ino k
  unfolding file_slot
  file_slot-frame ino k = λ i. slot_of (λ o. file_node-frame ino o i) k

  node_address : (address : ℕ) → is_node_address other address ≡ is_node_address image address
  unfolding is_node_address
  node_address address = λ i. list_any (λ nid. option_map_or (λ at. at.address == address) (found nid i) false) (numbers_below (nid_limit (lay i)))

  places : slot_places other ≡ slot_places image
  unfolding slot_places
  places = λ i. flat_map (λ ino. map (λ k. (ino, k)) (numbers_below most_blocks)) (files-frame i)

  owner-frame : (address : ℕ) → owner other address ≡ owner image address
  unfolding owner
  owner-frame address = λ i. find (λ place. file_slot-frame place.0 place.1 i == address) (places i)

  node_address_at : (ino k : ℕ) → is_node_address other (file_slot other ino k) ≡ is_node_address image (file_slot image ino k)
  node_address_at ino k = ap (is_node_address other) (file_slot-frame ino k) ∙ node_address (file_slot image ino k)

  owner_at : (ino k : ℕ) → owner other (file_slot other ino k) ≡ owner image (file_slot image ino k)
  owner_at ino k = ap (owner other) (file_slot-frame ino k) ∙ owner-frame (file_slot image ino k)

  is_owned-frame : (ino k : ℕ) → is_owned other ino k ≡ is_owned image ino k
  unfolding is_owned
  is_owned-frame ino k = λ i. is_main (lay i) (file_slot-frame ino k i) && not (node_address_at ino k i) && option_map_or (λ place. (place.0 == ino) && (place.1 == k)) (owner_at ino k i) false

  owned_main : (ino k : ℕ) → is_owned image ino k ≡ true → is_main (layout image) (file_slot image ino k) ≡ true
  unfolding is_owned
  owned_main ino k h = (and_parts _ _ (and_parts _ _ h).0).0

  owned_block-frame : (ino k : ℕ) → is_file image ino ≡ true → owned_block other ino k ≡ owned_block image ino k
  owned_block-frame ino k file =
      let parts : owned_block other ino k ≡ cond (is_owned image ino k) (Some (block_at other (file_slot image ino k))) None
      = λ i. cond (is_owned-frame ino k i) (Some (block_at other (file_slot-frame ino k i))) None in
      parts ∙ cond_same (is_owned image ino k) (λ own. ap Some (s.blocks (file_slot image ino k) (file_slot_support image copied ino k file (owned_main ino k own)))) (λ none. refl)

  abbrev piece_by : ℕ → Option Block → Piece
  piece_by address o = if address == 2 ^ 32 - 1 then reserved else option_map_or stored o hole

  file_piece-frame : (ino k : ℕ) → is_file image ino ≡ true → file_piece other ino k ≡ file_piece image ino k
  file_piece-frame ino k file = λ i. piece_by (file_slot-frame ino k i) (owned_block-frame ino k file i)

  -- ---- names

  abbrev claim_of : Block → Option Claim
  claim_of b =
      if (footer_nid b == footer_ino b) && (node_offset b == 0) && has_dentry_mark b && is_legal_name (inode_name b)
      then Some (record { directory = pino b; name = inode_name b; target = footer_ino b })
      else None

  chain_claim-frame : (n : ℕ) → chain_claim other n ≡ chain_claim image n
  chain_claim-frame n =
      let apart : (x : Image) → chain_claim x n ≡ cond (is_counting x n) (claim_of (chain_node x n)) None
      = λ x. split (is_counting x n) (footer_nid (chain_node x n) == footer_ino (chain_node x n)) (node_offset (chain_node x n) == 0) (has_dentry_mark (chain_node x n)) (is_legal_name (inode_name (chain_node x n)))
      (Some (record { directory = pino (chain_node x n); name = inode_name (chain_node x n); target = footer_ino (chain_node x n) })) in
      apart other
      ∙ ap (λ b. cond b (claim_of (chain_node other n)) None) (counting n)
      ∙ cond_same (is_counting image n) (λ counts. ap claim_of (counted_node n counts)) (λ none. refl)
      ∙ sym (apart image)
    where
      split : (a b c d e : Bool) (x : Option Claim) → cond (a && b && c && d && e) x None ≡ cond a (cond (b && c && d && e) x None) None
      split true b c d e x = refl
      split false b c d e x = refl

  directory_is_file : (ino : ℕ) → is_directory_file image ino ≡ true → is_file image ino ≡ true
  directory_is_file ino d = (and_parts (is_file image ino) (option_map_or is_directory (node_block image ino) false) d).0

  file_items-frame : (ino : ℕ) → is_file image ino ≡ true → file_items other ino ≡ file_items image ino
  unfolding file_items
  file_items-frame ino file = λ i. option_map_or (λ inode. directory_items inode (λ k. owned_block-frame ino k file i)) (node ino i) []

  claims-frame : claims other ≡ claims image
  unfolding claims
  claims-frame =
      let listed : claims other ≡ (filter_map (chain_claim image) (numbers_below (chain_length image)) ++ flat_map (λ ino. filter_map (item_claim ino) (file_items other ino)) (filter (is_directory_file image) (numbers_below (nid_limit (layout image)))))
      = λ i. filter_map (λ n. chain_claim-frame n i) (numbers_below (len i)) ++ flat_map (λ ino. filter_map (item_claim ino) (file_items other ino)) (filter (λ n. is_directory_file-frame n i) (numbers_below (nid_limit (lay i)))) in
      listed
      ∙ ap (λ xs. filter_map (chain_claim image) (numbers_below (chain_length image)) ++ xs)
      (flat_map_filter_same (is_directory_file image) (λ ino. filter_map (item_claim ino) (file_items other ino)) (λ ino. filter_map (item_claim ino) (file_items image ino)) (numbers_below (nid_limit (layout image)))
      (λ ino d. ap (filter_map (item_claim ino)) (file_items-frame ino (directory_is_file ino d))))

  abbrev good_by : (ℕ → Bool) → (ℕ → Bool) → List Claim → Claim → Bool
  good_by directory file before c =
      not (is_dots c.name)
      && not (list_any (same_name c) before)
      && directory c.directory
      && file c.target
      && not (c.target == c.directory)
      && not (c.target == root)

  good-frame : good_claims other ≡ good_claims image
  unfolding good_claims
  good-frame = λ i. filter_after (good_by (λ n. is_directory_file-frame n i) (λ n. is_file-frame n i)) [] (claims-frame i)

  parent-frame : (ino : ℕ) → parent other ino ≡ parent image ino
  parent-frame ino = λ i. option_map (λ c. c.directory) (find (is_on ino) (good-frame i))

  ancestor-frame : (n ino : ℕ) → ancestor other n ino ≡ ancestor image n ino
  unfolding ancestor
  ancestor-frame zero ino = refl
  ancestor-frame (suc n) ino = λ i. option_and_then (λ up. parent-frame up i) (ancestor-frame n ino i)

  own_ancestor : (ino : ℕ) → is_own_ancestor other ino ≡ is_own_ancestor image ino
  unfolding is_own_ancestor
  own_ancestor ino = λ i. list_any (λ n. option_map_or (λ up. up == ino) (ancestor-frame (n + 1) ino i) false) (numbers_below (nid_limit (lay i)))

  abbrev kept_by : (ℕ → Bool) → (ℕ → Bool) → List Claim → Claim → Bool
  kept_by directory loops before c =
      if directory c.target
      then not (list_any (is_on c.target) before) && not (loops c.target)
      else nat_lt (count_by (is_on c.target) before) (2 ^ 32 - 1)

  pub kept-frame : kept_claims other ≡ kept_claims image
  unfolding kept_claims
  kept-frame = λ i. filter_after (kept_by (λ n. is_directory_file-frame n i) (λ n. own_ancestor n i)) [] (good-frame i)

  kept_target-frame : (ino : ℕ) (name : List ℕ) → kept_target other ino name ≡ kept_target image ino name
  kept_target-frame ino name = λ i. option_map (λ c. c.target) (find (λ c. (c.directory == ino) && bytes_eq c.name name) (kept-frame i))

  -- ---- lost files

  lost : (ino : ℕ) → is_lost other ino ≡ is_lost image ino
  unfolding is_lost
  lost ino = λ i. is_file-frame ino i && not (ino == root) && not (list_any (is_on ino) (kept-frame i))

  some_lost : has_lost other ≡ has_lost image
  some_lost = λ i. list_any (λ n. lost n i) (numbers_below (nid_limit (lay i)))

  tries-frame : tries other ≡ tries image
  tries-frame = λ i. length (kept-frame i) + 1

  directory_name : lost_directory_name other ≡ lost_directory_name image
  unfolding lost_directory_name
  directory_name = λ i. first_numbered (codes "lost+found") (tries-frame i) (λ name. option_map_or (λ n. is_directory_file-frame n i) (kept_target-frame root name i) true)

  free_nid : least_free_nid other ≡ least_free_nid image
  unfolding least_free_nid
  free_nid = λ i. 4 + unwrap_or (find (λ n. is_none (found (4 + n) i)) (numbers_below (nid_limit (lay i) + 1))) 0

  named_target : kept_target other root (lost_directory_name other) ≡ kept_target image root (lost_directory_name image)
  named_target = ap (kept_target other root) directory_name ∙ kept_target-frame root (lost_directory_name image)

  makes : makes_lost_directory other ≡ makes_lost_directory image
  makes = λ i. some_lost i && is_none (named_target i)

  place : lost_directory other ≡ lost_directory image
  place = λ i. unwrap_or (named_target i) (free_nid i)

  taken : (name : List ℕ) → kept_target other (lost_directory other) name ≡ kept_target image (lost_directory image) name
  taken name = ap (λ n. kept_target other n name) place ∙ kept_target-frame (lost_directory image) name

  lost_name-frame : (ino : ℕ) → lost_name other ino ≡ lost_name image ino
  unfolding lost_name
  lost_name-frame ino = λ i. first_numbered (decimal ino) (tries-frame i) (λ name. is_none (taken name i))

  lost_claim-frame : (ino : ℕ) → lost_claim other ino ≡ lost_claim image ino
  lost_claim-frame ino = λ i. record { directory = place i; name = lost_name-frame ino i; target = ino }

  made_claim-frame : made_claim other ≡ made_claim image
  made_claim-frame = λ i. record { directory = root; name = directory_name i; target = place i }

  -- ---- the salvage

  names-frame : names other ≡ names image
  unfolding names
  names-frame = λ i.
      kept-frame i
      ++ map (λ n. lost_claim-frame n i) (filter (λ n. lost n i) (numbers_below (nid_limit (lay i))))
      ++ (if makes i then made_claim-frame i ∷ [] else [])

  abbrev named_by : List Claim → ℕ → List ℕ → ℕ → Bool
  named_by all ino name target = list_any (λ c. (c.directory == ino) && bytes_eq c.name name && (c.target == target)) all

  object-frame : (ino : ℕ) (inode : Block) → is_file image ino ≡ true → file_object other ino inode ≡ file_object image ino inode
  object-frame ino inode file = λ i. object_of inode (λ k. file_piece-frame ino k file i) (file_node-frame ino attribute_offset i) (named_by (names-frame i) ino)

  tree_at : (ino : ℕ) → salvaged_tree other ino ≡ salvaged_tree image ino
  tree_at ino =
      let made : (if makes_lost_directory other && (ino == lost_directory other) then Some (new_directory 0x41C0 0 (file_names other ino)) else None)
      ≡ (if makes_lost_directory image && (ino == lost_directory image) then Some (new_directory 0x41C0 0 (file_names image ino)) else None)
      = λ i. if makes i && (ino == place i) then Some (new_directory 0x41C0 0 (named_by (names-frame i) ino)) else None in
      let parts : salvaged_tree other ino ≡ cond (is_file image ino) (option_map (file_object other ino) (node_block image ino)) (if makes_lost_directory image && (ino == lost_directory image) then Some (new_directory 0x41C0 0 (file_names image ino)) else None)
      = λ i. cond (is_file-frame ino i) (option_map (file_object other ino) (node ino i)) (made i) in
      parts ∙ cond_same (is_file image ino) (λ file. mapped_same (node_block image ino) (λ inode e. object-frame ino inode file)) (λ none. refl)

  salvage-frame : salvage other ≡ salvage image
  unfolding salvage
  salvage-frame = λ i. if is_directory_file-frame root i then Some (λ ino. tree_at ino i) else None

-- the law
pub support_keeps_salvage : SupportKeepsSalvage
support_keeps_salvage = salvage-frame
