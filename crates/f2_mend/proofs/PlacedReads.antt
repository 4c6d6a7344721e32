-- Files laid out in an image: the nodes that are read of it.
use Rattle.std.proofs.Common.{◌≡◌, inl, inr, ℕ, ◌<◌, ◌≤◌, Bool, true, false, not, ◌==◌, Option, Some, None, refl, sym, ap, ◌∙◌, arith}
use Rattle.std.specs.Option.{option_map_or}
use Rattle.std.proofs.lemmas.Bool.{eqb-true, eq-eqb, ne_eqb, cases_eq, false≢true}
use Rattle.f2_bytes.specs.Bytes.{Block, Image, block_at}
use Rattle.f2_bytes.specs.Superblock.{layout}
use Rattle.f2_bytes.specs.Journal.{NatEntry}
use Rattle.f2_bytes.specs.NodeAddressTable.{nid_limit, nat}
use Rattle.f2_bytes.specs.Node.{footer_ino, node_offset}
use Rattle.f2_bytes.specs.Tree.{main_block, read_node, is_inode}
use Rattle.f2_bytes.specs.Check.{inode_of, offset_of_node, none_value}
use Rattle.f2_bytes.proofs.CheckedNodes.{nat-below}
use Rattle.f2_bytes.specs.FilePlaces.{FilePlaces, has_node, node_at, inode_at, HoldsFiles}

-- a test that says the same as another
pub same_bool : (a b : Bool) → (a ≡ true → b ≡ true) → (b ≡ true → a ≡ true) → a ≡ b
same_bool true b up down = sym (up refl)
same_bool false true up down = down refl
same_bool false false up down = refl

pub not_zero : (n : ℕ) → not (n == 0) ≡ true → n ≡ 0 → ⊥
not_zero n some zero =
    let no : false ≡ true = rw (eq-eqb n 0 zero) at some in
    false≢true no

some_number : (n : ℕ) → 3 ≤ n → not (n == 0) ≡ true
some_number n low = ap not (ne_eqb n 0 (λ z. omega (arith, low, z)))

-- an entry of the table, as a node of a file
pub record IsEntry (p : FilePlaces) (nid : ℕ) (e : NatEntry) : Type 0 where
  pub offset : ℕ
  pub node : has_node p e.ino offset ≡ true
  pub number : p.nid e.ino offset ≡ nid
  pub address : e.address ≡ p.address nid

module _ (p : FilePlaces) (image : Image) (h : HoldsFiles p image) where
  -- ---- numbers of nodes

  pub no_nid : (ino offset : ℕ) → has_node p ino offset ≡ false → p.nid ino offset ≡ 0
  no_nid ino offset none = elim (cases_eq (p.nid ino offset) 0) [
    | inl zero ↦ zero
    | inr some ↦ absurd (false≢true (sym none ∙ ap not (ne_eqb (p.nid ino offset) 0 some)))
  ]

  pub some_nid : (ino offset : ℕ) → has_node p ino offset ≡ true → p.nid ino offset ≡ 0 → ⊥
  some_nid ino offset node = not_zero (p.nid ino offset) node

  -- a file has an inode
  pub file_node : (ino : ℕ) → p.has_file ino ≡ true → has_node p ino 0 ≡ true
  file_node ino file =
      let own = h.numbers ino file in
      ap (λ n. not (n == 0)) own.1 ∙ some_number ino own.0

  -- one number is one node
  pub nodes_apart : (ino offset other j : ℕ) → has_node p ino offset ≡ true → has_node p other j ≡ true → p.nid ino offset ≡ p.nid other j → (ino ≡ other) × (offset ≡ j)
  nodes_apart ino offset other j node second same = (
    sym (h.footer_inos ino offset node) ∙ ap (λ n. footer_ino (block_at image (p.address n))) same ∙ h.footer_inos other j second,
    sym (h.footer_offsets ino offset node) ∙ ap (λ n. node_offset (block_at image (p.address n))) same ∙ h.footer_offsets other j second,
  )

  -- ---- the table

  pub entry_of : (nid : ℕ) (e : NatEntry) → nat image nid ≡ Some e → IsEntry p nid e
  entry_of nid e is =
      let from = h.no_other_entry nid e is in
      let entry = h.entries from.0 from.1 from.2 in
      let one : Some entry.0 ≡ Some e = sym entry.1 ∙ ap (nat image) from.3 ∙ is in
      let same : entry.0 ≡ e = ap (λ o. elim o [ Some z ↦ z | None ↦ e ]) one in
      let own : e.ino ≡ from.0 = sym (ap (λ (x : NatEntry). x.ino) same) ∙ entry.2 in
      record {
        offset = from.1;
        node = ap (λ i. has_node p i from.1) own ∙ from.2;
        number = ap (λ i. p.nid i from.1) own ∙ from.3;
        address = sym (ap (λ (x : NatEntry). x.address) same) ∙ entry.3 ∙ ap p.address from.3;
      }

  pub inode_file : (ino : ℕ) → is_inode image ino ≡ true → p.has_file ino ≡ true
  unfolding is_inode
  inode_file ino inode = go (nat image ino) refl
    where
      go : (o : Option NatEntry) → nat image ino ≡ o → p.has_file ino ≡ true
      go None is =
          let no : false ≡ true = rw is at inode in
          absurd (false≢true no)
      go (Some e) is =
          let own : (e.ino == ino) ≡ true = rw is at inode in
          let entry = entry_of ino e is in
          ap p.has_file (sym (eqb-true e.ino ino own)) ∙ h.files e.ino entry.offset entry.node

  pub file_inode : (ino : ℕ) → p.has_file ino ≡ true → is_inode image ino ≡ true
  unfolding is_inode
  file_inode ino file =
      let entry = h.entries ino 0 (file_node ino file) in
      let is : nat image ino ≡ Some entry.0 = ap (nat image) (sym (h.numbers ino file).1) ∙ entry.1 in
      rw is (eq-eqb entry.0.ino ino entry.2)

  pub same_inode : (ino : ℕ) → is_inode image ino ≡ p.has_file ino
  same_inode ino = same_bool (is_inode image ino) (p.has_file ino) (inode_file ino) (file_inode ino)

  pub file_below : (ino : ℕ) → p.has_file ino ≡ true → ino < nid_limit (layout image)
  file_below ino file =
      let entry = h.entries ino 0 (file_node ino file) in
      nat-below image ino entry.0 (ap (nat image) (sym (h.numbers ino file).1) ∙ entry.1)

  pub node_below : (ino offset : ℕ) → has_node p ino offset ≡ true → p.nid ino offset < nid_limit (layout image)
  node_below ino offset node = let entry = h.entries ino offset node in nat-below image (p.nid ino offset) entry.0 entry.1

  -- ---- the nodes that are read

  pub read_placed : (ino offset : ℕ) → has_node p ino offset ≡ true → read_node image (p.nid ino offset) ≡ Some (node_at p image ino offset)
  unfolding read_node
  read_placed ino offset node =
      let entry = h.entries ino offset node in
      let found : read_node image (p.nid ino offset) ≡ main_block image entry.0.address = rw (entry.1) refl in
      let here : main_block image (p.address (p.nid ino offset)) ≡ Some (node_at p image ino offset) = rw (h.node_lands ino offset node) refl in
      found ∙ ap (main_block image) entry.3 ∙ here

  pub read_file : (ino : ℕ) → p.has_file ino ≡ true → read_node image ino ≡ Some (inode_at p image ino)
  read_file ino file = ap (read_node image) (sym (h.numbers ino file).1) ∙ read_placed ino 0 (file_node ino file)

  pub inode_of_file : (ino : ℕ) → p.has_file ino ≡ true → inode_of image ino ≡ Some (inode_at p image ino)
  inode_of_file ino file = rw (file_inode ino file) (read_file ino file)

  pub inode_of_none : (ino : ℕ) → p.has_file ino ≡ false → inode_of image ino ≡ None
  inode_of_none ino none = rw (same_inode ino ∙ none) refl

  -- what an inode that is read says
  pub inode_from : (ino : ℕ) (b : Block) → inode_of image ino ≡ Some b → (p.has_file ino ≡ true) × (b ≡ inode_at p image ino)
  inode_from ino b is = go (p.has_file ino) refl
    where
      go : (f : Bool) → p.has_file ino ≡ f → (p.has_file ino ≡ true) × (b ≡ inode_at p image ino)
      go false none = absurd (cc (sym (inode_of_none ino none) ∙ is))
      go true file =
          let one : Some b ≡ Some (inode_at p image ino) = sym is ∙ inode_of_file ino file in
          (file, ap (λ o. elim o [ Some z ↦ z | None ↦ b ]) one)

  pub placed_offset : (ino offset : ℕ) → has_node p ino offset ≡ true → offset_of_node image (p.nid ino offset) ino ≡ offset
  unfolding offset_of_node
  placed_offset ino offset node =
      let entry = h.entries ino offset node in
      let own : option_map_or (λ e. e.ino == ino) (nat image (p.nid ino offset)) false ≡ true = ap (λ o. option_map_or (λ e. e.ino == ino) o false) entry.1 ∙ eq-eqb entry.0.ino ino entry.2 in
      rw own (ap (λ o. option_map_or node_offset o none_value) (read_placed ino offset node) ∙ h.footer_offsets ino offset node)
