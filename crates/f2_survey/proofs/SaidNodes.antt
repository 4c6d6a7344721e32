-- What a node says of itself is what the image says of it.
use Rattle.std.proofs.Common.{◌≡◌, ◌≢◌, ℕ, false, Option, Some, None, sym, ap, ◌∙◌}
use Rattle.std.specs.Prelude.{◌==◌, option_map, option_and_then}
use Rattle.std.specs.Option.{option_map_or}
use Rattle.std.proofs.lemmas.Bool.{cond-true, cond-false, eq-eqb, ne_eqb}
use Rattle.f2_bytes.specs.Bytes.{Block, Image}
use Rattle.f2_bytes.specs.Journal.{NatEntry}
use Rattle.f2_bytes.specs.NodeAddressTable.{nat}
use Rattle.f2_bytes.specs.Tree.{main_block, read_node, is_inode}
use Rattle.f2_survey.specs.Said.{said_by, said_at, inode_said}
use Rattle.f2_survey.proofs.KnownNodes.{none_read, no_inode}

module _ (image : Image) (nid : ℕ) where
  -- no node says nothing
  pub none_said : None ≡ nat image nid → None ≡ said_at image nid
  none_said none = ap (option_map said_by) (none_read image nid none)

  pub no_inode_said : None ≡ nat image nid → None ≡ inode_said image nid
  no_inode_said none = ap (option_map said_by) (no_inode image nid none)

  module _ (e : NatEntry) (entry : Some e ≡ nat image nid) where
    -- what stands at the address of an entry says this
    pub said_there : (o : Option Block) → main_block image e.address ≡ o → option_map said_by o ≡ said_at image nid
    unfolding read_node
    said_there o there =
        ap (option_map said_by) (sym there)
        ∙ ap (λ n. option_map said_by (option_and_then (λ (x : NatEntry). main_block image x.address) n)) entry

    own : is_inode image nid ≡ (e.ino == nid)
    unfolding is_inode
    own = sym (ap (λ o. option_map_or (λ (x : NatEntry). x.ino == nid) o false) entry)

    pub said_inode : e.ino ≡ nid → said_at image nid ≡ inode_said image nid
    said_inode is = ap (option_map said_by) (sym (cond-true (is_inode image nid) (read_node image nid) None (own ∙ eq-eqb e.ino nid is)))

    pub said_other : e.ino ≢ nid → None ≡ inode_said image nid
    said_other other = ap (option_map said_by) (sym (cond-false (is_inode image nid) (read_node image nid) None (own ∙ ne_eqb e.ino nid other)))
