-- Which nodes are inodes.
use Rattle.std.proofs.Common.{◌≡◌, ℕ, ◌≤◌, Bool, true, false, cond, Option, Some, None, refl, ap}
use Rattle.std.specs.Prelude.{◌&&◌, ◌==◌, not, nat_le, nat_lt, option_and_then}
use Rattle.std.specs.Option.{option_map_or}
use Rattle.std.proofs.lemmas.Bool.{le-ltb, eq-eqb, ne_eqb}
use Rattle.f2_bytes.specs.Bytes.{Block, Image}
use Rattle.f2_bytes.specs.Journal.{NatEntry}
use Rattle.f2_bytes.specs.NodeAddressTable.{nid_limit, first_nid, is_live, nat, image_nat_entry}
use Rattle.f2_bytes.specs.Superblock.{layout}
use Rattle.f2_bytes.specs.Tree.{is_inode, main_block, read_node}
use Rattle.f2_dump.specs.Files.{inode_of}

-- the entry, if it is that of a node
abbrev shown : Bool → NatEntry → Option NatEntry
shown live e = cond live (Some e) None

abbrev owns : ℕ → Option NatEntry → Bool
owns nid entry = option_map_or (λ e. e.ino == nid) entry false

not_own : (nid : ℕ) (e : NatEntry) (live : Bool) → (e.ino == nid) ≡ false → owns nid (shown live e) ≡ false
not_own nid e true other = other
not_own nid e false other = refl

as_any : (read : NatEntry → Option Block) (nid : ℕ) (e : NatEntry) (live : Bool) → (e.ino == nid) ≡ true
    → cond (owns nid (shown live e)) (option_and_then read (shown live e)) None ≡ option_and_then read (shown live e)
as_any read nid e true own = ap (λ (b : Bool). cond b (read e) None) own
as_any read nid e false own = refl

past : (a b c : Bool) → b ≡ false → (a && b && c) ≡ false
past true true c is = cc
past true false c is = refl
past false b c is = refl

-- there is none past the table, and none where the entry names another inode; else it is read as any node is
pub no_inode_past : (image : Image) (ino : ℕ) → nid_limit (layout image) ≤ ino → inode_of image ino ≡ None
unfolding inode_of is_inode nat
no_inode_past image ino le =
    let e = image_nat_entry image ino in
    let dead = past (nat_le first_nid ino) (nat_lt ino (nid_limit (layout image))) (not (e.address == 0)) (le-ltb ino (nid_limit (layout image)) le) in
    ap (λ (b : Bool). cond (owns ino (shown b e)) (read_node image ino) None) dead

pub no_inode : (image : Image) (ino : ℕ) → ((image_nat_entry image ino).ino ≡ ino → ⊥) → inode_of image ino ≡ None
unfolding inode_of is_inode nat
no_inode image ino other =
    let e = image_nat_entry image ino in
    ap (λ (b : Bool). cond b (read_node image ino) None) (not_own ino e (is_live (layout image) ino e) (ne_eqb e.ino ino other))

pub inode_as_node : (image : Image) (ino : ℕ) → (image_nat_entry image ino).ino ≡ ino → inode_of image ino ≡ read_node image ino
unfolding inode_of is_inode nat read_node
inode_as_node image ino own =
    let e = image_nat_entry image ino in
    as_any (λ e. main_block image e.address) ino e (is_live (layout image) ino e) (eq-eqb e.ino ino own)
