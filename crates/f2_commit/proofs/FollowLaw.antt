-- What followed moves, and then more moves, followed all of them.
use Rattle.std.proofs.Common.{◌≡◌, ◌⊎◌, inl, inr, ℕ, ◌-◌, ◌<◌, List, [], ◌++◌, Bool, true, false, ◌==◌, ◌||◌, cond, Option, Some, None, refl, sym, ap, ◌∙◌, subst}
use Rattle.std.specs.Prelude.{option_map, find, is_none, unwrap_or}
use Rattle.std.specs.Option.{option_map_or}
use Rattle.std.specs.List.{range_with_len}
use Rattle.f2_bytes.specs.Bytes.{Image, block_at}
use Rattle.f2_bytes.specs.Superblock.{layout}
use Rattle.f2_bytes.specs.Checkpoint.{head, next_free_nid}
use Rattle.f2_bytes.specs.Journal.{NatEntry}
use Rattle.f2_bytes.specs.NodeAddressTable.{nid_limit, nat}
use Rattle.f2_bytes.specs.Tree.{is_inode, tree_slot}
use Rattle.f2_bytes.specs.Check.{is_address, kind_at}
use Rattle.f2_bytes.specs.Moved.{moved_entry}
use Rattle.f2_commit.specs.FreeNids.{least_free_nid}
use Rattle.f2_commit.specs.Following.{Move, place_after, is_moved, IsFollowedNode, HasKind, HasFollowed}
use Rattle.f2_commit.specs.Laws.{MovesFollowEachOther}
use Rattle.f2_commit.proofs.FollowMoves.{place_after-append, is_moved-append}
use Rattle.f2_commit.proofs.FollowWords.{node_followed_twice}

-- what a table with other addresses says of inodes and of free numbers
module _ (to : ℕ → ℕ) (image new : Image) (table : (nid : ℕ) → nat new nid ≡ option_map (moved_entry to) (nat image nid)) where
  same_inodes : (nid : ℕ) → is_inode new nid ≡ is_inode image nid
  unfolding is_inode
  same_inodes nid = ap (λ o. option_map_or (λ e. e.ino == nid) o false) (table nid) ∙ go (nat image nid)
    where
      go : (o : Option NatEntry) → option_map_or (λ e. e.ino == nid) (option_map (moved_entry to) o) false ≡ option_map_or (λ e. e.ino == nid) o false
      go None = refl
      go (Some e) = refl

  same_none : (nid : ℕ) → is_none (nat new nid) ≡ is_none (nat image nid)
  same_none nid = ap is_none (table nid) ∙ go (nat image nid)
    where
      go : (o : Option NatEntry) → is_none (option_map (moved_entry to) o) ≡ is_none o
      go None = refl
      go (Some e) = refl

  pub same_least : layout new ≡ layout image → least_free_nid new ≡ least_free_nid image
  unfolding least_free_nid
  same_least areas = λ i. unwrap_or (find (λ nid. same_none nid i) (range_with_len 4 (nid_limit (areas i) - 4))) 4

-- the type of a segment after moves and more of them
kind_twice : (xs ys : List Move) (image between new : Image) (kind address : ℕ) → HasKind xs image between kind address → HasKind ys between new kind (place_after xs address) → HasKind (xs ++ ys) image new kind address
kind_twice xs ys image between new kind address first second =
    ap (kind_at new) (place_after-append xs ys address)
    ∙ second
    ∙ ap (λ k. cond (is_moved ys (place_after xs address)) kind k) first
    ∙ go (is_moved xs address) (is_moved ys (place_after xs address))
    ∙ sym (ap (λ b. cond b kind (kind_at image address)) (is_moved-append xs ys address))
  where
    go : (a b : Bool) → cond b kind (cond a kind (kind_at image address)) ≡ cond (a || b) kind (kind_at image address)
    go true true = refl
    go true false = refl
    go false b = refl

module _ (xs ys : List Move) (image between new : Image) (first : HasFollowed xs image between) (second : HasFollowed ys between new) where
  inode_between : (ino : ℕ) → is_inode image ino ≡ true → is_inode between ino ≡ true
  inode_between ino inode = same_inodes (place_after xs) image between first.table ino ∙ inode

  entry_between : (nid : ℕ) (e : NatEntry) → nat image nid ≡ Some e → nat between nid ≡ Some (moved_entry (place_after xs) e)
  entry_between nid e is = first.table nid ∙ ap (option_map (moved_entry (place_after xs))) is

  address_between : (ino k : ℕ) → is_inode image ino ≡ true → is_address (tree_slot image ino k) ≡ true → is_address (tree_slot between ino k) ≡ true
  address_between ino k inode named = first.holes ino k inode ∙ named

  table_twice : (nid : ℕ) → nat new nid ≡ option_map (moved_entry (place_after (xs ++ ys))) (nat image nid)
  table_twice nid = second.table nid ∙ ap (option_map (moved_entry (place_after ys))) (first.table nid) ∙ go (nat image nid)
    where
      go : (o : Option NatEntry) → option_map (moved_entry (place_after ys)) (option_map (moved_entry (place_after xs)) o) ≡ option_map (moved_entry (place_after (xs ++ ys))) o
      go None = refl
      go (Some e) = ap (λ a. Some (record { version = e.version; ino = e.ino; address = a })) (sym (place_after-append xs ys e.address))

  slots_twice : (ino k : ℕ) → is_inode image ino ≡ true → tree_slot new ino k ≡ place_after (xs ++ ys) (tree_slot image ino k)
  slots_twice ino k inode = second.slots ino k (inode_between ino inode) ∙ ap (place_after ys) (first.slots ino k inode) ∙ sym (place_after-append xs ys (tree_slot image ino k))

  next_twice : (next_free_nid (head new) ≡ least_free_nid new) ⊎ ((ys ≡ []) × (next_free_nid (head new) ≡ next_free_nid (head between)))
      → (next_free_nid (head between) ≡ least_free_nid between) ⊎ ((xs ≡ []) × (next_free_nid (head between) ≡ next_free_nid (head image)))
      → (next_free_nid (head new) ≡ least_free_nid new) ⊎ (((xs ++ ys) ≡ []) × (next_free_nid (head new) ≡ next_free_nid (head image)))
  next_twice (inl least) before = inl least
  next_twice (inr same) (inl least) = inl (same.1 ∙ least ∙ sym (same_least (place_after ys) between new second.table second.areas))
  next_twice (inr same) (inr before) = inr ((λ i. before.0 i ++ same.0 i), same.1 ∙ before.1)

  pub followed_twice : HasFollowed (xs ++ ys) image new
  followed_twice = record {
    areas = second.areas ∙ first.areas;
    table = table_twice;
    other_entries = λ nid low none.
        second.other_entries nid (subst (λ l. nid < nid_limit l) (sym first.areas) low) (first.table nid ∙ ap (option_map (moved_entry (place_after xs))) none)
        ∙ first.other_entries nid low none;
    nodes = λ nid e is.
        subst (λ a. IsFollowedNode (xs ++ ys) (block_at image e.address) (block_at new a)) (sym (place_after-append xs ys e.address))
        (node_followed_twice xs ys (block_at image e.address) (block_at between (place_after xs e.address)) (block_at new (place_after ys (place_after xs e.address))) (first.nodes nid e is)
        (second.nodes nid (moved_entry (place_after xs) e) (entry_between nid e is)));
    slots = slots_twice;
    holes = λ ino k inode. second.holes ino k (inode_between ino inode) ∙ first.holes ino k inode;
    files = λ ino k inode named. second.files ino k (inode_between ino inode) (address_between ino k inode named) ∙ first.files ino k inode named;
    data_kinds = λ ino k inode named.
        kind_twice xs ys image between new 1 (tree_slot image ino k) (first.data_kinds ino k inode named)
        (subst (HasKind ys between new 1) (first.slots ino k inode) (second.data_kinds ino k (inode_between ino inode) (address_between ino k inode named)));
    node_kinds = λ nid e is. kind_twice xs ys image between new 4 e.address (first.node_kinds nid e is) (second.node_kinds nid (moved_entry (place_after xs) e) (entry_between nid e is));
    next_free = next_twice second.next_free first.next_free;
  }

pub moves_follow_each_other : MovesFollowEachOther
moves_follow_each_other xs ys image between new first second = followed_twice xs ys image between new first second
