-- An image has followed no move of itself.
use Rattle.std.proofs.Common.{◌≡◌, ℕ, ◌+◌, ◌<◌, inr, [], Bool, true, false, ◌==◌, ◌&&◌, nat_le, nat_lt, cond, length, Option, Some, None, refl, sym}
use Rattle.std.specs.Prelude.{option_map}
use Rattle.f2_bytes.specs.Bytes.{Block, Image, IsBlock, block_at, word}
use Rattle.f2_bytes.specs.Journal.{NatEntry}
use Rattle.f2_bytes.specs.NodeAddressTable.{nat}
use Rattle.f2_bytes.specs.Node.{node_offset, has_slots, is_direct, is_regular, address_count}
use Rattle.f2_bytes.specs.Check.{is_checked}
use Rattle.f2_bytes.specs.Moved.{moved_entry}
use Rattle.f2_bytes.proofs.CheckedUsed.{entry_in_main}
use Rattle.f2_commit.specs.Following.{place_after, is_moved, leaves_extent, followed_word, IsFollowedNode, HasFollowed}
use Rattle.f2_commit.proofs.MoveLayout.{main_inside}

same_word : (a b c d r : Bool) (w : ℕ) → cond a (cond b w (cond (c && (r && false)) 0 w)) (cond d w w) ≡ w
same_word true true c d r w = refl
same_word true false true d true w = refl
same_word true false true d false w = refl
same_word true false false d r w = refl
same_word false b c true r w = refl
same_word false b c false r w = refl

word_same : (b : Block) (j : ℕ) → followed_word [] b j ≡ word b j
unfolding followed_word leaves_extent place_after
word_same b j = same_word (node_offset b == 0) (has_slots b && nat_le 90 j && nat_lt j (90 + address_count b)) (nat_le 87 j && nat_lt j 90) (is_direct (node_offset b) && nat_lt j 1018) (is_regular b) (word b j)

node_same : (b : Block) → IsBlock b → IsFollowedNode [] b b
node_same b is = record { block = is; new_block = is; words = λ j low. sym (word_same b j) }

entry_same : (o : Option NatEntry) → o ≡ option_map (moved_entry (place_after [])) o
unfolding place_after
entry_same None = refl
entry_same (Some e) = refl

pub nothing_followed : (image : Image) → is_checked image ≡ true → ((n : ℕ) → n < length image → IsBlock (block_at image n)) → HasFollowed [] image image
unfolding place_after is_moved
nothing_followed image h bytes = record {
  areas = refl;
  table = λ nid. entry_same (nat image nid);
  other_entries = λ nid low none. refl;
  nodes = λ nid e is. node_same (block_at image e.address) (bytes e.address (main_inside image h e.address (entry_in_main image h nid e is)));
  slots = λ ino k inode. refl;
  holes = λ ino k inode. refl;
  files = λ ino k inode named. refl;
  data_kinds = λ ino k inode named. refl;
  node_kinds = λ nid e is. refl;
  next_free = inr (refl, refl);
}
