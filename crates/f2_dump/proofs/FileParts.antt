-- The parts of a file, block by block.
use Rattle.std.proofs.Common.{◌≡◌, inl, inr, ℕ, zero, suc, ◌+◌, ◌-◌, ◌*◌, ◌^◌, ◌<◌, ◌≤◌, min, Bool, true, false, cond, List, ◌++◌, length, take, drop, Option, Some, None, refl, sym, ap, ◌∙◌, arith}
use Rattle.std.specs.Prelude.{flat_map, nat_le, nat_lt, slice_range, unwrap_or, replicate, ◌||◌, ⊤}
use Rattle.std.specs.List.{range_with_len}
use Rattle.std.proofs.lemmas.Bool.{and_parts, cases_lt, cond_both, ltb-true}
use Rattle.std.proofs.lemmas.List.{append-nil, length-replicate, take-append-le, take_all}
use Rattle.std.proofs.Math.Seq.{take-append-add, take-nil}
use Rattle.f2_bytes.specs.Bytes.{Block, Image, block_at, numbers_below}
use Rattle.f2_bytes.specs.Node.{address_count, has_inline_dentry, has_inline_xattr, inline_area, inline_length, locate, slot_in, word_at_spot, word_in}
use Rattle.f2_bytes.specs.Superblock.{IsInOrder, is_main, layout}
use Rattle.f2_bytes.specs.Tree.{is_inode, main_block, node_within, read_node, tree_node, tree_slot}
use Rattle.f2_disk.specs.Disk.{IsImage}
use Rattle.f2_dump.specs.declared.walking.File.{File}
use Rattle.f2_dump.specs.declared.walking.Reached.{Reached}
use Rattle.f2_dump.specs.Files.{inode_of, piece, pieces, zero_bytes}
use Rattle.f2_dump.specs.Text.{lines_below}
use Rattle.f2_dump.specs.Walk.{IsFileOf, IsReached, part}
use Rattle.f2_dump.proofs.Sending.{take_twice}

-- the slot where a block has its address lies in its node
abbrev pub SlotFits : Option (ℕ × ℕ) → Type 0
SlotFits None = ⊤
SlotFits (Some spot) = (spot.0 ≡ 0 → spot.1 < 923) × (spot.1 < 1018)

pub slot_fits : (k n : ℕ) → n ≤ 923 → SlotFits (locate k n)
unfolding locate
slot_fits k n few =
    cond_both (nat_lt k n) _ _ SlotFits (λ e. let below = ltb-true k n e in (λ _. omega arith, omega arith)) λ _.
    cond_both (nat_lt k (n + 1018)) _ _ SlotFits (λ e. let below = ltb-true k (n + 1018) e in (λ none. absurd (omega arith), omega arith)) λ _.
    cond_both (nat_lt k (n + 2 * 1018)) _ _ SlotFits (λ e. let below = ltb-true k (n + 2 * 1018) e in (λ none. absurd (omega arith), omega arith)) λ _.
    cond_both (nat_lt (k - n - 2 * 1018) (1018 ^ 2)) _ _ SlotFits (λ _. (λ none. absurd (omega arith), omega arith)) λ _.
    cond_both (nat_lt (k - n - 2 * 1018 - 1018 ^ 2) (1018 ^ 2)) _ _ SlotFits (λ _. (λ none. absurd (omega arith), omega arith)) λ _.
    cond_both (nat_lt (k - n - 2 * 1018 - 2 * 1018 ^ 2) (1018 ^ 3)) _ _ SlotFits (λ _. (λ none. absurd (omega arith), omega arith)) λ _. tt

-- the inode is its file's node at offset 0
some_taken : {A : Type 0} (t : Bool) (o : Option A) (x : A) → cond t o None ≡ Some x → o ≡ Some x
some_taken true o x is = is
some_taken false o x is = cc

inode_read : (image : Image) (ino : ℕ) (b : Block) → inode_of image ino ≡ Some b → read_node image ino ≡ Some b
unfolding inode_of
inode_read image ino b is = some_taken (is_inode image ino) (read_node image ino) b is

pub inode_first : (image : Image) (ino : ℕ) (b : Block) → inode_of image ino ≡ Some b → tree_node image ino 0 ≡ Some b
unfolding node_within
inode_first image ino b is = inode_read image ino b is

-- the address of a block stands where its number says
slot_is : (image : Image) (f : File) (k : ℕ) → IsFileOf image f → tree_slot image f.ino k ≡ word_at_spot (tree_node image f.ino) (locate k f.addresses)
unfolding tree_slot
slot_is image f k of =
    let nodes = tree_node image f.ino in
    ap (λ (o : Option Block). slot_in nodes o k) of.there
    ∙ ap (λ (b : Bool). cond b (word_at_spot nodes (locate k (address_count of.inode))) 0) of.slots
    ∙ ap (λ (n : ℕ). word_at_spot nodes (locate k n)) of.addresses

pub slot_none : (image : Image) (f : File) (k : ℕ) → IsFileOf image f → None ≡ locate k f.addresses → 0 ≡ tree_slot image f.ino k
slot_none image f k of is = ap (word_at_spot (tree_node image f.ino)) is ∙ sym (slot_is image f k of)

pub slot_found : (image : Image) (f : File) (k o s w : ℕ) (at : Reached) → IsFileOf image f → Some (o, s) ≡ locate k f.addresses → IsReached image f.ino at → at.offset ≡ o
    → w ≡ word_in (at.offset, s) (cond at.found (Some at.node) None) → w ≡ tree_slot image f.ino k
slot_found image f k o s w at of is reached there read =
    let nodes = tree_node image f.ino in
    read ∙ ap (word_in (at.offset, s)) (sym reached.node) ∙ ap (λ (n : ℕ). word_in (n, s) (nodes n)) there ∙ ap (word_at_spot nodes) is ∙ sym (slot_is image f k of)

-- what is appended of a block
piece_is : (there : Bool) (b hole : Block) → cond there b hole ≡ unwrap_or (cond there (Some b) None) hole
piece_is true b hole = refl
piece_is false b hole = refl

pub part_is : (image : Image) (ino size k address count : ℕ) (there : Bool) (b hole : Block) → address ≡ tree_slot image ino k → main_block image address ≡ cond there (Some b) None
    → hole ≡ zero_bytes → count ≡ size - 4096 * k → take count (cond there b hole) ≡ part image ino size k
part_is image ino size k address count there b hole at read zeros same =
    ap (take count) (piece_is there b hole
    ∙ ap (λ (o : Option Block). unwrap_or o hole) (sym read)
    ∙ ap (λ (h : Block). unwrap_or (main_block image address) h) zeros
    ∙ ap (piece image) at)
    ∙ ap (λ (n : ℕ). take n (piece image (tree_slot image ino k))) same

pub zeros_are : (b : Block) → b ≡ replicate 4096 0 → b ≡ zero_bytes
unfolding zero_bytes
zeros_are b is = is

-- each piece has the bytes of a block
zeros_length : length zero_bytes ≡ 4096
unfolding zero_bytes
zeros_length = length-replicate {A = ℕ} 4096 0

pub piece_length : (image : Image) (size address : ℕ) → IsImage size image → IsInOrder (layout image) → (layout image).blocks ≤ size → length (piece image address) ≡ 4096
piece_length image size address whole order lies =
    let l = layout image in
    cond_both (is_main l address) (Some (block_at image address)) None (λ (o : Option Block). length (unwrap_or o zero_bytes) ≡ 4096)
    (λ e.
    let below = ltb-true address (l.main + 512 * l.segments) (and_parts (nat_le l.main address) (nat_lt address (l.main + 512 * l.segments)) e).1 in
    (whole.each address (omega (arith, below, order.inside, lies))).length)
    (λ _. zeros_length)

-- a text that is cut is its pieces, each cut
take_over : (s : ℕ) (x y : List ℕ) → take s (x ++ y) ≡ take s x ++ take (s - length x) y
take_over s x y = elim (cases_lt s (length x)) [
  | inl below ↦
      let none : zero ≡ s - length x = omega (arith, below) in
      take-append-le s x y (omega (arith, below)) ∙ sym (append-nil (take s x)) ∙ ap (λ (n : ℕ). take s x ++ take n y) none
  | inr past ↦
      let split : s ≡ length x + (s - length x) = omega (arith, past) in
      ap (λ (n : ℕ). take n (x ++ y)) split ∙ take-append-add x y (s - length x) ∙ ap (λ (l : List ℕ). l ++ take (s - length x) y) (sym (take_all s x past))
]

cut_from : (p : ℕ → List ℕ) (size a n : ℕ) → ((k : ℕ) → length (p k) ≡ 4096)
    → take (size - 4096 * a) (flat_map p (range_with_len a n)) ≡ flat_map (λ k. take (size - 4096 * k) (p k)) (range_with_len a n)
cut_from p size a zero full = take-nil (size - 4096 * a)
cut_from p size a (suc n) full =
    let rest = flat_map p (range_with_len (a + 1) n) in
    let left : size - 4096 * a - length (p a) ≡ size - 4096 * (a + 1) = omega (arith, full a) in
    take_over (size - 4096 * a) (p a) rest
    ∙ ap (λ (m : ℕ). take (size - 4096 * a) (p a) ++ take m rest) left
    ∙ ap (λ (l : List ℕ). take (size - 4096 * a) (p a) ++ l) (cut_from p size (a + 1) n full)

cut_all : (p : ℕ → List ℕ) (size n : ℕ) → ((k : ℕ) → length (p k) ≡ 4096) → lines_below (λ k. take (size - 4096 * k) (p k)) n ≡ take size (lines_below p n)
unfolding numbers_below
cut_all p size n full = let whole : size - 4096 * 0 ≡ size = omega arith in sym (cut_from p size 0 n full) ∙ ap (λ (m : ℕ). take m (flat_map p (range_with_len 0 n))) whole

pub parts_all : (image : Image) (ino size count : ℕ) → ((address : ℕ) → length (piece image address) ≡ 4096) → lines_below (part image ino size) count ≡ take size (pieces image ino count)
unfolding pieces
parts_all image ino size count full = cut_all (λ k. piece image (tree_slot image ino k)) size count (λ k. full (tree_slot image ino k))

-- the bytes that stand in an inode
pub inline_fits : (b : Block) → 364 + inline_length b ≤ 4096
unfolding address_count
inline_fits b = cond_both (has_inline_xattr b || has_inline_dentry b) 873 923 (λ (n : ℕ). 364 + 4 * (n - 1) ≤ 4096) (λ _. omega arith) (λ _. omega arith)

cut_range : (b : Block) (s start room : ℕ) → take (start + min s room - start) (drop start b) ≡ take s (take (start + room - start) (drop start b))
cut_range b s start room =
    let one : start + min s room - start ≡ min s room = omega arith in
    let two : room ≡ start + room - start = omega arith in
    ap (λ (n : ℕ). take n (drop start b)) one ∙ sym (take_twice s room (drop start b)) ∙ ap (λ (n : ℕ). take s (take n (drop start b))) two

pub inline_cut : (b : Block) (s start room count : ℕ) → start ≡ 364 → room ≡ inline_length b → count ≡ min s room → slice_range b start (start + count) ≡ take s (inline_area b)
unfolding inline_area
inline_cut b s start room count from is least =
    ap (λ (n : ℕ). slice_range b start (start + n)) least
    ∙ cut_range b s start room
    ∙ ap (λ (a : ℕ). take s (slice_range b a (a + room))) from
    ∙ ap (λ (n : ℕ). take s (slice_range b 364 (364 + n))) is
