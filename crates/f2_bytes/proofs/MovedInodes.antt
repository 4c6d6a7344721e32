-- An inode after the move: all its fields but the extent, its inline area and its attributes stay.
use Rattle.std.proofs.Common.{◌≡◌, ℕ, ◌+◌, ◌-◌, ◌*◌, ◌/◌, ◌≤◌, [], ◌++◌, Bool, true, false, ◌==◌, ◌&&◌, ◌||◌, not, cond, Some, None, refl, sym, ap, ◌∙◌, arith}
use Rattle.std.specs.Prelude.{length}
use Rattle.std.proofs.lemmas.Bool.{and_right}
use Rattle.f2_bytes.specs.Bytes.{Block, bytes_at, has_bit}
use Rattle.f2_bytes.specs.Node.{node_offset, mode, inline_flags, is_regular, is_symlink, is_directory, is_device, is_inline, has_slots, has_inline_xattr, has_inline_dentry, address_count, inline_length, inline_area}
use Rattle.f2_bytes.specs.Object.{Piece, empty, inline, in_blocks, device, attributes_of, attribute_area_of, content_of}
use Rattle.f2_bytes.specs.Moved.{IsMovedNode}
use Rattle.f2_bytes.proofs.PackReads.{cond_same}
use Rattle.f2_bytes.proofs.SameBytes.{AgreeIn, narrow, number_same, bytes_same}
use Rattle.f2_bytes.proofs.MovedReads.{IsMovedInode}
use Rattle.f2_bytes.proofs.MovedWords.{address_count-most, front_agrees, rest_agrees, filled_agrees, node_offset-moved}

-- what mode and flags say
inline_by : ℕ → ℕ → Bool
inline_by m f = (((m / 4096 == 8) || (m / 4096 == 10)) && has_bit f 1) || ((m / 4096 == 4) && has_bit f 2)

slots_by : ℕ → ℕ → Bool
slots_by m f = ((m / 4096 == 8) || (m / 4096 == 10) || (m / 4096 == 4)) && not (inline_by m f)

count_by_flags : ℕ → ℕ
count_by_flags f = cond (has_bit f 0 || has_bit f 2) 873 923

-- a file whose content stands in the inode has no slots
pub inline_no_slots : (b : Block) → is_inline b ≡ true → has_slots b ≡ false
inline_no_slots b h = and_right (is_regular b || is_symlink b || is_directory b) (not (is_inline b)) (ap not h)

-- with attributes in the inode there are 873 slots
attribute_slots : (b : Block) → has_inline_xattr b ≡ true → address_count b ≡ 873
unfolding address_count
attribute_slots b h = ap (λ x. cond (x || has_inline_dentry b) 873 923) h

module _ (to : ℕ → ℕ) (b c : Block) (m : IsMovedNode to b c) (zero : node_offset b ≡ 0) where
  front : (i n : ℕ) → i + n ≤ 348 → AgreeIn i (i + n) b c
  front i n low = narrow b c 0 348 i (i + n) (front_agrees to b c m zero) (omega arith) low

  same_length : length c ≡ length b
  same_length = m.new.length ∙ sym m.old.length

  same_mode : mode c ≡ mode b
  same_mode = number_same b c 0 2 (front 0 2 (omega arith))

  same_flags : inline_flags c ≡ inline_flags b
  same_flags = number_same b c 3 1 (front 3 1 (omega arith))

  same_count : address_count c ≡ address_count b
  unfolding address_count count_by_flags
  same_count = ap count_by_flags same_flags

  same_slots : has_slots c ≡ has_slots b
  unfolding slots_by inline_by
  same_slots = λ i. slots_by (same_mode i) (same_flags i)

  same_inline : is_inline c ≡ is_inline b
  unfolding inline_by
  same_inline = λ i. inline_by (same_mode i) (same_flags i)

  same_area : is_inline b ≡ true → inline_area c ≡ inline_area b
  unfolding inline_area
  same_area h =
      let most = address_count-most b in
      ap (λ n. bytes_at c 364 (4 * (n - 1))) same_count
      ∙ bytes_same b c 364 (inline_length b) same_length (narrow b c 360 4096 364 (364 + inline_length b) (filled_agrees to b c m zero (inline_no_slots b h)) (omega arith) (omega (arith, most)))

  same_bytes : (i n : ℕ) → i + n ≤ 348 → bytes_at c i n ≡ bytes_at b i n
  same_bytes i n low = bytes_same b c i n same_length (front i n low)

  same_attributes : attributes_of c ≡ attributes_of b
  unfolding attributes_of
  same_attributes = λ i.
      same_bytes 0 3 (omega arith) i ++ same_bytes 4 8 (omega arith) i ++ same_bytes 32 40 (omega arith) i ++ same_bytes 80 4 (omega arith) i
      ++ cond (same_mode i / 4096 == 4) [] (same_bytes 16 8 (omega arith) i)

  same_attribute_area : attribute_area_of c ≡ attribute_area_of b
  unfolding attribute_area_of
  same_attribute_area =
      (λ i. cond (has_bit (same_flags i) 0) (Some (bytes_at c 3852 200)) None)
      ∙ cond_same (has_inline_xattr b)
      (λ h.
      let count = attribute_slots b h in
      ap Some (bytes_same b c 3852 200 same_length (narrow b c (4 * (90 + address_count b)) 4096 3852 4052 (rest_agrees to b c m zero) (omega (arith, count)) (omega arith))))
      (λ none. refl)

  pub inode_moved : IsMovedInode to b c
  inode_moved = record {
    node = m;
    at_zero = zero;
    same_offset = node_offset-moved to b c m;
    same_mode = same_mode;
    same_flags = same_flags;
    same_links = number_same b c 12 4 (front 12 4 (omega arith));
    same_size = number_same b c 16 8 (front 16 8 (omega arith));
    same_blocks = number_same b c 24 8 (front 24 8 (omega arith));
    same_depth = number_same b c 72 4 (front 72 4 (omega arith));
    same_xattr = number_same b c 76 4 (front 76 4 (omega arith));
    same_level = number_same b c 347 1 (front 347 1 (omega arith));
    same_slots = same_slots;
    same_inline = same_inline;
    same_count = same_count;
    same_area = same_area;
    same_attributes = same_attributes;
    same_attribute_area = same_attribute_area;
  }

  same_device : has_slots b ≡ false → bytes_at c 360 8 ≡ bytes_at b 360 8
  same_device none = bytes_same b c 360 8 same_length (narrow b c 360 4096 360 368 (filled_agrees to b c m zero none) (omega arith) (omega arith))

  -- the content, where the pieces are the same
  pub content_moved : (pieces other : ℕ → Piece) → other ≡ pieces → content_of c other ≡ content_of b pieces
  unfolding content_of
  content_moved pieces other same =
      let fields : content_of c other ≡ cond (is_directory b) empty (cond (is_inline b) (inline (inline_area c)) (cond (has_slots b) (in_blocks pieces) (cond (is_device b) (device (bytes_at c 360 8)) empty)))
      = λ i. cond (same_mode i / 4096 == 4) empty (cond (same_inline i) (inline (inline_area c)) (cond (same_slots i) (in_blocks (same i)) (cond ((same_mode i / 4096 == 2) || (same_mode i / 4096 == 6)) (device (bytes_at c 360 8)) empty))) in
      fields
      ∙ cond_same (is_directory b) (λ d. refl) (λ d.
      cond_same (is_inline b) (λ h. ap inline (same_area h)) (λ h.
      cond_same (has_slots b) (λ s. refl) (λ s. ap (λ n. cond (is_device b) (device n) empty) (same_device s))))
