-- The nid slots of a file, band by band: the five of its inode, and the words of the nodes that they lead to.
use Rattle.std.proofs.Common.{◌≡◌, ◌≢◌, ℕ, suc, ◌+◌, ◌-◌, ◌*◌, ◌/◌, ◌%◌, ◌<◌, true, false, cond, Option, Some, None, refl, sym, ap, ◌∙◌, arith}
use Rattle.std.specs.Prelude.{◌==◌}
use Rattle.std.specs.Option.{option_and_then, option_map_or}
use Rattle.std.proofs.lemmas.Bool.{ne_eqb, lt-ltb, le-ltb, lt-leb, le-leb, cond-true, cond-false}
use Rattle.f2_bytes.specs.Bytes.{Block, Image, word}
use Rattle.f2_bytes.specs.Node.{has_slots, inode_nid, parent_of, offset_limit}
use Rattle.f2_bytes.specs.Tree.{read_node, node_within, nid_in}
use Rattle.f2_bytes.specs.Tree.{node_above, has_nid_slots, nid_slot}
use Rattle.f2_view.proofs.TreeReads.{at_inode, one_step}

-- ---- the nodes above, band by band

same_above : (a b c d : ℕ) → a ≡ c → b ≡ d → ◌≡◌ {A = Option (ℕ × ℕ)} (Some (a, b)) (Some (c, d))
same_above a b c d p q = λ i. Some (p i, q i)

parent-0 : parent_of 0 ≡ None
unfolding parent_of
parent-0 = refl

pub parent-inode : (o j : ℕ) → o ≡ 1 + j → j < 3 → parent_of o ≡ Some (0, j)
unfolding parent_of
parent-inode o j e low =
    rw (ne_eqb o 0 (λ h. omega (arith, h, e)), le-leb o 3 (omega (arith, e, low))) (same_above 0 (o - 1) 0 j refl (omega (arith, e)))

pub parent-1022 : parent_of 1022 ≡ Some (0, 3)
unfolding parent_of
parent-1022 = refl

pub parent-2041 : parent_of 2041 ≡ Some (0, 4)
unfolding parent_of
parent-2041 = refl

parent-first : (j : ℕ) → j < 1018 → parent_of (4 + j) ≡ Some (3, j)
unfolding parent_of
parent-first j low =
    rw (ne_eqb (4 + j) 0 (λ h. omega (arith, h)), lt-leb (4 + j) 3 (omega arith), lt-ltb (4 + j) 1022 (omega (arith, low))) (same_above 3 (4 + j - 4) 3 j refl (omega arith))

parent-second : (j : ℕ) → j < 1018 → parent_of (1023 + j) ≡ Some (1022, j)
unfolding parent_of
parent-second j low =
    let o = 1023 + j in
    rw (ne_eqb (1023 + j) 0 (λ h. omega (arith, h)), lt-leb (1023 + j) 3 (omega arith), le-ltb (1023 + j) 1022 (omega arith), ne_eqb (1023 + j) 1022 (λ h. omega (arith, h)), lt-ltb (1023 + j) 2041 (omega (arith, low)))
    (same_above 1022 (1023 + j - 1023) 1022 j refl (omega arith))

parent-far : (o a c : ℕ) → o ≡ 2042 + 1019 * a + c → c < 1019 → a < 1018
    → parent_of o ≡ cond (c == 0) (Some (2041, a)) (Some (2042 + 1019 * a, c - 1))
unfolding parent_of offset_limit
parent-far o a c e low few =
    let d : (o - 2042) / 1019 ≡ a = omega (arith, e, low) in
    let m : (o - 2042) % 1019 ≡ c = omega (arith, e, low) in
    rw (ne_eqb o 0 (λ h. omega (arith, h, e)), lt-leb o 3 (omega (arith, e)), le-ltb o 1022 (omega (arith, e)), ne_eqb o 1022 (λ h. omega (arith, h, e)), le-ltb o 2041 (omega (arith, e)), ne_eqb o 2041 (λ h. omega (arith, h, e)), lt-ltb o 1039384 (omega (arith, e, low, few)), d, m)
    refl

parent-third : (a : ℕ) → a < 1018 → parent_of (2042 + 1019 * a + 0) ≡ Some (2041, a)
parent-third a few = parent-far (2042 + 1019 * a + 0) a 0 refl (omega arith) few

parent-deep : (a j : ℕ) → a < 1018 → j < 1018 → parent_of (2042 + 1019 * a + (1 + j)) ≡ Some (2042 + 1019 * a, j)
parent-deep a j few low =
    parent-far (2042 + 1019 * a + (1 + j)) a (1 + j) refl (omega (arith, low)) few
    ∙ rw (ne_eqb (1 + j) 0 (λ h. omega (arith, h))) (same_above (2042 + 1019 * a) (1 + j - 1) (2042 + 1019 * a) j refl (omega arith))

-- ---- nid slots

-- a file without nid slots
pub no_slots : (image : Image) (ino o : ℕ) → has_nid_slots image ino ≡ false → nid_slot image ino o ≡ 0
unfolding nid_slot
no_slots image ino o none = cond-false (has_nid_slots image ino) (option_map_or (λ spot. option_map_or (nid_in spot) (node_above image ino spot.0) 0) (parent_of o) 0) 0 none

module _ (image : Image) (ino : ℕ) (inode : Block) (is : read_node image ino ≡ Some inode) (slots : has_slots inode ≡ true) where
  has : has_nid_slots image ino ≡ true
  has = ap (λ o. option_map_or has_slots o false) is ∙ slots

  -- the slot in a place of the node above
  in_place : (o : ℕ) (spot : Option (ℕ × ℕ)) → parent_of o ≡ spot → nid_slot image ino o ≡ option_map_or (λ s. option_map_or (nid_in s) (node_above image ino s.0) 0) spot 0
  unfolding nid_slot
  in_place o spot parent =
      cond-true (has_nid_slots image ino) (option_map_or (λ s. option_map_or (nid_in s) (node_above image ino s.0) 0) (parent_of o) 0) 0 has
      ∙ ap (λ t. option_map_or (λ s. option_map_or (nid_in s) (node_above image ino s.0) 0) t 0) parent

  at_top : (n : ℕ) → node_within n image ino 0 ≡ Some inode
  at_top n = at_inode image ino n 0 refl ∙ is

  -- the node that one of the five nids leads to
  under_inode : (n o j : ℕ) → o ≢ 0 → parent_of o ≡ Some (0, j) → node_within (suc n) image ino o ≡ read_node image (inode_nid inode j)
  under_inode n o j other parent =
      one_step image ino (suc n) n o (0, j) refl other (sym parent)
      ∙ ap (option_and_then (λ above. read_node image (nid_in (0, j) above))) (at_top n)

  pub slot_zero : nid_slot image ino 0 ≡ 0
  slot_zero = in_place 0 None parent-0

  pub slot_inode : (o j : ℕ) → parent_of o ≡ Some (0, j) → nid_slot image ino o ≡ inode_nid inode j
  slot_inode o j parent = in_place o (Some (0, j)) parent ∙ ap (λ a. option_map_or (nid_in (0, j)) a 0) (at_top 2)

  -- the word of a node of nids
  slot_below : (o p j : ℕ) (above : Option Block) → p ≢ 0 → parent_of o ≡ Some (p, j) → node_above image ino p ≡ above → nid_slot image ino o ≡ option_map_or (λ b. word b j) above 0
  slot_below o p j above below parent there =
      in_place o (Some (p, j)) parent
      ∙ λ t. option_map_or (λ b. cond-false (p == 0) (inode_nid b j) (word b j) (ne_eqb p 0 below) t) (there t) 0

  pub slot_first : (j : ℕ) → j < 1018 → nid_slot image ino (4 + j) ≡ option_map_or (λ b. word b j) (read_node image (inode_nid inode 2)) 0
  slot_first j low = slot_below (4 + j) 3 j _ (λ e. omega (arith, e)) (parent-first j low) (under_inode 1 3 2 (λ e. omega (arith, e)) (parent-inode 3 2 refl (omega arith)))

  pub slot_second : (j : ℕ) → j < 1018 → nid_slot image ino (1023 + j) ≡ option_map_or (λ b. word b j) (read_node image (inode_nid inode 3)) 0
  slot_second j low = slot_below (1023 + j) 1022 j _ (λ e. omega (arith, e)) (parent-second j low) (under_inode 1 1022 3 (λ e. omega (arith, e)) parent-1022)

  pub slot_third : (a : ℕ) → a < 1018 → nid_slot image ino (2042 + a * 1019) ≡ option_map_or (λ b. word b a) (read_node image (inode_nid inode 4)) 0
  slot_third a low =
      slot_below (2042 + a * 1019) 2041 a _ (λ e. omega (arith, e)) (ap parent_of (let e : 2042 + a * 1019 ≡ 2042 + 1019 * a + 0 = omega arith in e) ∙ parent-third a low)
      (under_inode 1 2041 4 (λ e. omega (arith, e)) parent-2041)

  pub slot_deep : (a j : ℕ) → a < 1018 → j < 1018
      → nid_slot image ino (2042 + a * 1019 + 1 + j) ≡ option_map_or (λ b. word b j) (option_and_then (λ b. read_node image (word b a)) (read_node image (inode_nid inode 4))) 0
  slot_deep a j few low =
      slot_below (2042 + a * 1019 + 1 + j) (2042 + 1019 * a) j _ (λ e. omega (arith, e))
      (ap parent_of (let e : 2042 + a * 1019 + 1 + j ≡ 2042 + 1019 * a + (1 + j) = omega arith in e) ∙ parent-deep a j few low)
      (one_step image ino 2 1 (2042 + 1019 * a) (2041, a) refl (λ e. omega (arith, e)) (sym (ap parent_of (let e : 2042 + 1019 * a ≡ 2042 + 1019 * a + 0 = omega arith in e) ∙ parent-third a few))
      ∙ ap (option_and_then (λ above. read_node image (word above a))) (under_inode 0 2041 4 (λ e. omega (arith, e)) parent-2041))
