-- On a checked image a node that is reached from an inode stands at the offset that it was reached for.
use Rattle.std.proofs.Common.{◌≡◌, ◌⊎◌, inl, inr, ℕ, zero, suc, ◌+◌, ◌-◌, ◌*◌, ◌/◌, ◌%◌, ◌<◌, ◌≤◌, Bool, true, false, ◌==◌, ◌&&◌, not, nat_le, nat_lt, cond, Option, Some, None, subst, refl, sym, ap, ◌∙◌, arith}
use Rattle.std.specs.Prelude.{option_and_then}
use Rattle.std.proofs.lemmas.Bool.{and_right, eqb-true, eq-eqb, ne_eqb, ltb-true, le-ltb, leb-true, le-leb, lt-leb, cases_lt, false≢true}
use Rattle.f2_bytes.specs.Bytes.{Block, Image, block_at}
use Rattle.f2_bytes.specs.Node.{is_direct, parent_of, node_offset, offset_limit}
use Rattle.f2_bytes.specs.Tree.{read_node, nid_in, node_within, tree_node, has_nid_slots, nid_slot, is_inode}
use Rattle.f2_bytes.specs.Check.{is_checked}
use Rattle.f2_bytes.proofs.CheckedNodes.{read_node-checked}
use Rattle.f2_bytes.proofs.CheckedPlaces.{offset_limit-value, inode_at_zero, slot_offset, offset_says}
use Rattle.f2_bytes.proofs.CheckedUsed.{inode_below}
use Rattle.f2_bytes.proofs.SlotSupport.{body_checked, inode_entry}
use Rattle.f2_bytes.proofs.TreeNodes.{read_node-zero, tree_node-nid_slot}

-- ---- a node with nids is the inode or one of nids

-- the nid stands in the inode, or in a node that holds no addresses
abbrev pub HoldsNids : ℕ × ℕ → Type 0
HoldsNids t = ((t.0 ≡ 0) × (t.1 < 5)) ⊎ ((t.0 ≡ 0 → ⊥) × (is_direct t.0 ≡ false) × (t.1 < 1018))

some_pair : (s t : ℕ × ℕ) → Some s ≡ Some t → s ≡ t
some_pair s t e = ap (λ o. elim o [ Some z ↦ z | None ↦ s ]) e

pick : (P : ℕ × ℕ → Type 0) (b : Bool) (s t : ℕ × ℕ) (rest : Option (ℕ × ℕ)) → (b ≡ true → P s) → (b ≡ false → rest ≡ Some t → P t) → cond b (Some s) rest ≡ Some t → P t
pick P true s t rest here there e = subst P (some_pair s t e) (here refl)
pick P false s t rest here there e = there refl e

leave : (P : ℕ × ℕ → Type 0) (b : Bool) (t : ℕ × ℕ) (rest : Option (ℕ × ℕ)) → (b ≡ false → rest ≡ Some t → P t) → cond b None rest ≡ Some t → P t
leave P true t rest there e = absurd (cc e)
leave P false t rest there e = there refl e

enter : (P : ℕ × ℕ → Type 0) (b : Bool) (t : ℕ × ℕ) (rest : Option (ℕ × ℕ)) → (b ≡ true → rest ≡ Some t → P t) → cond b rest None ≡ Some t → P t
enter P true t rest there e = there refl e
enter P false t rest there e = absurd (cc e)

not_first : is_direct 3 ≡ false
unfolding offset_limit
not_first = refl

not_second : is_direct 1022 ≡ false
unfolding offset_limit
not_second = refl

not_third : is_direct 2041 ≡ false
unfolding offset_limit
not_third = refl

not_later : (q : ℕ) → is_direct (2042 + 1019 * q) ≡ false
not_later q =
    let o = 2042 + 1019 * q in
    let whole : (o - 2042) % 1019 ≡ 0 = omega arith in
    let both : (nat_le 2042 o && ((o - 2042) % 1019 == 0)) ≡ true = rw (le-leb 2042 o (omega arith), eq-eqb ((o - 2042) % 1019) 0 whole) refl in
    and_right (nat_lt 0 o && nat_lt o offset_limit && not (o == 3) && not (o == 1022) && not (o == 2041)) (not (nat_le 2042 o && ((o - 2042) % 1019 == 0))) (ap not both)

inner_low : (r : ℕ) → r % 1019 - 1 < 1018
inner_low r = omega arith

late_low : (o : ℕ) → o < 1039384 → (o - 2042) / 1019 < 1018
late_low o below = omega (arith, below)

pub parent_holds : (o : ℕ) (t : ℕ × ℕ) → parent_of o ≡ Some t → HoldsNids t
unfolding parent_of
parent_holds o t =
    leave HoldsNids (o == 0) t _ (λ some.
    pick HoldsNids (nat_le o 3) (0, o - 1) t _ (λ b. let low = leb-true o 3 b in inl (refl, omega (arith, low))) (λ above.
    pick HoldsNids (nat_lt o 1022) (3, o - 4) t _ (λ b. let low = ltb-true o 1022 b in inr ((λ e. omega (arith, e)), not_first, omega (arith, low))) (λ past.
    pick HoldsNids (o == 1022) (0, 3) t _ (λ b. inl (refl, omega arith)) (λ other.
    pick HoldsNids (nat_lt o 2041) (1022, o - 1023) t _ (λ b. let low = ltb-true o 2041 b in inr ((λ e. omega (arith, e)), not_second, omega (arith, low))) (λ later.
    pick HoldsNids (o == 2041) (0, 4) t _ (λ b. inl (refl, omega arith)) (λ last.
    enter HoldsNids (nat_lt o offset_limit) t _ (λ below.
    let limit = offset_limit-value in
    let most = ltb-true o offset_limit below in
    let low : (o - 2042) / 1019 < 1018 = late_low o (omega (arith, most, limit)) in
    pick HoldsNids ((o - 2042) % 1019 == 0) (2041, (o - 2042) / 1019) t _ (λ b. inr ((λ e. omega (arith, e)), not_third, low)) (λ within e.
    subst HoldsNids (some_pair (2042 + 1019 * ((o - 2042) / 1019), (o - 2042) % 1019 - 1) t e)
    (inr ((λ e. omega (arith, e)), not_later ((o - 2042) / 1019), inner_low (o - 2042)))))))))))

-- past the limit no node stands
parent_past : (o : ℕ) → offset_limit ≤ o → parent_of o ≡ None
unfolding parent_of
parent_past o past =
    let limit = offset_limit-value in
    rw (
      ne_eqb o 0 (λ e. omega (arith, e, past, limit)),
      lt-leb o 3 (omega (arith, past, limit)),
      le-ltb o 1022 (omega (arith, past, limit)),
      ne_eqb o 1022 (λ e. omega (arith, e, past, limit)),
      le-ltb o 2041 (omega (arith, past, limit)),
      ne_eqb o 2041 (λ e. omega (arith, e, past, limit)),
      le-ltb o offset_limit past,
    ) refl

-- ---- what is reached in fewer steps is reached in more

cond_more : (z : Bool) (x y y' : Option Block) (b : Block) → (y ≡ Some b → y' ≡ Some b) → cond z x y ≡ Some b → cond z x y' ≡ Some b
cond_more true x y y' b more e = e
cond_more false x y y' b more e = more e

step_more : (read : ℕ × ℕ → Block → Option Block) (low high : ℕ → Option Block) (o : Option (ℕ × ℕ)) (b : Block) → ((k : ℕ) (above : Block) → low k ≡ Some above → high k ≡ Some above)
    → option_and_then (λ spot. option_and_then (read spot) (low spot.0)) o ≡ Some b → option_and_then (λ spot. option_and_then (read spot) (high spot.0)) o ≡ Some b
step_more read low high None b more e = absurd (cc e)
step_more read low high (Some spot) b more e = go (low spot.0) refl e
  where
    go : (a : Option Block) → low spot.0 ≡ a → option_and_then (read spot) a ≡ Some b → option_and_then (read spot) (high spot.0) ≡ Some b
    go None is e = absurd (cc e)
    go (Some above) is e = ap (option_and_then (read spot)) (more spot.0 above is) ∙ e

within_more : (image : Image) (n ino o : ℕ) (b : Block) → node_within n image ino o ≡ Some b → node_within (suc n) image ino o ≡ Some b
unfolding node_within
within_more image zero ino o b = cond_more (o == 0) (read_node image ino) None _ b (λ e. absurd (cc e))
within_more image (suc n) ino o b =
    cond_more (o == 0) (read_node image ino) _ _ b
    (step_more (λ spot above. read_node image (nid_in spot above)) (node_within n image ino) (node_within (suc n) image ino) (parent_of o) b (λ k above. within_more image n ino k above))

within_three : (image : Image) (n ino o : ℕ) (b : Block) → n < 4 → node_within n image ino o ≡ Some b → tree_node image ino o ≡ Some b
within_three image zero ino o b low e = within_more image 2 ino o b (within_more image 1 ino o b (within_more image 0 ino o b e))
within_three image (suc zero) ino o b low e = within_more image 2 ino o b (within_more image 1 ino o b e)
within_three image (suc (suc zero)) ino o b low e = within_more image 2 ino o b e
within_three image (suc (suc (suc zero))) ino o b low e = e
within_three image (suc (suc (suc (suc n)))) ino o b low e = absurd (omega (arith, low))

-- ---- the offset of a node

some_block : (b c : Block) → Some b ≡ Some c → b ≡ c
some_block b c e = ap (λ o. elim o [ Some z ↦ z | None ↦ b ]) e

module _ (image : Image) (h : is_checked image ≡ true) (ino : ℕ) (inode : is_inode image ino ≡ true) where
  pub inode_zero : (b : Block) → read_node image ino ≡ Some b → node_offset b ≡ 0
  inode_zero b is =
      let entry = inode_entry image h ino inode in
      let same = some_block b (block_at image entry.0.address) (sym is ∙ read_node-checked image (body_checked image h) ino entry.0 entry.1) in
      ap node_offset same ∙ inode_at_zero image (body_checked image h) ino entry.0 entry.1 inode

  -- a node that a nid slot leads to
  named_offset : (o : ℕ) (b : Block) → read_node image (nid_slot image ino o) ≡ Some b → node_offset b ≡ o
  unfolding nid_slot
  named_offset o b is = go (nid_slot image ino o == 0) refl
    where
      go : (z : Bool) → (nid_slot image ino o == 0) ≡ z → node_offset b ≡ o
      go true z =
          let none : None ≡ Some b = sym (read_node-zero image) ∙ sym (ap (read_node image) (eqb-true (nid_slot image ino o) 0 z)) ∙ is in
          absurd (cc none)
      go false z = by_limit (cases_lt o offset_limit)
        where
          by_limit : (o < offset_limit) ⊎ (offset_limit ≤ o) → node_offset b ≡ o
          by_limit (inl within) =
              let limit = offset_limit-value in
              let at = slot_offset image (body_checked image h) ino o inode (inode_below image h ino inode) within z in
              let says = offset_says image (body_checked image h) (nid_slot image ino o) ino o at (omega (arith, within, limit)) in
              let same = some_block b (block_at image says.0.address) (sym is ∙ read_node-checked image (body_checked image h) (nid_slot image ino o) says.0 says.1) in
              ap node_offset same ∙ says.3
          by_limit (inr past) =
              let none : nid_slot image ino o ≡ 0 = rw (parent_past o past) (by_slots (has_nid_slots image ino)) in
              absurd (false≢true (sym z ∙ eq-eqb (nid_slot image ino o) 0 none))
            where
              by_slots : (s : Bool) → ◌≡◌ {A = ℕ} (cond s 0 0) 0
              by_slots true = refl
              by_slots false = refl

  pub within_offset : has_nid_slots image ino ≡ true → (n o : ℕ) (b : Block) → n < 4 → node_within n image ino o ≡ Some b → node_offset b ≡ o
  unfolding node_within
  within_offset slots n o b low is = go (o == 0) refl (within_three image n ino o b low is)
    where
      go : (z : Bool) → (o == 0) ≡ z → tree_node image ino o ≡ Some b → node_offset b ≡ o
      go true z at =
          let zero_at : o ≡ 0 = eqb-true o 0 z in
          inode_zero b (sym (ap (tree_node image ino) zero_at) ∙ at) ∙ sym zero_at
      go false z at =
          named_offset o b (sym (tree_node-nid_slot image ino o slots (λ e. false≢true (sym z ∙ eq-eqb o 0 e))) ∙ at)
