-- Files laid out in an image: the nid slots and the slots that are read of them.
use Rattle.std.proofs.Common.{◌≡◌, ◌⊎◌, inl, inr, ℕ, zero, suc, ◌+◌, ◌-◌, ◌*◌, ◌/◌, ◌%◌, ◌<◌, Bool, true, false, not, ◌==◌, nat_le, nat_lt, cond, Option, Some, None, subst, refl, sym, ap, ◌∙◌, arith}
use Rattle.std.specs.Prelude.{option_and_then, is_some}
use Rattle.std.specs.Option.{option_map_or}
use Rattle.std.proofs.lemmas.Bool.{eq-eqb, ne_eqb, cases_eq, le-ltb, lt-leb, lt-ltb, ltb-true, false≢true}
use Rattle.f2_bytes.specs.Bytes.{Block, Image}
use Rattle.f2_bytes.specs.Node.{parent_of, locate, offset_limit, attribute_offset, has_slots, address_count, word_in, word_at_spot, slot_in}
use Rattle.f2_bytes.specs.Tree.{read_node, nid_in, node_within, tree_node, has_nid_slots, nid_slot, tree_slot}
use Rattle.f2_bytes.proofs.CheckedPlaces.{offset_limit-value}
use Rattle.f2_bytes.proofs.Located.{locate_below}
use Rattle.f2_bytes.proofs.TreeNodes.{read_node-zero}
use Rattle.f2_bytes.specs.FilePlaces.{FilePlaces, has_node, node_at, inode_at, HoldsFiles}
use Rattle.f2_mend.proofs.PlacedReads.{no_nid, file_node, read_placed, read_file}

-- ---- how deep a node stands

-- so many steps lead up from a node to the inode
pub HasDepth : ℕ → ℕ → Type 0
HasDepth zero o = o ≡ 0
HasDepth (suc n) o = (o ≡ 0) ⊎ ((spot : ℕ × ℕ) × (parent_of o ≡ Some spot) × HasDepth n spot.0)

some_pair : (s t : ℕ × ℕ) → Some s ≡ Some t → s ≡ t
some_pair s t e = ap (λ o. elim o [ Some z ↦ z | None ↦ s ]) e

pick : (P : ℕ × ℕ → Type 0) (b : Bool) (s t : ℕ × ℕ) (rest : Option (ℕ × ℕ)) → (b ≡ true → P s) → (b ≡ false → rest ≡ Some t → P t) → cond b (Some s) rest ≡ Some t → P t
pick P true s t rest here there e = subst P (some_pair s t e) (here refl)
pick P false s t rest here there e = there refl e

leave : (P : ℕ × ℕ → Type 0) (b : Bool) (t : ℕ × ℕ) (rest : Option (ℕ × ℕ)) → (b ≡ false → rest ≡ Some t → P t) → cond b None rest ≡ Some t → P t
leave P true t rest there e = absurd (cc e)
leave P false t rest there e = there refl e

enter : (P : ℕ × ℕ → Type 0) (b : Bool) (t : ℕ × ℕ) (rest : Option (ℕ × ℕ)) → (b ≡ true → rest ≡ Some t → P t) → cond b rest None ≡ Some t → P t
enter P true t rest there e = there refl e
enter P false t rest there e = absurd (cc e)

first_parent : parent_of 3 ≡ Some (0, 2)
unfolding parent_of
first_parent = refl

second_parent : parent_of 1022 ≡ Some (0, 3)
unfolding parent_of
second_parent = refl

third_parent : parent_of 2041 ≡ Some (0, 4)
unfolding parent_of
third_parent = refl

later_parent : (q : ℕ) → q < 1018 → parent_of (2042 + 1019 * q) ≡ Some (2041, q)
unfolding parent_of
later_parent q low =
    let o = 2042 + 1019 * q in
    let limit = offset_limit-value in
    let whole : (o - 2042) % 1019 ≡ 0 = omega arith in
    let place : (o - 2042) / 1019 ≡ q = omega arith in
    rw (
      ne_eqb o 0 (λ e. omega (arith, e)),
      lt-leb o 3 (omega arith),
      le-ltb o 1022 (omega arith),
      ne_eqb o 1022 (λ e. omega (arith, e)),
      le-ltb o 2041 (omega arith),
      ne_eqb o 2041 (λ e. omega (arith, e)),
      lt-ltb o offset_limit (omega (arith, low, limit)),
      eq-eqb ((o - 2042) % 1019) 0 whole,
    ) (ap (λ n. Some (2041, n)) place)

late_low : (o : ℕ) → o < 1039384 → (o - 2042) / 1019 < 1018
late_low o below = omega (arith, below)

abbrev AtTwo : ℕ × ℕ → Type 0
AtTwo spot = HasDepth 2 spot.0

deep_two : (q : ℕ) → q < 1018 → HasDepth 2 (2042 + 1019 * q)
unfolding HasDepth
deep_two q low = inr ((2041, q), later_parent q low, inr ((0, 4), third_parent, refl))

pub parent_depth : (o : ℕ) (t : ℕ × ℕ) → parent_of o ≡ Some t → HasDepth 2 t.0
unfolding parent_of HasDepth
parent_depth o t =
    leave AtTwo (o == 0) t _ (λ some.
    pick AtTwo (nat_le o 3) (0, o - 1) t _ (λ b. inl refl) (λ above.
    pick AtTwo (nat_lt o 1022) (3, o - 4) t _ (λ b. inr ((0, 2), first_parent, inl refl)) (λ past.
    pick AtTwo (o == 1022) (0, 3) t _ (λ b. inl refl) (λ other.
    pick AtTwo (nat_lt o 2041) (1022, o - 1023) t _ (λ b. inr ((0, 3), second_parent, inl refl)) (λ later.
    pick AtTwo (o == 2041) (0, 4) t _ (λ b. inl refl) (λ last.
    enter AtTwo (nat_lt o offset_limit) t _ (λ below.
    let limit = offset_limit-value in
    let most = ltb-true o offset_limit below in
    let low : (o - 2042) / 1019 < 1018 = late_low o (omega (arith, most, limit)) in
    pick AtTwo ((o - 2042) % 1019 == 0) (2041, (o - 2042) / 1019) t _ (λ b. inr ((0, 4), third_parent, inl refl)) (λ within e.
    subst AtTwo (some_pair (2042 + 1019 * ((o - 2042) / 1019), (o - 2042) % 1019 - 1) t e) (deep_two ((o - 2042) / 1019) low)))))))))

some_cond : (b : Bool) (x : ℕ × ℕ) (rest : Option (ℕ × ℕ)) → is_some rest ≡ true → is_some (cond b (Some x) rest) ≡ true
some_cond true x rest some = refl
some_cond false x rest some = some

some_either : (b : Bool) (x y : ℕ × ℕ) → is_some (cond b (Some x) (Some y)) ≡ true
some_either true x y = refl
some_either false x y = refl

pub parent_some : (o : ℕ) → (o ≡ 0 → ⊥) → o < offset_limit → is_some (parent_of o) ≡ true
unfolding parent_of
parent_some o away below =
    rw (ne_eqb o 0 away, lt-ltb o offset_limit below)
    (some_cond (nat_le o 3) (0, o - 1) _ (some_cond (nat_lt o 1022) (3, o - 4) _ (some_cond (o == 1022) (0, 3) _ (some_cond (nat_lt o 2041) (1022, o - 1023) _ (some_cond (o == 2041) (0, 4) _
    (some_either ((o - 2042) % 1019 == 0) (2041, (o - 2042) / 1019) (2042 + 1019 * ((o - 2042) / 1019), (o - 2042) % 1019 - 1)))))))

pub parent_found : (o : ℕ) → (o ≡ 0 → ⊥) → o < offset_limit → (spot : ℕ × ℕ) × (parent_of o ≡ Some spot)
parent_found o away below = go (parent_of o) refl (parent_some o away below)
  where
    go : (s : Option (ℕ × ℕ)) → parent_of o ≡ s → is_some (parent_of o) ≡ true → (spot : ℕ × ℕ) × (parent_of o ≡ Some spot)
    go None e some =
        let no : false ≡ true = rw e at some in
        absurd (false≢true no)
    go (Some spot) e some = (spot, e)

pub depth_three : (o : ℕ) → o < offset_limit → HasDepth 3 o
unfolding HasDepth
depth_three o below = elim (cases_eq o 0) [
  | inl first ↦ inl first
  | inr away ↦ let t = parent_found o away below in inr (t.0, t.1, parent_depth o t.0 t.1)
]

no_parent : parent_of 0 ≡ None
unfolding parent_of
no_parent = refl

pub attribute_past : attribute_offset < offset_limit → ⊥
unfolding offset_limit
attribute_past low = omega (arith, low)

module _ (p : FilePlaces) (image : Image) (h : HoldsFiles p image) (ino : ℕ) (file : p.has_file ino ≡ true) where
  abbrev placed_node : ℕ → Option Block
  placed_node o = cond (has_node p ino o) (Some (node_at p image ino o)) None

  at_zero : placed_node 0 ≡ Some (inode_at p image ino)
  at_zero = rw (file_node p image h ino file) refl

  at_none : (o : ℕ) → has_node p ino o ≡ false → placed_node o ≡ None
  at_none o none = rw none refl

  -- ---- with slots

  module _ (slots : has_slots (inode_at p image ino) ≡ true) where
    pub within : (n o : ℕ) → HasDepth n o → node_within n image ino o ≡ placed_node o
    unfolding node_within HasDepth
    within zero o depth = rw (eq-eqb o 0 depth) (read_file p image h ino file ∙ sym at_zero ∙ ap placed_node (sym depth))
    within (suc n) o (inl depth) = rw (eq-eqb o 0 depth) (read_file p image h ino file ∙ sym at_zero ∙ ap placed_node (sym depth))
    within (suc n) o (inr (spot, parent, depth)) =
        rw (ne_eqb o 0 away, parent) (ap (option_and_then (λ above. read_node image (nid_in spot above))) (within n spot.0 depth) ∙ go (has_node p ino spot.0) refl (has_node p ino o) refl)
      where
        away : o ≡ 0 → ⊥
        away first = cc (sym no_parent ∙ ap parent_of (sym first) ∙ parent)

        go : (a : Bool) → has_node p ino spot.0 ≡ a → (b : Bool) → has_node p ino o ≡ b → option_and_then (λ above. read_node image (nid_in spot above)) (placed_node spot.0) ≡ placed_node o
        go true above true here =
            let named = h.nids ino o spot file slots parent above in
            rw (above, here) (ap (read_node image) named ∙ read_placed p image h ino o here)
        go true above false here =
            let named = h.nids ino o spot file slots parent above in
            rw (above, here) (ap (read_node image) (named ∙ no_nid p image h ino o here) ∙ read_node-zero image)
        go false above true here = absurd (false≢true (sym above ∙ h.parents ino o spot here parent))
        go false above false here = rw (above, here) refl

    nid_slot_with : (o : ℕ) → (o ≡ 0 → ⊥) → o < offset_limit → nid_slot image ino o ≡ p.nid ino o
    unfolding nid_slot
    nid_slot_with o away below =
        let t = parent_found o away below in
        let has : has_nid_slots image ino ≡ true = ap (λ b. option_map_or has_slots b false) (read_file p image h ino file) ∙ slots in
        rw (has, t.1) (ap (λ b. option_map_or (nid_in t.0) b 0) (within 2 t.0.0 (parent_depth o t.0 t.1)) ∙ go t.0 t.1 (has_node p ino t.0.0) refl)
      where
        go : (spot : ℕ × ℕ) → parent_of o ≡ Some spot → (a : Bool) → has_node p ino spot.0 ≡ a → option_map_or (nid_in spot) (placed_node spot.0) 0 ≡ p.nid ino o
        go spot parent true above = rw above (h.nids ino o spot file slots parent above)
        go spot parent false above = rw above (sym (no_nid p image h ino o (none_here (has_node p ino o) refl)))
          where
            none_here : (b : Bool) → has_node p ino o ≡ b → has_node p ino o ≡ false
            none_here true here = absurd (false≢true (sym above ∙ h.parents ino o spot here parent))
            none_here false here = here

  -- ---- nid slots

  nid_slot_without : (o : ℕ) → has_slots (inode_at p image ino) ≡ false → nid_slot image ino o ≡ 0
  unfolding nid_slot
  nid_slot_without o slots =
      let has : has_nid_slots image ino ≡ false = ap (λ b. option_map_or has_slots b false) (read_file p image h ino file) ∙ slots in
      rw has refl

  pub nid_slot_zero : nid_slot image ino 0 ≡ 0
  unfolding nid_slot
  nid_slot_zero = rw no_parent (go (has_nid_slots image ino))
    where
      go : (s : Bool) → ◌≡◌ {A = ℕ} (cond s 0 0) 0
      go true = refl
      go false = refl

  pub nid_slot_placed : (o : ℕ) → (o ≡ 0 → ⊥) → o < offset_limit → nid_slot image ino o ≡ p.nid ino o
  nid_slot_placed o away below = go (has_slots (inode_at p image ino)) refl
    where
      go : (s : Bool) → has_slots (inode_at p image ino) ≡ s → nid_slot image ino o ≡ p.nid ino o
      go true slots = nid_slot_with slots o away below
      go false slots = nid_slot_without o slots ∙ sym (no_nid p image h ino o (none_here (has_node p ino o) refl))
        where
          none_here : (b : Bool) → has_node p ino o ≡ b → has_node p ino o ≡ false
          none_here false here = here
          none_here true here = elim (h.without_slots ino o slots here) [
            | inl first ↦ absurd (away first)
            | inr at ↦ absurd (attribute_past (subst (λ n. n < offset_limit) at below))
          ]

  -- ---- slots

  -- a slot that can be no other number is 0
  must_be_zero : (k : ℕ) → (not (p.slot ino k == 0) ≡ true → ⊥) → 0 ≡ p.slot ino k
  must_be_zero k never = elim (cases_eq (p.slot ino k) 0) [
    | inl none ↦ sym none
    | inr some ↦ absurd (never (ap not (ne_eqb (p.slot ino k) 0 some)))
  ]

  pub tree_slot_placed : (k : ℕ) → tree_slot image ino k ≡ p.slot ino k
  unfolding tree_slot node_within
  tree_slot_placed k = ap (λ o. slot_in (tree_node image ino) o k) (read_file p image h ino file) ∙ go (has_slots b) refl
    where
      b : Block
      b = inode_at p image ino

      go : (s : Bool) → has_slots b ≡ s → slot_in (tree_node image ino) (Some b) k ≡ p.slot ino k
      go false none = rw none (must_be_zero k (λ some. false≢true (sym none ∙ (h.spots ino k file some).0)))
      go true slots = rw slots (by_spot (locate k (address_count b)) refl)
        where
          by_spot : (o : Option (ℕ × ℕ)) → locate k (address_count b) ≡ o → word_at_spot (tree_node image ino) o ≡ p.slot ino k
          by_spot None l = must_be_zero k (λ some. (let t = h.spots ino k file some in cc (sym l ∙ t.2)))
          by_spot (Some spot) l =
              ap (word_in spot) (within slots 3 spot.0 (depth_three spot.0 (locate_below k (address_count b) spot l))) ∙ by_node (has_node p ino spot.0) refl
            where
              by_node : (a : Bool) → has_node p ino spot.0 ≡ a → word_in spot (placed_node spot.0) ≡ p.slot ino k
              by_node true node = rw node (h.words ino k spot file slots l node)
              by_node false none =
                  rw none (must_be_zero k (λ some.
                  let t = h.spots ino k file some in
                  let same : t.1 ≡ spot = some_pair t.1 spot (sym t.2 ∙ l) in
                  false≢true (sym none ∙ ap (λ (s : ℕ × ℕ). has_node p ino s.0) (sym same) ∙ t.3)))
