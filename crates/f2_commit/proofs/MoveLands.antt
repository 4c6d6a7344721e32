-- Where the blocks of a batch land: in main, apart from each other and from all that is used.
use Rattle.std.proofs.Common.{◌≡◌, ℕ, ◌+◌, ◌*◌, ◌/◌, ◌%◌, ◌<◌, ◌⊎◌, inl, inr, List, true, ◌||◌, length, get_or, All, Option, Some, None, refl, sym, ap, ◌∙◌, subst, ⊎_elim, arith}
use Rattle.std.specs.Prelude.{unwrap_or}
use Rattle.std.specs.Option.{option_map_or}
use Rattle.std.proofs.lemmas.Bool.{and_parts, and_from, or_left, ltb-true, false≢true}
use Rattle.f2_bytes.specs.Bytes.{Image}
use Rattle.f2_bytes.specs.Superblock.{layout, is_main}
use Rattle.f2_bytes.specs.NodeAddressTable.{nat}
use Rattle.f2_bytes.specs.Check.{is_checked, is_data, is_node, nid_with}
use Rattle.f2_bytes.specs.Support.{is_free}
use Rattle.f2_bytes.specs.Moved.{is_used}
use Rattle.f2_bytes.specs.Defragment.{put_at, target_block}
use Rattle.f2_bytes.proofs.CheckedUsed.{main_range}
use Rattle.f2_bytes.proofs.FormatFacts.{free_has_no_support}
use Rattle.f2_commit.specs.Moves.{AreTargets, moved_data, moved_nodes, data_target_count, node_targets, new_address}
use Rattle.f2_commit.proofs.MoveAddresses.{nid_with-entry, used_support, data_used, entry_used}
use Rattle.f2_commit.proofs.MoveTargets.{put_number, behind, place_main, same_number, enough_room}

some_same : {A : Type 0} (x y : A) → Some x ≡ Some y → x ≡ y
some_same x y e = ap (λ o. elim o [ Some z ↦ z | None ↦ y ]) e

module _ (image : Image) (addresses targets : List ℕ) where
  -- block n of the targets takes the data block, or the node, that stands at this address
  abbrev pub Takes : ℕ → ℕ → Type 0
  Takes n a =
      ((n < length (moved_data image addresses)) × (get_or (moved_data image addresses) n 0 ≡ a))
      ⊎ ((k : ℕ) × (n ≡ 512 * data_target_count image addresses + k) × (k < length (moved_nodes image addresses)) × (nid_with image a ≡ Some (get_or (moved_nodes image addresses) k 0)))

  -- an address stays, or goes to such a place
  abbrev pub Goes : ℕ → Type 0
  Goes a = (new_address image addresses targets a ≡ a) ⊎ ((n : ℕ) × (new_address image addresses targets a ≡ target_block (layout image) targets n) × Takes n a)

  pub goes : (a : ℕ) → Goes a
  unfolding new_address
  goes a = by_data (put_at (layout image) targets (moved_data image addresses) a) refl
    where
      by_nid : ℕ → ℕ
      by_nid = λ nid. unwrap_or (put_at (layout image) (node_targets image addresses targets) (moved_nodes image addresses) nid) a

      otherwise : ℕ
      otherwise = option_map_or by_nid (nid_with image a) a

      by_node : put_at (layout image) targets (moved_data image addresses) a ≡ None → (nid : ℕ) → nid_with image a ≡ Some nid
          → (o : Option ℕ) → put_at (layout image) (node_targets image addresses targets) (moved_nodes image addresses) nid ≡ o → Goes a
      by_node none nid found None at =
          inl (ap (λ o. unwrap_or o otherwise) none ∙ ap (λ o. option_map_or by_nid o a) found ∙ ap (λ o. unwrap_or o a) at)
      by_node none nid found (Some place) at =
          let t = put_number (layout image) (node_targets image addresses targets) (moved_nodes image addresses) nid place at in
          let value : new_address image addresses targets a ≡ place = ap (λ o. unwrap_or o otherwise) none ∙ ap (λ o. option_map_or by_nid o a) found ∙ ap (λ o. unwrap_or o a) at in
          inr (
            512 * data_target_count image addresses + t.0,
            value ∙ t.3 ∙ behind (layout image) targets (data_target_count image addresses) t.0,
            inr (t.0, refl, t.1, found ∙ ap (λ n. Some n) (sym t.2)),
          )

      by_nid_with : put_at (layout image) targets (moved_data image addresses) a ≡ None → (o : Option ℕ) → nid_with image a ≡ o → Goes a
      by_nid_with none None found = inl (ap (λ o. unwrap_or o otherwise) none ∙ ap (λ o. option_map_or by_nid o a) found)
      by_nid_with none (Some nid) found = by_node none nid found (put_at (layout image) (node_targets image addresses targets) (moved_nodes image addresses) nid) refl

      by_data : (o : Option ℕ) → put_at (layout image) targets (moved_data image addresses) a ≡ o → Goes a
      by_data None at = by_nid_with at (nid_with image a) refl
      by_data (Some place) at =
          let t = put_number (layout image) targets (moved_data image addresses) a place at in
          inr (t.0, ap (λ o. unwrap_or o otherwise) at ∙ t.3, inl (t.1, t.2))

module _ (image : Image) (h : is_checked image ≡ true) (addresses : List ℕ) (mains : All (λ a. is_main (layout image) a ≡ true) addresses) (targets : List ℕ) (free : AreTargets image addresses targets) where
  abbrev to : ℕ → ℕ
  to = new_address image addresses targets

  -- a block of the targets that takes something is one of theirs
  pub takes_low : (n a : ℕ) → Takes image addresses targets n a → n < 512 * length targets
  takes_low n a (inl t) =
      let room = enough_room n (length (moved_data image addresses)) t.0 in
      let enough = free.enough in
      omega (arith, room, enough)
  takes_low n a (inr t) =
      let room = enough_room t.0 (length (moved_nodes image addresses)) t.2 in
      let enough = free.enough in
      let at = t.1 in
      omega (arith, room, enough, at)

  -- what it takes is used
  pub takes_used : (n a : ℕ) → Takes image addresses targets n a → is_used image a ≡ true
  takes_used n a (inl t) =
      let used = data_used image h addresses mains n t.0 in
      subst (λ x. is_used image x ≡ true) t.1 (and_from _ _ used.0 (or_left _ _ used.1))
  takes_used n a (inr t) =
      let entry = nid_with-entry image a (get_or (moved_nodes image addresses) t.0 0) t.3 in
      subst (λ x. is_used image x ≡ true) entry.2 (entry_used image h (get_or (moved_nodes image addresses) t.0 0) entry.0 entry.1)

  -- it takes one alone
  pub takes_one : (n a b : ℕ) → Takes image addresses targets n a → Takes image addresses targets n b → a ≡ b
  takes_one n a b (inl t) (inl u) = sym t.1 ∙ u.1
  takes_one n a b (inl t) (inr u) =
      let room = enough_room n (length (moved_data image addresses)) t.0 in
      let at = u.1 in
      absurd (omega (arith, room, at))
  takes_one n a b (inr t) (inl u) =
      let room = enough_room n (length (moved_data image addresses)) u.0 in
      let at = t.1 in
      absurd (omega (arith, room, at))
  takes_one n a b (inr t) (inr u) =
      let one = t.1 in
      let other = u.1 in
      let number : t.0 ≡ u.0 = omega (arith, one, other) in
      let e = nid_with-entry image a (get_or (moved_nodes image addresses) t.0 0) t.3 in
      let f = nid_with-entry image b (get_or (moved_nodes image addresses) u.0 0) u.3 in
      let entry : Some e.0 ≡ Some f.0 = sym e.1 ∙ ap (λ k. nat image (get_or (moved_nodes image addresses) k 0)) number ∙ f.1 in
      sym e.2 ∙ ap (λ x. x.address) (some_same e.0 f.0 entry) ∙ f.2

  -- ---- the targets

  pub target_free : (n : ℕ) → n < 512 * length targets → is_free image (get_or targets (n / 512) 0) ≡ true
  target_free n low = free.free (n / 512) 0 (omega (arith, low))

  pub target_below : (n : ℕ) → n < 512 * length targets → get_or targets (n / 512) 0 < (layout image).segments
  unfolding is_free
  target_below n low = ltb-true _ _ (and_parts _ _ (and_parts _ _ (target_free n low)).0).0

  pub target_main : (n : ℕ) → n < 512 * length targets → is_main (layout image) (target_block (layout image) targets n) ≡ true
  target_main n low = place_main (layout image) targets n (target_below n low)

  pub target_unused : (n : ℕ) → n < 512 * length targets → is_used image (target_block (layout image) targets n) ≡ true → ⊥
  target_unused n low used =
      let clear = free_has_no_support image (get_or targets (n / 512) 0) (n % 512) (target_free n low) (omega arith) in
      false≢true (sym clear ∙ used_support image h (target_block (layout image) targets n) used)

  -- ---- where all land

  pub unused_stays : (a : ℕ) → (is_used image a ≡ true → ⊥) → to a ≡ a
  unused_stays a unused = ⊎_elim (λ same. same) (λ t. absurd (unused (takes_used t.0 a t.2))) (goes image addresses targets a)

  pub outside_stays : (a : ℕ) → (is_main (layout image) a ≡ true → ⊥) → to a ≡ a
  outside_stays a outside = unused_stays a (λ used. outside (and_parts (is_main (layout image) a) (is_data image a || is_node image a) used).0)

  pub holes-moved : to 0 ≡ 0
  holes-moved = outside_stays 0 (λ main. let low = (main_range image h 0 main).0 in omega (arith, low))

  pub reserved-moved : to 4294967295 ≡ 4294967295
  reserved-moved = outside_stays 4294967295 (λ main. let high = (main_range image h 4294967295 main).1 in omega (arith, high))

  pub lands-moved : (a : ℕ) → is_used image a ≡ true → is_main (layout image) (to a) ≡ true
  lands-moved a used =
      ⊎_elim
      (λ same. ap (is_main (layout image)) same ∙ (and_parts (is_main (layout image) a) (is_data image a || is_node image a) used).0)
      (λ t. ap (is_main (layout image)) t.1 ∙ target_main t.0 (takes_low t.0 a t.2))
      (goes image addresses targets a)

  -- a used address is none that another one moves to
  kept_apart : (a b n : ℕ) → is_used image a ≡ true → to a ≡ a → n < 512 * length targets → to b ≡ target_block (layout image) targets n → to a ≡ to b → ⊥
  kept_apart a b n used same low at equal =
      target_unused n low (subst (λ x. is_used image x ≡ true) (sym same ∙ equal ∙ at) used)

  pub apart-moved : (a b : ℕ) → is_used image a ≡ true → is_used image b ≡ true → to a ≡ to b → a ≡ b
  apart-moved a b used_a used_b equal = by (goes image addresses targets a) (goes image addresses targets b)
    where
      by : Goes image addresses targets a → Goes image addresses targets b → a ≡ b
      by (inl same_a) (inl same_b) = sym same_a ∙ equal ∙ same_b
      by (inl same_a) (inr u) = absurd (kept_apart a b u.0 used_a same_a (takes_low u.0 b u.2) u.1 equal)
      by (inr t) (inl same_b) = absurd (kept_apart b a t.0 used_b same_b (takes_low t.0 a t.2) t.1 (sym equal))
      by (inr t) (inr u) =
          let number = same_number (layout image) targets t.0 u.0 free.different (takes_low t.0 a t.2) (takes_low u.0 b u.2) (sym t.1 ∙ equal ∙ u.1) in
          takes_one u.0 a b (subst (λ n. Takes image addresses targets n a) number t.2) u.2
