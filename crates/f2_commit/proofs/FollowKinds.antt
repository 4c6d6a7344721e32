-- The types of the segments in which the blocks of a batch stand after it.
use Rattle.std.proofs.Common.{◌≡◌, ℕ, ◌+◌, ◌/◌, inl, inr, List, true, false, not, ◌==◌, cond, get_or, All, sym, ap, ◌∙◌, subst, arith}
use Rattle.std.proofs.lemmas.Bool.{and_from, or_left, or_right, eq-eqb, ne_eqb}
use Rattle.std.proofs.lemmas.List.{get_or-drop}
use Rattle.f2_bytes.specs.Bytes.{Image}
use Rattle.f2_bytes.specs.Superblock.{layout, is_main, segment_of}
use Rattle.f2_bytes.specs.Check.{is_checked, is_data, is_node, kind_at}
use Rattle.f2_bytes.specs.Moved.{is_used}
use Rattle.f2_bytes.specs.Defragment.{target_block}
use Rattle.f2_bytes.proofs.CheckedUsed.{entry_node}
use Rattle.f2_pack.specs.declared.writing.NewPack.{NewPack}
use Rattle.f2_change.specs.declared.change.Change.{Change}
use Rattle.f2_change.specs.Carried.{Carries}
use Rattle.f2_commit.specs.Moves.{MovesBatch, AreTargets, moved_nodes, data_target_count, new_address, sit_after}
use Rattle.f2_commit.proofs.MoveAddresses.{nid_with-entry, data_used, data_no_node}
use Rattle.f2_commit.proofs.MoveLands.{Takes, Goes, goes, takes_low, target_unused, lands-moved}
use Rattle.f2_commit.proofs.MoveMarks.{new_kind, kept_kind}
use Rattle.f2_commit.proofs.MoveTargets.{segment_at}

module _ (image new : Image) (addresses targets : List ℕ) (c : Change) (p : NewPack) (h : is_checked image ≡ true)
    (mains : All (λ a. is_main (layout image) a ≡ true) addresses) (free : AreTargets image addresses targets) (m : MovesBatch image addresses targets c) (s : Carries image c p new) where
  abbrev to : ℕ → ℕ
  to = new_address image addresses targets

  -- a block that takes a place of the targets is elsewhere
  elsewhere : (a : ℕ) → is_used image a ≡ true → (n : ℕ) → to a ≡ target_block (layout image) targets n → Takes image addresses targets n a → (to a == a) ≡ false
  elsewhere a used n at takes =
      ne_eqb (to a) a (λ same. target_unused image h addresses mains targets free n (takes_low image h addresses mains targets free n a takes) (subst (λ x. is_used image x ≡ true) (sym same ∙ at) used))

  module _ (a kind : ℕ) (used : is_used image a ≡ true) (taken : (n : ℕ) → to a ≡ target_block (layout image) targets n → Takes image addresses targets n a → kind_at new (to a) ≡ kind) where
    pub kind_after : kind_at new (to a) ≡ cond (not (to a == a)) kind (kind_at image a)
    kind_after = by (goes image addresses targets a)
      where
        by : Goes image addresses targets a → kind_at new (to a) ≡ cond (not (to a == a)) kind (kind_at image a)
        by (inl same) = kept_kind image new addresses targets c p h mains free m s a used same ∙ sym (ap (λ b. cond (not b) kind (kind_at image a)) (eq-eqb (to a) a same))
        by (inr t) = taken t.0 t.1 t.2 ∙ sym (ap (λ b. cond (not b) kind (kind_at image a)) (elsewhere a used t.0 t.1 t.2))

  pub data_kind : (a : ℕ) → is_main (layout image) a ≡ true → is_data image a ≡ true → kind_at new (to a) ≡ cond (not (to a == a)) 1 (kind_at image a)
  data_kind a main data_there = kind_after a 1 used taken
    where
      used : is_used image a ≡ true
      used = and_from _ _ main (or_left _ _ data_there)

      taken : (n : ℕ) → to a ≡ target_block (layout image) targets n → Takes image addresses targets n a → kind_at new (to a) ≡ 1
      taken n at (inl d) =
          let low = d.0 in
          new_kind image new addresses targets c p h mains free m s (to a) (lands-moved image h addresses mains targets free a used)
          ∙ ap (λ x. (sit_after image c x).kind) (ap (segment_of (layout image)) at ∙ segment_at (layout image) targets n)
          ∙ m.data_kinds (n / 512) (omega (arith, low))
      taken n at (inr d) =
          let entry = nid_with-entry image a (get_or (moved_nodes image addresses) d.0 0) d.3 in
          absurd (data_no_node image h a main data_there (subst (λ x. is_node image x ≡ true) entry.2 (entry_node image h (get_or (moved_nodes image addresses) d.0 0) entry.0 entry.1)))

  pub node_kind : (a : ℕ) → is_main (layout image) a ≡ true → is_node image a ≡ true → kind_at new (to a) ≡ cond (not (to a == a)) 4 (kind_at image a)
  node_kind a main node_there = kind_after a 4 used taken
    where
      used : is_used image a ≡ true
      used = and_from _ _ main (or_right (is_data image a) _ node_there)

      taken : (n : ℕ) → to a ≡ target_block (layout image) targets n → Takes image addresses targets n a → kind_at new (to a) ≡ 4
      taken n at (inl d) = absurd (data_no_node image h a main (subst (λ x. is_data image x ≡ true) d.1 (data_used image h addresses mains n d.0).1) node_there)
      taken n at (inr d) =
          let number = d.1 in
          let low = d.2 in
          let whole : n / 512 ≡ data_target_count image addresses + d.0 / 512 = omega (arith, number) in
          new_kind image new addresses targets c p h mains free m s (to a) (lands-moved image h addresses mains targets free a used)
          ∙ ap (λ x. (sit_after image c x).kind)
          (ap (segment_of (layout image)) at ∙ segment_at (layout image) targets n ∙ ap (λ k. get_or targets k 0) whole ∙ sym (get_or-drop (data_target_count image addresses) targets (d.0 / 512) 0))
          ∙ m.node_kinds (d.0 / 512) (omega (arith, low))
