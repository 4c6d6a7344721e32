-- The types of the segments that hold nodes after a batch of moves.
use Rattle.std.proofs.Common.{◌≡◌, ℕ, ◌+◌, ◌/◌, ◌≤◌, inl, inr, List, Bool, true, false, ◌||◌, nat_lt, get_or, All, refl, sym, ap, ◌∙◌, subst, arith}
use Rattle.std.proofs.lemmas.Bool.{and_parts, and_from, or_right, ltb-false, false_from_ne_true}
use Rattle.std.proofs.lemmas.List.{get_or-drop}
use Rattle.f2_bytes.specs.Bytes.{Image}
use Rattle.f2_bytes.specs.Superblock.{layout, is_main, segment_of}
use Rattle.f2_bytes.specs.SegmentTable.{sit}
use Rattle.f2_bytes.specs.Check.{where_true, defects, validity_parts, is_checked, is_data, is_node, is_marked, kind_at, type_comparison}
use Rattle.f2_bytes.specs.Moved.{is_used}
use Rattle.f2_bytes.specs.Defragment.{target_block}
use Rattle.f2_bytes.proofs.CheckedBlocks.{segment_below, block_says, used_is_marked}
use Rattle.f2_bytes.proofs.CheckedChain.{rule_met, part_clear}
use Rattle.f2_bytes.proofs.CheckedNodes.{no_part}
use Rattle.f2_bytes.proofs.CheckedUsed.{node_entry, entry_in_main}
use Rattle.f2_bytes.proofs.SlotSupport.{body_checked}
use Rattle.f2_pack.specs.declared.writing.NewPack.{NewPack}
use Rattle.f2_change.specs.declared.change.Change.{Change}
use Rattle.f2_change.specs.Carried.{Carries}
use Rattle.f2_commit.specs.Moves.{MovesBatch, AreTargets, data_target_count, node_targets, new_address, sit_after}
use Rattle.f2_commit.proofs.MoveAddresses.{used_support, data_used, data_no_node}
use Rattle.f2_commit.proofs.MoveCheckpoint.{sit-moved}
use Rattle.f2_commit.proofs.MoveLands.{Takes, Goes, goes, lands-moved}
use Rattle.f2_commit.proofs.MoveMarks.{support_not_free}
use Rattle.f2_commit.proofs.MoveTargets.{segment_at}

abbrev IsNodeKind : ℕ → Type 0
IsNodeKind kind = (3 ≤ kind) × (kind ≤ 5)

kind_between : (kind : ℕ) → (nat_lt kind 3 || nat_lt 5 kind) ≡ false → IsNodeKind kind
kind_between kind out = go (nat_lt kind 3) refl (nat_lt 5 kind) refl out
  where
    go : (a : Bool) → nat_lt kind 3 ≡ a → (b : Bool) → nat_lt 5 kind ≡ b → (a || b) ≡ false → IsNodeKind kind
    go false low false high none =
        let above = ltb-false kind 3 low in
        let below = ltb-false 5 kind high in
        (omega (arith, above), omega (arith, below))
    go false low true high none = absurd (cc none)
    go true low b high none = absurd (cc none)

module _ (image : Image) (h : is_checked image ≡ true) where
  node_used : (a : ℕ) → is_node image a ≡ true → is_used image a ≡ true
  node_used a node_there =
      let e = node_entry image a node_there in
      and_from _ _ (subst (λ x. is_main (layout image) x ≡ true) e.3 (entry_in_main image h e.0 e.1 e.2)) (or_right (is_data image a) _ node_there)

  no_data : (a : ℕ) → is_node image a ≡ true → is_data image a ≡ false
  no_data a node_there = false_from_ne_true _ (λ data_there. data_no_node image h a (and_parts (is_main (layout image) a) (is_data image a || is_node image a) (node_used a node_there)).0 data_there node_there)

  old_node_kind : (a : ℕ) → is_node image a ≡ true → IsNodeKind (kind_at image a)
  unfolding validity_parts defects
  old_node_kind a node_there =
      let used = node_used a node_there in
      let main = (and_parts (is_main (layout image) a) (is_data image a || is_node image a) used).0 in
      let clear = part_clear (validity_parts image) (rule_met image (body_checked image h) 5 (omega arith) (omega arith)) 2 no_part (omega arith) in
      let marked = used_is_marked image h a used in
      let none = no_data a node_there in
      let kind = kind_at image a in
      kind_between kind (block_says image 3 (λ x. where_true (is_marked image x) (type_comparison image x)) clear a main
      (record { found = kind; wanted = 3; fails = nat_lt kind 3 || nat_lt 5 kind }) (rw (marked, none, node_there) refl))

module _ (image new : Image) (addresses targets : List ℕ) (c : Change) (p : NewPack) (h : is_checked image ≡ true)
    (mains : All (λ a. is_main (layout image) a ≡ true) addresses) (free : AreTargets image addresses targets) (m : MovesBatch image addresses targets c) (s : Carries image c p new) where
  abbrev to : ℕ → ℕ
  to = new_address image addresses targets

  kind_after : (x : ℕ) → is_main (layout image) x ≡ true → kind_at new x ≡ (sit_after image c (segment_of (layout image) x)).kind
  kind_after x main =
      ap (λ l. (sit new (segment_of l x)).kind) s.areas ∙ ap (λ e. e.kind) (sit-moved image new addresses targets c p m s (segment_of (layout image) x) (segment_below (layout image) x main))

  pub node_kinds-moved : (a : ℕ) → is_node image a ≡ true → (3 ≤ kind_at new (to a)) × (kind_at new (to a) ≤ 5)
  node_kinds-moved a node_there = by (goes image addresses targets a)
    where
      used : is_used image a ≡ true
      used = node_used image h a node_there

      main : is_main (layout image) a ≡ true
      main = (and_parts (is_main (layout image) a) (is_data image a || is_node image a) used).0

      by_takes : (n : ℕ) → to a ≡ target_block (layout image) targets n → Takes image addresses targets n a → IsNodeKind (kind_at new (to a))
      by_takes n at (inl d) = absurd (data_no_node image h a main (subst (λ x. is_data image x ≡ true) d.1 (data_used image h addresses mains n d.0).1) node_there)
      by_takes n at (inr d) =
          let number = d.1 in
          let low = d.2 in
          let kind = m.node_kinds (d.0 / 512) (omega (arith, low)) in
          let there = kind_after (to a) (lands-moved image h addresses mains targets free a used) in
          let whole : n / 512 ≡ data_target_count image addresses + d.0 / 512 = omega (arith, number) in
          let segment : segment_of (layout image) (to a) ≡ get_or (node_targets image addresses targets) (d.0 / 512) 0
          = ap (segment_of (layout image)) at ∙ segment_at (layout image) targets n ∙ ap (λ k. get_or targets k 0) whole ∙ sym (get_or-drop (data_target_count image addresses) targets (d.0 / 512) 0) in
          let value : kind_at new (to a) ≡ 4 = there ∙ ap (λ x. (sit_after image c x).kind) segment ∙ kind in
          (omega (arith, value), omega (arith, value))

      by : Goes image addresses targets a → IsNodeKind (kind_at new (to a))
      by (inl same) =
          let old = old_node_kind image h a node_there in
          let kept : kind_at new (to a) ≡ kind_at image a = ap (kind_at new) same ∙ kind_after a main ∙ m.old_kinds (segment_of (layout image) a) (support_not_free image a main (used_support image h a used)) in
          subst IsNodeKind (sym kept) old
      by (inr t) = by_takes t.0 t.1 t.2
