-- The segments of a change that moves a batch: their marks, their counts and their types.
use Rattle.std.proofs.Common.{◌≡◌, ℕ, ◌+◌, ◌*◌, ◌<◌, ◌≤◌, ◌⊎◌, inl, inr, List, ◌++◌, map, Bool, true, false, not, ◌==◌, ◌&&◌, ◌||◌, nat_lt, length, get_or, take, All, Option, Some, None, refl, sym, ap, ◌∙◌, subst, ⊎_elim, arith}
use Rattle.std.specs.Prelude.{option_map, unwrap_or}
use Rattle.std.specs.Option.{option_or}
use Rattle.std.specs.List.Sorted.{IsStrictlyIncreasing}
use Rattle.std.proofs.lemmas.Bool.{eqb-true, eq-eqb, not-false, false_from_ne_true, false≢true}
use Rattle.std.proofs.lemmas.List.{get_or-take, get_or-drop, get_or-map, length-take, length-drop, length-map}
use Rattle.std.proofs.lemmas.List.Folds.{list_any_at}
use Rattle.f2_bytes.specs.Bits.{bit_msb}
use Rattle.f2_bytes.specs.Bytes.{Image, count_below, quotient_up}
use Rattle.f2_bytes.specs.Check.{same, defects, validity_parts, part_by_one, is_checked}
use Rattle.f2_bytes.specs.Defragment.{is_among}
use Rattle.f2_bytes.specs.Journal.{SitEntry}
use Rattle.f2_bytes.specs.SegmentTable.{sit, is_block_valid}
use Rattle.f2_bytes.specs.Superblock.{layout, is_main, segment_of, segment_start}
use Rattle.f2_bytes.specs.Support.{is_free}
use Rattle.f2_bytes.proofs.CheckLaws.{none_fails}
use Rattle.f2_bytes.proofs.CheckedChain.{rule_met, part_clear}
use Rattle.f2_bytes.proofs.CheckedNodes.{no_part}
use Rattle.f2_bytes.proofs.SlotSupport.{body_checked}
use Rattle.f2_sum.specs.Records.{sit_entry}
use Rattle.f2_sum.specs.declared.records.SitEntry.{SitEntry as HeldSitEntry}
use Rattle.f2_change.specs.declared.change.Change.{Change}
use Rattle.f2_change.specs.Change.{given}
use Rattle.f2_commit.specs.Moves.{AreTargets, moved_data, moved_nodes, data_target_count, node_target_count, node_targets, is_moving, is_taken, sit_after}
use Rattle.f2_commit.specs.Shifting.{IsEmptied, AreEmptied, IsTaken, AreTaken}
use Rattle.f2_commit.proofs.LeftPlaces.{node_places, moving_is, free_unmarked}
use Rattle.f2_change.proofs.Lookups.{given-append}
use Rattle.f2_free.proofs.NumbersBelow.{or_false}
use Rattle.f2_commit.proofs.SegmentCases.{LastFor, NoneFor, given_last, among_at, first_at, first_there, different-drop, places_taken, places_untaken}

-- The entries that a change gives segments: those that the batch leaves, and those that take its data and its nodes.
pub record GivesSegments (image : Image) (addrs targets : List ℕ) (items : List (ℕ × HeldSitEntry)) : Type 0 where
  pub addresses : List ℕ
  pub left : List (ℕ × HeldSitEntry)
  pub data_new : List (ℕ × HeldSitEntry)
  pub node_new : List (ℕ × HeldSitEntry)
  pub whole : items ≡ (left ++ data_new) ++ node_new
  pub same : (a : ℕ) → is_among addresses a ≡ is_among (moved_data image addrs ++ node_places image addrs) a
  pub emptied : AreEmptied image addresses left
  pub data_taken : AreTaken targets 1 (length (moved_data image addrs)) data_new
  pub nodes_taken : AreTaken (node_targets image addrs targets) 4 (length (moved_nodes image addrs)) node_new

-- a segment's count is that of its marks
pub checked_count : (image : Image) → is_checked image ≡ true → (segment : ℕ) → segment < (layout image).segments → (sit image segment).count ≡ count_below 512 (is_block_valid image segment)
unfolding validity_parts defects
checked_count image h segment low =
    let clear = part_clear (validity_parts image) (rule_met image (body_checked image h) 5 (omega arith) (omega arith)) 1 no_part (omega arith) in
    let found = (sit image segment).count in
    let wanted = count_below 512 (is_block_valid image segment) in
    let agree : not (found == wanted) ≡ false
    = none_fails (part_by_one 2 (layout image).segments (λ s. same (sit image s).count (count_below 512 (is_block_valid image s)))) clear segment 0 low (omega arith) (record { found = found; wanted = wanted; fails = not (found == wanted) }) refl in
    eqb-true found wanted (not-false _ agree)

module _ (image : Image) (h : is_checked image ≡ true) (addrs : List ℕ) (mains : All (λ a. is_main (layout image) a ≡ true) addrs) (rises : IsStrictlyIncreasing addrs) (targets : List ℕ) (free : AreTargets image addrs targets)
    (c : Change) (g : GivesSegments image addrs targets c.sit.items) where
  abbrev q : ℕ
  q = data_target_count image addrs

  abbrev r : ℕ
  r = node_target_count image addrs

  abbrev behind_data : List ℕ
  behind_data = node_targets image addrs targets

  pub data_room : data_target_count image addrs ≤ length targets
  data_room = let enough = free.enough in omega (arith, enough)

  pub node_room : node_target_count image addrs ≤ length (node_targets image addrs targets)
  node_room = let enough = free.enough in let long = length-drop q targets in omega (arith, enough, long)

  -- ---- which one it is

  -- it takes blocks
  pub record TakenAs (takers : List ℕ) (wanted blocks segment : ℕ) : Type 0 where
    pub index : ℕ
    pub few : index < quotient_up blocks 512
    pub at : get_or takers index 0 ≡ segment
    pub is : IsTaken wanted blocks index (sit_after image c segment)

  pub record DataSegment (segment : ℕ) : Type 0 where
    pub taken : TakenAs targets 1 (length (moved_data image addrs)) segment
    pub no_node : is_among (take (node_target_count image addrs) (node_targets image addrs targets)) segment ≡ false

  pub record NodeSegment (segment : ℕ) : Type 0 where
    pub taken : TakenAs (node_targets image addrs targets) 4 (length (moved_nodes image addrs)) segment
    pub no_data : is_among (take (data_target_count image addrs) targets) segment ≡ false

  -- it is left, or as before
  pub record LeftSegment (segment : ℕ) : Type 0 where
    pub last : LastFor g.left segment
    pub is : sit_after image c segment ≡ sit_entry last.entry.1

  pub record KeptSegment (segment : ℕ) : Type 0 where
    pub none : NoneFor g.left segment
    pub is : sit_after image c segment ≡ sit image segment

  pub record OldSegment (segment : ℕ) : Type 0 where
    pub no_data : is_among (take (data_target_count image addrs) targets) segment ≡ false
    pub no_node : is_among (take (node_target_count image addrs) (node_targets image addrs targets)) segment ≡ false
    pub is : LeftSegment segment ⊎ KeptSegment segment

  given_whole : (segment : ℕ) → given c.sit.items segment ≡ option_or (given g.node_new segment) (option_or (given g.data_new segment) (given g.left segment))
  given_whole segment =
      ap (λ (l : List (ℕ × HeldSitEntry)). given l segment) g.whole ∙ given-append (g.left ++ g.data_new) g.node_new segment
      ∙ ap (option_or (given g.node_new segment)) (given-append g.left g.data_new segment)

  after_is : (segment : ℕ) (a b d : Option HeldSitEntry) → given g.node_new segment ≡ a → given g.data_new segment ≡ b → given g.left segment ≡ d
      → sit_after image c segment ≡ unwrap_or (option_map sit_entry (option_or a (option_or b d))) (sit image segment)
  after_is segment a b d x y z =
      ap (λ o. unwrap_or (option_map sit_entry o) (sit image segment)) (given_whole segment)
      ∙ (λ i. unwrap_or (option_map sit_entry (option_or (x i) (option_or (y i) (z i)))) (sit image segment))

  taken_as : (takers : List ℕ) (wanted blocks segment : ℕ) (new : List (ℕ × HeldSitEntry)) → AreTaken takers wanted blocks new → (w : LastFor new segment) → sit_after image c segment ≡ sit_entry w.entry.1
      → TakenAs takers wanted blocks segment
  taken_as takers wanted blocks segment new t w is = record {
    index = w.index;
    few = few;
    at = sym (get_or-take (quotient_up blocks 512) takers w.index 0 few) ∙ ap (λ (l : List ℕ). get_or l w.index 0) (sym t.segments)
        ∙ get_or-map (λ (v : ℕ × HeldSitEntry). v.0) new w.index w.entry 0 w.low ∙ ap (λ (v : ℕ × HeldSitEntry). v.0) w.stands ∙ w.number;
    is = subst (IsTaken wanted blocks w.index) (sym is) (t.entries w.index w.entry w.low w.stands);
  }
    where
      few : w.index < quotient_up blocks 512
      few =
          let size : length (map (λ (v : ℕ × HeldSitEntry). v.0) new) ≡ length (take (quotient_up blocks 512) takers) = ap (λ (l : List ℕ). length l) t.segments in
          let mapped = length-map new (λ (v : ℕ × HeldSitEntry). v.0) in
          let taken = length-take (quotient_up blocks 512) takers in
          let low = w.low in
          omega (arith, size, mapped, taken, low)

  -- no segment takes data and nodes
  node_no_data : (segment j : ℕ) → j < r → get_or behind_data j 0 ≡ segment → is_among (take q targets) segment ≡ false
  node_no_data segment j few at = false_from_ne_true (is_among (take q targets) segment) (λ among.
      let t = first_at q targets segment among in
      let before = t.1 in
      let enough = free.enough in
      let e : t.0 ≡ q + j = free.different t.0 (q + j) t.2 (omega (arith, enough, few)) (t.3 ∙ sym at ∙ get_or-drop q targets j 0) in
      omega (arith, e, before))

  pub segment_is : (segment : ℕ) → DataSegment segment ⊎ (NodeSegment segment ⊎ OldSegment segment)
  segment_is segment = by_nodes (given_last g.node_new segment)
    where
      by_left : NoneFor g.node_new segment → NoneFor g.data_new segment → NoneFor g.left segment ⊎ LastFor g.left segment → OldSegment segment
      by_left no_node no_data left = record {
        no_data = ap (λ (l : List ℕ). is_among l segment) (sym g.data_taken.segments) ∙ no_data.absent;
        no_node = ap (λ (l : List ℕ). is_among l segment) (sym g.nodes_taken.segments) ∙ no_node.absent;
        is = ⊎_elim
            (λ (none : NoneFor g.left segment). inr (record { none = none; is = after_is segment None None None no_node.none no_data.none none.none }))
            (λ (w : LastFor g.left segment). inl (record { last = w; is = after_is segment None None (Some w.entry.1) no_node.none no_data.none w.found }))
            left;
      }

      by_data : NoneFor g.node_new segment → NoneFor g.data_new segment ⊎ LastFor g.data_new segment → DataSegment segment ⊎ (NodeSegment segment ⊎ OldSegment segment)
      by_data no_node (inl no_data) = inr (inr (by_left no_node no_data (given_last g.left segment)))
      by_data no_node (inr w) = inl (record {
        taken = taken_as targets 1 (length (moved_data image addrs)) segment g.data_new g.data_taken w (after_is segment None (Some w.entry.1) (given g.left segment) no_node.none w.found refl);
        no_node = ap (λ (l : List ℕ). is_among l segment) (sym g.nodes_taken.segments) ∙ no_node.absent;
      })

      by_nodes : NoneFor g.node_new segment ⊎ LastFor g.node_new segment → DataSegment segment ⊎ (NodeSegment segment ⊎ OldSegment segment)
      by_nodes (inl no_node) = by_data no_node (given_last g.data_new segment)
      by_nodes (inr w) =
          let t = taken_as behind_data 4 (length (moved_nodes image addrs)) segment g.node_new g.nodes_taken w (after_is segment (Some w.entry.1) (given g.data_new segment) (given g.left segment) w.found refl refl) in
          inr (inl (record { taken = t; no_data = node_no_data segment t.index t.few t.at }))

  -- those that take blocks were free
  pub data_free : (segment i : ℕ) → i < data_target_count image addrs → get_or targets i 0 ≡ segment → is_free image segment ≡ true
  data_free segment i few at = let room = data_room in subst (λ s. is_free image s ≡ true) at (free.free i 0 (omega (arith, few, room)))

  pub node_free : (segment j : ℕ) → j < node_target_count image addrs → get_or (node_targets image addrs targets) j 0 ≡ segment → is_free image segment ≡ true
  node_free segment j few at =
      let enough = free.enough in
      subst (λ s. is_free image s ≡ true) (sym (get_or-drop q targets j 0) ∙ at) (free.free (q + j) 0 (omega (arith, enough, few)))

  -- ---- what is left of an old one

  no_address : (segment : ℕ) → is_among (map (λ (w : ℕ × HeldSitEntry). w.0) g.left) segment ≡ false → (k : ℕ) → k < 512 → is_among g.addresses (segment_start (layout image) segment + k) ≡ false
  no_address segment absent k low = false_from_ne_true (is_among g.addresses (segment_start (layout image) segment + k)) (λ among.
      let t = among_at g.addresses (segment_start (layout image) segment + k) among in
      let at = t.2 in
      let own : segment_of (layout image) (get_or g.addresses t.0 0) ≡ segment = omega (arith, low, at) in
      let some = list_any_at (λ a. segment_of (layout image) a == segment) g.addresses t.0 0 t.1 (eq-eqb (segment_of (layout image) (get_or g.addresses t.0 0)) segment own) in
      false≢true (sym absent ∙ g.emptied.segments segment ∙ some))

  pub left_entry_is : (segment : ℕ) (w : LastFor g.left segment) → IsEmptied image g.addresses segment (sit_entry w.entry.1)
  left_entry_is segment w =
      subst (λ n. IsEmptied image g.addresses n (sit_entry w.entry.1)) w.number
      (subst (λ (v : ℕ × HeldSitEntry). IsEmptied image g.addresses v.0 (sit_entry v.1)) w.stands (g.emptied.entries w.index w.entry w.low))

  pub old_entry : (segment : ℕ) → segment < (layout image).segments → OldSegment segment → IsEmptied image g.addresses segment (sit_after image c segment)
  old_entry segment low old = by old.is
    where
      and_true : (b : Bool) → b ≡ (b && true)
      and_true true = refl
      and_true false = refl

      by : LeftSegment segment ⊎ KeptSegment segment → IsEmptied image g.addresses segment (sit_after image c segment)
      by (inl s) = subst (IsEmptied image g.addresses segment) (sym s.is) (left_entry_is segment s.last)
      by (inr s) = record {
        kind = ap (λ (e : SitEntry). e.kind) s.is;
        bits = λ k within.
            ap (λ (e : SitEntry). bit_msb e.map k) s.is ∙ and_true (is_block_valid image segment k)
            ∙ ap (λ b. is_block_valid image segment k && not b) (sym (no_address segment s.none.absent k within));
        count = ap (λ (e : SitEntry). e.count) s.is ∙ checked_count image h segment low ∙ ap (λ (e : SitEntry). count_below 512 (bit_msb e.map)) (sym s.is);
      }

  -- ---- marks, counts, types

  pub marks-shifted : (segment k : ℕ) → segment < (layout image).segments → k < 512
      → bit_msb (sit_after image c segment).map k ≡ ((is_block_valid image segment k && not (is_moving image addrs targets (segment_start (layout image) segment + k))) || is_taken image addrs targets (segment_start (layout image) segment + k))
  marks-shifted segment k low within = by (segment_is segment)
    where
      by : DataSegment segment ⊎ (NodeSegment segment ⊎ OldSegment segment)
          → bit_msb (sit_after image c segment).map k ≡ ((is_block_valid image segment k && not (is_moving image addrs targets (segment_start (layout image) segment + k))) || is_taken image addrs targets (segment_start (layout image) segment + k))
      by (inl s) =
          let t = s.taken in
          let unmarked = free_unmarked image h segment k (data_free segment t.index t.few t.at) within in
          let data_places = places_taken (layout image) targets (length (moved_data image addrs)) t.index segment k free.different data_room t.few t.at within in
          let node_places = places_untaken (layout image) behind_data (length (moved_nodes image addrs)) segment k node_room s.no_node within in
          t.is.bits k within ∙ sym (or_false (nat_lt (512 * t.index + k) (length (moved_data image addrs))))
          ∙ (λ i. (sym unmarked i && not (is_moving image addrs targets (segment_start (layout image) segment + k))) || (sym data_places i || sym node_places i))
      by (inr (inl s)) =
          let t = s.taken in
          let unmarked = free_unmarked image h segment k (node_free segment t.index t.few t.at) within in
          let data_places = places_untaken (layout image) targets (length (moved_data image addrs)) segment k data_room s.no_data within in
          let node_places = places_taken (layout image) behind_data (length (moved_nodes image addrs)) t.index segment k (different-drop q targets free.different) node_room t.few t.at within in
          t.is.bits k within
          ∙ (λ i. (sym unmarked i && not (is_moving image addrs targets (segment_start (layout image) segment + k))) || (sym data_places i || sym node_places i))
      by (inr (inr s)) =
          let data_places = places_untaken (layout image) targets (length (moved_data image addrs)) segment k data_room s.no_data within in
          let node_places = places_untaken (layout image) behind_data (length (moved_nodes image addrs)) segment k node_room s.no_node within in
          let moving = g.same (segment_start (layout image) segment + k) ∙ moving_is image h addrs mains rises targets free (segment_start (layout image) segment + k) in
          (old_entry segment low s).bits k within
          ∙ sym (or_false (is_block_valid image segment k && not (is_among g.addresses (segment_start (layout image) segment + k))))
          ∙ (λ i. (is_block_valid image segment k && not (moving i)) || (sym data_places i || sym node_places i))

  pub counts-shifted : (segment : ℕ) → segment < (layout image).segments → (sit_after image c segment).count ≡ count_below 512 (bit_msb (sit_after image c segment).map)
  counts-shifted segment low = by (segment_is segment)
    where
      by : DataSegment segment ⊎ (NodeSegment segment ⊎ OldSegment segment) → (sit_after image c segment).count ≡ count_below 512 (bit_msb (sit_after image c segment).map)
      by (inl s) = s.taken.is.count
      by (inr (inl s)) = s.taken.is.count
      by (inr (inr s)) = (old_entry segment low s).count

  pub data_kinds-shifted : (i : ℕ) → i < data_target_count image addrs → (sit_after image c (get_or targets i 0)).kind ≡ 1
  data_kinds-shifted i few = by (segment_is (get_or targets i 0))
    where
      there : is_among (take q targets) (get_or targets i 0) ≡ true
      there = let room = data_room in first_there q targets (get_or targets i 0) i few (omega (arith, few, room)) refl

      by : DataSegment (get_or targets i 0) ⊎ (NodeSegment (get_or targets i 0) ⊎ OldSegment (get_or targets i 0)) → (sit_after image c (get_or targets i 0)).kind ≡ 1
      by (inl s) = s.taken.is.kind
      by (inr (inl s)) = absurd (false≢true (sym s.no_data ∙ there))
      by (inr (inr s)) = absurd (false≢true (sym s.no_data ∙ there))

  pub node_kinds-shifted : (i : ℕ) → i < node_target_count image addrs → (sit_after image c (get_or (node_targets image addrs targets) i 0)).kind ≡ 4
  node_kinds-shifted i few = by (segment_is (get_or behind_data i 0))
    where
      there : is_among (take r behind_data) (get_or behind_data i 0) ≡ true
      there = let room = node_room in first_there r behind_data (get_or behind_data i 0) i few (omega (arith, few, room)) refl

      by : DataSegment (get_or behind_data i 0) ⊎ (NodeSegment (get_or behind_data i 0) ⊎ OldSegment (get_or behind_data i 0)) → (sit_after image c (get_or behind_data i 0)).kind ≡ 4
      by (inl s) = absurd (false≢true (sym s.no_node ∙ there))
      by (inr (inl s)) = s.taken.is.kind
      by (inr (inr s)) = absurd (false≢true (sym s.no_node ∙ there))

  pub old_kinds-shifted : (segment : ℕ) → is_free image segment ≡ false → (sit_after image c segment).kind ≡ (sit image segment).kind
  old_kinds-shifted segment used = by (segment_is segment)
    where
      by_old : LeftSegment segment ⊎ KeptSegment segment → (sit_after image c segment).kind ≡ (sit image segment).kind
      by_old (inl s) = ap (λ (e : SitEntry). e.kind) s.is ∙ (left_entry_is segment s.last).kind
      by_old (inr s) = ap (λ (e : SitEntry). e.kind) s.is

      by : DataSegment segment ⊎ (NodeSegment segment ⊎ OldSegment segment) → (sit_after image c segment).kind ≡ (sit image segment).kind
      by (inl s) = absurd (false≢true (sym used ∙ data_free segment s.taken.index s.taken.few s.taken.at))
      by (inr (inl s)) = absurd (false≢true (sym used ∙ node_free segment s.taken.index s.taken.few s.taken.at))
      by (inr (inr s)) = by_old s.is
