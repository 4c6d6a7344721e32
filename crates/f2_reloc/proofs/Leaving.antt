-- What stands at an address that no target holds: nothing comes there, and what a batch moves from there leaves.
use Rattle.std.proofs.Common.{◌≡◌, ℕ, ◌+◌, ◌*◌, ◌<◌, ◌≤◌, List, true, false, ◌==◌, length, get_or, All, Option, Some, None, refl, sym, ap, ◌∙◌, ⊎_elim, arith}
use Rattle.std.specs.Prelude.{drop, option_map, unwrap_or}
use Rattle.std.specs.Option.{option_map_or}
use Rattle.std.proofs.lemmas.Bool.{or_cases, or_left, or_right, eqb-true, eq-eqb, ne_eqb, false≢true}
use Rattle.std.proofs.lemmas.List.Elements.{All-from_get_or}
use Rattle.std.proofs.lemmas.List.Folds.{Any-from_list_any, list_any_at, list_any_none}
use Rattle.f2_bytes.specs.declared.layout.Layout.{Layout}
use Rattle.f2_bytes.specs.Defragment.{Placement, all_places, is_among, data_among, nodes_among, data_segments, batch_need, put_at, target_block, moved_batch, occupied}
use Rattle.f2_bytes.proofs.Below.{found_below, some_below}
use Rattle.f2_commit.proofs.MoveAmong.{put_there_some}
use Rattle.f2_commit.proofs.MoveLater.{later_need}
use Rattle.f2_commit.proofs.MoveTargets.{put_number, behind, enough_room}
use Rattle.f2_reloc.proofs.Occupied.{slot_moves, node_moves, fewer}
use Rattle.f2_reloc.proofs.Standing.{has_slot, has_node, stands}

-- no block of the targets is at this address
abbrev pub IsAway : Layout → List ℕ → ℕ → Type 0
IsAway l targets a = (n : ℕ) → n < 512 * length targets → target_block l targets n ≡ a → ⊥

module _ (l : Layout) (nids : ℕ) (p : Placement) (addresses targets : List ℕ) (enough : batch_need nids p addresses ≤ length targets) where
  after : Placement
  after = moved_batch l nids addresses targets p

  -- a block that has the address afterwards had it before, and is none of those that move
  slot_stays : (a : ℕ) → IsAway l targets a → (ino k : ℕ) → after.slot ino k ≡ a → (p.slot ino k ≡ a) × (put_at l targets (data_among nids p addresses) a ≡ None)
  unfolding after moved_batch
  slot_stays a away ino k at = go (put_at l targets (data_among nids p addresses) (p.slot ino k)) refl at
    where
      go : (o : Option ℕ) → put_at l targets (data_among nids p addresses) (p.slot ino k) ≡ o → unwrap_or o (p.slot ino k) ≡ a
          → (p.slot ino k ≡ a) × (put_at l targets (data_among nids p addresses) a ≡ None)
      go None put same = (same, ap (put_at l targets (data_among nids p addresses)) (sym same) ∙ put)
      go (Some place) put same =
          let t = put_number l targets (data_among nids p addresses) (p.slot ino k) place put in
          let room = enough_room t.0 (length (data_among nids p addresses)) t.1 in
          absurd (away t.0 (omega (arith, room, enough)) (sym t.3 ∙ same))

  node_stays : (a : ℕ) → IsAway l targets a → (nid : ℕ) → option_map_or (λ x. x == a) (after.node nid) false ≡ true
      → (p.node nid ≡ Some a) × (put_at l (drop (data_segments nids p addresses) targets) (nodes_among nids p addresses) nid ≡ None)
  unfolding after moved_batch
  node_stays a away nid here = by_old (p.node nid) refl here
    where
      d : ℕ
      d = data_segments nids p addresses

      by_put : (old : ℕ) → p.node nid ≡ Some old → (o : Option ℕ) → put_at l (drop (data_segments nids p addresses) targets) (nodes_among nids p addresses) nid ≡ o → (unwrap_or o old == a) ≡ true
          → (p.node nid ≡ Some a) × (put_at l (drop (data_segments nids p addresses) targets) (nodes_among nids p addresses) nid ≡ None)
      by_put old at None put same = (at ∙ ap (λ x. Some x) (eqb-true old a same), put)
      by_put old at (Some place) put same =
          let t = put_number l (drop (data_segments nids p addresses) targets) (nodes_among nids p addresses) nid place put in
          let room = enough_room t.0 (length (nodes_among nids p addresses)) t.1 in
          absurd (away (512 * data_segments nids p addresses + t.0) (omega (arith, room, enough)) (sym (t.3 ∙ behind l targets (data_segments nids p addresses) t.0) ∙ eqb-true place a same))

      by_old : (o : Option ℕ) → p.node nid ≡ o
          → option_map_or (λ x. x == a) (option_map (λ old. unwrap_or (put_at l (drop (data_segments nids p addresses) targets) (nodes_among nids p addresses) nid) old) o) false ≡ true
          → (p.node nid ≡ Some a) × (put_at l (drop (data_segments nids p addresses) targets) (nodes_among nids p addresses) nid ≡ None)
      by_old None at none = absurd (false≢true none)
      by_old (Some old) at same = by_put old at (put_at l (drop (data_segments nids p addresses) targets) (nodes_among nids p addresses) nid) refl same

  has_slot_before : (a : ℕ) → IsAway l targets a → has_slot nids (moved_batch l nids addresses targets p) a ≡ true
      → (has_slot nids p a ≡ true) × (put_at l targets (data_among nids p addresses) a ≡ None)
  unfolding after
  has_slot_before a away there =
      let u = Any-from_list_any (λ place. after.slot place.0 place.1 == a) (all_places nids) there in
      let was = slot_stays a away u.1.0 u.1.1 (eqb-true (after.slot u.1.0 u.1.1) a u.4) in
      (list_any_at (λ place. p.slot place.0 place.1 == a) (all_places nids) u.0 u.1 u.2 (ap (λ (place : ℕ × ℕ). p.slot place.0 place.1 == a) u.3 ∙ eq-eqb (p.slot u.1.0 u.1.1) a was.0), was.1)

  -- what stands there afterwards stood there before
  pub stood : (a : ℕ) → IsAway l targets a → stands nids (moved_batch l nids addresses targets p) a ≡ true → stands nids p a ≡ true
  unfolding after
  stood a away there =
      ⊎_elim
      (λ slot. or_left (has_slot nids p a) (has_node nids p a) (has_slot_before a away slot).0)
      (λ node.
      let f = found_below (λ nid. option_map_or (λ x. x == a) (after.node nid) false) nids node in
      let was = node_stays a away f.0 f.2 in
      or_right (has_slot nids p a) (has_node nids p a)
      (some_below (λ nid. option_map_or (λ x. x == a) (p.node nid) false) nids f.0 f.1 (ap (λ o. option_map_or (λ x. x == a) o false) was.0 ∙ eq-eqb a a refl)))
      (or_cases (has_slot nids (moved_batch l nids addresses targets p) a) (has_node nids (moved_batch l nids addresses targets p) a) there)

  -- and was at none of the addresses of the batch
  pub left : (a : ℕ) → IsAway l targets a → is_among addresses a ≡ true → stands nids (moved_batch l nids addresses targets p) a ≡ true → ⊥
  unfolding after
  left a away among there =
      ⊎_elim
      (λ slot.
      let was = has_slot_before a away slot in
      put_there_some l targets (data_among nids p addresses) a (slot_moves nids p addresses a among was.0) was.1)
      (λ node.
      let f = found_below (λ nid. option_map_or (λ x. x == a) (after.node nid) false) nids node in
      let was = node_stays a away f.0 f.2 in
      put_there_some l (drop (data_segments nids p addresses) targets) (nodes_among nids p addresses) f.0 (node_moves nids p addresses f.0 a f.1 among was.0) was.1)
      (or_cases (has_slot nids (moved_batch l nids addresses targets p) a) (has_node nids (moved_batch l nids addresses targets p) a) there)

  module _ (next : List ℕ) (aways : All (IsAway l targets) next) where
    -- a later batch has no more blocks, and needs no more segments
    pub later_few : length (occupied nids (moved_batch l nids addresses targets p) next) ≤ length (occupied nids p next)
    later_few =
        fewer (stands nids (moved_batch l nids addresses targets p)) (stands nids p) next
        (All-from_get_or (λ a. stands nids (moved_batch l nids addresses targets p) a ≡ true → stands nids p a ≡ true) next 0 (λ i low. stood (get_or next i 0) (aways i 0 low)))

    pub later_less : batch_need nids (moved_batch l nids addresses targets p) next ≤ batch_need nids p next
    later_less =
        later_need l nids p addresses targets next (λ n low.
        list_any_none (λ y. y == target_block l targets n) next (λ k d inside. ne_eqb (get_or next k d) (target_block l targets n) (λ e. aways k d inside n (omega (arith, low, enough)) (sym e))))
