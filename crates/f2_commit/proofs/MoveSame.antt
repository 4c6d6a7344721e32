-- A batch moves the same where everything stands at the same places.
use Rattle.std.proofs.Common.{◌≡◌, ℕ, ◌+◌, inl, inr, List, ◌++◌, false, ◌==◌, ◌&&◌, ◌||◌, cond, filter, map, length, All, Option, Some, None, refl, sym, ap, ◌∙◌}
use Rattle.std.specs.Prelude.{drop, option_map, unwrap_or}
use Rattle.std.specs.Option.{option_map_or}
use Rattle.std.specs.List.{list_any}
use Rattle.std.proofs.lemmas.Bool.{eqb-true, cases_eq, false_from_ne_true}
use Rattle.std.proofs.lemmas.List.Elements.{All-filter}
use Rattle.std.proofs.lemmas.List.Folds.{Any-from_list_any}
use Rattle.f2_bytes.specs.declared.layout.Layout.{Layout}
use Rattle.f2_bytes.specs.Bytes.{numbers_below, quotient_up}
use Rattle.f2_bytes.specs.Defragment.{Placement, all_places, is_among, data_among, is_covered, nodes_among, batch_need, put_at, moved_batch, occupied}
use Rattle.f2_commit.specs.Following.{batch_moves}
use Rattle.f2_commit.specs.Moves.{AreSamePlaces}
use Rattle.f2_commit.proofs.MoveTargets.{put_number}

pub same_places-refl : (p : Placement) → AreSamePlaces p p
same_places-refl p = record { nodes = λ nid. refl; slots = λ ino k. refl; extents = λ ino. refl; holders = λ ino k some. refl }

pub same_places-then : (p q r : Placement) → AreSamePlaces p q → AreSamePlaces q r → AreSamePlaces p r
same_places-then p q r first second = record {
  nodes = λ nid. second.nodes nid ∙ first.nodes nid;
  slots = λ ino k. second.slots ino k ∙ first.slots ino k;
  extents = λ ino. second.extents ino ∙ first.extents ino;
  holders = λ ino k some. second.holders ino k (λ hole. some (sym (first.slots ino k) ∙ hole)) ∙ first.holders ino k some;
}

-- where no address is 0, no hole is among the data
no_hole : (nids : ℕ) (p : Placement) (addresses : List ℕ) → All (λ a. a ≡ 0 → ⊥) addresses → All (λ a. a ≡ 0 → ⊥) (data_among nids p addresses)
unfolding data_among
no_hole nids p addresses away = All-filter (λ address. list_any (λ place. p.slot place.0 place.1 == address) (all_places nids)) (λ a. a ≡ 0 → ⊥) addresses away

hole_apart : (xs : List ℕ) → All (λ a. a ≡ 0 → ⊥) xs → is_among xs 0 ≡ false
hole_apart xs away = false_from_ne_true _ (λ any.
    let t = Any-from_list_any (λ y. y == 0) xs any in
    away t.0 t.1 t.2 (t.3 ∙ eqb-true t.1 0 t.4))

hole_stays : (l : Layout) (targets moved : List ℕ) → All (λ a. a ≡ 0 → ⊥) moved → unwrap_or (put_at l targets moved 0) 0 ≡ 0
hole_stays l targets moved away = go (put_at l targets moved 0) refl
  where
    go : (o : Option ℕ) → put_at l targets moved 0 ≡ o → unwrap_or o 0 ≡ 0
    go None at = refl
    go (Some place) at =
        let t = put_number l targets moved 0 place at in
        absurd (away t.0 0 t.1 t.2)

module _ (nids : ℕ) (p q : Placement) (same : AreSamePlaces p q) (addresses : List ℕ) (away : All (λ a. a ≡ 0 → ⊥) addresses) where
  pub data_same : data_among nids q addresses ≡ data_among nids p addresses
  unfolding data_among
  data_same = λ i. filter (λ a. list_any (λ place. same.slots place.0 place.1 i == a) (all_places nids)) addresses

  -- a block that moves is held by the same node
  held_same : (nid : ℕ) (place : ℕ × ℕ) → (is_among (data_among nids q addresses) (q.slot place.0 place.1) && (q.holder place.0 place.1 == nid)) ≡ (is_among (data_among nids p addresses) (p.slot place.0 place.1) && (p.holder place.0 place.1 == nid))
  held_same nid place = elim (cases_eq (p.slot place.0 place.1) 0) [
    | inl hole ↦
        let none : is_among (data_among nids p addresses) (p.slot place.0 place.1) ≡ false = ap (is_among (data_among nids p addresses)) hole ∙ hole_apart (data_among nids p addresses) (no_hole nids p addresses away) in
        (λ i. is_among (data_same i) (same.slots place.0 place.1 i) && (q.holder place.0 place.1 == nid))
        ∙ ap (λ b. b && (q.holder place.0 place.1 == nid)) none
        ∙ sym (ap (λ b. b && (p.holder place.0 place.1 == nid)) none)
    | inr some ↦ λ i. is_among (data_same i) (same.slots place.0 place.1 i) && (same.holders place.0 place.1 some i == nid)
  ]

  pub nodes_same : nodes_among nids q addresses ≡ nodes_among nids p addresses
  unfolding nodes_among
  nodes_same = λ i.
      filter (λ nid. option_map_or (is_among addresses) (same.nodes nid i) false
      || list_any (λ place. held_same nid place i) (all_places nids)
      || list_any (is_covered (same.extents nid i)) (data_same i)) (numbers_below nids)

  pub need_same : batch_need nids q addresses ≡ batch_need nids p addresses
  need_same = λ i. quotient_up (length (data_same i)) 512 + quotient_up (length (nodes_same i)) 512

  pub occupied_same : occupied nids q addresses ≡ occupied nids p addresses
  occupied_same = λ i.
      filter (λ a. list_any (λ place. same.slots place.0 place.1 i == a) (all_places nids)
      || list_any (λ nid. option_map_or (λ x. x == a) (same.nodes nid i) false) (numbers_below nids)) addresses

  pub moves_same : (l : Layout) (targets : List ℕ) → batch_moves l nids addresses targets q ≡ batch_moves l nids addresses targets p
  unfolding batch_moves
  moves_same l targets = λ i.
      map (λ a. record { from = a; to = unwrap_or (put_at l targets (data_same i) a) a }) (data_same i)
      ++ map (λ nid. record {
        from = unwrap_or (same.nodes nid i) 0;
        to = unwrap_or (put_at l (drop (quotient_up (length (data_same i)) 512) targets) (nodes_same i) nid) (unwrap_or (same.nodes nid i) 0);
      }) (nodes_same i)

  pub batch_same : (l : Layout) (targets : List ℕ) → AreSamePlaces (moved_batch l nids addresses targets p) (moved_batch l nids addresses targets q)
  unfolding moved_batch
  batch_same l targets = record {
    nodes = λ nid i. option_map (λ old. unwrap_or (put_at l (drop (quotient_up (length (data_same i)) 512) targets) (nodes_same i) nid) old) (same.nodes nid i);
    slots = λ ino k i. unwrap_or (put_at l targets (data_same i) (same.slots ino k i)) (same.slots ino k i);
    extents = λ ino i. cond (list_any (is_covered (same.extents ino i)) (data_same i)) (0, 0) (same.extents ino i);
    holders = λ ino k some. same.holders ino k (λ hole. some (ap (λ x. unwrap_or (put_at l targets (data_among nids p addresses) x) x) hole ∙ hole_stays l targets (data_among nids p addresses) (no_hole nids p addresses away)));
  }
