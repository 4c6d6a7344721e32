-- One batch more: what stands after it.
use Rattle.std.proofs.Common.{◌≡◌, ℕ, ◌+◌, ◌*◌, ◌/◌, ◌<◌, ◌≤◌, List, [], ◌∷◌, ◌++◌, true, false, cond, ◌==◌, ◌||◌, length, sum_by, All, refl, sym, ap, subst, ◌∙◌, ⊎_elim, arith}
use Rattle.std.specs.Prelude.{drop}
use Rattle.std.specs.Option.{option_map_or}
use Rattle.std.specs.List.{list_any}
use Rattle.std.proofs.lemmas.Bool.{or_cases, and_from, le-leb, lt-ltb, ne_eqb, cond-false}
use Rattle.std.proofs.lemmas.List.{get_or-drop, length-drop}
use Rattle.std.proofs.lemmas.List.Sums.{sum_by-cons}
use Rattle.std.proofs.lemmas.List.Elements.{All-head, All-tail, All-drop, All-filter, All-weaker}
use Rattle.f2_bytes.specs.declared.layout.Layout.{Layout}
use Rattle.f2_bytes.specs.Bytes.{Image, numbers_below}
use Rattle.f2_bytes.specs.Superblock.{layout, is_main}
use Rattle.f2_bytes.specs.NodeAddressTable.{nid_limit}
use Rattle.f2_bytes.specs.Check.{is_marked}
use Rattle.f2_bytes.specs.Support.{is_free}
use Rattle.f2_bytes.specs.Defragment.{Placement, placement, all_places, is_among, occupied, batch_need, move_need, moved_batch, Moves, after_batch, moves_after, main_end}
use Rattle.f2_commit.specs.Following.{Move, batch_moves, HasFollowed}
use Rattle.f2_commit.specs.Moves.{AreSamePlaces, HasMoved}
use Rattle.f2_commit.proofs.MoveDone.{away_from_hole, batch_placed}
use Rattle.f2_commit.proofs.MoveSame.{need_same, occupied_same, moves_same}
use Rattle.f2_reloc.specs.Emptying.{IsOutside, HasKept, HasReached, IsReady, valid_among, moves_along}
use Rattle.f2_reloc.proofs.Leaving.{IsAway, stood, left, later_few, later_less}
use Rattle.f2_reloc.proofs.Occupied.{among_filter, some_length, no_need, occupied_need, occupied_moved, occupied_moves}
use Rattle.f2_reloc.proofs.Standing.{stands, marked_stands, occupied_marked}

pub sum_less : (f g : List ℕ → ℕ) (xs : List (List ℕ)) → All (λ x. f x ≤ g x) xs → sum_by f xs ≤ sum_by g xs
sum_less f g [] all = omega arith
sum_less f g (x ∷ xs) all =
    let first = All-head (λ y. f y ≤ g y) x xs all in
    let rest = sum_less f g xs (All-tail (λ y. f y ≤ g y) x xs all) in
    let left_sum = sum_by-cons f x xs in
    let right_sum = sum_by-cons g x xs in
    omega (arith, first, rest, left_sum, right_sum)

need_parts : (nids : ℕ) (p : Placement) (part : List ℕ) (rest : List (List ℕ)) → move_need nids p (part ∷ rest) ≡ batch_need nids p part + move_need nids p rest
need_parts nids p part rest = sum_by-cons (batch_need nids p) part rest

-- targets outside of a range are away from its addresses
away : (l : Layout) (start end : ℕ) (targets : List ℕ) → All (IsOutside l start end) targets → (a : ℕ) → start ≤ a → a < end → IsAway l targets a
away l start end targets outside a low high n few at =
    ⊎_elim
    (λ above. omega (arith, above, at, high))
    (λ below. omega (arith, below, at, low))
    (outside (n / 512) 0 (omega (arith, few)))

same_stands : (nids : ℕ) (p q : Placement) → AreSamePlaces p q → (a : ℕ) → stands nids q a ≡ stands nids p a
same_stands nids p q same a = λ i.
    list_any (λ place. same.slots place.0 place.1 i == a) (all_places nids)
    || list_any (λ nid. option_map_or (λ x. x == a) (same.nodes nid i) false) (numbers_below nids)

module _ (image : Image) (start end : ℕ) (main : (layout image).main ≤ start) (inside : end ≤ main_end (layout image)) (m : Moves) (part : List ℕ) (rest : List (List ℕ)) (now : Image)
    (r : HasReached image start end m (part ∷ rest) now) where
  abbrev l : Layout
  l = layout image

  abbrev nids : ℕ
  nids = nid_limit (layout image)

  abbrev valid : List ℕ
  valid = valid_among now part

  range_main : (a : ℕ) → start ≤ a → a < end → is_main (layout now) a ≡ true
  range_main a low high =
      subst (λ (x : Layout). is_main x a ≡ true) (sym r.kept.areas)
      (and_from _ _ (le-leb (layout image).main a (omega (arith, main, low))) (lt-ltb a ((layout image).main + 512 * (layout image).segments) (omega (arith, inside, high))))

  part_main : All (λ a. is_main (layout now) a ≡ true) part
  part_main =
      All-weaker (λ a. (start ≤ a) × (a < end)) (λ a. is_main (layout now) a ≡ true) (λ a there. range_main a there.0 there.1) part
      (All-head (All (λ a. (start ≤ a) × (a < end))) part rest r.within)

  valid_main : All (λ a. is_main (layout now) a ≡ true) valid
  valid_main = All-filter (is_marked now) (λ a. is_main (layout now) a ≡ true) part part_main

  -- the valid blocks are those at which something stands
  valid_is : valid ≡ occupied nids m.placed part
  valid_is =
      sym (occupied_marked now r.kept.checked part part_main)
      ∙ (λ i. occupied (nid_limit (r.kept.areas i)) (placement now) part)
      ∙ occupied_same nids m.placed (placement now) r.placed part (away_from_hole now r.kept.checked part part_main)

  need_is : batch_need (nid_limit (layout now)) (placement now) valid ≡ batch_need nids m.placed part
  need_is =
      (λ i. batch_need (nid_limit (r.kept.areas i)) (placement now) valid)
      ∙ need_same nids m.placed (placement now) r.placed valid (away_from_hole now r.kept.checked valid valid_main)
      ∙ ap (batch_need nids m.placed) valid_is
      ∙ occupied_need nids m.placed part

  enough_first : batch_need nids m.placed part ≤ length m.targets
  enough_first = let all = r.enough in let parts = need_parts nids m.placed part rest in omega (arith, all, parts)

  pub ready : IsReady now part m.targets
  ready = record {
    checked = r.kept.checked;
    few = subst (λ (xs : List ℕ). length xs ≤ 4096) (sym valid_is) (All-head (λ b. length (occupied nids m.placed b) ≤ 4096) part rest r.few);
    serve = record { free = r.free; different = r.different; enough = subst (λ n. n ≤ length m.targets) (sym need_is) enough_first };
  }

  -- ---- nothing is there

  module _ (none : valid ≡ []) where
    unmarked : (a : ℕ) → is_among part a ≡ true → is_marked now a ≡ true → ⊥
    unmarked a among marked =
        let some = some_length valid a (among_filter (is_marked now) part a marked ∙ among) in
        let empty : length valid ≡ 0 = ap length none in
        omega (arith, some, empty)

    pub idle_same : after_batch l nids m part ≡ m
    idle_same =
        let empty : length (occupied nids m.placed part) ≡ 0 = ap length (sym valid_is ∙ none) in
        rw empty refl

    pub idle_along : moves_along l nids m (part ∷ rest) ≡ moves_along l nids m rest
    unfolding moves_along
    idle_along =
        let empty : length (occupied nids m.placed part) ≡ 0 = ap length (sym valid_is ∙ none) in
        (λ i. cond (empty i == 0) [] (batch_moves l nids part m.targets m.placed) ++ moves_along l nids (idle_same i) rest)

    pub idle_reached : HasReached image start end m rest now
    idle_reached = record {
      kept = r.kept;
      placed = r.placed;
      free = r.free;
      different = r.different;
      outside = r.outside;
      enough = let all = r.enough in let parts = need_parts nids m.placed part rest in omega (arith, all, parts);
      few = All-tail (λ b. length (occupied nids m.placed b) ≤ 4096) part rest r.few;
      within = All-tail (All (λ a. (start ≤ a) × (a < end))) part rest r.within;
      remain = λ a low high marked.
          ⊎_elim (λ first. absurd (unmarked a first marked)) (λ later. later)
          (or_cases (is_among part a) (list_any (λ b. is_among b a) rest) (r.remain a low high marked));
    }

  -- ---- the batch moved

  module _ (new : Image) (some : 1 ≤ length valid) (moved : HasMoved now new valid m.targets) (areas : layout new ≡ layout now) where
    abbrev next : Moves
    next = record {
      placed = moved_batch l nids part m.targets m.placed;
      targets = drop (batch_need nids m.placed part) m.targets;
      blocks = m.blocks + length (occupied nids m.placed part);
      batches = m.batches + 1;
    }

    pub done_is : after_batch l nids m part ≡ next
    done_is = cond-false (length (occupied nids m.placed part) == 0) m next (ne_eqb (length (occupied nids m.placed part)) 0 (λ e. let count = ap length (sym valid_is) in omega (arith, e, count, some)))

    -- the moves of the batch, and then those of the rest
    pub done_along : moves_along l nids m (part ∷ rest) ≡ batch_moves l nids part m.targets m.placed ++ moves_along l nids next rest
    unfolding moves_along
    done_along =
        let some_there : (length (occupied nids m.placed part) == 0) ≡ false = ne_eqb (length (occupied nids m.placed part)) 0 (λ e. let count = ap length (sym valid_is) in omega (arith, e, count, some)) in
        (λ i. cond (some_there i) [] (batch_moves l nids part m.targets m.placed) ++ moves_along l nids (done_is i) rest)

    -- all has followed them
    pub done_followed : HasFollowed (batch_moves l nids part m.targets m.placed) now new
    done_followed =
        let same : batch_moves (layout now) (nid_limit (layout now)) valid m.targets (placement now) ≡ batch_moves l nids part m.targets m.placed
        = (λ i. batch_moves (r.kept.areas i) (nid_limit (r.kept.areas i)) valid m.targets (placement now))
        ∙ moves_same nids m.placed (placement now) r.placed valid (away_from_hole now r.kept.checked valid valid_main) l m.targets
        ∙ ap (λ (xs : List ℕ). batch_moves l nids xs m.targets m.placed) valid_is
        ∙ occupied_moves nids m.placed part l m.targets in
        subst (λ (ms : List Move). HasFollowed ms now new) same moved.followed

    all_away : (a : ℕ) → start ≤ a → a < end → IsAway l m.targets a
    all_away = away l start end m.targets r.outside

    next_kept : HasKept image new
    next_kept = record {
      checked = moved.checked;
      same_tree = moved.same_tree ∙ r.kept.same_tree;
      areas = areas ∙ r.kept.areas;
      size = moved.blocks.size ∙ r.kept.size;
      copies = λ n low. moved.blocks.copies n low ∙ r.kept.copies n low;
      logs = λ t low. moved.blocks.logs t low ∙ r.kept.logs t low;
      user = moved.user ∙ r.kept.user;
      reserved = moved.reserved ∙ r.kept.reserved;
      overprovision = moved.overprovision ∙ r.kept.overprovision;
    }

    placed_is : moved_batch (layout now) (nid_limit (layout now)) valid m.targets m.placed ≡ moved_batch l nids part m.targets m.placed
    placed_is = (λ i. moved_batch (r.kept.areas i) (nid_limit (r.kept.areas i)) (valid_is i) m.targets m.placed) ∙ occupied_moved nids m.placed part l m.targets

    next_placed : AreSamePlaces (moved_batch l nids part m.targets m.placed) (placement new)
    next_placed = subst (λ (p : Placement). AreSamePlaces p (placement new)) placed_is (batch_placed now new valid m.targets m.placed r.kept.checked valid_main moved r.placed)

    new_main : (a : ℕ) → start ≤ a → a < end → is_main (layout new) a ≡ true
    new_main a low high = subst (λ (x : Layout). is_main x a ≡ true) (sym areas) (range_main a low high)

    -- a block that is marked afterwards was, and was none of the batch
    was_marked : (a : ℕ) → start ≤ a → a < end → is_marked new a ≡ true → (is_marked now a ≡ true) × (is_among part a ≡ true → ⊥)
    was_marked a low high marked =
        let there : stands nids (moved_batch l nids part m.targets m.placed) a ≡ true
        = sym (same_stands nids (moved_batch l nids part m.targets m.placed) (placement new) next_placed a) ∙ sym (λ i. stands (nid_limit (next_kept.areas i)) (placement new) a)
        ∙ sym (marked_stands new moved.checked a (new_main a low high)) ∙ marked in
        let before = stood l nids m.placed part m.targets enough_first a (all_away a low high) there in (
          marked_stands now r.kept.checked a (range_main a low high)
              ∙ (λ i. stands (nid_limit (r.kept.areas i)) (placement now) a)
              ∙ same_stands nids m.placed (placement now) r.placed a ∙ before,
          λ among. left l nids m.placed part m.targets enough_first a (all_away a low high) among there,
        )

    rest_away : All (λ b. All (IsAway l m.targets) b) rest
    rest_away =
        All-weaker (All (λ a. (start ≤ a) × (a < end))) (All (IsAway l m.targets))
        (λ b each. All-weaker (λ a. (start ≤ a) × (a < end)) (IsAway l m.targets) (λ a there. all_away a there.0 there.1) b each) rest
        (All-tail (All (λ a. (start ≤ a) × (a < end))) part rest r.within)

    pub done_reached : HasReached image start end next rest new
    done_reached = record {
      kept = next_kept;
      placed = next_placed;
      free = subst (λ n. All (λ segment. is_free new segment ≡ true) (drop n m.targets)) need_is moved.left_free;
      different = λ i j low_i low_j same.
          let need = batch_need nids m.placed part in
          let long = length-drop need m.targets in
          let apart : need + i ≡ need + j = r.different (need + i) (need + j) (omega (arith, low_i, long)) (omega (arith, low_j, long)) (sym (get_or-drop need m.targets i 0) ∙ same ∙ get_or-drop need m.targets j 0) in
          omega (arith, apart);
      outside = All-drop (IsOutside l start end) (batch_need nids m.placed part) m.targets r.outside;
      enough =
          let all = r.enough in
          let parts = need_parts nids m.placed part rest in
          let long = length-drop (batch_need nids m.placed part) m.targets in
          let less = sum_less (batch_need nids (moved_batch l nids part m.targets m.placed)) (batch_need nids m.placed) rest
          (All-weaker (λ b. All (IsAway l m.targets) b) (λ b. batch_need nids (moved_batch l nids part m.targets m.placed) b ≤ batch_need nids m.placed b) (λ b aways. later_less l nids m.placed part m.targets enough_first b aways) rest rest_away) in
          omega (arith, all, parts, long, less);
      few = λ k d low.
          let before = All-tail (λ b. length (occupied nids m.placed b) ≤ 4096) part rest r.few k d low in
          let less = later_few l nids m.placed part m.targets enough_first _ (rest_away k d low) in
          omega (arith, before, less);
      within = All-tail (All (λ a. (start ≤ a) × (a < end))) part rest r.within;
      remain = λ a low high marked.
          let was = was_marked a low high marked in
          ⊎_elim (λ first. absurd (was.1 first)) (λ later. later)
          (or_cases (is_among part a) (list_any (λ b. is_among b a) rest) (r.remain a low high was.0));
    }

    -- as many blocks and targets as it took
    pub done_count : length (occupied nids m.placed part) ≡ length valid
    done_count = ap length (sym valid_is)

    pub done_left : drop (batch_need (nid_limit (layout now)) (placement now) valid) m.targets ≡ drop (batch_need nids m.placed part) m.targets
    done_left = ap (λ n. drop n m.targets) need_is

-- where no segment is needed for the batches that remain, none has a block
pub no_moves : (image : Image) (start end : ℕ) → (layout image).main ≤ start → end ≤ main_end (layout image) → (m : Moves) (rest : List (List ℕ)) (now : Image) → HasReached image start end m rest now
    → move_need (nid_limit (layout image)) m.placed rest ≡ 0
    → HasReached image start end m [] now × (moves_after (layout image) (nid_limit (layout image)) m rest ≡ m) × (moves_along (layout image) (nid_limit (layout image)) m rest ≡ [])
unfolding moves_after moves_along
no_moves image start end main inside m [] now r none = (r, refl, refl)
no_moves image start end main inside m (part ∷ rest) now r none =
    let parts = need_parts (nid_limit (layout image)) m.placed part rest in
    let empty : valid_among now part ≡ [] = valid_is image start end main inside m part rest now r ∙ no_need (nid_limit (layout image)) m.placed part (omega (arith, none, parts)) in
    let later = no_moves image start end main inside m rest now (idle_reached image start end main inside m part rest now r empty) (omega (arith, none, parts)) in
    (later.0, ap (λ (x : Moves). moves_after (layout image) (nid_limit (layout image)) x rest) (idle_same image start end main inside m part rest now r empty) ∙ later.1, idle_along image start end main inside m part rest now r empty ∙ later.2)
