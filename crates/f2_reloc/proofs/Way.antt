-- The way from the first batch of a range to its end.
use Rattle.std.proofs.Common.{◌≡◌, ℕ, ◌+◌, ◌<◌, ◌≤◌, inl, inr, List, [], ◌∷◌, ◌++◌, append_assoc, append-nil, Bool, true, false, ◌==◌, ◌||◌, nat_le, filter, length, get_or, All, refl, sym, ap, subst, ◌∙◌, ⊎_elim, arith}
use Rattle.std.specs.Prelude.{drop}
use Rattle.std.specs.List.Sorted.{IsStrictlyIncreasing}
use Rattle.std.proofs.lemmas.Bool.{and_parts, or_cases, leb-true, ne_eqb, cond-false, false_from_ne_true, false≢true}
use Rattle.std.proofs.lemmas.List.Elements.{All-filter, All-weaker, filter_passes}
use Rattle.std.proofs.lemmas.List.Kept.{IsStrictlyIncreasing-filter}
use Rattle.f2_bytes.specs.declared.layout.Layout.{Layout}
use Rattle.f2_bytes.specs.Bytes.{Image, IsBlock, block_at, numbers_below}
use Rattle.f2_bytes.specs.Checkpoint.{head, next_free_nid}
use Rattle.f2_bytes.specs.Superblock.{layout, is_main, segment_start, segment_of}
use Rattle.f2_bytes.specs.NodeAddressTable.{nid_limit}
use Rattle.f2_bytes.specs.Check.{is_checked, is_marked}
use Rattle.f2_bytes.specs.Support.{is_free, free_segments}
use Rattle.f2_bytes.specs.Defragment.{placement, occupied, batch_need, move_need, moved_batch, move_targets, Moves, moves_after, main_end, defrag_batches, defrag_targets, defrag_need, defrag_have, defrag_moves}
use Rattle.f2_bytes.proofs.ValidAddresses.{valid_none}
use Rattle.f2_commit.specs.Following.{Move, batch_moves, HasFollowed}
use Rattle.f2_commit.specs.FreeNids.{least_free_nid}
use Rattle.f2_commit.specs.Moves.{AreSamePlaces, HasMoved}
use Rattle.f2_commit.proofs.FollowLaw.{moves_follow_each_other}
use Rattle.f2_commit.proofs.FollowNothing.{nothing_followed}
use Rattle.f2_commit.proofs.MoveSame.{same_places-refl}
use Rattle.f2_reloc.specs.Emptying.{IsOutside, HasReached, IsOnWay, IsReady, IsIdle, IsDone, HasStepped, IsEmptied, valid_among, moved_with, moves_along, all_moves}
use Rattle.f2_commit.specs.declared.relocating.Moved.{Moved}
use Rattle.f2_reloc.specs.declared.moving.Step.{Step}
use Rattle.f2_reloc.proofs.Cuts.{batches_few, batches_have, batches_within}
use Rattle.f2_reloc.proofs.Distinct.{AreDifferent, different_from_rising, different-reverse, All-reverse, numbers_rise}
use Rattle.f2_reloc.proofs.Progress.{ready, idle_same, idle_along, idle_reached, done_is, done_along, done_followed, done_reached, done_count, done_left, no_moves}

-- ---- the way with its numbers

module _ (image : Image) (start end target : ℕ) (down : Bool) (main : (layout image).main ≤ start) (inside : end ≤ main_end (layout image)) (targets : List ℕ) (moved : Moved) where
  -- the first batch that remains can move
  pub way_ready : (part : List ℕ) (rest : List (List ℕ)) (now : Image) → IsOnWay image start end target down targets moved (part ∷ rest) now → IsReady now part targets
  way_ready part rest now w = subst (λ ts. IsReady now part ts) w.left (ready image start end main inside w.moves part rest now w.reached)

  way_idle : (part : List ℕ) (rest : List (List ℕ)) (now : Image) (step : Step) (new : Image) → IsOnWay image start end target down targets moved (part ∷ rest) now → IsIdle now part step new
      → IsOnWay image start end target down (drop step.targets targets) (moved_with moved step) rest new
  unfolding moves_after
  way_idle part rest now step new w idle = record {
    moves = w.moves;
    reached = subst (HasReached image start end w.moves rest) (sym idle.same) (idle_reached image start end main inside w.moves part rest now w.reached idle.none);
    leads = ap (λ (x : Moves). moves_after (layout image) (nid_limit (layout image)) x rest) (sym (idle_same image start end main inside w.moves part rest now w.reached idle.none)) ∙ w.leads;
    done = w.done;
    followed = subst (HasFollowed w.done image) (sym idle.same) w.followed;
    ahead = ap (λ (ms : List Move). w.done ++ ms) (sym (idle_along image start end main inside w.moves part rest now w.reached idle.none)) ∙ w.ahead;
    next_free = λ some.
        let same : (moved_with moved step).batches ≡ moved.batches = rw idle.blocks (omega arith) in
        subst (λ (x : Image). next_free_nid (head x) ≡ least_free_nid x) (sym idle.same) (w.next_free (subst (λ n. 1 ≤ n) same some));
    left = w.left ∙ ap (λ n. drop n targets) (sym idle.taken);
    blocks = let same = w.blocks in let none = idle.blocks in omega (arith, same, none);
    batches = w.batches ∙ sym (rw idle.blocks (omega arith));
  }

  way_done : (part : List ℕ) (rest : List (List ℕ)) (now : Image) (step : Step) (new : Image) → IsOnWay image start end target down targets moved (part ∷ rest) now → IsDone now part targets step new
      → IsOnWay image start end target down (drop step.targets targets) (moved_with moved step) rest new
  unfolding moves_after
  way_done part rest now step new w done = go w.moves w.reached w.leads w.ahead w.left w.blocks w.batches
    where
      counted : (moved_with moved step).batches ≡ moved.batches + 1
      counted = ap (λ n. moved.batches + n) (cond-false (step.blocks == 0) 0 1 (ne_eqb step.blocks 0 (λ e. let some = done.some in omega (arith, e, some))))

      taken : batch_need (nid_limit (layout now)) (placement now) (valid_among now part) ≡ step.targets
      taken = sym done.taken

      go : (m : Moves) → HasReached image start end m (part ∷ rest) now → moves_after (layout image) (nid_limit (layout image)) m (part ∷ rest) ≡ defrag_moves image start end target down
          → w.done ++ moves_along (layout image) (nid_limit (layout image)) m (part ∷ rest) ≡ all_moves image start end target down → m.targets ≡ targets → m.blocks ≡ moved.blocks → m.batches ≡ moved.batches
          → IsOnWay image start end target down (drop step.targets targets) (moved_with moved step) rest new
      go m r leads ahead left blocks batches =
          let has : HasMoved now new (valid_among now part) m.targets = subst (HasMoved now new (valid_among now part)) (sym left) done.moved in
          let count = done.blocks in
          let first = done.some in
          let some : 1 ≤ length (valid_among now part) = omega (arith, first, count) in
          let long = done_count image start end main inside m part rest now r new some has done.areas in
          record {
            moves = record {
              placed = moved_batch (layout image) (nid_limit (layout image)) part m.targets m.placed;
              targets = drop (batch_need (nid_limit (layout image)) m.placed part) m.targets;
              blocks = m.blocks + length (occupied (nid_limit (layout image)) m.placed part);
              batches = m.batches + 1;
            };
            reached = done_reached image start end main inside m part rest now r new some has done.areas;
            leads = ap (λ (x : Moves). moves_after (layout image) (nid_limit (layout image)) x rest) (sym (done_is image start end main inside m part rest now r new some has done.areas)) ∙ leads;
            done = w.done ++ batch_moves (layout image) (nid_limit (layout image)) part m.targets m.placed;
            followed = moves_follow_each_other w.done (batch_moves (layout image) (nid_limit (layout image)) part m.targets m.placed) image now new w.followed (done_followed image start end main inside m part rest now r new some has done.areas);
            ahead = append_assoc w.done (batch_moves (layout image) (nid_limit (layout image)) part m.targets m.placed) _
                ∙ ap (λ (ms : List Move). w.done ++ ms) (sym (done_along image start end main inside m part rest now r new some has done.areas)) ∙ ahead;
            next_free = λ _. has.next_free;
            left = sym (done_left image start end main inside m part rest now r new some has done.areas) ∙ (λ i. drop (taken i) (left i));
            blocks = omega (arith, blocks, long, count);
            batches = ap (λ n. n + 1) batches ∙ sym counted;
          }

  pub way_on : (part : List ℕ) (rest : List (List ℕ)) (now : Image) (step : Step) (new : Image) → IsOnWay image start end target down targets moved (part ∷ rest) now → HasStepped now part targets step new
      → IsOnWay image start end target down (drop step.targets targets) (moved_with moved step) rest new
  way_on part rest now step new w (inl idle) = way_idle part rest now step new w idle
  way_on part rest now step new w (inr done) = way_done part rest now step new w done

  -- at its end the range is empty
  pub way_ends : (now : Image) → IsOnWay image start end target down targets moved [] now → defrag_need image start end ≤ defrag_have image start end target down → IsEmptied image start end target down now moved
  unfolding moves_after moves_along
  way_ends now w enough = record {
    kept = w.reached.kept;
    placed = subst (λ (x : Moves). AreSamePlaces x.placed (placement now)) w.leads w.reached.placed;
    blocks = sym w.blocks ∙ ap (λ (x : Moves). x.blocks) w.leads;
    batches = sym w.batches ∙ ap (λ (x : Moves). x.batches) w.leads;
    empty = sym (valid_none now start end (λ a low high.
        false_from_ne_true _ (λ valid. false≢true (w.reached.remain a low high (and_parts (is_main (layout now) a) (is_marked now a) valid).1))));
    enough = enough;
    followed = subst (λ (ms : List Move). HasFollowed ms image now) (sym (append-nil w.done) ∙ w.ahead) w.followed;
    next_free = w.next_free;
  }

moves_end : (l : Layout) (nids : ℕ) (m : Moves) → moves_after l nids m [] ≡ m
unfolding moves_after
moves_end l nids m = refl

along_end : (l : Layout) (nids : ℕ) (m : Moves) → moves_along l nids m [] ≡ []
unfolding moves_along
along_end l nids m = refl

-- where nothing is to move, the way is at its end
pub way_short : (image : Image) (start end target : ℕ) (down : Bool) (main : (layout image).main ≤ start) (inside : end ≤ main_end (layout image)) (targets : List ℕ) (moved : Moved) (rest : List (List ℕ)) (now : Image)
    → (w : IsOnWay image start end target down targets moved rest now) → move_need (nid_limit (layout image)) w.moves.placed rest ≡ 0 → IsOnWay image start end target down targets moved [] now
way_short image start end target down main inside targets moved rest now w none =
    let short = no_moves image start end main inside w.moves rest now w.reached none in
    record {
      moves = w.moves;
      reached = short.0;
      leads = stop w.moves ∙ sym short.1 ∙ w.leads;
      done = w.done;
      followed = w.followed;
      ahead = ap (λ (ms : List Move). w.done ++ ms) (none_along w.moves ∙ sym short.2) ∙ w.ahead;
      next_free = w.next_free;
      left = w.left;
      blocks = w.blocks;
      batches = w.batches;
    }
  where
    stop : (m : Moves) → moves_after (layout image) (nid_limit (layout image)) m [] ≡ m
    stop m = moves_end (layout image) (nid_limit (layout image)) m

    none_along : (m : Moves) → moves_along (layout image) (nid_limit (layout image)) m [] ≡ []
    none_along m = along_end (layout image) (nid_limit (layout image)) m

-- ---- the start

module _ (image : Image) (h : is_checked image ≡ true) (bytes : (n : ℕ) → n < length image → IsBlock (block_at image n)) (start end target : ℕ) (down : Bool) (main : (layout image).main ≤ start) where
  abbrev batches : List (List ℕ)
  batches = defrag_batches image start end

  chosen : (segment : ℕ) → Bool
  chosen segment = nat_le end (segment_start (layout image) segment) || nat_le (segment_start (layout image) (segment + 1)) start

  targets_all : (P : ℕ → Type 0) → All P (filter chosen (free_segments image)) → All P (defrag_targets image start end target down)
  unfolding chosen
  targets_all P all = go down
    where
      go : (b : Bool) → All P (move_targets (layout image) (free_segments image) start end target b)
      go true = All-reverse P (filter (λ segment. nat_le segment (segment_of (layout image) target)) (filter chosen (free_segments image))) (All-filter (λ segment. nat_le segment (segment_of (layout image) target)) P (filter chosen (free_segments image)) all)
      go false = All-filter (λ segment. nat_le (segment_of (layout image) target) segment) P (filter chosen (free_segments image)) all

  targets_free : All (λ segment. is_free image segment ≡ true) (defrag_targets image start end target down)
  targets_free =
      targets_all (λ segment. is_free image segment ≡ true)
      (All-filter chosen (λ segment. is_free image segment ≡ true) (free_segments image) (filter_passes (is_free image) (numbers_below (layout image).segments)))

  targets_outside : All (IsOutside (layout image) start end) (defrag_targets image start end target down)
  unfolding chosen
  targets_outside =
      targets_all (IsOutside (layout image) start end)
      (All-weaker (λ segment. chosen segment ≡ true) (IsOutside (layout image) start end)
      (λ segment passes.
      ⊎_elim (λ above. inl (leb-true end (segment_start (layout image) segment) above)) (λ below. inr (leb-true (segment_start (layout image) (segment + 1)) start below))
      (or_cases (nat_le end (segment_start (layout image) segment)) (nat_le (segment_start (layout image) (segment + 1)) start) passes))
      (filter chosen (free_segments image)) (filter_passes chosen (free_segments image)))

  targets_different : (i j : ℕ) → i < length (defrag_targets image start end target down) → j < length (defrag_targets image start end target down) → get_or (defrag_targets image start end target down) i 0 ≡ get_or (defrag_targets image start end target down) j 0 → i ≡ j
  unfolding chosen
  targets_different = go down
    where
      rising : IsStrictlyIncreasing (filter chosen (free_segments image))
      rising = IsStrictlyIncreasing-filter chosen (free_segments image) (IsStrictlyIncreasing-filter (is_free image) (numbers_below (layout image).segments) (numbers_rise (layout image).segments))

      go : (b : Bool) → AreDifferent (move_targets (layout image) (free_segments image) start end target b)
      go true =
          different-reverse (filter (λ segment. nat_le segment (segment_of (layout image) target)) (filter chosen (free_segments image)))
          (different_from_rising (filter (λ segment. nat_le segment (segment_of (layout image) target)) (filter chosen (free_segments image)))
          (IsStrictlyIncreasing-filter (λ segment. nat_le segment (segment_of (layout image) target)) (filter chosen (free_segments image)) rising))
      go false =
          different_from_rising (filter (λ segment. nat_le (segment_of (layout image) target) segment) (filter chosen (free_segments image)))
          (IsStrictlyIncreasing-filter (λ segment. nat_le (segment_of (layout image) target) segment) (filter chosen (free_segments image)) rising)

  -- where the targets are enough, the way starts
  pub way_starts : defrag_need image start end ≤ defrag_have image start end target down
      → IsOnWay image start end target down (defrag_targets image start end target down) (record { blocks = 0; batches = 0 }) (defrag_batches image start end) image
  unfolding defrag_need defrag_have defrag_moves all_moves
  way_starts enough = record {
    moves = record { placed = placement image; targets = defrag_targets image start end target down; blocks = 0; batches = 0 };
    reached = record {
      kept = record { checked = h; same_tree = refl; areas = refl; size = refl; copies = λ n low. refl; logs = λ t low. refl; user = refl; reserved = refl; overprovision = refl };
      placed = same_places-refl (placement image);
      free = targets_free;
      different = targets_different;
      outside = targets_outside;
      enough = enough;
      few = batches_few (nid_limit (layout image)) (placement image) (layout image) start end;
      within = batches_within (nid_limit (layout image)) (placement image) (layout image) start end;
      remain = λ a low high marked. batches_have (nid_limit (layout image)) (placement image) (layout image) start end main a low high;
    };
    leads = refl;
    done = [];
    followed = nothing_followed image h bytes;
    ahead = refl;
    next_free = λ some. absurd (omega (arith, some));
    left = refl;
    blocks = refl;
    batches = refl;
  }

  -- where nothing is to move, the range is empty
  pub way_none : end ≤ main_end (layout image) → defrag_need image start end ≡ 0 → IsEmptied image start end target down image (record { blocks = 0; batches = 0 })
  unfolding way_starts defrag_need
  way_none inside none =
      let enough : defrag_need image start end ≤ defrag_have image start end target down = omega (arith, none) in
      way_ends image start end target down main inside (defrag_targets image start end target down) (record { blocks = 0; batches = 0 }) image
      (way_short image start end target down main inside (defrag_targets image start end target down) (record { blocks = 0; batches = 0 }) (defrag_batches image start end) image (way_starts enough) none) enough
