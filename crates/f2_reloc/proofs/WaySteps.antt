-- The way over the batches and the targets of a job, one after the other.
use Rattle.std.proofs.Common.{◌≡◌, ℕ, ◌+◌, ◌<◌, ◌≤◌, List, ◌∷◌, Bool, true, map, length, get_or, sym, ap, subst}
use Rattle.std.specs.Prelude.{drop}
use Rattle.std.proofs.lemmas.List.{drop_more, drop_all, drop-drop}
use Rattle.f2_bytes.specs.declared.layout.Layout.{Layout}
use Rattle.f2_bytes.specs.Bytes.{Image, IsBlock, block_at}
use Rattle.f2_bytes.specs.Check.{is_checked}
use Rattle.f2_bytes.specs.Superblock.{layout}
use Rattle.f2_bytes.specs.Defragment.{defrag_batches, defrag_targets, defrag_need, defrag_have}
use Rattle.f2_reloc.specs.Emptying.{end_of, part_of, moved_with, IsInside, IsReady, HasStepped, IsOnWay, IsEmptied}
use Rattle.f2_reloc.specs.declared.batches.Batch.{Batch}
use Rattle.f2_reloc.specs.declared.batches.Range.{Range}
use Rattle.f2_commit.specs.declared.relocating.Moved.{Moved}
use Rattle.f2_reloc.specs.declared.moving.Step.{Step}
use Rattle.f2_reloc.proofs.Way.{way_starts, way_ready, way_on, way_ends}

module _ (image : Image) (l : Layout) (same : l ≡ layout image) (range : Range) (inside : IsInside l range) (batches : List Batch) (targets : List ℕ) (target : ℕ) (down : Bool) where
  own : IsInside (layout image) range
  own = subst (λ (x : Layout). IsInside x range) same inside

  -- the batches from one on remain, and the targets from another on
  abbrev pub Way : ℕ → ℕ → Moved → Image → Type 0
  Way taken i moved now = IsOnWay image range.start (end_of range) target down (drop taken targets) moved (map (part_of l range) (drop i batches)) now

  pub ways_start : is_checked image ≡ true → ((n : ℕ) → n < length image → IsBlock (block_at image n)) → map (part_of l range) batches ≡ defrag_batches image range.start (end_of range) → targets ≡ defrag_targets image range.start (end_of range) target down → defrag_need image range.start (end_of range) ≤ length targets
      → IsOnWay image range.start (end_of range) target down targets (record { blocks = 0; batches = 0 }) (map (part_of l range) batches) image
  unfolding defrag_have
  ways_start h bytes cut chosen enough =
      subst (λ (ts : List ℕ). IsOnWay image range.start (end_of range) target down ts (record { blocks = 0; batches = 0 }) (map (part_of l range) batches) image) (sym chosen)
      (subst (λ (bs : List (List ℕ)). IsOnWay image range.start (end_of range) target down (defrag_targets image range.start (end_of range) target down) (record { blocks = 0; batches = 0 }) bs image) (sym cut)
      (way_starts image h bytes range.start (end_of range) target down own.above (subst (λ (ts : List ℕ). defrag_need image range.start (end_of range) ≤ length ts) chosen enough)))

  next : (i : ℕ) (d : Batch) → i < length batches → map (part_of l range) (drop i batches) ≡ part_of l range (get_or batches i d) ∷ map (part_of l range) (drop (i + 1) batches)
  next i d low = ap (map (part_of l range)) (drop_more batches i d low)

  pub ways_ready : (taken i : ℕ) (d : Batch) (moved : Moved) (now : Image) → i < length batches → Way taken i moved now → IsReady now (part_of l range (get_or batches i d)) (drop taken targets)
  ways_ready taken i d moved now low w =
      way_ready image range.start (end_of range) target down own.above own.below (drop taken targets) moved (part_of l range (get_or batches i d)) (map (part_of l range) (drop (i + 1) batches)) now
      (subst (λ (bs : List (List ℕ)). IsOnWay image range.start (end_of range) target down (drop taken targets) moved bs now) (next i d low) w)

  pub ways_on : (taken i : ℕ) (d : Batch) (moved : Moved) (now : Image) (step : Step) (new : Image) → i < length batches → Way taken i moved now → HasStepped now (part_of l range (get_or batches i d)) (drop taken targets) step new
      → Way (taken + step.targets) (i + 1) (moved_with moved step) new
  ways_on taken i d moved now step new low w stepped =
      subst (λ (ts : List ℕ). IsOnWay image range.start (end_of range) target down ts (moved_with moved step) (map (part_of l range) (drop (i + 1) batches)) new) (drop-drop step.targets taken targets)
      (way_on image range.start (end_of range) target down own.above own.below (drop taken targets) moved (part_of l range (get_or batches i d)) (map (part_of l range) (drop (i + 1) batches)) now step new
      (subst (λ (bs : List (List ℕ)). IsOnWay image range.start (end_of range) target down (drop taken targets) moved bs now) (next i d low) w) stepped)

  pub ways_end : (taken i : ℕ) (moved : Moved) (now : Image) → length batches ≤ i → targets ≡ defrag_targets image range.start (end_of range) target down → defrag_need image range.start (end_of range) ≤ length targets → Way taken i moved now
      → IsEmptied image range.start (end_of range) target down now moved
  unfolding defrag_have
  ways_end taken i moved now past chosen enough w =
      way_ends image range.start (end_of range) target down own.above own.below (drop taken targets) moved now
      (subst (λ (bs : List Batch). IsOnWay image range.start (end_of range) target down (drop taken targets) moved (map (part_of l range) bs) now) (drop_all i batches past) w)
      (subst (λ (ts : List ℕ). defrag_need image range.start (end_of range) ≤ length ts) chosen enough)
