-- A range without a valid block needs no segment.
use Rattle.std.proofs.Common.{◌≡◌, ℕ, ◌<◌, ◌≤◌, List, [], true, false, ◌==◌, ◌&&◌, length, All, Option, Some, None, refl, sym, ap, ◌∙◌, arith}
use Rattle.std.specs.Option.{option_map_or}
use Rattle.std.proofs.lemmas.Bool.{or_from}
use Rattle.std.proofs.lemmas.List.Elements.{All-weaker}
use Rattle.std.proofs.lemmas.List.Folds.{list_any_none}
use Rattle.f2_bytes.specs.Bytes.{Image, numbers_below}
use Rattle.f2_bytes.specs.Superblock.{layout}
use Rattle.f2_bytes.specs.NodeAddressTable.{nid_limit}
use Rattle.f2_bytes.specs.Check.{is_checked, is_marked}
use Rattle.f2_bytes.specs.Defragment.{Placement, placement, all_places, is_among, data_among, is_moved_node, nodes_among, batch_need, occupied, main_end, defrag_batches, defrag_need}
use Rattle.f2_bytes.proofs.AllPlaces.{All-below}
use Rattle.f2_reloc.proofs.Cuts.{batches_within}
use Rattle.f2_reloc.proofs.Needs.{sum_small, batches_valid}
use Rattle.f2_reloc.proofs.Occupied.{none_kept, occupied_need}

module _ (nids : ℕ) (p : Placement) where
  at_none : (o : Option ℕ) → option_map_or (is_among []) o false ≡ false
  at_none None = refl
  at_none (Some a) = refl

  nothing_moves : (nid : ℕ) → is_moved_node nids p [] (data_among nids p []) nid ≡ false
  unfolding data_among
  nothing_moves nid = or_from _ _ (or_from _ _ (at_none (p.node nid)) (list_any_none (λ place. is_among [] (p.slot place.0 place.1) && (p.holder place.0 place.1 == nid)) (all_places nids) (λ k d low. refl))) refl

  need_nothing : batch_need nids p [] ≡ 0
  unfolding data_among nodes_among
  need_nothing =
      let nodes : nodes_among nids p [] ≡ []
      = none_kept (is_moved_node nids p [] (data_among nids p [])) (numbers_below nids) (All-below (λ nid. is_moved_node nids p [] (data_among nids p []) nid ≡ false) nids (λ nid low. nothing_moves nid)) in
      let none : length (nodes_among nids p []) ≡ 0 = ap length nodes in
      omega (arith, none)

  pub no_blocks : (xs : List ℕ) → occupied nids p xs ≡ [] → batch_need nids p xs ≡ 0
  no_blocks xs none = sym (occupied_need nids p xs) ∙ ap (batch_need nids p) none ∙ need_nothing

module _ (image : Image) (h : is_checked image ≡ true) (start end : ℕ) (main : (layout image).main ≤ start) (inside : end ≤ main_end (layout image)) where
  pub no_marks : ((a : ℕ) → start ≤ a → a < end → is_marked image a ≡ false) → defrag_need image start end ≡ 0
  unfolding defrag_need
  no_marks none =
      let nids = nid_limit (layout image) in
      let each : All (λ b. batch_need (nid_limit (layout image)) (placement image) b ≤ 0) (defrag_batches image start end) = λ k d low.
      let within = batches_within nids (placement image) (layout image) start end k d low in
      let empty = none_kept (is_marked image) _ (All-weaker (λ a. (start ≤ a) × (a < end)) (λ a. is_marked image a ≡ false) (λ a there. none a there.0 there.1) _ within) in
      let same = batches_valid image h start end main inside k d low in
      let zero = no_blocks nids (placement image) _ (sym same ∙ empty) in
      omega (arith, zero) in
      let sum = sum_small (batch_need nids (placement image)) 0 (defrag_batches image start end) each in
      grind (arith, sum)
