-- The start and the end of what cuts a range, and what each step is given.
use Rattle.std.proofs.Common.{◌≡◌, ℕ, suc, ◌+◌, ◌-◌, ◌*◌, ◌<◌, List, [], ◌∷◌, ◌++◌, true, nat_le, nat_lt, ◌&&◌, map, length, All, sym, ap, subst, ◌∙◌, arith}
use Rattle.std.specs.Prelude.{flat_map}
use Rattle.std.specs.List.{range_with_len}
use Rattle.std.proofs.lemmas.Bool.{and_parts, and_from, leb-true, ltb-true, le-leb, lt-ltb}
use Rattle.std.proofs.lemmas.List.{map-append}
use Rattle.std.proofs.lemmas.List.Elements.{All-nil, All-append, All-weaker, filter_passes}
use Rattle.f2_bytes.specs.declared.layout.Layout.{Layout}
use Rattle.f2_bytes.specs.Bytes.{Image}
use Rattle.f2_bytes.specs.Check.{is_checked}
use Rattle.f2_bytes.specs.NodeAddressTable.{nid_limit}
use Rattle.f2_bytes.specs.Superblock.{layout, segment_of, segment_start, is_main}
use Rattle.f2_bytes.specs.Defragment.{Placement, placement, occupied, batch_need, part_in, cut_batches, batches_of}
use Rattle.f2_reloc.specs.Emptying.{end_of, part_of, parts_between, valid_among, IsInside, IsCutting}
use Rattle.f2_reloc.specs.declared.batches.Batch.{Batch}
use Rattle.f2_reloc.specs.declared.batches.Range.{Range}
use Rattle.f2_reloc.proofs.Occupied.{occupied_need}
use Rattle.f2_reloc.proofs.Parts.{parts_more, parts_none}
use Rattle.f2_reloc.proofs.Standing.{occupied_marked}

-- the first number of some
range_next : {X : Type 0} (f : ℕ → X) (from n : ℕ) → from < n → map f (range_with_len from (n - from)) ≡ f from ∷ map f (range_with_len (from + 1) (n - (from + 1)))
range_next f from n low =
    let more : n - from ≡ suc (n - (from + 1)) = omega (arith, low) in
    ap (λ k. map f (range_with_len from k)) more

pub cut_starts : (l : Layout) (range : Range) (nids : ℕ) (p : Placement) (first last : ℕ) (cut : List Batch) → first ≡ segment_of l range.start → last ≡ segment_of l (end_of range - 1) → cut ≡ []
    → IsCutting l range nids p (map (part_in l range.start (end_of range)) (range_with_len first (last + 1 - first))) (batches_of l nids p range.start (end_of range)) cut (record { first = first; end = first }) 0
cut_starts l range nids p first last cut is_first is_last none = record {
  held = ap (λ xs. length (occupied nids p xs)) (sym (parts_none l range first));
  all =
      (λ i. map (part_of l range) (none i) ++ cut_batches nids p (parts_none l range first i) (map (part_in l range.start (end_of range)) (range_with_len first (last + 1 - first))))
      ∙ (λ i. cut_batches nids p [] (map (part_in l range.start (end_of range)) (range_with_len (is_first i) (is_last i + 1 - is_first i))));
}

pub cut_next : (l : Layout) (range : Range) (nids : ℕ) (p : Placement) (all : List (List ℕ)) (cut : List Batch) (batch : Batch) (held segno n : ℕ) → segno < n
    → IsCutting l range nids p (map (part_in l range.start (end_of range)) (range_with_len segno (n - segno))) all cut batch held
    → IsCutting l range nids p (part_in l range.start (end_of range) segno ∷ map (part_in l range.start (end_of range)) (range_with_len (segno + 1) (n - (segno + 1)))) all cut batch held
cut_next l range nids p all cut batch held segno n low c = subst (λ parts. IsCutting l range nids p parts all cut batch held) (range_next (part_in l range.start (end_of range)) segno n low) c

pub cut_ends : (l : Layout) (range : Range) (nids : ℕ) (p : Placement) (all : List (List ℕ)) (cut : List Batch) (batch : Batch) (held segno n : ℕ) → segno ≡ n
    → IsCutting l range nids p (map (part_in l range.start (end_of range)) (range_with_len segno (n - segno))) all cut batch held → map (part_of l range) (cut ++ batch ∷ []) ≡ all
unfolding cut_batches
cut_ends l range nids p all cut batch held segno n same c =
    let none : 0 ≡ n - segno = omega (arith, same) in
    map-append (part_of l range) cut (batch ∷ [])
    ∙ ap (λ k. map (part_of l range) cut ++ cut_batches nids p (part_of l range batch) (map (part_in l range.start (end_of range)) (range_with_len segno k))) none
    ∙ c.all

-- the addresses of a range are addresses of main
part_main : (l : Layout) (range : Range) → IsInside l range → (segno : ℕ) → All (λ a. is_main l a ≡ true) (part_in l range.start (end_of range) segno)
part_main l range inside segno =
    All-weaker (λ a. (nat_le range.start a && nat_lt a (end_of range)) ≡ true) (λ a. is_main l a ≡ true)
    (λ a passes.
    let both = and_parts (nat_le range.start a) (nat_lt a (end_of range)) passes in
    let low = leb-true range.start a both.0 in
    let high = ltb-true a (end_of range) both.1 in
    let above = inside.above in
    let below = inside.below in
    and_from _ _ (le-leb l.main a (omega (arith, above, low))) (lt-ltb a (l.main + 512 * l.segments) (omega (arith, below, high))))
    (part_in l range.start (end_of range) segno) (filter_passes (λ a. nat_le range.start a && nat_lt a (end_of range)) (range_with_len (segment_start l segno) 512))

flat_all : (P : ℕ → Type 0) (f : ℕ → List ℕ) → ((s : ℕ) → All P (f s)) → (xs : List ℕ) → All P (flat_map f xs)
flat_all P f each [] = All-nil P
flat_all P f each (x ∷ xs) = All-append P (f x) (flat_map f xs) (each x) (flat_all P f each xs)

parts_main : (l : Layout) (range : Range) → IsInside l range → (first end : ℕ) → All (λ a. is_main l a ≡ true) (parts_between l range first end)
unfolding parts_between
parts_main l range inside first end = flat_all (λ a. is_main l a ≡ true) (part_in l range.start (end_of range)) (part_main l range inside) (range_with_len first (end - first))

-- the valid blocks of a batch are those at which something stands
pub parts_occupied : (image : Image) → is_checked image ≡ true → (l : Layout) → l ≡ layout image → (range : Range) → IsInside l range → (first end : ℕ)
    → valid_among image (parts_between l range first end) ≡ occupied (nid_limit (layout image)) (placement image) (parts_between l range first end)
parts_occupied image h l same range inside first end =
    sym (occupied_marked image h (parts_between l range first end) (subst (λ (x : Layout). All (λ a. is_main x a ≡ true) (parts_between l range first end)) same (parts_main l range inside first end)))

-- so they need what the batch needs
pub parts_need : (image : Image) → is_checked image ≡ true → (l : Layout) → l ≡ layout image → (range : Range) → IsInside l range → (first end : ℕ)
    → batch_need (nid_limit (layout image)) (placement image) (valid_among image (parts_between l range first end)) ≡ batch_need (nid_limit (layout image)) (placement image) (parts_between l range first end)
parts_need image h l same range inside first end =
    ap (batch_need (nid_limit (layout image)) (placement image)) (parts_occupied image h l same range inside first end)
    ∙ occupied_need (nid_limit (layout image)) (placement image) (parts_between l range first end)

-- those of one segment, counted
pub part_held : (image : Image) → is_checked image ≡ true → (l : Layout) → l ≡ layout image → (range : Range) → IsInside l range → (segno : ℕ) (xs : List ℕ) → xs ≡ valid_among image (parts_between l range segno (segno + 1))
    → length xs ≡ length (occupied (nid_limit (layout image)) (placement image) (part_in l range.start (end_of range) segno))
part_held image h l same range inside segno xs is =
    ap length is
    ∙ ap length (parts_occupied image h l same range inside segno (segno + 1))
    ∙ ap (λ ys. length (occupied (nid_limit (layout image)) (placement image) ys)) (parts_more l range segno segno (omega arith) ∙ ap (λ ys. ys ++ part_in l range.start (end_of range) segno) (parts_none l range segno))
