-- The entries of the segments that a batch leaves, and of those that take it, one after the other.
use Rattle.std.proofs.Common.{◌≡◌, ◌≢◌, ℕ, ◌+◌, ◌-◌, ◌*◌, ◌/◌, ◌%◌, ◌<◌, ◌≤◌, cond, Bool, true, false, not, ◌&&◌, ◌||◌, ◌==◌, nat_lt, nat_le, List, [], ◌∷◌, ◌++◌, map, filter, length, get_or, take, All, Option, Some, refl, sym, ap, ◌∙◌, subst, ⊎_elim, arith, append_assoc, length-append}
use Rattle.std.specs.Prelude.{slice_index, min}
use Rattle.std.specs.List.{list_any}
use Rattle.std.specs.List.Sorted.{IsStrictlyIncreasing}
use Rattle.std.proofs.Math.Seq.{get_or-append_seam}
use Rattle.std.proofs.lemmas.Bool.{lt-ltb, ltb-true, leb-true, and_parts, cases_eq, cases_lt, eq-eqb, eqb-true, or_cases, or_left, or_right, false≢true}
use Rattle.std.proofs.lemmas.List.{length-take, take_more, map-append, append-nil, take_all, get_or-take, get_or-append_right, get_or_append_left}
use Rattle.std.proofs.lemmas.Grind.{get_or_default_zero}
use Rattle.std.proofs.lemmas.List.Elements.{All-push, filter-append}
use Rattle.std.proofs.lemmas.List.Kept.{AllPairs-from_increasing}
use Rattle.std.proofs.lemmas.List.Folds.{Any-from_list_any, list_any_at, list_any-append}
use Rattle.f2_bytes.specs.declared.layout.Layout.{Layout}
use Rattle.f2_bytes.specs.Bits.{bit_msb, ChangesBit}
use Rattle.f2_bytes.specs.Bytes.{Image, count_below}
use Rattle.f2_bytes.specs.Defragment.{is_among}
use Rattle.f2_bytes.specs.Journal.{SitEntry, FitsSitEntry}
use Rattle.f2_bytes.specs.SegmentTable.{sit, is_block_valid}
use Rattle.f2_bytes.specs.Superblock.{layout, is_main, segment_of, segment_start}
use Rattle.f2_sum.specs.Records.{sit_entry}
use Rattle.f2_sum.specs.declared.records.SitEntry.{SitEntry as HeldSitEntry}
use Rattle.f2_view.specs.Mounted.{Mounted, layout_in, IsMountOf}
use Rattle.f2_commit.specs.Shifting.{IsEmptied, AreEmptied, is_freed, IsTaken}
use Rattle.f2_gather.proofs.Ascending.{bools_same}
use Rattle.f2_gather.proofs.GatheredSteps.{layout_is}

-- the numbers of segments with entries
abbrev pub numbers_of : List (ℕ × HeldSitEntry) → List ℕ
numbers_of entries = map (λ (w : ℕ × HeldSitEntry). w.0) entries

abbrev pub Fits : ℕ → ℕ × HeldSitEntry → Type 0
Fits segments w = (w.0 < segments) × FitsSitEntry (sit_entry w.1)

-- ---- those that take it

-- the entries of the first segments
pub record TakenSoFar (segments : ℕ) (targets : List ℕ) (wanted blocks n : ℕ) (old items : List (ℕ × HeldSitEntry)) : Type 0 where
  pub new : List (ℕ × HeldSitEntry)
  pub appended : items ≡ old ++ new
  pub numbers : numbers_of new ≡ take n targets
  pub many : length new ≡ n
  pub entries : (i : ℕ) (w : ℕ × HeldSitEntry) → i < length new → get_or new i w ≡ w → IsTaken wanted blocks i (sit_entry w.1)
  pub fits : All (Fits segments) new

pub taken_none : (segments : ℕ) (targets : List ℕ) (wanted blocks : ℕ) (old : List (ℕ × HeldSitEntry)) → TakenSoFar segments targets wanted blocks 0 old old
taken_none segments targets wanted blocks old = record {
  new = [];
  appended = sym (append-nil old);
  numbers = refl;
  many = refl;
  entries = λ i w low is. absurd (omega (arith, low));
  fits = λ i w low. absurd (omega (arith, low));
}

pub taken_more : (segments : ℕ) (targets : List ℕ) (wanted blocks n : ℕ) (old items next : List (ℕ × HeldSitEntry)) (w : ℕ × HeldSitEntry) → TakenSoFar segments targets wanted blocks n old items
    → n < length targets → w.0 ≡ get_or targets n 0 → IsTaken wanted blocks n (sit_entry w.1) → Fits segments w → next ≡ items ++ w ∷ [] → TakenSoFar segments targets wanted blocks (n + 1) old next
taken_more segments targets wanted blocks n old items next w s low number taken fits pushed = record {
  new = s.new ++ w ∷ [];
  appended = pushed ∙ ap (λ l. l ++ w ∷ []) s.appended ∙ append_assoc old s.new (w ∷ []);
  numbers = map-append (λ (w : ℕ × HeldSitEntry). w.0) s.new (w ∷ []) ∙ (λ i. s.numbers i ++ number i ∷ []) ∙ sym (take_more targets n 0 low);
  many = let size = length-append s.new (w ∷ []) in let many = s.many in omega (arith, size, many);
  entries = each;
  fits = All-push (Fits segments) s.new w s.fits fits;
}
  where
    each : (i : ℕ) (v : ℕ × HeldSitEntry) → i < length (s.new ++ w ∷ []) → get_or (s.new ++ w ∷ []) i v ≡ v → IsTaken wanted blocks i (sit_entry v.1)
    each i v inside is = ⊎_elim before last (cases_lt i n)
      where
        before : i < n → IsTaken wanted blocks i (sit_entry v.1)
        before less =
            let many = s.many in
            let there : i < length s.new = omega (arith, less, many) in
            s.entries i v there (sym (get_or_append_left s.new (w ∷ []) v i there) ∙ is)

        last : n ≤ i → IsTaken wanted blocks i (sit_entry v.1)
        last past =
            let size = length-append s.new (w ∷ []) in
            let many = s.many in
            let here : i ≡ n = omega (arith, past, inside, size, many) in
            let zero_left : i - n ≡ 0 = omega (arith, here) in
            let same : w ≡ v = ap (λ k. get_or (w ∷ []) k v) (sym zero_left) ∙ sym (get_or-append_right s.new (w ∷ []) n i v many past) ∙ is in
            subst (λ (x : ℕ × HeldSitEntry). IsTaken wanted blocks i (sit_entry x.1)) same (subst (λ k. IsTaken wanted blocks k (sit_entry w.1)) (sym here) taken)

-- an entry whose first blocks are marked
pub taken_entry : (wanted blocks i held : ℕ) (map : List ℕ) (e : HeldSitEntry) → 512 * i < blocks → held ≡ min 512 (blocks - 512 * i) → ((k : ℕ) → k < 512 → bit_msb map k ≡ nat_lt k held)
    → e.kind ≡ wanted → e.map ≡ map → e.count ≡ count_below 512 (bit_msb map) → IsTaken wanted blocks i (sit_entry e)
taken_entry wanted blocks i held map e some is marks kind of count = record {
  kind = kind;
  bits = λ k low.
      ap (λ m. bit_msb m k) of ∙ marks k low
      ∙ bools_same (nat_lt k held) (nat_lt (512 * i + k) blocks)
      (λ first. let less = ltb-true k held first in lt-ltb (512 * i + k) blocks (omega (arith, less, is)))
      (λ first. let less = ltb-true (512 * i + k) blocks first in lt-ltb k held (omega (arith, less, is, low)));
  count = count ∙ ap (λ m. count_below 512 (bit_msb m)) (sym of);
}

-- ---- those that it leaves

-- a number among addresses, by its place
at_place : (p : ℕ → Bool) (xs : List ℕ) (n : ℕ) → list_any p (take n xs) ≡ true → (i : ℕ) × (i < n) × (i < length xs) × (p (get_or xs i 0) ≡ true)
at_place p xs n some = go (Any-from_list_any p (take n xs) some)
  where
    go : (i : ℕ) × (x : ℕ) × (i < length (take n xs)) × (get_or (take n xs) i x ≡ x) × (p x ≡ true) → (i : ℕ) × (i < n) × (i < length xs) × (p (get_or xs i 0) ≡ true)
    go t = by (short t.0 t.2)
      where
        short : (i : ℕ) → i < length (take n xs) → (i < n) × (i < length xs)
        short i low = (search (arith, length-take), search (arith, length-take))

        by : (t.0 < n) × (t.0 < length xs) → (i : ℕ) × (i < n) × (i < length xs) × (p (get_or xs i 0) ≡ true)
        by low =
            let same : get_or xs t.0 0 ≡ t.1 = sym (get_or-take n xs t.0 0 low.0) ∙ sym (get_or_default_zero (take n xs) t.0 t.1 t.2) ∙ t.3 in
            (t.0, low.0, low.1, ap p same ∙ t.4)

from_place : (p : ℕ → Bool) (xs : List ℕ) (n i : ℕ) → i < n → i < length xs → p (get_or xs i 0) ≡ true → list_any p (take n xs) ≡ true
from_place p xs n i low inside passes = list_any_at p (take n xs) i 0 (search (arith, length-take)) (ap p (get_or-take n xs i 0 low) ∙ passes)

-- so far the blocks at these addresses are cleared, and no others
pub record ClearedSoFar (addresses : List ℕ) (main from upto : ℕ) (old map : List ℕ) : Type 0 where
  pub size : length map ≡ 64
  pub cleared : (j : ℕ) → from ≤ j → j < upto → bit_msb map ((slice_index addresses j - main) % 512) ≡ false
  pub kept : (k : ℕ) → k < 512 → ((j : ℕ) → from ≤ j → j < upto → (slice_index addresses j - main) % 512 ≢ k) → bit_msb map k ≡ bit_msb old k

pub cleared_none : (addresses : List ℕ) (main from : ℕ) (old : List ℕ) → length old ≡ 64 → ClearedSoFar addresses main from from old old
cleared_none addresses main from old size = record { size = size; cleared = λ j after before. absurd (omega (arith, after, before)); kept = λ k low others. refl }

pub cleared_more : (addresses : List ℕ) (main from upto : ℕ) (old map new : List ℕ) → from ≤ upto → ClearedSoFar addresses main from upto old map
    → ChangesBit bit_msb map new ((slice_index addresses upto - main) % 512) false → ClearedSoFar addresses main from (upto + 1) old new
cleared_more addresses main from upto old map new order s changed = record {
  size = changed.length ∙ s.size;
  cleared = λ j after before. ⊎_elim
      (λ same. ap (bit_msb new) same ∙ changed.bit)
      (λ other. changed.bits ((slice_index addresses j - main) % 512) other ∙ s.cleared j after (earlier j before other))
      (cases_eq ((slice_index addresses j - main) % 512) ((slice_index addresses upto - main) % 512));
  kept = λ k low others. changed.bits k (λ same. others upto order (omega arith) (sym same)) ∙ s.kept k low (λ j after before. others j after (omega (arith, before)));
}
  where
    earlier : (j : ℕ) → j < upto + 1 → (slice_index addresses j - main) % 512 ≢ (slice_index addresses upto - main) % 512 → j < upto
    earlier j before other = ⊎_elim (λ less. less) (λ past. let last : j ≡ upto = omega (arith, past, before) in absurd (other (ap (λ i. (slice_index addresses i - main) % 512) last))) (cases_lt j upto)

-- the entry of a segment whose blocks at these addresses are cleared
pub emptied_entry : (image : Image) (l : Layout) (main : ℕ) → l ≡ layout image → main ≡ l.main
    → (addresses : List ℕ) (segment from end kind : ℕ) (old e : HeldSitEntry) (map : List ℕ) → All (λ a. is_main l a ≡ true) addresses → end ≤ length addresses
    → ((j : ℕ) → from ≤ j → j < end → segment_of l (slice_index addresses j) ≡ segment) → ((j : ℕ) → j < from → segment_of l (slice_index addresses j) < segment)
    → ((j : ℕ) → end ≤ j → j < length addresses → segment < segment_of l (slice_index addresses j))
    → sit_entry old ≡ sit image segment → kind ≡ (sit image segment).kind
    → ((j : ℕ) → from ≤ j → j < end → bit_msb map ((slice_index addresses j - main) % 512) ≡ false)
    → ((k : ℕ) → k < 512 → ((j : ℕ) → from ≤ j → j < end → (slice_index addresses j - main) % 512 ≢ k) → bit_msb map k ≡ bit_msb old.map k)
    → e.kind ≡ kind → e.map ≡ map → e.count ≡ count_below 512 (bit_msb map) → IsEmptied image addresses segment (sit_entry e)
emptied_entry image l main is base addresses segment from end kind old e map mains inside same before later read kind_is cleared kept is_kind is_map is_count = record {
  kind = is_kind ∙ kind_is;
  bits = λ k low. ap (λ m. bit_msb m k) is_map ∙ by k low (is_among addresses (segment_start (layout image) segment + k)) refl;
  count = is_count ∙ ap (λ m. count_below 512 (bit_msb m)) (sym is_map);
}
  where
    start : (layout image).main ≡ l.main
    start = ap (λ (x : Layout). x.main) (sym is)

    above : (j : ℕ) → j < length addresses → l.main ≤ slice_index addresses j
    above j low = leb-true l.main (slice_index addresses j) (and_parts (nat_le l.main (slice_index addresses j)) _ (mains j 0 low)).0

    from_below : (j : ℕ) → segment_of l (slice_index addresses j) ≡ segment → from ≤ j
    from_below j own = ⊎_elim (λ less. let no = before j less in absurd (omega (arith, no, own))) (λ past. past) (cases_lt j from)

    below_end : (j : ℕ) → j < length addresses → segment_of l (slice_index addresses j) ≡ segment → j < end
    below_end j low own = ⊎_elim (λ less. less) (λ past. let no = later j past low in absurd (omega (arith, no, own))) (cases_lt j end)

    and_false : (b : Bool) → (b && false) ≡ false
    and_false true = refl
    and_false false = refl

    and_true : (b : Bool) → (b && true) ≡ b
    and_true true = refl
    and_true false = refl

    by : (k : ℕ) → k < 512 → (b : Bool) → is_among addresses (segment_start (layout image) segment + k) ≡ b → bit_msb map k ≡ (is_block_valid image segment k && not b)
    by k low true among =
        let t = Any-from_list_any (λ y. y == segment_start (layout image) segment + k) addresses among in
        let at : slice_index addresses t.0 ≡ segment_start (layout image) segment + k = sym (get_or_default_zero addresses t.0 t.1 t.2) ∙ t.3 ∙ eqb-true t.1 (segment_start (layout image) segment + k) t.4 in
        let begins = start in
        let own : segment_of l (slice_index addresses t.0) ≡ segment = omega (arith, at, low, begins) in
        let place : (slice_index addresses t.0 - main) % 512 ≡ k = omega (arith, at, low, begins, base) in
        ap (bit_msb map) (sym place) ∙ cleared t.0 (from_below t.0 own) (below_end t.0 t.2 own) ∙ sym (and_false (is_block_valid image segment k))
    by k low false apart =
        kept k low (λ j after less place.
        let own = same j after less in
        let high = above j (omega (arith, less, inside)) in
        let begins = start in
        let at : slice_index addresses j ≡ segment_start (layout image) segment + k = omega (arith, own, place, high, begins, base) in
        false≢true (sym apart ∙ list_any_at (λ y. y == segment_start (layout image) segment + k) addresses j 0 (omega (arith, less, inside)) (eq-eqb (slice_index addresses j) (segment_start (layout image) segment + k) at)))
        ∙ ap (λ (x : SitEntry). bit_msb x.map k) read ∙ sym (and_true (is_block_valid image segment k))

-- ascending addresses behind the first one of another segment lie in later ones
pub later_segments : (addresses : List ℕ) (main from end : ℕ) → IsStrictlyIncreasing addresses → All (λ a. main ≤ a) addresses → from < end → end < length addresses
    → (slice_index addresses end - main) / 512 ≢ (slice_index addresses from - main) / 512
    → (j : ℕ) → end ≤ j → j < length addresses → (slice_index addresses from - main) / 512 < (slice_index addresses j - main) / 512
later_segments addresses main from end rises mains before inside other j after low =
    let first = AllPairs-from_increasing addresses rises from end 0 before inside in
    let above = mains from 0 (omega (arith, before, inside)) in
    ⊎_elim
    (λ same. let at : slice_index addresses end ≡ slice_index addresses j = ap (slice_index addresses) same in omega (arith, first, above, other, at))
    (λ apart. let next = AllPairs-from_increasing addresses rises end j 0 (omega (arith, after, apart)) low in omega (arith, first, next, above, other))
    (cases_eq end j)

-- ---- all segments that are left

-- a greater number behind rising ones
rises_push : (xs : List ℕ) (y : ℕ) → IsStrictlyIncreasing xs → All (λ x. x < y) xs → IsStrictlyIncreasing (xs ++ y ∷ [])
rises_push xs y rises lower k low =
    let size = length-append xs (y ∷ []) in
    let inside : k < length xs = omega (arith, size, low) in
    let first = get_or_append_left xs (y ∷ []) 0 k inside in
    ⊎_elim
    (λ more. let next = get_or_append_left xs (y ∷ []) 0 (k + 1) more in let rise = rises k more in omega (arith, first, next, rise))
    (λ past.
    let end : k + 1 ≡ length xs = omega (arith, inside, past) in
    let last : get_or (xs ++ y ∷ []) (k + 1) 0 ≡ y = ap (λ i. get_or (xs ++ y ∷ []) i 0) end ∙ get_or-append_seam xs y [] 0 in
    let less = lower k 0 inside in
    omega (arith, first, last, less))
    (cases_lt (k + 1) (length xs))

module _ (told : Option Image) (m : Mounted) (addresses : List ℕ) where
  abbrev own : ℕ → ℕ
  own j = segment_of (layout_in m) (slice_index addresses j)

  abbrev in_segment : ℕ → ℕ → Bool
  in_segment segment a = segment_of (layout_in m) a == segment

  -- the entries of the segments of the first addresses
  pub record LeftSoFar (upto count : ℕ) (old items : List (ℕ × HeldSitEntry)) : Type 0 where
    pub new : List (ℕ × HeldSitEntry)
    pub appended : items ≡ old ++ new
    pub inside : upto ≤ length addresses
    pub ahead : (i j : ℕ) → i < upto → upto ≤ j → j < length addresses → own i < own j
    pub rises : IsStrictlyIncreasing (numbers_of new)
    pub segments : (segment : ℕ) → is_among (numbers_of new) segment ≡ list_any (in_segment segment) (take upto addresses)
    pub freed : count ≡ length (filter (is_freed m.chosen.head) new)
    pub few : (j : ℕ) → upto ≤ j → j < length addresses → count ≤ own j
    pub most : count ≤ (layout_in m).segments
    pub fits : All (Fits (layout_in m).segments) new
    pub entries : (image : Image) → told ≡ Some image → IsMountOf image m → All (λ (w : ℕ × HeldSitEntry). IsEmptied image addresses w.0 (sit_entry w.1)) new

  pub left_none : (old : List (ℕ × HeldSitEntry)) → LeftSoFar 0 0 old old
  left_none old = record {
    new = [];
    appended = sym (append-nil old);
    inside = omega arith;
    ahead = λ i j less after low. absurd (omega (arith, less));
    rises = λ k low. absurd (omega (arith, low));
    segments = λ segment. refl;
    freed = refl;
    few = λ j after low. omega arith;
    most = omega arith;
    fits = λ i w low. absurd (omega (arith, low));
    entries = λ image is of i w low. absurd (omega (arith, low));
  }

  pub left_more : (main upto count segno end next_count : ℕ) (e : HeldSitEntry) (old items next : List (ℕ × HeldSitEntry)) → main ≡ (layout_in m).main → LeftSoFar upto count old items → upto < end → end ≤ length addresses
      → ((j : ℕ) → upto ≤ j → j < end → (slice_index addresses j - main) / 512 ≡ (slice_index addresses upto - main) / 512)
      → ((j : ℕ) → end ≤ j → j < length addresses → (slice_index addresses upto - main) / 512 < (slice_index addresses j - main) / 512)
      → segno ≡ (slice_index addresses upto - main) / 512 → segno < (layout_in m).segments → FitsSitEntry (sit_entry e)
      → ((image : Image) → told ≡ Some image → IsMountOf image m → IsEmptied image addresses segno (sit_entry e))
      → next_count ≡ count + cond (is_freed m.chosen.head (segno, e)) 1 0 → next ≡ items ++ (segno, e) ∷ [] → LeftSoFar end next_count old next
  left_more main upto count segno end next_count e old items next base s more inside same later number low fits entry counts pushed = record {
    new = s.new ++ (segno, e) ∷ [];
    appended = pushed ∙ ap (λ l. l ++ (segno, e) ∷ []) s.appended ∙ append_assoc old s.new ((segno, e) ∷ []);
    inside = inside;
    ahead = λ i j less after low.
        ⊎_elim (λ before. s.ahead i j before (omega (arith, more, after)) low)
        (λ past. let here = same i past less in let there = later j after low in omega (arith, here, there, base))
        (cases_lt i upto);
    rises = subst IsStrictlyIncreasing (sym grown) (rises_push (numbers_of s.new) segno s.rises lower);
    segments = λ segment. ap (λ l. is_among l segment) grown ∙ bools_same (is_among (numbers_of s.new ++ segno ∷ []) segment) (list_any (in_segment segment) (take end addresses)) (forth segment) (back segment);
    freed = freed_more (is_freed m.chosen.head (segno, e)) refl;
    few = λ j after low. let there = later j after low in let most = s.few upto (omega arith) (omega (arith, more, inside)) in let one = one_at_most (is_freed m.chosen.head (segno, e)) in omega (arith, counts, there, most, one, base);
    most = let so_far = s.few upto (omega arith) (omega (arith, more, inside)) in let one = one_at_most (is_freed m.chosen.head (segno, e)) in omega (arith, counts, so_far, one, number, low, base);
    fits = All-push (Fits (layout_in m).segments) s.new (segno, e) s.fits (low, fits);
    entries = λ image is of. All-push (λ (w : ℕ × HeldSitEntry). IsEmptied image addresses w.0 (sit_entry w.1)) s.new (segno, e) (s.entries image is of) (entry image is of);
  }
    where
      one_at_most : (b : Bool) → cond {A = ℕ} b 1 0 ≤ 1
      one_at_most true = omega arith
      one_at_most false = omega arith

      grown : numbers_of (s.new ++ (segno, e) ∷ []) ≡ numbers_of s.new ++ segno ∷ []
      grown = map-append (λ (w : ℕ × HeldSitEntry). w.0) s.new ((segno, e) ∷ [])

      lower : All (λ x. x < segno) (numbers_of s.new)
      lower = λ k d low.
          let x = get_or (numbers_of s.new) k d in
          let among = list_any_at (λ y. y == x) (numbers_of s.new) k d low (eq-eqb x x refl) in
          let t = at_place (in_segment x) addresses upto (sym (s.segments x) ∙ among) in
          let is = eqb-true (own t.0) x t.3 in
          let next = s.ahead t.0 upto t.1 (omega arith) (omega (arith, more, inside)) in
          omega (arith, is, next, number, base)

      forth : (segment : ℕ) → is_among (numbers_of s.new ++ segno ∷ []) segment ≡ true → list_any (in_segment segment) (take end addresses) ≡ true
      forth segment among = ⊎_elim earlier here (or_cases (is_among (numbers_of s.new) segment) (is_among (segno ∷ []) segment) (sym (list_any-append (λ y. y == segment) (numbers_of s.new) (segno ∷ [])) ∙ among))
        where
          earlier : is_among (numbers_of s.new) segment ≡ true → list_any (in_segment segment) (take end addresses) ≡ true
          earlier old =
              let t = at_place (in_segment segment) addresses upto (sym (s.segments segment) ∙ old) in
              let before = t.1 in
              from_place (in_segment segment) addresses end t.0 (omega (arith, before, more)) t.2 t.3

          here : is_among (segno ∷ []) segment ≡ true → list_any (in_segment segment) (take end addresses) ≡ true
          here at =
              let is = eqb-true segno segment (only at) in
              from_place (in_segment segment) addresses end upto more (omega (arith, more, inside)) (eq-eqb (own upto) segment (omega (arith, is, number, base)))
            where
              only : ((segno == segment) || false) ≡ true → (segno == segment) ≡ true
              only at = ⊎_elim (λ x. x) (λ x. absurd (false≢true x)) (or_cases (segno == segment) false at)

      back : (segment : ℕ) → list_any (in_segment segment) (take end addresses) ≡ true → is_among (numbers_of s.new ++ segno ∷ []) segment ≡ true
      back segment some =
          let t = at_place (in_segment segment) addresses end some in
          list_any-append (λ y. y == segment) (numbers_of s.new) (segno ∷ []) ∙ ⊎_elim
          (λ before. or_left (is_among (numbers_of s.new) segment) (is_among (segno ∷ []) segment) (s.segments segment ∙ from_place (in_segment segment) addresses upto t.0 before t.2 t.3))
          (λ past.
          let is = eqb-true (own t.0) segment t.3 in
          let here = same t.0 past t.1 in
          or_right (is_among (numbers_of s.new) segment) (is_among (segno ∷ []) segment) (or_left (segno == segment) false (eq-eqb segno segment (omega (arith, is, here, number, base)))))
          (cases_lt t.0 upto)

      freed_more : (b : Bool) → is_freed m.chosen.head (segno, e) ≡ b → next_count ≡ length (filter (is_freed m.chosen.head) (s.new ++ (segno, e) ∷ []))
      freed_more b is =
          let both = filter-append (is_freed m.chosen.head) s.new ((segno, e) ∷ []) in
          let size = length-append (filter (is_freed m.chosen.head) s.new) (filter (is_freed m.chosen.head) ((segno, e) ∷ [])) in
          let old_count = s.freed in
          let one = last_one (is_freed m.chosen.head (segno, e)) in
          let whole : length (filter (is_freed m.chosen.head) (s.new ++ (segno, e) ∷ [])) ≡ length (filter (is_freed m.chosen.head) s.new ++ filter (is_freed m.chosen.head) ((segno, e) ∷ [])) = ap (λ (l : List (ℕ × HeldSitEntry)). length l) both in
          omega (arith, counts, size, old_count, one, whole)
        where
          last_one : (b : Bool) → length {A = ℕ × HeldSitEntry} (cond b ((segno, e) ∷ []) []) ≡ cond {A = ℕ} b 1 0
          last_one true = refl
          last_one false = refl

  -- all of them
  pub left_all : (image : Image) (upto count : ℕ) (old items : List (ℕ × HeldSitEntry)) (s : LeftSoFar upto count old items) → told ≡ Some image → IsMountOf image m → length addresses ≤ upto → AreEmptied image addresses s.new
  left_all image upto count old items s is of all = record {
    rises = s.rises;
    segments = λ segment. s.segments segment ∙ ap (λ l. list_any (in_segment segment) l) (take_all upto addresses all) ∙ ap (λ (l : Layout). list_any (λ a. segment_of l a == segment) addresses) (layout_is image m of);
    entries = s.entries image is of;
  }
