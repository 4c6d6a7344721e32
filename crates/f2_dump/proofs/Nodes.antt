-- The nodes that a search finds, and the lines of numbers one by one.
use Rattle.std.proofs.Common.{◌≡◌, inl, inr, ℕ, zero, suc, ◌+◌, ◌-◌, ◌<◌, ◌≤◌, Bool, true, false, cond, List, [], ◌++◌, Option, Some, None, refl, sym, ap, ◌∙◌, subst, arith}
use Rattle.std.specs.Prelude.{flat_map, find, nat_le, ◌&&◌}
use Rattle.std.specs.List.{range_with_len}
use Rattle.std.proofs.lemmas.Bool.{cases_lt, le-leb}
use Rattle.std.proofs.lemmas.Grind.{flat_map-append}
use Rattle.std.proofs.lemmas.List.{append-nil}
use Rattle.f2_bytes.specs.declared.layout.Layout.{Layout}
use Rattle.f2_bytes.specs.Bytes.{Image, numbers_below}
use Rattle.f2_bytes.specs.NodeAddressTable.{nid_limit, is_live, next_live, nat, image_nat_entry}
use Rattle.f2_bytes.specs.Superblock.{layout, layout_of}
use Rattle.f2_bytes.proofs.Finds.{found_first, none_passes}
use Rattle.f2_bytes.proofs.SetBits.{range-append}
use Rattle.f2_view.specs.Mounted.{Mounted, IsMountOf, layout_in}
use Rattle.f2_dump.specs.Text.{lines_between, nat_line, node_line, segment_line, numbers_of, nat_lines, sit_lines}

left_out : (p q : Bool) → p ≡ true → (p && q) ≡ false → q ≡ false
left_out true q is out = out
left_out false q is out = cc

both_true : (p q : Bool) → (p && q) ≡ true → q ≡ true
both_true true q is = is
both_true false q is = cc

nat_none : (image : Image) (k : ℕ) → is_live (layout image) k (image_nat_entry image k) ≡ false → nat image k ≡ None
unfolding nat
nat_none image k dead = ap (λ (b : Bool). cond b (Some (image_nat_entry image k)) None) dead

nat_some : (image : Image) (k : ℕ) → is_live (layout image) k (image_nat_entry image k) ≡ true → nat image k ≡ Some (image_nat_entry image k)
unfolding nat
nat_some image k live = ap (λ (b : Bool). cond b (Some (image_nat_entry image k)) None) live

abbrev tested : Image → ℕ → ℕ → Bool
tested image from nid = nat_le from nid && is_live (layout image) nid (image_nat_entry image nid)

-- a number from `from` on that fails is none of a node
fails_none : (image : Image) (from k : ℕ) → from ≤ k → tested image from k ≡ false → nat image k ≡ None
fails_none image from k low fails = nat_none image k (left_out (nat_le from k) (is_live (layout image) k (image_nat_entry image k)) (le-leb from k low) fails)

-- past the last node, before the next one, and there
pub none_after : (image : Image) (from : ℕ) → None ≡ next_live (layout image) (image_nat_entry image) from → (k : ℕ) → from ≤ k → k < nid_limit (layout image) → nat image k ≡ None
unfolding next_live numbers_below
none_after image from is k low high =
    fails_none image from k low (none_passes (tested image from) 0 (nid_limit (layout image)) (sym is) k (omega arith) (omega (arith, high)))

pub none_before : (image : Image) (from n : ℕ) → Some n ≡ next_live (layout image) (image_nat_entry image) from → (k : ℕ) → from ≤ k → k < n → nat image k ≡ None
unfolding next_live numbers_below
none_before image from n is k low high =
    fails_none image from k low ((found_first (tested image from) 0 (nid_limit (layout image)) n (sym is)).least k (omega arith) high)

pub node_there : (image : Image) (from n : ℕ) → Some n ≡ next_live (layout image) (image_nat_entry image) from → nat image n ≡ Some (image_nat_entry image n)
unfolding next_live numbers_below
node_there image from n is =
    nat_some image n (both_true (nat_le from n) (is_live (layout image) n (image_nat_entry image n)) (found_first (tested image from) 0 (nid_limit (layout image)) n (sym is)).passes)

-- a mount has the layout of its image
pub layout_same : (image : Image) (m : Mounted) → IsMountOf image m → layout_in m ≡ layout image
unfolding layout
layout_same image m of = ap layout_of of.sup

-- the lines up to one number, and from there on
pub lines_join : (f : ℕ → List ℕ) (first mid end : ℕ) → first ≤ mid → mid ≤ end → lines_between f first mid ++ lines_between f mid end ≡ lines_between f first end
lines_join f first mid end low high =
    let whole : end - first ≡ (mid - first) + (end - mid) = omega arith in
    let seam : first + (mid - first) ≡ mid = omega arith in
    sym (ap (λ (n : ℕ). flat_map f (range_with_len first n)) whole
    ∙ ap (flat_map f) (range-append first (mid - first) (end - mid))
    ∙ flat_map-append f (range_with_len first (mid - first)) (range_with_len (first + (mid - first)) (end - mid))
    ∙ ap (λ (a : ℕ). flat_map f (range_with_len first (mid - first)) ++ flat_map f (range_with_len a (end - mid))) seam)

pub lines_one : (f : ℕ → List ℕ) (k : ℕ) → lines_between f k (k + 1) ≡ f k
lines_one f k =
    let one : k + 1 - k ≡ suc zero = omega arith in
    ap (λ (n : ℕ). flat_map f (range_with_len k n)) one ∙ append-nil (f k)

pub lines_next : (f : ℕ → List ℕ) (first k : ℕ) → first ≤ k → lines_between f first k ++ f k ≡ lines_between f first (k + 1)
lines_next f first k low = ap (λ (l : List ℕ). lines_between f first k ++ l) (sym (lines_one f k)) ∙ lines_join f first k (k + 1) low (omega arith)

pub lines_same : (f : ℕ → List ℕ) (first : ℕ) → lines_between f first first ≡ []
lines_same f first =
    let none : first - first ≡ zero = omega arith in
    ap (λ (n : ℕ). flat_map f (range_with_len first n)) none

empty_lines : (f : ℕ → List ℕ) (a n : ℕ) → ((k : ℕ) → a ≤ k → k < a + n → f k ≡ []) → flat_map f (range_with_len a n) ≡ []
empty_lines f a zero empty = refl
empty_lines f a (suc n) empty =
    let rest = empty_lines f (a + 1) n (λ k low high. empty k (omega (arith, low)) (omega (arith, high))) in
    let first = empty a (omega arith) (omega arith) in
    λ i. first i ++ rest i

-- numbers without a node have no line
pub lines_skip : (image : Image) (first end : ℕ) → first ≤ end → ((k : ℕ) → first ≤ k → k < end → nat image k ≡ None) → lines_between (node_line image) first end ≡ []
lines_skip image first end le none =
    empty_lines (node_line image) first (end - first) (λ k low high. ap (nat_line k) (none k low (omega (arith, high, le))))

pub lines_skipped : (image : Image) (first k end : ℕ) → first ≤ k → k ≤ end → ((j : ℕ) → k ≤ j → j < end → nat image j ≡ None) → lines_between (node_line image) first k ≡ lines_between (node_line image) first end
lines_skipped image first k end low high none =
    sym (append-nil (lines_between (node_line image) first k))
    ∙ ap (λ (l : List ℕ). lines_between (node_line image) first k ++ l) (sym (lines_skip image k end high none))
    ∙ lines_join (node_line image) first k end low high

-- the lines of a range, up to the number past it
pub node_text : (image : Image) (m : Mounted) (limit first end : ℕ) (last : Option ℕ) → IsMountOf image m → limit ≡ nid_limit (layout_in m)
    → numbers_of limit first last ≡ range_with_len first (end - first) → lines_between (node_line image) first end ≡ nat_lines image first last
unfolding nat_lines
node_text image m limit first end last of is numbers =
    ap (flat_map (node_line image)) (sym numbers ∙ ap (λ (n : ℕ). numbers_of n first last) (is ∙ ap nid_limit (layout_same image m of)))

pub segment_text : (image : Image) (m : Mounted) (limit first end : ℕ) (last : Option ℕ) → IsMountOf image m → limit ≡ (layout_in m).segments
    → numbers_of limit first last ≡ range_with_len first (end - first) → lines_between (segment_line image) first end ≡ sit_lines image first last
unfolding sit_lines
segment_text image m limit first end last of is numbers =
    ap (flat_map (segment_line image)) (sym numbers ∙ ap (λ (n : ℕ). numbers_of n first last) (is ∙ ap (λ (l : Layout). l.segments) (layout_same image m of)))
