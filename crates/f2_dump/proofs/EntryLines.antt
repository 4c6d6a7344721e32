-- The lines of summaries, one by one.
use Rattle.std.proofs.Common.{◌≡◌, ℕ, zero, suc, ◌+◌, ◌-◌, ◌*◌, ◌<◌, ◌≤◌, List, ◌++◌, Option, refl, sym, ap, ◌∙◌, arith}
use Rattle.std.specs.Prelude.{flat_map}
use Rattle.std.specs.List.{range_with_len}
use Rattle.f2_bytes.specs.declared.layout.Layout.{Layout}
use Rattle.f2_bytes.specs.Bytes.{Block, Image, numbers_below}
use Rattle.f2_bytes.specs.Summary.{summary, summary_entry}
use Rattle.f2_bytes.specs.Superblock.{layout}
use Rattle.f2_view.specs.Mounted.{Mounted, IsMountOf, layout_in}
use Rattle.f2_dump.specs.Text.{lines_between, numbers_of, summary_line, summary_lines, entry_line, entry_lines, ssa_lines}
use Rattle.f2_dump.proofs.FieldLines.{lines-more}
use Rattle.f2_dump.proofs.Nodes.{layout_same, lines_join}

-- the lines below one number, and from there on
from_zero : (f : ℕ → List ℕ) (n : ℕ) → lines_between f 0 n ≡ flat_map f (numbers_below n)
unfolding numbers_below
from_zero f n = let whole : n - 0 ≡ n = omega arith in ap (λ (j : ℕ). flat_map f (range_with_len 0 j)) whole

pub below_join : (f : ℕ → List ℕ) (k n : ℕ) → k ≤ n → flat_map f (numbers_below k) ++ lines_between f k n ≡ flat_map f (numbers_below n)
below_join f k n le = ap (λ (l : List ℕ). l ++ lines_between f k n) (sym (from_zero f k)) ∙ lines_join f 0 k n (omega arith) le ∙ from_zero f n

pub below_whole : (f : ℕ → List ℕ) (k n : ℕ) → k < n → (flat_map f (numbers_below k) ++ f k) ++ lines_between f (k + 1) n ≡ flat_map f (numbers_below n)
below_whole f k n less = ap (λ (l : List ℕ). l ++ lines_between f (k + 1) n) (sym (lines-more f k)) ∙ below_join f (k + 1) n (omega (arith, less))

same_lines : (f g : ℕ → List ℕ) (a n : ℕ) → ((k : ℕ) → a ≤ k → k < a + n → f k ≡ g k) → flat_map f (range_with_len a n) ≡ flat_map g (range_with_len a n)
same_lines f g a zero same = refl
same_lines f g a (suc n) same =
    let rest = same_lines f g (a + 1) n (λ k low high. same k (omega (arith, low)) (omega (arith, high))) in
    let first = same a (omega arith) (omega arith) in
    λ i. first i ++ rest i

pub same_below : (f g : ℕ → List ℕ) (n : ℕ) → ((k : ℕ) → k < n → f k ≡ g k) → flat_map f (numbers_below n) ≡ flat_map g (numbers_below n)
unfolding numbers_below
same_below f g n same = same_lines f g 0 n (λ k low high. same k (omega (arith, high)))

-- the lines of a segment's entries up to one, and with those after it
pub entries_all : (segment : ℕ) (b : Block) (n : ℕ) → n ≡ 512 → flat_map (entry_line segment b) (numbers_below n) ≡ entry_lines segment b
unfolding entry_lines
entries_all segment b n is = ap (λ (j : ℕ). flat_map (entry_line segment b) (numbers_below j)) is

pub entries_whole : (segment : ℕ) (b : Block) (k n : ℕ) → k < n → n ≡ 512 → (flat_map (entry_line segment b) (numbers_below k) ++ entry_line segment b k) ++ lines_between (entry_line segment b) (k + 1) n ≡ entry_lines segment b
entries_whole segment b k n less is = below_whole (entry_line segment b) k n less ∙ entries_all segment b n is

-- entries that are an image's summaries have their lines
pub summary_text : (image : Image) (m : Mounted) (segment : ℕ) (b : Block) → IsMountOf image m
    → ((k : ℕ) → k < 512 → summary_entry b k ≡ summary image ((layout_in m).main + 512 * segment + k)) → entry_lines segment b ≡ summary_lines image segment
unfolding entry_lines summary_lines
summary_text image m segment b of same =
    same_below (entry_line segment b) (λ k. summary_line segment k (summary image ((layout image).main + 512 * segment + k))) 512 (λ k low.
    ap (summary_line segment k) (same k low ∙ ap (λ (l : Layout). summary image (l.main + 512 * segment + k)) (layout_same image m of)))

pub ssa_text : (image : Image) (m : Mounted) (limit first end : ℕ) (last : Option ℕ) → IsMountOf image m → limit ≡ (layout_in m).segments
    → numbers_of limit first last ≡ range_with_len first (end - first) → lines_between (summary_lines image) first end ≡ ssa_lines image first last
unfolding ssa_lines
ssa_text image m limit first end last of is numbers =
    ap (flat_map (summary_lines image)) (sym numbers ∙ ap (λ (n : ℕ). numbers_of n first last) (is ∙ ap (λ (l : Layout). l.segments) (layout_same image m of)))
