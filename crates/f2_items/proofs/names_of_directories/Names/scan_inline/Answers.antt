use Rattle.std.proofs.Common.{◌≡◌, ◌+◌, ◌*◌, ◌/◌, [], List, ℕ, cond, None, length, map, subst, sym, ap, ◌∙◌, arith}
use Rattle.std.specs.Prelude.{slice_range, Option, Some}
use Rattle.f2_bytes.specs.Directory.{Item, scan, inline_slots}
use Rattle.f2_bytes.specs.Node.{inline_area, inline_length}
use Rattle.f2_items.specs.Directories.{HasRead}
use Rattle.f2_items.specs.OpenDirectories.{depth_of, FitsDepth}
use Rattle.f2_bytes.specs.Node.{dir_level}
use Rattle.f2_items.proofs.names_of_directories.Names.scan_inline.Goals as goal
use Rattle.f2_view.specs.Directories.{shifted}
use Rattle.f2_view.proofs.Pushes.{inline_most}
use Rattle.f2_view.proofs.ScannedItems.{unshifted}

pub overflow_add-area : goal.overflow_add-area
overflow_add-area c = omega (arith, inline_most c.args.inode.now)

pub slice_bounds-area-end : goal.slice_bounds-area-end
slice_bounds-area-end c = omega (arith, inline_most c.args.inode.now, ap (λ (b : List ℕ). length b) c.bytes.ensures.same, c.bytes.ensures.block.length)

pub returns : goal.returns
unfolding inline_area
returns c = λ image limit before namings ino known inline read.
    let inode = c.args.inode.now in
    let start = c.inline_range-at.ensures.start in
    let len = c.inline_range-at.ensures.length in
    let depth : depth_of inode ≡ None = ap (λ b. cond b None (Some (dir_level inode))) inline in
    subst (λ (l : List Item). HasRead image limit before namings ino inode l c.scan.new.self c.scan.new.directory)
    ((λ t. map (shifted 0) (scan (slice_range (c.bytes.ensures.same t) (start t) (start t + len t)) (8 * len t / 153))) ∙ unshifted (scan (inline_area inode) (inline_slots (inline_length inode))))
    (c.in_ok-scan.ensures image limit before namings ino inode [] known (subst (λ (d : Option ℕ). FitsDepth d None) (sym depth) tt) tt read)
