use Rattle.std.proofs.Common.{◌+◌, ◌*◌, ◌/◌, ◌++◌, List, ℕ, length, map, ap, ◌∙◌, arith}
use Rattle.std.specs.Prelude.{slice_range}
use Rattle.std.proofs.lemmas.Result.{IfOk-weaker}
use Rattle.f2_bytes.specs.Directory.{Item, scan, inline_slots}
use Rattle.f2_bytes.specs.Node.{inline_area, inline_length}
use Rattle.f2_view.specs.Directories.{item_of, legal, shifted}
use Rattle.f2_view.proofs.Pushes.{inline_most}
use Rattle.f2_view.proofs.ScannedItems.{unshifted}
use Rattle.f2_view.proofs.directories.push_inline.Goals as goal

pub overflow_add-area : goal.overflow_add-area
overflow_add-area c = omega (arith, inline_most c.args.inode.now)

pub slice_bounds-area-end : goal.slice_bounds-area-end
slice_bounds-area-end c = omega (arith, inline_most c.args.inode.now, ap (λ (b : List ℕ). length b) c.bytes.ensures.same, c.bytes.ensures.block.length)

pub returns : goal.returns
unfolding inline_area
returns c = record {
  entries = IfOk-weaker c.push_items.result _ _ (λ done is.
      let inode = c.args.inode.now in
      let start = c.inline_range-at.ensures.start in
      let len = c.inline_range-at.ensures.length in
      is
      ∙ (λ t. map item_of c.args.into.now.items ++ legal (map (shifted 0) (scan (slice_range (c.bytes.ensures.same t) (start t) (start t + len t)) (8 * len t / 153))))
      ∙ ap (λ (l : List Item). map item_of c.args.into.now.items ++ legal l) (unshifted (scan (inline_area inode) (inline_slots (inline_length inode))))) c.push_items.ensures.entries;
}
