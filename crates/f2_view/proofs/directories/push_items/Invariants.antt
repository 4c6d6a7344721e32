use Rattle.std.proofs.Common.{◌≡◌, ◌++◌, All, map}
use Rattle.f2_bytes.specs.Directory.{scan}
use Rattle.f2_dent.specs.Scan.{items_left}
use Rattle.f2_view.specs.Directories.{item_of, legal, shifted, kept}
use Rattle.f2_view.proofs.ScannedItems.{Stands}
use Rattle.f2_view.proofs.directories.push_items.Given as goal

-- what was pushed, and the items to come
abbrev pub invariant-loop-item : goal.invariant-loop-item
invariant-loop-item l = record {
  can : (goal.iterator-loop-item).can_next l.item-iterator;
  finite : (goal.iterator-loop-item).is_finite l.item-iterator;
  stand : All (Stands l.area l.slots) (items_left l.item-iterator);
  entries : map item_of l.into.items ++ legal (map (kept l.area l.first) (items_left l.item-iterator)) ≡ map item_of l.initial.into.items ++ legal (map (shifted l.first) (scan l.area l.slots));
}
