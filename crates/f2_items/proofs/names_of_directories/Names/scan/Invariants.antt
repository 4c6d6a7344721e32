use Rattle.std.proofs.Common.{◌≡◌, ℕ, List, ◌++◌, All, map}
use Rattle.f2_bytes.specs.Bytes.{Block, Image}
use Rattle.f2_bytes.specs.Directory.{Item, scan}
use Rattle.f2_bytes.specs.Check.{Defect}
use Rattle.f2_items.specs.Directories.{HasRead}
use Rattle.f2_survey.specs.Known.{IsKnown}
use Rattle.f2_items.specs.Namings.{Naming}
use Rattle.f2_items.specs.OpenDirectories.{depth_of, FitsDepth, LiesIn}
use Rattle.f2_items.proofs.names_of_directories.Names.scan.Given as goal
use Rattle.f2_dent.specs.Scan.{items_left}
use Rattle.f2_view.specs.Directories.{shifted, kept}
use Rattle.f2_view.proofs.ScannedItems.{Stands}

-- the items so far, and those to come
abbrev pub invariant-loop-item : goal.invariant-loop-item
invariant-loop-item l = record {
  can : (goal.iterator-loop-item).can_next l.item-iterator;
  finite : (goal.iterator-loop-item).is_finite l.item-iterator;
  stand : All (Stands l.area l.slots) (items_left l.item-iterator);
  so_far : List Item;
  all : so_far ++ map (kept l.area l.first) (items_left l.item-iterator) ≡ map (shifted l.first) (scan l.area l.slots);
  read : (image : Image) (limit : ℕ) (before : ℕ → List Defect) (namings : List Naming) (ino : ℕ) (inode : Block) (items : List Item)
      → IsKnown image l.nodes → FitsDepth (depth_of inode) l.block → LiesIn l.first l.slots l.block
      → HasRead image limit before namings ino inode items l.initial.self l.initial.directory → HasRead image limit before namings ino inode (items ++ so_far) l.self l.directory;
}
