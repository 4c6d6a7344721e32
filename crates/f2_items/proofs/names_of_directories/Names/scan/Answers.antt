use Rattle.std.proofs.Common.{◌≡◌, ◌*◌, ◌≤◌, ◌++◌, List, [], ◌∷◌, All, length, map, subst, sym, ap, ◌∙◌, arith, append_assoc}
use Rattle.std.proofs.lemmas.List.{append-nil}
use Rattle.std.proofs.lemmas.List.Elements.{All-head, All-tail}
use Rattle.f2_bytes.specs.Directory.{Item, scan}
use Rattle.f2_items.specs.Directories.{HasRead}
use Rattle.f2_items.specs.OpenDirectories.{depth_of}
use Rattle.f2_items.proofs.AllNameSteps.{stands_in}
use Rattle.f2_items.proofs.names_of_directories.Names.scan.Goals as goal
use Rattle.f2_dent.specs.declared.scan.Item.{Item as Scanned}
use Rattle.f2_dent.specs.Scan.{items_left, item_in_area}
use Rattle.f2_view.specs.Directories.{kept, shifted}
use Rattle.f2_view.proofs.ScannedItems.{Stands, kept_from, stands_from}

pub loop-item-init : goal.loop-item-init
loop-item-init c =
    let area = c.args.area.now in
    let slots = c.args.slots in
    let is : items_left c.into_iter-item-iterator.result ≡ map (item_in_area area slots) (scan area slots) = ap items_left c.into_iter-item-iterator.ensures.into_iter_gives ∙ c.new-item-items.ensures in
    let room : 8 * slots ≤ length area = omega (arith, c.requires.room) in
    record {
      can = tt;
      finite = tt;
      stand = subst (λ (l : List Scanned). All (Stands area slots) l) (sym is) (stands_from area slots room slots 0);
      so_far = [];
      all = ap (map (kept area c.args.first)) is ∙ kept_from area slots c.args.first slots 0;
      read = λ image limit before namings ino inode items known fits lies read.
          subst (λ (l : List Item). HasRead image limit before namings ino inode l c.args.self.now c.args.directory.now) (sym (append-nil items)) read;
    }

pub loop-item-preserved : goal.loop-item-preserved
loop-item-preserved c =
    let area = c.args.area.now in
    let item = c.in-Some.item in
    let rest = items_left c.next.new.self in
    let so_far = c.loop-item.invariant.so_far in
    let step : items_left c.loop-item.item-iterator ≡ item ∷ rest = c.in-Some.ensures.steps in
    let stand : All (Stands area c.args.slots) (item ∷ rest) = subst (λ (l : List Scanned). All (Stands area c.args.slots) l) step c.loop-item.invariant.stand in
    let here : Stands area c.args.slots item = All-head (Stands area c.args.slots) item rest stand in
    record {
      can = tt;
      finite = tt;
      stand = All-tail (Stands area c.args.slots) item rest stand;
      so_far = so_far ++ kept area c.args.first item ∷ [];
      all = append_assoc so_far (kept area c.args.first item ∷ []) (map (kept area c.args.first) rest)
          ∙ ap (λ (l : List Scanned). so_far ++ map (kept area c.args.first) l) (sym step) ∙ c.loop-item.invariant.all;
      read = λ image limit before namings ino inode items known fits lies read.
          subst (λ (l : List Item). HasRead image limit before namings ino inode l c.item.new.self c.item.new.directory) (append_assoc items so_far (kept area c.args.first item ∷ []))
          (c.in_ok-item.ensures image limit before namings ino inode (items ++ so_far) known (stands_in (depth_of inode) c.args.block c.args.first c.args.slots item.slot fits lies here.within)
          (c.loop-item.invariant.read image limit before namings ino inode items known fits lies read));
    }

pub returns : goal.returns
returns c = λ image limit before namings ino inode items known fits lies read.
    let area = c.args.area.now in
    let so_far = c.loop-item.invariant.so_far in
    let none : items_left c.loop-item.item-iterator ≡ [] = c.in-None.ensures.steps.0 in
    let all : so_far ≡ map (shifted c.args.first) (scan area c.args.slots) = sym (append-nil so_far) ∙ ap (λ (l : List Scanned). so_far ++ map (kept area c.args.first) l) (sym none) ∙ c.loop-item.invariant.all in
    subst (λ (l : List Item). HasRead image limit before namings ino inode (items ++ l) c.loop-item.self c.loop-item.directory) all
    (c.loop-item.invariant.read image limit before namings ino inode items known fits lies read)
