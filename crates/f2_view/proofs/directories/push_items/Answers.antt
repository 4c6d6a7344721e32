use Rattle.std.proofs.Common.{◌≡◌, ◌*◌, ◌≤◌, ◌++◌, List, ◌∷◌, All, length, map, subst, sym, ap, ◌∙◌, arith}
use Rattle.std.proofs.lemmas.List.Elements.{All-tail}
use Rattle.f2_bytes.specs.Directory.{Item, scan}
use Rattle.f2_dent.specs.declared.scan.Item.{Item as Scanned}
use Rattle.f2_dent.specs.Scan.{items_left, item_in_area}
use Rattle.f2_view.specs.Directories.{item_of, legal, kept}
use Rattle.f2_view.proofs.ScannedItems.{Stands, kept_from, stands_from, one_more}
use Rattle.f2_view.proofs.directories.push_items.Goals as goal

pub loop-item-init : goal.loop-item-init
loop-item-init c =
    let area = c.args.area.now in
    let slots = c.args.slots in
    let is : items_left c.into_iter-item-iterator.result ≡ map (item_in_area area slots) (scan area slots) = ap items_left c.into_iter-item-iterator.ensures.into_iter_gives ∙ c.new-item-items.ensures in
    let room : 8 * slots ≤ length area = omega (arith, c.requires.room) in
    record {
      can = tt;
      finite = tt;
      stand = subst (λ (l : List Scanned). All (Stands area slots) l) (sym is) (stands_from area slots room slots 0);
      entries = ap (λ (l : List Scanned). map item_of c.args.into.now.items ++ legal (map (kept area c.args.first) l)) is
          ∙ ap (λ (l : List Item). map item_of c.args.into.now.items ++ legal l) (kept_from area slots c.args.first slots 0);
    }

pub loop-item-preserved : goal.loop-item-preserved
loop-item-preserved c =
    let area = c.args.area.now in
    let item = c.in-Some.item in
    let rest = items_left c.next.new.self in
    let step : items_left c.loop-item.item-iterator ≡ item ∷ rest = c.in-Some.ensures.steps in
    record {
      can = tt;
      finite = tt;
      stand = All-tail (Stands area c.args.slots) item rest (subst (λ (l : List Scanned). All (Stands area c.args.slots) l) step c.loop-item.invariant.stand);
      entries = one_more item_of (kept area c.args.first) c.loop-item.into.items c.push_item.new.into.items item rest c.in_ok-push_item.ensures.entries
          ∙ ap (λ (l : List Scanned). map item_of c.loop-item.into.items ++ legal (map (kept area c.args.first) l)) (sym step)
          ∙ c.loop-item.invariant.entries;
    }
