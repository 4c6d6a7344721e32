use Rattle.f2_dent.specs.Pages.{new_item}
use Rattle.f2_dent.proofs.Rooms.{room_kept}
use Rattle.f2_dent.proofs.page.Page.put.Goals as goal

pub invariant_of-self : goal.invariant_of-self
invariant_of-self c = record { has_room = room_kept c.args.self.now.block c.put_item.new.block c.args.self.now.room (new_item c.args.slot c.args.hash c.args.ino c.args.kind c.args.name.now) c.args.self.now.has_room c.put_item.ensures }
