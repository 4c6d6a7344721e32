use Rattle.f2_dent.proofs.Rooms.{all_room}
use Rattle.f2_dent.proofs.page.Page.new.Goals as goal

pub invariant_of-result : goal.invariant_of-result
invariant_of-result c = record { has_room = all_room c.zeros.result }
