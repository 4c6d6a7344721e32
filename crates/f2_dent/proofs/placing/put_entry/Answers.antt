use Rattle.std.proofs.Common.{ℕ, List, subst}
use Rattle.f2_dent.specs.Pages.{HasPut, new_item}
use Rattle.f2_dent.proofs.Stores.{puts_new}
use Rattle.f2_dent.proofs.placing.put_entry.Goals as goal

pub returns-in_ok-insert-in-None : goal.returns-in_ok-insert-in-None
returns-in_ok-insert-in-None c =
    let entry = c.args.entry.now in
    let updates = c.in_ok-insert-in-None.ensures.updates in
    puts_new c.args.pages.now c.get_mut.follows.lender-at-none c.insert.new.self c.args.block c.put-in-None.new.self c.new-page.result.block
    (new_item c.args.slot c.args.hash entry.ino entry.kind entry.name)
    c.get_mut.follows.holds-at-none c.in-None.ensures.value c.new-page.ensures
    (subst (λ (name : List ℕ). HasPut c.new-page.result.block c.put-in-None.new.self.block (new_item c.args.slot c.args.hash entry.ino entry.kind name)) c.bytes-in-None.ensures.same c.put-in-None.ensures)
    updates.1 updates.2
