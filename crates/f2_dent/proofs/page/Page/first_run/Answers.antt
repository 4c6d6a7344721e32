use Rattle.std.proofs.Common.{ℕ, List, sym, ap, ◌∙◌}
use Rattle.std.specs.Prelude.{find}
use Rattle.f2_bytes.specs.Bytes.{numbers_below}
use Rattle.f2_dent.specs.Pages.{is_run}
use Rattle.f2_dent.proofs.Rooms.{no_room, less_room}
use Rattle.f2_dent.proofs.page.Page.first_run.Goals as goal

pub returns-then-self-slots-clause-first : goal.returns-then-self-slots-clause-first
returns-then-self-slots-clause-first c = sym (no_room c.args.self.now.block c.args.self.now.room c.args.slots c.args.self.now.has_room c.if-self-slots.true)

pub invariant_of-self : goal.invariant_of-self
invariant_of-self c = record {
  has_room = less_room c.args.self.now.block c.args.slots c.requires
      (ap (λ (map : List ℕ). find (is_run 214 map c.args.slots) (numbers_below 214)) (sym c.bytes.ensures.same) ∙ sym c.in-None.ensures);
}
