use Rattle.std.proofs.Common.{Some, sym, ◌∙◌}
use Rattle.std.specs.Cmp.Lexicographic.{bytes_decides}
use Rattle.std.specs.Option.{option_or}
use Rattle.std.specs.Str.{bytes_eq}
use Rattle.f2_items.proofs.DotSteps.{of_other, of_dot, of_dot_dot}
use Rattle.f2_items.proofs.open_directory.Dots.take.Goals as goal

pub returns-then-eq-clause-holds : goal.returns-then-eq-clause-holds
returns-then-eq-clause-holds c = λ items x name ino holds.
    of_dot items x c.args.self.now holds (name ∙ (bytes_decides c.args.name.now c.as_slice.result.now).0 (sym c.eq.ensures ∙ c.if-eq.true) ∙ c.as_slice.ensures)
    c.first_of-self.result (c.first_of-self.ensures ∙ λ t. option_or c.args.self.now.dot (Some (sym ino t)))

pub returns-then-eq-2-clause-holds : goal.returns-then-eq-2-clause-holds
returns-then-eq-2-clause-holds c = λ items x name ino holds.
    of_dot_dot items x c.args.self.now holds (name ∙ (bytes_decides c.args.name.now c.as_slice-2.result.now).0 (sym c.eq-2.ensures ∙ c.if-eq-2.true) ∙ c.as_slice-2.ensures)
    c.first_of-self-then-eq-2.result (c.first_of-self-then-eq-2.ensures ∙ λ t. option_or c.args.self.now.dot_dot (Some (sym ino t)))

pub returns-clause-holds : goal.returns-clause-holds
returns-clause-holds c = λ items x name ino holds.
    of_other items x c.args.self.now holds
    ((λ t. bytes_eq (name t) (sym c.as_slice.ensures t)) ∙ sym c.eq.ensures ∙ c.if-eq.false)
    ((λ t. bytes_eq (name t) (sym c.as_slice-2.ensures t)) ∙ sym c.eq-2.ensures ∙ c.if-eq-2.false)
