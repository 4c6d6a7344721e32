use Rattle.std.proofs.Common.{◌*◌, ◌++◌, Some, None, List, ℕ, map, sym, subst, ap, ◌∙◌}
use Rattle.std.proofs.lemmas.Bool.{cond-true, cond-false}
use Rattle.f2_bytes.specs.Directory.{scan}
use Rattle.f2_view.specs.Directories.{item_of, legal, shifted}
use Rattle.f2_view.specs.Mounted.{IsKept}
use Rattle.f2_view.proofs.NodeReads.{hole}
use Rattle.f2_view.proofs.Pushes.{adds_nothing, at_address}
use Rattle.f2_view.proofs.accessors.Mount.push_block.Goals as goal

pub returns-then-address-eq0-clause-entries : goal.returns-then-address-eq0-clause-entries
returns-then-address-eq0-clause-entries g c = λ image told of.
    let kept = subst IsKept c.self.view_is c.self.invariant.kept in
    adds_nothing item_of c.args.into.now.items _
    (at_address image c.args.first c.args.address None (hole image c.args.self.now of kept.in_order c.args.address c.if-address-eq0.true))

pub returns-in_ok-push_items-clause-entries : goal.returns-in_ok-push_items-clause-entries
returns-in_ok-push_items-clause-entries g c = λ image told of.
    let block = c.main_block.new.into in
    let there = c.in_ok-main_block.ensures.block image told of ∙ cond-true c.in_ok-main_block.field-0 (Some block) None c.if-branch.true in
    c.in_ok-push_items.ensures.entries
    ∙ ap (λ (b : List ℕ). map item_of c.args.into.now.items ++ legal (map (shifted (214 * c.args.first)) (scan b 214))) c.bytes.ensures.same
    ∙ ap (λ l. map item_of c.args.into.now.items ++ legal l) (sym (at_address image c.args.first c.args.address (Some block) there))

pub returns-else-branch-clause-entries : goal.returns-else-branch-clause-entries
returns-else-branch-clause-entries g c = λ image told of.
    let none = c.in_ok-main_block.ensures.block image told of ∙ cond-false c.in_ok-main_block.field-0 (Some c.main_block.new.into) None c.if-branch.false in
    adds_nothing item_of c.args.into.now.items _ (at_address image c.args.first c.args.address None none)
