use Rattle.std.proofs.Common.{◌++◌, Some, None, List, Vec, Global, map, subst, sym, ap, ◌∙◌, refl}
use Rattle.std.proofs.lemmas.Bool.{cond-true, cond-false}
use Rattle.f2_bytes.specs.Directory.{Item}
use Rattle.f2_view.specs.declared.directories.Named.{Named}
use Rattle.f2_view.specs.Directories.{item_of, legal, inode_items}
use Rattle.f2_view.specs.Mounted.{Mounted, IsMountOf, IsKept}
use Rattle.f2_view.proofs.DirectoryReads.{of_no_inode, of_inode}
use Rattle.f2_view.proofs.NodeReads.{hole}
use Rattle.f2_view.proofs.accessors.Mount.entries.Goals as goal
use Rattle.f2_view.proofs.accessors.Mount.entries.Goals.{then-branch+in_ok-push_inode, else-branch}

pub returns-clause-entries : goal.returns-clause-entries
returns-clause-entries g c = λ image told of.
    let kept = subst IsKept c.self.view_is c.self.invariant.kept in
    let none = hole image c.args.self.now of kept.in_order 0 refl in
    let inode = c.node.new.into in
    elim c.if-branch.branch [
      | then-branch+in_ok-push_inode w ↦
          let there = c.in_ok-node.ensures.node image told of ∙ cond-true c.in_ok-node.field-0 (Some inode) None w.if-branch.true in
          ap (λ (v : Vec Named Global). map item_of v.items) w.entries-is
          ∙ w.in_ok-push_inode.ensures.entries image (c.in_ok-node.ensures.reads.told ∙ told) (subst (λ (m : Mounted). IsMountOf image m) (sym c.in_ok-node.ensures.mount) of)
          ∙ ap (λ (v : List Named). map item_of v ++ legal (inode_items image inode)) c.new-entries.ensures.items
          ∙ ap (λ (l : List Item). legal l) (sym (of_inode image c.args.ino none inode there))
      | else-branch w ↦
          let missing = c.in_ok-node.ensures.node image told of ∙ cond-false c.in_ok-node.field-0 (Some inode) None w.if-branch.false in
          ap (λ (v : Vec Named Global). map item_of v.items) w.entries-is
          ∙ ap (λ (v : List Named). map item_of v) c.new-entries.ensures.items
          ∙ ap (λ (l : List Item). legal l) (sym (of_no_inode image c.args.ino missing))
    ]
