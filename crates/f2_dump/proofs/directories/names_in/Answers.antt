use Rattle.std.proofs.Common.{◌∙◌, ◌/◌, map, ap, sym, subst}
use Rattle.f2_view.specs.Directories.{item_of}
use Rattle.f2_view.specs.Mounted.{IsMountOf}
use Rattle.f2_dump.proofs.DirectoryNames.{none_there, file_there, directory_there, names_read}
use Rattle.f2_dump.proofs.directories.names_in.Goals as goal

pub returns-then-not-branch-clause-names : goal.returns-then-not-branch-clause-names
returns-then-not-branch-clause-names g c = λ image told of.
    none_there image c.args.ino c.in_ok-read_inode.field-0 c.read_inode.new.into (c.in_ok-read_inode.ensures.inode image told of) c.if-not-branch.true

pub returns-then-inode_field-ne4-clause-names : goal.returns-then-inode_field-ne4-clause-names
returns-then-inode_field-ne4-clause-names g c = λ image told of.
    file_there image c.args.ino c.in_ok-read_inode.field-0 c.read_inode.new.into (c.in_ok-read_inode.ensures.inode image told of)
    (λ is. c.if-inode_field-ne4.true (ap (λ n. n / 4096) c.inode_field.ensures.value ∙ is))

pub returns-clause-names : goal.returns-clause-names
returns-clause-names g c = λ image told of.
    let four = sym (ap (λ n. n / 4096) c.inode_field.ensures.value) ∙ c.if-inode_field-ne4.false in
    let directory = directory_there image c.args.ino c.in_ok-read_inode.field-0 c.read_inode.new.into (c.in_ok-read_inode.ensures.inode image told of) c.if-not-branch.false four in
    let entries = c.in_ok-names.ensures.entries image (c.read_inode.ensures.reads.told ∙ told) (subst (IsMountOf image) (sym c.read_inode.ensures.mount) of) in (
      directory,
      names_read image c.args.ino (map item_of c.in_ok-names.names.items) (map item_of c.drop_dots.new.names.items) (map item_of c.put_in_order.new.names.items)
          directory entries c.drop_dots.ensures c.in_ok-put_in_order.ensures,
    )
