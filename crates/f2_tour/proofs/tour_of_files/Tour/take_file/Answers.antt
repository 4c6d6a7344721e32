use Rattle.std.proofs.Common.{◌+◌}
use Rattle.std.specs.Prelude.{◌==◌}
use Rattle.f2_bytes.specs.Node.{xattr_nid}
use Rattle.f2_bytes.specs.Check.{digit}
use Rattle.f2_items.specs.Counted.{times_in}
use Rattle.f2_items.proofs.NameSteps.{counted_same}
use Rattle.f2_tour.proofs.tour_of_files.Tour.take_file.Goals as goal

pub returns-clause-times : goal.returns-clause-times
returns-clause-times c = λ limit times counted.
    let names = c.args.names.now in
    counted_same limit c.name.new.self (λ n. times n + times_in names n + digit (c.inode_field.result == n)) (λ n. times n + times_in names n + digit (xattr_nid c.args.inode.now == n))
    (λ n i. times n + times_in names n + digit (c.inode_field.ensures.value i == n))
    (c.name.ensures limit (λ n. times n + times_in names n) (c.in_ok-take_names.ensures.times limit times counted))
