use Rattle.std.proofs.Common.{rules}
use Rattle.f2_commit.proofs.LeftSegments.{taken_entry}
use Rattle.f2_commit.proofs.moved_segments.filled.Goals as goal

pub returns-clause-taken : goal.returns-clause-taken
returns-clause-taken c =
    taken_entry c.args.kind c.args.blocks c.args.i c.min-held.result c.first_marks.result c.entry_with.result c.requires.some (search rules) c.first_marks.ensures
    c.entry_with.ensures.kind c.entry_with.ensures.map c.entry_with.ensures.count
