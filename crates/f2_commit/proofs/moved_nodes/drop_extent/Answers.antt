use Rattle.std.proofs.Common.{◌∙◌, ◌&&◌, nat_le, nat_lt}
use Rattle.std.specs.List.{list_any}
use Rattle.f2_bytes.specs.Bytes.{word}
use Rattle.f2_bytes.specs.Defragment.{is_covered, regular_extent}
use Rattle.f2_gather.specs.Gathering.{addresses_of}
use Rattle.f2_commit.proofs.MovedWords.{extent_zeroed, extent_kept}
use Rattle.f2_commit.proofs.moved_nodes.drop_extent.Goals as goal

pub returns-then-covers : goal.returns-then-covers
returns-then-covers c = λ j low.
    c.clear_extent.ensures j low
    ∙ extent_zeroed (list_any (is_covered (regular_extent c.args.was.now)) (addresses_of c.args.moved.now)) j (word c.args.b.now j) (c.if-covers.ensures c.requires.ascending)

pub returns-else-covers : goal.returns-else-covers
returns-else-covers c = λ j low.
    extent_kept (nat_le 87 j && nat_lt j 90) (list_any (is_covered (regular_extent c.args.was.now)) (addresses_of c.args.moved.now)) (word c.args.b.now j) (c.if-covers.ensures c.requires.ascending)
