use Rattle.f2_survey.specs.Known.{offset_said, kind_said}
use Rattle.f2_survey.proofs.SeenNodes.{one_more, compared_more}
use Rattle.f2_survey.proofs.survey_so_far.Seen.take.Goals as goal

pub returns-clause-seen : goal.returns-clause-seen
returns-clause-seen c = λ image entry said main before.
    let nid = c.args.nid in
    let old = c.args.self.now in
    record {
      offsets = one_more (offset_said image) nid old.offsets.items c.push.new.self.items c.offset_said.result before.offsets c.in_ok-push.ensures.items (c.offset_said.ensures image nid said);
      kinds = one_more (kind_said image) nid old.kinds.items c.push-2.new.self.items c.kind_said.result before.kinds c.in_ok-push-2.ensures.items
          (c.kind_said.ensures image nid (c.said_by_inode-inode.ensures image entry said));
      defects = compared_more image nid old.defects c.compare.new.self before.defects (c.in_ok-compare.ensures.compares image entry said main);
    }
