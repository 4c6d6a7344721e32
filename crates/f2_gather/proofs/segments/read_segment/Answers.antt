use Rattle.std.proofs.Common.{◌+◌, nat_lt, sym, ap, subst, ◌∙◌}
use Rattle.f2_bytes.specs.declared.layout.Layout.{Layout}
use Rattle.f2_bytes.specs.Journal.{SitEntry}
use Rattle.f2_bytes.specs.Summary.{summary}
use Rattle.f2_bytes.specs.Superblock.{segment_start}
use Rattle.f2_view.specs.Mounted.{IsMountOf}
use Rattle.f2_gather.proofs.GatheredSteps.{layout_is}
use Rattle.f2_gather.proofs.segments.read_segment.Goals as goal

pub returns-clause-shows : goal.returns-clause-shows
returns-clause-shows g c = λ image told of.
    let entry = c.in_ok-kind.ensures in
    let later : IsMountOf image c.sit_entry.new.self = subst (IsMountOf image) (sym entry.mount) of in
    record {
      is_data = ap (λ (e : SitEntry). nat_lt e.kind 3) (entry.entry image told of);
      summaries = λ k low.
          c.in_ok-summaries.ensures.summaries image (entry.reads.told ∙ told) later k low
          ∙ ap (λ (l : Layout). summary image (segment_start l c.args.number + k)) (layout_is image c.sit_entry.new.self later);
    }
