use Rattle.std.proofs.Common.{sym, subst, ◌∙◌}
use Rattle.f2_rules.proofs.Beginnings.{table_read}
use Rattle.f2_view.specs.Mounted.{IsMountOf}
use Rattle.f2_rules.proofs.rule_3_and_tour.node_defects.Goals as goal

pub returns-clause-begins : goal.returns-clause-begins
returns-clause-begins g c = λ image told of.
    let b = c.in_ok-found.ensures in
    let begun = b.begun image told of in
    let of-two = subst (IsMountOf image) (sym b.mount) of in
    record {
      found = begun.found;
      next = λ none. record {
        nodes = begun.nodes;
        kept = begun.kept none;
        totals = begun.totals none;
        table = table_read image _ c.in_ok-entries.entries.items of-two (c.in_ok-entries.ensures.entries image (b.reads.told ∙ told) of-two);
      };
    }
