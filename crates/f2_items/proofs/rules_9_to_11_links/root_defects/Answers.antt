use Rattle.std.proofs.Common.{[], sym, ◌∙◌, subst}
use Rattle.f2_bytes.specs.Check.{nids, same}
use Rattle.f2_defects.specs.Collected.{Collects, defects_of}
use Rattle.f2_items.specs.Directories.{name_limit, namings_below}
use Rattle.f2_items.proofs.LinkParts.{root_part}
use Rattle.f2_items.proofs.NameCounts.{name_count-is, root_within}
use Rattle.f2_items.proofs.rules_9_to_11_links.root_defects.Goals as goal

pub returns : goal.returns
returns c = λ image gathered.
    let counted = c.names.ensures (name_limit image) (namings_below image (nids image)) gathered.tally (root_within image) ∙ sym (name_count-is image 3) in
    subst (Collects c.same.new.self)
    ((λ i. defects_of (c.new-found.ensures.part i) 3 0 (same (counted i) 0)) ∙ root_part image)
    (c.in_ok-same.ensures.compares [] c.new-found.ensures.none)
