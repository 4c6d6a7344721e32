use Rattle.std.proofs.Common.{refl}
use Rattle.f2_bytes.specs.Check.{item_parts}
use Rattle.f2_items.proofs.FoundParts.{no_parts, found}
use Rattle.f2_survey.proofs.PartDefects.{part_more}
use Rattle.f2_items.proofs.rule_10_parts.item_parts.Goals as goal

pub returns : goal.returns
unfolding item_parts
returns c = λ image finds.
    let r = c.args.rules.now in
    let none = no_parts image 10 c.new-c.result c.new-c.ensures.none in
    let one = part_more image 10 0 c.new-c.result r.illegal c.append.new.self none (found image 1 r.illegal refl finds.illegal) c.in_ok-append.ensures.appends in
    let two = part_more image 10 1 c.append.new.self r.twins c.append-2.new.self one (found image 2 r.twins refl finds.twins) c.in_ok-append-2.ensures.appends in
    let three = part_more image 10 2 c.append-2.new.self r.hashes c.append-3.new.self two (found image 3 r.hashes refl finds.hashes) c.in_ok-append-3.ensures.appends in
    let four = part_more image 10 3 c.append-3.new.self r.buckets c.append-4.new.self three (found image 4 r.buckets refl finds.buckets) c.in_ok-append-4.ensures.appends in
    part_more image 10 4 c.append-4.new.self r.kinds c.append-5.new.self four (found image 5 r.kinds refl finds.kinds) c.in_ok-append-5.ensures.appends
