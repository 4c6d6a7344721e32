use Rattle.std.proofs.Common.{◌++◌, sym, ap, subst, ◌∙◌}
use Rattle.std.proofs.lemmas.Result.{on_ok_weaker}
use Rattle.f2_bytes.specs.Check.{offset_of_node, same}
use Rattle.f2_defects.specs.Collected.{Collects, defects_of}
use Rattle.f2_bytes.specs.Node.{attribute_offset}
use Rattle.f2_files.proofs.AttributeDefects.{attributes-none, attributes-one}
use Rattle.f2_files.proofs.kept_of_files.compare_attributes.Goals as goal

pub returns-then-nid-eq0 : goal.returns-then-nid-eq0
returns-then-nid-eq0 c = λ image known is has. attributes-none image c.args.ino c.args.inode.now c.args.defects.now is (sym c.inode_field-nid.ensures.value ∙ c.if-nid-eq0.true) has

pub returns : goal.returns
returns c = on_ok_weaker c.same.result (λ compares image known is has.
    let nid = c.inode_field-nid.ensures.value in
    attributes-one image c.args.ino c.args.inode.now c.args.defects.now c.same.new.self is (λ none. c.if-nid-eq0.false (nid ∙ none)) c.same.ensures.part
    (λ defects of. subst (Collects c.same.new.self)
    (λ i. defects ++ defects_of c.args.defects.now.part (c.from.ensures i) 0 (same ((c.offset_in-offset.ensures image known ∙ ap (λ n. offset_of_node image n c.args.ino) nid) i) attribute_offset))
    (compares defects of)) has) c.same.ensures.compares
