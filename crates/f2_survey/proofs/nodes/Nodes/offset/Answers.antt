use Rattle.std.proofs.Common.{◌≡◌, sym, ap, ◌∙◌, arith}
use Rattle.std.specs.Option.{option_map_or}
use Rattle.f2_bytes.specs.Node.{node_offset}
use Rattle.f2_bytes.specs.Tree.{read_node}
use Rattle.f2_bytes.specs.Check.{none_value}
use Rattle.f2_survey.specs.Known.{offset_said}
use Rattle.f2_survey.proofs.KnownNodes.{known_offset, past_offsets, no_offset, an_offset}
use Rattle.f2_survey.proofs.nodes.Nodes.offset.Goals as goal

pub returns-then-at-len : goal.returns-then-at-len
returns-then-at-len c = λ image known.
    ap (λ o. option_map_or node_offset o none_value) (past_offsets image c.self.view_is known c.args.nid (omega (arith, c.len.ensures, c.if-at-len.true)))

pub returns-then-offset : goal.returns-then-offset
returns-then-offset c = λ image known.
    let said = known_offset image c.self.view_is known c.args.nid c.index-offset.result.now (omega (arith, c.len.ensures, c.if-at-len.false)) in
    no_offset (read_node image c.args.nid) (known.small c.args.nid) (sym said ∙ sym c.index-offset.ensures ∙ c.if-offset.true)

pub returns : goal.returns
returns c = λ image known.
    let said = known_offset image c.self.view_is known c.args.nid c.index-offset.result.now (omega (arith, c.len.ensures, c.if-at-len.false)) in
    let is : c.index-offset.result.now ≡ offset_said image c.args.nid = c.index-offset.ensures ∙ said in
    c.from.ensures ∙ is ∙ an_offset (read_node image c.args.nid) (λ none. c.if-offset.false (is ∙ none))
