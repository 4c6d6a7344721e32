use Rattle.std.proofs.Common.{◌≡◌, sym, ap, ◌∙◌, arith}
use Rattle.f2_bytes.specs.Check.{inode_of, kind_of_inode}
use Rattle.f2_survey.specs.Known.{kind_said}
use Rattle.f2_survey.proofs.FileTypes.{type_missing, type_unknown, type_known}
use Rattle.f2_survey.proofs.KnownNodes.{known_kind, past_kinds}
use Rattle.f2_survey.proofs.nodes.Nodes.kind.Goals as goal

pub returns-then-at-len : goal.returns-then-at-len
returns-then-at-len c = λ image known. ap kind_of_inode (past_kinds image c.self.view_is known c.args.nid (omega (arith, c.len.ensures, c.if-at-len.true)))

pub returns-then-kind-eq0 : goal.returns-then-kind-eq0
returns-then-kind-eq0 c = λ image known.
    let said = known_kind image c.self.view_is known c.args.nid c.index-kind.result.now (omega (arith, c.len.ensures, c.if-at-len.false)) in
    type_missing (inode_of image c.args.nid) (sym said ∙ sym c.index-kind.ensures ∙ c.if-kind-eq0.true)

pub returns-then-kind-eq-UNTYPED : goal.returns-then-kind-eq-UNTYPED
returns-then-kind-eq-UNTYPED c = λ image known.
    let said = known_kind image c.self.view_is known c.args.nid c.index-kind.result.now (omega (arith, c.len.ensures, c.if-at-len.false)) in
    type_unknown (inode_of image c.args.nid) (sym said ∙ sym c.index-kind.ensures ∙ c.if-kind-eq-UNTYPED.true)

pub returns : goal.returns
returns c = λ image known.
    let said = known_kind image c.self.view_is known c.args.nid c.index-kind.result.now (omega (arith, c.len.ensures, c.if-at-len.false)) in
    let is : c.index-kind.result.now ≡ kind_said image c.args.nid = c.index-kind.ensures ∙ said in
    c.from.ensures ∙ is
    ∙ type_known (inode_of image c.args.nid) (λ zero. c.if-kind-eq0.false (is ∙ zero)) (λ eight. c.if-kind-eq-UNTYPED.false (is ∙ eight))
