use Rattle.std.proofs.Common.{Some, sym, ap, ◌∙◌}
use Rattle.f2_bytes.specs.Journal.{NatEntry}
use Rattle.f2_survey.proofs.KnownNodes.{no_low, no_address, a_node}
use Rattle.f2_survey.proofs.nodes.live.Goals as goal

pub returns-then-nid-lt-FIRST_NID : goal.returns-then-nid-lt-FIRST_NID
returns-then-nid-lt-FIRST_NID c = λ image high is. no_low image c.args.nid c.if-nid-lt-FIRST_NID.true

pub returns-then-entry-eq0 : goal.returns-then-entry-eq0
returns-then-entry-eq0 c = λ image high is. no_address image c.args.nid (ap (λ (e : NatEntry). e.address) (sym is) ∙ c.if-entry-eq0.true)

pub returns : goal.returns
returns c = λ image high is.
    ap (λ (e : NatEntry). Some e) is
    ∙ a_node image c.args.nid c.if-nid-lt-FIRST_NID.false high (λ zero. c.if-entry-eq0.false (ap (λ (e : NatEntry). e.address) is ∙ zero))
