use Rattle.std.proofs.Common.{refl, arith}
use Rattle.std.proofs.lemmas.List.{length-map}
use Rattle.f2_sum.specs.Records.{nat_entry}
use Rattle.f2_survey.proofs.KnownNodes.{known_limit, kept_entry, no_high}
use Rattle.f2_survey.proofs.nodes.Nodes.entry.Goals as goal

pub returns-then-at-len : goal.returns-then-at-len
returns-then-at-len c = λ image known.
    no_high image c.args.nid (omega (arith, c.len.ensures, length-map c.self.inside.entries.items nat_entry, known_limit image c.self.view_is known, c.if-at-len.true))

pub returns : goal.returns
returns c = λ image known.
    c.live.ensures image (omega (arith, c.len.ensures, length-map c.self.inside.entries.items nat_entry, known_limit image c.self.view_is known, c.if-at-len.false))
    (kept_entry image c.self.view_is known c.args.nid nat_entry c.self.inside.entries.items c.index.result.now refl (omega (arith, c.len.ensures, c.if-at-len.false)) c.index.ensures)
