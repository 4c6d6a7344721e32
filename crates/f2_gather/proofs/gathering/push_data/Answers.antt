use Rattle.std.proofs.Common.{◌++◌, ◌∷◌, [], sym, ap, subst, ◌∙◌, append_assoc}
use Rattle.std.specs.List.Sorted.{IsStrictlyIncreasing}
use Rattle.std.proofs.lemmas.List.{map-append}
use Rattle.f2_gather.specs.declared.gathering.MovedBlock.{MovedBlock}
use Rattle.f2_gather.specs.Gathering.{data_at, addresses_of}
use Rattle.f2_bytes.specs.Summary.{summary_entry}
use Rattle.f2_gather.proofs.GatheredSteps.{adds_none, data_found, data_none}
use Rattle.f2_gather.proofs.RisingLists.{without_one}
use Rattle.f2_gather.proofs.gathering.push_data.Goals as goal

pub returns-in_ok-push-clause-data : goal.returns-in_ok-push-clause-data
returns-in_ok-push-clause-data c = λ image shows number at.
    c.in_ok-push.ensures.items
    ∙ ap (λ l. c.args.into.now.items ++ l)
    (data_found image c.args.segment.now shows c.args.k c.args.address c.requires.place at number c.summary-s.result (c.summary-s.ensures ∙ ap (λ b. summary_entry b c.args.k) c.bytes.ensures.same) c.if-segment.true)

pub returns-else-segment-clause-data : goal.returns-else-segment-clause-data
returns-else-segment-clause-data c = λ image shows number at.
    adds_none c.args.into.now.items (data_at image c.args.address) (data_none image c.args.segment.now shows c.args.k c.args.address c.requires.place at number c.if-segment.false)

pub returns-in_ok-push-clause-rises : goal.returns-in_ok-push-clause-rises
returns-in_ok-push-clause-rises c = λ later rises.
    let old = c.args.into.now.items in
    subst IsStrictlyIncreasing
    (sym (ap (λ l. addresses_of l ++ later) c.in_ok-push.ensures.items ∙ ap (λ l. l ++ later) (map-append (λ (b : MovedBlock). b.address) old _) ∙ append_assoc (addresses_of old) (c.args.address ∷ []) later)) rises

pub returns-else-segment-clause-rises : goal.returns-else-segment-clause-rises
returns-else-segment-clause-rises c = without_one (addresses_of c.args.into.now.items) c.args.address
