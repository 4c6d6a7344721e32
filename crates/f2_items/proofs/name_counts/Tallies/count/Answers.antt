use Rattle.std.proofs.Common.{◌≡◌, ◌+◌, ◌<◌, length, get_or, set, sym, arith, ap, ◌∙◌}
use Rattle.std.proofs.lemmas.List.{get_or_default}
use Rattle.f2_items.specs.declared.name_counts.Tallies.{Tallies}
use Rattle.f2_items.proofs.TallySteps.{past_limit, first_name, further_name}
use Rattle.f2_items.proofs.name_counts.Tallies.count.Goals as goal
use Rattle.f2_items.proofs.name_counts.Tallies.count.Goals.{then-names-eq0, else-names-eq0, then-target-len-via-then-target-len, then-target-len-via-else-target-len+then-target-len-2}

pub returns-then-target-len : goal.returns-then-target-len
returns-then-target-len c = λ limit namings is.
    let past = past_limit limit namings c.args.directory c.args.target c.args.self.now in
    elim c.then-target-len.branch [
      | then-target-len-via-then-target-len w ↦ past (omega (arith, w.if-target-len.true, is.counts_length)) is
      | then-target-len-via-else-target-len+then-target-len-2 w ↦ past (omega (arith, w.if-target-len-2.true, is.parents_length)) is
    ]

pub returns : goal.returns
returns c = λ limit namings is.
    let old = c.args.self.now in
    let at = c.args.target in
    let below : at < length old.counts.items = omega (arith, c.if-target-len.false) in
    let inside : at < length old.parents.items = omega (arith, c.if-target-len-2.false) in
    let names : c.index-names.result.now ≡ get_or old.counts.items at 0 = c.index-names.ensures ∙ get_or_default old.counts.items at _ 0 below in
    elim c.if-names-eq0.branch [
      | then-names-eq0 w ↦
          first_name limit namings c.args.directory at old _ below
          (ap (λ (t : Tallies). set t.counts.items at (c.index-names.result.now + 1)) w.self-is ∙ ap (λ n. set old.counts.items at (n + 1)) names)
          (sym names ∙ w.if-names-eq0.true) inside (ap (λ (t : Tallies). t.parents.items) w.self-is) is
      | else-names-eq0 w ↦
          further_name limit namings c.args.directory at old _ below
          (ap (λ (t : Tallies). set t.counts.items at (c.index-names.result.now + 1)) w.self-is ∙ ap (λ n. set old.counts.items at (n + 1)) names)
          (λ none. w.if-names-eq0.false (names ∙ none)) (ap (λ (t : Tallies). t.parents) w.self-is) is
    ]
