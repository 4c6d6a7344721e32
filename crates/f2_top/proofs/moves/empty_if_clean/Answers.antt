use Rattle.std.proofs.Common.{◌≡◌, ◌⊎◌, ◌∙◌, List, [], ℕ, Option, ap, sym, subst, inl, inr, ⊎_elim}
use Rattle.std.specs.Prelude.{flat_map, map, false}
use Rattle.f2_defects.specs.Collected.{defect_in}
use Rattle.f2_defects.specs.Verdicts.{IsVerdict}
use Rattle.f2_defects.specs.declared.verdict.Verdict.TheVariants as verdict
use Rattle.f2_top.specs.Answers.{IsWhole}
use Rattle.f2_top.specs.Run.{least_failing}
use Rattle.f2_top.specs.Ranges.{aim_at, space_answer, unless_failing, lines_unless_failing, moves_line, LeavesEmptied}
use Rattle.f2_top.specs.Text.{IsFront, defect_line}
use Rattle.f2_top.specs.declared.answer.Answer.TheVariants.{DiskFault, NoMemory, SinkFault}
use Rattle.f2_top.proofs.Alone.{defects_have_lines}
use Rattle.f2_top.proofs.Moving.{always_read, clean_answer, done_whole, defects_answer, defects_left, defects_text, defects_whole, same_reads}
use Rattle.f2_top.proofs.Readable.{clean_none}
use Rattle.f2_top.proofs.moves.empty_if_clean.Goals as goal

pub returns-in-Clean-clause-exact : goal.returns-in-Clean-clause-exact
returns-in-Clean-clause-exact g c = λ image told.
    let aim = aim_at c.args.range c.args.target c.args.down in
    let answer = c.empty_checked.result in
    let none = clean_none image (subst (IsVerdict image 1) c.in-Clean.is (c.requires.verdict image told)) in
    subst (λ (o : Option ℕ). (answer ≡ unless_failing image o (space_answer image aim)) ⊎ ((answer ≡ DiskFault) ⊎ ((answer ≡ NoMemory) ⊎ (answer ≡ SinkFault)))) (sym none) (c.empty_checked.ensures.exact image told)

pub returns-in-Clean-clause-lines : goal.returns-in-Clean-clause-lines
returns-in-Clean-clause-lines g c = λ image told' had told.
    let aim = aim_at c.args.range c.args.target c.args.down in
    let none = clean_none image (subst (IsVerdict image 1) c.in-Clean.is (c.requires.verdict image told')) in
    let front = c.empty_checked.ensures.lines image told' had told in
    (front.0, subst (λ (o : Option ℕ). IsFront [] (lines_unless_failing image o (moves_line image aim)) c.empty_checked.result front.0) (sym none) front.1, front.2)

pub returns-in-Clean-clause-image : goal.returns-in-Clean-clause-image
returns-in-Clean-clause-image g c = λ image told fault memory.
    let aim = aim_at c.args.range c.args.target c.args.down in
    let none = clean_none image (subst (IsVerdict image 1) c.in-Clean.is (c.requires.verdict image told)) in
    let left = c.empty_checked.ensures.image image told fault memory in
    (left.0, left.1, subst (λ (o : Option ℕ). LeavesEmptied image aim (unless_failing image o (space_answer image aim)) left.0) (sym none) left.2)

pub returns-in-Defects-clause-exact : goal.returns-in-Defects-clause-exact
returns-in-Defects-clause-exact g c = λ image told.
    let found = verdict.Defects c.in-Defects.rule c.in-Defects.list c.in-Defects.count in
    let says = subst (IsVerdict image 1) c.in-Defects.is (c.requires.verdict image told) in
    let is = defects_answer image found (space_answer image (aim_at c.args.range c.args.target c.args.down)) tt says in
    ⊎_elim (λ own. inl (own ∙ is)) (λ fails. inr (inr fails)) c.put_defects.ensures.kind

pub returns-in-Defects-clause-sink_fault : goal.returns-in-Defects-clause-sink_fault
returns-in-Defects-clause-sink_fault g c = λ image told fault.
    let found = verdict.Defects c.in-Defects.rule c.in-Defects.list c.in-Defects.count in
    let says = subst (IsVerdict image 1) c.in-Defects.is (c.requires.verdict image told) in
    defects_whole image found (space_answer image (aim_at c.args.range c.args.target c.args.down)) tt says

pub returns-in-Defects-clause-lines : goal.returns-in-Defects-clause-lines
returns-in-Defects-clause-lines g c = λ image told' had told.
    let found = verdict.Defects c.in-Defects.rule c.in-Defects.list c.in-Defects.count in
    let says = subst (IsVerdict image 1) c.in-Defects.is (c.requires.verdict image told') in
    let are = defects_text image found (moves_line image (aim_at c.args.range c.args.target c.args.down)) tt says in
    let listed = ap (λ l. flat_map (defect_line c.in-Defects.rule) (map defect_in l)) c.deref.ensures.value in
    let front = c.put_defects.ensures.lines [] had told in
    (front.0, subst (λ (l : List ℕ). IsFront [] l c.put_defects.result front.0) (listed ∙ are) front.1, front.2)

pub returns-in-Defects-clause-image : goal.returns-in-Defects-clause-image
returns-in-Defects-clause-image g c = λ image told fault memory.
    let aim = aim_at c.args.range c.args.target c.args.down in
    let found = verdict.Defects c.in-Defects.rule c.in-Defects.list c.in-Defects.count in
    let says = subst (IsVerdict image 1) c.in-Defects.is (c.requires.verdict image told) in
    (image, told, defects_left image aim found (space_answer image aim) tt says)

pub returns-in-Defects-clause-any_moment : goal.returns-in-Defects-clause-any_moment
returns-in-Defects-clause-any_moment g c =
    let d = c.args.disk.now in
    always_read (g.met.D.Disk.only_now d) (λ x calm left. g.met.D.Disk.settled d x calm left) (same_reads (g.D.Disk.state d))

pub returns-in-Defects-clause-silent : goal.returns-in-Defects-clause-silent
returns-in-Defects-clause-silent g c = λ alone.
    absurd (defects_have_lines false c.in-Defects.rule c.in-Defects.count c.put_defects.result c.put_defects.ensures.kind alone)

pub returns-in-Clean-clause-sink_fault : goal.returns-in-Clean-clause-sink_fault
returns-in-Clean-clause-sink_fault g c = λ image told fault.
    let answer = space_answer image (aim_at c.args.range c.args.target c.args.down) in
    let none = clean_none image (subst (IsVerdict image 1) c.in-Clean.is (c.requires.verdict image told)) in
    subst IsWhole (sym (clean_answer image (least_failing image) answer none)) (done_whole answer (c.empty_checked.ensures.sink_fault image told fault))
