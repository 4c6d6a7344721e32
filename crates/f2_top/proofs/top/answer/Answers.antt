use Rattle.std.proofs.Common.{◌≡◌, ◌∙◌, ℕ, List, ap, inl, Some, rules, sym, subst}
use Rattle.f2_top.specs.Text.{lines_if_done}
use Rattle.f2_top.specs.Answers.{IsWhole}
use Rattle.f2_view.specs.Mounting.{mounted}
use Rattle.f2_top.specs.Run.{AreLines, Leaves, LeavesNew, MovesNone, check_answer, dump_answer}
use Rattle.f2_mkfs.specs.Formatting.{format_answer}
use Rattle.f2_mkfs.specs.declared.formatting.Options.{Options}
use Rattle.std.specs.Prelude.{unwrap_or}
use Rattle.f2_top.specs.declared.answer.Answer.{Answer}
use Rattle.f2_top.specs.declared.answer.Answer.TheVariants.{Done}
use Rattle.f2_top.specs.declared.jobs.Job.TheVariants.{Check, Tree, Dump, Defrag, Mkfs}
use Rattle.f2_top.proofs.Moving.{super_stays}
use Rattle.f2_top.proofs.Texts.{front_of}
use Rattle.f2_top.proofs.top.answer.Goals as goal

-- an answer that is Done comes after all lines
done_whole : (answer : Answer) → answer ≡ Done → IsWhole answer
done_whole answer is = subst IsWhole (sym is) tt

pub returns-in-Some-Check-clause-lines : goal.returns-in-Some-Check-clause-lines
returns-in-Some-Check-clause-lines g c = λ early lines are.
    let checks : c.args.job.now ≡ Some Check = search rules in
    let it = subst (λ j. AreLines j (g.D.Disk.state c.args.disk.now) early lines) checks are in
    front_of early lines _ _ _ _ _ (it.2.1 ∙ ap (λ (l : List ℕ). lines_if_done (check_answer it.0 (mounted (g.D.Disk.state c.args.disk.now).size it.0)) l) it.2.0) it.2.0 (c.check_image.ensures.lines it.0 it.1)

pub returns-in-Some-Tree-clause-lines : goal.returns-in-Some-Tree-clause-lines
returns-in-Some-Tree-clause-lines g c = λ early lines are.
    let checks : c.args.job.now ≡ Some Tree = search rules in
    let it = subst (λ j. AreLines j (g.D.Disk.state c.args.disk.now) early lines) checks are in
    front_of early lines _ _ _ _ _ (it.2.1 ∙ ap (λ (l : List ℕ). lines_if_done (check_answer it.0 (mounted (g.D.Disk.state c.args.disk.now).size it.0)) l) it.2.0) it.2.0 (c.check_image-in-Some-Tree.ensures.lines it.0 it.1)

pub returns-in-Some-Dump-clause-lines : goal.returns-in-Some-Dump-clause-lines
returns-in-Some-Dump-clause-lines g c = λ early lines are.
    let dumps : c.args.job.now ≡ Some (Dump c.in-Some-Dump.what) = search rules in
    let it = subst (λ j. AreLines j (g.D.Disk.state c.args.disk.now) early lines) dumps are in
    front_of early lines _ _ _ _ _ (it.2.1 ∙ ap (λ (l : List ℕ). lines_if_done (dump_answer c.in-Some-Dump.what it.0 (mounted (g.D.Disk.state c.args.disk.now).size it.0)) l) it.2.0) it.2.0 (c.dump_image.ensures.lines it.0 it.1)

pub returns-in-Some-Defrag-clause-lines : goal.returns-in-Some-Defrag-clause-lines
returns-in-Some-Defrag-clause-lines g c = λ early lines are.
    let moves : c.args.job.now ≡ Some (Defrag c.in-Some-Defrag.start c.in-Some-Defrag.blocks c.in-Some-Defrag.target c.in-Some-Defrag.down) = search rules in
    let it = subst (λ j. AreLines j (g.D.Disk.state c.args.disk.now) early lines) moves are in
    front_of early lines _ _ _ _ _ it.2.1 it.2.0 (c.empty_range.ensures.lines it.0 it.1)

pub returns-in-Some-Dump-clause-stopped : goal.returns-in-Some-Dump-clause-stopped
returns-in-Some-Dump-clause-stopped g c = λ image told fault.
    let dumps : c.args.job.now ≡ Some (Dump c.in-Some-Dump.what) = search rules in
    rw dumps (done_whole _ (c.dump_image.ensures.sink_fault image told fault))

pub returns-in-Some-Defrag-clause-image : goal.returns-in-Some-Defrag-clause-image
returns-in-Some-Defrag-clause-image g c = λ image told fault memory.
    let moves : c.args.job.now ≡ Some (Defrag c.in-Some-Defrag.start c.in-Some-Defrag.blocks c.in-Some-Defrag.target c.in-Some-Defrag.down) = search rules in
    let left = c.empty_range.ensures.image image told fault memory in
    (left.0, left.1, subst (λ j. Leaves j c.args.moment c.args.id (g.D.Disk.state c.args.disk.now).size image left.0) (sym moves) left.2)

pub returns-in-Some-Defrag-clause-none : goal.returns-in-Some-Defrag-clause-none
returns-in-Some-Defrag-clause-none g c = λ image told none.
    let moves : c.args.job.now ≡ Some (Defrag c.in-Some-Defrag.start c.in-Some-Defrag.blocks c.in-Some-Defrag.target c.in-Some-Defrag.down) = search rules in
    c.empty_range.ensures.none image told (subst (λ j. MovesNone j image) moves none)

pub returns-in-Some-Defrag-clause-any_moment : goal.returns-in-Some-Defrag-clause-any_moment
returns-in-Some-Defrag-clause-any_moment g c = λ makes.
    let d = c.args.disk.now in
    super_stays (g.met.D.Disk.only_now d) (λ x calm left. g.met.D.Disk.settled d x calm left) (λ image told fails. c.empty_range.ensures.none image told (inl fails)) c.empty_range.ensures.any_moment

pub returns-in-Some-Mkfs-clause-image : goal.returns-in-Some-Mkfs-clause-image
returns-in-Some-Mkfs-clause-image g c = λ image told fault memory.
    let makes : c.args.job.now ≡ Some (Mkfs c.in-Some-Mkfs.sectors c.in-Some-Mkfs.label c.in-Some-Mkfs.uuid c.in-Some-Mkfs.second c.in-Some-Mkfs.features c.in-Some-Mkfs.force) = search rules in
    let size = (g.D.Disk.state c.args.disk.now).size in
    let left = c.make_image.ensures.image image told fault memory in
    let leaves : List ℕ → ℕ → Type 0
    = λ id second.
    let o : Options = record {
      sectors = c.in-Some-Mkfs.sectors;
      label = c.in-Some-Mkfs.label;
      uuid = id;
      second = second;
      features = c.in-Some-Mkfs.features;
      force = c.in-Some-Mkfs.force;
    } in LeavesNew o (format_answer size image o) image left.0 in
    let own = subst (λ id. leaves id c.unwrap_or-in-Some-Mkfs.result) c.unwrap_or.ensures left.2 in
    let all = subst (λ second. leaves (unwrap_or c.in-Some-Mkfs.uuid c.args.id) second) c.unwrap_or-in-Some-Mkfs.ensures own in
    (left.0, left.1, subst (λ j. Leaves j c.args.moment c.args.id size image left.0) (sym makes) all)
