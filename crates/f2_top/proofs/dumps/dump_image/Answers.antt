use Rattle.std.proofs.Common.{◌≡◌, ◌≢◌, ◌∙◌, ◌++◌, ℕ, List, [], take, Option, Some, None, Ok, Err, Result, ap, sym, refl, subst, inl}
use Rattle.std.proofs.lemmas.List.{append-nil}
use Rattle.f2_bytes.specs.Bytes.{Image}
use Rattle.f2_disk.proofs.Runs.{reads_then}
use Rattle.f2_view.specs.Mounted.{Mounted, layout_in}
use Rattle.f2_view.specs.Mounting.{mounted}
use Rattle.f2_view.specs.declared.mounting.MountRefusal.{MountRefusal}
use Rattle.f2_dump.specs.Dump.{Refuses, Lacks}
use Rattle.f2_dump.specs.declared.dumping.DumpRefusal.{DumpRefusal}
use Rattle.f2_dump.specs.declared.dumping.DumpRefusal.TheVariants.{OutOfRange}
use Rattle.f2_dump.specs.declared.dumping.What.{What}
use Rattle.f2_dump.specs.Text.{dump_lines, missing, outside}
use Rattle.f2_top.specs.Run.{number_answer, dump_answer, mounted_lines}
use Rattle.f2_top.specs.Text.{IsFront, IsFrontOf, lines_if_done}
use Rattle.f2_top.specs.declared.answer.Answer.{Answer}
use Rattle.f2_top.proofs.Missing.{lines_of_missing}
use Rattle.f2_top.proofs.Unmounted.{unmounted}
use Rattle.f2_top.proofs.dumps.dump_image.Goals as goal

-- a dump whose sink failed put a prefix of the lines
cut : (what : What) (image : Image) (m : Mounted) (is : Result Mounted MountRefusal) (had : List ℕ) (told : Option (List ℕ)) → Ok m ≡ is → ((n : ℕ) × (told ≡ Some (had ++ take n (dump_lines image what))))
    → (text : List ℕ) × ((n : ℕ) × (text ≡ take n (mounted_lines what image is))) × (told ≡ Some (had ++ text))
cut what image m is had told same part = (take part.0 (dump_lines image what), (part.0, ap (λ r. take part.0 (mounted_lines what image r)) same), part.1)

pub returns-in-Err-SinkFault-clause-lines : goal.returns-in-Err-SinkFault-clause-lines
returns-in-Err-SinkFault-clause-lines g c = λ image told' had told.
    let reads = c.mount.ensures.reads in
    cut c.args.what image c.in-Ok.m _ had _ (c.in-Ok.ensures.exact image told') ((c.dump.ensures.lines image (reads.told ∙ told') (c.in-Ok.ensures.of_image image told')).part had told)

-- a dump that refused no number had none that lies outside
inside : {T : Type 0} (outside : Option ℕ) (old new : Option (List ℕ)) (result : Result T DumpRefusal) → Refuses outside old new result → ((n : ℕ) → result ≢ Err (OutOfRange n)) → outside ≡ None
inside None old new result refuses other = refl
inside (Some n) old new result refuses other = absurd (other n ((refuses.exact n).1 refl))

-- one that the disk or want of memory ended put a prefix of the lines, and none where something is missing
ended : (what : What) (image : Image) (m : Mounted) (is : Result Mounted MountRefusal) (had : List ℕ) (told : Option (List ℕ))
    → outside (layout_in m) what ≡ None → Ok m ≡ is → ((n : ℕ) × (told ≡ Some (had ++ take n (dump_lines image what))))
    → (text : List ℕ) × ((n : ℕ) × (text ≡ take n (lines_if_done (dump_answer what image is) (mounted_lines what image is)))) × (told ≡ Some (had ++ text))
ended what image m is had told none same part =
    let all : dump_lines image what ≡ lines_if_done (dump_answer what image (Ok m)) (dump_lines image what)
    = lines_of_missing (missing image what) (outside (layout_in m) what) image what refl none in
    let there = ap (λ (l : List ℕ). take part.0 l) (all ∙ ap (λ r. lines_if_done (dump_answer what image r) (mounted_lines what image r)) same) in
    (take part.0 (dump_lines image what), (part.0, there), part.1)

pub returns-in-Err-DiskFault-clause-lines : goal.returns-in-Err-DiskFault-clause-lines
returns-in-Err-DiskFault-clause-lines g c = λ image told' had told.
    let reads = c.mount.ensures.reads in
    ended c.args.what image c.in-Ok.m _ had _ (inside _ _ _ c.dump.result c.dump.ensures.range (λ n is. cc)) (c.in-Ok.ensures.exact image told') ((c.dump.ensures.lines image (reads.told ∙ told') (c.in-Ok.ensures.of_image image told')).part had told)

pub returns-in-Err-NoMemory-clause-lines : goal.returns-in-Err-NoMemory-clause-lines
returns-in-Err-NoMemory-clause-lines g c = λ image told' had told.
    let reads = c.mount.ensures.reads in
    ended c.args.what image c.in-Ok.m _ had _ (inside _ _ _ c.dump.result c.dump.ensures.range (λ n is. cc)) (c.in-Ok.ensures.exact image told') ((c.dump.ensures.lines image (reads.told ∙ told') (c.in-Ok.ensures.of_image image told')).part had told)

pub returns-in-Ok-dump-clause-reads : goal.returns-in-Ok-dump-clause-reads
returns-in-Ok-dump-clause-reads g c = reads_then c.mount.ensures.goes.later c.mount.ensures.reads c.dump.ensures.reads

-- a dump that was done lacked nothing
found : {T : Type 0} (lacking : Option ℕ) (result : Result T DumpRefusal) → Lacks lacking result → ((e : DumpRefusal) → result ≢ Err e) → lacking ≡ None
found lacking (Ok x) lacks done = lacks.done
found lacking (Err e) lacks done = absurd (done e refl)

-- what a dump answers where this number lies outside and this inode is missing
answer_is : (what : What) (image : Image) (m : Mounted) (is : Result Mounted MountRefusal) (number ino : Option ℕ) → Ok m ≡ is → outside (layout_in m) what ≡ number → missing image what ≡ ino
    → dump_answer what image is ≡ number_answer number ino
answer_is what image m is number ino same out lacking = ap (λ r. dump_answer what image r) (sym same) ∙ ap (λ n. number_answer n (missing image what)) out ∙ ap (λ i. number_answer number i) lacking

pub returns-in-Ok-dump-clause-exact : goal.returns-in-Ok-dump-clause-exact
returns-in-Ok-dump-clause-exact g c = λ image told.
    let reads = c.mount.ensures.reads in
    let lacks = c.dump.ensures.missing image (reads.told ∙ told) (c.in-Ok.ensures.of_image image told) in
    inl (sym (answer_is c.args.what image c.in-Ok.m _ None None (c.in-Ok.ensures.exact image told) (inside _ _ _ c.dump.result c.dump.ensures.range (λ n is. cc)) (found _ c.dump.result lacks (λ e is. cc))))

pub returns-in-Err-SinkFault-clause-sink_fault : goal.returns-in-Err-SinkFault-clause-sink_fault
returns-in-Err-SinkFault-clause-sink_fault g c = λ image told fault.
    let reads = c.mount.ensures.reads in
    let lacks = c.dump.ensures.missing image (reads.told ∙ told) (c.in-Ok.ensures.of_image image told) in
    answer_is c.args.what image c.in-Ok.m _ None None (c.in-Ok.ensures.exact image told) (inside _ _ _ c.dump.result c.dump.ensures.range (λ n is. cc)) (lacks.sink (cc))

-- a number that lies outside was refused, and an inode that is missing, and nothing was put
pub returns-in-Err-OutOfRange-clause-exact : goal.returns-in-Err-OutOfRange-clause-exact
returns-in-Err-OutOfRange-clause-exact g c = λ image told.
    inl (sym (answer_is c.args.what image c.in-Ok.m _ (Some c.in-Err-OutOfRange.number) _ (c.in-Ok.ensures.exact image told) ((c.dump.ensures.range.exact c.in-Err-OutOfRange.number).0 (cc)) refl))

pub returns-in-Err-OutOfRange-clause-lines : goal.returns-in-Err-OutOfRange-clause-lines
returns-in-Err-OutOfRange-clause-lines g c = λ image told' had told.
    ([], refl, c.dump.ensures.range.nothing c.in-Err-OutOfRange.number (cc) ∙ told ∙ ap (λ (l : List ℕ). Some l) (sym (append-nil had)))

pub returns-in-Ok-clause-exact : goal.returns-in-Ok-clause-exact
returns-in-Ok-clause-exact g c = λ image told.
    let reads = c.mount.ensures.reads in
    let lacks = c.dump.ensures.missing image (reads.told ∙ told) (c.in-Ok.ensures.of_image image told) in
    inl (sym (answer_is c.args.what image c.in-Ok.m _ None (Some c.in-Err-NoSuchNode.ino) (c.in-Ok.ensures.exact image told) (inside _ _ _ c.dump.result c.dump.ensures.range (λ n is. cc)) (lacks.named c.in-Err-NoSuchNode.ino (cc))))

pub returns-in-Ok-clause-lines : goal.returns-in-Ok-clause-lines
returns-in-Ok-clause-lines g c = λ image told' had told.
    ([], refl, c.dump.ensures.range.absent c.in-Err-NoSuchNode.ino (cc) ∙ told ∙ ap (λ (l : List ℕ). Some l) (sym (append-nil had)))

pub returns-clause-lines : goal.returns-clause-lines
returns-clause-lines g c = λ image told' had told.
    let r = mounted (g.D.Disk.state c.args.disk.now).size image in
    let lines = mounted_lines c.args.what image r in
    ([], subst (λ a. IsFrontOf (dump_answer c.args.what image r) lines a []) (sym c.refused.ensures) (unmounted _ _ c.in-Err.refusal), told ∙ ap (λ (l : List ℕ). Some l) (sym (append-nil had)))

-- ---- nothing but the last line

pub returns-in-Err-OutOfRange-clause-silent : goal.returns-in-Err-OutOfRange-clause-silent
returns-in-Err-OutOfRange-clause-silent g c = λ alone. c.dump.ensures.range.nothing c.in-Err-OutOfRange.number (cc)

pub returns-in-Ok-clause-silent : goal.returns-in-Ok-clause-silent
returns-in-Ok-clause-silent g c = λ alone. c.dump.ensures.range.absent c.in-Err-NoSuchNode.ino (cc)
