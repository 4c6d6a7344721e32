use Rattle.std.proofs.Common.{subst, sym, ap, ℕ, List}
use Rattle.f2_bytes.specs.Checkpoint.{checkpoint_rows}
use Rattle.f2_dump.specs.Dump.{Dumps}
use Rattle.f2_dump.specs.Fields.{field_lines, checkpoint_names}
use Rattle.f2_dump.specs.Text.{dump_lines}
use Rattle.f2_dump.specs.declared.dumping.What.{What}
use Rattle.f2_bytes.specs.declared.layout.Layout.{Layout}
use Rattle.f2_dump.proofs.Heads.{head_of}
use Rattle.f2_dump.proofs.Nodes.{node_text, segment_text}
use Rattle.f2_dump.proofs.EntryLines.{ssa_text}
use Rattle.f2_dump.proofs.dumping.dump.Goals as goal

pub returns-in-Cp-clause-lines : goal.returns-in-Cp-clause-lines
returns-in-Cp-clause-lines g c = λ image told of.
    let had = g.O.Sink.told c.args.o.now in
    let told_now = g.O.Sink.told c.dump_checkpoint.new.o in
    let own = subst (λ (h : List ℕ). Dumps {T = Unit {0}} (field_lines checkpoint_names checkpoint_rows h) had told_now c.dump_checkpoint.result) (head_of image c.args.m.now of) c.dump_checkpoint.ensures.lines in
    subst (λ (w : What). Dumps {T = Unit {0}} (dump_lines image w) had told_now c.dump_checkpoint.result) (sym c.in-Cp.is) own

pub returns-in-Nat-clause-lines : goal.returns-in-Nat-clause-lines
returns-in-Nat-clause-lines g c = λ image told of.
    let had = g.O.Sink.told c.args.o.now in
    let told_now = g.O.Sink.told c.dump_nodes.new.o in
    let text = node_text image c.args.m.now c.nid_limit.result c.in-Nat.first c.end_of-end.result c.in-Nat.last of c.nid_limit.ensures c.end_of-end.ensures.numbers in
    let own = subst (λ (l : List ℕ). Dumps {T = Unit {0}} l had told_now c.dump_nodes.result) text (c.dump_nodes.ensures.lines image told of) in
    subst (λ (w : What). Dumps {T = Unit {0}} (dump_lines image w) had told_now c.dump_nodes.result) (sym c.in-Nat.is) own

pub returns-in-Sit-clause-lines : goal.returns-in-Sit-clause-lines
returns-in-Sit-clause-lines g c = λ image told of.
    let had = g.O.Sink.told c.args.o.now in
    let told_now = g.O.Sink.told c.dump_segments.new.o in
    let segments = ap (λ (l : Layout). l.segments) c.layout-in-Sit.ensures.value in
    let text = segment_text image c.args.m.now c.layout-in-Sit.result.segments c.in-Sit.first c.end_of-end-in-Sit.result c.in-Sit.last of segments c.end_of-end-in-Sit.ensures.numbers in
    let own = subst (λ (l : List ℕ). Dumps {T = Unit {0}} l had told_now c.dump_segments.result) text (c.dump_segments.ensures.lines image told of) in
    subst (λ (w : What). Dumps {T = Unit {0}} (dump_lines image w) had told_now c.dump_segments.result) (sym c.in-Sit.is) own

pub returns-in-Raw-clause-lines : goal.returns-in-Raw-clause-lines
returns-in-Raw-clause-lines g c = λ image told of.
    let had = g.O.Sink.told c.args.o.now in
    let told_now = g.O.Sink.told c.dump_block.new.o in
    subst (λ (w : What). Dumps {T = Unit {0}} (dump_lines image w) had told_now c.dump_block.result) (sym c.in-Raw.is) (c.dump_block.ensures.lines image told)

pub returns-in-Ssa-clause-lines : goal.returns-in-Ssa-clause-lines
returns-in-Ssa-clause-lines g c = λ image told of.
    let had = g.O.Sink.told c.args.o.now in
    let told_now = g.O.Sink.told c.dump_summaries.new.o in
    let segments = ap (λ (l : Layout). l.segments) c.layout-in-Ssa.ensures.value in
    let text = ssa_text image c.args.m.now c.layout-in-Ssa.result.segments c.in-Ssa.first c.end_of-end-in-Ssa.result c.in-Ssa.last of segments c.end_of-end-in-Ssa.ensures.numbers in
    let own = subst (λ (l : List ℕ). Dumps {T = Unit {0}} l had told_now c.dump_summaries.result) text (c.dump_summaries.ensures.lines image told of) in
    subst (λ (w : What). Dumps {T = Unit {0}} (dump_lines image w) had told_now c.dump_summaries.result) (sym c.in-Ssa.is) own
