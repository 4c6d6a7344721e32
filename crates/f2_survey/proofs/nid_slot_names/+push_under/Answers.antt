use Rattle.std.proofs.Common.{◌≡◌, ◌+◌, ◌-◌, ◌*◌, ◌++◌, [], ◌∷◌, List, suc, Some, None, rules, sym, ap, ◌∙◌, refl, arith}
use Rattle.std.specs.Prelude.{flat_map}
use Rattle.std.proofs.lemmas.Bool.{cond-true, cond-false}
use Rattle.f2_bytes.specs.Bytes.{word, numbers_below}
use Rattle.f2_survey.specs.Named.{span, names_under}
use Rattle.f2_survey.specs.declared.nid_slot_names.Name.{Name}
use Rattle.f2_disk.proofs.Runs.{reads_then, goes_then}
use Rattle.f2_survey.proofs.NameWalks.{none_under, alone, none_below, some_below, first_of, one_more, pushes, pushes_none, fits_under, span_some}
use Rattle.f2_survey.proofs.nid_slot_names.+push_under.Goals as goal

pub returns-then-name-eq0-clause-names : goal.returns-then-name-eq0-clause-names
returns-then-name-eq0-clause-names g t c = λ image told of known.
    let n = c.args.name in
    pushes_none c.args.into.now.items (names_under image c.args.height n.offset n.nid) (none_under image n.offset n.nid c.args.height c.if-name-eq0.true)

pub returns-then-height-eq0-clause-names : goal.returns-then-height-eq0-clause-names
returns-then-height-eq0-clause-names g t c = λ image told of known.
    let n = c.args.name in
    pushes c.args.into.now.items c.push.new.self.items (n ∷ []) (names_under image c.args.height n.offset n.nid) c.in_ok-push.ensures.items
    (alone image n.offset n.nid c.if-name-eq0.false c.args.height c.if-height-eq0.true)

pub returns-then-not-branch-clause-names : goal.returns-then-not-branch-clause-names
returns-then-not-branch-clause-names g t c = λ image told of known.
    let n = c.args.name in
    let above : c.args.height ≡ suc (c.args.height - 1) = omega (arith, c.if-height-eq0.false) in
    let none = c.in_ok-known_node.ensures.node image told of known ∙ cond-false c.in_ok-known_node.field-0 (Some c.known_node.new.into) None c.if-not-branch.true in
    pushes c.args.into.now.items c.push.new.self.items (n ∷ []) (names_under image c.args.height n.offset n.nid) c.in_ok-push.ensures.items
    (none_below image n.offset n.nid c.if-name-eq0.false c.args.height (c.args.height - 1) above none)

pub loop-j-init : goal.loop-j-init
loop-j-init g t c = record {
  reads = search rules;
  goes = search rules;
  names = λ image told of known. c.in_ok-push.ensures.items ∙ first_of c.args.into.now.items c.args.name _;
}

pub overflow_add-below : goal.overflow_add-below
overflow_add-below g t c =
    let fits = fits_under c.args.height c.args.name.offset c.loop-j.j (c.args.height - 1) c.span_of-step.result c.if-height-eq0.false refl c.span_of-step.ensures c.loop-j-test.true c.requires.offsets in
    omega (arith, fits, c.span_of-step.ensures, span_some (c.args.height - 1))

pub overflow_mul-below : goal.overflow_mul-below
overflow_mul-below g t c =
    let fits = fits_under c.args.height c.args.name.offset c.loop-j.j (c.args.height - 1) c.span_of-step.result c.if-height-eq0.false refl c.span_of-step.ensures c.loop-j-test.true c.requires.offsets in
    omega (arith, fits, c.span_of-step.ensures, span_some (c.args.height - 1))

pub overflow_add-below-in-loop-j : goal.overflow_add-below-in-loop-j
overflow_add-below-in-loop-j g t c =
    let fits = fits_under c.args.height c.args.name.offset c.loop-j.j (c.args.height - 1) c.span_of-step.result c.if-height-eq0.false refl c.span_of-step.ensures c.loop-j-test.true c.requires.offsets in
    omega (arith, fits, c.span_of-step.ensures, span_some (c.args.height - 1))

pub push_under-requires : goal.push_under-requires
push_under-requires g t c κs within =
    let size = c.loop-j.invariant.goes.size ∙ c.in_ok-known_node.ensures.goes.size in
    let fits = fits_under c.args.height c.args.name.offset c.loop-j.j (c.args.height - 1) c.span_of-step.result c.if-height-eq0.false refl c.span_of-step.ensures c.loop-j-test.true c.requires.offsets in
    (omega (arith, c.if-height-eq0.false, c.decreases), (within, (omega (arith, c.requires.lies, size), (omega (arith, c.requires.height), omega (arith, fits, c.span_of-step.ensures)))))

pub loop-j-preserved : goal.loop-j-preserved
loop-j-preserved g t c =
    let so_far = c.loop-j.invariant in
    let done = c.in_ok-push_under.ensures in
    let h = c.args.height - 1 in
    record {
      reads = reads_then so_far.goes.later so_far.reads done.reads;
      goes = goes_then so_far.goes done.goes;
      names = λ image told of known.
          one_more c.args.into.now.items c.loop-j.into.items c.push_under.new.into.items c.args.name (λ i. names_under image h (c.args.name.offset + 1 + i * span h) (word c.known_node.new.into i)) c.loop-j.j
          (so_far.names image told of known)
          (done.names image (so_far.reads.told ∙ told) of known
          ∙ λ i. c.loop-j.into.items ++ names_under image h (c.args.name.offset + 1 + c.loop-j.j * c.span_of-step.ensures i) (c.word.ensures i));
    }

pub returns-clause-names : goal.returns-clause-names
returns-clause-names g t c = λ image told of known.
    let n = c.args.name in
    let h = c.args.height - 1 in
    let above : c.args.height ≡ suc (c.args.height - 1) = omega (arith, c.if-height-eq0.false) in
    let all : c.loop-j.j ≡ 1018 = omega arith in
    let node = c.known_node.new.into in
    let there = c.in_ok-known_node.ensures.node image told of known ∙ cond-true c.in_ok-known_node.field-0 (Some node) None c.if-not-branch.false in
    c.loop-j.invariant.names image (c.in_ok-known_node.ensures.reads.told ∙ told) of known
    ∙ ap (λ k. c.args.into.now.items ++ n ∷ flat_map (λ i. names_under image h (n.offset + 1 + i * span h) (word node i)) (numbers_below k)) all
    ∙ ap (λ (l : List Name). c.args.into.now.items ++ l) (sym (some_below image n.offset n.nid c.if-name-eq0.false c.args.height h above node there))
