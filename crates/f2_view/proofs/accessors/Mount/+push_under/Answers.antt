use Rattle.std.proofs.Common.{◌≡◌, ◌+◌, ◌-◌, ◌*◌, ◌^◌, ◌≤◌, ◌++◌, suc, Some, None, rules, map, sym, ap, subst, ◌∙◌, arith}
use Rattle.std.proofs.lemmas.Bool.{cond-true, cond-false}
use Rattle.std.specs.Prelude.{flat_map}
use Rattle.f2_bytes.specs.Bytes.{word, numbers_below}
use Rattle.f2_disk.proofs.Runs.{reads_then, goes_then}
use Rattle.f2_view.specs.Directories.{item_of, legal, items_under}
use Rattle.f2_view.specs.Mounted.{Mounted, IsMountOf, layout_in}
use Rattle.f2_view.proofs.Pushes.{adds_nothing, adds_one, of_no_numbers, missing_node, found_node, narrow, fits_under}
use Rattle.f2_view.proofs.accessors.Mount.+push_under.Goals as goal

pub returns-then-not-branch-clause-entries : goal.returns-then-not-branch-clause-entries
returns-then-not-branch-clause-entries g t c = λ image told of.
    let above : c.args.height ≡ suc (c.args.height - 1) = omega (arith, c.if-height-eq0.false) in
    adds_nothing item_of c.args.into.now.items _ (missing_node image (c.args.height - 1) c.args.height c.args.first c.args.number above
    (c.in_ok-node.ensures.node image told of ∙ cond-false c.in_ok-node.field-0 (Some c.node.new.into) None c.if-not-branch.true))

pub pow-span-requires : goal.pow-span-requires
pow-span-requires g t c =
    let low : c.from.result ≤ 2 = omega (arith, c.requires.height, c.from.ensures) in
    omega (arith, narrow c.from.result low)

pub loop-j-init : goal.loop-j-init
loop-j-init g t c = record {
  mount = search rules;
  reads = search rules;
  goes = search rules;
  entries = λ image told of. adds_nothing item_of c.args.into.now.items _ (of_no_numbers _);
}

pub overflow_mul-j : goal.overflow_mul-j
overflow_mul-j g t c =
    omega (arith, fits_under c.args.height c.args.first c.loop-j.j c.from.result c.pow-span.result c.if-height-eq0.false c.from.ensures c.pow-span.ensures c.loop-j-test.true c.requires.numbers)

pub overflow_add-first : goal.overflow_add-first
overflow_add-first g t c =
    omega (arith, fits_under c.args.height c.args.first c.loop-j.j c.from.result c.pow-span.result c.if-height-eq0.false c.from.ensures c.pow-span.ensures c.loop-j-test.true c.requires.numbers)

pub push_under-requires : goal.push_under-requires
push_under-requires g t c κs within =
    let mount : c.loop-j.self ≡ c.args.self.now = c.loop-j.invariant.mount ∙ c.in_ok-node.ensures.mount in
    let blocks = ap (λ (m : Mounted). (layout_in m).blocks) mount in
    let size = c.loop-j.invariant.goes.size ∙ c.in_ok-node.ensures.goes.size in
    let span : c.pow-span.result ≡ 1018 ^ (c.args.height - 1) = c.pow-span.ensures ∙ ap (λ n. 1018 ^ n) c.from.ensures in
    let numbers = fits_under c.args.height c.args.first c.loop-j.j c.from.result c.pow-span.result c.if-height-eq0.false c.from.ensures c.pow-span.ensures c.loop-j-test.true c.requires.numbers in
    (search rules, (within, (omega (arith, c.requires.lies, blocks, size), (omega (arith, c.requires.height), omega (arith, numbers, span)))))

pub loop-j-preserved : goal.loop-j-preserved
loop-j-preserved g t c =
    let so_far = c.loop-j.invariant in
    let done = c.in_ok-push_under.ensures in
    let h = c.args.height - 1 in
    let span : c.pow-span.result ≡ 1018 ^ (c.args.height - 1) = c.pow-span.ensures ∙ ap (λ n. 1018 ^ n) c.from.ensures in
    record {
      mount = done.mount ∙ so_far.mount;
      reads = reads_then so_far.goes.later so_far.reads done.reads;
      goes = goes_then so_far.goes done.goes;
      entries = λ image told of.
          adds_one item_of c.args.into.now.items c.loop-j.into.items c.push_under.new.into.items (λ i. items_under image h (c.args.first + i * 1018 ^ h) (word c.node.new.into i)) c.loop-j.j
          (so_far.entries image told of)
          (done.entries image (so_far.reads.told ∙ told) (subst (λ (m : Mounted). IsMountOf image m) (sym so_far.mount) of)
          ∙ λ i. map item_of c.loop-j.into.items ++ legal (items_under image h (c.args.first + c.loop-j.j * span i) (c.word-below.ensures i)));
    }

pub returns-clause-entries : goal.returns-clause-entries
returns-clause-entries g t c = λ image told of.
    let h = c.args.height - 1 in
    let above : c.args.height ≡ suc (c.args.height - 1) = omega (arith, c.if-height-eq0.false) in
    let all : c.loop-j.j ≡ 1018 = omega arith in
    let node = c.node.new.into in
    let there = c.in_ok-node.ensures.node image told of ∙ cond-true c.in_ok-node.field-0 (Some node) None c.if-not-branch.false in
    c.loop-j.invariant.entries image (c.in_ok-node.ensures.reads.told ∙ told) (subst (λ (m : Mounted). IsMountOf image m) (sym c.in_ok-node.ensures.mount) of)
    ∙ ap (λ n. map item_of c.args.into.now.items ++ legal (flat_map (λ i. items_under image h (c.args.first + i * 1018 ^ h) (word node i)) (numbers_below n))) all
    ∙ ap (λ l. map item_of c.args.into.now.items ++ legal l) (sym (found_node image h c.args.height c.args.first c.args.number above node there))
