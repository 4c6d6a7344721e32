use Rattle.std.proofs.Common.{◌≡◌, ◌++◌, ◌∙◌, ◌<◌, ◌^◌, List, Vec, Global, length, map, ap, sym, arith}
use Rattle.std.specs.Option.{option_map}
use Rattle.std.proofs.lemmas.List.{length-map}
use Rattle.f2_view.specs.Directories.{item_of}
use Rattle.f2_view.specs.declared.directories.Named.{Named}
use Rattle.f2_dump.specs.Stacks.{stack_lines, stack_weight}
use Rattle.f2_dump.proofs.StackLines.{pushed_lines, pushed_weight, lists_some, lists_none, no_lines, weight_some}
use Rattle.f2_dump.proofs.trees.push_directory.Goals as goal

abbrev items : Vec Named Global → List Named
items v = v.items

pub returns-in_ok-push_names-in-Some-clause-lines : goal.returns-in_ok-push_names-in-Some-clause-lines
returns-in_ok-push_names-in-Some-clause-lines g c = λ image told of.
    let ino = c.args.ino in
    let listed = lists_some image ino (option_map items c.in_ok-names.field-0) c.in-Some.names.items (ap (option_map items) c.in-Some.is) (c.in_ok-names.ensures.names image told of) in
    ap (stack_lines image) c.in_ok-push_names-in-Some.ensures.names
    ∙ pushed_lines image c.args.levels c.args.level ino (map item_of c.deref.result.now) c.args.stack.now.items (ap (map item_of) c.deref.ensures.value ∙ listed.1)

pub returns-in_ok-push_names-in-Some-clause-light : goal.returns-in_ok-push_names-in-Some-clause-light
returns-in_ok-push_names-in-Some-clause-light g c =
    let names = map item_of c.deref.result.now in
    let same : length names ≡ length c.in-Some.names.items = length-map c.deref.result.now item_of ∙ ap length c.deref.ensures.value in
    let few : length names < 2 ^ 64 = omega (arith, same, c.in-Some.names.ok.0, c.in-Some.names.small) in
    omega (arith, ap stack_weight c.in_ok-push_names-in-Some.ensures.names, pushed_weight c.args.stack.now.items c.args.level c.args.levels names few)

pub returns-in-None-clause-lines : goal.returns-in-None-clause-lines
returns-in-None-clause-lines g c = λ image told of.
    let ino = c.args.ino in
    let none = lists_none image ino (option_map items c.in_ok-names.field-0) (ap (option_map items) c.in-None.is) (c.in_ok-names.ensures.names image told of) in
    ap (λ l. l ++ stack_lines image c.args.stack.now.items) (sym (no_lines image c.args.levels c.args.level ino none))

pub returns-in-None-clause-light : goal.returns-in-None-clause-light
returns-in-None-clause-light g c = omega (arith, weight_some c.args.levels)
