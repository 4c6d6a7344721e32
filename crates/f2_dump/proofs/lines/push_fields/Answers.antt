use Rattle.std.proofs.Common.{◌≡◌, ◌≤◌, ◌+◌, ◌++◌, ◌∙◌, ℕ, List, [], length, get_or, map, ap, sym, arith, rules, append_assoc}
use Rattle.std.specs.Prelude.{flat_map}
use Rattle.std.proofs.lemmas.List.{get_or-map, length-map}
use Rattle.f2_bytes.specs.Bytes.{numbers_below}
use Rattle.f2_dump.specs.Fields.{field_line}
use Rattle.f2_bytes.specs.Fields.{row_at, field_at}
use Rattle.f2_dump.proofs.FieldLines.{lines-none, lines-more, row-fits, name-fits}
use Rattle.f2_dump.proofs.lines.push_fields.Goals as goal

pub loop-k-init : goal.loop-k-init
loop-k-init g c = record { lines = lines-none _ c.args.text.now.items; size = omega arith }

pub get-requires : goal.get-requires
get-requires g c =
    let fits = row-fits c.args.table.now.rows c.loop-k.k c.requires.rows in
    let row = row_at c.args.table.now.rows c.loop-k.k in
    let inside : row.offset + row.width ≤ length c.bytes-bytes.result.now = omega (arith, fits.inside, c.bytes-bytes.ensures.block.length, ap length c.bytes-bytes.ensures.same) in
    let narrow = fits.narrow in
    search rules

pub loop-k-preserved : goal.loop-k-preserved
loop-k-preserved g c =
    let names = c.args.names.now in
    let k = c.loop-k.k in
    let f = λ (j : ℕ). field_line (get_or (map (λ name. name.now) names) j []) (field_at c.args.table.now.rows c.args.block.now j) in
    let name = sym (get_or-map (λ n. n.now) names k (record { ref_ptr = (0, 0); now = [] }) [] (omega arith)) in
    let number = c.get.ensures.value ∙ ap (λ (b : List ℕ). field_at c.args.table.now.rows b k) c.bytes-bytes.ensures.same in
    let short = name-fits (λ n. length n.now) 42 names k (record { ref_ptr = (0, 0); now = [] }) (omega arith) c.requires.short in
    record {
      lines = c.in_ok-push_line.ensures.line ∙ (λ i. c.loop-k.invariant.lines i ++ field_line (name i) (number i))
          ∙ append_assoc c.args.text.now.items (flat_map f (numbers_below k)) (f k) ∙ ap (λ (l : List ℕ). c.args.text.now.items ++ l) (sym (lines-more f k));
      size = omega (arith, c.in_ok-push_line.ensures.size, c.loop-k.invariant.size, short);
    }

pub returns-clause-lines : goal.returns-clause-lines
returns-clause-lines g c =
    let names = c.args.names.now in
    let f = λ (j : ℕ). field_line (get_or (map (λ name. name.now) names) j []) (field_at c.args.table.now.rows c.args.block.now j) in
    let all : c.loop-k.k ≡ length (map (λ name. name.now) names) = omega (arith, length-map names (λ name. name.now)) in
    c.loop-k.invariant.lines ∙ ap (λ (n : ℕ). c.args.text.now.items ++ flat_map f (numbers_below n)) all
