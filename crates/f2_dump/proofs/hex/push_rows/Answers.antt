use Rattle.std.proofs.Common.{◌≡◌, ◌++◌, ◌∙◌, ℕ, List, sym, ap, arith, append_assoc}
use Rattle.std.specs.Prelude.{flat_map}
use Rattle.f2_bytes.specs.Bytes.{numbers_below}
use Rattle.f2_dump.specs.Text.{row_line, block_lines}
use Rattle.f2_dump.proofs.FieldLines.{lines-none, lines-more}
use Rattle.f2_dump.proofs.hex.push_rows.Goals as goal

pub loop-k-init : goal.loop-k-init
loop-k-init c = record { lines = lines-none (row_line c.args.bytes.now) c.args.text.now.items; size = omega arith }

pub loop-k-preserved : goal.loop-k-preserved
loop-k-preserved c =
    let line = row_line c.args.bytes.now in
    let k = c.loop-k.k in
    record {
      lines = c.in_ok-push_row.ensures.line ∙ ap (λ (l : List ℕ). l ++ line k) c.loop-k.invariant.lines
          ∙ append_assoc c.args.text.now.items (flat_map line (numbers_below k)) (line k) ∙ ap (λ (l : List ℕ). c.args.text.now.items ++ l) (sym (lines-more line k));
      size = omega (arith, c.in_ok-push_row.ensures.size, c.loop-k.invariant.size);
    }

pub returns-clause-lines : goal.returns-clause-lines
unfolding block_lines
returns-clause-lines c =
    let all : c.loop-k.k ≡ 256 = omega arith in
    c.loop-k.invariant.lines ∙ ap (λ (n : ℕ). c.args.text.now.items ++ flat_map (row_line c.args.bytes.now) (numbers_below n)) all
