use Rattle.std.proofs.Common.{◌≡◌, ◌++◌, ◌∙◌, ℕ, List, sym, ap, arith, append_assoc}
use Rattle.std.specs.Prelude.{flat_map}
use Rattle.f2_bytes.specs.Bytes.{numbers_below}
use Rattle.f2_bytes.specs.Node.{address_count}
use Rattle.f2_dump.specs.Files.{address_line, address_lines}
use Rattle.f2_dump.proofs.FieldLines.{lines-none, lines-more}
use Rattle.f2_dump.proofs.inodes.push_addresses.Goals as goal

pub loop-j-init : goal.loop-j-init
loop-j-init c = record { lines = lines-none (address_line c.args.b.now) c.args.text.now.items; size = omega arith }

pub loop-j-preserved : goal.loop-j-preserved
loop-j-preserved c =
    let line = address_line c.args.b.now in
    let j = c.loop-j.j in
    record {
      lines = c.in_ok-push_address.ensures.line ∙ ap (λ (l : List ℕ). l ++ line j) c.loop-j.invariant.lines
          ∙ append_assoc c.args.text.now.items (flat_map line (numbers_below j)) (line j) ∙ ap (λ (l : List ℕ). c.args.text.now.items ++ l) (sym (lines-more line j));
      size = omega (arith, c.in_ok-push_address.ensures.size, c.loop-j.invariant.size);
    }

pub returns-clause-lines : goal.returns-clause-lines
unfolding address_lines
returns-clause-lines c =
    let all : c.loop-j.j ≡ address_count c.args.b.now = omega (arith, c.addresses-j-end.ensures.count) in
    c.loop-j.invariant.lines ∙ ap (λ (n : ℕ). c.args.text.now.items ++ flat_map (address_line c.args.b.now) (numbers_below n)) all
