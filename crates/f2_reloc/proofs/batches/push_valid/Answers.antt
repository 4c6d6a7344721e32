use Rattle.std.proofs.Common.{◌≡◌, ℕ, Bool, ◌+◌, ◌++◌, ◌∷◌, [], ◌&&◌, nat_le, nat_lt, cond, filter, sym, ap, ◌∙◌, append_assoc, arith}
use Rattle.std.specs.List.{range_with_len}
use Rattle.std.proofs.lemmas.List.{append-nil}
use Rattle.f2_bytes.specs.Bits.{bit_msb}
use Rattle.f2_bytes.specs.Superblock.{place_of, segment_start}
use Rattle.f2_reloc.specs.Emptying.{end_of}
use Rattle.f2_reloc.proofs.Parts.{kept_more}
use Rattle.f2_reloc.proofs.batches.push_valid.Goals as goal

pub loop-k-init : goal.loop-k-init
loop-k-init c = sym (append-nil c.args.into.now.items)

pub loop-k-preserved : goal.loop-k-preserved
loop-k-preserved c =
    let l = c.args.l.now in
    let k = c.loop-k.k in
    let start = c.args.range.start in
    let end = end_of c.args.range in
    let bits = c.args.entry.now.map in
    let from = segment_start l c.args.segno in
    let t : ℕ → Bool = λ a. bit_msb bits (place_of l a) in
    let r : ℕ → Bool = λ a. nat_le start a && nat_lt a end in
    let before = filter t (filter r (range_with_len from k)) in
    let here = c.loop-k-test.true in
    let place : place_of l (from + k) ≡ k = omega (arith, here) in
    c.in_ok-push_if.ensures
    ∙ (λ i. c.loop-k.invariant i ++ cond (c.is_valid_in.ensures i) ((from + k) ∷ []) [])
    ∙ append_assoc c.args.into.now.items before (cond (r (from + k) && bit_msb bits k) ((from + k) ∷ []) [])
    ∙ ap (λ n. c.args.into.now.items ++ (before ++ cond (r (from + k) && bit_msb bits n) ((from + k) ∷ []) [])) (sym place)
    ∙ ap (λ xs. c.args.into.now.items ++ xs) (sym (kept_more t r from k))

pub returns : goal.returns
returns c =
    let l = c.args.l.now in
    let start = c.args.range.start in
    let end = end_of c.args.range in
    let bits = c.args.entry.now.map in
    let t : ℕ → Bool = λ a. bit_msb bits (place_of l a) in
    let r : ℕ → Bool = λ a. nat_le start a && nat_lt a end in
    let past = c.loop-k-test.false in
    let within = c.loop-k.auto.k-end in
    let all : c.loop-k.k ≡ 512 = omega (arith, past, within) in
    record { added = c.loop-k.invariant ∙ ap (λ n. c.args.into.now.items ++ filter t (filter r (range_with_len (segment_start l c.args.segno) n))) all }
