-- A segment more is cut into the batches of a range.
use Rattle.std.proofs.Common.{◌≡◌, ℕ, ◌+◌, ◌<◌, ◌≤◌, List, [], ◌∷◌, ◌++◌, nat_le, map, length, sym, ap, subst, ◌∙◌, arith, append_assoc}
use Rattle.std.proofs.lemmas.Bool.{cond-true, cond-false, le-leb, lt-leb}
use Rattle.std.proofs.lemmas.List.{length-append, map-append}
use Rattle.std.proofs.lemmas.List.Elements.{filter-append}
use Rattle.f2_bytes.specs.declared.layout.Layout.{Layout}
use Rattle.f2_bytes.specs.Defragment.{Placement, occupied, part_in, cut_batches}
use Rattle.f2_reloc.specs.Emptying.{end_of, part_of, parts_between, IsCutting}
use Rattle.f2_reloc.specs.declared.batches.Batch.{Batch}
use Rattle.f2_reloc.specs.declared.batches.Range.{Range}
use Rattle.f2_reloc.proofs.Parts.{parts_more, parts_none}
use Rattle.f2_reloc.proofs.Standing.{stands}

pub occupied-append : (nids : ℕ) (p : Placement) (xs ys : List ℕ) → length (occupied nids p (xs ++ ys)) ≡ length (occupied nids p xs) + length (occupied nids p ys)
occupied-append nids p xs ys = ap length (filter-append (stands nids p) xs ys) ∙ length-append (occupied nids p xs) (occupied nids p ys)

module _ (nids : ℕ) (p : Placement) (batch part : List ℕ) (parts : List (List ℕ)) where
  pub cut_fits : length (occupied nids p (batch ++ part)) ≤ 4096 → cut_batches nids p batch (part ∷ parts) ≡ cut_batches nids p (batch ++ part) parts
  unfolding cut_batches
  cut_fits few =
      cond-true (nat_le (length (occupied nids p (batch ++ part))) 4096) (cut_batches nids p (batch ++ part) parts) (batch ∷ cut_batches nids p part parts) (le-leb (length (occupied nids p (batch ++ part))) 4096 few)

  pub cut_over : 4096 < length (occupied nids p (batch ++ part)) → cut_batches nids p batch (part ∷ parts) ≡ batch ∷ cut_batches nids p part parts
  unfolding cut_batches
  cut_over many =
      cond-false (nat_le (length (occupied nids p (batch ++ part))) 4096) (cut_batches nids p (batch ++ part) parts) (batch ∷ cut_batches nids p part parts) (lt-leb (length (occupied nids p (batch ++ part))) 4096 many)

module _ (l : Layout) (range : Range) (nids : ℕ) (p : Placement) (parts all : List (List ℕ)) (cut : List Batch) (batch : Batch) (held more segno : ℕ) (next : batch.end ≡ segno) (order : batch.first ≤ segno)
    (count : more ≡ length (occupied nids p (part_in l range.start (end_of range) segno))) where
  abbrev part : List ℕ
  part = part_in l range.start (end_of range) segno

  module _ (so_far : IsCutting l range nids p (part_in l range.start (end_of range) segno ∷ parts) all cut batch held) where
    grown : parts_between l range batch.first (segno + 1) ≡ part_of l range batch ++ part
    grown = parts_more l range batch.first segno order ∙ ap (λ n. parts_between l range batch.first n ++ part) (sym next)

    both : held + more ≡ length (occupied nids p (part_of l range batch ++ part))
    both = (λ i. so_far.held i + count i) ∙ sym (occupied-append nids p (part_of l range batch) part)

    pub segment_fits : held + more ≤ 4096 → IsCutting l range nids p parts all cut (record { first = batch.first; end = segno + 1 }) (held + more)
    segment_fits few = record {
      held = both ∙ ap (λ xs. length (occupied nids p xs)) (sym grown);
      all = ap (λ xs. map (part_of l range) cut ++ xs) (ap (λ xs. cut_batches nids p xs parts) grown ∙ sym (cut_fits nids p (part_of l range batch) part parts (subst (λ n. n ≤ 4096) both few))) ∙ so_far.all;
    }

    alone : parts_between l range segno (segno + 1) ≡ part
    alone = parts_more l range segno segno (omega arith) ∙ ap (λ xs. xs ++ part) (parts_none l range segno)

    pub segment_over : 4096 < held + more → IsCutting l range nids p parts all (cut ++ batch ∷ []) (record { first = segno; end = segno + 1 }) more
    segment_over many = record {
      held = count ∙ ap (λ xs. length (occupied nids p xs)) (sym alone);
      all =
          ap (λ xs. xs ++ cut_batches nids p (parts_between l range segno (segno + 1)) parts) (map-append (part_of l range) cut (batch ∷ []))
          ∙ append_assoc (map (part_of l range) cut) (part_of l range batch ∷ []) (cut_batches nids p (parts_between l range segno (segno + 1)) parts)
          ∙ ap (λ xs. map (part_of l range) cut ++ part_of l range batch ∷ cut_batches nids p xs parts) alone
          ∙ ap (λ xs. map (part_of l range) cut ++ xs) (sym (cut_over nids p (part_of l range batch) part parts (subst (λ n. 4096 < n) both many)))
          ∙ so_far.all;
    }
