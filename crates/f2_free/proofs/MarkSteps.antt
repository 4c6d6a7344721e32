-- Marks on segments, step by step.
use Rattle.std.proofs.Common.{◌≡◌, ℕ, ◌+◌, ◌-◌, ◌*◌, ◌/◌, ◌%◌, ◌<◌, ◌≤◌, ◌==◌, Bool, true, false, ◌||◌, cond, List, [], ◌∷◌, take, length, get_or, Option, Some, None, is_some, refl, sym, ap, subst, ◌∙◌, arith, ⊎_elim}
use Rattle.std.specs.List.{list_any}
use Rattle.std.proofs.lemmas.Bool.{eqb-true, eq-eqb, or_left, false_from_ne_true, cases_lt, false≢true}
use Rattle.std.specs.Option.{option_map_or}
use Rattle.std.proofs.lemmas.List.{get_or_past, get_or_default, take_more, take_all}
use Rattle.std.proofs.lemmas.List.Folds.{list_any-append}
use Rattle.f2_bytes.specs.Bytes.{numbers_below}
use Rattle.f2_bytes.specs.Checkpoint.{log_numbers}
use Rattle.f2_bytes.specs.RollForward.{NodePlace}
use Rattle.f2_bytes.proofs.Below.{some_below, found_below}
use Rattle.f2_free.specs.SegmentMarks.{MarkTable, is_marked, has_block_with, MarksMore, MarksBlocks, KeepsMarks}
use Rattle.f2_free.proofs.NumbersBelow.{any-or, any-nothing, any-none, any-more, same_bool, or_false}

-- ---- blocks of a segment

pub blocks-or : (first : ℕ) (p q : ℕ → Bool) → has_block_with first (λ a. p a || q a) ≡ (has_block_with first p || has_block_with first q)
unfolding has_block_with
blocks-or first p q = any-or (λ k. p (first + k)) (λ k. q (first + k)) (numbers_below 512)

pub blocks-nothing : (first : ℕ) → has_block_with first (λ a. false) ≡ false
unfolding has_block_with
blocks-nothing first = any-nothing (numbers_below 512)

-- the block at one address
pub block-there : (main address segment : ℕ) → main ≤ address → ((address - main) / 512 == segment) ≡ has_block_with (main + 512 * segment) (λ a. address == a)
unfolding has_block_with
block-there main address segment low = same_bool ((address - main) / 512 == segment) (list_any (λ k. address == main + 512 * segment + k) (numbers_below 512)) to from
  where
    to : ((address - main) / 512 == segment) ≡ true → list_any (λ k. address == main + 512 * segment + k) (numbers_below 512) ≡ true
    to is =
        let at : (address - main) / 512 ≡ segment = eqb-true ((address - main) / 512) segment is in
        let here : address ≡ main + 512 * segment + (address - main) % 512 = omega (arith, low, at) in
        some_below (λ k. address == main + 512 * segment + k) 512 ((address - main) % 512) (omega arith) (eq-eqb address (main + 512 * segment + (address - main) % 512) here)

    from : list_any (λ k. address == main + 512 * segment + k) (numbers_below 512) ≡ true → ((address - main) / 512 == segment) ≡ true
    from some =
        let found = found_below (λ k. address == main + 512 * segment + k) 512 some in
        let here : address ≡ main + 512 * segment + found.0 = eqb-true address (main + 512 * segment + found.0) found.2 in
        let few = found.1 in
        eq-eqb ((address - main) / 512) segment (omega (arith, here, few))

pub block-before : (main address segment : ℕ) → address < main → has_block_with (main + 512 * segment) (λ a. address == a) ≡ false
unfolding has_block_with
block-before main address segment low =
    false_from_ne_true (list_any (λ k. address == main + 512 * segment + k) (numbers_below 512)) (λ some.
    let found = found_below (λ k. address == main + 512 * segment + k) 512 some in
    let here : address ≡ main + 512 * segment + found.0 = eqb-true address (main + 512 * segment + found.0) found.2 in
    absurd (omega (arith, here, low)))

-- ---- one call after the other

pub more-same : {a b : MarkTable} (p q : ℕ → Bool) → ((segment : ℕ) → p segment ≡ q segment) → MarksMore a b p → MarksMore a b q
more-same {a = a} {b = b} p q same more = subst (λ (t : ℕ → Bool). MarksMore a b t) (λ i segment. same segment i) more

pub more-none : (a : MarkTable) → MarksMore a a (λ segment. false)
more-none a = record { main = refl; count = refl; marked = λ segment low. sym (or_false (is_marked a segment)) }

pub more-then : {a b c : MarkTable} (p q : ℕ → Bool) → MarksMore a b p → MarksMore b c q → MarksMore a c (λ segment. p segment || q segment)
more-then {a = a} p q first second = record {
  main = second.main ∙ first.main;
  count = second.count ∙ first.count;
  marked = λ segment low.
      second.marked segment (let same = first.count in omega (arith, same, low))
      ∙ ap (λ x. x || q segment) (first.marked segment low)
      ∙ assoc (is_marked a segment) (p segment) (q segment);
}
  where
    assoc : (x y z : Bool) → (x || y || z) ≡ (x || (y || z))
    assoc true y z = refl
    assoc false y z = refl

pub marks-same : {a b : MarkTable} (p q : ℕ → Bool) → ((address : ℕ) → p address ≡ q address) → MarksBlocks a b p → MarksBlocks a b q
marks-same {a = a} {b = b} p q same marks = subst (λ (t : ℕ → Bool). MarksBlocks a b t) (λ i address. same address i) marks

pub marks-none : (a : MarkTable) → MarksBlocks a a (λ address. false)
marks-none a = more-same (λ segment. false) (λ segment. has_block_with (a.main + 512 * segment) (λ address. false)) (λ segment. sym (blocks-nothing (a.main + 512 * segment))) (more-none a)

pub marks-then : {a b c : MarkTable} (p q : ℕ → Bool) → MarksBlocks a b p → MarksBlocks b c q → MarksBlocks a c (λ address. p address || q address)
marks-then {a = a} {b = b} p q first second =
    more-same (λ segment. has_block_with (a.main + 512 * segment) p || has_block_with (b.main + 512 * segment) q)
    (λ segment. has_block_with (a.main + 512 * segment) (λ address. p address || q address))
    (λ segment. ap (λ m. has_block_with (a.main + 512 * segment) p || has_block_with (m + 512 * segment) q) first.main ∙ sym (blocks-or (a.main + 512 * segment) p q))
    (more-then (λ segment. has_block_with (a.main + 512 * segment) p) (λ segment. has_block_with (b.main + 512 * segment) q) first second)

-- nothing more after it
pub marks-then_none : {a b : MarkTable} (p : ℕ → Bool) → MarksBlocks a b p → MarksBlocks a b (λ address. p address || false)
marks-then_none p marks = marks-same p (λ address. p address || false) (λ address. sym (or_false (p address))) marks

-- over the numbers below a limit, one more
pub marks-below_none : (a : MarkTable) (f : ℕ → ℕ → Bool) → MarksBlocks a a (λ address. list_any (λ k. f k address) (numbers_below 0))
marks-below_none a f = marks-same (λ address. false) (λ address. list_any (λ k. f k address) (numbers_below 0)) (λ address. sym (any-none (λ k. f k address))) (marks-none a)

pub marks-below_more : {a b c : MarkTable} (f : ℕ → ℕ → Bool) (n : ℕ) → MarksBlocks a b (λ address. list_any (λ k. f k address) (numbers_below n)) → MarksBlocks b c (f n)
    → MarksBlocks a c (λ address. list_any (λ k. f k address) (numbers_below (n + 1)))
marks-below_more f n before here =
    marks-same (λ address. list_any (λ k. f k address) (numbers_below n) || f n address) (λ address. list_any (λ k. f k address) (numbers_below (n + 1)))
    (λ address. sym (any-more (λ k. f k address) n))
    (marks-then (λ address. list_any (λ k. f k address) (numbers_below n)) (f n) before here)

-- over a list of addresses, one more, and all of them
pub marks-listed_more : {a b c : MarkTable} (xs : List ℕ) (i : ℕ) → i < length xs → MarksBlocks a b (λ address. list_any (λ x. x == address) (take i xs)) → MarksBlocks b c (λ address. get_or xs i 0 == address)
    → MarksBlocks a c (λ address. list_any (λ x. x == address) (take (i + 1) xs))
marks-listed_more xs i low before here =
    marks-same (λ address. list_any (λ x. x == address) (take i xs) || (get_or xs i 0 == address)) (λ address. list_any (λ x. x == address) (take (i + 1) xs))
    (λ address. sym
    (ap (list_any (λ x. x == address)) (take_more xs i 0 low)
    ∙ list_any-append (λ x. x == address) (take i xs) (get_or xs i 0 ∷ [])
    ∙ ap (λ b. list_any (λ x. x == address) (take i xs) || b) (or_false (get_or xs i 0 == address))))
    (marks-then (λ address. list_any (λ x. x == address) (take i xs)) (λ address. get_or xs i 0 == address) before here)

pub marks-listed_all : {a b : MarkTable} (xs : List ℕ) (i : ℕ) → length xs ≤ i → MarksBlocks a b (λ address. list_any (λ x. x == address) (take i xs)) → MarksBlocks a b (λ address. list_any (λ x. x == address) xs)
marks-listed_all xs i all marks =
    marks-same (λ address. list_any (λ x. x == address) (take i xs)) (λ address. list_any (λ x. x == address) xs) (λ address. ap (list_any (λ x. x == address)) (take_all i xs all)) marks

-- the place that an entry says
pub marks-place_none : (a : MarkTable) (o : Option NodePlace) → false ≡ is_some o → MarksBlocks a a (λ address. option_map_or (λ at. at.address == address) o false)
marks-place_none a None is = marks-none a
marks-place_none a (Some at) is = cc

pub marks-place : {a b : MarkTable} (some : Bool) (p : NodePlace) → true ≡ is_some (cond some (Some p) None) → MarksBlocks a b (λ address. p.address == address)
    → MarksBlocks a b (λ address. option_map_or (λ at. at.address == address) (cond some (Some p) None) false)
marks-place true p is marks = marks
marks-place false p is marks = cc

-- the mark that is read of a segment
pub mark-read : (m : MarkTable) (n : ℕ) (b : Bool) (xs : List Bool) → b ≡ get_or xs n b → xs ≡ m.segments → n < length xs → b ≡ is_marked m n
mark-read m n b xs read are low = read ∙ get_or_default xs n b false low ∙ ap (λ l. get_or l n false) are

-- the six logs
pub six-logs : (p : ℕ → Bool) → list_any p (numbers_below 6) ≡ list_any p log_numbers
unfolding numbers_below
six-logs p = refl

-- ---- no mark is lost

pub keeps-none : (a : MarkTable) → KeepsMarks a a
keeps-none a = record { main = refl; count = refl; marked = λ segment is. is }

pub keeps-then : {a b c : MarkTable} → KeepsMarks a b → KeepsMarks b c → KeepsMarks a c
keeps-then first second = record {
  main = second.main ∙ first.main;
  count = second.count ∙ first.count;
  marked = λ segment is. second.marked segment (first.marked segment is);
}

pub keeps-more : {a b : MarkTable} (p : ℕ → Bool) → MarksMore a b p → KeepsMarks a b
keeps-more {a = a} {b = b} p more = record {
  main = more.main;
  count = more.count;
  marked = λ segment is.
      ⊎_elim (λ low. more.marked segment low ∙ or_left (is_marked a segment) (p segment) is)
      (λ high. absurd (false≢true (sym (get_or_past a.segments segment false high) ∙ is)))
      (cases_lt segment (length a.segments));
}
