-- A text that goes to a sink piece by piece.
use Rattle.std.proofs.Common.{◌≡◌, inl, inr, ℕ, ◌+◌, ◌≤◌, List, [], ◌++◌, length, take, min, Option, Some, Result, Ok, Err, IsErr, IsErrAnd, OnOk, refl, sym, ap, ◌∙◌, subst, arith, append_assoc}
use Rattle.std.proofs.lemmas.Bool.{cases_lt}
use Rattle.std.proofs.lemmas.Grind.{common_steps}
use Rattle.std.proofs.lemmas.List.{append-nil, take_all, take_min, take-append-le, take-take}
use Rattle.std.proofs.lemmas.Result.{on_ok_weaker}
use Rattle.std.proofs.Math.Seq.{take-append-add, take-append_seam}
use Rattle.f2_disk.specs.Disk.{State, Goes}
use Rattle.f2_dump.specs.declared.dumping.DumpRefusal.{DumpRefusal}
use Rattle.f2_dump.specs.Dump.{IsSent, Gathers, Dumps, Ends}

-- the lines so far
pub record Holds (lines before after : List ℕ) (old new : Option (List ℕ)) : Type 0 where
  pub holds : (had : List ℕ) → old ≡ Some had → IsSent had new after (before ++ lines)

pub held_none : (text : List ℕ) (old : Option (List ℕ)) → Holds [] text text old old
held_none text old = record {
  holds = λ had told. record {
    sent = [];
    told = told ∙ ap (λ (l : List ℕ). Some l) (sym (append-nil had));
    rest = sym (append-nil text);
  };
}

pub held_same : {lines more before after : List ℕ} {old new : Option (List ℕ)} → lines ≡ more → Holds lines before after old new → Holds more before after old new
held_same {before = before} {after = after} {old = old} {new = new} same held = subst (λ (l : List ℕ). Holds l before after old new) same held

sent_then : {had : List ℕ} {mid new : Option (List ℕ)} {b1 b2 : List ℕ} (all c d : List ℕ) (first : IsSent had mid b1 all) → IsSent (had ++ first.sent) new b2 d → first.sent ++ d ≡ c → IsSent had new b2 c
sent_then {had = had} {b2 = b2} all c d first second is = record {
  sent = first.sent ++ second.sent;
  told = second.told ∙ ap (λ (l : List ℕ). Some l) (append_assoc had first.sent second.sent);
  rest = append_assoc first.sent second.sent b2 ∙ ap (λ (l : List ℕ). first.sent ++ l) second.rest ∙ is;
}

-- what was sent and what the next lines follow
seam : {had : List ℕ} {mid : Option (List ℕ)} (a b0 b1 c : List ℕ) (first : IsSent had mid b1 (b0 ++ a)) → first.sent ++ (b1 ++ c) ≡ b0 ++ (a ++ c)
seam a b0 b1 c first = sym (append_assoc first.sent b1 c) ∙ ap (λ (l : List ℕ). l ++ c) first.rest ∙ append_assoc b0 a c

pub held_then : {a c b0 b1 b2 : List ℕ} {old mid new : Option (List ℕ)} → Holds a b0 b1 old mid → Holds c b1 b2 mid new → Holds (a ++ c) b0 b2 old new
held_then {a = a} {c = c} {b0 = b0} {b1 = b1} first second = record {
  holds = λ had told.
      let f = first.holds had told in
      sent_then (b0 ++ a) (b0 ++ (a ++ c)) (b1 ++ c) f (second.holds (had ++ f.sent) f.told) (seam a b0 b1 c f);
}

-- lines more, of which some may fail
pub gathers_then : {T : Type 0} {a c b0 b1 b2 : List ℕ} {old mid new : Option (List ℕ)} (r : Result T DumpRefusal) → Holds a b0 b1 old mid → Gathers c b1 b2 mid new r → Gathers (a ++ c) b0 b2 old new r
gathers_then {a = a} {c = c} {b0 = b0} {b1 = b1} r first second = record {
  done = on_ok_weaker r (λ done. (held_then first (record { holds = done })).holds) second.done;
  part = λ had told.
      let f = first.holds had told in
      let s = second.part (had ++ f.sent) f.told in
      (length f.sent + s.0, sent_then (b0 ++ a) (take (length f.sent + s.0) (b0 ++ (a ++ c))) (take s.0 (b1 ++ c)) f s.1 (sym (take-append-add f.sent (b1 ++ c) s.0) ∙ ap (take (length f.sent + s.0)) (seam a b0 b1 c f)));
}

pub gathers_held : {a b0 b1 : List ℕ} {old new : Option (List ℕ)} {T : Type 0} (x : T) (r : Result T DumpRefusal) → r ≡ Ok x → Gathers a b0 b1 old new r → Holds a b0 b1 old new
gathers_held x (Ok y) is g = record { holds = g.done }
gathers_held x (Err e) is g = cc

all_of : (l : List ℕ) → take (length l) l ≡ l
all_of l = ap (take (length l)) (sym (append-nil l)) ∙ take-append_seam l []

-- it ended early, and more lines would have followed
pub gathers_cut : {T U : Type 0} {a b0 b1 : List ℕ} {old new : Option (List ℕ)} (c : List ℕ) (was : Result U DumpRefusal) (r : Result T DumpRefusal) → IsErr r → Gathers a b0 b1 old new was → Gathers (a ++ c) b0 b1 old new r
gathers_cut c was (Ok x) is g = cc
gathers_cut {a = a} {b0 = b0} {b1 = b1} {new = new} c was (Err d) is g = record {
  done = tt;
  part = λ had told.
      let cut = g.part had told in
      let n = min cut.0 (length (b0 ++ a)) in
      let same : take cut.0 (b0 ++ a) ≡ take n (b0 ++ (a ++ c)) = sym (take_min cut.0 (b0 ++ a)) ∙ sym (take-append-le n (b0 ++ a) c (omega arith)) ∙ ap (take n) (append_assoc b0 a c) in
      (n, subst (λ (l : List ℕ). IsSent had new b1 l) same cut.1);
}

pub held_gathers : {T : Type 0} {a b0 b1 : List ℕ} {old new : Option (List ℕ)} (r : Result T DumpRefusal) → Holds a b0 b1 old new → Gathers a b0 b1 old new r
held_gathers {a = a} {b0 = b0} {b1 = b1} {new = new} (Ok x) held = record {
  done = held.holds;
  part = λ had told. (length (b0 ++ a), subst (λ (l : List ℕ). IsSent had new b1 l) (sym (all_of (b0 ++ a))) (held.holds had told));
}
held_gathers {a = a} {b0 = b0} {b1 = b1} {new = new} (Err e) held = record {
  done = tt;
  part = λ had told. (length (b0 ++ a), subst (λ (l : List ℕ). IsSent had new b1 l) (sym (all_of (b0 ++ a))) (held.holds had told));
}

pub held_cut : {T : Type 0} {a b0 b1 : List ℕ} {old new : Option (List ℕ)} (c : List ℕ) (r : Result T DumpRefusal) → IsErr r → Holds a b0 b1 old new → Gathers (a ++ c) b0 b1 old new r
held_cut {a = a} {b0 = b0} {b1 = b1} {old = old} {new = new} c r is held =
    let was : Result (Unit {0}) DumpRefusal = Ok tt in
    gathers_cut c was r is (held_gathers was held)

pub gathers_same : {T : Type 0} {lines more before after : List ℕ} {old new : Option (List ℕ)} (r : Result T DumpRefusal) → lines ≡ more → Gathers lines before after old new r → Gathers more before after old new r
gathers_same {before = before} {after = after} {old = old} {new = new} r same g = subst (λ (l : List ℕ). Gathers l before after old new r) same g

pub take_twice : (k n : ℕ) (l : List ℕ) → take k (take n l) ≡ take (min k n) l
take_twice k n l = elim (cases_lt n k) [
  | inl less ↦
      let short : length (take n l) ≤ k = grind (arith, common_steps) in
      take_all k (take n l) short ∙ ap (λ (j : ℕ). take j l) (omega arith)
  | inr le ↦ take-take k n l le ∙ ap (λ (j : ℕ). take j l) (omega arith)
]

-- the rest of the text is put
all_put : {lines text : List ℕ} {old mid new : Option (List ℕ)} → Holds lines [] text old mid → ((had : List ℕ) → mid ≡ Some had → new ≡ Some (had ++ text)) → (had : List ℕ) → old ≡ Some had → new ≡ Some (had ++ lines)
all_put {text = text} held put had told =
    let s = held.holds had told in
    put (had ++ s.sent) s.told ∙ ap (λ (l : List ℕ). Some l) (append_assoc had s.sent text ∙ ap (λ (l : List ℕ). had ++ l) s.rest)

end_done : {lines text : List ℕ} {old mid new : Option (List ℕ)} {f g : ℕ} (answer result : Result (Unit {0}) DumpRefusal) → Ends answer f g result → Gathers lines [] text old mid answer → Dumps text mid new result → OnOk result ((had : List ℕ) → old ≡ Some had → new ≡ Some (had ++ lines))
end_done answer (Err e) ends g d = tt
end_done (Ok x) (Ok y) ends g d = all_put (record { holds = g.done }) d.done
end_done (Err e) (Ok y) (later, inl same) g d = cc
end_done (Err e) (Ok y) (later, inr other) g d = let h = other.0 in cc

pub dumps_all : {lines text : List ℕ} {old mid new : Option (List ℕ)} {f h : ℕ} (answer result : Result (Unit {0}) DumpRefusal) → Ends answer f h result → Gathers lines [] text old mid answer → Dumps text mid new result → Dumps lines old new result
dumps_all {lines = lines} {text = text} {new = new} answer result ends g d = record {
  done = end_done answer result ends g d;
  part = λ had told.
      let cut = g.part had told in
      let s = cut.1 in
      let last = d.part (had ++ s.sent) s.told in
      let k = length s.sent + last.0 in
      let same : s.sent ++ take last.0 text ≡ take (min k cut.0) lines = sym (take-append-add s.sent text last.0) ∙ ap (take k) s.rest ∙ take_twice k cut.0 lines in
      (min k cut.0, last.1 ∙ ap (λ (l : List ℕ). Some l) (append_assoc had s.sent (take last.0 text) ∙ ap (λ (l : List ℕ). had ++ l) same));
}

-- an answer that is passed on
pub err_same : (d e : DumpRefusal) → d ≡ e → ◌≡◌ {A = Result (Unit {0}) DumpRefusal} (Err d) (Err e)
err_same d e same = λ i. Err (same i)

pub passed_on : (e : DumpRefusal) (r : Result (Unit {0}) DumpRefusal) → IsErr r × IsErrAnd r (λ d. d ≡ e) → r ≡ Err e
passed_on e (Ok x) err = let h = err.0 in cc
passed_on e (Err d) err = ap (λ (x : DumpRefusal). Err x) err.1

pub goes_same : (s : State) → Goes s s
goes_same s = record {
  size = refl;
  tells = refl;
  tells_left = refl;
  faults = omega arith;
  writes = omega arith;
  later = omega arith;
  keeps = λ t c le left. left;
}
