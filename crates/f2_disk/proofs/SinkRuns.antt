-- Puts one after the other.
use Rattle.std.proofs.Common.{◌≡◌, ℕ, ◌+◌, List, ◌++◌, length, take, min, Option, Some, Result, Ok, Err, sym, ◌∙◌, ap, arith, append_assoc}
use Rattle.std.proofs.lemmas.List.{take-append-le, take_min}
use Rattle.std.proofs.lemmas.Result.{on_ok_weaker, on_err_weaker}
use Rattle.std.proofs.Math.Seq.{take-append-add}
use Rattle.std.specs.Prelude.{is_err, true}
use Rattle.f2_disk.specs.Sink.{Puts}

front_of : (a b : List ℕ) (n : ℕ) → take n a ≡ take (min n (length a)) (a ++ b)
front_of a b n = sym (take_min n a) ∙ sym (take-append-le (min n (length a)) a b (omega arith))

-- a put that fails, of a text that would have gone on
pub puts_cut : {T E U F : Type 0} {old mid : Option (List ℕ)} {f g : ℕ} (a b : List ℕ) (was : Result T E) (e : E) (r : Result U F) → was ≡ Err e → is_err r ≡ true → Puts a old mid f g was → Puts (a ++ b) old mid f g r
puts_cut a b (Ok x) e r is err first = cc
puts_cut a b (Err x) e (Ok y) is err first = cc
puts_cut a b (Err x) e (Err d) is err first = record {
  done = tt;
  part = λ had told. let cut = first.part had told in (min cut.0 (length a), cut.1 ∙ ap (λ (l : List ℕ). Some (had ++ l)) (front_of a b cut.0));
  later = first.later;
  failed = first.failed;
}

-- one put more
pub puts_then : {T E U F : Type 0} {old mid new : Option (List ℕ)} {f g h : ℕ} (a b : List ℕ) (was : Result T E) (x : T) (r : Result U F) → was ≡ Ok x → Puts a old mid f g was → Puts b mid new g h r → Puts (a ++ b) old new f h r
puts_then a b (Err e) x r is first second = cc
puts_then a b (Ok y) x r is first second = record {
  done = on_ok_weaker r (λ done had told. done (had ++ a) (first.done had told) ∙ ap (λ (l : List ℕ). Some l) (append_assoc had a b)) second.done;
  part = λ had told. let cut = second.part (had ++ a) (first.done had told) in (length a + cut.0, cut.1 ∙ ap (λ (l : List ℕ). Some l) (append_assoc had a (take cut.0 b) ∙ ap (λ (l : List ℕ). had ++ l) (sym (take-append-add a b cut.0))));
  later = omega (arith, first.later, second.later);
  failed = on_err_weaker r (λ rose. omega (arith, rose, first.later)) second.failed;
}
