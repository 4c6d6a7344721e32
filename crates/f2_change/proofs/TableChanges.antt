-- Tables that a change is put into, and their blocks as they are filled.
use Rattle.std.proofs.Common.{◌≡◌, ℕ, ◌+◌, ◌*◌, ◌<◌, Bool, true, false, cond, List, [], ◌∷◌, ◌++◌, map, take, length, get_or, Option, Some, refl, sym, ap, subst, ◌∙◌, arith}
use Rattle.std.specs.Prelude.{◌==◌, option_map, filter, not}
use Rattle.std.specs.Option.{option_or}
use Rattle.std.proofs.lemmas.Bool.{eq-eqb, ne_eqb, eqb-true, false≢true}
use Rattle.std.proofs.lemmas.List.{take_more, map-append, length-map}
use Rattle.std.proofs.lemmas.List.Elements.{filter-append}
use Rattle.f2_bytes.specs.declared.layout.Layout.{Layout}
use Rattle.f2_bytes.specs.Bytes.{Block, Image}
use Rattle.f2_bytes.specs.Journal.{sit_entry_at}
use Rattle.f2_pack.specs.declared.checkpoint.Log.{Log}
use Rattle.f2_sum.specs.Records.{nat_entry as format_nat_entry, sit_entry as format_sit_entry}
use Rattle.f2_sum.specs.declared.records.NatEntry.{NatEntry as HeldNatEntry}
use Rattle.f2_sum.specs.declared.records.SitEntry.{SitEntry as HeldSitEntry}
use Rattle.f2_tables.specs.Tables.{NatTable, SitTable, SetsNat, SetsSit, nat_newer, sit_newer, sit_in}
use Rattle.f2_change.specs.Change.{given, is_filled, stored_sums}
use Rattle.f2_change.specs.TableBlocks.{ChangesNat, ChangesSit, IsSitBlock, AreEach}
use Rattle.f2_change.proofs.HeadRows.{get_or-any}
use Rattle.f2_change.proofs.Lookups.{given-none, given-more}

-- one more entry was set
set_more : {H F : Type 0} (f : H → F) (pairs : List (ℕ × H)) (i : ℕ) (w : ℕ × H) (old mid new : ℕ → Option F) → i < length pairs → w ≡ get_or pairs i w → ((n : ℕ) → mid n ≡ option_or (option_map f (given (take i pairs) n)) (old n)) → ((n : ℕ) → new n ≡ cond (n == w.0) (Some (f w.1)) (mid n)) → (n : ℕ) → new n ≡ option_or (option_map f (given (take (i + 1) pairs) n)) (old n)
set_more {H} {F} f pairs i w old mid new below is so_far sets n =
    sets n ∙ go (w.0 == n) refl ∙ ap (λ o. option_or (option_map f o) (old n)) (sym (given-more pairs n i w below is))
  where
    go : (t : Bool) → (w.0 == n) ≡ t → cond (n == w.0) (Some (f w.1)) (mid n) ≡ option_or (option_map f (cond t (Some w.1) (given (take i pairs) n))) (old n)
    go true hit = ap (λ b. cond b (Some (f w.1)) (mid n)) (eq-eqb n w.0 (sym (eqb-true w.0 n hit)))
    go false miss = ap (λ b. cond b (Some (f w.1)) (mid n)) (ne_eqb n w.0 (λ e. false≢true (sym miss ∙ eq-eqb w.0 n (sym e)))) ∙ so_far n

pub nat-none : (entries : List (ℕ × HeldNatEntry)) (t : NatTable) → ChangesNat (take 0 entries) t t
nat-none entries t = record { layout = refl; bits = refl; newer = λ n. ap (λ (o : Option HeldNatEntry). option_or (option_map format_nat_entry o) (nat_newer t n)) (sym (given-none {T = HeldNatEntry} n)) }

pub nat-more : (d : ℕ × HeldNatEntry) (entries : List (ℕ × HeldNatEntry)) (i : ℕ) (old mid new : NatTable) → i < length entries → ChangesNat (take i entries) old mid → SetsNat (get_or entries i d).0 (format_nat_entry (get_or entries i d).1) mid new → ChangesNat (take (i + 1) entries) old new
nat-more d entries i old mid new below so_far sets = record {
  layout = sets.layout ∙ so_far.layout;
  bits = sets.bits ∙ so_far.bits;
  newer = set_more format_nat_entry entries i (get_or entries i d) (nat_newer old) (nat_newer mid) (nat_newer new) below (get_or-any entries i d below) so_far.newer sets.newer;
}

pub sit-none : (entries : List (ℕ × HeldSitEntry)) (t : SitTable) → ChangesSit (take 0 entries) t t
sit-none entries t = record { layout = refl; bits = refl; newer = λ n. ap (λ (o : Option HeldSitEntry). option_or (option_map format_sit_entry o) (sit_newer t n)) (sym (given-none {T = HeldSitEntry} n)) }

pub sit-more : (d : ℕ × HeldSitEntry) (entries : List (ℕ × HeldSitEntry)) (i : ℕ) (old mid new : SitTable) → i < length entries → ChangesSit (take i entries) old mid → SetsSit (get_or entries i d).0 (format_sit_entry (get_or entries i d).1) mid new → ChangesSit (take (i + 1) entries) old new
sit-more d entries i old mid new below so_far sets = record {
  layout = sets.layout ∙ so_far.layout;
  bits = sets.bits ∙ so_far.bits;
  newer = set_more format_sit_entry entries i (get_or entries i d) (sit_newer old) (sit_newer mid) (sit_newer new) below (get_or-any entries i d below) so_far.newer sets.newer;
}

-- a block of the segment table that was made in this layout
pub sit-block : (l : Layout) (t : SitTable) (image : Image) (k : ℕ) (b : Block) → t.layout ≡ l → ((j : ℕ) → j < 55 → 55 * k + j < t.layout.segments → sit_entry_at b (74 * j) ≡ sit_in t image (55 * k + j)) → IsSitBlock l.segments (sit_in t image) k b
sit-block l t image k b same read = record { entries = λ j low inside. read j low (subst (λ (x : Layout). 55 * k + j < x.segments) (sym same) inside) }

-- one more block was made
each_push : (is : ℕ → Block → Type 0) (ks : List ℕ) (ws : List (ℕ × Block)) (k : ℕ) (w : ℕ × Block) → length ks ≡ length ws → AreEach is ks ws → is k w.1 → AreEach is (ks ++ k ∷ []) (ws ++ w ∷ [])
each_push is [] [] k w same each holds = (holds, tt)
each_push is [] (x ∷ ws) k w same each holds = absurd (omega (arith, same))
each_push is (n ∷ ks) [] k w same each holds = absurd (omega (arith, same))
each_push is (n ∷ ks) (x ∷ ws) k w same each holds = (each.0, each_push is ks ws k w (omega (arith, same)) each.1 holds)

length_same : (ks : List ℕ) (ws : List (ℕ × Block)) (at : ℕ → ℕ) → map (λ (w : ℕ × Block). w.0) ws ≡ map at ks → length ks ≡ length ws
length_same ks ws at same = sym (length-map ks at) ∙ ap length (sym same) ∙ length-map ws (λ (w : ℕ × Block). w.0)

pub blocks-more : (is : ℕ → Block → Type 0) (ks : List ℕ) (i d : ℕ) (ws new : List (ℕ × Block)) (w : ℕ × Block) (at : ℕ → ℕ) → i < length ks → map (λ (w : ℕ × Block). w.0) ws ≡ map at (take i ks) → AreEach is (take i ks) ws → is (get_or ks i d) w.1 → new ≡ ws ++ w ∷ [] → AreEach is (take (i + 1) ks) new
blocks-more is ks i d ws new w at below addresses each holds grown =
    subst (λ l. AreEach is l new) (sym (take_more ks i d below)) (subst (λ l. AreEach is (take i ks ++ get_or ks i d ∷ []) l) (sym grown) (each_push is (take i ks) ws (get_or ks i d) w (length_same (take i ks) ws at addresses) each holds))

pub addresses-more : (ks : List ℕ) (i d : ℕ) (ws new : List (ℕ × Block)) (w : ℕ × Block) (at : ℕ → ℕ) → i < length ks → map (λ (w : ℕ × Block). w.0) ws ≡ map at (take i ks) → w.0 ≡ at (get_or ks i d) → new ≡ ws ++ w ∷ [] → map (λ (w : ℕ × Block). w.0) new ≡ map at (take (i + 1) ks)
addresses-more ks i d ws new w at below so_far is grown =
    ap (map (λ (w : ℕ × Block). w.0)) grown ∙ map-append (λ (w : ℕ × Block). w.0) ws (w ∷ [])
    ∙ (λ i. so_far i ++ is i ∷ []) ∙ sym (map-append at (take i ks) (get_or ks i d ∷ [])) ∙ ap (map at) (sym (take_more ks i d below))

-- one more summary block was looked at
pub stored-none : (l : Layout) (logs : List Log) (sums : List (ℕ × Block)) → stored_sums l logs (take 0 sums) ≡ []
unfolding stored_sums
stored-none l logs sums = refl

abbrev is_stored : List Log → ℕ × Block → Bool
is_stored logs v = not (is_filled logs v.0)

abbrev placed : Layout → ℕ × Block → ℕ × Block
placed l v = (l.ssa + v.0, v.1)

stored_one : (l : Layout) (w : ℕ × Block) (t : Bool) → map (placed l) (cond (not t) (w ∷ []) []) ≡ cond t [] ((l.ssa + w.0, w.1) ∷ [])
stored_one l w true = refl
stored_one l w false = refl

pub stored-more : (l : Layout) (logs : List Log) (sums : List (ℕ × Block)) (i : ℕ) (w : ℕ × Block) → i < length sums → w ≡ get_or sums i w → stored_sums l logs (take (i + 1) sums) ≡ stored_sums l logs (take i sums) ++ cond (is_filled logs w.0) [] ((l.ssa + w.0, w.1) ∷ [])
unfolding stored_sums
stored-more l logs sums i w below is =
    ap (λ xs. map (placed l) (filter (is_stored logs) xs)) (take_more sums i w below ∙ ap (λ (x : ℕ × Block). take i sums ++ x ∷ []) (sym is))
    ∙ ap (map (placed l)) (filter-append (is_stored logs) (take i sums) (w ∷ []))
    ∙ map-append (placed l) (filter (is_stored logs) (take i sums)) (filter (is_stored logs) (w ∷ []))
    ∙ ap (λ xs. map (placed l) (filter (is_stored logs) (take i sums)) ++ xs) (stored_one l w (is_filled logs w.0))
