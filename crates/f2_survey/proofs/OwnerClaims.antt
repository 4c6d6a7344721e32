-- What a claim on a block makes of the owners.
use Rattle.std.proofs.Common.{◌≡◌, ◌⊎◌, inl, inr, ℕ, ◌+◌, ◌-◌, ◌*◌, ◌^◌, ◌≤◌, ◌==◌, ◌&&◌, Bool, true, false, not, nat_le, nat_lt, cond, List, [], ◌∷◌, ◌++◌, length, Option, Some, None, refl, sym, ap, subst, ◌∙◌, ⊎_elim, arith}
use Rattle.std.specs.Option.{option_or, option_map_or}
use Rattle.std.proofs.lemmas.Bool.{cases_eq, eq-eqb, eqb-true, ne_eqb, and_parts, and_from, not_from_false, leb-true, ltb-true, false≢true}
use Rattle.f2_bytes.specs.declared.layout.Layout.{Layout}
use Rattle.f2_bytes.specs.Bytes.{Image, numbers_below}
use Rattle.f2_bytes.specs.Superblock.{layout, is_main, IsInOrder}
use Rattle.f2_bytes.specs.Journal.{NatEntry}
use Rattle.f2_bytes.specs.NodeAddressTable.{nat}
use Rattle.f2_bytes.specs.Check.{is_address, nids, nid_with, nodes_with}
use Rattle.f2_survey.specs.OwnerTables.{OwnerTable, LiesIn, has_block, is_nobody, owner_kept, first_at, slots_at, owner_by, owner_among, IsSole, HasOwners}
use Rattle.f2_survey.specs.Slots.{Slot}
use Rattle.f2_survey.specs.declared.owners.Owner.TheVariants as owner
use Rattle.f2_survey.proofs.Found.{find_push, count_push, count-none, count-some}

pub has_block-is : (l : Layout) (o : OwnerTable) (a : ℕ) → LiesIn l o → has_block o a ≡ is_main l a
has_block-is l o a lies = λ i. nat_le (lies.main i) a && nat_lt a (lies.main i + 512 * lies.segments i)

-- a main address is that of a block, and not reserved
pub main-address : (image : Image) (a : ℕ) → IsInOrder (layout image) → is_main (layout image) a ≡ true → is_address a ≡ true
main-address image a order main =
    let parts = and_parts (nat_le (layout image).main a) (nat_lt a ((layout image).main + 512 * (layout image).segments)) main in
    let low = leb-true (layout image).main a parts.0 in
    let high = ltb-true a ((layout image).main + 512 * (layout image).segments) parts.1 in
    and_from (not (a == 0)) (not (a == 2 ^ 32 - 1))
    (not_from_false (a == 0) (ne_eqb a 0 (λ e. omega (arith, e, low, order.main))))
    (not_from_false (a == 2 ^ 32 - 1) (ne_eqb a (2 ^ 32 - 1) (λ e. omega (arith, e, high, order.inside, order.few))))

pub first_at-push : (slots : List Slot) (s : Slot) (a : ℕ) → first_at (slots ++ s ∷ []) a ≡ option_or (first_at slots a) (cond (s.address == a) (Some s) None)
unfolding first_at
first_at-push slots s a = find_push (λ (t : Slot). t.address == a) slots s

pub slots_at-push : (slots : List Slot) (s : Slot) (a : ℕ) → slots_at (slots ++ s ∷ []) a ≡ slots_at slots a + cond (s.address == a) 1 0
unfolding slots_at
slots_at-push slots s a = count_push (λ (t : Slot). t.address == a) slots s

slots_at-none : (slots : List Slot) (a : ℕ) → first_at slots a ≡ None → slots_at slots a ≡ 0
unfolding first_at slots_at
slots_at-none slots a e = count-none (λ (t : Slot). t.address == a) slots e

slots_at-some : (slots : List Slot) (a : ℕ) (s : Slot) → first_at slots a ≡ Some s → 1 ≤ slots_at slots a
unfolding first_at slots_at
slots_at-some slots a s e = count-some (λ (t : Slot). t.address == a) slots s e

nodes_with-none : (image : Image) (a : ℕ) → nid_with image a ≡ None → nodes_with image a ≡ 0
unfolding nid_with nodes_with
nodes_with-none image a e = count-none (λ nid. option_map_or (λ (n : NatEntry). n.address == a) (nat image nid) false) (numbers_below (nids image)) e

nodes_with-some : (image : Image) (a nid : ℕ) → nid_with image a ≡ Some nid → 1 ≤ nodes_with image a
unfolding nid_with nodes_with
nodes_with-some image a nid e = count-some (λ nid. option_map_or (λ (n : NatEntry). n.address == a) (nat image nid) false) (numbers_below (nids image)) nid e

-- nobody has the block just where no slot and no node has it
record Free (node : Option ℕ) (first : Option Slot) : Type 0 where
  nid : node ≡ None
  slot : first ≡ None

nobody-among : (nid : Option ℕ) (slot : Option Slot) → is_nobody (owner_by nid slot) ≡ true → Free nid slot
nobody-among None None e = record { nid = refl; slot = refl }
nobody-among (Some nid) None e = absurd (false≢true e)
nobody-among nid (Some s) e = absurd (false≢true e)

somebody-among : (nid : Option ℕ) (slot : Option Slot) (n m : ℕ) → is_nobody (owner_by nid slot) ≡ false
    → ((x : ℕ) → nid ≡ Some x → 1 ≤ n) → ((s : Slot) → slot ≡ Some s → 1 ≤ m) → 1 ≤ m + n
somebody-among None None n m e node slot = absurd (false≢true (sym e))
somebody-among (Some nid) None n m e node slot = let h = node nid refl in omega (arith, h)
somebody-among nid (Some s) n m e node slot = let h = slot s refl in omega (arith, h)

-- the owner after one more slot: that slot where nobody had the block, else the same
owner-push : (nid : Option ℕ) (slot : Option Slot) (b : Bool) (s : Slot) → (b ≡ true → Free nid slot)
    → owner_by nid (option_or slot (cond b (Some s) None)) ≡ cond b (owner.Slot s.nid s.place) (owner_by nid slot)
owner-push nid None true s free = refl
owner-push nid None false s free = refl
owner-push nid (Some t) true s free = absurd (cc (free refl).slot)
owner-push nid (Some t) false s free = refl

module _ (image : Image) (slots : List Slot) (s : Slot) (address : is_address s.address ≡ true) where
  pub claim-broken : (o : OwnerTable) → HasOwners image slots o → o.spoiled ≡ true → HasOwners image (slots ++ s ∷ []) o
  claim-broken o has broken =
      let b = has.breaks broken in
      let more = slots_at-push slots s b.address in
      record {
        in_order = has.in_order;
        lies = has.lies;
        right = λ sound. absurd (false≢true (sym sound ∙ broken));
        sole = λ sound. absurd (false≢true (sym sound ∙ broken));
        breaks = λ _. record {
          address = b.address;
          names = b.names;
          has = omega (arith, more, b.has);
          breaks = ⊎_elim (λ outside. inl outside) (λ twice. inr (omega (arith, more, twice))) b.breaks;
        };
      }

  -- the slot's block is not free
  pub claim-breaks : (o new : OwnerTable) → HasOwners image slots o → o.spoiled ≡ false → (has_block o s.address && is_nobody (owner_kept o s.address)) ≡ false
      → new.main ≡ o.main → length new.tables ≡ length o.tables → new.spoiled ≡ true → HasOwners image (slots ++ s ∷ []) new
  claim-breaks o new has sound taken main tables broken = record {
    in_order = has.in_order;
    lies = record { main = main ∙ has.lies.main; segments = tables ∙ has.lies.segments };
    right = λ sound. absurd (false≢true (sym sound ∙ broken));
    sole = λ sound. absurd (false≢true (sym sound ∙ broken));
    breaks = λ _. record { address = s.address; names = address; has = one; breaks = outside (is_main (layout image) s.address) refl };
  }
    where
      here : slots_at (slots ++ s ∷ []) s.address ≡ slots_at slots s.address + 1
      here = slots_at-push slots s s.address ∙ (λ i. slots_at slots s.address + cond {A = ℕ} (eq-eqb s.address s.address refl i) 1 0)

      one : 1 ≤ slots_at (slots ++ s ∷ []) s.address
      one = omega (arith, here)

      outside : (b : Bool) → is_main (layout image) s.address ≡ b
          → (is_main (layout image) s.address ≡ false) ⊎ (2 ≤ slots_at (slots ++ s ∷ []) s.address + nodes_with image s.address)
      outside false e = inl e
      outside true e =
          let somebody : is_nobody (owner_among image slots s.address) ≡ false =
          ap is_nobody (sym (has.right sound s.address e)) ∙ sym (ap (λ b. b && is_nobody (owner_kept o s.address)) (has_block-is (layout image) o s.address has.lies ∙ e)) ∙ taken in
          let h = somebody-among (nid_with image s.address) (first_at slots s.address) (nodes_with image s.address) (slots_at slots s.address) somebody
          (nodes_with-some image s.address) (slots_at-some slots s.address) in
          inr (omega (arith, h, here))

  -- it is free, and is that slot's from then on
  pub claim-first : (o new : OwnerTable) → HasOwners image slots o → o.spoiled ≡ false → (has_block o s.address && is_nobody (owner_kept o s.address)) ≡ true
      → new.main ≡ o.main → length new.tables ≡ length o.tables → new.spoiled ≡ o.spoiled
      → ((a : ℕ) → o.main ≤ a → owner_kept new a ≡ cond (a == s.address) (owner.Slot s.nid s.place) (owner_kept o a))
      → HasOwners image (slots ++ s ∷ []) new
  claim-first o new has sound free main tables same kept = record {
    in_order = has.in_order;
    lies = record { main = main ∙ has.lies.main; segments = tables ∙ has.lies.segments };
    right = λ _. right;
    sole = λ _. sole;
    breaks = λ broken. absurd (false≢true (sym sound ∙ sym same ∙ broken));
  }
    where
      parts : (has_block o s.address ≡ true) × (is_nobody (owner_kept o s.address) ≡ true)
      parts = and_parts (has_block o s.address) (is_nobody (owner_kept o s.address)) free

      in_main : is_main (layout image) s.address ≡ true
      in_main = sym (has_block-is (layout image) o s.address has.lies) ∙ parts.0

      nobody : Free (nid_with image s.address) (first_at slots s.address)
      nobody = nobody-among (nid_with image s.address) (first_at slots s.address) (ap is_nobody (sym (has.right sound s.address in_main)) ∙ parts.1)

      at_address : (a : ℕ) → (s.address == a) ≡ true → Free (nid_with image a) (first_at slots a)
      at_address a e = subst (λ (n : ℕ). Free (nid_with image n) (first_at slots n)) (eqb-true s.address a e) nobody

      flip : (a : ℕ) → (a == s.address) ≡ (s.address == a)
      flip a = ⊎_elim (λ e. eq-eqb a s.address e ∙ sym (eq-eqb s.address a (sym e))) (λ n. ne_eqb a s.address n ∙ sym (ne_eqb s.address a (λ e. n (sym e)))) (cases_eq a s.address)

      right : (a : ℕ) → is_main (layout image) a ≡ true → owner_kept new a ≡ owner_among image (slots ++ s ∷ []) a
      right a inside =
          let low = leb-true (layout image).main a (and_parts (nat_le (layout image).main a) (nat_lt a ((layout image).main + 512 * (layout image).segments)) inside).0 in
          let main = has.lies.main in
          kept a (omega (arith, low, main))
          ∙ (λ i. cond (flip a i) (owner.Slot s.nid s.place) (has.right sound a inside i))
          ∙ sym (ap (owner_by (nid_with image a)) (first_at-push slots s a) ∙ owner-push (nid_with image a) (first_at slots a) (s.address == a) s (at_address a))

      sole : (a : ℕ) → is_address a ≡ true → 1 ≤ slots_at (slots ++ s ∷ []) a → IsSole image (slots ++ s ∷ []) a
      sole a names some = go (s.address == a) refl
        where
          go : (b : Bool) → (s.address == a) ≡ b → IsSole image (slots ++ s ∷ []) a
          go true e =
              let alone = at_address a e in
              let slot = slots_at-none slots a alone.slot in
              let node = nodes_with-none image a alone.nid in
              let more : slots_at (slots ++ s ∷ []) a ≡ slots_at slots a + 1 = slots_at-push slots s a ∙ (λ i. slots_at slots a + cond {A = ℕ} (e i) 1 0) in
              record { main = subst (λ (n : ℕ). is_main (layout image) n ≡ true) (eqb-true s.address a e) in_main; one = omega (arith, slot, node, more) }
          go false e =
              let more : slots_at (slots ++ s ∷ []) a ≡ slots_at slots a + 0 = slots_at-push slots s a ∙ (λ i. slots_at slots a + cond {A = ℕ} (e i) 1 0) in
              let before = has.sole sound a names (omega (arith, more, some)) in
              let one = before.one in
              record { main = before.main; one = omega (arith, more, one) }

-- a slot that names no block changes nothing
pub claim-none : (image : Image) (slots : List Slot) (s : Slot) (o : OwnerTable) → is_address s.address ≡ false → HasOwners image slots o → HasOwners image (slots ++ s ∷ []) o
claim-none image slots s o none has = record {
  in_order = has.in_order;
  lies = has.lies;
  right = λ sound a inside. has.right sound a inside ∙ ap (owner_by (nid_with image a)) (sym (first a (main-address image a has.in_order inside)));
  sole = λ sound a names some.
      let same = as_before a names in
      let before = has.sole sound a names (omega (arith, same, some)) in
      let one = before.one in
      record { main = before.main; one = omega (arith, same, one) };
  breaks = λ broken.
      let b = has.breaks broken in
      let more = slots_at-push slots s b.address in
      record {
        address = b.address;
        names = b.names;
        has = omega (arith, more, b.has);
        breaks = ⊎_elim (λ outside. inl outside) (λ twice. inr (omega (arith, more, twice))) b.breaks;
      };
}
  where
    other : (a : ℕ) → is_address a ≡ true → (s.address == a) ≡ false
    other a names = ne_eqb s.address a (λ e. false≢true (sym none ∙ ap is_address e ∙ names))

    or_nothing : (o : Option Slot) → option_or o None ≡ o
    or_nothing None = refl
    or_nothing (Some t) = refl

    first : (a : ℕ) → is_address a ≡ true → first_at (slots ++ s ∷ []) a ≡ first_at slots a
    first a names = first_at-push slots s a ∙ (λ i. option_or (first_at slots a) (cond {A = Option Slot} (other a names i) (Some s) None)) ∙ or_nothing (first_at slots a)

    as_before : (a : ℕ) → is_address a ≡ true → slots_at (slots ++ s ∷ []) a ≡ slots_at slots a + 0
    as_before a names = slots_at-push slots s a ∙ (λ i. slots_at slots a + cond {A = ℕ} (other a names i) 1 0)
