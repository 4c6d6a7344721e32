-- No node of the image that a commit makes was written after its checkpoint.
use Rattle.std.proofs.Common.{◌≡◌, ℕ, ◌+◌, ◌*◌, ◌%◌, ◌^◌, ◌<◌, Bool, true, false, cond, not, ◌&&◌, Option, refl, sym, ap, ◌∙◌, arith}
use Rattle.std.specs.Prelude.{◌==◌, unwrap_or, bit_or, nat_le, nat_lt}
use Rattle.std.proofs.lemmas.Bool.{and_from, eqb-true, eq-eqb, ne_eqb, lt-ltb, le-leb, false≢true}
use Rattle.std.proofs.lemmas.Nat.{or_mod, or_comm}
use Rattle.f2_bytes.specs.declared.layout.Layout.{Layout}
use Rattle.f2_bytes.specs.Bytes.{Block, Image, block_at, has_bit}
use Rattle.f2_bytes.specs.Superblock.{layout, is_main}
use Rattle.f2_bytes.specs.Checkpoint.{head, log, checkpoint_ver, checkpoint_checksum, has_crc_recovery, has_nocrc_recovery, ckpt_flags}
use Rattle.f2_bytes.specs.Checkpoint.{Log as FormatLog}
use Rattle.f2_bytes.specs.Node.{footer_cp_ver}
use Rattle.f2_bytes.specs.RollForward.{chain_length, chain_address, is_chain_node, is_of_version}
use Rattle.f2_bytes.proofs.Finds.{find-least}
use Rattle.f2_pack.proofs.ValidHeads.{head_facts, head_of_valid}
use Rattle.f2_pack.specs.Logs.{log_of}
use Rattle.f2_pack.specs.Written.{written}
use Rattle.f2_view.specs.Mounted.{Mounted, layout_in}
use Rattle.f2_change.specs.declared.change.Change.{Change}
use Rattle.f2_change.specs.Carried.{next_address}
use Rattle.f2_change.specs.Change.{log_at, next_version}
use Rattle.f2_change.specs.Writes.{Prepared, committed}
use Rattle.f2_change.proofs.CarriedGiven.{Given}
use Rattle.f2_change.proofs.CarriedAreas.{read_main}
use Rattle.f2_change.proofs.CarriedPack.{own, same_layout, head_is, old_head_is, flags, new_version, logs_given}

-- the next version differs from that of the block in its low half
next_differs : (v : ℕ) (b : Block) → footer_cp_ver b % 2 ^ 32 ≡ next_version v b % 2 ^ 32 → ⊥
next_differs v b e = go ((v + 1) % 2 ^ 32 == footer_cp_ver b % 2 ^ 32) refl e
  where
    go : (t : Bool) → ((v + 1) % 2 ^ 32 == footer_cp_ver b % 2 ^ 32) ≡ t → footer_cp_ver b % 2 ^ 32 ≡ (cond {A = ℕ} t (v + 2) (v + 1)) % 2 ^ 32 → ⊥
    go true is e = let same = eqb-true ((v + 1) % 2 ^ 32) (footer_cp_ver b % 2 ^ 32) is in absurd (omega (arith, same, e))
    go false is e = false≢true (sym is ∙ eq-eqb ((v + 1) % 2 ^ 32) (footer_cp_ver b % 2 ^ 32) (sym e))

-- a version with a checksum above it has that version in its low half
low_half : (v checksum : ℕ) → bit_or v (2 ^ 32 * checksum) % 2 ^ 32 ≡ v % 2 ^ 32
low_half v checksum =
    let none : 2 ^ 32 * checksum % 2 ^ 32 ≡ 0 = omega arith in
    or_mod v (2 ^ 32 * checksum) 32
    ∙ ap (bit_or (v % 2 ^ 32)) none
    ∙ or_comm (v % 2 ^ 32) 0

third : (a b x y z : Bool) → a ≡ false → b ≡ true → cond a x (cond b y z) ≡ y
third a b x y z first second = λ i. cond (first i) x (cond (second i) y z)

last_fails : (a v : Bool) → v ≡ false → (a && v) ≡ false
last_fails true v fails = fails
last_fails false v fails = refl

-- so with the flags that are written that block is not of this version
not_of_version : (head b : Block) (old : ℕ) → ckpt_flags head ≡ 0x41 → checkpoint_ver head ≡ next_version old b → is_of_version head b ≡ false
not_of_version head b old flags version =
    third (has_nocrc_recovery head) (has_crc_recovery head)
    (footer_cp_ver b % 2 ^ 32 == checkpoint_ver head % 2 ^ 32)
    (footer_cp_ver b == bit_or (checkpoint_ver head) (2 ^ 32 * checkpoint_checksum head))
    (footer_cp_ver b == checkpoint_ver head)
    (ap (λ f. has_bit f 9) flags) (ap (λ f. has_bit f 6) flags)
    ∙ ne_eqb (footer_cp_ver b) (bit_or (checkpoint_ver head) (2 ^ 32 * checkpoint_checksum head))
    (λ e. next_differs old b (ap (λ n. n % 2 ^ 32) e ∙ low_half (checkpoint_ver head) (checkpoint_checksum head) ∙ ap (λ n. n % 2 ^ 32) version))

module _ (image : Image) (m : Mounted) (c : Change) (r : Prepared) (g : Given image m c r) where
  abbrev new : Image
  new = committed r image

  abbrev l : Layout
  l = layout_in m

  abbrev next : ℕ
  next = next_address l (log_at c.logs 4)

  log_is : log (head new) 4 ≡ log_of (log_at c.logs 4)
  log_is = logs_given image m c r g 4 (omega arith)

  inside : is_main l next ≡ true
  inside =
      let facts = head_facts r.layout (written r.pack 0) (head_of_valid r.layout (written r.pack) g.prepared.valid) in
      let same : log (written r.pack 0) 4 ≡ log_of (log_at c.logs 4) = ap (λ (b : Block). log b 4) (sym (head_is image m c r g)) ∙ log_is in
      let segment : (log_at c.logs 4).segno < l.segments =
      omega (arith, facts.segments 4 (omega arith), ap (λ (x : FormatLog). x.segment) same, ap (λ (k : Layout). k.segments) g.follows.layout) in
      let offset : (log_at c.logs 4).offset < 512 =
      omega (arith, (facts.logs 4 (omega arith)).offset, ap (λ (x : FormatLog). x.offset) same) in
      and_from (nat_le l.main next) (nat_lt next (l.main + 512 * l.segments))
      (le-leb l.main next (omega arith)) (lt-ltb next (l.main + 512 * l.segments) (omega (arith, segment, offset)))

  version_over : checkpoint_ver (head new) ≡ next_version (checkpoint_ver m.chosen.head) (block_at new next)
  version_over = new_version image m c r g ∙ g.version ∙ ap (next_version (checkpoint_ver m.chosen.head)) (sym (read_main image m c r g next inside))

  pub version : checkpoint_ver (head new) ≡ next_version (checkpoint_ver (head image)) (block_at new (next_address (layout image) (log_at c.logs 4)))
  version =
      version_over ∙ λ i. next_version (checkpoint_ver (old_head_is image m c r g i)) (block_at new (next_address (sym (own image m c r g) i) (log_at c.logs 4)))

  start : chain_address new 0 ≡ next
  unfolding chain_address
  start =
      (λ i. ((same_layout image m c r g ∙ own image m c r g) i).main + 512 * (log_is i).segment + (log_is i).offset)

  first : is_chain_node new 0 ≡ false
  first =
      last_fails _ (is_of_version (head new) (block_at new (chain_address new 0)))
      (ap (λ k. is_of_version (head new) (block_at new k)) start ∙ not_of_version (head new) (block_at new next) (checkpoint_ver m.chosen.head) (flags image m c r g) version_over)

  pub no_chain : chain_length new ≡ 0
  unfolding chain_length
  no_chain =
      ap (λ (o : Option ℕ). unwrap_or o 0)
      (find-least (λ n. not (is_chain_node new n)) (512 * (layout new).segments + 1) 0 (omega arith) (ap not first) (λ k low. absurd (omega (arith, low))))
