use Rattle.std.proofs.Common.{◌≡◌, ◌+◌, ◌++◌, ◌∷◌, [], sym, ap, subst, ◌∙◌, append_assoc}
use Rattle.std.specs.Prelude.{filter_map}
use Rattle.std.proofs.lemmas.Result.{on_ok_weaker}
use Rattle.f2_bytes.specs.Bytes.{numbers_below}
use Rattle.f2_files.specs.Files.{HasSlots}
use Rattle.f2_survey.specs.Slots.{Slot, slot_in_row}
use Rattle.f2_files.proofs.VisitedFiles.{slot_of_word, word-hole, word-slot}
use Rattle.f2_files.proofs.files.Files.take_word.Goals as goal

pub returns-then-address-eq0-clause-takes : goal.returns-then-address-eq0-clause-takes
returns-then-address-eq0-clause-takes g c = λ image slots told of known inside.
    subst (λ l. HasSlots image c.args.row.now.ino (slots ++ l) c.args.self.now) (sym (word-hole c.args.row.now c.args.j (sym c.word-address.ensures ∙ c.if-address-eq0.true))) inside

pub returns-clause-takes : goal.returns-clause-takes
returns-clause-takes g c = on_ok_weaker c.take.result (λ taken image slots told of known inside.
    let row = c.args.row.now in
    let j = c.args.j in
    let before = slots ++ filter_map (slot_in_row row) (numbers_below j) in
    let same : ◌≡◌ {A = Slot} (record { ino = c.ino.result; k = c.first.result + j; address = c.word-address.result; nid = c.nid.result; place = j }) (slot_of_word row j) =
    λ i. record { ino = c.ino.ensures i; k = c.first.ensures.value i + j; address = c.word-address.ensures i; nid = c.nid.ensures i; place = j } in
    subst (λ l. HasSlots image row.ino l c.take.new.self)
    (append_assoc slots (filter_map (slot_in_row row) (numbers_below j)) (slot_of_word row j ∷ []) ∙ ap (λ l. slots ++ l) (sym (word-slot row j (λ none. c.if-address-eq0.false (c.word-address.ensures ∙ none)))))
    (subst (λ (s : Slot). HasSlots image s.ino (before ++ s ∷ []) c.take.new.self) same
    (taken image before told of known (subst (λ n. HasSlots image n before c.args.self.now) (sym c.ino.ensures) inside)))) c.take.ensures.takes
