-- `write` meets its contract: its tests are those of `good` for the sheet that it would write.
-- Assumes nothing.
use Rattle.std.proofs.Common.{rules, ◌≡◌, arith, inl, inr}
use Rattle.answer.specs.declared.Refusal.TheVariants as refusal
use Rattle.layout.specs.Values.{NumbersFit}
use Rattle.writer.proofs.Laws.Writing.{first_of, write_too_few, write_bad_trailer, write_bad_entries, write_too_short, write_whole}
use Rattle.writer.proofs.write.Goals as goal

pub returns-in_err-es : goal.returns-in_err-es
returns-in_err-es c =
    let fit : NumbersFit c.args.n = record { entries = omega arith; turn = omega arith } in
    let none = c.in_err-es.ensures.ok_part in
    let few = (rw none at c.get.ensures.lookup).0 in
    let named : c.in_err-es.field-0.0 ≡ refusal.SheetNotGood = let v = rw none at c.in_err-es.ensures.value in cc in
    write_too_few _ _ _ fit (elim few [ inl h ↦ absurd (omega arith) | inr h ↦ omega (arith, h, c.from.ensures) ]) _ named _ (search rules)

pub returns-in_err-when : goal.returns-in_err-when
returns-in_err-when c =
    let fit : NumbersFit c.args.n = record { entries = omega arith; turn = omega arith } in
    let found = (rw c.in_ok-es.ensures.ok_part at c.get.ensures.lookup).0 in
    let first = first_of c.args.n c.args.es.now c.in_ok-es.es.now _ c.from.ensures found.2 found.3 in
    write_bad_trailer _ _ _ fit _ first _ c.from-t.ensures _ c.good_trailer.ensures _ c.in_err-when.ensures _ (search rules)

pub returns-in_err-when-2 : goal.returns-in_err-when-2
returns-in_err-when-2 c =
    let fit : NumbersFit c.args.n = record { entries = omega arith; turn = omega arith } in
    let found = (rw c.in_ok-es.ensures.ok_part at c.get.ensures.lookup).0 in
    let first = first_of c.args.n c.args.es.now c.in_ok-es.es.now _ c.from.ensures found.2 found.3 in
    write_bad_entries _ _ _ fit _ first _ c.from-t.ensures _ c.good_trailer.ensures c.in_ok-when.ensures _ c.all_good.ensures.on_the_line c.in_err-when-2.field-0.0 (grind arith) _ (search rules)

pub returns-in_err-when-3 : goal.returns-in_err-when-3
returns-in_err-when-3 c =
    let fit : NumbersFit c.args.n = record { entries = omega arith; turn = omega arith } in
    let found = (rw c.in_ok-es.ensures.ok_part at c.get.ensures.lookup).0 in
    let first = first_of c.args.n c.args.es.now c.in_ok-es.es.now _ c.from.ensures found.2 found.3 in
    write_too_short _ _ _ fit _ first _ c.from-t.ensures _ c.good_trailer.ensures c.in_ok-when.ensures _ c.all_good.ensures.on_the_line (grind arith) _ c.in_err-when-3.ensures _ (search rules)

pub returns : goal.returns
returns c =
    let fit : NumbersFit c.args.n = record { entries = omega arith; turn = omega arith } in
    let found = (rw c.in_ok-es.ensures.ok_part at c.get.ensures.lookup).0 in
    let first = first_of c.args.n c.args.es.now c.in_ok-es.es.now _ c.from.ensures found.2 found.3 in
    write_whole _ _ _ fit _ first _ c.from-t.ensures _ c.good_trailer.ensures c.in_ok-when.ensures _ c.all_good.ensures.on_the_line (grind arith) c.in_ok-when-3.ensures _ c.put_entries.ensures _ c.put_trailer.ensures
