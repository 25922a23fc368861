-- `good::all_good` meets its contract: what is tested so far is good, and the rest is the whole (`SoFar`), also as it is on the line.
-- Assumes nothing.
use Rattle.std.proofs.Common.{arith, ◌∙◌, ◌≡◌, length, map}
use Rattle.std.proofs.lemmas.List.{length-map}
use Rattle.sheet.specs.Clauses.{in_32_bits}
use Rattle.sheet.proofs.Laws.Good.{mapped, there_in_32, begun, goes_on, stops, ended}
use Rattle.sheet.proofs.good.all_good.Goals as goal

pub loop-e-init : goal.loop-e-init
loop-e-init g c = record { given = begun _ _; on_the_line = begun _ _ }

pub returns-then-not-good_entry : goal.returns-then-not-good_entry
returns-then-not-good_entry g c =
    let read = g.E.AsEntry.read_as in
    let es = map read c.args.es.now in
    let long : length es ≡ length c.args.es.now = length-map c.args.es.now read in
    let is = c.as_entry-e.ensures ∙ mapped read c.args.es.now _ _ c.e-item.is c.loop-e-test.true in
    let is_there = there_in_32 es _ _ is (omega arith) (omega arith) in
    record {
      clauses = stops _ _ _ _ c.loop-e.invariant.given (omega arith) _ is _ c.good_entry.ensures c.if-not-good_entry.true;
      on_the_line = stops _ _ _ _ c.loop-e.invariant.on_the_line (omega (arith, length-map es in_32_bits)) _ is_there _ c.good_entry.ensures c.if-not-good_entry.true;
    }

pub loop-e-preserved : goal.loop-e-preserved
loop-e-preserved g c =
    let read = g.E.AsEntry.read_as in
    let es = map read c.args.es.now in
    let long : length es ≡ length c.args.es.now = length-map c.args.es.now read in
    let is = c.as_entry-e.ensures ∙ mapped read c.args.es.now _ _ c.e-item.is c.loop-e-test.true in
    let is_there = there_in_32 es _ _ is (omega arith) (omega arith) in
    record {
      given = goes_on _ _ _ _ c.loop-e.invariant.given (omega arith) _ is _ c.good_entry.ensures c.if-not-good_entry.false _ c.from-least.ensures;
      on_the_line =
          goes_on _ _ _ _ c.loop-e.invariant.on_the_line (omega (arith, length-map es in_32_bits)) _ is_there _ c.good_entry.ensures c.if-not-good_entry.false _ c.from-least.ensures;
    }

pub returns : goal.returns
returns g c =
    let read = g.E.AsEntry.read_as in
    let es = map read c.args.es.now in
    let long : length es ≡ length c.args.es.now = length-map c.args.es.now read in
    record {
      clauses = ended _ _ _ _ _ c.loop-e.invariant.given (omega arith);
      on_the_line = ended _ _ _ _ _ c.loop-e.invariant.on_the_line (omega (arith, length-map es in_32_bits));
    }
