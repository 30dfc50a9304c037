use Rattle.std.proofs.Common.{vec_items, refl, arith}
use Rattle.table.specs.Records.{recorded}
use Rattle.table.specs.Looks.{size_look}
use Rattle.table.proofs.Puts.{asked, is_twice, is_full, is_added, one_lawful, one_look}
use Rattle.table.proofs.rows.Rows.put.Goals as goal

pub returns-then-is_some-clause-value : goal.returns-then-is_some-clause-value
returns-then-is_some-clause-value c =
    let a = asked c.args.identifier (recorded c.args.symbol c.args.arguments.now) _ _ c.new.ensures c.in_ok-row.ensures.ok_part c.as_slice.ensures c.position.ensures c.is_some.ensures in
    is_twice c.args.self.now.limit a c.if-is_some.true

pub returns-then-count-self-clause-value : goal.returns-then-count-self-clause-value
returns-then-count-self-clause-value c =
    let a = asked c.args.identifier (recorded c.args.symbol c.args.arguments.now) _ _ c.new.ensures c.in_ok-row.ensures.ok_part c.as_slice.ensures c.position.ensures c.is_some.ensures in
    is_full c.args.self.now.limit a c.if-is_some.false (omega (arith, c.count.ensures, c.if-count-self.true))

pub push_reserved-requires : goal.push_reserved-requires
push_reserved-requires c =
    let rows = c.args.self.now in
    omega (arith, size_look (vec_items rows.items) rows.ok.0, rows.items.ok.0, c.count.ensures, c.if-count-self.false, rows.ok)

pub invariant_of-self : goal.invariant_of-self
invariant_of-self c =
    let rows = c.args.self.now in
    let a = asked c.args.identifier (recorded c.args.symbol c.args.arguments.now) _ _ c.new.ensures c.in_ok-row.ensures.ok_part c.as_slice.ensures c.position.ensures c.is_some.ensures in
    let pushed = c.push_reserved.ensures in
    record {
      ok = (
        one_lawful a c.if-is_some.false pushed.items rows.ok.0,
        omega (arith, size_look (vec_items rows.items) rows.ok.0, rows.items.ok.0, c.count.ensures, c.if-count-self.false, pushed.len),
        omega (arith, pushed.capacity, rows.ok),
      );
    }

pub returns : goal.returns
returns c =
    let a = asked c.args.identifier (recorded c.args.symbol c.args.arguments.now) _ _ c.new.ensures c.in_ok-row.ensures.ok_part c.as_slice.ensures c.position.ensures c.is_some.ensures in
    let pushed = c.push_reserved.ensures in
    record {
      value = is_added c.args.self.now.limit a c.if-is_some.false (omega (arith, c.count.ensures, c.if-count-self.false));
      after = one_look a c.if-is_some.false pushed.items;
      items = (c.in_ok-row.row, pushed.items, a.under, a.means);
      limit = refl;
    }
