-- Each row that is read goes behind those before it.
use Rattle.std.proofs.Common.{◌≡◌, true, arith, rules}
use Rattle.std.specs.Result.{is_ok}
use Rattle.std.proofs.lemmas.Grind.{common_steps}
use Rattle.rw_trace.proofs.Lines.{all-read, none-read, one-read}
use Rattle.rw_trace.proofs.plain.plain_rows.Goals as goal

pub loop-at-init : goal.loop-at-init
loop-at-init c = rw c.new-rows.ensures.items (record { read = none-read c.args.version c.args.edges c.args.bytes.now c.args.from; few = omega arith })

pub loop-at-preserved : goal.loop-at-preserved
loop-at-preserved c =
    let good : is_ok c.push.result ≡ true = search rules in
    let items = rw good at c.push.ensures.items in
    rw items (record {
      read = one-read c.args.version c.args.edges c.args.bytes.now c.args.from c.loop-at.at c.loop-at.rows.items c.in_ok-row.row c.in_ok-row.next c.loop-at.invariant.read c.in_ok-row.ensures;
      few = grind (arith, common_steps, c.if-len-most.false);
    })

pub returns-clause-written : goal.returns-clause-written
returns-clause-written c = all-read c.args.version c.args.edges c.args.bytes.now c.args.from c.loop-at.at c.loop-at.rows.items c.loop-at.invariant.read (omega (arith, c.loop-at-test.false))
