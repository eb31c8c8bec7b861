use Rattle.std.proofs.Common.{sym, subst, rules}
use Rattle.std.specs.Prelude.{IfSome}
use Rattle.rw_trace.proofs.Lines.{records-bare}
use Rattle.rw_trace.specs.Laws.{WriteRows}
use Rattle.rw_trace.proofs.plain.plain_text.Goals as goal

pub returns-clause-written : goal.returns-clause-written
returns-clause-written c =
    subst (λ rs. IfSome c.plain_rows.result (λ v. WriteRows c.args.version c.args.edges rs v.items)) (sym (records-bare c.args.bytes.now (search rules))) c.plain_rows.ensures.written
