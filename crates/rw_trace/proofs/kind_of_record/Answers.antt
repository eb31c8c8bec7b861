-- The kind that a record has is the one that it writes.
use Rattle.std.proofs.Common.{◌≡◌, Some, None, rules}
use Rattle.csv.specs.Records.{fields_of}
use Rattle.rw_trace.specs.Trace.{kind_at}
use Rattle.rw_trace.specs.declared.Kind.TheVariants.{Get, Purge}
use Rattle.rw_trace.proofs.Laws.{kind-lacks, kind-law}
use Rattle.rw_trace.proofs.kind_of_record.Goals as goal

pub returns-in-Second-clause-law : goal.returns-in-Second-clause-law
unfolding kind_at
returns-in-Second-clause-law c =
    let f = fields_of c.args.fields.now in
    let has : kind_at c.args.version f ≡ Some Get = search rules in
    kind-law c.args.version f Get has

pub returns-in-Second-2-clause-law : goal.returns-in-Second-2-clause-law
unfolding kind_at
returns-in-Second-2-clause-law c =
    let f = fields_of c.args.fields.now in
    let has : kind_at c.args.version f ≡ Some Purge = search rules in
    kind-law c.args.version f Purge has

pub returns-in-Second-3-clause-wrong : goal.returns-in-Second-3-clause-wrong
unfolding kind_at
returns-in-Second-3-clause-wrong c =
    let f = fields_of c.args.fields.now in
    let has : kind_at c.args.version f ≡ None = search rules in
    kind-lacks c.args.version f has
