-- A row at fault is the first fault of the trace, and a good row goes behind those read so far.
use Rattle.std.proofs.Common.{inl, inr, ◌≡◌, ◌∙◌, ◌∷◌, ◌++◌, [], true, refl, arith, rules, append_assoc}
use Rattle.std.specs.Result.{is_ok}
use Rattle.std.proofs.lemmas.Result.{err_from_is_err_and}
use Rattle.std.proofs.lemmas.Grind.{common_steps}
use Rattle.csv.specs.Records.{fields_of}
use Rattle.rw_trace.specs.Unread.{unread}
use Rattle.rw_trace.proofs.Laws.{none-written, write-more}
use Rattle.rw_trace.proofs.rows_left.Goals as goal

pub loop-at-init : goal.loop-at-init
loop-at-init c = rw c.new-rows.ensures.items (record {
  steady = c.requires;
  count = refl;
  written = ([], refl, none-written c.args.version c.args.edges);
})

pub loop-at-preserved : goal.loop-at-preserved
loop-at-preserved c =
    let inv = c.loop-at.invariant in
    let f = fields_of c.next_record.new.fields in
    let found : c.in_ok-next_record.field-0 ≡ true = search rules in
    let gave : unread c.loop-at.reader ≡ f ∷ unread c.next_record.new.reader = rw found at c.in_ok-next_record.ensures.gives in
    let good : is_ok c.push.result ≡ true = search rules in
    let items = rw good at c.push.ensures.items in
    let (body, left, written) = inv.written in
    record {
      steady = c.in_ok-next_record.ensures.steady found;
      count = rw items (grind (arith, common_steps));
      written = (body ++ (f ∷ []), left ∙ rw (gave, append_assoc) refl, rw items (write-more c.args.version c.args.edges body c.loop-at.rows.items f c.in_ok-one.one written c.in_ok-one.ensures.law));
    }

pub returns-in_err-one-clause-first : goal.returns-in_err-one-clause-first
returns-in_err-one-clause-first c =
    let p = err_from_is_err_and c.from_residual-in_err-one.result c.from_residual-in_err-one.ensures.1 in
    let f = fields_of c.next_record.new.fields in
    let found : c.in_ok-next_record.field-0 ≡ true = search rules in
    let gave : unread c.loop-at.reader ≡ f ∷ unread c.next_record.new.reader = rw found at c.in_ok-next_record.ensures.gives in
    let (body, left, written) = c.loop-at.invariant.written in
    rw (p.1, p.2) (λ _. record {
      good = body;
      bad = f;
      rest = unread c.next_record.new.reader;
      parts = left ∙ rw gave refl;
      rows = c.loop-at.rows.items;
      written = written;
      told = inl (rw c.loop-at.invariant.count (c.loop-at-test.true, c.in_err-one.ensures.wrong));
    })

pub returns-then-branch-clause-first : goal.returns-then-branch-clause-first
returns-then-branch-clause-first c =
    let f = fields_of c.next_record-2.new.fields in
    let found : c.in_ok-next_record-2.field-0 ≡ true = search rules in
    let gave : unread c.loop-at.reader ≡ f ∷ unread c.next_record-2.new.reader = rw found at c.in_ok-next_record-2.ensures.gives in
    let (body, left, written) = c.loop-at.invariant.written in
    λ _. record {
      good = body;
      bad = f;
      rest = unread c.next_record-2.new.reader;
      parts = left ∙ rw gave refl;
      rows = c.loop-at.rows.items;
      written = written;
      told = inr (omega arith, refl);
    }
