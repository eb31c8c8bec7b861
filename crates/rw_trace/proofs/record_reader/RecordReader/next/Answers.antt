use Rattle.std.proofs.Common.{◌≡◌, ◌∙◌, true, false, eqb-true, length, rules, subst, sym}
use Rattle.std.proofs.lemmas.List.{nil_from_length}
use Rattle.csv.specs.Records.{fields_of}
use Rattle.rw_trace.specs.Ahead.{still_ahead}
use Rattle.rw_trace.specs.Pieces.{Gives, GivesNone}
use Rattle.rw_trace.proofs.Ahead.{found-behind, none-there, nothing-left}
use Rattle.rw_trace.proofs.Piecewise.{where_none}
use Rattle.rw_trace.proofs.record_reader.RecordReader.next.Goals.{in-Lines+in_ok-row+in_default-2+else-is_empty+in_ok-hand_over, in_default}
use Rattle.rw_trace.proofs.record_reader.RecordReader.next.Goals as goal

pub returns-then-is_empty-clause-found : goal.returns-then-is_empty-clause-found
returns-then-is_empty-clause-found g c =
    let count = eqb-true _ _ (sym c.is_empty.ensures ∙ c.if-is_empty.true) in
    let none : length c.next_row.new.line.items ≡ 0 = search (rules, count) in
    let empty = nil_from_length c.next_row.new.line.items none in
    subst (λ s. GivesNone (still_ahead g.R.Read.remaining s)) (sym c.in-Lines.is) (nothing-left _ _ c.next_row.new.line.items (where_none c.in_default-2.is c.in_ok-row.ensures.none) empty)

pub returns-then-branch-clause-found : goal.returns-then-branch-clause-found
returns-then-branch-clause-found g c =
    let gives = rw c.if-branch.true at c.in_ok-next_record.ensures.gives in
    elim c.match-self.branch [
      | in-Lines+in_ok-row+in_default-2+else-is_empty+in_ok-hand_over w ↦
          let read = where_none w.in_default-2.is w.in_ok-row.ensures.none in
          let rem = g.R.Read.remaining in
          subst (λ s. Gives (still_ahead rem s) (fields_of c.next_record.new.self.fields) (still_ahead rem c.next_record.new.self.source)) (sym w.in-Lines.is)
          (found-behind rem c.next_record.new.self.source (fields_of c.next_record.new.self.fields) w.in-Lines.reader w.next_row.new.reader w.next_row.new.line.items w.hand_over.new.self.source true read w.in_ok-hand_over.ensures.handed (rw w.self-is at gives))
      | in_default w ↦ rw w.self-is at gives
    ]

pub returns-else-branch-clause-found : goal.returns-else-branch-clause-found
returns-else-branch-clause-found g c =
    let none = rw c.if-branch.false at c.in_ok-next_record.ensures.gives in
    elim c.match-self.branch [
      | in-Lines+in_ok-row+in_default-2+else-is_empty+in_ok-hand_over w ↦
          let read = where_none w.in_default-2.is w.in_ok-row.ensures.none in
          let rem = g.R.Read.remaining in
          subst (λ s. GivesNone (still_ahead rem s)) (sym w.in-Lines.is)
          (found-behind rem c.next_record.new.self.source (fields_of c.next_record.new.self.fields) w.in-Lines.reader w.next_row.new.reader w.next_row.new.line.items w.hand_over.new.self.source false read w.in_ok-hand_over.ensures.handed (rw w.self-is at none))
      | in_default w ↦ none-there g.R.Read.remaining c.args.self.now.source (fields_of c.next_record.new.self.fields) c.args.self.now.source w.in_default.not-Lines (rw w.self-is at none)
    ]
