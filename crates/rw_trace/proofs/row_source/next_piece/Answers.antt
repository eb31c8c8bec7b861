use Rattle.std.proofs.Common.{◌≡◌, ◌≤◌, ◌∷◌, ◌++◌, [], true, rules, sym, ◌∙◌, arith, subst, length-append}
use Rattle.std.specs.Result.{is_ok}
use Rattle.std.proofs.lemmas.Result.{err_from_is_err_and}
use Rattle.rw_trace.specs.Laws.{IsRow}
use Rattle.rw_trace.proofs.Piecewise.{all_more, first_all, first_more, last_more, refused_behind, rise_more, where_none, where_some}
use Rattle.rw_trace.proofs.row_source.next_piece.Goals as goal

pub returns-in_err-row-clause-refused : goal.returns-in_err-row-clause-refused
returns-in_err-row-clause-refused g c =
    let p = err_from_is_err_and c.from_residual.result c.from_residual.ensures.1 in
    let at = c.loop-source.source in
    let inv = c.loop-source.invariant in
    let e = c.in_err-row.field-0.0 in
    rw (p.1, p.2) (refused_behind (g.S.RowSource.rest c.args.source.now).ahead (g.S.RowSource.rest at).ahead c.loop-source.piece.items e inv.first c.in_err-row.ensures.refused)

pub returns-in_default-clause-all : goal.returns-in_default-clause-all
returns-in_default-clause-all g c = λ _. first_all (g.S.RowSource.rest c.args.source.now).ahead (g.S.RowSource.rest c.loop-source.source).ahead c.loop-source.piece.items c.loop-source.invariant.first (where_none c.in_default.is c.in_ok-row.ensures.none).0

pub loop-source-preserved : goal.loop-source-preserved
loop-source-preserved g c =
    let at = c.loop-source.source in
    let inv = c.loop-source.invariant in
    let ps = c.loop-source.piece.items in
    let row = c.in-Some.row in
    let told = c.in_ok-row.ensures in
    let good : is_ok c.push.result ≡ true = search rules in
    let items : c.push.new.self.items ≡ ps ++ row ∷ [] = rw good at c.push.ensures.items in
    let rising = where_some _ c.in-Some.is told.rising in
    let long = length-append ps (row ∷ []) in
    rw items (record {
      edges = told.edges ∙ inv.edges;
      most = omega (arith, long, inv.most, where_some _ c.in-Some.is told.most);
      few = omega (arith, long, c.loop-source-test.true, c.len.ensures);
      first = first_more (g.S.RowSource.rest c.args.source.now).ahead (g.S.RowSource.rest at).ahead (g.S.RowSource.rest c.next_row.new.self).ahead ps row inv.first (where_some _ c.in-Some.is told.first);
      rising = rise_more (g.S.RowSource.rest c.args.source.now).latest ps row inv.rising (subst (λ t. t ≤ row.time) inv.latest rising.0);
      latest = rising.1 ∙ sym (last_more (g.S.RowSource.rest c.args.source.now).latest ps row);
      ranges = all_more (IsRow (g.S.RowSource.rest c.args.source.now).edges) ps row inv.ranges (subst (λ n. IsRow n row) inv.edges (where_some _ c.in-Some.is told.range));
    })
