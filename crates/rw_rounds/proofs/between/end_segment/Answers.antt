use Rattle.std.proofs.Common.{length, map, sym, subst, ◌<◌}
use Rattle.rw_rounds.proofs.Underway.{none_missing, joined_are, same_long}
use Rattle.rw_rounds.proofs.between.end_segment.Goals as goal

pub join-requires-clause-some : goal.join-requires-clause-some
join-requires-clause-some g c = subst (λ n. 0 < n) (sym (same_long c.in_ok-lists.lists.items c.args.between.shares.items c.in_ok-lists.ensures)) c.requires.some

pub join-requires-clause-complete : goal.join-requires-clause-complete
join-requires-clause-complete g c =
    let lists = c.in_ok-lists.lists.items in
    let same = c.in_ok-lists.ensures in
    none_missing c.args.between c.requires.some c.requires.stands.0 c.requires.stands.1 (map (λ l. l.items) lists) same (length lists) (same_long lists c.args.between.shares.items same)

pub returns : goal.returns
returns g c =
    let lists = c.in_ok-lists.lists.items in
    let same = c.in_ok-lists.ensures in
    let all = c.in_ok-processes.processes.items in
    record {
      same = λ x stands. record {
        model_is = stands.model_is;
        processes_are = joined_are c.args.between c.requires.some x stands (map (λ l. l.items) lists) same (length lists) (same_long lists c.args.between.shares.items same) all c.in_ok-processes.ensures.count c.in_ok-processes.ensures.each;
        letters_are = stands.letters_are;
        collected_is = stands.collected_is;
        starts_are = stands.starts_are;
        initial_are = stands.initial_are;
      };
    }
