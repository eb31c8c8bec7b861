use Rattle.std.proofs.Common.{rules, arith, ◌^◌, ◌<◌, get_or}
use Rattle.std.specs.Int.{trailing_zeros, w64}
use Rattle.std.proofs.lemmas.Nat.Bits.{bit_at-trailing_zeros}
use Rattle.rw_pending.proofs.Marking.{first_mark, word_some, word_within}
use Rattle.rw_pending.proofs.marks.Marks.first.Goals as goal

pub bounds-self-inside-at : goal.bounds-self-inside-at
bounds-self-inside-at c =
    let m = c.self.inside in
    let fits : m.summary < 2 ^ 64 = search rules in
    let word = bit_at-trailing_zeros w64 m.summary (omega arith) fits in
    word_within m.summary m.words (trailing_zeros w64 m.summary) c.self.invariant c.self.told word.0 word.1

pub returns-clause-marked : goal.returns-clause-marked
returns-clause-marked c =
    let m = c.self.inside in
    let fits : m.summary < 2 ^ 64 = search rules in
    let a = trailing_zeros w64 m.summary in
    let word = bit_at-trailing_zeros w64 m.summary (omega arith) fits in
    let within = word_within m.summary m.words a c.self.invariant c.self.told word.0 word.1 in
    let w = get_or m.words a 0 in
    let also : get_or m.words a 0 < 2 ^ 64 = search rules in
    let bit = bit_at-trailing_zeros w64 w (word_some m.summary m.words a c.self.invariant word.0 word.1) also in
    let found = first_mark m.summary m.words a (trailing_zeros w64 w) c.self.invariant within word.2 bit.0 bit.1 bit.2 in
    rw (← c.self.view_is) (found.within, found.set)

pub returns-clause-first : goal.returns-clause-first
returns-clause-first c = λ k l.
    let m = c.self.inside in
    let fits : m.summary < 2 ^ 64 = search rules in
    let a = trailing_zeros w64 m.summary in
    let word = bit_at-trailing_zeros w64 m.summary (omega arith) fits in
    let within = word_within m.summary m.words a c.self.invariant c.self.told word.0 word.1 in
    let w = get_or m.words a 0 in
    let also : get_or m.words a 0 < 2 ^ 64 = search rules in
    let bit = bit_at-trailing_zeros w64 w (word_some m.summary m.words a c.self.invariant word.0 word.1) also in
    let found = first_mark m.summary m.words a (trailing_zeros w64 w) c.self.invariant within word.2 bit.0 bit.1 bit.2 in
    rw (← c.self.view_is) (found.first k l)
