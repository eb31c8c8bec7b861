-- What a table says of the trace itself: how many rows it has, how long it is, and a number that tells traces apart.
use Rattle.std.specs.Prelude.{◌+◌, ◌-◌, ◌*◌, ◌%◌, ◌^◌, ℕ, List, length, max, min}
use Rattle.std.specs.List.{fold}
use Rattle.rw_vt.specs.Words.{Time}
use Rattle.rw_trace.specs.declared.Kind.{Kind}
use Rattle.rw_trace.specs.declared.Kind.TheVariants.{Get, Purge}
use Rattle.rw_trace.specs.declared.Row.{Row}
use Rattle.rw_sweep.specs.declared.facts.Facts.{Facts}

-- digests are below it: the greatest prime below 2^32
abbrev pub digest_modulus : ℕ
digest_modulus = 4294967291

-- a digest with one number more
abbrev pub absorbed : ℕ → ℕ → ℕ
absorbed digest n = (digest * 1000003 + n % digest_modulus) % digest_modulus

abbrev pub kind_number : Kind → ℕ
kind_number Get = 0
kind_number Purge = 1

-- a digest with the numbers of one row more
abbrev pub digest_with : ℕ → Row → ℕ
digest_with digest row =
    absorbed (absorbed (absorbed (absorbed (absorbed digest row.time) row.edge) row.object)
    row.size) (kind_number row.kind)

-- the polynomial hash of the numbers of some rows, in their order: no cryptographic digest
abbrev pub digest_of : List Row → ℕ
digest_of rows = fold digest_with 0 rows

-- the earliest time of a row; of none, the greatest number of 64 bits
abbrev pub earliest : List Row → Time
earliest rows = fold (λ time row. min time row.time) (2 ^ 64 - 1) rows

-- the latest time of a row; of none 0
abbrev pub latest : List Row → Time
latest rows = fold (λ time row. max time row.time) 0 rows

-- what is said of a trace
abbrev pub facts_of : List Row → Facts
facts_of rows =
    record {
      rows = length rows;
      first = earliest rows;
      last = latest rows;
      digest = digest_of rows;
    }

-- the ticks from the earliest row to the latest; 0 of none
abbrev pub span_of : Facts → Time
span_of facts = facts.last - facts.first

-- the same, of the rows from a time on
abbrev pub span_from : Facts → Time → Time
span_from facts start = facts.last - max facts.first start
