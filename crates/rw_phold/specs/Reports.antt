-- What a run of PHOLD comes to.
use Rattle.std.specs.Prelude.{◌+◌, ◌%◌, ◌^◌, List, fold}
use Rattle.rw_phold.specs.declared.phold.Holder.{Holder}
use Rattle.rw_phold.specs.declared.report.Report.{Report}
use Rattle.rw_phold.specs.Draws.{drawn}

-- nothing is added up yet
abbrev pub no_report_yet : Report
no_report_yet = record { events = 0; checksum = 0 }

-- one process more: its events, and what it drew and has summed, mixed into the checksum
abbrev pub with_holder : Report → Holder → Report
with_holder r s = record {
  events = (r.events + s.events) % 2 ^ 64;
  checksum = drawn ((drawn ((r.checksum + s.random) % 2 ^ 64) + s.sum) % 2 ^ 64);
}

-- what processes in these states come to
abbrev pub report_of : List Holder → Report
report_of holders = fold with_holder no_report_yet holders
