use Rattle.std.proofs.Common.{sym, ◌∙◌, ◌++◌, codes}
use Rattle.rw_trace.proofs.Lines.{header-feed, header-return, kind_header-feed, kind_header-return, starts-longer}
use Rattle.rw_trace.proofs.plain.header_line.Goals as goal

pub returns-then-starts_with : goal.returns-then-starts_with
returns-then-starts_with c =
    let starts = sym c.starts_with.ensures.value ∙ c.if-starts_with.true in
    record { here = header-feed c.args.bytes.now starts; longer = λ more. header-feed (c.args.bytes.now ++ more) (starts-longer c.args.bytes.now (codes "time,edge,object,size\n") more starts) }

pub returns-then-starts_with-2 : goal.returns-then-starts_with-2
returns-then-starts_with-2 c =
    let starts = sym c.starts_with-else-starts_with.ensures.value ∙ c.if-starts_with-2.true in
    record { here = header-return c.args.bytes.now starts; longer = λ more. header-return (c.args.bytes.now ++ more) (starts-longer c.args.bytes.now (codes "time,edge,object,size\r\n") more starts) }

pub returns-then-starts_with-3 : goal.returns-then-starts_with-3
returns-then-starts_with-3 c =
    let starts = sym c.starts_with-else-starts_with-2.ensures.value ∙ c.if-starts_with-3.true in
    record { here = kind_header-feed c.args.bytes.now starts; longer = λ more. kind_header-feed (c.args.bytes.now ++ more) (starts-longer c.args.bytes.now (codes "time,edge,object,size,kind\n") more starts) }

pub returns-then-starts_with-4 : goal.returns-then-starts_with-4
returns-then-starts_with-4 c =
    let starts = sym c.starts_with-else-starts_with-3.ensures.value ∙ c.if-starts_with-4.true in
    record { here = kind_header-return c.args.bytes.now starts; longer = λ more. kind_header-return (c.args.bytes.now ++ more) (starts-longer c.args.bytes.now (codes "time,edge,object,size,kind\r\n") more starts) }
