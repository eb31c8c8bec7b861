use Rattle.std.proofs.Common.{rules, ◌≡◌, ◌++◌, ◌∙◌, ap, arith, length, length-append}
use Rattle.rw_photo.specs.Cache.{waiting_for}
use Rattle.rw_photo.specs.Events.{Happening, happening}
use Rattle.rw_photo.proofs.Reversing.{takes_back}
use Rattle.rw_photo.proofs.photo.PhotoVtModel.execute.Goals as goal

pub returns-clause-links : goal.returns-clause-links
returns-clause-links c =
    let s = c.args.state.now in
    let e = c.args.event.now in
    let told = c.args.out.now.items in
    let h : Happening = happening c.args.self.now.config c.args.process s e.time e.body in
    let grown : length c.happen.new.out.items ≡ length (told ++ h.sent) = ap length c.in_ok-happen.ensures.sent in
    takes_back h s c.happen.new.state e told c.happen.new.out.items _
    c.requires.well_formed.ascending c.requires.well_formed.sends c.requires.well_formed.counters
    (search rules) (search rules)
    (omega (arith, c.len.ensures, c.len-told.ensures, grown, length-append told h.sent))
    (search rules)
    (c.waiting-waiting.ensures ∙ ap (waiting_for s) c.object.ensures)
