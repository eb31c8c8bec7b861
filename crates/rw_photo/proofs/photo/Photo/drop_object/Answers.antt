use Rattle.std.proofs.Common.{rules, ◌+◌}
use Rattle.rw_photo.specs.Events.{clears_of}
use Rattle.rw_photo.specs.Storing.{purge_if_stored}
use Rattle.rw_photo.proofs.Happenings.{served}
use Rattle.rw_photo.proofs.photo.Photo.drop_object.Goals as goal

pub returns : goal.returns
returns g c =
    let s = c.args.state.now in
    let k = c.args.self.now.config in
    let o = c.args.object in
    served s c.purge.new.self c.count_sends.new.self o _ (purge_if_stored k.reclaim s.queue o) (clears_of k c.args.process s.sends (c.args.time + k.down) o c.args.edge) _ _ _ _ c.requires.well_formed.ascending
    c.in_ok-purge.ensures.state c.count_sends.ensures (search rules) (search rules) c.in_ok-purge.ensures.leads c.in_ok-purge.ensures.short
