-- The caches of a configuration, at work on a trace.
use Rattle.std.specs.Prelude.{◌+◌, List, map}
use Rattle.std.specs.List.{range_with_len}
use Rattle.rw_vt.specs.Order.{event_cmp}
use Rattle.rw_vt.specs.System.{System, map_from}
use Rattle.rw_trace.specs.declared.Row.{Row}
use Rattle.rw_photo.specs.declared.body.Body.{Body}
use Rattle.rw_photo.specs.declared.config.Config.{Config}
use Rattle.rw_photo.specs.contracts.body.BodyOrd.TheImpl as order
use Rattle.rw_photo.specs.Cache.{Cache, start}
use Rattle.rw_photo.specs.Events.{is_valid, event_of, step}

-- each cache as it starts
abbrev pub starts_of : Config → List Cache
starts_of c = map (start c) (range_with_len 0 (c.edges + c.origins))

-- each cache starts with nothing, the rows of the trace are the events from outside, and each event does its step
abbrev pub simulation : Config → List Row → System Cache Body
simulation c rows =
    record {
      rules = record { order = event_cmp order.ghosts.cmp; step = step c; valid = is_valid c };
      starts = starts_of c;
      initial = map_from 0 event_of rows;
    }
