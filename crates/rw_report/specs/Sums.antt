-- What the edges, the origins and all caches of a configuration have counted together, and what a table tells of them.
use Rattle.std.specs.Prelude.{◌+◌, ◌*◌, ◌++◌, codes}
use Rattle.rw_vt.specs.Words.{Count}
use Rattle.rw_trace.specs.Words.{Text}
use Rattle.rw_photo.specs.declared.config.Config.{Config}
use Rattle.rw_photo.specs.declared.counters.Counters.{Counters}
use Rattle.rw_photo.specs.Counts.{minus}
use Rattle.rw_report.specs.declared.columns.Caches.{Caches}
use Rattle.rw_report.specs.declared.columns.Caches.TheVariants.{Edges, Origins, All}
use Rattle.rw_report.specs.declared.columns.Measured.{Measured}
use Rattle.rw_report.specs.declared.sums.Sums.{Sums}
use Rattle.rw_report.specs.Columns.{caches_name, measured_columns}

-- what these caches have counted together
abbrev pub counted_by : Sums → Caches → Counters
counted_by s Edges = s.edges
counted_by s Origins = s.origins
counted_by s All = s.all

-- what is measured of n edges that have counted so much together: they ask the origins, and never the backend
abbrev pub edges_measured : Config → Count → Counters → Measured
edges_measured c n k =
    record {
      flash_bytes = n * c.edge_shape.blocks * c.edge_shape.block;
      written_bytes = k.writes * c.edge_shape.block;
      backend_requests = 0;
      backend_bytes = 0;
    }

-- what is measured of n origins: they ask the backend once for each miss, for the bytes that the miss asks for
abbrev pub origins_measured : Config → Count → Counters → Measured
origins_measured c n k =
    record {
      flash_bytes = n * c.origin_shape.blocks * c.origin_shape.block;
      written_bytes = k.writes * c.origin_shape.block;
      backend_requests = k.misses;
      backend_bytes = minus k.request_bytes k.hit_bytes;
    }

-- what is measured of edges and origins together
abbrev pub both_measured : Measured → Measured → Measured
both_measured edges origins =
    record origins {
      flash_bytes = edges.flash_bytes + origins.flash_bytes;
      written_bytes = edges.written_bytes + origins.written_bytes;
    }

-- what is measured of these caches
abbrev pub measured_by : Config → Sums → Caches → Measured
measured_by c s Edges = edges_measured c c.edges s.edges
measured_by c s Origins = origins_measured c c.origins s.origins
measured_by c s All =
    both_measured (edges_measured c c.edges s.edges) (origins_measured c c.origins s.origins)

-- the columns of these caches, from their name on, with the end of their line
abbrev pub sums_line : Config → Sums → Caches → Text
sums_line c s caches =
    caches_name caches
    ++ measured_columns (counted_by s caches) (measured_by c s caches)
    ++ codes "\n"
