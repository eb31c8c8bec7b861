-- What the name of a line has of the rows that it joins.
use Rattle.std.specs.Prelude.{◌≡◌, ◌⊎◌, unwrap_or}
use Rattle.rw_plot.specs.declared.sample.Configuration.{Configuration}
use Rattle.rw_plot.specs.declared.sample.Sample.{Sample}

-- the numbers of the configuration of a row; all are 0 in a table of one configuration
abbrev pub sizes_of_row : Sample → Configuration
sizes_of_row s = unwrap_or s.configuration (record {
  sections = 0;
  block = 0;
  edge_blocks = 0;
  origin_blocks = 0;
  edges = 0;
  origins = 0;
  up = 0;
  down = 0;
  back = 0;
})

-- the numbers in the name of a line are those of a row, but for at most one of the two block counts
abbrev pub AreSizesOnLine : Configuration → Configuration → Type 0
AreSizesOnLine row line =
    (line ≡ record row { edge_blocks = line.edge_blocks })
    ⊎ (line ≡ record row { origin_blocks = line.origin_blocks })
