-- The limits of an opening of ports, each by its number.
use Rattle.rw_vt.specs.Words.{Count}

-- the most workers that rings join
abbrev pub most_ports : Count
most_ports = 16

-- the most slots of a ring
abbrev pub most_slots : Count
most_slots = 4096
